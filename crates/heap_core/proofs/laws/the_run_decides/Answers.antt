use Rattle.std.proofs.Common.{◌≡◌, Bool, true, false, not, ◌&&◌, refl}
use Rattle.std.specs.Prelude.{if◌then◌else◌}
use Rattle.std.proofs.lemmas.Bool.{false≢true}
use Rattle.heap_core.specs.declared.judged.Judged.{Judged}
use Rattle.heap_core.specs.declared.judged.Judged.TheVariants.{Outside, NotAsked}
use Rattle.heap_core.specs.Judge.{judged_run, run_of, leaves_before, is_asked}
use Rattle.heap_core.proofs.laws.the_run_decides.Goals as goal

third_line : (leaves asked : Bool) (run : Judged) → (not leaves && asked) ≡ true → (if leaves then Outside else (if not asked then NotAsked else run)) ≡ run
third_line true asked run is = absurd (false≢true is)
third_line false true run is = refl
third_line false false run is = absurd (false≢true is)

pub returns : goal.returns
returns c = λ p s decides. third_line (leaves_before p s) (is_asked p s) (judged_run p s (run_of p s)) decides
