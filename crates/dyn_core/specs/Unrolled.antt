-- Programs whose iterations are written out. (The unrolling of loops of the TACO article.)
use Rattle.std.specs.Prelude.{◌≡◌, ◌↔◌, ℕ, zero, suc, Bool, true, false, List, [], ◌∷◌, IsTrue}
use Rattle.std.specs.List.{list_all}
use Rattle.taco_unit.specs.declared.kind.Kind.{Kind}
use Rattle.heap_core.specs.Posed.{Posed}
use Rattle.dyn_core.specs.declared.prog.Prog.{Prog, fold-Prog}
use Rattle.dyn_core.specs.declared.prog.Prog.TheOpen.{Prog-F}
use Rattle.dyn_core.specs.declared.prog.Prog.TheVariants.{Act, Test, Seq, Choice}
use Rattle.dyn_core.specs.declared.state.DynState.{DynState}
use Rattle.dyn_core.specs.Runs.{RunUpTo}
use Rattle.dyn_core.specs.Kinds.{is_kinded}

-- no iteration is left, by cases on the program's form
abbrev pub starless_step : Prog-F Bool → Bool
starless_step (Prog-F.Act a) = true
starless_step (Prog-F.Test x b) = true
starless_step (Prog-F.Seq parts) = list_all (λ b. b) parts
starless_step (Prog-F.Choice parts) = list_all (λ b. b) parts
starless_step (Prog-F.Star body) = false

-- the program has no iteration
abbrev pub starless : Prog → Bool
starless = fold-Prog Bool starless_step

-- nothing, or one turn and then more
abbrev pub turn_or_none : Prog → Prog → Prog
turn_or_none body more = Choice (Seq [] ∷ Seq (body ∷ more ∷ []) ∷ [])

-- at most n turns, written out
abbrev pub repeated : ℕ → Prog → Prog
repeated zero body = Seq []
repeated (suc n) body = turn_or_none body (repeated n body)

-- by cases on the program's form
abbrev pub unrolled_step : ℕ → Prog-F Prog → Prog
unrolled_step n (Prog-F.Act a) = Act a
unrolled_step n (Prog-F.Test x b) = Test x b
unrolled_step n (Prog-F.Seq parts) = Seq parts
unrolled_step n (Prog-F.Choice parts) = Choice parts
unrolled_step n (Prog-F.Star body) = repeated n body

-- the program, with at most n turns of each iteration written out
abbrev pub unrolled : ℕ → Prog → Prog
unrolled n = fold-Prog Prog (unrolled_step n)

-- what `unroll` gives: no iteration is left; its runs, whatever bound they are given, are the runs of the program
-- in which each entry of an iteration takes at most so many turns; it has all kinds that the program has
pub record IsUnrolled (loops : ℕ) (prog written : Prog) : Type 0 where
  pub starless : IsTrue (starless written)
  pub runs : (p : Posed) (m : ℕ) (s t : DynState) → RunUpTo p m written s t ↔ RunUpTo p loops prog s t
  pub kinds : (p : Posed) (kinds : List Kind) → IsTrue (is_kinded p kinds prog) → IsTrue (is_kinded p kinds written)
  pub value : written ≡ unrolled loops prog
