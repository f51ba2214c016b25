use Rattle.std.proofs.Common.{◌≡◌, ℕ, ◌<◌, length, get_or}
use Rattle.tuple_sets.specs.Numbered.{word_count}
use Rattle.bounds_table.specs.State.{IsLater}
use Rattle.bounds_table.specs.Rule.{IsOf}
use Rattle.bounds_table.specs.Plays.{IsRight}
use Rattle.bounds_table.proofs.bounds.Bounds.copy_into.Given as goal

abbrev pub invariant-loop-at : goal.invariant-loop-at
invariant-loop-at l = record {
  of : IsOf l.self l.pass;
  right : IsRight l.self.problem l.pass.known;
  later : IsLater l.initial.pass.known l.pass.known;
  only : l.pass.known ≡ record l.initial.pass.known { seen = l.pass.known.seen };
  long : length l.copy ≡ word_count l.self.problem;
  done : (k : ℕ) → k < l.at → get_or l.copy k 0 ≡ get_or l.pass.known.seen k 0;
}
