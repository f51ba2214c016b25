use Rattle.std.proofs.Common.{◌≡◌, ℕ, ◌<◌, ◌≤◌, length, get_or, bit_and}
use Rattle.tuple_sets.proofs.words.meet.Given as goal

abbrev pub invariant-loop-at : goal.invariant-loop-at
invariant-loop-at l = record {
  long : length l.set ≡ length l.other;
  done : (k : ℕ) → k < l.at → get_or l.set k 0 ≡ bit_and (get_or l.initial.set k 0) (get_or l.other k 0);
  left : (k : ℕ) → l.at ≤ k → get_or l.set k 0 ≡ get_or l.initial.set k 0;
}
