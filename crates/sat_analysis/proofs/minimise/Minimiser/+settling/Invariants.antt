use Rattle.std.proofs.Common.{◌≡◌, ◌≢◌, ℕ, ◌+◌, ◌*◌, true, take}
use Rattle.sat_watch.specs.Literals.{has}
use Rattle.sat_analysis.specs.Settled.{IsSettled, Covers, AllStay, KeepsWhatItImplies}
use Rattle.sat_analysis.proofs.minimise.Minimiser.+settling.Given as goal

abbrev pub decreases-settle : goal.decreases-settle
decreases-settle l = 4 * l.depth + 2

abbrev pub decreases-derive : goal.decreases-derive
decreases-derive l = 4 * l.depth + 1

abbrev pub decreases-settle_others : goal.decreases-settle_others
decreases-settle_others l = 4 * l.depth + 3

abbrev pub decreases-settle_reason : goal.decreases-settle_reason
decreases-settle_reason l = 4 * l.depth + 4

abbrev pub invariant-settle_others-loop-other : goal.invariant-settle_others-loop-other
invariant-settle_others-loop-other l = record {
  settled : IsSettled l.trail l.notes.levels.items l.self;
  implies : KeepsWhatItImplies l.watches l.trail l.notes l.initial.self l.self;
  stay : AllStay l.initial.self l.self;
  covers : (other : ℕ) → has (take l.other-index l.clause) other ≡ true → other ≢ l.forced → Covers l.self other;
}
