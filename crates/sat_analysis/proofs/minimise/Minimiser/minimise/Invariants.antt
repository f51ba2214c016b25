use Rattle.std.proofs.Common.{◌≡◌, ℕ, ◌<◌, List, true, take}
use Rattle.sat_watch.specs.Literals.{has}
use Rattle.sat_watch.specs.Trail.{literals}
use Rattle.sat_analysis.specs.Learnt.{level_of}
use Rattle.sat_analysis.specs.Noted.{IsNoted}
use Rattle.sat_analysis.specs.Settled.{IsSettled, Covers, Implies}
use Rattle.sat_analysis.proofs.minimise.Minimiser.minimise.Given as goal

abbrev pub invariant-loop-lit : goal.invariant-loop-lit
invariant-loop-lit l = record {
  settled : IsSettled l.trail l.notes.levels.items l.self;
  implies : (known : List (List ℕ)) → IsNoted known l.watches l.trail l.notes → Implies known (literals l.trail.entries) l.self;
  covers : (lit : ℕ) → has (take l.lit-index l.line.lits) lit ≡ true → level_of l.notes.levels.items lit < l.trail.level → Covers l.self lit;
}
