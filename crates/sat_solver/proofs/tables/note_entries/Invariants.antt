use Rattle.std.proofs.Common.{◌≡◌, take, length}
use Rattle.sat_watch.specs.Trail.{literals}
use Rattle.sat_analysis.specs.Walk.{AreLeveled}
use Rattle.sat_solver.specs.Search.{AreSet}
use Rattle.sat_solver.proofs.tables.note_entries.Given as goal

abbrev pub invariant-loop-place : goal.invariant-loop-place
invariant-loop-place l = record {
  leveled : AreLeveled l.levels.items (take l.place l.trail.entries);
  marked : AreSet l.set.items (literals (take l.place l.trail.entries));
  levels_all : length l.levels.items ≡ length l.initial.levels.items;
  set_all : length l.set.items ≡ length l.initial.set.items;
}
