use Rattle.std.proofs.Common.{◌<◌, ◌*◌, ◌+◌, length}
use Rattle.sat_watch.specs.Visit.{read}
use Rattle.sat_watch.proofs.WatchLemmas.{Leads}
use Rattle.sat_watch.proofs.watches.Watches.move_watch.Given as goal

-- the watch is still to come
abbrev pub invariant-loop-self : goal.invariant-loop-self
invariant-loop-self l = record {
  leads : Leads l.self-inside.links.items l.self-inside.watched.items l.fn.old l.previous l.at;
  positive : 0 < l.fn.old;
  small : l.fn.old < 2 * (l.self-inside.clauses.vars + 1);
}

abbrev pub decreases-loop-self : goal.decreases-loop-self
decreases-loop-self l = length (read l.self-inside.links.items (length l.self-inside.links.items) l.previous)
