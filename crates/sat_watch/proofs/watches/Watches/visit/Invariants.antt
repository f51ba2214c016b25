use Rattle.std.proofs.Common.{◌≡◌, length}
use Rattle.sat_watch.specs.Visit.{read, IsVisit}
use Rattle.sat_watch.proofs.watches.Watches.visit.Given as goal

abbrev pub invariant-list : goal.invariant-list
invariant-list l = record {
  visit : IsVisit l.self-inside.clauses l.self-inside.links.items l.self-inside.watched.items l.fn.trail l.trail l.fn.falsified l.previous;
  same : l.self-inside.clauses ≡ l.initial.self-inside.clauses;
}

abbrev pub decreases-list : goal.decreases-list
decreases-list l = length (read l.self-inside.links.items (length l.self-inside.links.items) l.previous)
