-- The point for which a place of the code stands.
use Rattle.jml_rel.specs.declared.place.Place.{Place}
use Rattle.jml_rel.specs.Places.{Point}

abbrev pub point_of : Place → Point
point_of q = record {
  problem = q.problem.now;
  heap = q.heap.now;
  before = q.before.now;
  result = q.result;
  this = q.this.now;
  bound = q.bound.now;
}
