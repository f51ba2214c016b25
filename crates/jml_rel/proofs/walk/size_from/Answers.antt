use Rattle.std.proofs.Common.{rules}
use Rattle.jml_rel.specs.Points.{point_of}
use Rattle.jml_rel.proofs.Forms.{lead_alike}
use Rattle.jml_rel.proofs.Linking.{links_sorted}
use Rattle.jml_rel.proofs.walk.size_from.Goals as goal

pub returns-clause-told : goal.returns-clause-told
returns-clause-told c env m x shown one = c.in_ok-term.ensures.told m env c.args.fields.now x
    (lead_alike (point_of c.args.place) env m c.args.fields.now _ c.well_posed.ensures.unit shown (search (rules, c.in_ok-relations.ensures))) one

pub returns-clause-sorted : goal.returns-clause-sorted
returns-clause-sorted c kinds root = c.in_ok-term.ensures.sorted c.args.place.problem.now kinds root
    (search (rules, c.in_ok-relations.ensures, links_sorted c.args.place.problem.now kinds c.args.place.heap.now c.args.fields.now))
