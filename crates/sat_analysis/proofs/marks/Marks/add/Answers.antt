use Rattle.std.proofs.Common.{◌<◌, length, sym, subst, ◌≡◌, false}
use Rattle.sat_watch.specs.Literals.{has}
use Rattle.sat_watch.proofs.LiteralLemmas.{marks-push}
use Rattle.sat_analysis.proofs.Lits.{once_push}
use Rattle.sat_analysis.proofs.marks.Marks.add.Goals as goal

pub invariant_of-self-2 : goal.invariant_of-self-2
invariant_of-self-2 c =
    let place : c.args.lit < length c.self.inside.table.items = subst (λ m. c.args.lit < m.places) (sym c.self.view_is) c.requires.place in
    let absent : has c.self.inside.list.items c.args.lit ≡ false = subst (λ m. has m.lits c.args.lit ≡ false) (sym c.self.view_is) c.requires.absent in
    rw (c.in_ok-push.ensures.items, c.number.ensures.value)
    ((marks-push c.self.inside.table.items c.self.inside.list.items c.args.lit c.self.invariant.0 place, once_push c.self.inside.list.items c.args.lit c.self.invariant.1 absent))

pub returns-clause-once : goal.returns-clause-once
returns-clause-once c =
    let absent : has c.self.inside.list.items c.args.lit ≡ false = subst (λ m. has m.lits c.args.lit ≡ false) (sym c.self.view_is) c.requires.absent in
    rw c.in_ok-push.ensures.items (once_push c.self.inside.list.items c.args.lit c.self.invariant.1 absent)
