use Rattle.std.proofs.Common.{◌<◌, ◌+◌, length, subst, sym, arith, refl, None, inr, ◌≡◌}
use Rattle.sat_watch.specs.Watching.{Right}
use Rattle.sat_watch.proofs.RightLemmas.{right_more}
use Rattle.std.proofs.lemmas.List.{length-map}
use Rattle.cnf_core.specs.Literal.{IsOver}
use Rattle.sat_watch.specs.Literals.{IsOpen}
use Rattle.sat_watch.specs.Trail.{literals, levels}
use Rattle.sat_watch.proofs.TrailLemmas.{marked_more, room_more, rises_few}
use Rattle.sat_watch.proofs.trail.Trail.decide.Goals as goal

pub overflow_add-self-inside : goal.overflow_add-self-inside
overflow_add-self-inside c =
    let s = c.self.invariant.0.sound in
    omega (arith, rises_few 0 c.self.inside.level (levels c.self.inside.entries.items) s.rises, length-map c.self.inside.entries.items (λ x. x.level), s.few, s.small)

pub overflow_add-self : goal.overflow_add-self
overflow_add-self c =
    let s = c.self.invariant.0.sound in
    omega (arith, rises_few 0 c.self.inside.level (levels c.self.inside.entries.items) s.rises, length-map c.self.inside.entries.items (λ x. x.level), s.few, s.small)

pub push_reserved-requires : goal.push_reserved-requires
push_reserved-requires c =
    let over : IsOver c.self.inside.vars c.args.lit = subst (λ t. IsOver t.vars c.args.lit) (sym c.self.view_is) c.requires.over in
    let unset : IsOpen (literals c.self.inside.entries.items) c.args.lit = subst (λ t. IsOpen (literals t.entries) c.args.lit) (sym c.self.view_is) c.requires.unset in
    let room : length c.self.inside.entries.items < c.self.inside.vars =
    room_more c.self.inside.vars c.self.inside.level c.self.inside.passed c.self.inside.entries.items c.args.lit c.self.invariant.0.sound over unset in
    omega (arith, c.self.invariant.1)

pub invariant_of-self : goal.invariant_of-self
invariant_of-self c =
    let over : IsOver c.self.inside.vars c.args.lit = subst (λ t. IsOver t.vars c.args.lit) (sym c.self.view_is) c.requires.over in
    let unset : IsOpen (literals c.self.inside.entries.items) c.args.lit = subst (λ t. IsOpen (literals t.entries) c.args.lit) (sym c.self.view_is) c.requires.unset in
    let more = marked_more c.self.inside.vars c.self.inside.level c.self.inside.passed (c.self.inside.level + 1) c.self.inside.entries.items c.self.inside.truths.items
    (record { lit = c.args.lit; level = c.self.inside.level + 1; reason = None }) c.self.invariant.0 over unset refl (omega arith) (omega arith) in
    (rw (c.push_reserved.ensures.items, c.number.ensures.value) more, omega (arith, c.self.invariant.1, c.push_reserved.ensures.capacity))

pub returns-clause-right : goal.returns-clause-right
returns-clause-right c = λ w r.
    let all : c.self.inside.passed ≡ length c.self.inside.entries.items = subst (λ t. t.passed ≡ length t.entries) (sym c.self.view_is) c.requires.passed in
    let more = right_more w c.self.inside.vars c.self.inside.level c.self.inside.passed (c.self.inside.level + 1) c.self.inside.entries.items
    (record { lit = c.args.lit; level = c.self.inside.level + 1; reason = None }) (subst (Right w) (sym c.self.view_is) r) refl c.self.invariant.0.sound.within (inr all) in
    rw c.push_reserved.ensures.items more
