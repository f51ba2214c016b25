use Rattle.std.proofs.Common.{◌<◌, length, subst, sym, arith, refl, inl}
use Rattle.sat_watch.specs.Watching.{Right}
use Rattle.sat_watch.proofs.RightLemmas.{right_more}
use Rattle.cnf_core.specs.Literal.{IsOver}
use Rattle.sat_watch.specs.Literals.{IsOpen}
use Rattle.sat_watch.specs.Trail.{literals}
use Rattle.sat_watch.proofs.TrailLemmas.{marked_more, room_more}
use Rattle.sat_watch.proofs.trail.Trail.set.Goals as goal

pub push_reserved-requires : goal.push_reserved-requires
push_reserved-requires c =
    let over : IsOver c.self.inside.vars c.args.lit = subst (λ t. IsOver t.vars c.args.lit) (sym c.self.view_is) c.requires.over in
    let unset : IsOpen (literals c.self.inside.entries.items) c.args.lit = subst (λ t. IsOpen (literals t.entries) c.args.lit) (sym c.self.view_is) c.requires.unset in
    let room : length c.self.inside.entries.items < c.self.inside.vars =
    room_more c.self.inside.vars c.self.inside.level c.self.inside.passed c.self.inside.entries.items c.args.lit c.self.invariant.0.sound over unset in
    omega (arith, c.self.invariant.1)

pub invariant_of-self : goal.invariant_of-self
invariant_of-self c =
    let over : IsOver c.self.inside.vars c.args.lit = subst (λ t. IsOver t.vars c.args.lit) (sym c.self.view_is) c.requires.over in
    let unset : IsOpen (literals c.self.inside.entries.items) c.args.lit = subst (λ t. IsOpen (literals t.entries) c.args.lit) (sym c.self.view_is) c.requires.unset in
    let more = marked_more c.self.inside.vars c.self.inside.level c.self.inside.passed c.self.inside.level c.self.inside.entries.items c.self.inside.truths.items
    (record { lit = c.args.lit; level = c.self.inside.level; reason = c.args.reason }) c.self.invariant.0 over unset refl (omega arith) (omega arith) in
    (rw (c.push_reserved.ensures.items, c.number.ensures.value) more, omega (arith, c.self.invariant.1, c.push_reserved.ensures.capacity))

pub returns-clause-right : goal.returns-clause-right
returns-clause-right c = λ w r.
    let more = right_more w c.self.inside.vars c.self.inside.level c.self.inside.passed c.self.inside.level c.self.inside.entries.items
    (record { lit = c.args.lit; level = c.self.inside.level; reason = c.args.reason }) (subst (Right w) (sym c.self.view_is) r) refl c.self.invariant.0.sound.within (inl refl) in
    rw c.push_reserved.ensures.items more

pub returns-clause-sound : goal.returns-clause-sound
returns-clause-sound c =
    let over : IsOver c.self.inside.vars c.args.lit = subst (λ t. IsOver t.vars c.args.lit) (sym c.self.view_is) c.requires.over in
    let unset : IsOpen (literals c.self.inside.entries.items) c.args.lit = subst (λ t. IsOpen (literals t.entries) c.args.lit) (sym c.self.view_is) c.requires.unset in
    let more = marked_more c.self.inside.vars c.self.inside.level c.self.inside.passed c.self.inside.level c.self.inside.entries.items c.self.inside.truths.items
    (record { lit = c.args.lit; level = c.self.inside.level; reason = c.args.reason }) c.self.invariant.0 over unset refl (omega arith) (omega arith) in
    rw c.push_reserved.ensures.items more.sound
