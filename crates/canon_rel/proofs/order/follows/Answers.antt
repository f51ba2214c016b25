use Rattle.std.proofs.Common.{◌-◌, arith, ◌&&◌, ◌||◌, sym, ap, ◌∙◌}
use Rattle.std.specs.List.{list_any}
use Rattle.std.proofs.lemmas.Bool.{eq-eqb, ne_eqb, lt-ltb, ltb-true}
use Rattle.rel_core.specs.Meaning.{holds}
use Rattle.canon_rel.specs.Order.{has_at, comes_before}
use Rattle.canon_rel.proofs.Pieces.{and_true}
use Rattle.canon_rel.proofs.order.follows.Goals as goal

pub returns-then-object-eq0 : goal.returns-then-object-eq0
returns-then-object-eq0 c = record {
  meaning = λ m within inside.
      let places = c.args.places.now in
      let j = c.args.object in
      c.in_ok-held.ensures.meaning m within inside ∙ sym (and_true (list_any (has_at m j) places))
      ∙ sym (ap (λ b. list_any (has_at m j) places && (b || comes_before m places (j - 1) j)) (eq-eqb j 0 c.if-object-eq0.true));
  sorted = λ p kinds sorted inside. c.in_ok-held.ensures.sorted p kinds sorted inside;
}

pub returns-clause-meaning : goal.returns-clause-meaning
returns-clause-meaning c = λ m within inside.
    let places = c.args.places.now in
    let j = c.args.object in
    c.in_ok-follows.ensures.meaning m ∙ ap (λ b. b && holds c.in_ok-before.before m) (c.in_ok-held-2.ensures.meaning m within inside)
    ∙ ap (λ b. list_any (has_at m j) places && b) (c.in_ok-before.ensures.meaning m within (omega (arith, inside)) inside)
    ∙ sym (ap (λ b. list_any (has_at m j) places && (b || comes_before m places (j - 1) j)) (ne_eqb j 0 (λ same. c.if-object-eq0.false same)))

pub returns-clause-sorted : goal.returns-clause-sorted
returns-clause-sorted c = λ p kinds sorted inside.
    let j = c.args.object in
    c.in_ok-follows.ensures.sorted p kinds (c.in_ok-held-2.ensures.sorted p kinds sorted inside)
    (c.in_ok-before.ensures.sorted p kinds sorted (lt-ltb (j - 1) p.scope.objects (omega (arith, ltb-true j p.scope.objects inside))) inside)
