-- The gates of a number, from those within.
use Rattle.std.proofs.Common.{◌≡◌, true, sym, subst, ap, ◌∙◌, arith}
use Rattle.gate_core.specs.Circuit.{IsOf}
use Rattle.rel_gates.specs.Naming.{number_uses, are_named}
use Rattle.rel_gates.specs.Meant.{AreSet}
use Rattle.rel_gates.specs.Counted.{IsNumberOf}
use Rattle.rel_gates.proofs.Depths.{parts, parts_sum, parts_difference, parts_product, first_falls, second_falls}
use Rattle.rel_gates.proofs.UseForms.{both_named}
use Rattle.rel_gates.proofs.NumberUses.{uses_sum, uses_difference, uses_product}
use Rattle.rel_gates.proofs.OfGraphs.{stand_more}
use Rattle.rel_gates.proofs.NumberMeaning.{number_kept, sum_made, difference_made, product_made}
use Rattle.rel_gates.proofs.number_walk.+number_gates.Goals as goal

pub number_gates-requires : goal.number_gates-requires
number_gates-requires t c =
    let p = c.args.problem.now in
    let es = c.args.relations.now in
    let a = c.in-Sum.a in
    let b = c.in-Sum.b in
    let named = (both_named es (number_uses p c.args.number.now) (number_uses p a) (number_uses p b) c.requires.named (ap (number_uses p) c.in-Sum.is ∙ uses_sum p a b)).0 in (
      first_falls a b c.get-in-Sum.result.now (parts c.args.number.now) t c.get-in-Sum.ensures (ap parts c.in-Sum.is ∙ parts_sum a b) c.decreases,
      (c.requires.stand, subst (λ e. are_named es (number_uses p e) ≡ true) (sym c.get-in-Sum.ensures) named),
    )

pub number_gates-requires-in-Diff : goal.number_gates-requires-in-Diff
number_gates-requires-in-Diff t c =
    let p = c.args.problem.now in
    let es = c.args.relations.now in
    let a = c.in-Diff.a in
    let b = c.in-Diff.b in
    let named = (both_named es (number_uses p c.args.number.now) (number_uses p a) (number_uses p b) c.requires.named (ap (number_uses p) c.in-Diff.is ∙ uses_difference p a b)).0 in (
      first_falls a b c.get-in-Diff.result.now (parts c.args.number.now) t c.get-in-Diff.ensures (ap parts c.in-Diff.is ∙ parts_difference a b) c.decreases,
      (c.requires.stand, subst (λ e. are_named es (number_uses p e) ≡ true) (sym c.get-in-Diff.ensures) named),
    )

pub number_gates-requires-in-Product : goal.number_gates-requires-in-Product
number_gates-requires-in-Product t c =
    let p = c.args.problem.now in
    let es = c.args.relations.now in
    let a = c.in-Product.a in
    let b = c.in-Product.b in
    let named = (both_named es (number_uses p c.args.number.now) (number_uses p a) (number_uses p b) c.requires.named (ap (number_uses p) c.in-Product.is ∙ uses_product p a b)).0 in (
      first_falls a b c.get-in-Product.result.now (parts c.args.number.now) t c.get-in-Product.ensures (ap parts c.in-Product.is ∙ parts_product a b) c.decreases,
      (c.requires.stand, subst (λ e. are_named es (number_uses p e) ≡ true) (sym c.get-in-Product.ensures) named),
    )

pub number_gates-requires-in-Sum : goal.number_gates-requires-in-Sum
number_gates-requires-in-Sum t c =
    let p = c.args.problem.now in
    let es = c.args.relations.now in
    let a = c.in-Sum.a in
    let b = c.in-Sum.b in
    let named = (both_named es (number_uses p c.args.number.now) (number_uses p a) (number_uses p b) c.requires.named (ap (number_uses p) c.in-Sum.is ∙ uses_sum p a b)).1 in (
      second_falls a b c.get-in-Sum-2.result.now (parts c.args.number.now) t c.get-in-Sum-2.ensures (ap parts c.in-Sum.is ∙ parts_sum a b) c.decreases,
      (
        stand_more c.args.gates.now c.number_gates.new.gates es c.in_ok-x-in-Sum.ensures.keeps c.requires.stand,
        subst (λ e. are_named es (number_uses p e) ≡ true) (sym c.get-in-Sum-2.ensures) named,
      ),
    )

pub returns-in_ok-found-in-Sum-clause-number : goal.returns-in_ok-found-in-Sum-clause-number
returns-in_ok-found-in-Sum-clause-number t c =
    let p = c.args.problem.now in
    let es = c.args.relations.now in
    let middle = c.number_gates.new.gates in
    let third = c.number_gates-in-Sum.new.gates in
    let x = c.in_ok-x-in-Sum.x in
    let y = c.in_ok-y-in-Sum.y in
    let found = c.in_ok-found-in-Sum.found in
    let first : IsNumberOf p es middle c.in-Sum.a x.bits.items x.there = rw c.get-in-Sum.ensures at c.in_ok-x-in-Sum.ensures.number in
    let second : IsNumberOf p es third c.in-Sum.b y.bits.items y.there = rw c.get-in-Sum-2.ensures at c.in_ok-y-in-Sum.ensures.number in
    let stand = stand_more c.args.gates.now middle es c.in_ok-x-in-Sum.ensures.keeps c.requires.stand in
    let later = stand_more middle third es c.in_ok-y-in-Sum.ensures.keeps stand in
    let of = first.stands.there_of in
    let some : IsOf middle 0 = omega (arith, of) in
    let of_third = second.stands.there_of in
    let some_third : IsOf third 0 = omega (arith, of_third) in
    rw c.in-Sum.is
    (sum_made p es third c.sum_of.new.gates c.in_ok-found-in-Sum.ensures.keeps some_third later c.in-Sum.a c.in-Sum.b x.bits.items x.there y.bits.items y.there found.bits.items found.there
    (number_kept p es middle third c.in-Sum.a x.bits.items x.there c.in_ok-y-in-Sum.ensures.keeps some stand first) second c.in_ok-found-in-Sum.ensures.sum)

pub number_gates-requires-in-Diff-2 : goal.number_gates-requires-in-Diff-2
number_gates-requires-in-Diff-2 t c =
    let p = c.args.problem.now in
    let es = c.args.relations.now in
    let a = c.in-Diff.a in
    let b = c.in-Diff.b in
    let named = (both_named es (number_uses p c.args.number.now) (number_uses p a) (number_uses p b) c.requires.named (ap (number_uses p) c.in-Diff.is ∙ uses_difference p a b)).1 in (
      second_falls a b c.get-in-Diff-2.result.now (parts c.args.number.now) t c.get-in-Diff-2.ensures (ap parts c.in-Diff.is ∙ parts_difference a b) c.decreases,
      (
        stand_more c.args.gates.now c.number_gates-in-Diff.new.gates es c.in_ok-x-in-Diff.ensures.keeps c.requires.stand,
        subst (λ e. are_named es (number_uses p e) ≡ true) (sym c.get-in-Diff-2.ensures) named,
      ),
    )

pub returns-in_ok-found-in-Diff-clause-number : goal.returns-in_ok-found-in-Diff-clause-number
returns-in_ok-found-in-Diff-clause-number t c =
    let p = c.args.problem.now in
    let es = c.args.relations.now in
    let middle = c.number_gates-in-Diff.new.gates in
    let third = c.number_gates-in-Diff-2.new.gates in
    let x = c.in_ok-x-in-Diff.x in
    let y = c.in_ok-y-in-Diff.y in
    let found = c.in_ok-found-in-Diff.found in
    let first : IsNumberOf p es middle c.in-Diff.a x.bits.items x.there = rw c.get-in-Diff.ensures at c.in_ok-x-in-Diff.ensures.number in
    let second : IsNumberOf p es third c.in-Diff.b y.bits.items y.there = rw c.get-in-Diff-2.ensures at c.in_ok-y-in-Diff.ensures.number in
    let stand = stand_more c.args.gates.now middle es c.in_ok-x-in-Diff.ensures.keeps c.requires.stand in
    let later = stand_more middle third es c.in_ok-y-in-Diff.ensures.keeps stand in
    let of = first.stands.there_of in
    let some : IsOf middle 0 = omega (arith, of) in
    let of_third = second.stands.there_of in
    let some_third : IsOf third 0 = omega (arith, of_third) in
    rw c.in-Diff.is
    (difference_made p es third c.difference_of.new.gates c.in_ok-found-in-Diff.ensures.keeps some_third later c.in-Diff.a c.in-Diff.b x.bits.items x.there
    y.bits.items y.there found.bits.items found.there
    (number_kept p es middle third c.in-Diff.a x.bits.items x.there c.in_ok-y-in-Diff.ensures.keeps some stand first) second c.in_ok-found-in-Diff.ensures.difference)

pub number_gates-requires-in-Product-2 : goal.number_gates-requires-in-Product-2
number_gates-requires-in-Product-2 t c =
    let p = c.args.problem.now in
    let es = c.args.relations.now in
    let a = c.in-Product.a in
    let b = c.in-Product.b in
    let named = (both_named es (number_uses p c.args.number.now) (number_uses p a) (number_uses p b) c.requires.named (ap (number_uses p) c.in-Product.is ∙ uses_product p a b)).1 in (
      second_falls a b c.get-in-Product-2.result.now (parts c.args.number.now) t c.get-in-Product-2.ensures (ap parts c.in-Product.is ∙ parts_product a b) c.decreases,
      (
        stand_more c.args.gates.now c.number_gates-in-Product.new.gates es c.in_ok-x-in-Product.ensures.keeps c.requires.stand,
        subst (λ e. are_named es (number_uses p e) ≡ true) (sym c.get-in-Product-2.ensures) named,
      ),
    )

pub returns-in_ok-found-in-Product-clause-number : goal.returns-in_ok-found-in-Product-clause-number
returns-in_ok-found-in-Product-clause-number t c =
    let p = c.args.problem.now in
    let es = c.args.relations.now in
    let middle = c.number_gates-in-Product.new.gates in
    let third = c.number_gates-in-Product-2.new.gates in
    let x = c.in_ok-x-in-Product.x in
    let y = c.in_ok-y-in-Product.y in
    let found = c.in_ok-found-in-Product.found in
    let first : IsNumberOf p es middle c.in-Product.a x.bits.items x.there = rw c.get-in-Product.ensures at c.in_ok-x-in-Product.ensures.number in
    let second : IsNumberOf p es third c.in-Product.b y.bits.items y.there = rw c.get-in-Product-2.ensures at c.in_ok-y-in-Product.ensures.number in
    let stand = stand_more c.args.gates.now middle es c.in_ok-x-in-Product.ensures.keeps c.requires.stand in
    let later = stand_more middle third es c.in_ok-y-in-Product.ensures.keeps stand in
    let of = first.stands.there_of in
    let some : IsOf middle 0 = omega (arith, of) in
    let of_third = second.stands.there_of in
    let some_third : IsOf third 0 = omega (arith, of_third) in
    rw c.in-Product.is
    (product_made p es third c.product_of.new.gates c.in_ok-found-in-Product.ensures.keeps some_third later c.in-Product.a c.in-Product.b x.bits.items x.there
    y.bits.items y.there found.bits.items found.there
    (number_kept p es middle third c.in-Product.a x.bits.items x.there c.in_ok-y-in-Product.ensures.keeps some stand first) second c.in_ok-found-in-Product.ensures.product)

pub returns-in_ok-found-in-At-clause-number : goal.returns-in_ok-found-in-At-clause-number
returns-in_ok-found-in-At-clause-number t c =
    let p = c.args.problem.now in
    let es = c.args.relations.now in
    rw c.in-At.is
    (c.in_ok-found-in-At.ensures.number c.in-At.set
    (subst (λ gs. AreSet p es c.set_gates.new.gates c.in-At.set gs) (sym c.deref.ensures.value) (rw c.get.ensures at c.in_ok-members-in-At.ensures.set)))

pub returns-in_ok-found-in-Count-clause-number : goal.returns-in_ok-found-in-Count-clause-number
returns-in_ok-found-in-Count-clause-number t c =
    let p = c.args.problem.now in
    let es = c.args.relations.now in
    rw c.in-Count.is
    (c.in_ok-found-in-Count.ensures.number c.in-Count.set
    (subst (λ gs. AreSet p es c.set_gates-in-Count.new.gates c.in-Count.set gs) (sym c.deref-in-Count.ensures.value) (rw c.get-in-Count.ensures at c.in_ok-members-in-Count.ensures.set)))
