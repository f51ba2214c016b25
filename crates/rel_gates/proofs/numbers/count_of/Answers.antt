-- The objects of the set are counted, and null is not.
use Rattle.std.proofs.Common.{◌≡◌, ℕ, ◌+◌, ◌<◌, Bool, length, get_or, subst, ap, ◌∙◌, arith, pos}
use Rattle.std.proofs.lemmas.Grind.{get_or_after_one}
use Rattle.gate_arith.specs.Numbers.{how_many}
use Rattle.gate_arith.specs.Operations.{bits, IsNumber}
use Rattle.gate_core.specs.Circuit.{IsOf}
use Rattle.heap_core.specs.Posed.{Posed}
use Rattle.rel_gates.proofs.NumberForms.{count_is}
use Rattle.rel_gates.proofs.numbers.count_of.Goals as goal

pub returns-clause-number : goal.returns-clause-number
returns-clause-number c = λ e are.
    let p = c.args.problem.now in
    let old = c.args.gates.now in
    let new = c.count.new.gates in
    let set = c.args.set.now in
    let objects = c.split_at.result.1.now in
    let found = c.in_ok-bits.bits.items in
    let there = c.in_ok-bits.there in
    let first = c.requires.set 0 0 (omega (arith, c.requires.wide)) in
    let some : IsOf old 0 = omega (arith, first) in
    let long : length objects ≡ p.scope.objects = omega (arith, c.split_at.ensures.back_len, c.requires.wide) in
    let same : (i : ℕ) → i < p.scope.objects → get_or objects i 0 ≡ get_or set (i + 1) 0 =
    λ i below. (let place : 1 + i ≡ i + 1 = omega arith in ap (λ gs. get_or gs i 0) c.split_at.ensures.back ∙ get_or_after_one set i 0 ∙ ap (λ k. get_or set k 0) place) in
    count_is p c.args.relations.now old new e set objects found there are long same c.requires.stand some c.in_ok-bits.ensures.keeps
    (subst (λ (q : Posed). IsNumber new q.scope.ints (λ (inputs : ℕ → Bool). pos (how_many (bits inputs old objects))) found there) c.problem.view_is c.in_ok-bits.ensures.count)
