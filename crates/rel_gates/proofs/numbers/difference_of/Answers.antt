-- Both are there, and the result is within the width.
use Rattle.std.proofs.Common.{ℕ, ℤ, Bool, length, subst}
use Rattle.std.specs.Prelude.{◌-ℤ◌}
use Rattle.gate_arith.specs.Operations.{shown, IsNumber}
use Rattle.rel_gates.proofs.NumberMeaning.{operation}
use Rattle.rel_gates.proofs.numbers.difference_of.Goals as goal

pub returns-clause-difference : goal.returns-clause-difference
returns-clause-difference c =
    let p = c.args.problem.now in
    let old = c.args.gates.now in
    let middle = c.difference.new.gates in
    let a = c.args.a.now.bits.items in
    let b = c.args.b.now.bits.items in
    let found = c.in_ok-bits.bits.items in
    let within = c.in_ok-bits.within in
    let first : IsNumber middle (length a) (λ (inputs : ℕ → Bool). shown old a inputs -ℤ shown old c.deref-2.result.now inputs) found within =
    subst (λ gs. IsNumber middle (length gs) (λ (inputs : ℕ → Bool). shown old gs inputs -ℤ shown old c.deref-2.result.now inputs)
    found within) c.deref.ensures.value c.in_ok-bits.ensures.difference in
    let second : IsNumber middle (length a) (λ (inputs : ℕ → Bool). shown old a inputs -ℤ shown old b inputs) found within =
    subst (λ gs. IsNumber middle (length a) (λ (inputs : ℕ → Bool). shown old a inputs -ℤ shown old gs inputs) found within) c.deref-2.ensures.value first in
    operation p (λ (x y : ℤ). x -ℤ y) old middle c.both.new.gates c.both-2.new.gates a c.args.a.now.there b c.args.b.now.there found within c.in_ok-known.known c.in_ok-there.there
    c.requires.left c.requires.right c.in_ok-bits.ensures.keeps
    (subst (λ n. IsNumber middle n (λ (inputs : ℕ → Bool). shown old a inputs -ℤ shown old b inputs) found within) c.requires.left.wide second)
    c.in_ok-known.ensures.keeps c.in_ok-known.ensures.truth c.in_ok-there.ensures.keeps c.in_ok-there.ensures.truth
