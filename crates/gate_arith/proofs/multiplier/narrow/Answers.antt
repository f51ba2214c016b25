-- The last two bits agree exactly where the number lies within one bit less.
use Rattle.std.proofs.Common.{◌≡◌, ℕ, suc, ◌-◌, take, get_or, sym, subst, ap, ◌∙◌, arith}
use Rattle.std.specs.Prelude.{vec_len}
use Rattle.gate_arith.specs.Operations.{IsNumber}
use Rattle.gate_arith.proofs.Steps.{narrowed}
use Rattle.gate_arith.proofs.multiplier.narrow.Goals as goal

pub returns-clause-narrow : goal.returns-clause-narrow
returns-clause-narrow c = λ exact is.
    let wide = c.args.wide.items in
    let top : ℕ = vec_len c.args.wide - 2 in
    let y = c.index-low.result.now in
    let z = c.index-high.result.now in
    let all : vec_len c.args.wide ≡ suc (suc top) = omega (arith, c.requires.some) in
    let width : c.len-width.result - 1 ≡ suc top = grind (arith, c.len-width.ensures, c.requires.some) in
    let one_less : vec_len c.args.wide - 1 ≡ suc top = omega (arith, c.requires.some) in
    let place : c.len-width.result - 1 - 1 ≡ top = omega arith in
    let at_y : y ≡ get_or wide top y = c.index-low.ensures ∙ ap (λ i. get_or wide i y) place in
    let at_z : z ≡ get_or wide (suc top) z = c.index-high.ensures ∙ ap (λ i. get_or wide i z) width in
    let cut : c.truncate.new.self.items ≡ take (suc top) wide = c.truncate.ensures.items ∙ ap (λ i. take i wide) width in
    subst (λ n. IsNumber c.both.new.gates n exact c.truncate.new.self.items c.in_ok-within.within) (sym one_less)
    (subst (λ gs. IsNumber c.both.new.gates (suc top) exact gs c.in_ok-within.within) (sym cut)
    (narrowed c.args.gates.now c.agree.new.gates c.both.new.gates exact wide top c.args.fits y z c.in_ok-agrees.agrees c.in_ok-within.within
    (subst (λ n. IsNumber c.args.gates.now n exact wide c.args.fits) all is) at_y at_z
    c.in_ok-agrees.ensures.truth c.in_ok-agrees.ensures.keeps c.in_ok-within.ensures.truth c.in_ok-within.ensures.keeps))
