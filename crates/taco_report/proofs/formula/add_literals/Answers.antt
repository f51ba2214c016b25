use Rattle.std.proofs.Common.{◌≡◌, ◌+◌, ◌++◌, Bool, List, [], ℕ, drop, flat_map, sym, ap, ◌∙◌, arith, append-nil}
use Rattle.std.proofs.Math.ListN.{drop_of_length-le}
use Rattle.std.specs.List.{enumerate_from}
use Rattle.taco_report.specs.FormulaTexts.{literal_word}
use Rattle.taco_report.proofs.formula.add_literals.Goals as goal

pub returns : goal.returns
returns c =
    let none : drop c.loop-i.i c.args.values.now ≡ [] = drop_of_length-le c.args.values.now (omega arith) in
    let literals : List Bool → List ℕ = λ values. c.loop-i.out.items ++ flat_map literal_word (enumerate_from (c.loop-i.i + 1) values) in
    sym (ap literals none ∙ append-nil c.loop-i.out.items) ∙ c.loop-i.invariant
