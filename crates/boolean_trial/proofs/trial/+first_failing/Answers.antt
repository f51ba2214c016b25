use Rattle.std.proofs.Common.{◌≡◌, ◌<◌, ℕ, Bool, List, Option, true, false, length, ◌∙◌, arith}
use Rattle.std.proofs.lemmas.List.{length-set}
use Rattle.boolean_trial.specs.Trial.{failing}
use Rattle.boolean_trial.proofs.Trying.{kept_set, none_of_both}
use Rattle.boolean_trial.proofs.trial.+first_failing.Goals as goal

pub returns-in-Some-clause-kept : goal.returns-in-Some-clause-kept
returns-in-Some-clause-kept t c =
    let xs = c.args.args.now in
    let ys = c.first_failing.new.args in
    let within : c.args.at < length xs = omega arith in
    let same : length ys ≡ length xs = omega (arith, length-set {A = Bool}) in
    kept_set xs ys false c.args.at within same c.in-Some.ensures.kept

pub returns-in-Some-first_failing-clause-kept : goal.returns-in-Some-first_failing-clause-kept
returns-in-Some-first_failing-clause-kept t c =
    let xs = c.args.args.now in
    let ys = c.first_failing.new.args in
    let zs = c.first_failing-2.new.args in
    let within : c.args.at < length xs = omega arith in
    let same : length ys ≡ length xs = omega (arith, length-set {A = Bool}) in
    let same_too : length zs ≡ length ys = omega (arith, length-set {A = Bool}) in
    kept_set ys zs true c.args.at (omega arith) same_too c.in-Some-first_failing.ensures.kept ∙ kept_set xs ys false c.args.at within same c.in_default.ensures.kept

pub returns-in-None-clause-kept : goal.returns-in-None-clause-kept
returns-in-None-clause-kept t c =
    let xs = c.args.args.now in
    let ys = c.first_failing.new.args in
    let zs = c.first_failing-2.new.args in
    let within : c.args.at < length xs = omega arith in
    let same : length ys ≡ length xs = omega (arith, length-set {A = Bool}) in
    let same_too : length zs ≡ length ys = omega (arith, length-set {A = Bool}) in
    kept_set ys zs true c.args.at (omega arith) same_too c.in-None.ensures.kept ∙ kept_set xs ys false c.args.at within same c.in_default.ensures.kept

pub returns-in-None-clause-found : goal.returns-in-None-clause-found
returns-in-None-clause-found t c =
    let fails : List Bool → Option ℕ = failing c.args.needs.now c.args.value.now c.args.gives.now in
    let xs = c.args.args.now in
    let ys = c.first_failing.new.args in
    let within : c.args.at < length xs = omega arith in
    let same : length ys ≡ length xs = omega (arith, length-set {A = Bool}) in
    none_of_both fails xs ys c.args.at within same c.in_default.ensures.found c.in_default.ensures.kept c.in-None.ensures.found
