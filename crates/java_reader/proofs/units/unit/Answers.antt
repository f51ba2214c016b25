use Rattle.std.proofs.Common.{rules, ◌≡◌, map, sym, subst, Vec, Global}
use Rattle.std.specs.Prelude.{Err}
use Rattle.java_tree.specs.declared.members.ClassTree.{ClassTree}
use Rattle.java_tree.specs.Trees.{Classes}
use Rattle.java_tree.specs.Seen.{class_tree}
use Rattle.reading_core.specs.Read.{Read}
use Rattle.reading_core.specs.Gives.{Gives}
use Rattle.java_reader.proofs.UnitLemmas.{behind_imports_is, imports_stop, package_stops}
use Rattle.java_reader.proofs.units.unit.Goals as goal

pub returns-in_err-rest : goal.returns-in_err-rest
returns-in_err-rest c =
    let same : c.from_residual.result ≡ Err c.in_err-rest.field-0.0 = search rules in
    package_stops c.args.left (λ (v : Vec ClassTree Global). map class_tree v.items) c.args.tokens.now c.from_residual.result c.in_err-rest.field-0.0 same c.in_err-rest.ensures.is

pub returns-in_err-rest-2 : goal.returns-in_err-rest-2
returns-in_err-rest-2 c =
    let same : c.from_residual-in_err-rest-2.result ≡ Err c.in_err-rest-2.field-0.0 = search rules in
    imports_stop c.args.left (λ (v : Vec ClassTree Global). map class_tree v.items) c.args.tokens.now c.in_ok-rest.rest.now c.in_ok-rest.ensures.is c.from_residual-in_err-rest-2.result c.in_err-rest-2.field-0.0 same c.in_err-rest-2.ensures.is

pub returns : goal.returns
returns c =
    subst (λ (o : Read Classes). Gives (λ (v : Vec ClassTree Global). map class_tree v.items) c.classes.result o)
    (sym (behind_imports_is c.args.left c.args.tokens.now c.in_ok-rest.rest.now c.in_ok-rest-2.rest.now c.in_ok-rest.ensures.is c.in_ok-rest-2.ensures.is)) c.classes.ensures.is
