use Rattle.std.proofs.Common.{◌≡◌, Result, ap, sym, subst, ◌∙◌}
use Rattle.std.specs.Prelude.{IfOk}
use Rattle.java_tree.specs.Seen.{java_node, java_tree, java_trees}
use Rattle.java_tree.proofs.Rows.{java_call, java_call_on}
use Rattle.declared_names.specs.declared.fault.Fault.{Fault}
use Rattle.typed_forms.specs.declared.typed.Called.{Called}
use Rattle.declared_names.specs.Seen.{Stands, told}
use Rattle.declared_names.specs.Lookups.{Scope, in_body}
use Rattle.typed_forms.specs.Calls.{no_arguments}
use Rattle.typed_expressions.specs.Expressions.{seen, seen_from, seen_call, class_name_of, bare_name}
use Rattle.typed_expressions.proofs.Arms.{told-own_called, told-dotted_call}
use Rattle.typed_expressions.proofs.code.call.Goals as goal

pub returns-in_ok-args-in-Call : goal.returns-in_ok-args-in-Call
returns-in_ok-args-in-Call c =
    let sc : Scope = in_body c.args.world.now c.args.here.now c.args.held.now in
    let is = ap (java_node c.args.tree.now.at) c.in-Call.is ∙ java_call c.args.tree.now.at c.in-Call.name c.in-Call.args in
    let args = c.in_ok-args-in-Call.ensures ∙ ap (λ xs. told (seen_from (Stands no_arguments) (java_trees xs) sc)) c.as_slice.ensures.value in
    let made = told-own_called c.args.world.now c.args.here.now c.args.held.now c.args.tree.now.at c.in-Call.name (java_trees c.in-Call.args.items) c.in_ok-args-in-Call.args args in
    let P : Result Called Fault → Type 0 = λ v. IfOk c.own_called.result (λ r. r ≡ v) in
    subst P (made ∙ ap (λ e. told (seen_call e sc)) (sym is)) c.own_called.ensures

pub returns-in_ok-args-in-CallOn : goal.returns-in_ok-args-in-CallOn
returns-in_ok-args-in-CallOn c =
    let sc : Scope = in_body c.args.world.now c.args.here.now c.args.held.now in
    let is = ap (java_node c.args.tree.now.at) c.in-CallOn.is ∙ java_call_on c.args.tree.now.at c.in-CallOn.a c.in-CallOn.name c.in-CallOn.args in
    let owner = c.class_name-owner.ensures ∙ ap (λ x. class_name_of sc (bare_name (java_tree x))) c.deref.ensures in
    let object = c.in_ok-object-in-CallOn.ensures ∙ ap (λ x. told (seen (java_tree x) sc)) c.deref-in-CallOn.ensures in
    let args = c.in_ok-args-in-CallOn.ensures ∙ ap (λ xs. told (seen_from (Stands no_arguments) (java_trees xs) sc)) c.as_slice-in-CallOn.ensures.value in
    let made = told-dotted_call c.args.world.now c.args.here.now c.args.held.now c.args.tree.now.at c.in-CallOn.name (java_tree c.in-CallOn.a.value) (java_trees c.in-CallOn.args.items) _ _ _ owner object args in
    c.dotted.ensures ∙ made ∙ ap (λ e. told (seen_call e sc)) (sym is)
