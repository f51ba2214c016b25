use Rattle.std.proofs.Common.{◌≡◌, ◌≤◌, [], length, drop, Result, ap, sym, subst, ◌∙◌, arith}
use Rattle.std.specs.Prelude.{IfOk}
use Rattle.std.proofs.lemmas.List.{drop_all}
use Rattle.java_tree.specs.Trees.{call, call_on}
use Rattle.java_tree.specs.Seen.{java_node, java_tree, java_trees}
use Rattle.java_tree.proofs.Rows.{java_call, java_call_on}
use Rattle.declared_names.specs.declared.fault.Fault.{Fault}
use Rattle.typed_forms.specs.declared.typed.Typed.{Typed}
use Rattle.declared_names.specs.Seen.{Stands, told}
use Rattle.declared_names.specs.Lookups.{Scope, in_body}
use Rattle.typed_forms.specs.Calls.{no_arguments}
use Rattle.typed_expressions.specs.Expressions.{seen, seen_from, seen_call, class_name_of, bare_name}
use Rattle.typed_expressions.proofs.Arms.{reported_from, told-arguments, told-own_called, told-dotted_call, told-valued}
use Rattle.typed_expressions.proofs.code.+code.Goals as goal

pub arguments-returns : goal.arguments-returns
arguments-returns t c =
    let sc : Scope = in_body c.args.world.now c.args.here.now c.args.held.now in
    let past : length c.args.args.now ≤ c.loop-arg.arg-index = omega arith in
    let none_left : drop c.loop-arg.arg-index c.args.args.now ≡ [] = drop_all c.loop-arg.arg-index c.args.args.now past in
    let ends = ap (λ ts. reported_from c.loop-arg.done (java_trees ts) sc) none_left in
    sym ends ∙ c.loop-arg.invariant ∙ sym (told-arguments (java_trees c.args.args.now) sc)

pub java-returns-in_ok-call-in-Call : goal.java-returns-in_ok-call-in-Call
java-returns-in_ok-call-in-Call t c =
    let sc : Scope = in_body c.args.world.now c.args.here.now c.args.held.now in
    let is = ap (java_node c.args.tree.now.at) c.in-Call.is ∙ java_call c.args.tree.now.at c.in-Call.name c.in-Call.args in
    let args = c.in_ok-args-in-Call.ensures ∙ ap (λ xs. told (seen_from (Stands no_arguments) (java_trees xs) sc)) c.as_slice.ensures.value in
    let made = told-own_called c.args.world.now c.args.here.now c.args.held.now c.args.tree.now.at c.in-Call.name (java_trees c.in-Call.args.items) c.in_ok-args-in-Call.args args in
    let whole = told-valued (seen_call (call c.args.tree.now.at c.in-Call.name (java_trees c.in-Call.args.items)) sc) c.in_ok-call-in-Call.call (c.in_ok-call-in-Call.ensures ∙ made) in
    let P : Result Typed Fault → Type 0 = λ v. IfOk c.call_to_value.result (λ r. r ≡ v) in
    subst P (whole ∙ ap (λ e. told (seen e sc)) (sym is)) c.call_to_value.ensures

pub java-returns-in_ok-args-in-CallOn : goal.java-returns-in_ok-args-in-CallOn
java-returns-in_ok-args-in-CallOn t c =
    let sc : Scope = in_body c.args.world.now c.args.here.now c.args.held.now in
    let is = ap (java_node c.args.tree.now.at) c.in-CallOn.is ∙ java_call_on c.args.tree.now.at c.in-CallOn.a c.in-CallOn.name c.in-CallOn.args in
    let owner = c.class_name-owner.ensures ∙ ap (λ x. class_name_of sc (bare_name (java_tree x))) c.deref-in-CallOn.ensures in
    let object = c.in_ok-object-in-CallOn.ensures ∙ ap (λ x. told (seen (java_tree x) sc)) c.deref-in-CallOn-2.ensures in
    let args = c.in_ok-args-in-CallOn.ensures ∙ ap (λ xs. told (seen_from (Stands no_arguments) (java_trees xs) sc)) c.as_slice-in-CallOn.ensures.value in
    let made = told-dotted_call c.args.world.now c.args.here.now c.args.held.now c.args.tree.now.at c.in-CallOn.name (java_tree c.in-CallOn.a.value) (java_trees c.in-CallOn.args.items) _ _ _ owner object args in
    let whole = told-valued (seen_call (call_on c.args.tree.now.at (java_tree c.in-CallOn.a.value) c.in-CallOn.name (java_trees c.in-CallOn.args.items)) sc) c.dotted.result (c.dotted.ensures ∙ made) in
    let P : Result Typed Fault → Type 0 = λ v. IfOk c.call_to_value-in-CallOn.result (λ r. r ≡ v) in
    subst P (whole ∙ ap (λ e. told (seen e sc)) (sym is)) c.call_to_value-in-CallOn.ensures
