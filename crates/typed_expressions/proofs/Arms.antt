-- The forms of expressions, arm by arm.
use Rattle.std.proofs.Common.{◌≡◌, ℕ, Option, None, Some, Result, Ok, refl, ap, sym, ◌∙◌, List}
use Rattle.java_tree.specs.Trees.{Expr, Exprs, none, also, call, call_on}
use Rattle.java_tree.specs.declared.expressions.JavaNode.TheViews.{the_lemmas as java_lemmas}
use Rattle.java_tree.specs.declared.clauses.JmlNode.TheViews.{the_lemmas as jml_lemmas}
use Rattle.declared_names.specs.declared.fault.Fault.{Fault}
use Rattle.java_tree.specs.declared.names.Ident.{Ident}
use Rattle.declared_names.specs.declared.world.World.{World}
use Rattle.declared_names.specs.declared.world.Here.{Here}
use Rattle.declared_names.specs.declared.world.Declared.{Declared}
use Rattle.typed_forms.specs.declared.typed.Called.{Called}
use Rattle.typed_forms.specs.declared.typed.Typed.{Typed}
use Rattle.typed_forms.specs.declared.typed.Arguments.{Arguments}
use Rattle.declared_names.specs.Seen.{Seen, Stands, over_two, told, on, on_two}
use Rattle.declared_names.specs.Lookups.{Scope, method_of, in_body}
use Rattle.typed_forms.specs.Operators.{minus_of, minus_told, minus_value}
use Rattle.typed_forms.specs.Calls.{no_arguments, with_argument, class_of, class_call, object_call, own_call, call_value}
use Rattle.typed_expressions.specs.Expressions.{seen, seen_from, seen_call, valued, class_name_of, bare_name, dotted, dotted_told}
use Rattle.declared_names.proofs.Told.{wholes, told-stands, told-over, told-over_two}

pub told-minus : (at : ℕ) (n : Option ℕ) (a : Seen Typed) → told (minus_of at n a) ≡ minus_told at n (told a)
told-minus at None a = told-over a (minus_value at)
told-minus at (Some n) a = told-stands _

-- arguments, by what is reported of those before
abbrev pub reported_from : Result Arguments Fault → Exprs → Scope → Result Arguments Fault
reported_from done none sc = done
reported_from done (also a more) sc = reported_from (on_two done (told (seen a sc)) (λ ts t. told (Stands (with_argument ts t)))) more sc

pub told-seen_from : (s : Seen Arguments) (args : Exprs) (sc : Scope) → told (seen_from s args sc) ≡ reported_from (told s) args sc
told-seen_from s none sc = refl
told-seen_from s (also a more) sc =
    told-seen_from (over_two s (seen a sc) (λ ts t. Stands (with_argument ts t))) more sc
    ∙ ap (λ r. reported_from r more sc) (told-over_two s (seen a sc) (λ ts t. Stands (with_argument ts t)))

pub told-arguments : (args : Exprs) (sc : Scope) → told (seen_from (Stands no_arguments) args sc) ≡ reported_from (Ok no_arguments) args sc
told-arguments args sc = told-seen_from (Stands no_arguments) args sc ∙ ap (λ r. reported_from r args sc) (told-stands no_arguments)

pub told-dotted : (w : World) (at : ℕ) (i : Ident) (owner : Option Ident) (a : Seen Typed) (args : Seen Arguments) → told (dotted w at i owner a args) ≡ dotted_told w at i owner (told a) (told args)
told-dotted w at i (Some n) a args = told-over_two (class_of w n) args (λ c ts. class_call at i ts (method_of w c i))
told-dotted w at i None a args = told-over_two a args (λ x ts. object_call w at i x.expr ts x.sort)

-- calls, by what is reported of their parts
abbrev pub call_told : World → Here → ℕ → Ident → Result Arguments Fault → Result Called Fault
call_told w h at i args = on args (λ ts. told (own_call h at i ts (method_of w h.class i)))

abbrev pub value_told : Result Called Fault → Result Typed Fault
value_told c = on c (λ x. told (call_value x x.result))

pub told-own_called : (w : World) (h : Here) (held : List Declared) (at : ℕ) (i : Ident) (args : Exprs) (ts : Result Arguments Fault) → ts ≡ told (seen_from (Stands no_arguments) args (in_body w h held))
    → call_told w h at i ts ≡ told (seen_call (call at i args) (in_body w h held))
told-own_called w h held at i args ts is =
    ap (call_told w h at i) is ∙ sym (told-over (seen_from (Stands no_arguments) args (in_body w h held)) (λ us. own_call h at i us (method_of w h.class i)))

pub told-dotted_call : (w : World) (h : Here) (held : List Declared) (at : ℕ) (i : Ident) (a : Expr) (args : Exprs) (owner : Option Ident) (x : Result Typed Fault) (ts : Result Arguments Fault)
    → owner ≡ class_name_of (in_body w h held) (bare_name a) → x ≡ told (seen a (in_body w h held)) → ts ≡ told (seen_from (Stands no_arguments) args (in_body w h held))
    → dotted_told w at i owner x ts ≡ told (seen_call (call_on at a i args) (in_body w h held))
told-dotted_call w h held at i a args owner x ts of_owner of_x of_ts =
    ap (λ o. dotted_told w at i o x ts) of_owner
    ∙ ap (λ y. dotted_told w at i (class_name_of (in_body w h held) (bare_name a)) y ts) of_x
    ∙ ap (dotted_told w at i (class_name_of (in_body w h held) (bare_name a)) (told (seen a (in_body w h held)))) of_ts
    ∙ sym (told-dotted w at i (class_name_of (in_body w h held) (bare_name a)) (seen a (in_body w h held)) (seen_from (Stands no_arguments) args (in_body w h held)))

pub told-valued : (s : Seen Called) (c : Result Called Fault) → c ≡ told s → value_told c ≡ told (valued s)
told-valued s c is = ap value_told is ∙ sym (told-over s (λ x. call_value x x.result))

pub ruleset java_arms = (java_lemmas, told-minus, wholes)

pub ruleset jml_arms = (jml_lemmas, told-minus, wholes)
