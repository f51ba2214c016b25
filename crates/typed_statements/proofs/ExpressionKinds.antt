-- An expression that stands has its kind.
use Rattle.std.proofs.Common.{◌≡◌, ◌≤◌, ◌<◌, ◌+◌, ℕ, zero, suc, Bool, true, false, List, [], ◌∷◌, ◌++◌, Option, None, Some, length, refl, ap, sym, ◌∙◌, subst, eq-eqb, lt-ltb, arith, inl, inr}
use Rattle.std.specs.Prelude.{map, slice_get, option_map, ◌&&◌, ◌==◌, not, nat_lt, is_some, is_none, ◌⊎◌}
use Rattle.std.specs.List.{list_all}
use Rattle.std.specs.Option.{option_map_or, unwrap_or}
use Rattle.std.proofs.lemmas.Bool.{eqb-true}
use Rattle.std.proofs.lemmas.List.{map-append, length-append}
use Rattle.java_tree.specs.declared.names.Ident.{Ident}
use Rattle.java_tree.specs.Trees.{Expr as Tree, num, flag, null, this, outcome, make, named, call, read, call_on, paren, negation, minus, bin, old, quant, quant_in, has, size, Exprs, none, also}
use Rattle.taco_unit.specs.declared.kind.Kind.TheVariants as uk
use Rattle.taco_unit.specs.declared.expr.Expr.TheVariants as e
use Rattle.taco_unit.specs.Kinds.{Around, Sort as UnitSort, Of, suits, where_, sort_of_kind, sort_of_class, sort_of, past as unit_past, with_bound, in_exit, in_clause as in_clause_form, in_code as in_code_form, is_condition, is_object_of, is_link, has_sort, size_sort, same_kind}
use Rattle.taco_unit.proofs.KindForms.{sort_num, sort_flag, sort_null, sort_this, sort_result, sort_bound, sort_new, sort_old, sort_quant, sort_has, sort_size, reach_form, sort_of_reach}
use Rattle.declared_names.specs.declared.fault.Fault.{Fault}
use Rattle.declared_names.specs.declared.fault.Cause.TheVariants.{Unknown, Kinds, Twice, TooMany}
use Rattle.refusals.specs.declared.refusal.Many.TheVariants.{Quantifiers}
use Rattle.declared_names.specs.declared.sort.Sort.{Sort}
use Rattle.declared_names.specs.declared.sort.Sort.TheVariants.{Loose, Null, Int, Flag, Object}
use Rattle.typed_forms.specs.declared.typed.Typed.{Typed}
use Rattle.typed_forms.specs.declared.typed.Called.{Called}
use Rattle.typed_forms.specs.declared.typed.Given.{Given}
use Rattle.typed_forms.specs.declared.typed.Arguments.{Arguments}
use Rattle.declared_names.specs.declared.world.World.{World}
use Rattle.declared_names.specs.declared.world.Slot.{Slot}
use Rattle.declared_names.specs.declared.world.Declared.{Declared}
use Rattle.declared_names.specs.Faults.{check, fault}
use Rattle.declared_names.specs.Seen.{Seen, Stands, faulty, over, over_two}
use Rattle.declared_names.specs.Sorts.{is_object}
use Rattle.declared_names.specs.Lookups.{Scope, place_in, field_slot, local_slot, declared_slot, method_of}
use Rattle.typed_forms.specs.Operators.{typed, wants, literal}
use Rattle.typed_forms.specs.Calls.{byte, place_value, named_value, named_place, class_found, class_of, made, read_place, with_argument, no_arguments, in_code, own_call, class_call, object_call, call_value}
use Rattle.typed_forms.specs.Clauses.{is_clause, is_exit, past, old_of, this_of, result_of, class_sort, variable, with_variable, quantifier_faults, range_faults, quantifier, quantified, link_faults, links_faults, reach_faults, link_number, reached, has_of, size_of}
use Rattle.typed_expressions.specs.Expressions.{literal_of, bare_name, class_name_of, dotted, own_called, valued, seen, seen_from}
use Rattle.typed_statements.specs.Kinds.{kind_of}
use Rattle.typed_statements.proofs.Stand.{OnStands, on_over, on_over_late, on_over_two, on_over_two_late, on_unless, nothing_left, nothing_right, passes, stands}
use Rattle.typed_statements.proofs.Suits.{as_sort, is_known, is_kind, kind_known, kind_sort, same_byte, HasSort, wanted_suits, one_passes}
use Rattle.typed_statements.proofs.OperatorKinds.{clause_form, code_form, exit_form, operated_sort, negated_sort, minus_sort}
use Rattle.taco_unit.proofs.Lists.{append_last}
use Rattle.typed_statements.proofs.Agrees.{BoundAt, Agrees, Knows, declared_at, grown, kept}
use Rattle.typed_statements.proofs.CallKinds.{left_of, right_of, both_of, HasPlace, place_sort, named_placed, read_placed, HaveSorts, HasCall, own_call_sort, class_call_sort, object_call_sort, call_value_sort}

-- a class of the unit
pub class_within : (w : World) (k : Around) (c : ℕ) → Knows w k.unit → c < length k.unit.classes → nat_lt (byte c) (length k.unit.classes) ≡ true
class_within w k c knows within =
    let few : length k.unit.classes ≤ 16 = knows.few in
    lt-ltb (byte c) (length k.unit.classes) (omega arith)

clause_at : (sc : Scope) (k : Around) → Agrees sc k → (s : UnitSort) → is_clause sc.form ≡ true → in_clause_form k.form s ≡ s
clause_at sc k agrees s is = ap (λ f. in_clause_form f s) agrees.form ∙ clause_form sc.form s is

code_at : (sc : Scope) (k : Around) → Agrees sc k → (s : UnitSort) → is_clause sc.form ≡ false → in_code_form k.form s ≡ s
code_at sc k agrees s is = ap (λ f. in_code_form f s) agrees.form ∙ code_form sc.form s is

new_sort : (sc : Scope) (k : Around) (at c : ℕ) → Agrees sc k → c < length k.unit.classes → OnStands (made at (is_clause sc.form) c) (HasSort k)
new_sort sc k at c agrees within =
    on_unless (HasSort k) (check (not (is_clause sc.form)) at Kinds) (typed at (Object c) (e.New (byte c)))
    (λ quiet.
    record {
      sort = sort_new (byte c) k ∙ code_at sc k agrees _ (not_clause (is_clause sc.form) (passes (not (is_clause sc.form)) at Kinds quiet))
          ∙ one_passes (nat_lt (byte c) (length k.unit.classes)) (Of (uk.Ref (byte c))) (class_within sc.world k c agrees.knows within);
      known = refl;
    })
  where
    not_clause : (b : Bool) → not b ≡ true → b ≡ false
    not_clause true is = absurd (cc)
    not_clause false is = refl

found_class : (sc : Scope) (k : Around) (i : Ident) (found : Option ℕ) → Agrees sc k → place_in sc.world.classes 0 i.text ≡ found → OnStands (class_found i found) (λ c. c < length k.unit.classes)
found_class sc k i None agrees is = tt
found_class sc k i (Some c) agrees is = agrees.knows.classes i.text c is

class_stands : (sc : Scope) (k : Around) (i : Ident) → Agrees sc k → OnStands (class_of sc.world i) (λ c. c < length k.unit.classes)
class_stands sc k i agrees = found_class sc k i (place_in sc.world.classes 0 i.text) agrees refl

this_sort : (sc : Scope) (k : Around) (at : ℕ) (static : Bool) → Agrees sc k → sc.here.fixed ≡ static → OnStands (this_of at sc.here.class static) (HasSort k)
this_sort sc k at true agrees is = tt
this_sort sc k at false agrees is = record { sort = sort_this k ∙ ap sort_of_class (agrees.receiver is); known = refl }

result_sorts : (sc : Scope) (k : Around) (at : ℕ) (exit : Bool) (r : Option Sort) → Agrees sc k → is_exit sc.form ≡ exit → sc.here.result ≡ r → OnStands (result_of at exit r) (HasSort k)
result_sorts sc k at true (Some s) agrees is has_ =
    let given = agrees.result s has_ in
    record {
      sort = sort_result k ∙ ap (λ f. in_exit f (sort_of_kind k.result)) agrees.form ∙ exit_form sc.form (sort_of_kind k.result) is ∙ ap sort_of_kind given.0 ∙ sym (kind_sort s given.1);
      known = kind_known s given.1;
    }
result_sorts sc k at true None agrees is has_ = tt
result_sorts sc k at false (Some s) agrees is has_ = tt
result_sorts sc k at false None agrees is has_ = tt

by_bound : (sc : Scope) (k : Around) (at : ℕ) (i : Ident) (found : Option Slot) → Agrees sc k → declared_slot sc.bound i.text ≡ found → OnStands (named_value at found (named_place sc.world sc.here sc.held at i)) (HasSort k)
by_bound sc k at i (Some s) agrees is =
    let found = declared_at sc.bound i.text s is in
    let b = agrees.bound found.0 found.1 found.2 in
    let n : found.1.number ≡ s.number = ap (λ (t : Slot). t.number) found.3 in
    let x : found.1.sort ≡ s.sort = ap (λ (t : Slot). t.sort) found.3 in
    let is_object_ : s.sort ≡ Object b.owner = sym x ∙ b.is in
    record {
      sort = sort_bound (byte s.number) k ∙ ap (λ m. sort_of_class (slice_get k.bound (byte m))) (sym n) ∙ ap sort_of_class b.at ∙ sym (ap as_sort is_object_);
      known = ap is_known is_object_;
    }
by_bound sc k at i None agrees is = on_over (HasPlace k) (HasSort k) (named_place sc.world sc.here sc.held at i) (λ q. Stands (place_value q)) (named_placed sc k at i agrees) (λ p h. place_sort k p h)

-- inside `\old`
past_agrees : (sc : Scope) (k : Around) → Agrees sc k → Agrees (past sc) (unit_past k)
past_agrees sc k agrees =
    record {
      knows = agrees.knows;
      form = refl;
      receiver = agrees.receiver;
      params = λ i s is. let h = agrees.params i s is in record { at = h.at; fixed = h.fixed };
      held = λ i d is. let h = agrees.held i d is in record { at = h.at; fixed = h.fixed };
      result = agrees.result;
      bound = λ i d is. let h = agrees.bound i d is in record { owner = h.owner; is = h.is; at = h.at };
      depth = agrees.depth;
      few = agrees.few;
    }

old_sort : (sc : Scope) (k : Around) (at : ℕ) (x : Typed) → Agrees sc k → HasSort (unit_past k) x → OnStands (old_of at (is_exit sc.form) x) (HasSort k)
old_sort sc k at x agrees h =
    on_unless (HasSort k) (check (is_exit sc.form) at Kinds) (typed at x.sort (e.Old x.expr))
    (λ quiet.
    record {
      sort = sort_old x.expr k ∙ ap (λ f. in_exit f (sort_of x.expr (unit_past k))) agrees.form ∙ exit_form sc.form (sort_of x.expr (unit_past k)) (passes (is_exit sc.form) at Kinds quiet) ∙ h.sort;
      known = h.known;
    })

-- QUANTIFIERS

-- what an own fault of a quantifier leaves out
record NoFaults (sc : Scope) (kind i : Ident) : Type 0 where
  clause : is_clause sc.form ≡ true
  class : is_some (place_in sc.world.classes 0 kind.text) ≡ true
  shallow : not (length sc.bound == 4) ≡ true

no_faults : (sc : Scope) (at : ℕ) (kind i : Ident) → quantifier_faults sc at kind i ≡ [] → NoFaults sc kind i
unfolding quantifier_faults
no_faults sc at kind i quiet =
    let a : List Fault = check (is_clause sc.form) at Kinds in
    let b : List Fault = check (is_some (place_in sc.world.classes 0 kind.text)) kind.at Unknown in
    let c : List Fault = check (is_none (declared_slot sc.bound i.text) && is_none (local_slot sc.here sc.held i.text)) i.at Twice in
    let d : List Fault = check (not (length sc.bound == 4)) at (TooMany Quantifiers) in
    let abc = nothing_left ((a ++ b) ++ c) d quiet in
    let ab = nothing_left (a ++ b) c abc in
    record {
      clause = passes (is_clause sc.form) at Kinds (nothing_left a b ab);
      class = passes (is_some (place_in sc.world.classes 0 kind.text)) kind.at Unknown (nothing_right a b ab);
      shallow = passes (not (length sc.bound == 4)) at (TooMany Quantifiers) (nothing_right ((a ++ b) ++ c) d quiet);
    }

pub the_class : (o : Option ℕ) → is_some o ≡ true → (c : ℕ) × (o ≡ Some c)
the_class None is = absurd (cc)
the_class (Some c) is = (c, refl)

deeper : (n : ℕ) → n ≤ 4 → not (n == 4) ≡ true → n + 1 ≤ 4
deeper zero few is = omega arith
deeper (suc zero) few is = omega arith
deeper (suc (suc zero)) few is = omega arith
deeper (suc (suc (suc zero))) few is = omega arith
deeper (suc (suc (suc (suc zero)))) few is = absurd (cc)
deeper (suc (suc (suc (suc (suc n))))) few is = absurd (omega arith)

small : (n : ℕ) → n ≤ 4 → byte n ≡ n
small n few = omega arith

variable_at : (sc : Scope) (k : Around) (kind i : Ident) (c : ℕ) → Agrees sc k → place_in sc.world.classes 0 kind.text ≡ Some c → BoundAt (with_bound k (byte c)) (variable sc.world sc.bound kind i)
variable_at sc k kind i c agrees is =
    record {
      owner = c;
      is = ap class_sort is;
      at = ap (slice_get (k.bound ++ byte c ∷ [])) (small (length sc.bound) agrees.few ∙ sym agrees.depth) ∙ append_last k.bound (byte c);
    }

variables_at : (sc : Scope) (k : Around) (kind i : Ident) (c j : ℕ) (d : Declared) → Agrees sc k → place_in sc.world.classes 0 kind.text ≡ Some c → (slice_get sc.bound j ≡ Some d) ⊎ (d ≡ variable sc.world sc.bound kind i)
    → BoundAt (with_bound k (byte c)) d
variables_at sc k kind i c j d agrees is (inl before) =
    let h = agrees.bound j d before in record { owner = h.owner; is = h.is; at = kept k.bound (byte c ∷ []) (byte d.number) (byte h.owner) h.at }
variables_at sc k kind i c j d agrees is (inr last) = let P : Declared → Type 0 = λ x. BoundAt (with_bound k (byte c)) x in subst P (sym last) (variable_at sc k kind i c agrees is)

-- inside a quantifier
inner_agrees : (sc : Scope) (k : Around) (kind i : Ident) (c : ℕ) → Agrees sc k → place_in sc.world.classes 0 kind.text ≡ Some c → not (length sc.bound == 4) ≡ true
    → Agrees (with_variable sc kind i) (with_bound k (byte c))
inner_agrees sc k kind i c agrees is shallow =
    record {
      knows = agrees.knows;
      form = agrees.form;
      receiver = agrees.receiver;
      params = λ j s within. let h = agrees.params j s within in record { at = h.at; fixed = h.fixed };
      held = λ j d within. let h = agrees.held j d within in record { at = h.at; fixed = h.fixed };
      result = agrees.result;
      bound = λ j d within. variables_at sc k kind i c j d agrees is (grown sc.bound (variable sc.world sc.bound kind i) j d within);
      depth = length-append k.bound (byte c ∷ []) ∙ ap (λ n. n + 1) agrees.depth ∙ sym (length-append sc.bound (variable sc.world sc.bound kind i ∷ []));
      few = let P : ℕ → Type 0 = λ n. n ≤ 4 in subst P (sym (length-append sc.bound (variable sc.world sc.bound kind i ∷ []))) (deeper (length sc.bound) agrees.few shallow);
    }

four : (a b c d : Bool) → a ≡ true → b ≡ true → c ≡ true → d ≡ true → (a && b && c && d) ≡ true
four true true true true x y z w = refl
four true true true false x y z w = absurd (cc)
four true true false d x y z w = absurd (cc)
four true false c d x y z w = absurd (cc)
four false b c d x y z w = absurd (cc)

three : (a b c : Bool) → a ≡ true → b ≡ true → c ≡ true → (a && b && c) ≡ true
three true true true x y z = refl
three true true false x y z = absurd (cc)
three true false c x y z = absurd (cc)
three false b c x y z = absurd (cc)

-- a range is a condition, where there is one
abbrev RangeIs : Around → Option Typed → Type 0
RangeIs k None = Unit {0}
RangeIs k (Some r) = HasSort k r

range_fits : (k : Around) (range : Option Typed) → RangeIs k range → range_faults range ≡ [] → option_map_or (λ r. is_condition k r) (option_map (λ (r : Typed). r.expr) range) true ≡ true
range_fits k None h quiet = refl
range_fits k (Some r) h quiet = wanted_suits Flag r k refl h quiet

-- a quantifier of no fault, whose parts have their kinds inside it
quantifier_sort : (sc : Scope) (k : Around) (at : ℕ) (all : Bool) (kind i : Ident) (range : Option Typed) (body : Typed) (c : ℕ) → Agrees sc k → place_in sc.world.classes 0 kind.text ≡ Some c → is_clause sc.form ≡ true
    → RangeIs (with_bound k (byte c)) range → range_faults range ≡ [] → HasSort (with_bound k (byte c)) body → wants Flag body ≡ [] → HasSort k (typed at Flag (e.Quant (quantifier sc.world sc.bound all kind range body)))
quantifier_sort sc k at all kind i range body c agrees is clause of_range range_none of_body body_none =
    let class_is : byte (unwrap_or (place_in sc.world.classes 0 kind.text) 0) ≡ byte c = ap (λ o. byte (unwrap_or o 0)) is in
    record {
      sort = sort_quant (quantifier sc.world sc.bound all kind range body) k
          ∙ ap
          (λ n.
          in_clause_form k.form
          (where_
          (nat_lt n (length k.unit.classes) && byte (length sc.bound) == length k.bound && option_map_or (λ r. is_condition (with_bound k n) r) (option_map (λ (r : Typed). r.expr) range) true && is_condition (with_bound k n) body.expr)
          (Of uk.Flag)))
          class_is
          ∙ clause_at sc k agrees _ clause
          ∙ one_passes _ (Of uk.Flag)
          (four (nat_lt (byte c) (length k.unit.classes)) (byte (length sc.bound) == length k.bound) _ (is_condition (with_bound k (byte c)) body.expr)
          (class_within sc.world k c agrees.knows (agrees.knows.classes kind.text c is))
          (eq-eqb (byte (length sc.bound)) (length k.bound) (small (length sc.bound) agrees.few ∙ sym agrees.depth))
          (range_fits (with_bound k (byte c)) range of_range range_none)
          (wanted_suits Flag body (with_bound k (byte c)) refl of_body body_none));
      known = refl;
    }

-- REACH

link_sort : (sc : Scope) (k : Around) (c : ℕ) (f : Ident) (found : Option Slot) → Agrees sc k → field_slot sc.world c f.text ≡ found → link_faults c f found ≡ [] → is_link k.unit (byte c) (link_number found) ≡ true
link_sort sc k c f None agrees is quiet = absurd (cc)
link_sort sc k c f (Some s) agrees is quiet =
    let at = agrees.knows.fields c f.text s is in
    let object = passes (is_object c s.sort) f.at Kinds quiet in
    ap (λ d. option_map_or (λ x. x.class == byte c && same_kind x.kind (uk.Ref (byte c))) d false) at.at
    ∙ both_of (at.def.class == byte c) _ (eq-eqb at.def.class (byte c) at.class) (ap (λ x. same_kind x (uk.Ref (byte c))) at.kind ∙ same_object c s.sort object at.fixed)
  where
    same_object : (d : ℕ) (s : Sort) → is_object d s ≡ true → is_kind s ≡ true → same_kind (kind_of s) (uk.Ref (byte d)) ≡ true
    same_object d Loose is_ fixed = absurd (cc)
    same_object d Null is_ fixed = absurd (cc)
    same_object d Int is_ fixed = absurd (cc)
    same_object d Flag is_ fixed = absurd (cc)
    same_object d (Object o) is_ fixed = eq-eqb (byte o) (byte d) (ap byte (sym (eqb-true d o is_)))

links_sort : (sc : Scope) (k : Around) (c : ℕ) (fs : List Ident) → Agrees sc k → links_faults sc.world c fs ≡ [] → list_all (is_link k.unit (byte c)) (map (λ (f : Ident). link_number (field_slot sc.world c f.text)) fs) ≡ true
links_sort sc k c [] agrees quiet = refl
links_sort sc k c (f ∷ fs) agrees quiet =
    let first = link_sort sc k c f (field_slot sc.world c f.text) agrees refl (nothing_left (link_faults c f (field_slot sc.world c f.text)) (links_faults sc.world c fs) quiet) in
    both_of (is_link k.unit (byte c) (link_number (field_slot sc.world c f.text))) _ first (links_sort sc k c fs agrees (nothing_right (link_faults c f (field_slot sc.world c f.text)) (links_faults sc.world c fs) quiet))

is_object_sort : (c : ℕ) (s : Sort) → is_object c s ≡ true → is_known s ≡ true → is_object_of (byte c) (as_sort s) ≡ true
is_object_sort c Loose is known = absurd (cc)
is_object_sort c Null is known = absurd (cc)
is_object_sort c Int is known = absurd (cc)
is_object_sort c Flag is known = absurd (cc)
is_object_sort c (Object d) is known = same_byte c d is

reached_sort : (sc : Scope) (k : Around) (kind : Ident) (fields : List Ident) (x : Typed) (c : ℕ) → Agrees sc k → place_in sc.world.classes 0 kind.text ≡ Some c → HasSort k x → reach_faults sc.world kind fields x (Some c) ≡ []
    → sort_of_reach (reached sc.world kind fields x c) k ≡ Of (uk.Ref (byte c))
reached_sort sc k kind fields x c agrees is h quiet =
    let start = passes (is_object c x.sort) x.at Kinds (nothing_left (check (is_object c x.sort) x.at Kinds) (links_faults sc.world c fields) quiet) in
    reach_form (reached sc.world kind fields x c) k
    ∙ one_passes _ (Of (uk.Ref (byte c)))
    (three (nat_lt (byte c) (length k.unit.classes)) (is_object_of (byte c) (sort_of x.expr k)) _
    (class_within sc.world k c agrees.knows (agrees.knows.classes kind.text c is))
    (ap (is_object_of (byte c)) h.sort ∙ is_object_sort c x.sort start h.known)
    (links_sort sc k c fields agrees (nothing_right (check (is_object c x.sort) x.at Kinds) (links_faults sc.world c fields) quiet)))

has_by : (sc : Scope) (k : Around) (at : ℕ) (kind : Ident) (fields : List Ident) (x y : Typed) (found : Option ℕ) → Agrees sc k → place_in sc.world.classes 0 kind.text ≡ found → HasSort k x → HasSort k y
    → OnStands (has_of sc.world at (is_clause sc.form) kind fields x y found) (HasSort k)
has_by sc k at kind fields x y None agrees is h i =
    on_unless (HasSort k) _ _
    (λ quiet.
    let impossible = nothing_right (check (is_clause sc.form) at Kinds) (fault kind.at Unknown ∷ []) (nothing_left (check (is_clause sc.form) at Kinds ++ (fault kind.at Unknown ∷ [])) (wants Loose y) quiet) in
    absurd (cc))
has_by sc k at kind fields x y (Some c) agrees is h i =
    on_unless (HasSort k) ((check (is_clause sc.form) at Kinds ++ reach_faults sc.world kind fields x (Some c)) ++ wants (Object c) y) (typed at Flag (e.Has (reached sc.world kind fields x c) y.expr))
    (λ quiet.
    let front = nothing_left (check (is_clause sc.form) at Kinds ++ reach_faults sc.world kind fields x (Some c)) (wants (Object c) y) quiet in
    let clause = passes (is_clause sc.form) at Kinds (nothing_left (check (is_clause sc.form) at Kinds) (reach_faults sc.world kind fields x (Some c)) front) in
    let set = reached_sort sc k kind fields x c agrees is h (nothing_right (check (is_clause sc.form) at Kinds) (reach_faults sc.world kind fields x (Some c)) front) in
    let asked = wanted_suits (Object c) y k refl i (nothing_right (check (is_clause sc.form) at Kinds ++ reach_faults sc.world kind fields x (Some c)) (wants (Object c) y) quiet) in
    record {
      sort = sort_has (reached sc.world kind fields x c) y.expr k ∙ clause_at sc k agrees _ clause ∙ ap (λ s. has_sort s (sort_of y.expr k)) set
          ∙ one_passes (suits (uk.Ref (byte c)) (sort_of y.expr k)) (Of uk.Flag) asked;
      known = refl;
    })

size_by : (sc : Scope) (k : Around) (at : ℕ) (kind : Ident) (fields : List Ident) (x : Typed) (found : Option ℕ) → Agrees sc k → place_in sc.world.classes 0 kind.text ≡ found → HasSort k x
    → OnStands (size_of sc.world at (is_clause sc.form) kind fields x found) (HasSort k)
size_by sc k at kind fields x None agrees is h =
    on_unless (HasSort k) _ _ (λ quiet. let impossible = nothing_right (check (is_clause sc.form) at Kinds) (fault kind.at Unknown ∷ []) quiet in absurd (cc))
size_by sc k at kind fields x (Some c) agrees is h =
    on_unless (HasSort k) (check (is_clause sc.form) at Kinds ++ reach_faults sc.world kind fields x (Some c)) (typed at Int (e.Size (reached sc.world kind fields x c)))
    (λ quiet.
    let clause = passes (is_clause sc.form) at Kinds (nothing_left (check (is_clause sc.form) at Kinds) (reach_faults sc.world kind fields x (Some c)) quiet) in
    let set = reached_sort sc k kind fields x c agrees is h (nothing_right (check (is_clause sc.form) at Kinds) (reach_faults sc.world kind fields x (Some c)) quiet) in
    record { sort = sort_size (reached sc.world kind fields x c) k ∙ clause_at sc k agrees _ clause ∙ ap size_sort set; known = refl })

-- CALLS

-- in code, or no value
valued_sort : (sc : Scope) (k : Around) (at : ℕ) (clause : Bool) (s : Seen Called) → Agrees sc k → is_clause sc.form ≡ clause → OnStands s (HasCall k) → OnStands (valued (in_code at clause s)) (HasSort k)
valued_sort sc k at true s agrees is h = on_over_late (HasSort k) (faulty (fault at Kinds)) (λ c. call_value c c.result) (λ c impossible. absurd (cc))
valued_sort sc k at false s agrees is h =
    on_over (HasCall k) (HasSort k) s (λ c. call_value c c.result) h (λ c of_c. call_value_sort k c of_c (code_at sc k agrees _ is))

all_more : (gs : List Given) (g : Given) → list_all (λ (x : Given). is_known x.sort) gs ≡ true → is_known g.sort ≡ true → list_all (λ (x : Given). is_known x.sort) (gs ++ g ∷ []) ≡ true
all_more [] g all_ one_ = both_of (is_known g.sort) true one_ refl
all_more (x ∷ gs) g all_ one_ = both_of (is_known x.sort) _ (left_of (is_known x.sort) _ all_) (all_more gs g (right_of (is_known x.sort) _ all_) one_)

more_sorts : (k : Around) (ts : Arguments) (t : Typed) → HaveSorts k ts → HasSort k t → HaveSorts k (with_argument ts t)
more_sorts k ts t hs h =
    let one : Given = record { at = t.at; sort = t.sort } in
    record {
      sorts = map-append (λ x. sort_of x k) ts.exprs (t.expr ∷ []) ∙ ap (λ xs. xs ++ sort_of t.expr k ∷ []) hs.sorts ∙ ap (λ x. map (λ (g : Given). as_sort g.sort) ts.given ++ x ∷ []) h.sort
          ∙ sym (map-append (λ (g : Given). as_sort g.sort) ts.given (one ∷ []));
      known = all_more ts.given one hs.known h.known;
    }

pub dotted_sort : (sc : Scope) (k : Around) (at : ℕ) (i : Ident) (owner : Option Ident) (a : Seen Typed) (args : Seen Arguments) → Agrees sc k → OnStands a (HasSort k) → OnStands args (HaveSorts k)
    → OnStands (dotted sc.world at i owner a args) (HasCall k)
dotted_sort sc k at i (Some n) a args agrees h hs =
    on_over_two (λ c. c < length k.unit.classes) (HaveSorts k) (HasCall k) (class_of sc.world n) args (λ c ts. class_call at i ts (method_of sc.world c i)) (class_stands sc k n agrees) hs
    (λ c ts within of_ts. class_call_sort sc k at c i ts agrees of_ts)
dotted_sort sc k at i None a args agrees h hs =
    on_over_two (HasSort k) (HaveSorts k) (HasCall k) a args (λ x ts. object_call sc.world at i x.expr ts x.sort) h hs (λ x ts of_x of_ts. object_call_sort sc k at i x ts agrees of_ts of_x)

-- EVERY FORM

mutual
  pub sorts : (a : Tree) (sc : Scope) (k : Around) → Agrees sc k → OnStands (seen a sc) (HasSort k)
  sorts (num at n) sc k agrees = record { sort = sort_num (literal n) k; known = refl }
  sorts (flag at b) sc k agrees = record { sort = sort_flag b k; known = refl }
  sorts (null at) sc k agrees = record { sort = sort_null k; known = refl }
  sorts (this at) sc k agrees = this_sort sc k at sc.here.fixed agrees refl
  sorts (outcome at) sc k agrees = result_sorts sc k at (is_exit sc.form) sc.here.result agrees refl refl
  sorts (make at i) sc k agrees =
      on_over (λ c. c < length k.unit.classes) (HasSort k) (class_of sc.world i) (made at (is_clause sc.form)) (class_stands sc k i agrees) (λ c within. new_sort sc k at c agrees within)
  sorts (named at i) sc k agrees = by_bound sc k at i (declared_slot sc.bound i.text) agrees refl
  sorts (call at i args) sc k agrees =
      valued_sort sc k at (is_clause sc.form) (own_called sc at i (seen_from (Stands no_arguments) args sc)) agrees refl
      (on_over (HaveSorts k) (HasCall k) (seen_from (Stands no_arguments) args sc) (λ ts. own_call sc.here at i ts (method_of sc.world sc.here.class i)) (sorts_from args (Stands no_arguments) sc k agrees (record { sorts = refl; known = refl }))
      (λ ts of_ts. own_call_sort sc k at i ts agrees of_ts))
  sorts (read at a i) sc k agrees =
      on_over (HasPlace k) (HasSort k) (over (seen a sc) (read_place sc.world at i)) (λ p. Stands (place_value p))
      (on_over (HasSort k) (HasPlace k) (seen a sc) (read_place sc.world at i) (sorts a sc k agrees) (λ x h. read_placed sc.world k at i x agrees.knows h)) (λ p h. place_sort k p h)
  sorts (call_on at a i args) sc k agrees =
      valued_sort sc k at (is_clause sc.form) (dotted sc.world at i (class_name_of sc (bare_name a)) (seen a sc) (seen_from (Stands no_arguments) args sc)) agrees refl
      (dotted_sort sc k at i (class_name_of sc (bare_name a)) (seen a sc) (seen_from (Stands no_arguments) args sc) agrees (sorts a sc k agrees) (sorts_from args (Stands no_arguments) sc k agrees (record { sorts = refl; known = refl })))
  sorts (paren at a) sc k agrees = on_over (HasSort k) (HasSort k) (seen a sc) (λ x. Stands (typed at x.sort x.expr)) (sorts a sc k agrees) (λ x h. record { sort = h.sort; known = h.known })
  sorts (negation at a) sc k agrees = on_over (HasSort k) (HasSort k) (seen a sc) _ (sorts a sc k agrees) (λ x h. negated_sort at x k h)
  sorts (minus at a) sc k agrees = minus_sort at (literal_of a) (seen a sc) k (sorts a sc k agrees)
  sorts (bin at s a b) sc k agrees =
      on_over_two (HasSort k) (HasSort k) (HasSort k) (seen a sc) (seen b sc) _ (sorts a sc k agrees) (sorts b sc k agrees) (λ x y h i. operated_sort at s sc.form x y k agrees.form h i)
  sorts (old at a) sc k agrees =
      on_over (HasSort (unit_past k)) (HasSort k) (seen a (past sc)) (old_of at (is_exit sc.form)) (sorts a (past sc) (unit_past k) (past_agrees sc k agrees)) (λ x h. old_sort sc k at x agrees h)
  sorts (quant at all kind i body) sc k agrees =
      on_over_late (HasSort k) (seen body (with_variable sc kind i)) (quantified sc at all kind i None)
      (λ b is_b.
      on_unless (HasSort k) ((quantifier_faults sc at kind i ++ []) ++ wants Flag b) _
      (λ quiet.
      let front = nothing_left (quantifier_faults sc at kind i ++ []) (wants Flag b) quiet in
      let own = no_faults sc at kind i (nothing_left (quantifier_faults sc at kind i) [] front) in
      let found = the_class (place_in sc.world.classes 0 kind.text) own.class in
      let inner = inner_agrees sc k kind i found.0 agrees found.1 own.shallow in
      let of_body = stands (HasSort (with_bound k (byte found.0))) (seen body (with_variable sc kind i)) b is_b (sorts body (with_variable sc kind i) (with_bound k (byte found.0)) inner) in
      quantifier_sort sc k at all kind i None b found.0 agrees found.1 own.clause tt refl of_body (nothing_right (quantifier_faults sc at kind i ++ []) (wants Flag b) quiet)))
  sorts (quant_in at all kind i range body) sc k agrees =
      on_over_two_late (HasSort k) (seen range (with_variable sc kind i)) (seen body (with_variable sc kind i)) (λ r b. quantified sc at all kind i (Some r) b)
      (λ r b is_r is_b.
      on_unless (HasSort k) ((quantifier_faults sc at kind i ++ wants Flag r) ++ wants Flag b) _
      (λ quiet.
      let front = nothing_left (quantifier_faults sc at kind i ++ wants Flag r) (wants Flag b) quiet in
      let own = no_faults sc at kind i (nothing_left (quantifier_faults sc at kind i) (wants Flag r) front) in
      let found = the_class (place_in sc.world.classes 0 kind.text) own.class in
      let inner = inner_agrees sc k kind i found.0 agrees found.1 own.shallow in
      let of_range = stands (HasSort (with_bound k (byte found.0))) (seen range (with_variable sc kind i)) r is_r (sorts range (with_variable sc kind i) (with_bound k (byte found.0)) inner) in
      let of_body = stands (HasSort (with_bound k (byte found.0))) (seen body (with_variable sc kind i)) b is_b (sorts body (with_variable sc kind i) (with_bound k (byte found.0)) inner) in
      quantifier_sort sc k at all kind i (Some r) b found.0 agrees found.1 own.clause of_range (nothing_right (quantifier_faults sc at kind i) (wants Flag r) front) of_body
      (nothing_right (quantifier_faults sc at kind i ++ wants Flag r) (wants Flag b) quiet)))
  sorts (has at a kind fields b) sc k agrees =
      on_over_two (HasSort k) (HasSort k) (HasSort k) (seen a sc) (seen b sc) _ (sorts a sc k agrees) (sorts b sc k agrees)
      (λ x y h i. has_by sc k at kind fields x y (place_in sc.world.classes 0 kind.text) agrees refl h i)
  sorts (size at a kind fields) sc k agrees =
      on_over (HasSort k) (HasSort k) (seen a sc) _ (sorts a sc k agrees) (λ x h. size_by sc k at kind fields x (place_in sc.world.classes 0 kind.text) agrees refl h)

  pub sorts_from : (args : Exprs) (s : Seen Arguments) (sc : Scope) (k : Around) → Agrees sc k → OnStands s (HaveSorts k) → OnStands (seen_from s args sc) (HaveSorts k)
  sorts_from none s sc k agrees h = h
  sorts_from (also a more) s sc k agrees h =
      sorts_from more (over_two s (seen a sc) (λ ts t. Stands (with_argument ts t))) sc k agrees
      (on_over_two (HaveSorts k) (HasSort k) (HaveSorts k) s (seen a sc) (λ ts t. Stands (with_argument ts t)) h (sorts a sc k agrees) (λ ts t hs h. more_sorts k ts t hs h))
