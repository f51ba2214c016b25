-- The places of a problem are used by their kinds.
use Rattle.std.proofs.Common.{◌≡◌, ℕ, zero, suc, ◌+◌, ◌≤◌, Bool, true, false, not, List, [], ◌∷◌, ◌++◌, length, Option, Some, None, refl, sym, ap, ◌∙◌, arith}
use Rattle.std.specs.Prelude.{nat_lt, map, flat_map, slice_get, option_map}
use Rattle.std.specs.List.{list_all, range_with_len}
use Rattle.std.specs.Option.{option_map_or}
use Rattle.std.proofs.lemmas.Bool.{lt-ltb, false≢true, and_parts, and_from}
use Rattle.std.proofs.lemmas.Option.{slice_get_within, slice_get-map}
use Rattle.std.proofs.lemmas.List.{length-map}
use Rattle.std.proofs.lemmas.List.Concat.{flat_map-cons}
use Rattle.std.proofs.lemmas.List.Folds.{list_all-append}
use Rattle.taco_unit.specs.declared.kind.Kind.{Kind}
use Rattle.taco_unit.specs.declared.kind.Kind.TheVariants as kind
use Rattle.taco_unit.specs.declared.unit.FieldDef.{FieldDef}
use Rattle.taco_unit.specs.declared.unit.MethodDef.{MethodDef}
use Rattle.taco_unit.specs.declared.unit.ParamDef.{ParamDef}
use Rattle.taco_unit.specs.Kinds.{is_class_kind}
use Rattle.taco_unit.specs.Well.{param_kinds}
use Rattle.taco_unit.proofs.Lists.{append_last}
use Rattle.heap_core.specs.Posed.{Posed}
use Rattle.heap_core.specs.Start.{method_of}
use Rattle.heap_core.proofs.Lists.{all_filtered, slice_get-append_left}
use Rattle.canonical_order.specs.Tuples.{is_root, roots_of, is_link, links_of}
use Rattle.rel_core.specs.declared.indices.Indices.{Indices}
use Rattle.rel_core.specs.Uses.{Kinds, AsSet, GivesStart, receiver_kinds, same_use, use_of_kind, is_variable, is_spread}
use Rattle.rel_core.specs.Shown.{field_relation, slot_relation}
use Rattle.canon_rel.specs.declared.places.Place.TheVariants as place
use Rattle.canon_rel.specs.Places.{is_within, is_sorted_place, root_place, root_places, field_places, places_below}

-- ## lists

all_of_flat : {A B : Type 0} (t : A → Bool) (f : B → List A) (q : B → Bool) (ys : List B) → ((y : B) → q y ≡ true → list_all t (f y) ≡ true) → list_all q ys ≡ true → list_all t (flat_map f ys) ≡ true
all_of_flat t f q [] each all = refl
all_of_flat t f q (y ∷ ys) each all =
    let parts = and_parts (q y) (list_all q ys) all in
    ap (list_all t) (flat_map-cons f y ys) ∙ list_all-append t (f y) (flat_map f ys) ∙ and_from (list_all t (f y)) (list_all t (flat_map f ys)) (each y parts.0) (all_of_flat t f q ys each parts.1)

all_of_map : {A B : Type 0} (t : A → Bool) (f : B → A) (q : B → Bool) (ys : List B) → ((y : B) → q y ≡ true → t (f y) ≡ true) → list_all q ys ≡ true → list_all t (map f ys) ≡ true
all_of_map t f q [] each all = refl
all_of_map t f q (y ∷ ys) each all =
    let parts = and_parts (q y) (list_all q ys) all in
    and_from (t (f y)) (list_all t (map f ys)) (each y parts.0) (all_of_map t f q ys each parts.1)

below_all : (n a k : ℕ) → a + k ≤ n → list_all (λ o. nat_lt o n) (range_with_len a k) ≡ true
below_all n a zero few = refl
below_all n a (suc k) few = and_from (nat_lt a n) (list_all (λ o. nat_lt o n) (range_with_len (a + 1) k)) (lt-ltb a n (omega (arith, few))) (below_all n (a + 1) k (omega (arith, few)))

-- ## relations

set_use : (k : Kind) → is_class_kind k ≡ true → same_use AsSet (use_of_kind k) ≡ true
set_use (kind.Ref c) link = refl
set_use kind.Int link = absurd (false≢true link)
set_use kind.Flag link = absurd (false≢true link)

pub variable_sorted : (p : Posed) (kinds : Kinds) (at : Indices) (x : ℕ) (k : Kind) → kinds x ≡ Some k → is_class_kind k ≡ true → is_variable p kinds AsSet (slot_relation at x) ≡ true
variable_sorted p kinds at x k known link = ap (λ k. option_map_or (same_use AsSet) (option_map use_of_kind k) false) known ∙ set_use k link

pub field_sorted : (p : Posed) (kinds : Kinds) (at : Indices) (f : ℕ) (d : FieldDef) → slice_get p.unit.fields f ≡ Some d → is_class_kind d.kind ≡ true
    → is_spread p kinds AsSet (field_relation at f) ≡ true
field_sorted p kinds at f d there link = ap (λ d. option_map_or (same_use AsSet) (option_map (λ (d : FieldDef). use_of_kind d.kind) d) false) there ∙ set_use d.kind link

module _ (p : Posed) (kinds : Kinds) (gives : GivesStart p kinds) (d : MethodDef) (called : method_of p ≡ Some d) where
  known : (x : ℕ) (k : Kind) → slice_get (param_kinds d ++ receiver_kinds d) x ≡ Some k → kinds x ≡ Some k
  known x k there = gives x k (ap (λ d. slice_get (option_map_or (λ (m : MethodDef). param_kinds m ++ receiver_kinds m) d []) x) called ∙ there)

  pub param_known : (x : ℕ) (q : ParamDef) → slice_get d.params x ≡ Some q → kinds x ≡ Some q.kind
  param_known x q there =
      known x q.kind
      (slice_get-append_left (param_kinds d) (receiver_kinds d) x (omega (arith, slice_get_within d.params x q there, length-map d.params (λ q. q.kind)))
      ∙ slice_get-map (λ (q : ParamDef). q.kind) d.params x ∙ ap (option_map (λ (q : ParamDef). q.kind)) there)

  pub receiver_known : d.fixed ≡ false → kinds (length d.params) ≡ Some (kind.Ref d.class)
  receiver_known instance =
      known (length d.params) (kind.Ref d.class)
      (rw instance (ap (slice_get (param_kinds d ++ kind.Ref d.class ∷ [])) (sym (length-map d.params (λ q. q.kind))) ∙ append_last (param_kinds d) (kind.Ref d.class)))

  root_sorted : (at : Indices) (r : ℕ) → is_root d r ≡ true → is_sorted_place p kinds (root_place at d r) ≡ true
  root_sorted at zero root = variable_sorted p kinds at (length d.params) (kind.Ref d.class) (receiver_known (instance d.fixed root)) refl
    where
      instance : (b : Bool) → not b ≡ true → b ≡ false
      instance true is = absurd (false≢true is)
      instance false is = refl
  root_sorted at (suc i) root = go (slice_get d.params i) refl root
    where
      go : (q : Option ParamDef) → slice_get d.params i ≡ q → option_map_or (λ (q : ParamDef). is_class_kind q.kind) q false ≡ true → is_sorted_place p kinds (root_place at d (suc i)) ≡ true
      go None there link = absurd (false≢true link)
      go (Some q) there link = variable_sorted p kinds at i q.kind (param_known i q there) link

-- ## the places below an object

link_sorted : (p : Posed) (kinds : Kinds) (at : Indices) (o f : ℕ) → nat_lt o p.scope.objects ≡ true → is_link p.unit f ≡ true → is_sorted_place p kinds (place.Field (field_relation at f) o) ≡ true
link_sorted p kinds at o f below link = go (slice_get p.unit.fields f) refl link
  where
    go : (d : Option FieldDef) → slice_get p.unit.fields f ≡ d → option_map_or (λ (d : FieldDef). is_class_kind d.kind) d false ≡ true
        → is_sorted_place p kinds (place.Field (field_relation at f) o) ≡ true
    go None there link = absurd (false≢true link)
    go (Some d) there link = and_from (nat_lt o p.scope.objects) (is_spread p kinds AsSet (field_relation at f)) below (field_sorted p kinds at f d there link)

pub places_sorted : (p : Posed) (kinds : Kinds) (at : Indices) (n : ℕ) → GivesStart p kinds → n ≤ p.scope.objects → list_all (is_sorted_place p kinds) (places_below p at n) ≡ true
places_sorted p kinds at n gives few =
    list_all-append (is_sorted_place p kinds) (root_places p at) (flat_map (field_places p at) (range_with_len 0 n))
    ∙ and_from (list_all (is_sorted_place p kinds) (root_places p at)) (list_all (is_sorted_place p kinds) (flat_map (field_places p at) (range_with_len 0 n))) (roots (method_of p) refl) fields
  where
    roots : (d : Option MethodDef) → method_of p ≡ d → list_all (is_sorted_place p kinds) (option_map_or (λ (d : MethodDef). map (root_place at d) (roots_of d)) d []) ≡ true
    roots None called = refl
    roots (Some d) called = all_of_map (is_sorted_place p kinds) (root_place at d) (is_root d) (roots_of d) (root_sorted p kinds gives d called at)
        (all_filtered (is_root d) (range_with_len 0 (length d.params + 1)))

    fields : list_all (is_sorted_place p kinds) (flat_map (field_places p at) (range_with_len 0 n)) ≡ true
    fields =
        all_of_flat (is_sorted_place p kinds) (field_places p at) (λ o. nat_lt o p.scope.objects) (range_with_len 0 n)
        (λ o below. all_of_map (is_sorted_place p kinds) (λ f. place.Field (field_relation at f) o) (is_link p.unit) (links_of p.unit) (λ f link. link_sorted p kinds at o f below link)
        (all_filtered (is_link p.unit) (range_with_len 0 (length p.unit.fields))))
        (below_all p.scope.objects 0 n (omega (arith, few)))

pub places_within : (p : Posed) (at : Indices) (n objects : ℕ) → n ≤ objects → list_all (is_within objects) (places_below p at n) ≡ true
places_within p at n objects few =
    list_all-append (is_within objects) (root_places p at) (flat_map (field_places p at) (range_with_len 0 n))
    ∙ and_from (list_all (is_within objects) (root_places p at)) (list_all (is_within objects) (flat_map (field_places p at) (range_with_len 0 n))) (roots (method_of p)) fields
  where
    roots : (d : Option MethodDef) → list_all (is_within objects) (option_map_or (λ (d : MethodDef). map (root_place at d) (roots_of d)) d []) ≡ true
    roots None = refl
    roots (Some d) = all_of_map (is_within objects) (root_place at d) (is_root d) (roots_of d) (λ r root. refl) (all_filtered (is_root d) (range_with_len 0 (length d.params + 1)))

    fields : list_all (is_within objects) (flat_map (field_places p at) (range_with_len 0 n)) ≡ true
    fields =
        all_of_flat (is_within objects) (field_places p at) (λ o. nat_lt o objects) (range_with_len 0 n)
        (λ o below. all_of_map (is_within objects) (λ f. place.Field (field_relation at f) o) (is_link p.unit) (links_of p.unit) (λ f link. below)
        (all_filtered (is_link p.unit) (range_with_len 0 (length p.unit.fields))))
        (below_all objects 0 n (omega (arith, few)))
