-- A reading with the shape of a start shows `start_of`, whose values have their kinds.
use Rattle.std.proofs.Common.{◌≡◌, ℕ, zero, suc, ◌+◌, ◌-◌, Bool, true, false, ◌&&◌, ◌||◌, List, [], ◌∷◌, ◌++◌, length, Some, inl, inr, refl, sym, ap, subst, ◌∙◌, arith, get_or}
use Rattle.std.specs.Prelude.{if◌then◌else◌, slice_get, option_map}
use Rattle.std.specs.List.{list_all, range_with_len}
use Rattle.std.specs.Option.{option_map_or}
use Rattle.std.specs.Cmp.Lexicographic.{pointwise}
use Rattle.std.proofs.lemmas.Bool.{lt-ltb, cases_lt, and_parts, and_from}
use Rattle.std.proofs.lemmas.Option.{slice_get_within, slice_get-get_or, slice_get-map, get_or_from_slice_get, same_Some, none-some}
use Rattle.std.proofs.lemmas.List.{length-map, get_or_append_left}
use Rattle.std.proofs.lemmas.List.FromFn.{length-range_with_len}
use Rattle.std.proofs.Math.Seq.{get_or-append_seam}
use Rattle.taco_unit.specs.declared.kind.Kind.{Kind}
use Rattle.taco_unit.specs.declared.kind.Kind.TheVariants as kind
use Rattle.taco_unit.specs.declared.unit.MethodDef.{MethodDef}
use Rattle.taco_unit.specs.declared.unit.ParamDef.{ParamDef}
use Rattle.taco_unit.specs.Well.{IsWell, param_kinds}
use Rattle.heap_core.specs.declared.value.Value.{Value}
use Rattle.heap_core.specs.declared.value.Value.TheVariants.{Null, Obj}
use Rattle.heap_core.specs.Posed.{Posed, InRange}
use Rattle.heap_core.specs.Heap.{Heap}
use Rattle.heap_core.specs.Start.{is_receiver, is_argument, has_kind, method_of}
use Rattle.heap_core.proofs.Lists.{slice_get-append_left, slice_get-append_right}
use Rattle.canonical_order.proofs.Counting.{slice_get-range}
use Rattle.rel_core.specs.declared.indices.Indices.{Indices}
use Rattle.rel_core.specs.Reading.{Reading, numbers_below}
use Rattle.rel_core.specs.Uses.{Kinds, GivesStart, receiver_kinds, use_of, use_of_kind, IsOf}
use Rattle.rel_core.specs.declared.relation.What.TheVariants as what
use Rattle.rel_core.specs.Shown.{ShowsStart, ShowsValue, slot_relation, variable_shown, heap_shown, arguments_shown, receiver_shown, start_of}
use Rattle.canon_rel.specs.Canonical.{HasKinds}
use Rattle.canon_rel.specs.Shape.{is_one_object, is_one_value, is_next, on_class, fields_fit, argument_fits, receiver_fits, roots_fit, has_shape}
use Rattle.canon_rel.proofs.OneValue.{IsOneValue, IsOneObject, value_told, object_told, all_numbers}
use Rattle.canon_rel.proofs.ReadingOf.{refs_references, method_there}
use Rattle.canon_rel.proofs.ShapeHeap.{IsOneIf, only_first, value_is_shown, objects_whole, heap_is_shown, few_objects, value_kind, of_class_shown}

-- two lists as long go side by side where their items do
beside_from : {A B : Type 0} (fits : A → B → Bool) (xs : List A) (ys : List B) → length xs ≡ length ys
    → ((i : ℕ) (x : A) (y : B) → slice_get xs i ≡ Some x → slice_get ys i ≡ Some y → fits x y ≡ true) → pointwise fits xs ys ≡ true
beside_from fits [] [] long each = refl
beside_from fits [] (y ∷ ys) long each = absurd (omega (arith, long))
beside_from fits (x ∷ xs) [] long each = absurd (omega (arith, long))
beside_from fits (x ∷ xs) (y ∷ ys) long each =
    and_from (fits x y) (pointwise fits xs ys) (each 0 x y refl refl) (beside_from fits xs ys (omega (arith, long)) (λ i z w here there. each (suc i) z w here there))

module _ (p : Posed) (m : Reading) (at : Indices) (well : IsWell p.unit) (range : InRange p) (kinds : Kinds) (gives : GivesStart p kinds) (of : IsOf p kinds m) (d : MethodDef)
    (called : method_of p ≡ Some d)
    (nexts : list_all (is_next at m) (numbers_below p.scope.objects) ≡ true) (fields : list_all (fields_fit p at m) (numbers_below p.scope.objects) ≡ true) (roots : roots_fit at m d ≡ true) where
  abbrev heap : Heap
  heap = heap_shown p.unit m at

  arguments_fit : list_all (λ x. option_map_or (argument_fits at m x) (slice_get d.params x) true) (range_with_len 0 (length d.params)) ≡ true
  arguments_fit = (and_parts (receiver_fits at m d) (list_all (λ x. option_map_or (argument_fits at m x) (slice_get d.params x) true) (range_with_len 0 (length d.params))) roots).1

  -- ## the arguments

  param_one : (x : ℕ) (q : ParamDef) → slice_get d.params x ≡ Some q → IsOneIf m at q.kind (slot_relation at x) 0
  param_one x q there c class =
      let one = all_numbers (λ x. option_map_or (argument_fits at m x) (slice_get d.params x) true) (length d.params) x arguments_fit (slice_get_within d.params x q there) in
      value_told m at c (m.refs (slot_relation at x) 0) (refs_references p m at well range kinds of (slot_relation at x) 0)
      (sym (ap (λ y. option_map_or (argument_fits at m x) y true) there ∙ ap (λ k. on_class k (λ c. is_one_value m at c (m.refs (slot_relation at x) 0))) class) ∙ one)

  kinds_too : length (param_kinds d) ≡ length d.params
  kinds_too = length-map d.params (λ q. q.kind)

  param_kind : (x : ℕ) (q : ParamDef) → slice_get d.params x ≡ Some q → slice_get (param_kinds d ++ receiver_kinds d) x ≡ Some q.kind
  param_kind x q there =
      slice_get-append_left (param_kinds d) (receiver_kinds d) x (omega (arith, slice_get_within d.params x q there, kinds_too))
      ∙ slice_get-map (λ (q : ParamDef). q.kind) d.params x ∙ ap (option_map (λ (q : ParamDef). q.kind)) there

  kind_known : (x : ℕ) (k : Kind) → slice_get (param_kinds d ++ receiver_kinds d) x ≡ Some k → use_of p kinds (what.Slot x) ≡ Some (use_of_kind k)
  kind_known x k there = ap (option_map use_of_kind) (gives x k (ap (λ d. slice_get (option_map_or (λ (m : MethodDef). param_kinds m ++ receiver_kinds m) d []) x) called ∙ there))

  argument_there : (x : ℕ) (q : ParamDef) → slice_get d.params x ≡ Some q → slice_get (arguments_shown m at d) x ≡ Some (variable_shown m at q.kind x)
  argument_there x q there =
      let shown : ℕ → Value = λ x. option_map_or (λ (q : ParamDef). variable_shown m at q.kind x) (slice_get d.params x) Null in
      slice_get-map shown (numbers_below (length d.params)) x
      ∙ ap (option_map shown) (slice_get-range 0 (length d.params) x (slice_get_within d.params x q there) ∙ ap Some (omega arith))
      ∙ ap (λ y. Some (option_map_or (λ (q : ParamDef). variable_shown m at q.kind x) y Null)) there

  as_many : length (arguments_shown m at d) ≡ length d.params
  as_many = length-map (numbers_below (length d.params)) (λ x. option_map_or (λ (q : ParamDef). variable_shown m at q.kind x) (slice_get d.params x) Null) ∙ length-range_with_len 0 (length d.params)

  arguments_are : pointwise (is_argument p.scope.ints heap) d.params (arguments_shown m at d) ≡ true
  arguments_are = beside_from (is_argument p.scope.ints heap) d.params (arguments_shown m at d) (sym as_many) each
    where
      each : (x : ℕ) (q : ParamDef) (v : Value) → slice_get d.params x ≡ Some q → slice_get (arguments_shown m at d) x ≡ Some v → has_kind p.scope.ints heap q.kind v ≡ true
      each x q v there is =
          let same : variable_shown m at q.kind x ≡ v = same_Some (variable_shown m at q.kind x) v (sym (argument_there x q there) ∙ is) in
          ap (has_kind p.scope.ints heap q.kind) (sym same)
          ∙ value_kind p m at well range kinds of nexts fields q.kind (slot_relation at x) 0 (kind_known x q.kind (param_kind x q there)) (param_one x q there)

  -- ## the receiver

  receiver_one : d.fixed ≡ false → IsOneObject m at d.class (m.refs (slot_relation at (length d.params)) 0)
  receiver_one instance =
      let fit : receiver_fits at m d ≡ true =
      (and_parts (receiver_fits at m d) (list_all (λ x. option_map_or (argument_fits at m x) (slice_get d.params x) true) (range_with_len 0 (length d.params))) roots).0 in
      object_told m at d.class (m.refs (slot_relation at (length d.params)) 0) (refs_references p m at well range kinds of (slot_relation at (length d.params)) 0)
      (sym (ap (λ b. b || is_one_object m at d.class (m.refs (slot_relation at (length d.params)) 0)) instance) ∙ fit)

  receiver_value : d.fixed ≡ false → IsOneIf m at (kind.Ref d.class) (slot_relation at (length d.params)) 0
  receiver_value instance c same =
      let one = receiver_one instance in
      subst (λ c. IsOneValue m at c (m.refs (slot_relation at (length d.params)) 0)) (class_same d.class c same)
      (record { value = Obj one.object; below = lt-ltb one.object m.objects one.inside; alone = one.told; allowed = one.of })
    where
      class_same : (a b : ℕ) → kind.Ref a ≡ kind.Ref b → a ≡ b
      class_same a b same = cc

  receiver_is : is_receiver heap d.class d.fixed (receiver_shown m at d) ≡ true
  receiver_is = go d.fixed refl
    where
      go : (b : Bool) → d.fixed ≡ b → is_receiver heap d.class b (if b then Null else variable_shown m at (kind.Ref d.class) (length d.params)) ≡ true
      go true fixed = refl
      go false fixed =
          let one = receiver_one fixed in
          let same : variable_shown m at (kind.Ref d.class) (length d.params) ≡ Obj one.object =
          only_first (m.refs (slot_relation at (length d.params)) 0) m.objects (Obj one.object) (lt-ltb one.object m.objects one.inside) one.told in
          ap (is_receiver heap d.class false) same ∙ of_class_shown p m at well range kinds of nexts fields d.class one.object ∙ one.of

  -- ## the start

  variable_is : (x : ℕ) (k : Kind) → slice_get (param_kinds d ++ receiver_kinds d) x ≡ Some k
      → ShowsValue m k (slot_relation at x) 0 (get_or (arguments_shown m at d ++ receiver_shown m at d ∷ []) x Null)
  variable_is x k there = elim (cases_lt x (length d.params)) [
    | inl within ↦
        let none : ParamDef = record { name = []; kind = kind.Int; nullable = true } in
        let q : ParamDef = get_or d.params x none in
        let param : slice_get d.params x ≡ Some q = slice_get-get_or d.params x none within in
        let same : q.kind ≡ k = same_Some q.kind k (sym (param_kind x q param) ∙ there) in
        let value : variable_shown m at q.kind x ≡ get_or (arguments_shown m at d ++ receiver_shown m at d ∷ []) x Null =
        sym (get_or_append_left (arguments_shown m at d) (receiver_shown m at d ∷ []) Null x (omega (arith, within, as_many))
        ∙ get_or_from_slice_get (arguments_shown m at d) x (variable_shown m at q.kind x) Null (argument_there x q param))
        in
        subst (λ v. ShowsValue m k (slot_relation at x) 0 v) value
        (subst (λ k. ShowsValue m k (slot_relation at x) 0 (variable_shown m at q.kind x)) same (value_is_shown m at q.kind (slot_relation at x) 0 (param_one x q param)))
    | inr past ↦ behind d.fixed refl (x - length d.params) (omega (arith, past)) there
  ]
    where
      seam : get_or (arguments_shown m at d ++ receiver_shown m at d ∷ []) (length d.params) Null ≡ receiver_shown m at d
      seam = ap (λ x. get_or (arguments_shown m at d ++ receiver_shown m at d ∷ []) x Null) (sym as_many) ∙ get_or-append_seam (arguments_shown m at d) (receiver_shown m at d) [] Null

      behind : (b : Bool) → d.fixed ≡ b → (i : ℕ) → x ≡ length d.params + i → slice_get (param_kinds d ++ (if b then [] else kind.Ref d.class ∷ [])) x ≡ Some k
          → ShowsValue m k (slot_relation at x) 0 (get_or (arguments_shown m at d ++ receiver_shown m at d ∷ []) x Null)
      behind true fixed i place there =
          absurd (none-some k (sym (slice_get-append_right (param_kinds d) [] i ∙ refl) ∙ ap (slice_get (param_kinds d ++ [])) (omega (arith, place, kinds_too)) ∙ there))
      behind false fixed (suc i) place there =
          absurd (none-some k (sym (slice_get-append_right (param_kinds d) (kind.Ref d.class ∷ []) (suc i))
          ∙ ap (slice_get (param_kinds d ++ kind.Ref d.class ∷ [])) (omega (arith, place, kinds_too)) ∙ there))
      behind false fixed zero place there =
          let here : kind.Ref d.class ≡ k = same_Some (kind.Ref d.class) k
          (sym (slice_get-append_right (param_kinds d) (kind.Ref d.class ∷ []) 0) ∙ ap (slice_get (param_kinds d ++ kind.Ref d.class ∷ [])) (omega (arith, place, kinds_too)) ∙ there) in
          let last : x ≡ length d.params = omega (arith, place) in
          let value : variable_shown m at (kind.Ref d.class) (length d.params) ≡ get_or (arguments_shown m at d ++ receiver_shown m at d ∷ []) (length d.params) Null =
          sym (seam ∙ ap (λ b. if b then Null else variable_shown m at (kind.Ref d.class) (length d.params)) fixed)
          in
          subst (λ x. ShowsValue m k (slot_relation at x) 0 (get_or (arguments_shown m at d ++ receiver_shown m at d ∷ []) x Null)) (sym last)
          (subst (λ v. ShowsValue m k (slot_relation at (length d.params)) 0 v) value
          (subst (λ k. ShowsValue m k (slot_relation at (length d.params)) 0 (variable_shown m at (kind.Ref d.class) (length d.params))) here
          (value_is_shown m at (kind.Ref d.class) (slot_relation at (length d.params)) 0 (receiver_value fixed))))

  this_is : (start_of p m at).this ≡ receiver_shown m at d
  this_is = ap (λ d. option_map_or (receiver_shown m at) d Null) called

  args_are : (start_of p m at).args ≡ arguments_shown m at d
  args_are = ap (λ d. option_map_or (arguments_shown m at) d []) called

  pub start_shown : ShowsStart p m at (start_of p m at)
  start_shown = record {
    heap = heap_is_shown p m at well range kinds of nexts fields;
    values = λ x k there.
        let known : slice_get (param_kinds d ++ receiver_kinds d) x ≡ Some k = sym (ap (λ d. slice_get (option_map_or (λ (m : MethodDef). param_kinds m ++ receiver_kinds m) d []) x) called) ∙ there in
        let value : get_or (arguments_shown m at d ++ receiver_shown m at d ∷ []) x Null ≡ get_or ((start_of p m at).args ++ (start_of p m at).this ∷ []) x Null =
        ap (λ d. get_or (option_map_or (arguments_shown m at) d [] ++ option_map_or (receiver_shown m at) d Null ∷ []) x Null) (sym called)
        in
        subst (λ v. ShowsValue m k (slot_relation at x) 0 v) value (variable_is x k known);
  }

  pub start_has_kinds : HasKinds (start_of p m at) p
  start_has_kinds = record {
    few_objects = few_objects p m at well range kinds of nexts fields;
    objects_whole = objects_whole p m at well range kinds of nexts fields;
    receiver = ap (λ x. option_map_or (λ (e : MethodDef). is_receiver heap e.class e.fixed (start_of p m at).this) x false) called ∙ ap (is_receiver heap d.class d.fixed) this_is ∙ receiver_is;
    arguments = ap (λ x. option_map_or (λ (e : MethodDef). pointwise (is_argument p.scope.ints heap) e.params (start_of p m at).args) x false) called
        ∙ ap (pointwise (is_argument p.scope.ints heap) d.params) args_are ∙ arguments_are;
  }

-- a reading of the problem with the shape of a start
pub record TellsStart (p : Posed) (m : Reading) (at : Indices) : Type 0 where
  pub shown : ShowsStart p m at (start_of p m at)
  pub kinded : HasKinds (start_of p m at) p

pub start_told : (p : Posed) (m : Reading) (at : Indices) → IsWell p.unit → InRange p → (kinds : Kinds) → GivesStart p kinds → IsOf p kinds m → has_shape p at m ≡ true → TellsStart p m at
start_told p m at well range kinds gives of shape =
    let outer = and_parts (list_all (is_next at m) (numbers_below p.scope.objects) && list_all (fields_fit p at m) (numbers_below p.scope.objects))
    (option_map_or (roots_fit at m) (method_of p) false) shape in
    let inner = and_parts (list_all (is_next at m) (numbers_below p.scope.objects)) (list_all (fields_fit p at m) (numbers_below p.scope.objects)) outer.0 in
    let method = method_there p m at well range kinds of in
    let roots : roots_fit at m method.0 ≡ true = sym (ap (λ d. option_map_or (roots_fit at m) d false) method.1) ∙ outer.1 in
    record {
      shown = start_shown p m at well range kinds gives of method.0 method.1 inner.0 inner.1 roots;
      kinded = start_has_kinds p m at well range kinds gives of method.0 method.1 inner.0 inner.1 roots;
    }
