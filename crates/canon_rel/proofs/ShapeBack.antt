-- A reading that shows a start whose values have their kinds has the shape of a start.
use Rattle.std.proofs.Common.{◌≡◌, ℕ, ◌-◌, ◌<◌, Bool, true, false, not, ◌&&◌, ◌||◌, length, Option, Some, None, inl, inr, refl, sym, ap, subst, ◌∙◌, arith}
use Rattle.std.specs.Prelude.{◌==◌, if◌then◌else◌, slice_get}
use Rattle.std.specs.List.{list_all, range_with_len}
use Rattle.std.specs.Option.{option_map_or}
use Rattle.std.specs.Cmp.Lexicographic.{pointwise}
use Rattle.std.proofs.lemmas.Bool.{lt-ltb, ltb-true, false≢true, cases_eq, cases_Bool, and_from, eq-eqb, or_left, or_right}
use Rattle.taco_unit.specs.declared.kind.Kind.{Kind}
use Rattle.taco_unit.specs.declared.kind.Kind.TheVariants as kind
use Rattle.taco_unit.specs.declared.unit.FieldDef.{FieldDef}
use Rattle.taco_unit.specs.declared.unit.MethodDef.{MethodDef}
use Rattle.taco_unit.specs.declared.unit.ParamDef.{ParamDef}
use Rattle.taco_unit.specs.Kinds.{is_class_kind}
use Rattle.taco_unit.specs.Well.{IsWell}
use Rattle.heap_core.specs.declared.value.Value.{Value}
use Rattle.heap_core.specs.declared.value.Value.TheVariants.{Null, Obj, Num, Flag}
use Rattle.heap_core.specs.declared.value.Seen.{Seen}
use Rattle.heap_core.specs.declared.value.Seen.TheVariants.{Is, Bad, Out}
use Rattle.heap_core.specs.declared.start.Start.{Start}
use Rattle.heap_core.specs.Posed.{Posed}
use Rattle.heap_core.specs.Outcomes.{gives}
use Rattle.heap_core.specs.Heap.{is_of, field}
use Rattle.heap_core.specs.Start.{is_receiver, is_argument, has_kind, method_of}
use Rattle.heap_core.proofs.GivenFields.{IsGiven, field_given, gives_kind}
use Rattle.rel_core.specs.declared.relation.RelVar.{RelVar}
use Rattle.rel_core.specs.declared.indices.Indices.{Indices}
use Rattle.rel_core.specs.Reading.{Reading, numbers_below}
use Rattle.rel_core.specs.Shown.{ShowsStart, ShowsValue, live_relation, field_relation, slot_relation}
use Rattle.rel_core.specs.Laws.{is_of_shown}
use Rattle.rel_core.proofs.Read.{heaps_are_read}
use Rattle.rel_core.proofs.StatesShown.{kind_of_given}
use Rattle.canon_rel.specs.Canonical.{HasKinds}
use Rattle.canon_rel.specs.Shape.{is_one_object, is_one_value, is_nothing, is_next, on_class, field_fits, fields_fit, argument_fits, receiver_fits, roots_fit, has_shape}
use Rattle.canon_rel.proofs.OneValue.{may_be, each_number, nothing_from, object_from, value_from}
use Rattle.canon_rel.proofs.PlacesShown.{argument_value, receiver_value}

module _ (p : Posed) (m : Reading) (at : Indices) (s : Start) (well : IsWell p.unit) (few : m.objects ≡ p.scope.objects) (shown : ShowsStart p m at s) (kinds : HasKinds s p) where
  of_class : (c o : ℕ) → is_of s.objects c o ≡ is_of_shown m at c o
  of_class = (heaps_are_read p.unit m at s.objects well shown.heap).objects

  -- a value of a class kind that is shown is one value
  one_value : (c : ℕ) (r : RelVar) (o : ℕ) (v : Value) → ShowsValue m (kind.Ref c) r o v → has_kind p.scope.ints s.objects (kind.Ref c) v ≡ true → is_one_value m at c (m.refs r o) ≡ true
  one_value c r o v value has = value_from m at c (m.refs r o) (record { value = v; below = value.0; alone = value.1; allowed = go v has })
    where
      go : (v : Value) → has_kind p.scope.ints s.objects (kind.Ref c) v ≡ true → may_be m at c v ≡ true
      go Null has = refl
      go (Obj q) has = sym (of_class c q) ∙ has
      go (Num z) has = absurd (false≢true has)
      go (Flag b) has = absurd (false≢true has)

  nexts : list_all (is_next at m) (numbers_below p.scope.objects) ≡ true
  nexts = each_number (is_next at m) p.scope.objects (λ o inside. elim (cases_eq o 0) [
    | inl same ↦ or_left (o == 0 || not (m.flag (live_relation at) o)) (m.flag (live_relation at) (o - 1)) (or_left (o == 0) (not (m.flag (live_relation at) o)) (eq-eqb o 0 same))
    | inr apart ↦ elim (cases_Bool (m.flag (live_relation at) o)) [
      | inl live ↦
          let within : o < length s.objects = ltb-true o (length s.objects) (sym (shown.heap.live o) ∙ live) in
          or_right (o == 0 || not (m.flag (live_relation at) o)) (m.flag (live_relation at) (o - 1)) (shown.heap.live (o - 1) ∙ lt-ltb (o - 1) (length s.objects) (omega (arith, within)))
      | inr dead ↦ or_left (o == 0 || not (m.flag (live_relation at) o)) (m.flag (live_relation at) (o - 1)) (or_right (o == 0) (not (m.flag (live_relation at) o)) (ap not dead))
    ]
  ])

  field_is : (o f : ℕ) (g : FieldDef) (k : Kind) → slice_get p.unit.fields f ≡ Some g → g.kind ≡ k
      → on_class k (λ c. if is_of_shown m at g.class o then is_one_value m at c (m.refs (field_relation at f) o) else is_nothing m (m.refs (field_relation at f) o)) ≡ true
  field_is o f g kind.Int there same = refl
  field_is o f g kind.Flag there same = refl
  field_is o f g (kind.Ref c) there same = elim (cases_Bool (is_of_shown m at g.class o)) [
    | inl here ↦ rw here (at_own here)
    | inr other ↦ rw other (nothing_from m at c (m.refs (field_relation at f) o) (at_other other))
  ]
    where
      given : IsGiven p.scope.ints s.objects g o (field p.unit.classes s.objects f (Obj o))
      given = field_given p.unit well p.scope.ints s.objects kinds.objects_whole f g there o

      at_own : is_of_shown m at g.class o ≡ true → is_one_value m at c (m.refs (field_relation at f) o) ≡ true
      at_own here =
          let of : is_of s.objects g.class o ≡ true = of_class g.class o ∙ here in
          let cell = shown.heap.cells f g o there of in
          one_value c (field_relation at f) o cell.value (subst (λ k. ShowsValue m k (field_relation at f) o cell.value) same cell.shown)
          (ap (λ k. has_kind p.scope.ints s.objects k cell.value) (sym same) ∙ kind_of_given p.scope.ints s.objects g o (field p.unit.classes s.objects f (Obj o)) given cell.value cell.is)

      at_other : is_of_shown m at g.class o ≡ false → (v : Value) → m.refs (field_relation at f) o v ≡ false
      at_other other v = shown.heap.links f g o v there (ap is_class_kind same) ∙ lacks (field p.unit.classes s.objects f (Obj o)) refl
        where
          lacks : (e : Seen) → field p.unit.classes s.objects f (Obj o) ≡ e → gives v e ≡ false
          lacks (Is w) is =
              absurd (false≢true (sym (of_class g.class o ∙ other) ∙ sym given.value ∙ ap (gives_kind p.scope.ints s.objects g.kind) is
              ∙ kind_of_given p.scope.ints s.objects g o (field p.unit.classes s.objects f (Obj o)) given w is))
          lacks Bad is = refl
          lacks Out is = refl

  fields : list_all (fields_fit p at m) (numbers_below p.scope.objects) ≡ true
  fields = each_number (fields_fit p at m) p.scope.objects
      (λ o inside. each_number (λ f. option_map_or (field_fits at m o f) (slice_get p.unit.fields f) true) (length p.unit.fields) (λ f within. go o f (slice_get p.unit.fields f) refl))
    where
      go : (o f : ℕ) (g : Option FieldDef) → slice_get p.unit.fields f ≡ g → option_map_or (field_fits at m o f) g true ≡ true
      go o f None there = refl
      go o f (Some g) there = field_is o f g g.kind there refl

  module _ (d : MethodDef) (called : method_of p ≡ Some d) (receiver : is_receiver s.objects d.class d.fixed s.this ≡ true)
      (arguments : pointwise (is_argument p.scope.ints s.objects) d.params s.args ≡ true) where
    receiver_is : receiver_fits at m d ≡ true
    receiver_is = go d.fixed refl receiver
      where
        object : (v : Value) → s.this ≡ v → d.fixed ≡ false → is_receiver s.objects d.class false v ≡ true → is_one_object m at d.class (m.refs (slot_relation at (length d.params)) 0) ≡ true
        object (Obj o) same instance is =
            let value = subst (ShowsValue m (kind.Ref d.class) (slot_relation at (length d.params)) 0) same (receiver_value p m at s d called shown receiver arguments instance) in
            object_from m at d.class (m.refs (slot_relation at (length d.params)) 0) o (ltb-true o m.objects value.0) value.1 (sym (of_class d.class o) ∙ is)
        object Null same instance is = absurd (false≢true is)
        object (Num z) same instance is = absurd (false≢true is)
        object (Flag b) same instance is = absurd (false≢true is)

        go : (b : Bool) → d.fixed ≡ b → is_receiver s.objects d.class b s.this ≡ true → (b || is_one_object m at d.class (m.refs (slot_relation at (length d.params)) 0)) ≡ true
        go true fixed is = refl
        go false fixed is = object s.this refl fixed is

    arguments_are : list_all (λ x. option_map_or (argument_fits at m x) (slice_get d.params x) true) (range_with_len 0 (length d.params)) ≡ true
    arguments_are = each_number (λ x. option_map_or (argument_fits at m x) (slice_get d.params x) true) (length d.params) (λ x within. go x (slice_get d.params x) refl)
      where
        of_kind : (x : ℕ) (q : ParamDef) (k : Kind) → slice_get d.params x ≡ Some q → q.kind ≡ k → on_class k (λ c. is_one_value m at c (m.refs (slot_relation at x) 0)) ≡ true
        of_kind x q kind.Int there same = refl
        of_kind x q kind.Flag there same = refl
        of_kind x q (kind.Ref c) there same =
            let value = argument_value p m at s d called shown receiver arguments x q there in
            one_value c (slot_relation at x) 0 value.value (subst (λ k. ShowsValue m k (slot_relation at x) 0 value.value) same value.is_shown)
            (ap (λ k. has_kind p.scope.ints s.objects k value.value) (sym same) ∙ value.has)

        go : (x : ℕ) (q : Option ParamDef) → slice_get d.params x ≡ q → option_map_or (argument_fits at m x) q true ≡ true
        go x None there = refl
        go x (Some q) there = of_kind x q q.kind there refl

    roots_are : roots_fit at m d ≡ true
    roots_are = and_from (receiver_fits at m d) (list_all (λ x. option_map_or (argument_fits at m x) (slice_get d.params x) true) (range_with_len 0 (length d.params))) receiver_is arguments_are

  pub shape_from : has_shape p at m ≡ true
  shape_from =
      and_from (list_all (is_next at m) (numbers_below p.scope.objects) && list_all (fields_fit p at m) (numbers_below p.scope.objects)) (option_map_or (roots_fit at m) (method_of p) false)
      (and_from (list_all (is_next at m) (numbers_below p.scope.objects)) (list_all (fields_fit p at m) (numbers_below p.scope.objects)) nexts fields)
      (go (method_of p) refl kinds.receiver kinds.arguments)
    where
      go : (d : Option MethodDef) → method_of p ≡ d
          → option_map_or (λ (m : MethodDef). is_receiver s.objects m.class m.fixed s.this) d false ≡ true
          → option_map_or (λ (m : MethodDef). pointwise (is_argument p.scope.ints s.objects) m.params s.args) d false ≡ true
          → option_map_or (roots_fit at m) d false ≡ true
      go None called receiver arguments = absurd (false≢true receiver)
      go (Some d) called receiver arguments = roots_are d called receiver arguments
