-- A run of a kinded program keeps the kinds, and its heap only grows.
use Rattle.std.proofs.Common.{◌≡◌, ℕ, ◌≤◌, ◌<◌, true, false, List, [], ◌∷◌, length, Option, Some, None, refl, sym, ◌∙◌, ap, subst, inl, inr, arith}
use Rattle.std.specs.Prelude.{ℤ, ◌==◌, ◌+ℤ◌, ◌-ℤ◌, ◌*ℤ◌, int_lt, if◌then◌else◌, slice_get, option_map, replicate}
use Rattle.std.specs.List.{list_all, AllByRecursion}
use Rattle.std.specs.Option.{option_map_or}
use Rattle.std.proofs.lemmas.Bool.{cases_eq, eq-eqb, ne_eqb, and_parts}
use Rattle.std.proofs.lemmas.Option.{slice_get_within}
use Rattle.taco_unit.specs.declared.kind.Kind.{Kind}
use Rattle.taco_unit.specs.declared.kind.Kind.TheVariants.{Int, Flag, Ref}
use Rattle.taco_unit.specs.declared.unit.FieldDef.{FieldDef}
use Rattle.taco_unit.specs.Well.{IsWell}
use Rattle.heap_core.specs.declared.value.Value.{Value}
use Rattle.heap_core.specs.declared.value.Value.TheVariants as v
use Rattle.heap_core.specs.declared.value.Object.{Object}
use Rattle.heap_core.specs.declared.value.Seen.{Seen}
use Rattle.heap_core.specs.declared.value.Seen.TheVariants.{Is, Bad, Out}
use Rattle.heap_core.specs.Posed.{Posed}
use Rattle.heap_core.specs.Outcomes.{number, flag, on_numbers, same}
use Rattle.heap_core.specs.Heap.{Heap, is_of, class_at, field, put, grown}
use Rattle.heap_core.specs.Start.{has_kind, is_whole}
use Rattle.heap_core.proofs.FieldLaws.{none_some, some_same, Keeps, kind_kept, IsPut, put_is, put_length, put_class, put_whole}
use Rattle.heap_core.proofs.GivenFields.{IsGrown, grown_is, grown_length, grown_class, grown_whole}
use Rattle.dyn_core.specs.declared.prog.Act.{Act}
use Rattle.dyn_core.specs.declared.prog.Act.TheVariants.{Copy, Const, Sum, Diff, Product, Same, Below, Read, Write, Make}
use Rattle.dyn_core.specs.declared.prog.Prog.{Prog}
use Rattle.dyn_core.specs.declared.state.DynState.{DynState}
use Rattle.dyn_core.specs.States.{var_at, with_var}
use Rattle.dyn_core.specs.Actions.{with_given, constant, put_through, acted}
use Rattle.dyn_core.specs.Runs.{Run}
use Rattle.dyn_core.specs.Kinds.{is_var, are_alike, takes_constant, are_numbers, is_kinded_act, is_kinded, HasKinds, KeepsKinds}
use Rattle.dyn_core.specs.Laws.{Chain, RunsKeepKinds}
use Rattle.dyn_core.proofs.Vars.{var_set, var_apart}
use Rattle.dyn_core.proofs.Fitting.{there_passes, var_is, alike_is, first_is, field_is, gives_only, number_only, numbers_only, same_only, constant_only, field_only}
use Rattle.dyn_core.proofs.Forms.{kinded_act, kinded_seq, kinded_choice, kinded_star}
use Rattle.dyn_core.proofs.Induction.{by_form, all_copies, all_passing, at_any}
use Rattle.dyn_core.proofs.Bounds.{cases_of_run}

-- ## heaps

-- an object of a class, by the class at its number
is_of_class : (heap : Heap) (c o : ℕ) → is_of heap c o ≡ option_map_or (λ k. k == c) (class_at heap o) false
is_of_class heap c o = go (slice_get heap o)
  where
    go : (x : Option Object) → option_map_or (λ x. x.class == c) x false ≡ option_map_or (λ k. k == c) (option_map (λ x. x.class) x) false
    go None = refl
    go (Some x) = refl

-- it is still one where its number has the same class
class_kept : (heap after : Heap) (c o : ℕ) → class_at after o ≡ class_at heap o → is_of heap c o ≡ true → is_of after c o ≡ true
class_kept heap after c o same is =
    is_of_class after c o ∙ ap (λ k. option_map_or (λ l. l == c) k false) same ∙ sym (is_of_class heap c o) ∙ is

grown_keeps : {p : Posed} {heap : Heap} {class : ℕ} {after : Heap} → IsGrown p heap class after → Keeps heap after
grown_keeps {p} {heap} {class} {after} g c o is =
    let found = there_passes (λ x. x.class == c) (slice_get heap o) is in
    let low : o < length heap = slice_get_within heap o found.0 found.1 in
    let old : (o == length heap) ≡ false = ne_eqb o (length heap) (λ same. absurd (omega arith)) in
    class_kept heap after c o (grown_class g o ∙ ap (λ b. if b then Some class else class_at heap o) old) is

-- the new object is of its class
grown_new : {p : Posed} {heap : Heap} {class : ℕ} {after : Heap} → IsGrown p heap class after → is_of after class (length heap) ≡ true
grown_new {p} {heap} {class} {after} g =
    let last : (length heap == length heap) ≡ true = eq-eqb (length heap) (length heap) refl in
    let new : class_at after (length heap) ≡ Some class = grown_class g (length heap) ∙ ap (λ b. if b then Some class else class_at heap (length heap)) last in
    is_of_class after class (length heap) ∙ ap (λ k. option_map_or (λ l. l == class) k false) new ∙ eq-eqb class class refl

module _ (p : Posed) (kinds : List Kind) where
  -- ## one action

  stays : (s : DynState) → HasKinds p kinds s → KeepsKinds p kinds s s
  stays s has = record { kinded = has; objects = λ class o is. is }

  -- a variable is set to a value of its kind
  set_kinds :
      (s : DynState) (x : ℕ) (k : Kind) (u : Value)
      → HasKinds p kinds s
      → slice_get kinds x ≡ Some k
      → has_kind p.scope.ints s.objects k u ≡ true
      → HasKinds p kinds (record s { vars = with_var s.vars x u })
  set_kinds s x k u has there of = record {
    vars = λ y l at. elim (cases_eq y x) [
      | inl same ↦
          let one : k ≡ l = some_same (sym there ∙ ap (slice_get kinds) (sym same) ∙ at) in
          let now : var_at (with_var s.vars x u) y ≡ u = ap (var_at (with_var s.vars x u)) same ∙ var_set s.vars x u in
          ap (has_kind p.scope.ints s.objects l) now ∙ subst (λ j. has_kind p.scope.ints s.objects j u ≡ true) one of
      | inr apart ↦ ap (has_kind p.scope.ints s.objects l) (var_apart s.vars x u y apart) ∙ has.vars y l at
    ];
    objects_whole = has.objects_whole;
    few_objects = has.few_objects;
  }

  given_kinds :
      (s t : DynState) (x : ℕ) (k : Kind) (seen : Seen)
      → HasKinds p kinds s
      → slice_get kinds x ≡ Some k
      → gives_only p.scope.ints s.objects k seen ≡ true
      → with_given x s seen ≡ Some t
      → KeepsKinds p kinds s t
  given_kinds s t x k (Is u) has there of is =
      subst (λ z. KeepsKinds p kinds s z) (some_same is) (record { kinded = set_kinds s x k u has there of; objects = λ class o known. known })
  given_kinds s t x k Bad has there of is = absurd (none_some is)
  given_kinds s t x k Out has there of is = absurd (none_some is)

  -- an operator on two numbers
  operated_kinds :
      (s t : DynState) (x y z : ℕ) (k : Kind) (make : ℤ → ℤ → Seen)
      → ((a b : ℤ) → gives_only p.scope.ints s.objects k (make a b) ≡ true)
      → are_numbers kinds x k y z ≡ true
      → HasKinds p kinds s
      → with_given x s (on_numbers make (var_at s.vars y) (var_at s.vars z)) ≡ Some t
      → KeepsKinds p kinds s t
  operated_kinds s t x y z k make each fits has is =
      let only = numbers_only p.scope.ints s.objects k make each (var_at s.vars y) (var_at s.vars z) in
      given_kinds s t x k (on_numbers make (var_at s.vars y) (var_at s.vars z)) has (first_is kinds x k y z fits) only is

  -- the heap is replaced by one in which objects keep their class
  moved_kinds :
      (s : DynState) (after : Heap)
      → HasKinds p kinds s
      → Keeps s.objects after
      → list_all (is_whole p.unit p.scope.ints after) after ≡ true
      → length after ≤ p.scope.objects
      → HasKinds p kinds (record s { objects = after })
  moved_kinds s after has keeps whole few = record {
    vars = λ x k at. kind_kept p.scope.ints s.objects after keeps k (var_at s.vars x) (has.vars x k at);
    objects_whole = whole;
    few_objects = few;
  }

  -- a field is set to a value of its kind
  put_kinds :
      (s : DynState) (f o : ℕ) (u : Value) (g : FieldDef) (after : Heap)
      → HasKinds p kinds s
      → slice_get p.unit.fields f ≡ Some g
      → has_kind p.scope.ints s.objects g.kind u ≡ true
      → IsPut p.unit.classes s.objects f o u after
      → KeepsKinds p kinds s (record s { objects = after })
  put_kinds s f o u g after has there of is =
      let keeps : Keeps s.objects after = λ c q known. class_kept s.objects after c q (put_class is q) known in
      let fits = ap (λ d. option_map_or (λ d. has_kind p.scope.ints s.objects d.kind u) d false) there ∙ of in
      let few = has.few_objects in
      let moved = moved_kinds s after has keeps (put_whole p.unit p.scope.ints is fits has.objects_whole) (omega (arith, put_length is)) in
      record { kinded = moved; objects = keeps }

  -- what `Write` does, by the value through which it writes
  written_kinds :
      (s t : DynState) (f : ℕ) (a u : Value) (g : FieldDef)
      → HasKinds p kinds s
      → slice_get p.unit.fields f ≡ Some g
      → has_kind p.scope.ints s.objects g.kind u ≡ true
      → option_map (λ h. record s { objects = h }) (put_through p.unit.classes s.objects f a u) ≡ Some t
      → KeepsKinds p kinds s t
  written_kinds s t f (v.Obj o) u g has there of is = at (put p.unit.classes s.objects f o u) refl is
    where
      at : (h : Option Heap) → put p.unit.classes s.objects f o u ≡ h → option_map (λ h. record s { objects = h }) h ≡ Some t → KeepsKinds p kinds s t
      at None made is = absurd (none_some is)
      at (Some after) made is =
          subst (λ z. KeepsKinds p kinds s z) (some_same is) (put_kinds s f o u g after has there of (put_is p.unit.classes s.objects f o u after made))
  written_kinds s t f v.Null u g has there of is = absurd (none_some is)
  written_kinds s t f (v.Num z) u g has there of is = absurd (none_some is)
  written_kinds s t f (v.Flag b) u g has there of is = absurd (none_some is)

  -- a variable is set to a new object of its class
  grown_kinds :
      (s : DynState) (x class : ℕ) (after : Heap)
      → IsWell p.unit
      → HasKinds p kinds s
      → slice_get kinds x ≡ Some (Ref class)
      → IsGrown p s.objects class after
      → KeepsKinds p kinds s (record { vars = with_var s.vars x (v.Obj (length s.objects)); objects = after })
  grown_kinds s x class after well has there g =
      let room = g.room in
      let whole = grown_whole well p.scope.ints g has.objects_whole in
      let moved = moved_kinds s after has (grown_keeps g) whole (omega (arith, grown_length g)) in
      let set = set_kinds (record s { objects = after }) x (Ref class) (v.Obj (length s.objects)) moved there (grown_new g) in
      record { kinded = set; objects = grown_keeps g }

  -- what `Make` does
  made_kinds :
      (s t : DynState) (x class : ℕ)
      → IsWell p.unit
      → HasKinds p kinds s
      → slice_get kinds x ≡ Some (Ref class)
      → (h : Option Heap)
      → grown p s.objects class ≡ h
      → option_map (λ h. record { vars = with_var s.vars x (v.Obj (length s.objects)); objects = h }) h ≡ Some t
      → KeepsKinds p kinds s t
  made_kinds s t x class well has there None made is = absurd (none_some is)
  made_kinds s t x class well has there (Some after) made is =
      subst (λ z. KeepsKinds p kinds s z) (some_same is) (grown_kinds s x class after well has there (grown_is p s.objects class after made))

  pub act_keeps_kinds : IsWell p.unit → (a : Act) (s t : DynState) → is_kinded_act p kinds a ≡ true → HasKinds p kinds s → acted p a s ≡ Some t → KeepsKinds p kinds s t
  act_keeps_kinds well (Copy x y) s t fits has is =
      let k = alike_is kinds x y fits in
      given_kinds s t x k.0 (Is (var_at s.vars y)) has k.1 (has.vars y k.0 k.2) is
  act_keeps_kinds well (Const x c) s t fits has is =
      let k = there_passes (takes_constant c) (slice_get kinds x) fits in
      given_kinds s t x k.0 (constant p.scope.ints c) has k.1 (constant_only p.scope.ints s.objects c k.0 k.2) is
  act_keeps_kinds well (Sum x y z) s t fits has is =
      operated_kinds s t x y z Int (λ a b. number p.scope.ints (a +ℤ b)) (λ a b. number_only p.scope.ints s.objects (a +ℤ b)) fits has is
  act_keeps_kinds well (Diff x y z) s t fits has is =
      operated_kinds s t x y z Int (λ a b. number p.scope.ints (a -ℤ b)) (λ a b. number_only p.scope.ints s.objects (a -ℤ b)) fits has is
  act_keeps_kinds well (Product x y z) s t fits has is =
      operated_kinds s t x y z Int (λ a b. number p.scope.ints (a *ℤ b)) (λ a b. number_only p.scope.ints s.objects (a *ℤ b)) fits has is
  act_keeps_kinds well (Same x y z) s t fits has is =
      let both = and_parts (is_var kinds x Flag) (are_alike kinds y z) fits in
      let only = same_only p.scope.ints s.objects (var_at s.vars y) (var_at s.vars z) in
      given_kinds s t x Flag (same (var_at s.vars y) (var_at s.vars z)) has (var_is kinds x Flag both.0) only is
  act_keeps_kinds well (Below x y z) s t fits has is = operated_kinds s t x y z Flag (λ a b. flag (int_lt a b)) (λ a b. refl) fits has is
  act_keeps_kinds well (Read x y f) s t fits has is =
      let g = field_is p.unit kinds f y x fits in
      let object = has.vars y (Ref g.declared.class) g.object in
      let only = field_only p.unit well p.scope.ints s.objects has.objects_whole f g.declared g.there (var_at s.vars y) object in
      given_kinds s t x g.declared.kind (field p.unit.classes s.objects f (var_at s.vars y)) has g.value only is
  act_keeps_kinds well (Write x f y) s t fits has is =
      let g = field_is p.unit kinds f x y fits in
      written_kinds s t f (var_at s.vars x) (var_at s.vars y) g.declared has g.there (has.vars y g.declared.kind g.value) is
  act_keeps_kinds well (Make x class) s t fits has is =
      made_kinds s t x class well has (var_is kinds x (Ref class) fits) (grown p s.objects class) refl is

  -- ## runs

  -- the runs of a program keep the kinds
  abbrev Keeping : Prog → Type 0
  Keeping x = (s t : DynState) → HasKinds p kinds s → Run p x s t → KeepsKinds p kinds s t

  chain_keeps : (parts : List Prog) → AllByRecursion Keeping parts → (s t : DynState) → HasKinds p kinds s → Chain (Run p) parts s t → KeepsKinds p kinds s t
  chain_keeps [] all s t has is = subst (λ z. KeepsKinds p kinds s z) is (stays s has)
  chain_keeps (x ∷ parts) all s t has c =
      let first = all.0 s c.0 has c.1 in
      let rest = chain_keeps parts all.1 c.0 t first.kinded c.2 in
      record { kinded = rest.kinded; objects = λ class o is. rest.objects class o (first.objects class o is) }

  keeps_kinds : IsWell p.unit → (x : Prog) → is_kinded p kinds x ≡ true → Keeping x
  keeps_kinds well = by_form (λ x. is_kinded p kinds x ≡ true → Keeping x) (record {
    act = λ a fits s t has run.
        act_keeps_kinds well a s t (sym (kinded_act p kinds a) ∙ fits) has (((cases_of_run p).act a s t).0 run);
    test = λ x b fits s t has run. subst (λ z. KeepsKinds p kinds s z) (((cases_of_run p).test x b s t).0 run).1 (stays s has);
    seq = λ parts all fits s t has run.
        let each = all_passing (is_kinded p kinds) Keeping parts all (sym (kinded_seq p kinds parts) ∙ fits) in
        chain_keeps parts each s t has (((cases_of_run p).seq parts s t).0 run);
    choice = λ parts all fits s t has run.
        let each = all_passing (is_kinded p kinds) Keeping parts all (sym (kinded_choice p kinds parts) ∙ fits) in
        let branch = ((cases_of_run p).choice parts s t).0 run in
        at_any Keeping parts each branch s t has branch.4;
    star = λ body keeping fits s t has run.
        let each : Keeping body = keeping (sym (kinded_star p kinds body) ∙ fits) in
        let turns = ((cases_of_run p).star body s t).0 run in
        chain_keeps (replicate turns.0 body) (all_copies Keeping body each turns.0) s t has turns.2;
  })

pub runs_keep_kinds : RunsKeepKinds
runs_keep_kinds p kinds x s t well fits has run = keeps_kinds p kinds well x fits s t has run
