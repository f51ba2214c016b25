-- The problem of the tests: its unit is well, its receiver is never null nor object 1, and may be object 0.
use Rattle.std.proofs.Common.{◌≡◌, ℕ, zero, suc, ◌+◌, ◌*◌, ◌<◌, ◌≤◌, Bool, true, false, List, [], ◌∷◌, length, Some, None, refl, sym, ap, subst, arith, lit≤, lit<}
use Rattle.std.specs.Prelude.{slice_get, IsTrue, count_by}
use Rattle.std.specs.List.{range_with_len}
use Rattle.std.proofs.lemmas.Nat.Bits.{bit_at-pow_other}
use Rattle.std.proofs.lemmas.Bool.{eqb-true}
use native.Mathlib.Decide.{ℕ_discrete}
use mathlib.Core.Logic.{dite}
use Rattle.taco_unit.specs.declared.kind.Kind.TheVariants as kind
use Rattle.taco_unit.specs.declared.stmt.Stmt.TheVariants.{Block}
use Rattle.taco_unit.specs.declared.unit.ClassDef.{ClassDef}
use Rattle.taco_unit.specs.declared.unit.FieldDef.{FieldDef}
use Rattle.taco_unit.specs.declared.unit.MethodDef.{MethodDef}
use Rattle.taco_unit.specs.Kinds.{is_kind_of, is_class_kind}
use Rattle.taco_unit.specs.Well.{IsWell, IsWellClass, IsWellField, IsWellMethod}
use Rattle.taco_unit.proofs.KindForms.{fitting_forms}
use Rattle.heap_core.specs.declared.value.Value.{Value}
use Rattle.heap_core.specs.declared.value.Value.TheVariants.{Null, Obj, Num, Flag}
use Rattle.heap_core.specs.declared.value.Object.{Object}
use Rattle.heap_core.specs.declared.start.Start.{Start}
use Rattle.heap_core.specs.Heap.{is_of}
use Rattle.heap_core.specs.Start.{Reached, root, is_receiver}
use Rattle.heap_core.specs.Posed.{Posed}
use Rattle.canonical_order.specs.declared.tuple.Tuple.{Tuple}
use Rattle.canonical_order.specs.declared.tuple.Tuple.TheVariants.{Root}
use Rattle.canonical_order.specs.Canonical.{IsCanonical, places, first_place}
use Rattle.heap_core.specs.Outcomes.{is_value}
use Rattle.canonical_order.specs.Tuples.{tuples, occurs}
use Rattle.canonical_order.proofs.InOrder.{range_each_once}
use Rattle.tuple_sets.specs.Numbered.{IsPossible, IsRefuted}
use Rattle.bounds_table.specs.declared.event.Event.{Event}
use Rattle.bounds_table.specs.declared.event.Event.TheVariants.{Split, CopyWord, Clear, Claim, KeepWord, SeeKept, Join}
use Rattle.bounds_table.specs.Core.{ArePossible, AreLawful, opening}
use Rattle.bounds_rows.specs.Row.{link, row_unit, row}

well_class : (bare : Bool) (c : ℕ) (d : ClassDef) → slice_get (row_unit bare).classes c ≡ Some d → IsWellClass (row_unit bare) c d
well_class bare zero d is =
    let the_class : ClassDef = record { name = 76 ∷ []; fields = 0 ∷ []; methods = 0 ∷ []; invariants = [] } in
    let same : the_class ≡ d = cc in
    subst (λ x. IsWellClass (row_unit bare) zero x) same (record { named = refl; lists_fields = refl; lists_methods = refl; invariants = refl; few_invariants = omega arith })
well_class bare (suc c) d is = absurd (cc)

kind_there : (bare : Bool) → IsTrue (is_kind_of (row_unit bare) (link bare))
kind_there true = refl
kind_there false = refl

few_links : (bare : Bool) → count_by (λ f. is_class_kind f.kind) (row_unit bare).fields ≤ 32
few_links true = lit≤ tt
few_links false = lit≤ tt

well_field : (bare : Bool) (f : ℕ) (d : FieldDef) → slice_get (row_unit bare).fields f ≡ Some d → IsWellField (row_unit bare) d
well_field bare zero d is =
    let the_field : FieldDef = record { name = 110 ∷ []; class = 0; kind = link bare; nullable = true } in
    let same : the_field ≡ d = cc in
    subst (λ x. IsWellField (row_unit bare) x) same (record { named = refl; in_class = omega arith; kind_there = kind_there bare })
well_field bare (suc f) d is = absurd (cc)

well_method : (bare : Bool) (m : ℕ) (d : MethodDef) → slice_get (row_unit bare).methods m ≡ Some d → IsWellMethod (row_unit bare) d
well_method bare zero d is =
    let the_method : MethodDef = record { name = 109 ∷ []; class = 0; fixed = bare; params = []; result = None; locals = []; needs = []; gives = []; body = Block [] } in
    let same : the_method ≡ d = cc in
    subst (λ x. IsWellMethod (row_unit bare) x) same (record {
      named = refl;
      in_class = omega arith;
      params_named = refl;
      params_apart = λ i j d' lt within. absurd (omega arith);
      kinds_there = refl;
      result_there = refl;
      needs = refl;
      gives = refl;
      body = simp fitting_forms refl;
      few_params = omega arith;
      few_needs = omega arith;
      few_gives = omega arith;
    })
well_method bare (suc c) d is = absurd (cc)

pub row_well : (bare : Bool) → IsWell (row_unit bare)
row_well bare = record {
  classes = well_class bare;
  fields = well_field bare;
  methods = well_method bare;
  classes_apart = λ i j d lt within. absurd (omega arith);
  fields_apart = λ i j d lt within. absurd (omega arith);
  few_classes = omega arith;
  few_fields = omega arith;
  few_references = few_links bare;
  few_methods = omega arith;
}

-- the receiver of an instance method is not null
no_receiver : (v : Value) (heap : List Object) → IsTrue (is_value v Null) → IsTrue (is_receiver heap 0 false v) → ⊥
no_receiver Null heap a b = cc
no_receiver (Obj o) heap a b = cc
no_receiver (Num z) heap a b = cc
no_receiver (Flag x) heap a b = cc

pub null_refuted : (set : List ℕ) → IsRefuted (row false 2) set 0
null_refuted set x s at shows all =
    let same : x ≡ Root 0 Null = cc in
    no_receiver s.this s.objects (subst (λ (y : Tuple). IsTrue (occurs (row false 2) s y)) same shows.holds) shows.fits.receiver

-- and in a canonical start it is not object 1, which would come before object 0
not_second : (this : Value) (objects : List Object) (args : List Value) → IsTrue (is_value this (Obj 1)) → IsTrue (is_receiver objects 0 false this) → IsCanonical (record { objects = objects; this = this; args = args }) → ⊥
not_second Null objects args a b canonical = cc
not_second (Num z) objects args a b canonical = cc
not_second (Flag x) objects args a b canonical = cc
not_second (Obj o) [] args a b canonical = cc
not_second (Obj o) (x ∷ []) args a b canonical = not_alone o x (eqb-true o 1 a) b
  where
    not_alone : (o : ℕ) (x : Object) → o ≡ 1 → IsTrue (is_of (x ∷ []) 0 o) → ⊥
    not_alone o x e h = let h' : IsTrue (is_of (x ∷ []) 0 1) = subst (λ n. IsTrue (is_of (x ∷ []) 0 n)) e h in cc
not_second (Obj o) (x ∷ y ∷ rest) args a b canonical = rises o (eqb-true o 1 a) canonical
  where
    rises : (o : ℕ) → o ≡ 1 → IsCanonical (record { objects = x ∷ y ∷ rest; this = Obj o; args = args }) → ⊥
    rises o e c =
        let c' : IsCanonical (record { objects = x ∷ y ∷ rest; this = Obj 1; args = args }) = subst (λ n. IsCanonical (record { objects = x ∷ y ∷ rest; this = Obj n; args = args })) e c in
        let s : Start = record { objects = x ∷ y ∷ rest; this = Obj 1; args = args } in
        let before : first_place (places s (range_with_len 0 (length s.objects))) 0 < 0 = c'.rising 0 (omega arith) in
        omega arith

pub second_refuted : (set : List ℕ) → IsRefuted (row false 2) set 2
second_refuted set x s at shows all =
    let same : x ≡ Root 0 (Obj 1) = cc in
    not_second s.this s.objects s.args (subst (λ (y : Tuple). IsTrue (occurs (row false 2) s y)) same shows.holds) shows.fits.receiver shows.canonical

-- a start of one object
abbrev alone : Start
alone = record { objects = record { class = 0; cells = Null ∷ [] } ∷ []; this = Obj 0; args = [] }

reached : (o : ℕ) → o < 1 → Reached alone o
reached zero h = root 0 (0, omega arith, refl)
reached (suc o) h = absurd (omega arith)

pub first_possible : IsPossible (row false 2) 1
first_possible = (
  Root 0 (Obj 0),
  refl,
  (
    alone,
    record {
      fits = record { few_objects = lit≤ tt; objects_whole = refl; receiver = refl; arguments = refl; all_reached = reached };
      canonical = record { each_once = range_each_once 1; rising = λ k h. absurd (omega arith) };
      good = refl;
      holds = refl;
    },
  ),
)

pub kept_first : ArePossible (row false 2) 0 2
kept_first j small one = dite (ℕ_discrete j 1) (λ e. subst (λ n. IsPossible (row false 2) n) (sym (ap (λ n. 64 * 0 + n) e)) first_possible) (λ ne. absurd (let b = bit_at-pow_other 1 j ne in cc))

-- the steps of two workers are lawful
abbrev pub steps : List Event
steps =
    Split 0 ∷ CopyWord 0 0 ∷ CopyWord 1 0 ∷ Clear 1 0 ∷ Clear 0 2 ∷ CopyWord 0 0 ∷ Claim 0 0 3 ∷ Claim 1 0 3 ∷ KeepWord 1 0 2 ∷ SeeKept 0 0 ∷ Join 0 1 ∷ []

pub steps_lawful : AreLawful (opening (row false 2)) steps
steps_lawful =
    (refl, ((refl, lit< tt), ((refl, lit< tt), ((refl, lit< tt, null_refuted _), ((refl, lit< tt, second_refuted _), ((refl, lit< tt), ((refl, lit< tt, lit< tt), ((refl, lit< tt, lit< tt), ((refl, lit< tt, kept_first), ((refl, lit< tt), ((refl, refl, λ e. omega arith), tt)))))))))))

-- class Node { int v; nullable Node next; } and class List { nullable Node head; void insert(int k) { } }, within five
-- objects: 6 tuples of the receiver, 30 of each of two fields
abbrev list_of_five : Posed
list_of_five = record {
  unit = record {
    classes = record { name = []; fields = 0 ∷ 1 ∷ []; methods = []; invariants = [] } ∷ record { name = []; fields = 2 ∷ []; methods = 0 ∷ []; invariants = [] } ∷ [];
    fields = record { name = []; class = 0; kind = kind.Int; nullable = false } ∷ record { name = []; class = 0; kind = kind.Ref 0; nullable = true } ∷ record { name = []; class = 1; kind = kind.Ref 0; nullable = true } ∷ [];
    methods = record { name = []; class = 1; fixed = false; params = record { name = []; kind = kind.Int; nullable = false } ∷ []; result = None; locals = []; needs = []; gives = []; body = Block [] } ∷ [];
  };
  method = 0;
  scope = record { objects = 5; ints = 4; loops = 5; calls = 2 };
}

sixty_six : length (tuples list_of_five) ≡ 66
sixty_six = refl
