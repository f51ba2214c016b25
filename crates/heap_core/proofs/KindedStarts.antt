-- The clauses of a start that fits, and those of the end heap, are evaluated where their kinds are kept.
use Rattle.std.proofs.Common.{◌≡◌, ℕ, zero, suc, ◌+◌, ◌≤◌, Bool, true, false, List, [], ◌∷◌, ◌++◌, length, map, Option, Some, None, refl, sym, ◌∙◌, ap, inl, inr, arith}
use Rattle.std.specs.Prelude.{◌==◌, slice_get}
use Rattle.std.specs.List.{list_all, list_any, flat_map, range_with_len}
use Rattle.std.specs.Option.{option_map_or}
use Rattle.std.specs.Cmp.Lexicographic.{pointwise}
use Rattle.std.proofs.lemmas.Bool.{false≢true, and_parts, and_from, eq-eqb}
use Rattle.std.proofs.lemmas.List.Folds.{list_all-append, list_any-append}
use Rattle.taco_unit.specs.declared.kind.Kind.{Kind}
use Rattle.taco_unit.specs.declared.kind.Kind.TheVariants.{Int, Flag, Ref}
use Rattle.taco_unit.specs.declared.unit.Clause.{Clause}
use Rattle.taco_unit.specs.declared.unit.ClassDef.{ClassDef}
use Rattle.taco_unit.specs.declared.unit.FieldDef.{FieldDef}
use Rattle.taco_unit.specs.declared.unit.MethodDef.{MethodDef}
use Rattle.taco_unit.specs.declared.unit.ParamDef.{ParamDef}
use Rattle.taco_unit.specs.Parts.{Parts}
use Rattle.taco_unit.specs.Kinds.{Of, Around, Entry, Exit, sort_of, is_condition}
use Rattle.taco_unit.specs.Well.{IsWell, around_invariant, around_method, receiver_of, result_kind, param_kinds}
use Rattle.heap_core.specs.declared.value.Value.{Value}
use Rattle.heap_core.specs.declared.value.Value.TheVariants as v
use Rattle.heap_core.specs.declared.value.Object.{Object}
use Rattle.heap_core.specs.declared.value.Seen.{Seen}
use Rattle.heap_core.specs.declared.value.Seen.TheVariants.{Is, Bad, Out}
use Rattle.heap_core.specs.declared.start.Start.{Start}
use Rattle.heap_core.specs.Posed.{Posed}
use Rattle.heap_core.specs.Outcomes.{is_out}
use Rattle.heap_core.specs.Heap.{Heap}
use Rattle.heap_core.specs.Eval.{Env}
use Rattle.heap_core.specs.Start.{has_kind, has_field_kind, is_whole, is_receiver, is_argument, method_of, Fits}
use Rattle.heap_core.specs.Judge.{invariant_env, entry_env, exit_env, values_of, invariants_at, all_invariants, needs_of, gives_of}
use Rattle.heap_core.specs.Kinded.{is_of_kind, is_of_field, has_kinds, IsKindedHeap, IsKinded, is_of_sort, Settles, by_bits, is_answer, with_bits, StartsAreAnswered}
use Rattle.heap_core.proofs.Lists.{all_at, beside_more}
use Rattle.heap_core.proofs.FieldLaws.{Keeps, kind_kept, whole_kept}
use Rattle.heap_core.proofs.KindedForms.{Held, suited}
use Rattle.heap_core.proofs.Kinded.{kinds_hold}

-- ## kinds, whatever the width

pub kind_of_value : (w : ℕ) (heap : Heap) (k : Kind) (x : Value) → has_kind w heap k x ≡ true → is_of_kind heap k x ≡ true
kind_of_value w heap Int (v.Num z) is = refl
kind_of_value w heap Int v.Null is = is
kind_of_value w heap Int (v.Obj o) is = is
kind_of_value w heap Int (v.Flag b) is = is
kind_of_value w heap Flag (v.Flag b) is = refl
kind_of_value w heap Flag v.Null is = is
kind_of_value w heap Flag (v.Obj o) is = is
kind_of_value w heap Flag (v.Num z) is = is
kind_of_value w heap (Ref c) v.Null is = refl
kind_of_value w heap (Ref c) (v.Obj o) is = is
kind_of_value w heap (Ref c) (v.Num z) is = is
kind_of_value w heap (Ref c) (v.Flag b) is = is

object_kinds : (u : Parts) (w : ℕ) (heap : Heap) (x : Object) → is_whole u w heap x ≡ true → has_kinds u heap x ≡ true
object_kinds u w heap x = go (slice_get u.classes x.class)
  where
    cell : (f : ℕ) (y : Value) → has_field_kind u.fields w heap f y ≡ true → is_of_field u heap f y ≡ true
    cell f y = at (slice_get u.fields f)
      where
        at : (d : Option FieldDef) → option_map_or (λ d. has_kind w heap d.kind y) d false ≡ true → option_map_or (λ d. is_of_kind heap d.kind y) d false ≡ true
        at None is = is
        at (Some d) is = kind_of_value w heap d.kind y is

    go :
        (d : Option ClassDef) → option_map_or (λ d. pointwise (has_field_kind u.fields w heap) d.fields x.cells) d false ≡ true
        → option_map_or (λ d. pointwise (is_of_field u heap) d.fields x.cells) d false ≡ true
    go None is = is
    go (Some d) is = beside_more (has_field_kind u.fields w heap) (is_of_field u heap) cell d.fields x.cells is

-- a heap whose objects are whole, among objects that keep their classes
pub whole_kinded : (u : Parts) (w : ℕ) (heap all : Heap) → Keeps heap all → list_all (is_whole u w heap) heap ≡ true → IsKindedHeap u all heap
whole_kinded u w heap all keeps whole = record {
  known = λ o x there. keeps x.class o (ap (λ y. option_map_or (λ (z : Object). z.class == x.class) y false) there ∙ eq-eqb x.class x.class refl);
  cells = λ o x there. object_kinds u w all x (whole_kept u w heap all keeps x (all_at (is_whole u w heap) heap o x whole there));
}

-- ## environments

-- the receiver of a method that is called on a value
receiver_kinded :
    (heap all : Heap) → Keeps heap all → (c : ℕ) (fixed : Bool) (x : Value) → is_receiver heap c fixed x ≡ true
    → option_map_or (λ d. is_of_kind all (Ref d) x) (receiver_of fixed c) true ≡ true
receiver_kinded heap all keeps c true x is = refl
receiver_kinded heap all keeps c false (v.Obj o) is = keeps c o is
receiver_kinded heap all keeps c false v.Null is = absurd (false≢true is)
receiver_kinded heap all keeps c false (v.Num z) is = absurd (false≢true is)
receiver_kinded heap all keeps c false (v.Flag b) is = absurd (false≢true is)

arguments_kinded :
    (w : ℕ) (heap all : Heap) → Keeps heap all → (ps : List ParamDef) (vs : List Value) → pointwise (is_argument w heap) ps vs ≡ true
    → pointwise (is_of_kind all) (map (λ q. q.kind) ps) vs ≡ true
arguments_kinded w heap all keeps [] [] is = refl
arguments_kinded w heap all keeps [] (y ∷ vs) is = absurd (false≢true is)
arguments_kinded w heap all keeps (q ∷ ps) [] is = absurd (false≢true is)
arguments_kinded w heap all keeps (q ∷ ps) (y ∷ vs) is =
    let both = and_parts (is_argument w heap q y) (pointwise (is_argument w heap) ps vs) is in
    let first = kind_of_value w all q.kind y (kind_kept w heap all keeps q.kind y both.0) in
    and_from (is_of_kind all q.kind y) (pointwise (is_of_kind all) (map (λ q. q.kind) ps) vs) first (arguments_kinded w heap all keeps ps vs both.1)

-- what a fitting start tells of the method that is called
module _ (p : Posed) (s : Start) (m : MethodDef) (fits : Fits s p) (called : method_of p ≡ Some m) where
  this_fits : is_receiver s.objects m.class m.fixed s.this ≡ true
  this_fits = ap (λ d. option_map_or (λ (m : MethodDef). is_receiver s.objects m.class m.fixed s.this) d false) (sym called) ∙ fits.receiver

  arguments_fit : pointwise (is_argument p.scope.ints s.objects) m.params s.args ≡ true
  arguments_fit = ap (λ d. option_map_or (λ (m : MethodDef). pointwise (is_argument p.scope.ints s.objects) m.params s.args) d false) (sym called) ∙ fits.arguments

  -- a `requires` clause
  pub entry_kinded : IsWell p.unit → IsKinded s.objects (around_method p.unit m Entry (param_kinds m)) (entry_env p s)
  entry_kinded well = record {
    clause = λ is. absurd (cc);
    unit = well;
    classes = refl;
    this = receiver_kinded s.objects s.objects (λ c o is. is) m.class m.fixed s.this this_fits;
    locals = arguments_kinded p.scope.ints s.objects s.objects (λ c o is. is) m.params s.args arguments_fit;
    bound = refl;
    result = λ r exit there. absurd (cc);
    heap = whole_kinded p.unit p.scope.ints s.objects s.objects (λ c o is. is) fits.objects_whole;
    heap_before = whole_kinded p.unit p.scope.ints s.objects s.objects (λ c o is. is) fits.objects_whole;
  }

  -- an `ensures` clause, where the method gives a result of its kind and a heap in which the objects of the
  -- start keep their classes
  pub exit_kinded :
      (r : Option Value) (heap : Heap) → IsWell p.unit → Keeps s.objects heap → list_all (is_whole p.unit p.scope.ints heap) heap ≡ true
      → ((k : Kind) → result_kind m ≡ Some k → option_map_or (has_kind p.scope.ints heap k) r false ≡ true)
      → IsKinded heap (around_method p.unit m Exit (param_kinds m)) (exit_env p s r heap)
  exit_kinded r heap well keeps whole given = record {
    clause = λ is. absurd (cc);
    unit = well;
    classes = refl;
    this = receiver_kinded s.objects heap keeps m.class m.fixed s.this this_fits;
    locals = arguments_kinded p.scope.ints s.objects heap keeps m.params s.args arguments_fit;
    bound = refl;
    result = λ k exit there. result_kinded k r (given k there);
    heap = whole_kinded p.unit p.scope.ints heap heap (λ c o is. is) whole;
    heap_before = whole_kinded p.unit p.scope.ints s.objects heap keeps fits.objects_whole;
  }
    where
      result_kinded : (k : Kind) (r : Option Value) → option_map_or (has_kind p.scope.ints heap k) r false ≡ true → option_map_or (is_of_kind heap k) r false ≡ true
      result_kinded k None is = is
      result_kinded k (Some x) is = kind_of_value p.scope.ints heap k x is

-- an invariant of an object of the heap
pub invariant_kinded :
    (p : Posed) (heap : Heap) (o : ℕ) (x : Object) → IsWell p.unit → list_all (is_whole p.unit p.scope.ints heap) heap ≡ true
    → slice_get heap o ≡ Some x → IsKinded heap (around_invariant p.unit x.class) (invariant_env p heap o)
invariant_kinded p heap o x well whole there = record {
  clause = λ is. absurd (cc);
  unit = well;
  classes = refl;
  this = kinded_heap.known o x there;
  locals = refl;
  bound = refl;
  result = λ r exit there. absurd (cc);
  heap = kinded_heap;
  heap_before = kinded_heap;
}
  where
    kinded_heap : IsKindedHeap p.unit heap heap
    kinded_heap = whole_kinded p.unit p.scope.ints heap heap (λ c o is. is) whole

-- ## clauses one after another

-- a list of evaluations gives answers at each number of bits, and with enough bits none is Out
pub record IsAnsweredList (seen : ℕ → List Seen) : Type 0 where
  pub answers : (bits : ℕ) → list_all is_answer (seen bits) ≡ true
  pub enough : ℕ
  pub with_enough : (bits : ℕ) → enough ≤ bits → list_any is_out (seen bits) ≡ false

pub none_answered : IsAnsweredList (λ bits. [])
none_answered = record { answers = λ bits. refl; enough = 0; with_enough = λ bits few. refl }

pub appended_answered : {f g : ℕ → List Seen} → IsAnsweredList f → IsAnsweredList g → IsAnsweredList (λ bits. f bits ++ g bits)
appended_answered {f} {g} a b = record {
  answers = λ bits. list_all-append is_answer (f bits) (g bits) ∙ and_from (list_all is_answer (f bits)) (list_all is_answer (g bits)) (a.answers bits) (b.answers bits);
  enough = a.enough + b.enough;
  with_enough = λ bits few. list_any-append is_out (f bits) (g bits) ∙ rw (a.with_enough bits (omega (arith, few)), b.with_enough bits (omega (arith, few))) refl;
}

-- one evaluation that settles on a truth value, or on Bad
answer : (all : Heap) (x : Seen) → is_of_sort all (Of Flag) x ≡ true → (is_answer x ≡ true) × (is_out x ≡ false)
answer all (Is (v.Flag b)) is = (refl, refl)
answer all (Is v.Null) is = absurd (false≢true is)
answer all (Is (v.Obj o)) is = absurd (false≢true is)
answer all (Is (v.Num z)) is = absurd (false≢true is)
answer all Bad is = (refl, refl)
answer all Out is = absurd (false≢true is)

one_answered : {all : Heap} {f : ℕ → Seen} → Settles all (Of Flag) f → IsAnsweredList (λ bits. f bits ∷ [])
one_answered {all} {f} s = record {
  answers = λ bits. elim (s.with_any bits) [ inl out ↦ rw out refl | inr is ↦ rw (is, (answer all s.outcome s.of_sort).0) refl ];
  enough = s.enough;
  with_enough = λ bits few. rw (s.with_enough bits few, (answer all s.outcome s.of_sort).1) refl;
}

-- conditions, where the kinds are kept
pub clauses_answered :
    {all : Heap} {k : Around} {env : Env} → IsKinded all k env → (cs : List Clause) → list_all (λ c. is_condition k c.expr) cs ≡ true
    → IsAnsweredList (λ bits. values_of (record env { ints = bits }) cs)
clauses_answered is [] fine = none_answered
clauses_answered {all} {k} {env} is (c ∷ cs) fine =
    let both = and_parts (is_condition k c.expr) (list_all (λ c. is_condition k c.expr) cs) fine in
    let held : Held all (sort_of c.expr k) (by_bits c.expr env) = record { settles = kinds_hold all k env c.expr is } in
    appended_answered (one_answered (suited Flag (sort_of c.expr k) both.0 held)) (clauses_answered is cs both.1)

numbers_answered : (f : ℕ → ℕ → List Seen) → ((o : ℕ) → IsAnsweredList (λ bits. f bits o)) → (a n : ℕ) → IsAnsweredList (λ bits. flat_map (f bits) (range_with_len a n))
numbers_answered f each a zero = none_answered
numbers_answered f each a (suc n) = appended_answered (each a) (numbers_answered f each (a + 1) n)

-- ## a heap and a start

-- the invariants of the objects of a heap that is whole
pub invariants_answered :
    (p : Posed) (heap : Heap) → IsWell p.unit → list_all (is_whole p.unit p.scope.ints heap) heap ≡ true
    → IsAnsweredList (λ bits. all_invariants (with_bits p bits) heap)
invariants_answered p heap well whole = numbers_answered (λ bits. invariants_at (with_bits p bits) heap) each 0 (length heap)
  where
    Answered : ℕ → List Clause → Type 0
    Answered o cs = IsAnsweredList (λ bits. values_of (invariant_env (with_bits p bits) heap o) cs)

    in_class : (o : ℕ) (x : Object) → slice_get heap o ≡ Some x → (d : Option ClassDef) → slice_get p.unit.classes x.class ≡ d → Answered o (option_map_or (λ d. d.invariants) d [])
    in_class o x there None class = none_answered
    in_class o x there (Some d) class =
        clauses_answered (invariant_kinded p heap o x well whole there) d.invariants (well.classes x.class d class).invariants

    at : (o : ℕ) (x : Option Object) → slice_get heap o ≡ x → Answered o (option_map_or (λ x. option_map_or (λ d. d.invariants) (slice_get p.unit.classes x.class) []) x [])
    at o None there = none_answered
    at o (Some x) there = in_class o x there (slice_get p.unit.classes x.class) refl

    each : (o : ℕ) → IsAnsweredList (λ bits. invariants_at (with_bits p bits) heap o)
    each o = at o (slice_get heap o) refl

-- the `requires` clauses of a start that fits
pub needs_answered : (p : Posed) (s : Start) → IsWell p.unit → Fits s p → IsAnsweredList (λ bits. needs_of (with_bits p bits) s)
needs_answered p s well fits = go (method_of p) refl
  where
    go : (m : Option MethodDef) → method_of p ≡ m → IsAnsweredList (λ bits. option_map_or (λ (m : MethodDef). values_of (entry_env (with_bits p bits) s) m.needs) m [])
    go None called = none_answered
    go (Some m) called = clauses_answered (entry_kinded p s m fits called well) m.needs (well.methods p.method m called).needs

-- the `ensures` clauses, where the run gives a result of its kind and a heap that is whole, in which the
-- objects of the start keep their classes
pub gives_answered :
    (p : Posed) (s : Start) (r : Option Value) (heap : Heap) → IsWell p.unit → Fits s p → Keeps s.objects heap
    → list_all (is_whole p.unit p.scope.ints heap) heap ≡ true
    → ((m : MethodDef) (k : Kind) → method_of p ≡ Some m → result_kind m ≡ Some k → option_map_or (has_kind p.scope.ints heap k) r false ≡ true)
    → IsAnsweredList (λ bits. gives_of (with_bits p bits) s r heap)
gives_answered p s r heap well fits keeps whole given = go (method_of p) refl
  where
    go : (m : Option MethodDef) → method_of p ≡ m → IsAnsweredList (λ bits. option_map_or (λ (m : MethodDef). values_of (exit_env (with_bits p bits) s r heap) m.gives) m [])
    go None called = none_answered
    go (Some m) called =
        clauses_answered (exit_kinded p s m fits called r heap well keeps whole (λ k. given m k called)) m.gives (well.methods p.method m called).gives

pub starts_are_answered : StartsAreAnswered
starts_are_answered p s well fits =
    let a = invariants_answered p s.objects well fits.objects_whole in
    let b = needs_answered p s well fits in
    record {
      answers = (appended_answered a b).answers p.scope.ints;
      enough = a.enough + b.enough;
      with_enough = λ bits few. rw (a.with_enough bits (omega (arith, few)), b.with_enough bits (omega (arith, few))) refl;
    }
