-- Code ends alike under the new numbers.
use Rattle.std.proofs.Common.{◌≡◌, ℕ, zero, suc, ◌+◌, ◌<◌, ◌≤◌, Bool, true, false, cond, List, [], ◌∷◌, ◌++◌, length, map, Option, Some, None, refl, sym, ◌∙◌, ap, subst, inl, inr, arith, set}
use Rattle.std.specs.Prelude.{slice_get, option_map, option_and_then, nat_lt}
use Rattle.std.specs.Option.{option_map_or}
use Rattle.std.proofs.lemmas.Bool.{cases_lt, cases_eq, lt-ltb, le-ltb}
use Rattle.std.proofs.lemmas.List.{length-append, length-map, length-set}
use Rattle.std.proofs.lemmas.Option.{slice_get-map, slice_get_past, slice_get_within}
use Rattle.taco_unit.specs.declared.kind.Kind.{Kind}
use Rattle.taco_unit.specs.declared.kind.Kind.TheVariants as kind
use Rattle.taco_unit.specs.declared.unit.ClassDef.{ClassDef}
use Rattle.taco_unit.specs.declared.unit.FieldDef.{FieldDef}
use Rattle.taco_unit.specs.Parts.{Parts}
use Rattle.taco_unit.specs.declared.expr.Op.{Op}
use Rattle.taco_unit.specs.declared.expr.Op.TheVariants as op
use Rattle.heap_core.specs.declared.value.Value.{Value}
use Rattle.heap_core.specs.declared.value.Value.TheVariants.{Null, Obj, Num, Flag}
use Rattle.heap_core.specs.declared.value.Object.{Object}
use Rattle.heap_core.specs.declared.value.Seen.{Seen}
use Rattle.heap_core.specs.declared.value.Seen.TheVariants.{Is, Bad, Out}
use Rattle.heap_core.specs.Posed.{Posed}
use Rattle.heap_core.specs.Outcomes.{operated, zero_of}
use Rattle.heap_core.specs.Heap.{Heap, cell, place_of, put, put_cell, grown, blank, first_value}
use Rattle.heap_core.specs.Exec.{Memory, Ends, Gives, Throws, Leaves, Frame, Code, then_with, ends_as, then_test, on_test, as_test, on_object, gives_in, read, with_heap, write, make, combined}
use Rattle.heap_symmetry.specs.Renaming.{IsNaming, value_as, object_as, seen_as, IsRenamed}
use Rattle.heap_symmetry.proofs.Evaluated.{operated_as, inside_named}
use Rattle.heap_core.proofs.Lists.{set_at, set_apart, slice_get-append_left}

-- ## what is changed

-- one heap is the other under the new numbers, and has room
pub record SameMemory (k : ℕ) (n : ℕ → ℕ) (m m' : Memory) : Type 0 where
  pub heap : IsRenamed n m.heap m'.heap
  pub few : length m.heap ≤ k

-- two evaluations end alike
pub data SameEnds (k : ℕ) (n : ℕ → ℕ) {A : Type 0} (as_ : A → A) : Ends A → Ends A → Type 0 where
  gives : (a : A) (m m' : Memory) → SameMemory k n m m' → SameEnds k n as_ (Gives a m) (Gives (as_ a) m')
  throws : (m m' : Memory) → SameMemory k n m m' → SameEnds k n as_ (Throws m) (Throws m')
  leaves : SameEnds k n as_ Leaves Leaves

abbrev pub frame_as : (ℕ → ℕ) → Frame → Frame
frame_as n fr = record { this = value_as n fr.this; locals = map (value_as n) fr.locals }

-- ## heaps that are changed

pub data SameHeaps (k : ℕ) (n : ℕ → ℕ) : Option Heap → Option Heap → Type 0 where
  none : SameHeaps k n None None
  some : (h j : Heap) → IsRenamed n h j → length h ≤ k → SameHeaps k n (Some h) (Some j)

pub map-set : {A B : Type 0} (f : A → B) (xs : List A) (i : ℕ) (v : A) → map f (set xs i v) ≡ set (map f xs) i (f v)
map-set f [] i v = refl
map-set f (x ∷ xs) zero v = refl
map-set f (x ∷ xs) (suc i) v = ap (λ ys. f x ∷ ys) (map-set f xs i v)

-- an object is replaced
set_renamed : {n m : ℕ → ℕ} → IsNaming n m → (h j : Heap) → IsRenamed n h j → (o : ℕ) (x : Object) → o < length h → IsRenamed n (set h o x) (set j (n o) (object_as n x))
set_renamed {n} {m} naming h j is o x inside = record {
  as_many = length-set j (n o) (object_as n x) ∙ is.as_many ∙ sym (length-set h o x);
  objects = λ q. elim (cases_eq o q) [
    | inl same ↦ subst (λ z. slice_get (set j (n o) (object_as n x)) (n z) ≡ option_map (object_as n) (slice_get (set h o x) z)) same (set_at j (n o) (object_as n x) (inside_named is o inside) ∙ ap (option_map (object_as n)) (sym (set_at h o x inside)))
    | inr apart ↦ set_apart j (n o) (n q) (object_as n x) (λ same. apart (sym (naming.back o) ∙ ap m same ∙ naming.back q)) ∙ is.objects q ∙ ap (option_map (object_as n)) (sym (set_apart h o q x apart))
  ];
  past = λ q beyond. is.past q (omega (arith, beyond, length-set h o x));
}

pub put_same : {k : ℕ} {n m : ℕ → ℕ} → IsNaming n m → (h j : Heap) → IsRenamed n h j → length h ≤ k → (classes : List ClassDef) (f o : ℕ) (v : Value) → SameHeaps k n (put classes h f o v) (put classes j f (n o) (value_as n v))
put_same {k} {n} {m} naming h j is few classes f o v = go (slice_get h o) refl (slice_get j (n o)) (is.objects o)
  where
    placed : (x : Object) → o < length h → (i : ℕ) (b : Bool) → SameHeaps k n (cond b (Some (set h o (record x { cells = set x.cells i v }))) None) (cond b (Some (set j (n o) (record x { cells = set (map (value_as n) x.cells) i (value_as n v) }))) None)
    placed x inside i false = none
    placed x inside i true =
        let y = record x { cells = set x.cells i v } in
        let same : object_as n y ≡ record x { cells = set (map (value_as n) x.cells) i (value_as n v) } = ap (λ cs. record x { cells = cs }) (map-set (value_as n) x.cells i v) in
        subst (λ z. SameHeaps k n (Some (set h o y)) (Some (set j (n o) z))) same (some (set h o y) (set j (n o) (object_as n y)) (set_renamed naming h j is o y inside) (omega (arith, few, length-set h o y)))

    at : (x : Object) → o < length h → (place : Option ℕ) → SameHeaps k n (option_and_then (put_cell h o x v) place) (option_and_then (put_cell j (n o) (object_as n x) (value_as n v)) place)
    at x inside None = none
    at x inside (Some i) =
        subst (λ l. SameHeaps k n (put_cell h o x v i) (cond (nat_lt i l) (Some (set j (n o) (record x { cells = set (map (value_as n) x.cells) i (value_as n v) }))) None)) (sym (length-map x.cells (value_as n))) (placed x inside i (nat_lt i (length x.cells)))

    go : (x : Option Object) → slice_get h o ≡ x → (y : Option Object) → y ≡ option_map (object_as n) (slice_get h o) → SameHeaps k n (option_and_then (λ z. option_and_then (put_cell h o z v) (place_of classes z.class f)) x) (option_and_then (λ z. option_and_then (put_cell j (n o) z (value_as n v)) (place_of classes z.class f)) y)
    go None there y same =
        let e : None ≡ y = sym (same ∙ ap (option_map (object_as n)) there) in
        subst (λ z. SameHeaps k n None (option_and_then (λ w. option_and_then (put_cell j (n o) w (value_as n v)) (place_of classes w.class f)) z)) e none
    go (Some x) there y same =
        let e : Some (object_as n x) ≡ y = sym (same ∙ ap (option_map (object_as n)) there) in
        subst (λ z. SameHeaps k n (option_and_then (put_cell h o x v) (place_of classes x.class f)) (option_and_then (λ w. option_and_then (put_cell j (n o) w (value_as n v)) (place_of classes w.class f)) z)) e (at x (slice_get_within h o x there) (place_of classes x.class f))

-- a new object holds none
pub zero_as : (n : ℕ → ℕ) (k : Kind) → value_as n (zero_of k) ≡ zero_of k
zero_as n kind.Int = refl
zero_as n kind.Flag = refl
zero_as n (kind.Ref c) = refl

first_as : (n : ℕ → ℕ) (fields : List FieldDef) (f : ℕ) → value_as n (first_value fields f) ≡ first_value fields f
first_as n fields f = go (slice_get fields f)
  where
    go : (d : Option FieldDef) → value_as n (option_map_or (λ (x : FieldDef). zero_of x.kind) d Null) ≡ option_map_or (λ (x : FieldDef). zero_of x.kind) d Null
    go None = refl
    go (Some d) = zero_as n d.kind

firsts_as : (n : ℕ → ℕ) (fields : List FieldDef) (fs : List ℕ) → map (value_as n) (map (first_value fields) fs) ≡ map (first_value fields) fs
firsts_as n fields [] = refl
firsts_as n fields (f ∷ fs) = rw (first_as n fields f, firsts_as n fields fs) refl

push_renamed : {n : ℕ → ℕ} (h j : Heap) → IsRenamed n h j → (x : Object) → object_as n x ≡ x → IsRenamed n (h ++ x ∷ []) (j ++ x ∷ [])
push_renamed {n} h j is x same = record {
  as_many = omega (arith, length-append j (x ∷ []), length-append h (x ∷ []), is.as_many);
  objects = λ o. elim (cases_lt o (length h)) [
    | inl inside ↦ slice_get-append_left j (x ∷ []) (n o) (inside_named is o inside) ∙ is.objects o ∙ ap (option_map (object_as n)) (sym (slice_get-append_left h (x ∷ []) o inside))
    | inr beyond ↦ elim (cases_eq o (length h)) [
      | inl last ↦
          let here : slice_get (j ++ x ∷ []) (n o) ≡ Some x = ap (slice_get (j ++ x ∷ [])) (is.past o beyond ∙ last ∙ sym is.as_many) ∙ at_end j x in
          let there : slice_get (h ++ x ∷ []) o ≡ Some x = ap (slice_get (h ++ x ∷ [])) last ∙ at_end h x in
          here ∙ ap Some (sym same) ∙ ap (option_map (object_as n)) (sym there)
      | inr apart ↦
          let far : length h + 1 ≤ o = omega (arith, beyond, apart) in
          slice_get_past (j ++ x ∷ []) (n o) (omega (arith, is.past o beyond, far, length-append j (x ∷ []), is.as_many)) ∙ ap (option_map (object_as n)) (sym (slice_get_past (h ++ x ∷ []) o (omega (arith, far, length-append h (x ∷ [])))))
    ]
  ];
  past = λ o beyond. is.past o (omega (arith, beyond, length-append h (x ∷ [])));
}
  where
    at_end : (ys : Heap) (x : Object) → slice_get (ys ++ x ∷ []) (length ys) ≡ Some x
    at_end [] x = refl
    at_end (y ∷ ys) x = at_end ys x

blank_as : (n : ℕ → ℕ) (u : Parts) (class : ℕ) (x : Object) → blank u class ≡ Some x → object_as n x ≡ x
blank_as n u class x is = go (slice_get u.classes class) is
  where
    go : (d : Option ClassDef) → option_map (λ (y : ClassDef). record { class = class; cells = map (first_value u.fields) y.fields }) d ≡ Some x → object_as n x ≡ x
    go None lacking = absurd (cc)
    go (Some d) some_ =
        let e : record { class = class; cells = map (first_value u.fields) d.fields } ≡ x = cc in
        subst (λ z. object_as n z ≡ z) e (ap (λ cs. record { class = class; cells = cs }) (firsts_as n u.fields d.fields))

pub grown_same : (p : Posed) {n : ℕ → ℕ} (h j : Heap) → IsRenamed n h j → (class : ℕ) → SameHeaps p.scope.objects n (grown p h class) (grown p j class)
grown_same p {n} h j is class =
    elim (cases_lt (length h) p.scope.objects) [
      | inl room ↦ rw (lt-ltb (length h) p.scope.objects room, lt-ltb (length j) p.scope.objects (omega (arith, room, is.as_many))) (go room (blank p.unit class) refl)
      | inr full ↦ rw (le-ltb (length h) p.scope.objects full, le-ltb (length j) p.scope.objects (omega (arith, full, is.as_many))) none
    ]
  where
    go : length h < p.scope.objects → (x : Option Object) → blank p.unit class ≡ x → SameHeaps p.scope.objects n (option_map (λ y. h ++ y ∷ []) x) (option_map (λ y. j ++ y ∷ []) x)
    go room None is_none = none
    go room (Some x) made = some (h ++ x ∷ []) (j ++ x ∷ []) (push_renamed h j is x (blank_as n p.unit class x made)) (omega (arith, room, length-append h (x ∷ [])))

-- ## on from an evaluation

pub then_same : {k : ℕ} {n : ℕ → ℕ} {A B : Type 0} (as_ : A → A) (bs : B → B) (x y : Ends A) → SameEnds k n as_ x y → (c d : A → Memory → Ends B) → ((a : A) (m m' : Memory) → SameMemory k n m m' → SameEnds k n bs (c a m) (d (as_ a) m')) → SameEnds k n bs (then_with x c) (then_with y d)
then_same as_ bs _ _ (gives a m m' s) c d same = same a m m' s
then_same as_ bs _ _ (throws m m' s) c d same = throws m m' s
then_same as_ bs _ _ leaves c d same = leaves

pub seen_same : {k : ℕ} {n : ℕ → ℕ} (s : Seen) (m m' : Memory) → SameMemory k n m m' → SameEnds k n (value_as n) (ends_as m s) (ends_as m' (seen_as n s))
seen_same (Is v) m m' s = gives v m m' s
seen_same Bad m m' s = throws m m' s
seen_same Out m m' s = leaves

pub in_same : {k : ℕ} {n : ℕ → ℕ} (v : Option Value) (m m' : Memory) → SameMemory k n m m' → SameEnds k n (value_as n) (gives_in v m) (gives_in (option_map (value_as n) v) m')
in_same None m m' s = leaves
in_same (Some v) m m' s = gives v m m' s

test_same : {k : ℕ} {n : ℕ → ℕ} {B : Type 0} (bs : B → B) (c d : Bool → Memory → Ends B) → ((b : Bool) (m m' : Memory) → SameMemory k n m m' → SameEnds k n bs (c b m) (d b m')) → (v : Value) (m m' : Memory) → SameMemory k n m m' → SameEnds k n bs (on_test c v m) (on_test d (value_as n v) m')
test_same bs c d same (Flag b) m m' s = same b m m' s
test_same bs c d same Null m m' s = leaves
test_same bs c d same (Obj o) m m' s = leaves
test_same bs c d same (Num z) m m' s = leaves

then_test_same : {k : ℕ} {n : ℕ → ℕ} {B : Type 0} (bs : B → B) (x y : Ends Value) → SameEnds k n (value_as n) x y → (c d : Bool → Memory → Ends B) → ((b : Bool) (m m' : Memory) → SameMemory k n m m' → SameEnds k n bs (c b m) (d b m')) → SameEnds k n bs (then_test x c) (then_test y d)
then_test_same {k} {n} bs x y s c d same = then_same (value_as n) bs x y s (on_test c) (on_test d) (test_same bs c d same)

as_test_same : {k : ℕ} {n : ℕ → ℕ} (x y : Ends Value) → SameEnds k n (value_as n) x y → SameEnds k n (value_as n) (as_test x) (as_test y)
as_test_same {k} {n} x y s = then_test_same (value_as n) x y s (λ b m. Gives (Flag b) m) (λ b m. Gives (Flag b) m) (λ b m m' s'. gives (Flag b) m m' s')

pub object_same : {k : ℕ} {n : ℕ → ℕ} {B : Type 0} (bs : B → B) (c d : ℕ → Memory → Ends B) → ((o : ℕ) (m m' : Memory) → SameMemory k n m m' → SameEnds k n bs (c o m) (d (n o) m')) → (v : Value) (m m' : Memory) → SameMemory k n m m' → SameEnds k n bs (on_object c v m) (on_object d (value_as n v) m')
object_same bs c d same (Obj o) m m' s = same o m m' s
object_same bs c d same Null m m' s = throws m m' s
object_same bs c d same (Num z) m m' s = leaves
object_same bs c d same (Flag b) m m' s = leaves

-- ## what reads and changes the heap

cell_named : (n : ℕ → ℕ) (classes : List ClassDef) (f : ℕ) (x : Object) → cell classes f (object_as n x) ≡ option_map (value_as n) (cell classes f x)
cell_named n classes f x = go (place_of classes x.class f)
  where
    go : (place : Option ℕ) → option_and_then (λ i. slice_get (map (value_as n) x.cells) i) place ≡ option_map (value_as n) (option_and_then (λ i. slice_get x.cells i) place)
    go None = refl
    go (Some i) = slice_get-map (value_as n) x.cells i

pub read_same : {k : ℕ} {n : ℕ → ℕ} (p : Posed) (f o : ℕ) (m m' : Memory) → SameMemory k n m m' → SameEnds k n (value_as n) (read p f o m) (read p f (n o) m')
read_same {k} {n} p f o m m' s =
    let same : option_and_then (cell p.unit.classes f) (slice_get m'.heap (n o)) ≡ option_map (value_as n) (option_and_then (cell p.unit.classes f) (slice_get m.heap o)) =
    ap (option_and_then (cell p.unit.classes f)) (s.heap.objects o) ∙ go (slice_get m.heap o)
    in
    subst (λ v. SameEnds k n (value_as n) (read p f o m) (gives_in v m')) (sym same) (in_same (option_and_then (cell p.unit.classes f) (slice_get m.heap o)) m m' s)
  where
    go : (x : Option Object) → option_and_then (cell p.unit.classes f) (option_map (object_as n) x) ≡ option_map (value_as n) (option_and_then (cell p.unit.classes f) x)
    go None = refl
    go (Some x) = cell_named n p.unit.classes f x

heap_same : {k : ℕ} {n : ℕ → ℕ} {A : Type 0} (as_ : A → A) (a : A) (x y : Option Heap) → SameHeaps k n x y → (m m' : Memory) → SameEnds k n as_ (with_heap a x m) (with_heap (as_ a) y m')
heap_same as_ a _ _ none m m' = leaves
heap_same as_ a _ _ (some h j is few) m m' = gives a (record m { heap = h }) (record m' { heap = j }) (record { heap = is; few = few })

-- nothing is given
abbrev pub nothing_as : Unit {0} → Unit {0}
nothing_as z = z

pub write_same : {n nb : ℕ → ℕ} → IsNaming n nb → (p : Posed) (f o : ℕ) (v : Value) (m m' : Memory) → SameMemory p.scope.objects n m m' → SameEnds p.scope.objects n nothing_as (write p f o v m) (write p f (n o) (value_as n v) m')
write_same {n} naming p f o v m m' s =
    heap_same nothing_as tt (put p.unit.classes m.heap f o v) (put p.unit.classes m'.heap f (n o) (value_as n v)) (put_same naming m.heap m'.heap s.heap s.few p.unit.classes f o v) m m'

pub make_same : {n : ℕ → ℕ} (p : Posed) (class : ℕ) (m m' : Memory) → SameMemory p.scope.objects n m m' → SameEnds p.scope.objects n (value_as n) (make p class m) (make p class m')
make_same {n} p class m m' s =
    let new : n (length m.heap) ≡ length m'.heap = s.heap.past (length m.heap) (omega arith) ∙ sym s.heap.as_many in
    subst (λ o. SameEnds p.scope.objects n (value_as n) (make p class m) (with_heap (Obj o) (grown p m'.heap class) m')) new (heap_same (value_as n) (Obj (length m.heap)) (grown p m.heap class) (grown p m'.heap class) (grown_same p m.heap m'.heap s.heap class) m m')

-- ## code

-- code ends alike
pub record SameCode (k : ℕ) (n : ℕ → ℕ) (c : Code) : Type 0 where
  pub ends : (fr : Frame) (m m' : Memory) → SameMemory k n m m' → SameEnds k n (value_as n) (c fr m) (c (frame_as n fr) m')

operands_same : {k : ℕ} {n nb : ℕ → ℕ} → IsNaming n nb → (o : Op) (w : ℕ) (a b : Code) → SameCode k n a → SameCode k n b → (fr : Frame) (m m' : Memory) → SameMemory k n m m' → SameEnds k n (value_as n) (then_with (a fr m) (λ x l. then_with (b fr l) (λ y z. ends_as z (operated o w x y)))) (then_with (a (frame_as n fr) m') (λ x l. then_with (b (frame_as n fr) l) (λ y z. ends_as z (operated o w x y))))
operands_same {k} {n} naming o w a b sa sb fr m m' s =
    then_same (value_as n) (value_as n) (a fr m) (a (frame_as n fr) m') (sa.ends fr m m' s) (λ x l. then_with (b fr l) (λ y z. ends_as z (operated o w x y))) (λ x l. then_with (b (frame_as n fr) l) (λ y z. ends_as z (operated o w x y))) (λ v l l' s'.
    then_same (value_as n) (value_as n) (b fr l) (b (frame_as n fr) l') (sb.ends fr l l' s') (λ y z. ends_as z (operated o w v y)) (λ y z. ends_as z (operated o w (value_as n v) y)) (λ u z z' s''.
    subst (λ q. SameEnds k n (value_as n) (ends_as z (operated o w v u)) (ends_as z' q)) (sym (operated_as naming o w v u)) (seen_same (operated o w v u) z z' s'')))

flag_same : {k : ℕ} {n : ℕ → ℕ} (b : Bool) (m m' : Memory) → SameMemory k n m m' → SameEnds k n (value_as n) (Gives (Flag b) m) (Gives (Flag b) m')
flag_same b m m' s = gives (Flag b) m m' s

either_same : {k : ℕ} {n : ℕ → ℕ} {A : Type 0} (as_ : A → A) (b : Bool) (x x' y y' : Ends A) → SameEnds k n as_ x x' → SameEnds k n as_ y y' → SameEnds k n as_ (cond b x y) (cond b x' y')
either_same as_ true x x' y y' s t = s
either_same as_ false x x' y y' s t = t

pub combined_same : {k : ℕ} {n nb : ℕ → ℕ} → IsNaming n nb → (o : Op) (w : ℕ) (a b : Code) → SameCode k n a → SameCode k n b → SameCode k n (combined o w a b)
combined_same {k} {n} naming op.And w a b sa sb = record { ends = λ fr m m' s. then_test_same (value_as n) (a fr m) (a (frame_as n fr) m') (sa.ends fr m m' s) (λ x z. cond x (as_test (b fr z)) (Gives (Flag false) z)) (λ x z. cond x (as_test (b (frame_as n fr) z)) (Gives (Flag false) z)) (λ x z z' s'. either_same (value_as n) x (as_test (b fr z)) (as_test (b (frame_as n fr) z')) (Gives (Flag false) z) (Gives (Flag false) z') (as_test_same (b fr z) (b (frame_as n fr) z') (sb.ends fr z z' s')) (flag_same false z z' s')) }
combined_same {k} {n} naming op.Or w a b sa sb = record { ends = λ fr m m' s. then_test_same (value_as n) (a fr m) (a (frame_as n fr) m') (sa.ends fr m m' s) (λ x z. cond x (Gives (Flag true) z) (as_test (b fr z))) (λ x z. cond x (Gives (Flag true) z) (as_test (b (frame_as n fr) z))) (λ x z z' s'. either_same (value_as n) x (Gives (Flag true) z) (Gives (Flag true) z') (as_test (b fr z)) (as_test (b (frame_as n fr) z')) (flag_same true z z' s') (as_test_same (b fr z) (b (frame_as n fr) z') (sb.ends fr z z' s'))) }
combined_same naming op.Add w a b sa sb = record { ends = operands_same naming op.Add w a b sa sb }
combined_same naming op.Sub w a b sa sb = record { ends = operands_same naming op.Sub w a b sa sb }
combined_same naming op.Mul w a b sa sb = record { ends = operands_same naming op.Mul w a b sa sb }
combined_same naming op.Eq w a b sa sb = record { ends = operands_same naming op.Eq w a b sa sb }
combined_same naming op.Ne w a b sa sb = record { ends = operands_same naming op.Ne w a b sa sb }
combined_same naming op.Lt w a b sa sb = record { ends = operands_same naming op.Lt w a b sa sb }
combined_same naming op.Le w a b sa sb = record { ends = operands_same naming op.Le w a b sa sb }
combined_same naming op.Gt w a b sa sb = record { ends = operands_same naming op.Gt w a b sa sb }
combined_same naming op.Ge w a b sa sb = record { ends = operands_same naming op.Ge w a b sa sb }
combined_same naming op.Implies w a b sa sb = record { ends = operands_same naming op.Implies w a b sa sb }
combined_same naming op.Iff w a b sa sb = record { ends = operands_same naming op.Iff w a b sa sb }
