-- Class numbers that are shown are those of classes, exactly where the gates say so.
use Rattle.std.proofs.Common.{◌≡◌, ℕ, zero, suc, ◌+◌, ◌*◌, ◌<◌, ◌≤◌, Bool, true, false, not, ◌&&◌, ◌||◌, List, [], ◌∷◌, ◌++◌, length, map, take, get_or, All, refl, sym, subst, ap, ◌∙◌, arith, inl, inr, pos, Option, Some, None, is_some}
use Rattle.std.specs.Prelude.{◌==◌, nat_lt, slice_get, option_map, if◌then◌else◌}
use Rattle.std.specs.List.{list_all, range_with_len}
use Rattle.std.specs.Ordering.{int_eq}
use Rattle.std.specs.Option.{option_map_or}
use Rattle.std.proofs.lemmas.Bool.{false≢true, cases_Bool, cases_lt, and_parts, and_from, or_cases, ltb-true, lt-ltb, le-ltb}
use Rattle.std.proofs.lemmas.Bool.Decides.{Decides-int_eq}
use Rattle.std.proofs.lemmas.Option.{slice_get_cases, slice_get_within, get_or_from_slice_get}
use Rattle.std.proofs.lemmas.List.{take_more}
use Rattle.std.proofs.lemmas.List.Folds.{list_all-append}
use Rattle.taco_unit.specs.declared.kind.Kind.{Kind}
use Rattle.taco_unit.specs.declared.kind.Kind.TheVariants as kind
use Rattle.taco_unit.specs.declared.unit.FieldDef.{FieldDef}
use Rattle.taco_unit.specs.Well.{IsWell}
use Rattle.heap_core.specs.Posed.{Posed, InRange}
use Rattle.heap_core.specs.Outcomes.{in_bits}
use Rattle.gate_core.specs.declared.circuit.Node.{Node}
use Rattle.gate_core.specs.Circuit.{value, IsOf as IsEdge, Keeps}
use Rattle.gate_arith.specs.Operations.{IsTruth}
use Rattle.heap_core.proofs.Lists.{all_at, all_from}
use Rattle.gate_arith.specs.Numbers.{number, signed}
use Rattle.rel_core.specs.declared.relation.RelVar.{RelVar}
use Rattle.rel_core.specs.declared.relation.What.{What}
use Rattle.rel_core.specs.declared.relation.What.TheVariants as what
use Rattle.rel_core.specs.Reading.{Reading, same_relation}
use Rattle.rel_core.specs.Uses.{Kinds, AsNumber, AsClass, is_slot, same_use, use_of_kind, has_use, has_place, is_class_number, can_have, IsOf}
use Rattle.rel_gates.specs.Shown.{Named, gates_of, class_bits, row_bits, number_shown, Agrees}
use Rattle.rel_gates.specs.Naming.{IsOnce, Counted, ClassesFit}
use Rattle.rel_gates.specs.Limits.{rows_fit, is_class_of, is_fitting, all_fit, ClassesCounted}
use Rattle.rel_gates.proofs.Growing.{same_relation-is, agree_to, stands_same}

-- at most the last is below the count
pub at_most_last : (last n count : ℕ) → count ≡ last + 1 → not (nat_lt last n) ≡ nat_lt n count
at_most_last last n count is =
    elim (cases_lt n count) [
      | inl below ↦ ap not (le-ltb last n (omega (arith, below, is))) ∙ sym (lt-ltb n count below)
      | inr past ↦ ap not (lt-ltb last n (omega (arith, past, is))) ∙ sym (le-ltb n count past)
    ]

-- ## which relations have class numbers

kind_of_class : (k : Kind) → same_use AsClass (use_of_kind k) ≡ false
kind_of_class kind.Int = refl
kind_of_class kind.Flag = refl
kind_of_class (kind.Ref c) = refl

class_use : (found : Option Kind) → option_map_or (same_use AsClass) (option_map use_of_kind found) false ≡ false
class_use None = refl
class_use (Some k) = kind_of_class k

field_use : (found : Option FieldDef) → option_map_or (same_use AsClass) (option_map (λ d. use_of_kind d.kind) found) false ≡ false
field_use None = refl
field_use (Some d) = kind_of_class d.kind

pub class_what : (p : Posed) (kinds : Kinds) (w : What) → has_use p kinds AsClass w ≡ true → w ≡ what.ClassOf
class_what p kinds what.Live has = absurd (false≢true has)
class_what p kinds what.ClassOf has = refl
class_what p kinds (what.Field f) has = absurd (false≢true (sym (field_use (slice_get p.unit.fields f)) ∙ has))
class_what p kinds (what.Slot x) has = absurd (false≢true (sym (class_use (kinds x)) ∙ has))

pub classes_counted : (p : Posed) (kinds : Kinds) (es : Named) → Counted p kinds es → ClassesCounted p es
classes_counted p kinds es counted r gates found is =
    let has : has_use p kinds AsClass r.what ≡ true = ap (has_use p kinds AsClass) is in
    let slot : is_slot r.what ≡ false = ap is_slot is in
    counted r gates found AsClass has ∙ ap (λ b. (if b then 1 else p.scope.objects) * class_bits p) slot

-- ## from the gates

found_at : (es : Named) (r : RelVar) (gates : List ℕ) → gates_of es r ≡ Some gates → (i : ℕ) × (e : RelVar × List ℕ) × (slice_get es i ≡ Some e) × (e.0 ≡ r) × (e.1 ≡ gates)
found_at [] r gates is = absurd (cc)
found_at (e ∷ es) r gates is =
    elim (cases_Bool (same_relation e.0 r)) [
      | inl same ↦
          let here : Some e.1 ≡ Some gates = sym (ap (λ b. if b then Some e.1 else gates_of es r) same) ∙ is in
          (0, e, refl, same_relation-is e.0 r same, (let equal : e.1 ≡ gates = cc in equal))
      | inr other ↦
          let rest = found_at es r gates (sym (ap (λ b. if b then Some e.1 else gates_of es r) other) ∙ is) in
          (suc rest.0, rest.1, rest.2, rest.3, (let equal = rest.4 in equal))
    ]

all_range : (test : ℕ → Bool) (a n : ℕ) → list_all test (range_with_len a n) ≡ true → (o : ℕ) → a ≤ o → o < a + n → test o ≡ true
all_range test a zero all o from to = absurd (omega (arith, from, to))
all_range test a (suc n) all o from to =
    let parts = and_parts (test a) (list_all test (range_with_len (a + 1) n)) all in
    elim (cases_lt a o) [
      | inl past ↦ all_range test (a + 1) n parts.1 o (omega (arith, past)) (omega (arith, to))
      | inr here ↦ (let same : a ≡ o = omega (arith, here, from) in ap test (sym same) ∙ parts.0)
    ]

range_all : (test : ℕ → Bool) (a n : ℕ) → ((o : ℕ) → a ≤ o → o < a + n → test o ≡ true) → list_all test (range_with_len a n) ≡ true
range_all test a zero each = refl
range_all test a (suc n) each =
    and_from (test a) (list_all test (range_with_len (a + 1) n)) (each a (omega arith) (omega arith)) (range_all test (a + 1) n (λ o from to. each o (omega (arith, from)) (omega (arith, to))))

pub fit_from : (p : Posed) (kinds : Kinds) (truth : ℕ → Bool) (es : Named) → all_fit p truth es ≡ true → ClassesFit p kinds truth es
fit_from p kinds truth es all r gates found o place =
    let at = found_at es r gates found in
    let outer = and_parts (has_use p kinds AsClass r.what && nat_lt o p.scope.objects) (not (is_slot r.what) || o == 0) place in
    let inner = and_parts (has_use p kinds AsClass r.what) (nat_lt o p.scope.objects) outer.0 in
    let is_class : is_class_of at.1.0.what ≡ true = ap (λ (s : RelVar). is_class_of s.what) at.3 ∙ ap is_class_of (class_what p kinds r.what inner.0) in
    let fits : rows_fit p truth at.1.1 ≡ true = sym (ap (λ b. if b then rows_fit p truth at.1.1 else true) is_class) ∙ all_at (is_fitting p truth) es at.0 at.1 all at.2 in
    ltb-true (number (row_bits truth (class_bits p) gates o)) (length p.unit.classes)
    (all_range (λ q. nat_lt (number (row_bits truth (class_bits p) gates q)) (length p.unit.classes)) 0 p.scope.objects (sym (ap (rows_fit p truth) at.4) ∙ fits) o (omega arith)
    (omega (arith, ltb-true o p.scope.objects inner.1)))

-- ## from a reading that is shown

class_place : (p : Posed) (kinds : Kinds) (r : RelVar) (o : ℕ) → r.what ≡ what.ClassOf → o < p.scope.objects → (has_place p kinds AsClass r o ≡ true) × (has_place p kinds AsNumber r o ≡ false)
class_place p kinds r o is below =
    let less : nat_lt o p.scope.objects ≡ true = lt-ltb o p.scope.objects below in
    let here : has_place p kinds AsClass r o ≡ (nat_lt o p.scope.objects && true) = ap (λ (w : What). has_use p kinds AsClass w && nat_lt o p.scope.objects && (not (is_slot w) || o == 0)) is in (
      ap (λ (w : What). has_use p kinds AsClass w && nat_lt o p.scope.objects && (not (is_slot w) || o == 0)) is ∙ ap (λ b. b && true) less,
      ap (λ (w : What). has_use p kinds AsNumber w && nat_lt o p.scope.objects && (not (is_slot w) || o == 0)) is,
    )

number_fits : (p : Posed) (kinds : Kinds) (r : RelVar) (o n : ℕ) → 1 ≤ length p.unit.classes → can_have p kinds r o (pos n) ≡ true → has_place p kinds AsNumber r o ≡ false
    → nat_lt n (length p.unit.classes) ≡ true
number_fits p kinds r o n some can none =
    elim (or_cases (int_eq (pos n) (pos 0) || (has_place p kinds AsNumber r o && in_bits p.scope.ints (pos n))) (has_place p kinds AsClass r o && is_class_number p (pos n)) can) [
      | inl first ↦ elim (or_cases (int_eq (pos n) (pos 0)) (has_place p kinds AsNumber r o && in_bits p.scope.ints (pos n)) first) [
        | inl zero_is ↦ (let same : n ≡ 0 = (let equal : pos n ≡ pos 0 = (Decides-int_eq (pos n) (pos 0)).0 zero_is in cc) in lt-ltb n (length p.unit.classes) (omega (arith, same, some)))
        | inr here ↦ absurd (false≢true (sym none ∙ (and_parts (has_place p kinds AsNumber r o) (in_bits p.scope.ints (pos n)) here).0))
      ]
      | inr class_is ↦ (and_parts (has_place p kinds AsClass r o) (is_class_number p (pos n)) class_is).1
    ]

-- the number that a reading has is the one that the gates show
pub class_read : (p : Posed) (kinds : Kinds) (m : Reading) (r : RelVar) (truth : ℕ → Bool) (rows : List ℕ) (o : ℕ) → m.number r o ≡ number_shown p kinds truth (Some rows) r o
    → r.what ≡ what.ClassOf → o < p.scope.objects → m.number r o ≡ pos (number (row_bits truth (class_bits p) rows o))
class_read p kinds m r truth rows o is class below =
    let place = class_place p kinds r o class below in
    let as_class = pos (number (row_bits truth (class_bits p) rows o)) in
    let as_number = signed (row_bits truth p.scope.ints rows o) in
    is ∙ ap (λ b. if b then as_number else (if has_place p kinds AsClass r o then as_class else pos 0)) place.1 ∙ ap (λ b. if b then as_class else pos 0) place.0

pub class_below : (p : Posed) (kinds : Kinds) (m : Reading) (r : RelVar) (o n : ℕ) → IsOf p kinds m → 1 ≤ length p.unit.classes → r.what ≡ what.ClassOf → o < p.scope.objects
    → m.number r o ≡ pos n → nat_lt n (length p.unit.classes) ≡ true
class_below p kinds m r o n of some class below is =
    number_fits p kinds r o n some (ap (can_have p kinds r o) (sym is) ∙ of.numbers r o) (class_place p kinds r o class below).1

class_is : (w : What) → is_class_of w ≡ true → w ≡ what.ClassOf
class_is what.Live is = absurd (false≢true is)
class_is what.ClassOf is = refl
class_is (what.Field f) is = absurd (false≢true is)
class_is (what.Slot x) is = absurd (false≢true is)

pub fit_to : (p : Posed) (kinds : Kinds) (truth : ℕ → Bool) (es : Named) (m : Reading) → IsOnce es → 1 ≤ length p.unit.classes → IsOf p kinds m → Agrees p kinds truth es m
    → all_fit p truth es ≡ true
fit_to p kinds truth es m once some of agrees = all_from (is_fitting p truth) es (λ i e at. by e (once i e at) (is_class_of e.0.what) refl)
  where
    by : (e : RelVar × List ℕ) → gates_of es e.0 ≡ Some e.1 → (b : Bool) → is_class_of e.0.what ≡ b → is_fitting p truth e ≡ true
    by e found false is = ap (λ b. if b then rows_fit p truth e.1 else true) is
    by e found true is =
        let class : e.0.what ≡ what.ClassOf = class_is e.0.what is in
        let agree = (agree_to p kinds truth es m e.0 (agrees e.0 (ap is_some found))).1 in
        ap (λ b. if b then rows_fit p truth e.1 else true) is
        ∙ range_all (λ o. nat_lt (number (row_bits truth (class_bits p) e.1 o)) (length p.unit.classes)) 0 p.scope.objects (λ o from below.
        let inside : o < p.scope.objects = omega (arith, below) in
        class_below p kinds m e.0 o (number (row_bits truth (class_bits p) e.1 o)) of some class inside
        (class_read p kinds m e.0 truth e.1 o (subst (λ gs. m.number e.0 o ≡ number_shown p kinds truth gs e.0 o) found (agree o)) class inside))

-- the class of the method is one
pub some_class : (p : Posed) → IsWell p.unit → InRange p → 1 ≤ length p.unit.classes
some_class p well range =
    elim (slice_get_cases p.unit.methods p.method).1 [
      | inl found ↦ (let is = (well.methods p.method found.0 found.2).in_class in omega (arith, is))
      | inr past ↦ absurd (omega (arith, past.0, range.method_there))
    ]

-- one relation more
pub limit_more : (p : Posed) (old middle third new : List Node) (es : Named) (place : ℕ) (r : RelVar) (rows : List ℕ) (every here next : ℕ) → IsEdge old 0 → All (IsEdge old) rows
    → Keeps old middle → slice_get es place ≡ Some (r, rows) → IsTruth middle (λ inputs. all_fit p (value inputs old) (take place es)) every → Keeps middle third
    → IsTruth third (λ inputs. is_fitting p (value inputs middle) (r, rows)) here → IsTruth new (λ inputs. value inputs third every && value inputs third here) next
    → IsTruth new (λ inputs. all_fit p (value inputs old) (take (place + 1) es)) next
limit_more p old middle third new es place r rows every here next some of first at before keeps fits truth = record {
  of = truth.of;
  value_is = λ inputs.
      let same : (k : ℕ) → value inputs middle (get_or rows k 0) ≡ value inputs old (get_or rows k 0) = stands_same old middle inputs inputs rows first some of (λ q inside. refl) in
      let test = is_fitting p (value inputs old) in
      let longer : take (place + 1) es ≡ take place es ++ (r, rows) ∷ [] =
      take_more es place (r, rows) (slice_get_within es place (r, rows) at) ∙ ap (λ e. take place es ++ e ∷ []) (get_or_from_slice_get es place (r, rows) (r, rows) at) in
      let kept : is_fitting p (value inputs middle) (r, rows) ≡ is_fitting p (value inputs old) (r, rows) =
      (λ j. if is_class_of r.what then list_all (λ o. nat_lt (number (map (λ i. same (o * class_bits p + i) j) (range_with_len 0 (class_bits p)))) (length p.unit.classes)) (range_with_len
      0 p.scope.objects) else true) in
      truth.value_is inputs
      ∙ ap (λ v. v && value inputs third here) (keeps.values inputs every before.of ∙ before.value_is inputs)
      ∙ ap (λ v. list_all test (take place es) && v) (fits.value_is inputs ∙ kept ∙ sym (and_true (test (r, rows))))
      ∙ sym (list_all-append test (take place es) ((r, rows) ∷ [])) ∙ ap (list_all test) (sym longer);
}
  where
    and_true : (b : Bool) → (b && true) ≡ b
    and_true true = refl
    and_true false = refl
