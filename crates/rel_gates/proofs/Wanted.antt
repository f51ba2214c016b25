-- The truth values of a relation's gates under which they show what a reading has.
use Rattle.std.proofs.Common.{◌≡◌, ℕ, suc, ◌+◌, ◌-◌, ◌*◌, ◌/◌, ◌%◌, ◌^◌, ◌<◌, ◌≤◌, Bool, true, false, not, ◌&&◌, ◌||◌, List, length, map, get_or, refl, sym, subst, ap, ◌∙◌, arith, inl, inr, add-one, ℤ, pos, negsuc, Option, Some, None}
use Rattle.std.specs.Prelude.{◌==◌, nat_lt, if◌then◌else◌, count_by}
use Rattle.std.specs.List.{range_with_len}
use Rattle.std.specs.Ordering.{int_eq}
use Rattle.std.specs.Option.{option_map_or}
use Rattle.std.proofs.lemmas.Bool.{false≢true, cases_Bool, and_parts, or_cases, ltb-true, ltb-false, lt-ltb, le-ltb, eqb-true}
use Rattle.std.proofs.lemmas.Bool.Decides.{Decides-int_eq}
use Rattle.std.proofs.lemmas.Nat.{mul-add-lt, div-mul-add, mod-mul-add, pow_pos}
use Rattle.gate_arith.specs.Numbers.{number, signed}
use Rattle.heap_core.specs.declared.value.Value.{Value}
use Rattle.heap_core.specs.declared.value.Value.TheVariants.{Null, Obj, Num, Flag}
use Rattle.heap_core.specs.Outcomes.{in_bits}
use Rattle.heap_core.specs.Posed.{Posed}
use Rattle.rel_core.specs.declared.relation.RelVar.{RelVar}
use Rattle.rel_core.specs.declared.relation.What.{What}
use Rattle.rel_core.specs.Reading.{Reading, is_reference}
use Rattle.rel_core.specs.Shown.{natural}
use Rattle.rel_core.specs.Uses.{Kinds, Use, AsSet, AsNumber, AsFlag, AsClass, same_use, use_of, has_use, is_slot, has_place, can_have, is_class_number, IsOf}
use Rattle.rel_gates.specs.Meant.{reference_at}
use Rattle.rel_gates.specs.Shown.{class_bits, width_of, rows_of, gate_count, place_of, in_row, row_bits, refs_shown, number_shown, flag_shown}
use Rattle.rel_gates.specs.Constants.{digit}
use Rattle.rel_gates.proofs.Digits.{signed_digit, map_alike, number_of_digits, signed_of_digits}

-- ## uses

same_use-is : (u t : Use) → same_use u t ≡ true → u ≡ t
same_use-is AsSet AsSet is = refl
same_use-is AsNumber AsNumber is = refl
same_use-is AsFlag AsFlag is = refl
same_use-is AsClass AsClass is = refl
same_use-is AsSet AsNumber is = absurd (false≢true is)
same_use-is AsSet AsFlag is = absurd (false≢true is)
same_use-is AsSet AsClass is = absurd (false≢true is)
same_use-is AsNumber AsSet is = absurd (false≢true is)
same_use-is AsNumber AsFlag is = absurd (false≢true is)
same_use-is AsNumber AsClass is = absurd (false≢true is)
same_use-is AsFlag AsSet is = absurd (false≢true is)
same_use-is AsFlag AsNumber is = absurd (false≢true is)
same_use-is AsFlag AsClass is = absurd (false≢true is)
same_use-is AsClass AsSet is = absurd (false≢true is)
same_use-is AsClass AsNumber is = absurd (false≢true is)
same_use-is AsClass AsFlag is = absurd (false≢true is)

-- a relation has one its
one_of : (found : Option Use) (u t : Use) → option_map_or (same_use u) found false ≡ true → option_map_or (same_use t) found false ≡ true → u ≡ t
one_of None u t is also = absurd (false≢true is)
one_of (Some v) u t is also = same_use-is u v is ∙ sym (same_use-is t v also)

pub one_use : (p : Posed) (kinds : Kinds) (w : What) (u t : Use) → has_use p kinds u w ≡ true → has_use p kinds t w ≡ true → u ≡ t
one_use p kinds w u t is also = one_of (use_of p kinds w) u t is also

-- ## places

pub use_at : (p : Posed) (kinds : Kinds) (u : Use) (r : RelVar) (o : ℕ) → has_place p kinds u r o ≡ true → has_use p kinds u r.what ≡ true
use_at p kinds u r o is = (and_parts (has_use p kinds u r.what) (nat_lt o p.scope.objects) (and_parts (has_use p kinds u r.what && nat_lt o p.scope.objects) (not (is_slot
    r.what) || o == 0) is).0).0

row_below : (slot : Bool) (o objects : ℕ) → nat_lt o objects ≡ true → (not slot || o == 0) ≡ true → o < (if slot then 1 else objects)
row_below true o objects less only = (let is : o ≡ 0 = eqb-true o 0 only in omega arith)
row_below false o objects less only = ltb-true o objects less

pub place_below : (p : Posed) (kinds : Kinds) (u : Use) (r : RelVar) (o : ℕ) → has_place p kinds u r o ≡ true → o < rows_of p r.what
place_below p kinds u r o is =
    let parts = and_parts (has_use p kinds u r.what && nat_lt o p.scope.objects) (not (is_slot r.what) || o == 0) is in
    row_below (is_slot r.what) o p.scope.objects (and_parts (has_use p kinds u r.what) (nat_lt o p.scope.objects) parts.0).1 parts.1

pub index_below : (p : Posed) (kinds : Kinds) (u : Use) (r : RelVar) (o i : ℕ) → has_place p kinds u r o ≡ true → i < width_of p u → o * width_of p u + i < gate_count p u r
index_below p kinds u r o i is less = grind (arith, mul-add-lt o (width_of p u) i (rows_of p r.what) (place_below p kinds u r o is) less)

-- ## references and their places

pub place_within : (objects : ℕ) (v : Value) → is_reference objects v ≡ true → place_of v < objects + 1
place_within objects Null is = omega arith
place_within objects (Obj o) is = (let less = ltb-true o objects is in omega (arith, less))
place_within objects (Num z) is = absurd (false≢true is)
place_within objects (Flag b) is = absurd (false≢true is)

pub reference_back : (objects : ℕ) (v : Value) → is_reference objects v ≡ true → reference_at (place_of v) ≡ v
reference_back objects Null is = refl
reference_back objects (Obj o) is = ap reference_at (add-one o)
reference_back objects (Num z) is = absurd (false≢true is)
reference_back objects (Flag b) is = absurd (false≢true is)

-- ## what is wanted

abbrev pub wanted : Posed → Reading → RelVar → Use → ℕ → Bool
wanted p m r AsSet j = m.refs r (j / (p.scope.objects + 1)) (reference_at (j % (p.scope.objects + 1)))
wanted p m r AsNumber j = signed_digit (p.scope.ints - 1) (m.number r (j / p.scope.ints)) (j % p.scope.ints)
wanted p m r AsFlag j = m.flag r j
wanted p m r AsClass j = digit (natural (m.number r (j / class_bits p))) (j % class_bits p)

-- the gates have the wanted truth values
abbrev pub AreWanted : Posed → Reading → RelVar → Use → (ℕ → Bool) → List ℕ → Type 0
AreWanted p m r u truth gates = (j : ℕ) → j < gate_count p u r → truth (get_or gates j 0) ≡ wanted p m r u j

-- ### references

meets : (b c x y : Bool) → (x ≡ true → (b && c) ≡ true) → (b ≡ true → c ≡ true → x ≡ y) → x ≡ (b && c && y)
meets true true x y only same = same refl refl
meets true false true y only same = absurd (false≢true (only refl))
meets true false false y only same = refl
meets false c true y only same = absurd (false≢true (only refl))
meets false c false y only same = refl

refs_wanted : (p : Posed) (m : Reading) (r : RelVar) (truth : ℕ → Bool) (gates : List ℕ) (o : ℕ) (v : Value) → AreWanted p m r AsSet truth gates
    → o * (p.scope.objects + 1) + place_of v < gate_count p AsSet r
    → is_reference p.scope.objects v ≡ true → m.refs r o v ≡ in_row truth (p.scope.objects + 1) gates o (place_of v)
refs_wanted p m r truth gates o v are within is =
    let below = place_within p.scope.objects v is in
    sym (are (o * (p.scope.objects + 1) + place_of v) within
    ∙ ap (λ q. m.refs r q (reference_at ((o * (p.scope.objects + 1) + place_of v) % (p.scope.objects + 1)))) (div-mul-add o (p.scope.objects + 1) (place_of v) below)
    ∙ ap (λ i. m.refs r o (reference_at i)) (mod-mul-add o (p.scope.objects + 1) (place_of v) below)
    ∙ ap (m.refs r o) (reference_back p.scope.objects v is))

pub refs_agree : (p : Posed) (kinds : Kinds) (m : Reading) (r : RelVar) (u : Use) (truth : ℕ → Bool) (gates : List ℕ) → IsOf p kinds m → has_use p kinds u r.what ≡ true
    → AreWanted p m r u truth gates
    → (o : ℕ) (v : Value) → m.refs r o v ≡ refs_shown p kinds truth (Some gates) r o v
refs_agree p kinds m r u truth gates of its are o v =
    meets (has_place p kinds AsSet r o) (is_reference p.scope.objects v) (m.refs r o v) (in_row truth (p.scope.objects + 1) gates o (place_of v)) (of.refs r o v)
    (λ there is.
    refs_wanted p m r truth gates o v (subst (λ t. AreWanted p m r t truth gates) (one_use p kinds r.what u AsSet its (use_at p kinds AsSet r o there)) are)
    (index_below p kinds AsSet r o (place_of v) there (place_within p.scope.objects v is)) is)

-- ### flags

flag_meets : (b x y : Bool) → (x ≡ true → b ≡ true) → (b ≡ true → x ≡ y) → x ≡ (b && y)
flag_meets true x y only same = same refl
flag_meets false true y only same = absurd (false≢true (only refl))
flag_meets false false y only same = refl

pub flag_agrees : (p : Posed) (kinds : Kinds) (m : Reading) (r : RelVar) (u : Use) (truth : ℕ → Bool) (gates : List ℕ) → IsOf p kinds m → has_use p kinds u r.what ≡ true
    → AreWanted p m r u truth gates
    → (o : ℕ) → m.flag r o ≡ flag_shown p kinds truth (Some gates) r o
flag_agrees p kinds m r u truth gates of its are o =
    flag_meets (has_place p kinds AsFlag r o) (m.flag r o) (in_row truth 1 gates o 0) (of.flags r o)
    (λ there.
    let there_are = subst (λ t. AreWanted p m r t truth gates) (one_use p kinds r.what u AsFlag its (use_at p kinds AsFlag r o there)) are in
    let same : o * 1 + 0 ≡ o = omega arith in
    ap (m.flag r) (sym same) ∙ sym (there_are (o * 1 + 0) (index_below p kinds AsFlag r o 0 there (omega arith))))

-- ### numbers

row_wanted : (width o : ℕ) (truth : ℕ → Bool) (gates : List ℕ) (bit_of : ℕ → Bool) → ((i : ℕ) → i < width → truth (get_or gates (o * width + i) 0) ≡ bit_of i)
    → row_bits truth width gates o ≡ map bit_of (range_with_len 0 width)
row_wanted width o truth gates bit_of are = map_alike (in_row truth width gates o) bit_of 0 width (λ i below. are i (omega (arith, below)))

number_wanted : (p : Posed) (kinds : Kinds) (m : Reading) (r : RelVar) (truth : ℕ → Bool) (gates : List ℕ) (o top : ℕ) → AreWanted p m r AsNumber truth gates
    → has_place p kinds AsNumber r o ≡ true
    → p.scope.ints ≡ suc top → in_bits p.scope.ints (m.number r o) ≡ true → m.number r o ≡ signed (row_bits truth p.scope.ints gates o)
number_wanted p kinds m r truth gates o top are there wide is =
    let less : p.scope.ints - 1 ≡ top = omega (arith, wide) in
    let row : row_bits truth p.scope.ints gates o ≡ map (signed_digit top (m.number r o)) (range_with_len 0 p.scope.ints) =
    row_wanted p.scope.ints o truth gates (signed_digit top (m.number r o)) (λ i below.
    are (o * p.scope.ints + i) (index_below p kinds AsNumber r o i there below)
    ∙ ap (λ q. signed_digit (p.scope.ints - 1) (m.number r q) ((o * p.scope.ints + i) % p.scope.ints)) (div-mul-add o p.scope.ints i below)
    ∙ ap (λ k. signed_digit (p.scope.ints - 1) (m.number r o) k) (mod-mul-add o p.scope.ints i below)
    ∙ ap (λ t. signed_digit t (m.number r o) i) less) in
    sym (ap signed row ∙ signed_of_digits p.scope.ints top (m.number r o) is wide)

class_wanted : (p : Posed) (kinds : Kinds) (m : Reading) (r : RelVar) (truth : ℕ → Bool) (gates : List ℕ) (o c : ℕ) → AreWanted p m r AsClass truth gates
    → has_place p kinds AsClass r o ≡ true
    → m.number r o ≡ pos c → c < 2 ^ class_bits p → m.number r o ≡ pos (number (row_bits truth (class_bits p) gates o))
class_wanted p kinds m r truth gates o c are there is small =
    let row : row_bits truth (class_bits p) gates o ≡ map (digit c) (range_with_len 0 (class_bits p)) =
    row_wanted (class_bits p) o truth gates (digit c) (λ i below.
    are (o * class_bits p + i) (index_below p kinds AsClass r o i there below)
    ∙ ap (λ q. digit (natural (m.number r q)) ((o * class_bits p + i) % class_bits p)) (div-mul-add o (class_bits p) i below)
    ∙ ap (λ k. digit (natural (m.number r o)) k) (mod-mul-add o (class_bits p) i below)
    ∙ ap (λ z. digit (natural z) i) is) in
    is ∙ sym (ap (λ bs. pos (number bs)) row ∙ ap (λ n. pos n) (number_of_digits (class_bits p) c small))

-- as many bits as the class numbers need are enough
bits_enough : (n : ℕ) → n ≤ 16 → (a b c d : Bool) → nat_lt 1 n ≡ a → nat_lt 2 n ≡ b → nat_lt 4 n ≡ c → nat_lt 8 n ≡ d
    → n ≤ 2 ^ count_by (λ b. nat_lt (2 ^ b) n) (range_with_len 0 4)
bits_enough n few true true true true one two four eight = rw (one, two, four, eight) (omega (arith, few))
bits_enough n few true true true false one two four eight = rw (one, two, four, eight) (ltb-false 8 n eight)
bits_enough n few true true false d one two four eight = (let less : n ≤ 4 = ltb-false 4 n four in let not_eight : nat_lt 8 n ≡ false = le-ltb 8 n (omega (arith, less))
    in rw (one, two, four, not_eight) less)
bits_enough n few true false c d one two four eight =
    let less : n ≤ 2 = ltb-false 2 n two in
    let not_four : nat_lt 4 n ≡ false = le-ltb 4 n (omega (arith, less)) in
    let not_eight : nat_lt 8 n ≡ false = le-ltb 8 n (omega (arith, less)) in
    rw (one, two, not_four, not_eight) less
bits_enough n few false b c d one two four eight =
    let less : n ≤ 1 = ltb-false 1 n one in
    let not_two : nat_lt 2 n ≡ false = le-ltb 2 n (omega (arith, less)) in
    let not_four : nat_lt 4 n ≡ false = le-ltb 4 n (omega (arith, less)) in
    let not_eight : nat_lt 8 n ≡ false = le-ltb 8 n (omega (arith, less)) in
    rw (one, not_two, not_four, not_eight) less

pub classes_fit : (p : Posed) (c : ℕ) → length p.unit.classes ≤ 16 → c < length p.unit.classes → c < 2 ^ class_bits p
classes_fit p c few less =
    omega (
      arith,
      less,
      bits_enough (length p.unit.classes) few (nat_lt 1 (length p.unit.classes)) (nat_lt 2 (length p.unit.classes)) (nat_lt 4 (length p.unit.classes))
          (nat_lt 8 (length p.unit.classes)) refl refl refl refl,
    )

-- the number of a class of the unit
class_of : (p : Posed) (z : ℤ) → is_class_number p z ≡ true → (c : ℕ) × (z ≡ pos c) × (c < length p.unit.classes)
class_of p (pos c) is = (c, refl, ltb-true c (length p.unit.classes) is)
class_of p (negsuc n) is = absurd (false≢true is)

-- what a number of the problem can be at a place: 0, a number within the bits, or the number of a class
in_bits_of : (p : Posed) (kinds : Kinds) (r : RelVar) (o : ℕ) (z : ℤ) → can_have p kinds r o z ≡ true → has_place p kinds AsNumber r o ≡ true → in_bits p.scope.ints z ≡ true
in_bits_of p kinds r o z can there =
    elim (or_cases (int_eq z (pos 0) || (has_place p kinds AsNumber r o && in_bits p.scope.ints z)) (has_place p kinds AsClass r o && is_class_number p z) can) [
      | inl first ↦ elim (or_cases (int_eq z (pos 0)) (has_place p kinds AsNumber r o && in_bits p.scope.ints z) first) [
        | inl zero_is ↦ subst (λ x. in_bits p.scope.ints x ≡ true) (sym ((Decides-int_eq z (pos 0)).0 zero_is)) (lt-ltb 0 (2 ^ (p.scope.ints - 1)) (pow_pos (p.scope.ints - 1)))
        | inr here ↦ (and_parts (has_place p kinds AsNumber r o) (in_bits p.scope.ints z) here).1
      ]
      | inr class_is ↦
          let class_there = (and_parts (has_place p kinds AsClass r o) (is_class_number p z) class_is).0 in
          let same : AsNumber ≡ AsClass = one_use p kinds r.what AsNumber AsClass (use_at p kinds AsNumber r o there) (use_at p kinds AsClass r o class_there) in
          absurd (false≢true (sym (ap (same_use AsNumber) same)))
    ]

class_at : (p : Posed) (kinds : Kinds) (r : RelVar) (o : ℕ) (z : ℤ) → can_have p kinds r o z ≡ true → has_place p kinds AsNumber r o ≡ false → length p.unit.classes ≤ 16
    → (c : ℕ) × (z ≡ pos c) × (c < 2 ^ class_bits p)
class_at p kinds r o z can none few =
    elim (or_cases (int_eq z (pos 0) || (has_place p kinds AsNumber r o && in_bits p.scope.ints z)) (has_place p kinds AsClass r o && is_class_number p z) can) [
      | inl first ↦ elim (or_cases (int_eq z (pos 0)) (has_place p kinds AsNumber r o && in_bits p.scope.ints z) first) [
        | inl zero_is ↦ (0, (Decides-int_eq z (pos 0)).0 zero_is, pow_pos (class_bits p))
        | inr here ↦ absurd (false≢true (sym none ∙ (and_parts (has_place p kinds AsNumber r o) (in_bits p.scope.ints z) here).0))
      ]
      | inr class_is ↦
          let found = class_of p z (and_parts (has_place p kinds AsClass r o) (is_class_number p z) class_is).1 in
          (found.0, found.1, classes_fit p found.0 few found.2)
    ]

no_number : (p : Posed) (kinds : Kinds) (r : RelVar) (o : ℕ) (z : ℤ) → can_have p kinds r o z ≡ true → has_place p kinds AsNumber r o ≡ false
    → has_place p kinds AsClass r o ≡ false → z ≡ pos 0
no_number p kinds r o z can none nor =
    elim (or_cases (int_eq z (pos 0) || (has_place p kinds AsNumber r o && in_bits p.scope.ints z)) (has_place p kinds AsClass r o && is_class_number p z) can) [
      | inl first ↦ elim (or_cases (int_eq z (pos 0)) (has_place p kinds AsNumber r o && in_bits p.scope.ints z) first) [
        | inl zero_is ↦ (Decides-int_eq z (pos 0)).0 zero_is
        | inr here ↦ absurd (false≢true (sym none ∙ (and_parts (has_place p kinds AsNumber r o) (in_bits p.scope.ints z) here).0))
      ]
      | inr class_is ↦ absurd (false≢true (sym nor ∙ (and_parts (has_place p kinds AsClass r o) (is_class_number p z) class_is).0))
    ]

pub number_agrees : (p : Posed) (kinds : Kinds) (m : Reading) (r : RelVar) (u : Use) (truth : ℕ → Bool) (gates : List ℕ) → IsOf p kinds m → 2 ≤ p.scope.ints → length p.unit.classes ≤ 16
    → has_use p kinds u r.what ≡ true → AreWanted p m r u truth gates → (o : ℕ) → m.number r o ≡ number_shown p kinds truth (Some gates) r o
number_agrees p kinds m r u truth gates of wide few its are o =
    let as_number = signed (row_bits truth p.scope.ints gates o) in
    let as_class = pos (number (row_bits truth (class_bits p) gates o)) in
    let shown = λ (a b : Bool). if a then as_number else (if b then as_class else pos 0) in
    elim (cases_Bool (has_place p kinds AsNumber r o)) [
      | inl there ↦
          number_wanted p kinds m r truth gates o (p.scope.ints - 1)
          (subst (λ t. AreWanted p m r t truth gates) (one_use p kinds r.what u AsNumber its (use_at p kinds AsNumber r o there)) are) there (omega (arith, wide))
          (in_bits_of p kinds r o (m.number r o) (of.numbers r o) there)
          ∙ sym (ap (λ a. shown a (has_place p kinds AsClass r o)) there)
      | inr none ↦ elim (cases_Bool (has_place p kinds AsClass r o)) [
        | inl there ↦
            let found = class_at p kinds r o (m.number r o) (of.numbers r o) none few in
            class_wanted p kinds m r truth gates o found.0
            (subst (λ t. AreWanted p m r t truth gates) (one_use p kinds r.what u AsClass its (use_at p kinds AsClass r o there)) are) there found.1 found.2
            ∙ sym (ap (λ a. shown a (has_place p kinds AsClass r o)) none ∙ ap (shown false) there)
        | inr nor ↦ no_number p kinds r o (m.number r o) (of.numbers r o) none nor ∙ sym (ap (λ a. shown a (has_place p kinds AsClass r o)) none ∙ ap (shown false) nor)
      ]
    ]
