-- Two rows of gates agree exactly where the relations have the same.
use Rattle.std.proofs.Common.{◌≡◌, ℕ, zero, suc, ◌+◌, ◌-◌, ◌*◌, ◌^◌, ◌<◌, ◌≤◌, Bool, true, false, not, ◌&&◌, ◌||◌, List, [], ◌∷◌, map, refl, sym, subst, ap, ◌∙◌, arith, inl, inr, ℤ, pos, ◌-ℤ◌, Some}
use Rattle.std.specs.Prelude.{nat_lt, if◌then◌else◌}
use Rattle.std.specs.Ordering.{int_eq}
use Rattle.std.specs.List.{list_all, range_with_len}
use Rattle.std.proofs.lemmas.Bool.{false≢true, cases_Bool, cases_lt, and_parts, or_cases}
use Rattle.std.proofs.lemmas.Bool.Decides.{Decides-int_eq}
use Rattle.std.proofs.lemmas.Int.{ints}
use Rattle.std.proofs.lemmas.List.{map-append}
use Rattle.std.proofs.lemmas.List.FromFn.{length-map-range_with_len}
use Rattle.gate_arith.specs.Numbers.{bit, number, signed, differ}
use Rattle.gate_arith.proofs.Bits.{bit_le}
use Rattle.gate_arith.proofs.Signed.{signed_push, number_below}
use Rattle.gate_sets.specs.Shapes.{are_same}
use Rattle.gate_sets.proofs.Places.{numbers_last}
use Rattle.heap_core.specs.declared.value.Value.{Value}
use Rattle.heap_core.specs.Posed.{Posed}
use Rattle.heap_core.specs.Outcomes.{in_bits, same_flag}
use Rattle.rel_core.specs.declared.relation.RelVar.{RelVar}
use Rattle.rel_core.specs.Reading.{Reading, is_reference, references}
use Rattle.rel_core.specs.Meaning.{same_at}
use Rattle.rel_core.specs.Uses.{Kinds, Use, AsSet, AsNumber, AsFlag, AsClass, same_use, is_slot, has_use, has_place, is_class_number, IsOf}
use Rattle.rel_gates.specs.Shown.{class_bits, width_of, in_row, row_bits}
use Rattle.rel_gates.specs.Meant.{reference_at}
use Rattle.rel_gates.proofs.Wanted.{one_use}
use Rattle.rel_gates.proofs.Digits.{map_alike}
use Rattle.rel_gates.proofs.Growing.{AgreesWith}
use Rattle.rel_gates.proofs.OfSets.{refs_read}
use Rattle.rel_gates.proofs.Inclusions.{all_alike, all_references}

-- ## bits that agree

agree_test : (b c : Bool) → b ≡ c → not (differ b c) ≡ true
agree_test true true same = refl
agree_test false false same = refl
agree_test true false same = absurd (false≢true (sym same))
agree_test false true same = absurd (false≢true same)

agree_from : (b c : Bool) → not (differ b c) ≡ true → b ≡ c
agree_from true true is = refl
agree_from false false is = refl
agree_from true false is = absurd (false≢true is)
agree_from false true is = absurd (false≢true is)

flags_agree : (b c : Bool) → not (differ b c) ≡ same_flag b c
flags_agree true true = refl
flags_agree true false = refl
flags_agree false true = refl
flags_agree false false = refl

range_true : (test : ℕ → Bool) (a n : ℕ) → ((i : ℕ) → a ≤ i → i < a + n → test i ≡ true) → list_all test (range_with_len a n) ≡ true
range_true test a zero each = refl
range_true test a (suc n) each =
    ap (λ b. b && list_all test (range_with_len (a + 1) n)) (each a (omega arith) (omega arith)) ∙ range_true test (a + 1) n (λ i from to. each i (omega (arith, from)) (omega (arith, to)))

true_range : (test : ℕ → Bool) (a n : ℕ) → list_all test (range_with_len a n) ≡ true → (i : ℕ) → a ≤ i → i < a + n → test i ≡ true
true_range test a zero all i from to = absurd (omega (arith, from, to))
true_range test a (suc n) all i from to =
    let parts = and_parts (test a) (list_all test (range_with_len (a + 1) n)) all in
    elim (cases_lt a i) [
      | inl past ↦ true_range test (a + 1) n parts.1 i (omega (arith, past)) (omega (arith, to))
      | inr here ↦ (let same : a ≡ i = omega (arith, here, from) in ap test (sym same) ∙ parts.0)
    ]

alike_same : (w : ℕ) (a b : ℕ → Bool) → ((i : ℕ) → i < w → a i ≡ b i) → are_same w a b ≡ true
alike_same w a b same = range_true (λ i. not (differ (a i) (b i))) 0 w (λ i from to. agree_test (a i) (b i) (same i (omega (arith, to))))

same_alike : (w : ℕ) (a b : ℕ → Bool) → are_same w a b ≡ true → (i : ℕ) → i < w → a i ≡ b i
same_alike w a b all i below = agree_from (a i) (b i) (true_range (λ k. not (differ (a k) (b k))) 0 w all i (omega arith) (omega (arith, below)))

-- two tests that follow from one another
both_ways : (b c : Bool) → (b ≡ true → c ≡ true) → (c ≡ true → b ≡ true) → b ≡ c
both_ways true c there back = sym (there refl)
both_ways false true there back = back refl
both_ways false false there back = refl

bit_same : (b c : Bool) → bit b ≡ bit c → b ≡ c
bit_same true true same = refl
bit_same false false same = refl
bit_same true false same = absurd (omega (arith, same))
bit_same false true same = absurd (omega (arith, same))

number_alike : (a b : ℕ → Bool) (start n : ℕ) → number (map a (range_with_len start n)) ≡ number (map b (range_with_len start n)) → (i : ℕ) → start ≤ i → i < start + n → a i ≡ b i
number_alike a b start zero same i from to = absurd (omega (arith, from, to))
number_alike a b start (suc n) same i from to =
    let first : bit (a start) ≡ bit (b start) = omega (arith, same, bit_le (a start), bit_le (b start)) in
    let rest : number (map a (range_with_len (start + 1) n)) ≡ number (map b (range_with_len (start + 1) n)) = omega (arith, same, first) in
    elim (cases_lt start i) [
      | inl past ↦ number_alike a b (start + 1) n rest i (omega (arith, past)) (omega (arith, to))
      | inr here ↦ (let place : start ≡ i = omega (arith, here, from) in subst (λ k. a k ≡ b k) place (bit_same (a start) (b start) first))
    ]

number_test : (w : ℕ) (a b : ℕ → Bool) → are_same w a b ≡ int_eq (pos (number (map a (range_with_len 0 w)))) (pos (number (map b (range_with_len 0 w))))
number_test w a b =
    let x = number (map a (range_with_len 0 w)) in
    let y = number (map b (range_with_len 0 w)) in
    both_ways (are_same w a b) (int_eq (pos x) (pos y))
    (λ all. (Decides-int_eq (pos x) (pos y)).1 (ap (λ bs. pos (number bs)) (map_alike a b 0 w (λ i below. same_alike w a b all i (omega (arith, below))))))
    (λ is.
    let same : x ≡ y = (let equal : pos x ≡ pos y = (Decides-int_eq (pos x) (pos y)).0 is in cc) in
    alike_same w a b (λ i below. number_alike a b 0 w same i (omega arith) (omega (arith, below))))

-- a signed number, by its bits below the sign and by the sign
signed_split : (a : ℕ → Bool) (w top : ℕ) → w ≡ top + 1 → signed (map a (range_with_len 0 w)) ≡ (pos (number (map a (range_with_len 0 top))) -ℤ pos (2 ^ top * bit (a top)))
signed_split a w top whole =
    let low = map a (range_with_len 0 top) in
    ap (λ n. signed (map a (range_with_len 0 n))) whole ∙ ap (λ ns. signed (map a ns)) (numbers_last top) ∙ ap signed (map-append a (range_with_len 0 top) (top ∷ []))
    ∙ signed_push low (a top) ∙ ap (λ n. pos (number low) -ℤ pos (2 ^ n * bit (a top))) (length-map-range_with_len a 0 top)

low_below : (a : ℕ → Bool) (top : ℕ) → number (map a (range_with_len 0 top)) < 2 ^ top
low_below a top = subst (λ n. number (map a (range_with_len 0 top)) < 2 ^ n) (length-map-range_with_len a 0 top) (number_below (map a (range_with_len 0 top)))

parts_same : (n m p : ℕ) (s t : Bool) → n < p → m < p → (pos n -ℤ pos (p * bit s)) ≡ (pos m -ℤ pos (p * bit t)) → (n ≡ m) × (s ≡ t)
parts_same n m p true true less under same = (omega (arith, ints, same), refl)
parts_same n m p false false less under same = (omega (arith, ints, same), refl)
parts_same n m p true false less under same = absurd (omega (arith, ints, same, less, under))
parts_same n m p false true less under same = absurd (omega (arith, ints, same, less, under))

signed_test : (w : ℕ) (a b : ℕ → Bool) → 1 ≤ w → are_same w a b ≡ int_eq (signed (map a (range_with_len 0 w))) (signed (map b (range_with_len 0 w)))
signed_test w a b some =
    let x = signed (map a (range_with_len 0 w)) in
    let y = signed (map b (range_with_len 0 w)) in
    both_ways (are_same w a b) (int_eq x y)
    (λ all. (Decides-int_eq x y).1 (ap signed (map_alike a b 0 w (λ i below. same_alike w a b all i (omega (arith, below))))))
    (λ is. alike_same w a b (all_same ((Decides-int_eq x y).0 is)))
  where
    top : ℕ
    top = w - 1

    whole : w ≡ w - 1 + 1
    whole = omega (arith, some)

    all_same : signed (map a (range_with_len 0 w)) ≡ signed (map b (range_with_len 0 w)) → (i : ℕ) → i < w → a i ≡ b i
    all_same same i below =
        let parts = parts_same (number (map a (range_with_len 0 (w - 1)))) (number (map b (range_with_len 0 (w - 1)))) (2 ^ (w - 1)) (a (w - 1)) (b (w - 1)) (low_below a (w - 1)) (low_below b (w - 1))
        (sym (signed_split a w (w - 1) whole) ∙ same ∙ signed_split b w (w - 1) whole) in
        elim (cases_lt i (w - 1)) [
          | inl under ↦ number_alike a b 0 (w - 1) parts.0 i (omega arith) (omega (arith, under))
          | inr last ↦ (let place : w - 1 ≡ i = omega (arith, last, below) in subst (λ k. a k ≡ b k) place parts.1)
        ]

-- ## what a relation of another use has

place_use : (p : Posed) (kinds : Kinds) (u : Use) (r : RelVar) (o : ℕ) → has_place p kinds u r o ≡ true → has_use p kinds u r.what ≡ true
place_use p kinds u r o is =
    (and_parts (has_use p kinds u r.what) (nat_lt o p.scope.objects) (and_parts (has_use p kinds u r.what && nat_lt o p.scope.objects) (not (is_slot r.what) || _) is).0).0

no_place : (p : Posed) (kinds : Kinds) (u t : Use) (r : RelVar) (o : ℕ) → has_use p kinds u r.what ≡ true → same_use u t ≡ false → same_use u u ≡ true → has_place p kinds t r o ≡ false
no_place p kinds u t r o its other one =
    elim (cases_Bool (has_place p kinds t r o)) [
      | inl there ↦ absurd (false≢true (sym other ∙ ap (same_use u) (sym (one_use p kinds r.what u t its (place_use p kinds t r o there))) ∙ one))
      | inr none ↦ none
    ]

no_refs : (p : Posed) (kinds : Kinds) (m : Reading) (r : RelVar) (o : ℕ) (v : Value) → IsOf p kinds m → has_place p kinds AsSet r o ≡ false → m.refs r o v ≡ false
no_refs p kinds m r o v of none =
    elim (cases_Bool (m.refs r o v)) [
      | inl there ↦ absurd (false≢true (sym none ∙ (and_parts (has_place p kinds AsSet r o) (is_reference p.scope.objects v) (of.refs r o v there)).0))
      | inr lacks ↦ lacks
    ]

no_flag : (p : Posed) (kinds : Kinds) (m : Reading) (r : RelVar) (o : ℕ) → IsOf p kinds m → has_place p kinds AsFlag r o ≡ false → m.flag r o ≡ false
no_flag p kinds m r o of none =
    elim (cases_Bool (m.flag r o)) [
      | inl there ↦ absurd (false≢true (sym none ∙ of.flags r o there))
      | inr lacks ↦ lacks
    ]

no_number : (p : Posed) (kinds : Kinds) (m : Reading) (r : RelVar) (o : ℕ) → IsOf p kinds m → has_place p kinds AsNumber r o ≡ false → has_place p kinds AsClass r o ≡ false
    → m.number r o ≡ pos 0
no_number p kinds m r o of none nor =
    let z = m.number r o in
    elim (or_cases (int_eq z (pos 0) || (has_place p kinds AsNumber r o && in_bits p.scope.ints z)) (has_place p kinds AsClass r o && is_class_number p z) (of.numbers r o)) [
      | inl first ↦ elim (or_cases (int_eq z (pos 0)) (has_place p kinds AsNumber r o && in_bits p.scope.ints z) first) [
        | inl zero_is ↦ (Decides-int_eq z (pos 0)).0 zero_is
        | inr here ↦ absurd (false≢true (sym none ∙ (and_parts (has_place p kinds AsNumber r o) (in_bits p.scope.ints z) here).0))
      ]
      | inr class_is ↦ absurd (false≢true (sym nor ∙ (and_parts (has_place p kinds AsClass r o) (is_class_number p z) class_is).0))
    ]

-- ## rows

-- the rows of a relation of this use, which can have something at the place
pub record IsRowOf (p : Posed) (kinds : Kinds) (m : Reading) (truth : ℕ → Bool) (u : Use) (r : RelVar) (rows : List ℕ) (o : ℕ) : Type 0 where
  pub place : has_place p kinds u r o ≡ true
  pub agree : AgreesWith p kinds truth (Some rows) m r

refs_none : (m : Reading) (r s : RelVar) (o q : ℕ) (vs : List Value) → ((v : Value) → m.refs r o v ≡ false) → ((v : Value) → m.refs s q v ≡ false)
    → list_all (λ v. same_flag (m.refs r o v) (m.refs s q v)) vs ≡ true
refs_none m r s o q [] first second = refl
refs_none m r s o q (v ∷ vs) first second =
    let rest = list_all (λ u. same_flag (m.refs r o u) (m.refs s q u)) vs in
    ap (λ b. same_flag b (m.refs s q v) && rest) (first v) ∙ ap (λ b. same_flag false b && rest) (second v) ∙ refs_none m r s o q vs first second

zeros : (x y : ℤ) → x ≡ pos 0 → y ≡ pos 0 → int_eq x y ≡ true
zeros x y first second = (Decides-int_eq x y).1 (first ∙ sym second)

nones : (b c : Bool) → b ≡ false → c ≡ false → same_flag b c ≡ true
nones b c first second = ap (λ x. same_flag x c) first ∙ ap (same_flag false) second

keep_first : (b : Bool) → ((b && true) && true) ≡ b
keep_first true = refl
keep_first false = refl

keep_second : (b : Bool) → ((true && b) && true) ≡ b
keep_second true = refl
keep_second false = refl

abbrev pub RowsTell : Posed → Kinds → Reading → (ℕ → Bool) → Use → Type 0
RowsTell p kinds m truth u =
    (r s : RelVar) (rows others : List ℕ) (o q : ℕ) → IsRowOf p kinds m truth u r rows o → IsRowOf p kinds m truth u s others q
    → are_same (width_of p u) (in_row truth (width_of p u) rows o) (in_row truth (width_of p u) others q) ≡ same_at m r o s q

sets_tell : (p : Posed) (kinds : Kinds) (m : Reading) (truth : ℕ → Bool) → IsOf p kinds m → RowsTell p kinds m truth AsSet
sets_tell p kinds m truth of r s rows others o q first second =
    let mine = place_use p kinds AsSet r o first.place in
    let its = place_use p kinds AsSet s q second.place in
    let numbers : int_eq (m.number r o) (m.number s q) ≡ true =
    zeros (m.number r o) (m.number s q) (no_number p kinds m r o of (no_place p kinds AsSet AsNumber r o mine refl refl) (no_place p kinds AsSet AsClass r o mine refl refl))
    (no_number p kinds m s q of (no_place p kinds AsSet AsNumber s q its refl refl) (no_place p kinds AsSet AsClass s q its refl refl)) in
    let flags : same_flag (m.flag r o) (m.flag s q) ≡ true =
    nones (m.flag r o) (m.flag s q) (no_flag p kinds m r o of (no_place p kinds AsSet AsFlag r o mine refl refl)) (no_flag p kinds m s q of (no_place p kinds AsSet AsFlag s q its refl refl)) in
    let all = list_all (λ v. same_flag (m.refs r o v) (m.refs s q v)) (references m.objects) in
    all_alike (λ i. not (differ (in_row truth (p.scope.objects + 1) rows o i) (in_row truth (p.scope.objects + 1) others q i)))
    (λ i. same_flag (m.refs r o (reference_at i)) (m.refs s q (reference_at i))) 0 (p.scope.objects + 1) (λ i under.
    let below : i < p.scope.objects + 1 = omega (arith, under) in
    ap (λ b. not (differ b (in_row truth (p.scope.objects + 1) others q i))) (refs_read p kinds m r truth rows o i (first.agree.0 o (reference_at i)) first.place below)
    ∙ ap (λ b. not (differ (m.refs r o (reference_at i)) b)) (refs_read p kinds m s truth others q i (second.agree.0 q (reference_at i)) second.place below)
    ∙ flags_agree (m.refs r o (reference_at i)) (m.refs s q (reference_at i)))
    ∙ all_references (λ v. same_flag (m.refs r o v) (m.refs s q v)) p.scope.objects
    ∙ ap (λ n. list_all (λ v. same_flag (m.refs r o v) (m.refs s q v)) (references n)) (sym of.objects)
    ∙ sym (ap (λ b. (all && b) && same_flag (m.flag r o) (m.flag s q)) numbers ∙ ap (λ b. (all && true) && b) flags ∙ keep_first all)

no_references : (p : Posed) (kinds : Kinds) (m : Reading) (u : Use) (r s : RelVar) (o q : ℕ) → IsOf p kinds m → has_use p kinds u r.what ≡ true → has_use p kinds u s.what ≡ true
    → same_use u AsSet ≡ false → same_use u u ≡ true → list_all (λ v. same_flag (m.refs r o v) (m.refs s q v)) (references m.objects) ≡ true
no_references p kinds m u r s o q of mine its other one =
    refs_none m r s o q (references m.objects) (λ v. no_refs p kinds m r o v of (no_place p kinds u AsSet r o mine other one)) (λ v. no_refs p kinds m s q v of
    (no_place p kinds u AsSet s q its other one))

no_flags : (p : Posed) (kinds : Kinds) (m : Reading) (u : Use) (r s : RelVar) (o q : ℕ) → IsOf p kinds m → has_use p kinds u r.what ≡ true → has_use p kinds u s.what ≡ true
    → same_use u AsFlag ≡ false → same_use u u ≡ true → same_flag (m.flag r o) (m.flag s q) ≡ true
no_flags p kinds m u r s o q of mine its other one =
    nones (m.flag r o) (m.flag s q) (no_flag p kinds m r o of (no_place p kinds u AsFlag r o mine other one)) (no_flag p kinds m s q of (no_place p kinds u AsFlag s q its other one))

numbers_tell : (p : Posed) (kinds : Kinds) (m : Reading) (truth : ℕ → Bool) → 1 ≤ p.scope.ints → IsOf p kinds m → RowsTell p kinds m truth AsNumber
numbers_tell p kinds m truth wide of r s rows others o q first second =
    let mine = place_use p kinds AsNumber r o first.place in
    let its = place_use p kinds AsNumber s q second.place in
    let number_is : m.number r o ≡ signed (row_bits truth p.scope.ints rows o) =
    first.agree.1 o ∙ ap (λ b. if b then signed (row_bits truth p.scope.ints rows o) else
    (if has_place p kinds AsClass r o then pos (number (row_bits truth (class_bits p) rows o)) else pos 0)) first.place in
    let other_is : m.number s q ≡ signed (row_bits truth p.scope.ints others q) =
    second.agree.1 q ∙ ap (λ b. if b then signed (row_bits truth p.scope.ints others q) else
    (if has_place p kinds AsClass s q then pos (number (row_bits truth (class_bits p) others q)) else pos 0)) second.place in
    let test = int_eq (m.number r o) (m.number s q) in
    signed_test p.scope.ints (in_row truth p.scope.ints rows o) (in_row truth p.scope.ints others q) wide
    ∙ ap (λ z. int_eq z (signed (row_bits truth p.scope.ints others q))) (sym number_is) ∙ ap (int_eq (m.number r o)) (sym other_is)
    ∙ sym (ap (λ b. (b && test) && same_flag (m.flag r o) (m.flag s q)) (no_references p kinds m AsNumber r s o q of mine its refl refl)
    ∙ ap (λ b. (true && test) && b) (no_flags p kinds m AsNumber r s o q of mine its refl refl) ∙ keep_second test)

classes_tell : (p : Posed) (kinds : Kinds) (m : Reading) (truth : ℕ → Bool) → IsOf p kinds m → RowsTell p kinds m truth AsClass
classes_tell p kinds m truth of r s rows others o q first second =
    let mine = place_use p kinds AsClass r o first.place in
    let its = place_use p kinds AsClass s q second.place in
    let shown = λ (t : RelVar) (gs : List ℕ) (k : ℕ) (b c : Bool). if b then signed (row_bits truth p.scope.ints gs k) else (if c then pos (number (row_bits truth (class_bits p) gs k)) else pos 0) in
    let number_is : m.number r o ≡ pos (number (row_bits truth (class_bits p) rows o)) =
    first.agree.1 o ∙ ap (λ b. shown r rows o b (has_place p kinds AsClass r o)) (no_place p kinds AsClass AsNumber r o mine refl refl) ∙ ap (shown r rows o false) first.place in
    let other_is : m.number s q ≡ pos (number (row_bits truth (class_bits p) others q)) =
    second.agree.1 q ∙ ap (λ b. shown s others q b (has_place p kinds AsClass s q)) (no_place p kinds AsClass AsNumber s q its refl refl) ∙ ap (shown s others q false) second.place in
    let test = int_eq (m.number r o) (m.number s q) in
    number_test (class_bits p) (in_row truth (class_bits p) rows o) (in_row truth (class_bits p) others q)
    ∙ ap (λ z. int_eq z (pos (number (row_bits truth (class_bits p) others q)))) (sym number_is) ∙ ap (int_eq (m.number r o)) (sym other_is)
    ∙ sym (ap (λ b. (b && test) && same_flag (m.flag r o) (m.flag s q)) (no_references p kinds m AsClass r s o q of mine its refl refl)
    ∙ ap (λ b. (true && test) && b) (no_flags p kinds m AsClass r s o q of mine its refl refl) ∙ keep_second test)

keep_third : (b : Bool) → ((true && true) && b) ≡ (b && true)
keep_third true = refl
keep_third false = refl

flags_tell : (p : Posed) (kinds : Kinds) (m : Reading) (truth : ℕ → Bool) → IsOf p kinds m → RowsTell p kinds m truth AsFlag
flags_tell p kinds m truth of r s rows others o q first second =
    let mine = place_use p kinds AsFlag r o first.place in
    let its = place_use p kinds AsFlag s q second.place in
    let x = in_row truth 1 rows o 0 in
    let y = in_row truth 1 others q 0 in
    let flag_is : m.flag r o ≡ x = first.agree.2 o ∙ ap (λ b. b && x) first.place in
    let other_is : m.flag s q ≡ y = second.agree.2 q ∙ ap (λ b. b && y) second.place in
    let numbers : int_eq (m.number r o) (m.number s q) ≡ true =
    zeros (m.number r o) (m.number s q) (no_number p kinds m r o of (no_place p kinds AsFlag AsNumber r o mine refl refl) (no_place p kinds AsFlag AsClass r o mine refl refl))
    (no_number p kinds m s q of (no_place p kinds AsFlag AsNumber s q its refl refl) (no_place p kinds AsFlag AsClass s q its refl refl)) in
    ap (λ b. b && true) (flags_agree x y ∙ ap (λ b. same_flag b y) (sym flag_is) ∙ ap (same_flag (m.flag r o)) (sym other_is))
    ∙ sym (ap (λ b. (b && int_eq (m.number r o) (m.number s q)) && same_flag (m.flag r o) (m.flag s q)) (no_references p kinds m AsFlag r s o q of mine its refl refl)
    ∙ ap (λ b. (true && b) && same_flag (m.flag r o) (m.flag s q)) numbers ∙ keep_third (same_flag (m.flag r o) (m.flag s q)))

pub rows_tell : (p : Posed) (kinds : Kinds) (m : Reading) (truth : ℕ → Bool) (u : Use) → 1 ≤ p.scope.ints → IsOf p kinds m → RowsTell p kinds m truth u
rows_tell p kinds m truth AsSet wide of = sets_tell p kinds m truth of
rows_tell p kinds m truth AsNumber wide of = numbers_tell p kinds m truth wide of
rows_tell p kinds m truth AsFlag wide of = flags_tell p kinds m truth of
rows_tell p kinds m truth AsClass wide of = classes_tell p kinds m truth of
