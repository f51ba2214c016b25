-- The gates of each form of a number that has no numbers within.
use Rattle.std.proofs.Common.{◌≡◌, ℕ, zero, suc, ◌+◌, ◌-◌, ◌*◌, ◌^◌, ◌<◌, ◌≤◌, Bool, true, false, List, [], ◌∷◌, ◌++◌, length, map, cond, get_or, refl, sym, subst, ap, ◌∙◌, arith, add-one, ℤ, pos, negsuc, ◌-ℤ◌, Option, Some, None, is_some, length-append}
use Rattle.std.specs.Prelude.{if◌then◌else◌, int_lt, IsTrue, filter, count_by, unwrap_or}
use Rattle.std.specs.List.{range_with_len}
use Rattle.std.specs.Option.{option_map_or}
use Rattle.std.proofs.lemmas.Bool.{and_parts, le-ltb}
use Rattle.std.proofs.lemmas.Int.{ints}
use Rattle.std.proofs.lemmas.List.{map-append}
use Rattle.std.proofs.lemmas.List.Elements.{All-append, All-cons}
use Rattle.std.proofs.lemmas.List.FromFn.{length-map-range_with_len}
use Rattle.std.proofs.lemmas.List.Sums.{sum_by-cons}
use Rattle.gate_core.specs.declared.circuit.Node.{Node}
use Rattle.gate_core.specs.Circuit.{value, IsOf, Keeps}
use Rattle.gate_arith.specs.Numbers.{bit, number, signed, how_many}
use Rattle.gate_arith.specs.Operations.{bits, shown, IsTruth, IsNumber}
use Rattle.gate_arith.proofs.Signed.{signed_push}
use Rattle.gate_sets.specs.Lists.{AreTruths}
use Rattle.gate_sets.specs.Shapes.{has_object as has_gate, is_only, joined_only}
use Rattle.gate_sets.proofs.Places.{numbers_last}
use Rattle.gate_sets.proofs.Standing.{any_row_alike}
use Rattle.heap_core.specs.Posed.{Posed}
use Rattle.heap_core.specs.Outcomes.{in_bits}
use Rattle.rel_core.specs.declared.relation.RelVar.{RelVar}
use Rattle.rel_core.specs.declared.sets.RelExpr.{RelExpr}
use Rattle.rel_core.specs.declared.numbers.NumExpr.TheVariants as n
use Rattle.rel_core.specs.Reading.{Reading, numbers_below}
use Rattle.rel_core.specs.Meaning.{has_object, only, set_of, fitting, number_of}
use Rattle.rel_core.specs.Uses.{Kinds, AsNumber, AsClass, is_variable, is_spread, has_place, is_sorted_set, is_sorted_number}
use Rattle.rel_core.proofs.Forms.{number_const, number_var, number_at, number_count, sorted_number_var, sorted_number_at, sorted_number_count}
use Rattle.rel_gates.specs.Shown.{Named, gates_of, class_bits, in_row, row_bits, number_shown}
use Rattle.rel_gates.specs.Constants.{digit}
use Rattle.rel_gates.specs.Counted.{low_part, counted, IsNumberOf}
use Rattle.rel_gates.specs.Meant.{Stand, reference_at, IsSeen, AreSet}
use Rattle.rel_gates.proofs.AtOnly.{only_alike}
use Rattle.rel_gates.proofs.BitRows.{map_places, bits_of_truths, number_of_constants, row_same}
use Rattle.rel_gates.proofs.Digits.{map_alike, is_negative, low_below, parts_of}
use Rattle.rel_gates.proofs.Growing.{agree_to}
use Rattle.rel_gates.proofs.NumberMeaning.{within_or_none}
use Rattle.rel_gates.proofs.OfSets.{seen_before, spread_place, variable_place}
use Rattle.rel_gates.proofs.OnlyOne.{first_filtered, only_value}

-- ## a relation's number at a place

pub number_read : (p : Posed) (kinds : Kinds) (m : Reading) (r : RelVar) (truth : ℕ → Bool) (rows : List ℕ) (o : ℕ) → m.number r o ≡ number_shown p kinds truth (Some rows) r o
    → has_place p kinds AsNumber r o ≡ true → signed (row_bits truth p.scope.ints rows o) ≡ m.number r o
number_read p kinds m r truth rows o is place =
    let class = if has_place p kinds AsClass r o then pos (number (row_bits truth (class_bits p) rows o)) else pos 0 in
    sym (is ∙ ap (λ b. if b then signed (row_bits truth p.scope.ints rows o) else class) place)

-- where the gate is the constant true, the number is there
always : (nodes : List Node) (gates : List ℕ) (there : ℕ) (inputs : ℕ → Bool) (z : ℤ) → value inputs nodes there ≡ true → shown nodes gates inputs ≡ z → counted nodes gates there inputs ≡ Some z
always nodes gates there inputs z is same = ap (λ b. if b then Some (shown nodes gates inputs) else None) is ∙ ap Some same

pub variable_number_is : (p : Posed) (es : Named) (nodes : List Node) (r : RelVar) (rows : List ℕ) (there : ℕ) → gates_of es r ≡ Some rows → length rows ≡ p.scope.ints
    → 1 ≤ p.scope.objects → Stand nodes es → IsTruth nodes (λ inputs. true) there → IsNumberOf p es nodes (n.Var r) rows there
variable_number_is p es nodes r rows there found wide some stand constant = record {
  stands = record { of = stand r rows found; wide = wide; there_of = constant.of };
  values = λ kinds m inputs sorted seen.
      let is : is_variable p kinds AsNumber r ≡ true = sym (sorted_number_var p kinds r) ∙ sorted in
      let agree = (agree_to p kinds (value inputs nodes) es m r (seen.agrees r (ap is_some found))).1 0 in
      let read = number_read p kinds m r (value inputs nodes) rows 0 (subst (λ gs. m.number r 0 ≡ number_shown p kinds (value inputs nodes) gs r 0) found agree)
      (variable_place p kinds AsNumber r is some) in
      let row : bits inputs nodes rows ≡ row_bits (value inputs nodes) p.scope.ints rows 0 = row_same (value inputs nodes) rows rows p.scope.ints 0 wide (λ i below.
      (let same : i ≡ 0 * p.scope.ints + i = omega arith in ap (λ k. get_or rows k 0) same)) in
      always nodes rows there inputs (m.number r 0) (constant.value_is inputs) (ap signed row ∙ read) ∙ sym (number_var r m);
}

-- ## at the only object of a set

none_counted : (w : ℕ) → number (map (λ (i : ℕ). false) (range_with_len 0 w)) ≡ 0
none_counted w = from 0 w
  where
    from : (a n : ℕ) → number (map (λ (i : ℕ). false) (range_with_len a n)) ≡ 0
    from a zero = refl
    from a (suc n) = omega (arith, from (a + 1) n)

none_signed : (w : ℕ) → 1 ≤ w → signed (map (λ (i : ℕ). false) (range_with_len 0 w)) ≡ pos 0
none_signed w some =
    let top = w - 1 in
    let last : w ≡ top + 1 = omega (arith, some) in
    let low = map (λ (i : ℕ). false) (range_with_len 0 top) in
    ap (λ n. signed (map (λ (i : ℕ). false) (range_with_len 0 n))) last
    ∙ ap (λ ns. signed (map (λ (i : ℕ). false) ns)) (numbers_last top)
    ∙ ap signed (map-append (λ (i : ℕ). false) (range_with_len 0 top) (top ∷ []))
    ∙ signed_push low false
    ∙ ap (λ n. pos n -ℤ pos (2 ^ length low * bit false)) (none_counted top)
    ∙ (let nothing : 2 ^ length low * bit false ≡ 0 = omega arith in ap (λ n. pos 0 -ℤ pos n) nothing)
    ∙ omega (arith, ints)

only_is : (set : ℕ → Bool) (count : ℕ) (os : List ℕ) (o : ℕ) → filter set (range_with_len 0 count) ≡ os → only os ≡ Some o → o < count
only_is set count [] o is one = absurd (cc)
only_is set count (q ∷ []) o is one =
    let same : q ≡ o = cc in
    let found = first_filtered set 0 count q [] is in
    omega (arith, found.1, same)
only_is set count (q ∷ r ∷ os) o is one = absurd (cc)

-- bits at the only object, or none
bits_at : (w : ℕ) (bit_of : ℕ → ℕ → Bool) (number_at : ℕ → ℤ) (found : Option ℕ) → 1 ≤ w → ((o : ℕ) → found ≡ Some o → signed (map (bit_of o) (range_with_len 0 w)) ≡ number_at o)
    → signed (map (λ i. option_map_or (λ o. bit_of o i) found false) (range_with_len 0 w)) ≡ option_map_or number_at found (pos 0)
bits_at w bit_of number_at None some each = none_signed w some
bits_at w bit_of number_at (Some o) some each = each o refl

pub at_number_is : (p : Posed) (es : Named) (middle new : List Node) (e : RelExpr) (r : RelVar) (set rows places : List ℕ) (there : ℕ) → 1 ≤ p.scope.ints → AreSet p es middle e set
    → gates_of es r ≡ Some rows → Stand middle es → IsOf middle 0 → Keeps middle new
    → AreTruths new p.scope.ints (λ inputs i. joined_only p.scope.objects p.scope.ints middle set rows inputs i) places → IsTruth new (λ inputs. true) there
    → IsNumberOf p es new (n.At e r) places there
at_number_is p es middle new e r set rows places there low are found stand some keeps truths constant = record {
  stands = record { of = truths.of; wide = truths.wide; there_of = constant.of };
  values = values;
}
  where
    values : (kinds : Kinds) (m : Reading) (inputs : ℕ → Bool) → IsTrue (is_sorted_number p kinds (n.At e r)) → IsSeen p kinds new es inputs m
        → counted new places there inputs ≡ number_of (n.At e r) m
    values kinds m inputs sorted seen =
        let before = seen_before p kinds middle new es inputs m keeps some stand seen in
        let parts = and_parts (is_sorted_set p kinds e) (is_spread p kinds AsNumber r) (sym (sorted_number_at p kinds e r) ∙ sorted) in
        let truth = value inputs middle in
        let members = has_object (set_of e m) in
        let member : (o : ℕ) → o < p.scope.objects → has_gate (λ k. value inputs middle (get_or set k 0)) o ≡ has_object (set_of e m) o =
        λ o below. are.values kinds m inputs parts.0 before (o + 1) (omega (arith, below)) ∙ ap (λ k. set_of e m (reference_at k)) (add-one o) in
        let agree = (agree_to p kinds (value inputs middle) es m r (before.agrees r (ap is_some found))).1 in
        let found_only = only (filter members (range_with_len 0 p.scope.objects)) in
        let places_are : bits inputs new places ≡ map (λ i. option_map_or (λ o. in_row truth p.scope.ints rows o i) found_only false) (range_with_len 0 p.scope.ints) =
        bits_of_truths new p.scope.ints (λ inputs i. joined_only p.scope.objects p.scope.ints middle set rows inputs i) places inputs truths
        ∙ map_alike (λ i. joined_only p.scope.objects p.scope.ints middle set rows inputs i) (λ i. option_map_or (λ o. in_row truth p.scope.ints rows o i) found_only false) 0
        p.scope.ints (λ i below.
        any_row_alike p.scope.objects (is_only p.scope.objects (has_gate (λ k. value inputs middle (get_or set k 0)))) (is_only p.scope.objects members)
        (λ o k. in_row truth p.scope.ints rows o k) (λ o k. in_row truth p.scope.ints rows o k) i
        (λ o below. only_alike p.scope.objects (has_gate (λ k. value inputs middle (get_or set k 0))) members o member below) (λ o below. refl)
        ∙ sym (only_value members (λ o. in_row truth p.scope.ints rows o i) p.scope.objects)) in
        always new places there inputs (option_map_or (m.number r) found_only (pos 0)) (constant.value_is inputs)
        (ap signed places_are
        ∙ bits_at p.scope.ints (λ o i. in_row truth p.scope.ints rows o i) (m.number r) found_only low (λ o one.
        number_read p kinds m r truth rows o (subst (λ gs. m.number r o ≡ number_shown p kinds truth gs r o) found (agree o))
        (spread_place p kinds AsNumber r o parts.1 (only_is members p.scope.objects (filter members (range_with_len 0 p.scope.objects)) o refl one))))
        ∙ ap (λ k. Some (option_map_or (m.number r) (only (filter members (numbers_below k))) (pos 0))) (sym before.of_problem.objects)
        ∙ sym (number_at e r m)

-- ## how many objects there are

how_many_of : (f : ℕ → Bool) (xs : List ℕ) → how_many (map f xs) ≡ count_by f xs
how_many_of f [] = refl
how_many_of f (x ∷ xs) = omega (arith, how_many_of f xs, one (f x), sum_by-cons (λ y. cond (f y) 1 0) x xs)
  where
    one : (b : Bool) → bit b ≡ cond b 1 0
    one true = refl
    one false = refl

pub count_is : (p : Posed) (es : Named) (middle new : List Node) (e : RelExpr) (set objects found : List ℕ) (there : ℕ) → AreSet p es middle e set → length objects ≡ p.scope.objects
    → ((i : ℕ) → i < p.scope.objects → get_or objects i 0 ≡ get_or set (i + 1) 0) → Stand middle es → IsOf middle 0 → Keeps middle new
    → IsNumber new p.scope.ints (λ inputs. pos (how_many (bits inputs middle objects))) found there → IsNumberOf p es new (n.Count e) found there
count_is p es middle new e set objects found there are long same stand some keeps its_number = record {
  stands = record { of = its_number.of; wide = its_number.wide; there_of = its_number.within_is.of };
  values = λ kinds m inputs sorted seen.
      let before = seen_before p kinds middle new es inputs m keeps some stand seen in
      let its : is_sorted_set p kinds e ≡ true = sym (sorted_number_count p kinds e) ∙ sorted in
      let members = has_object (set_of e m) in
      let exact = pos (how_many (bits inputs middle objects)) in
      let bits_are : bits inputs middle objects ≡ map members (range_with_len 0 p.scope.objects) =
      map_places (value inputs middle) objects ∙ ap (λ k. map (λ i. value inputs middle (get_or objects i 0)) (range_with_len 0 k)) long
      ∙ map_alike (λ i. value inputs middle (get_or objects i 0)) members 0 p.scope.objects (λ o below.
      ap (value inputs middle) (same o (omega (arith, below))) ∙ are.values kinds m inputs its before (o + 1) (omega (arith, below)) ∙ ap (λ k. set_of e m (reference_at k)) (add-one o)) in
      ap (λ b. if b then Some (shown new found inputs) else None) (its_number.within_is.value_is inputs)
      ∙ within_or_none p.scope.ints exact (shown new found inputs) (its_number.number_is inputs)
      ∙ ap (λ bs. fitting p.scope.ints (pos (how_many bs))) bits_are
      ∙ ap (λ k. fitting p.scope.ints (pos k)) (how_many_of members (range_with_len 0 p.scope.objects))
      ∙ ap (λ k. fitting p.scope.ints (pos (count_by members (numbers_below k)))) (sym before.of_problem.objects)
      ∙ ap (λ w. fitting w (pos (count_by members (numbers_below m.objects)))) (sym before.of_problem.ints)
      ∙ sym (number_count e m);
}

-- ## constants

signed_constant : (nodes : List Node) (w top : ℕ) (z : ℤ) (constants : List ℕ) (last : ℕ) (inputs : ℕ → Bool) → w ≡ suc top → in_bits w z ≡ true
    → AreTruths nodes top (λ inputs i. digit (low_part top z) i) constants → value inputs nodes last ≡ is_negative z → shown nodes (constants ++ last ∷ []) inputs ≡ z
signed_constant nodes w top z constants last inputs wide fits are sign_is =
    let low = bits inputs nodes constants in
    let wide_low : length low ≡ top = ap length (bits_of_truths nodes top (λ inputs i. digit (low_part top z) i) constants inputs are) ∙ length-map-range_with_len (digit (low_part top z)) 0 top in
    ap signed (map-append (value inputs nodes) constants (last ∷ []))
    ∙ ap (λ b. signed (low ++ b ∷ [])) sign_is
    ∙ signed_push low (is_negative z)
    ∙ ap (λ k. pos k -ℤ pos (2 ^ length low * bit (is_negative z))) (number_of_constants nodes top (low_part top z) constants inputs are (low_below w top z fits wide))
    ∙ ap (λ k. pos (low_part top z) -ℤ pos (2 ^ k * bit (is_negative z))) wide_low
    ∙ parts_of w top z fits wide

pub constant_number_is : (p : Posed) (es : Named) (nodes : List Node) (z : ℤ) (low : Option ℕ) (top : ℕ) (constants : List ℕ) (last there : ℕ) → p.scope.ints ≡ suc top
    → low ≡ (if in_bits p.scope.ints z then Some (low_part top z) else None) → AreTruths nodes top (λ inputs i. digit (unwrap_or low 0) i) constants
    → IsTruth nodes (λ inputs. is_negative z) last → IsTruth nodes (λ inputs. is_some low) there → IsNumberOf p es nodes (n.Const z) (constants ++ last ∷ []) there
constant_number_is p es nodes z low top constants last there wide low_is are sign_is constant = record {
  stands = record {
    of = All-append (IsOf nodes) constants (last ∷ []) are.of (All-cons (IsOf nodes) last [] sign_is.of (λ k d within. absurd (omega (arith, within))));
    wide = omega (arith, wide, are.wide, length-append constants (last ∷ []));
    there_of = constant.of;
  };
  values = λ kinds m inputs sorted seen.
      ap (λ b. if b then Some (shown nodes (constants ++ last ∷ []) inputs) else None) (constant.value_is inputs)
      ∙ by inputs (in_bits p.scope.ints z) refl
      ∙ ap (λ w. fitting w z) (sym seen.of_problem.ints)
      ∙ sym (number_const z m);
}
  where
    by : (inputs : ℕ → Bool) (b : Bool) → in_bits p.scope.ints z ≡ b → (if is_some low then Some (shown nodes (constants ++ last ∷ []) inputs) else None) ≡ fitting p.scope.ints z
    by inputs true fits =
        let there_is : low ≡ Some (low_part top z) = low_is ∙ ap (λ b. if b then Some (low_part top z) else None) fits in
        ap (λ o. if is_some o then Some (shown nodes (constants ++ last ∷ []) inputs) else None) there_is
        ∙ ap Some (signed_constant nodes p.scope.ints top z constants last inputs wide fits (subst (λ o. AreTruths nodes top (λ inputs i. digit (unwrap_or o 0) i) constants) there_is are)
        (sign_is.value_is inputs))
        ∙ sym (ap (λ b. if b then Some z else None) fits)
    by inputs false lacks =
        let none : low ≡ None = low_is ∙ ap (λ b. if b then Some (low_part top z) else None) lacks in
        ap (λ o. if is_some o then Some (shown nodes (constants ++ last ∷ []) inputs) else None) none ∙ sym (ap (λ b. if b then Some z else None) lacks)

pub below_zero : (z : ℤ) → int_lt z (pos 0) ≡ is_negative z
below_zero (pos n) = le-ltb n 0 (omega arith)
below_zero (negsuc n) = refl
