-- All uses of a list are named, one after the other.
use Rattle.std.proofs.Common.{◌≡◌, ℕ, zero, suc, ◌+◌, ◌-◌, true, false, List, [], ◌∷◌, ◌++◌, length, refl, sym, subst, ap, ◌∙◌, arith, inl, inr, Option, Some, None, is_some, length-append}
use Rattle.std.specs.Prelude.{◌==◌, Bool, slice_get, if◌then◌else◌}
use Rattle.std.specs.Option.{option_map_or}
use Rattle.std.proofs.lemmas.Bool.{true≢false, false≢true, cases_Bool, cases_lt, eq-eqb}
use Rattle.gate_core.specs.declared.circuit.Node.{Node}
use Rattle.gate_core.proofs.Values.{of_more}
use Rattle.heap_core.specs.Posed.{Posed}
use Rattle.heap_core.proofs.Lists.{slice_get-append_left, slice_get-append_right}
use Rattle.rel_core.specs.declared.relation.RelVar.{RelVar}
use Rattle.rel_core.specs.Reading.{same_relation}
use Rattle.rel_core.specs.Uses.{Kinds, has_use}
use Rattle.rel_gates.specs.Shown.{Named, gates_of, gate_count}
use Rattle.rel_gates.specs.Naming.{Wanted, is_named_for, AreInputs, Names, Stays, Grows, FitsUse, Counted, IsOnce, IsNaming, IsSmall, NamesFirst}
use Rattle.rel_gates.proofs.Wanted.{one_use}
use Rattle.rel_gates.proofs.Growing.{IsFree, same_relation-is, same_relation-refl, found_first, found_last, named_more}

-- a relation that is found among more is one of the first, or the new one
only_new : (es : Named) (r s : RelVar) (gates gs : List ℕ) → gates_of es s ≡ None → gates_of (es ++ (r, gates) ∷ []) s ≡ Some gs → (r ≡ s) × (gates ≡ gs)
only_new es r s gates gs absent is =
    elim (cases_Bool (same_relation r s)) [
      | inl same ↦
          let here : Some gates ≡ Some gs = sym (ap (λ b. if b then Some gates else None) same) ∙ sym (found_last es ((r, gates) ∷ []) s absent) ∙ is in
          (same_relation-is r s same, cc)
      | inr other ↦ absurd (let past : None ≡ Some gs = sym (ap (λ b. if b then Some gates else None) other) ∙ sym (found_last es ((r, gates) ∷ []) s absent) ∙ is in cc)
    ]

-- what was named with so many gates still is
still_named : (es more : Named) (x : RelVar × ℕ) → is_named_for es x ≡ true → is_named_for (es ++ more) x ≡ true
still_named es more x is = by (gates_of es x.0) refl is
  where
    by : (found : Option (List ℕ)) → gates_of es x.0 ≡ found → option_map_or (λ gates. length gates == x.1) found false ≡ true → is_named_for (es ++ more) x ≡ true
    by None there none = absurd (false≢true none)
    by (Some gates) there count = ap (λ f. option_map_or (λ (gs : List ℕ). length gs == x.1) f false) (found_first es more x.0 gates there) ∙ count

named_with : (es : Named) (x : RelVar × ℕ) (gates : List ℕ) → gates_of es x.0 ≡ Some gates → length gates ≡ x.1 → is_named_for es x ≡ true
named_with es x gates there count = ap (λ f. option_map_or (λ (gs : List ℕ). length gs == x.1) f false) there ∙ eq-eqb (length gates) x.1 count

pub stays_named : (old new : List Node) (es fs : Named) (r : RelVar) (count : ℕ) → Names old new es fs r count → (x : RelVar × ℕ) → is_named_for es x ≡ true → is_named_for fs x ≡ true
stays_named old new es fs r count (Stays there same kept) x is = ap (λ ns. is_named_for ns x) kept ∙ is
stays_named old new es fs r count (Grows gates none grown are) x is = ap (λ ns. is_named_for ns x) grown ∙ still_named es ((r, gates) ∷ []) x is

-- a use that fits is named
pub now_named : (p : Posed) (kinds : Kinds) (old new : List Node) (es fs : Named) (x : RelVar × ℕ) → Counted p kinds es → FitsUse p kinds x → Names old new es fs x.0 x.1
    → is_named_for fs x ≡ true
now_named p kinds old new es fs x counted fits (Stays there same kept) = ap (λ ns. is_named_for ns x) kept ∙ by (gates_of es x.0) refl there
  where
    by : (found : Option (List ℕ)) → gates_of es x.0 ≡ found → is_some found ≡ true → is_named_for es x ≡ true
    by None absent none = absurd (false≢true none)
    by (Some gates) is some = named_with es x gates is (counted x.0 gates is fits.0 fits.1 ∙ sym fits.2)
now_named p kinds old new es fs x counted fits (Grows gates none grown are) =
    ap (λ ns. is_named_for ns x) grown
    ∙ named_with (es ++ (x.0, gates) ∷ []) x gates (found_last es ((x.0, gates) ∷ []) x.0 none ∙ ap (λ b. if b then Some gates else None) (same_relation-refl x.0)) are.wide

-- one relation more, by inputs of which those that are lacking are not wanted
pub naming_grown : (p : Posed) (kinds : Kinds) (upper : List ℕ) (old middle new : List Node) (es : Named) (x : RelVar × ℕ) (free : ℕ → Bool) (gates : List ℕ) → IsSmall p
    → (fits : FitsUse p kinds x) → IsFree p kinds upper x.0 fits.0 free → gates_of es x.0 ≡ None → AreInputs middle new x.1 free gates → IsNaming p kinds upper old middle es
    → IsNaming p kinds upper old new (es ++ (x.0, gates) ∷ [])
naming_grown p kinds upper old middle new es x free gates small fits lacking none are naming = record {
  named = named_more p kinds upper old middle new es x.0 fits.0 free gates small.ints small.classes naming.some naming.longer fits.1 lacking none naming.named inputs;
  counted = counted;
  some = of_more middle new 0 are.keeps naming.some;
  longer = omega (arith, naming.longer, ap length are.keeps.behind, length-append middle are.keeps.more);
}
  where
    inputs : AreInputs middle new (gate_count p fits.0 x.0) free gates
    inputs = subst (λ n. AreInputs middle new n free gates) fits.2 are

    counted : Counted p kinds (es ++ (x.0, gates) ∷ [])
    counted s gs is u has = by (gates_of es s) refl
      where
        by : (found : Option (List ℕ)) → gates_of es s ≡ found → length gs ≡ gate_count p u s
        by (Some hs) there =
            let same : hs ≡ gs = (let h : Some hs ≡ Some gs = sym (found_first es ((x.0, gates) ∷ []) s hs there) ∙ is in cc) in
            ap length (sym same) ∙ naming.counted s hs there u has
        by None there =
            let new_one = only_new es x.0 s gates gs there is in
            let one : fits.0 ≡ u = one_use p kinds s.what fits.0 u (subst (λ r. has_use p kinds fits.0 r.what ≡ true) new_one.0 fits.1) has in
            ap length (sym new_one.1) ∙ inputs.wide ∙ ap (λ t. gate_count p t x.0) one ∙ ap (gate_count p u) new_one.0

-- one use more
pub naming_on : (p : Posed) (kinds : Kinds) (upper : List ℕ) (old middle new : List Node) (es fs : Named) (x : RelVar × ℕ) → IsSmall p → FitsUse p kinds x
    → IsNaming p kinds upper old middle es
    → Names middle new es fs x.0 x.1 → IsNaming p kinds upper old new fs
naming_on p kinds upper old middle new es fs x small fits naming (Stays there same kept) =
    subst (λ ns. IsNaming p kinds upper old ns fs) (sym same) (subst (λ ns. IsNaming p kinds upper old middle ns) (sym kept) naming)
naming_on p kinds upper old middle new es fs x small fits naming (Grows gates none grown are) =
    subst (λ ns. IsNaming p kinds upper old new ns) (sym grown)
    (naming_grown p kinds upper old middle new es x (λ j. true) gates small fits (λ m within j below false_is. absurd (true≢false false_is)) none are naming)

-- ## no relation is named twice

pub once_more : (es : Named) (r : RelVar) (gates : List ℕ) → IsOnce es → gates_of es r ≡ None → IsOnce (es ++ (r, gates) ∷ [])
once_more es r gates once none i e at =
    elim (cases_lt i (length es)) [
      | inl below ↦ found_first es ((r, gates) ∷ []) e.0 e.1 (once i e (sym (slice_get-append_left es ((r, gates) ∷ []) i below) ∙ at))
      | inr past ↦
          let place : length es + (i - length es) ≡ i = omega (arith, past) in
          last (i - length es) (sym (slice_get-append_right es ((r, gates) ∷ []) (i - length es)) ∙ ap (slice_get (es ++ (r, gates) ∷ [])) place ∙ at)
    ]
  where
    last : (k : ℕ) → slice_get ((r, gates) ∷ []) k ≡ Some e → gates_of (es ++ (r, gates) ∷ []) e.0 ≡ Some e.1
    last zero here =
        let same : (r, gates) ≡ e = cc in
        subst (λ (u : RelVar × List ℕ). gates_of (es ++ (r, gates) ∷ []) u.0 ≡ Some u.1) same
        (found_last es ((r, gates) ∷ []) r none ∙ ap (λ b. if b then Some gates else None) (same_relation-refl r))
    last (suc k) here = absurd (cc)

-- ## the uses of a list, one after the other

pub none_first : (before : List Node) (es : Named) (wanted : Wanted) → NamesFirst before before es es wanted 0
none_first before es wanted = record {
  goes_on = λ p kinds upper old small fits naming. naming;
  there = λ p kinds upper old small fits naming i x within. absurd (omega arith);
  stays = λ x is. is;
}

pub one_more : (before middle new : List Node) (es fs gs : Named) (wanted : Wanted) (count : ℕ) (x : RelVar × ℕ) → NamesFirst before middle es fs wanted count
    → slice_get wanted count ≡ Some x → Names middle new fs gs x.0 x.1
    → NamesFirst before new es gs wanted (count + 1)
one_more before middle new es fs gs wanted count x first at names = record {
  goes_on = λ p kinds upper old small fits naming. naming_on p kinds upper old middle new fs gs x small (fits count x at) (first.goes_on p kinds upper old small fits naming) names;
  there = λ p kinds upper old small fits naming i y within there.
      elim (cases_lt i count) [
        | inl below ↦ stays_named middle new fs gs x.0 x.1 names y (first.there p kinds upper old small fits naming i y below there)
        | inr past ↦
            let same : i ≡ count = omega arith in
            let both : Some x ≡ Some y = sym at ∙ ap (slice_get wanted) (sym same) ∙ there in
            let equal : x ≡ y = cc in
            ap (is_named_for gs) (sym equal) ∙ now_named p kinds middle new fs gs x (first.goes_on p kinds upper old small fits naming).counted (fits count x at) names
      ];
  stays = λ y is. stays_named middle new fs gs x.0 x.1 names y (first.stays y is);
}
