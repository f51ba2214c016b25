-- New inputs, one by one.
use Rattle.std.proofs.Common.{◌≡◌, ℕ, ◌+◌, ◌*◌, ◌<◌, ◌≤◌, Bool, true, false, List, [], ◌∷◌, ◌++◌, length, get_or, refl, sym, subst, ap, ◌∙◌, arith, inl, inr, length-append}
use Rattle.std.specs.Prelude.{◌==◌, if◌then◌else◌}
use Rattle.std.proofs.lemmas.Bool.{cases_lt, true≢false, eq-eqb, ne_eqb}
use Rattle.std.proofs.lemmas.List.{get_or_append_left, get_or_at}
use Rattle.std.proofs.lemmas.List.Elements.{All-append, All-cons}
use Rattle.std.proofs.lemmas.Option.{slice_get_within}
use Rattle.gate_core.specs.declared.circuit.Node.{Node}
use Rattle.gate_core.specs.declared.circuit.Node.TheVariants.{Input}
use Rattle.gate_core.specs.Circuit.{value, IsOf, Keeps, StandsAt}
use Rattle.gate_core.proofs.Values.{keeps_same, keeps_twice, keeps_input, all_more, value_decided, value_input}
use Rattle.gate_core.proofs.Places.{slice_get-append, slice_get-append_seam}
use Rattle.rel_gates.specs.Naming.{IsOwn, AreInputs}

pub no_inputs : (old new : List Node) (free : ℕ → Bool) → new ≡ old → AreInputs old new 0 free []
no_inputs old new free is = record {
  keeps = keeps_same old new is;
  of = λ k d within. absurd (omega arith);
  wide = refl;
  constant = λ j within. absurd (omega arith);
  own = λ j within. absurd (omega arith);
  apart = λ i j less within. absurd (omega arith);
  shown = λ before wanted meets. record { inputs = before; same = λ place within. refl; values = λ j within. absurd (omega arith) };
}

-- the assignment with another truth at one place
abbrev changed : (ℕ → Bool) → ℕ → Bool → ℕ → Bool
changed inputs place b q = if q == place then b else inputs q

changed_there : (inputs : ℕ → Bool) (place : ℕ) (b : Bool) → changed inputs place b place ≡ b
changed_there inputs place b = rw (eq-eqb place place refl) refl

changed_else : (inputs : ℕ → Bool) (place q : ℕ) (b : Bool) → q < place → changed inputs place b q ≡ inputs q
changed_else inputs place q b less = rw (ne_eqb q place (λ same. absurd (omega arith))) refl

-- a gate that stood has the truth that it had, where a later input has another
pub value_unchanged : (old new : List Node) (inputs : ℕ → Bool) (place : ℕ) (b : Bool) (gate : ℕ) → Keeps old new → IsOf old gate → length old ≤ place
    → value (changed inputs place b) new gate ≡ value inputs old gate
value_unchanged old new inputs place b gate keeps of behind =
    keeps.values (changed inputs place b) gate of
    ∙ value_decided old gate (changed inputs place b) inputs (λ q within stands. changed_else inputs place q b (omega (arith, of, within, behind)))

-- an input that was new stays so
pub own_kept : (old middle new : List Node) (gate : ℕ) → Keeps middle new → IsOwn old middle gate → IsOwn old new gate
own_kept old middle new gate keeps own = record {
  place = own.place;
  is = own.is;
  input = subst (λ ns. StandsAt ns Input own.place) (sym keeps.behind) (slice_get-append middle keeps.more own.place Input own.input);
  fresh = own.fresh;
}

before_last : (gates : List ℕ) (gate j : ℕ) → j < length gates → get_or (gates ++ gate ∷ []) j 0 ≡ get_or gates j 0
before_last gates gate j within = get_or_append_left gates (gate ∷ []) 0 j within

at_last : (gates : List ℕ) (gate j : ℕ) → length gates ≡ j → get_or (gates ++ gate ∷ []) j 0 ≡ gate
at_last gates gate j is = get_or_at gates gate [] 0 j is

-- one place more, which has a new input
pub input_more : (old middle new : List Node) (count : ℕ) (free : ℕ → Bool) (gates : List ℕ) (gate : ℕ) → AreInputs old middle count free gates → free count ≡ true → gate ≡ 2 * length middle
    → new ≡ middle ++ Input ∷ [] → AreInputs old new (count + 1) free (gates ++ gate ∷ [])
input_more old middle new count free gates gate are is_free at is = record {
  keeps = keeps_twice old middle new are.keeps grown;
  of = All-append (IsOf new) gates (gate ∷ []) (all_more middle new gates grown are.of) (All-cons (IsOf new) gate [] last_of (λ k d within. absurd (omega arith)));
  wide = length-append gates (gate ∷ []) ∙ (let w = are.wide in omega arith);
  constant = λ j within not_free.
      elim (cases_lt j count) [
        | inl below ↦ before_last gates gate j (omega (arith, are.wide)) ∙ are.constant j below not_free
        | inr past ↦ let same : j ≡ count = omega arith in absurd (true≢false (sym is_free ∙ ap free (sym same) ∙ not_free))
      ];
  own = λ j within its.
      elim (cases_lt j count) [
        | inl below ↦ subst (IsOwn old new) (sym (before_last gates gate j (omega (arith, are.wide)))) (own_kept old middle new (get_or gates j 0) grown (are.own j below its))
        | inr past ↦ let same : length gates ≡ j = omega (arith, are.wide) in subst (IsOwn old new) (sym (at_last gates gate j same)) last_own
      ];
  apart = λ i j less within its other.
      let first : get_or (gates ++ gate ∷ []) i 0 ≡ get_or gates i 0 = before_last gates gate i (omega (arith, are.wide)) in
      elim (cases_lt j count) [
        | inl below ↦
            let second : get_or (gates ++ gate ∷ []) j 0 ≡ get_or gates j 0 = before_last gates gate j (omega (arith, are.wide)) in
            let apart = are.apart i j less below its other in
            omega (arith, first, second, apart)
        | inr past ↦
            let same : length gates ≡ j = omega (arith, are.wide) in
            let second : get_or (gates ++ gate ∷ []) j 0 ≡ gate = at_last gates gate j same in
            let own = are.own i (omega arith) its in
            let inside : own.place < length middle = slice_get_within middle own.place Input own.input in
            omega (arith, first, second, own.is, inside, at)
      ];
  shown = λ before wanted meets.
      let rest = are.shown before wanted (λ j below. meets j (omega arith)) in
      let inputs = changed rest.inputs (length middle) (wanted count) in
      record {
        inputs = inputs;
        same = λ place within. changed_else rest.inputs (length middle) place (wanted count) (omega (arith, within, longer)) ∙ rest.same place within;
        values = λ j within.
            elim (cases_lt j count) [
              | inl below ↦
                  ap (value inputs new) (before_last gates gate j (omega (arith, are.wide)))
                  ∙ value_unchanged middle new rest.inputs (length middle) (wanted count) (get_or gates j 0) grown (are.of j 0 (omega (arith, are.wide))) (omega arith) ∙ rest.values j below
              | inr past ↦
                  let same : length gates ≡ j = omega (arith, are.wide) in
                  let equal : count ≡ j = omega arith in
                  ap (value inputs new) (at_last gates gate j same) ∙ value_input inputs middle new gate is at
                  ∙ changed_there rest.inputs (length middle) (wanted count) ∙ ap wanted equal
            ];
      };
}
  where
    grown : Keeps middle new
    grown = keeps_input middle new is

    longer : length old ≤ length middle
    longer = omega (arith, ap length are.keeps.behind, length-append old are.keeps.more)

    more : length new ≡ length middle + 1
    more = ap length is ∙ length-append middle (Input ∷ [])

    last_of : IsOf new gate
    last_of = omega (arith, more, at)

    last_own : IsOwn old new gate
    last_own = record {
      place = length middle;
      is = at;
      input = subst (λ ns. StandsAt ns Input (length middle)) (sym is) (slice_get-append_seam middle [] Input);
      fresh = longer;
    }

-- one place more, which has the constant
pub none_more : (old middle : List Node) (count : ℕ) (free : ℕ → Bool) (gates : List ℕ) (gate : ℕ) → AreInputs old middle count free gates → free count ≡ false → gate ≡ 0
    → IsOf middle gate → ((inputs : ℕ → Bool) → value inputs middle gate ≡ false) → AreInputs old middle (count + 1) free (gates ++ gate ∷ [])
none_more old middle count free gates gate are not_free is of is_false = record {
  keeps = are.keeps;
  of = All-append (IsOf middle) gates (gate ∷ []) are.of (All-cons (IsOf middle) gate [] of (λ k d within. absurd (omega arith)));
  wide = length-append gates (gate ∷ []) ∙ (let w = are.wide in omega arith);
  constant = λ j within none.
      elim (cases_lt j count) [
        | inl below ↦ before_last gates gate j (omega (arith, are.wide)) ∙ are.constant j below none
        | inr past ↦ let same : length gates ≡ j = omega (arith, are.wide) in at_last gates gate j same ∙ is
      ];
  own = λ j within its.
      elim (cases_lt j count) [
        | inl below ↦ subst (IsOwn old middle) (sym (before_last gates gate j (omega (arith, are.wide)))) (are.own j below its)
        | inr past ↦ let same : j ≡ count = omega arith in absurd (true≢false (sym its ∙ ap free same ∙ not_free))
      ];
  apart = λ i j less within its other.
      elim (cases_lt j count) [
        | inl below ↦
            let first : get_or (gates ++ gate ∷ []) i 0 ≡ get_or gates i 0 = before_last gates gate i (omega (arith, are.wide)) in
            let second : get_or (gates ++ gate ∷ []) j 0 ≡ get_or gates j 0 = before_last gates gate j (omega (arith, are.wide)) in
            let apart = are.apart i j less below its other in
            omega (arith, first, second, apart)
        | inr past ↦ let same : j ≡ count = omega arith in absurd (true≢false (sym other ∙ ap free same ∙ not_free))
      ];
  shown = λ before wanted meets.
      let rest = are.shown before wanted (λ j below. meets j (omega arith)) in
      record {
        inputs = rest.inputs;
        same = rest.same;
        values = λ j within.
            elim (cases_lt j count) [
              | inl below ↦ ap (value rest.inputs middle) (before_last gates gate j (omega (arith, are.wide))) ∙ rest.values j below
              | inr past ↦
                  let same : length gates ≡ j = omega (arith, are.wide) in
                  let equal : count ≡ j = omega arith in
                  ap (value rest.inputs middle) (at_last gates gate j same) ∙ is_false rest.inputs ∙ sym (meets j within (ap free (sym equal) ∙ not_free))
            ];
      };
}
