-- Laws of the machine.
use Rattle.std.proofs.Common.{◌≡◌, ℕ, ◌<◌, suc, Bool, true, false, List, [], ◌∷◌, ◌++◌, length, refl, sym, ◌∙◌, ap, arith, ◌⊎◌, inl, inr}
use Rattle.java_lex.specs.declared.token.Token.{Token}
use Rattle.reading_core.specs.Machine.{Test, Act, Step, On, OnOpen, Stop, Next, Fine, BadAt, DeepAt, step, all_ready, run}
use Rattle.reading_core.specs.Follow.{behind}

-- CASES

pub tested : (b : Bool) → (b ≡ true) ⊎ (b ≡ false)
tested true = inl refl
tested false = inr refl

-- what a test decides
pub when_true : {A : Type 0} (b : Bool) (x y : A) → b ≡ true → elim b as (λ _. A) [ true ↦ x | false ↦ y ] ≡ x
when_true true x y is = refl
when_true false x y is = cc

pub when_false : {A : Type 0} (b : Bool) (x y : A) → b ≡ false → elim b as (λ _. A) [ true ↦ x | false ↦ y ] ≡ y
when_false true x y is = cc
when_false false x y is = refl

-- a test that does not look at tokens
abbrev pub Plain : Test → Type 0
Plain may = (k : ℕ) (us vs : List Token) → may k us ≡ may k vs

module _ {W : Type 0} (react : W → Token → Act W) (ready : W → Bool) where
  -- FRONTS

  front_by : (may may' : Test) (t : Token) (front more : List Token) (b : Bool) → ((k : ℕ) (us : List Token) → may k (us ++ more) ≡ true → may' k us ≡ true)
      → ((ws : List W) → run react ready may (front ++ more) ws ≡ Fine b → (c : Bool) × (run react ready may' front ws ≡ Fine c)) → (s : Step W)
      → behind react ready may t (front ++ more) s ≡ Fine b → (c : Bool) × (behind react ready may' t front s ≡ Fine c)
  front_by may may' t front more b looser ih (On ws) fine = ih ws fine
  front_by may may' t front more b looser ih (OnOpen k ws) fine =
      elim (tested (may k (front ++ more))) [
        | inl is ↦
            let go = ih ws (sym (when_true (may k (front ++ more)) _ _ is) ∙ fine) in
            (go.0, when_true (may' k front) _ _ (looser k front is) ∙ go.1)
        | inr not ↦ let no : DeepAt (t ∷ (front ++ more)) ≡ Fine b = sym (when_false (may k (front ++ more)) _ _ not) ∙ fine in absurd (cc)
      ]
  front_by may may' t front more b looser ih Stop fine = absurd (cc)

  -- a front of what is fine is fine
  pub front_fine : (may may' : Test) (front more : List Token) (b : Bool) → ((k : ℕ) (us : List Token) → may k (us ++ more) ≡ true → may' k us ≡ true) → (ws : List W)
      → run react ready may (front ++ more) ws ≡ Fine b → (c : Bool) × (run react ready may' front ws ≡ Fine c)
  front_fine may may' [] more b looser ws fine = (all_ready react ready ws, refl)
  front_fine may may' (t ∷ front) more b looser ws fine = front_by may may' t front more b looser (front_fine may may' front more b looser) (step react ready t ws) fine

  -- WIDER TESTS

  wider_by : (may may' : Test) (t : Token) (ts rest : List Token) → ((k : ℕ) (us : List Token) → may k us ≡ true → may' k us ≡ true)
      → ((ws : List W) → run react ready may ts ws ≡ BadAt rest → run react ready may' ts ws ≡ BadAt rest) → (s : Step W)
      → behind react ready may t ts s ≡ BadAt rest → behind react ready may' t ts s ≡ BadAt rest
  wider_by may may' t ts rest wider ih (On ws) bad = ih ws bad
  wider_by may may' t ts rest wider ih (OnOpen k ws) bad =
      elim (tested (may k ts)) [
        | inl is ↦ when_true (may' k ts) _ _ (wider k ts is) ∙ ih ws (sym (when_true (may k ts) _ _ is) ∙ bad)
        | inr not ↦ let no : DeepAt (t ∷ ts) ≡ BadAt rest = sym (when_false (may k ts) _ _ not) ∙ bad in absurd (cc)
      ]
  wider_by may may' t ts rest wider ih Stop bad = bad

  -- what is bad under one test is bad under a wider one
  pub bad_wider : (may may' : Test) (ts rest : List Token) → ((k : ℕ) (us : List Token) → may k us ≡ true → may' k us ≡ true) → (ws : List W)
      → run react ready may ts ws ≡ BadAt rest → run react ready may' ts ws ≡ BadAt rest
  bad_wider may may' [] rest wider ws bad = absurd (cc)
  bad_wider may may' (t ∷ ts) rest wider ws bad = wider_by may may' t ts rest wider (bad_wider may may' ts rest wider) (step react ready t ws) bad

  free_by : (may may' : Test) (t : Token) (ts : List Token) (b : Bool) → ((k : ℕ) (us : List Token) → length us < suc (length ts) → may k us ≡ true → may' k us ≡ true)
      → ((ws : List W) → run react ready may ts ws ≡ Fine b → run react ready may' ts ws ≡ Fine b) → (s : Step W)
      → behind react ready may t ts s ≡ Fine b → behind react ready may' t ts s ≡ Fine b
  free_by may may' t ts b free ih (On ws) fine = ih ws fine
  free_by may may' t ts b free ih (OnOpen k ws) fine =
      elim (tested (may k ts)) [
        | inl is ↦ when_true (may' k ts) _ _ (free k ts (omega arith) is) ∙ ih ws (sym (when_true (may k ts) _ _ is) ∙ fine)
        | inr not ↦ let no : DeepAt (t ∷ ts) ≡ Fine b = sym (when_false (may k ts) _ _ not) ∙ fine in absurd (cc)
      ]
  free_by may may' t ts b free ih Stop fine = absurd (cc)

  -- what is fine stays so where more may be opened
  pub fine_free : (may may' : Test) (ts : List Token) (b : Bool) → ((k : ℕ) (us : List Token) → length us < length ts → may k us ≡ true → may' k us ≡ true) → (ws : List W)
      → run react ready may ts ws ≡ Fine b → run react ready may' ts ws ≡ Fine b
  fine_free may may' [] b free ws fine = fine
  fine_free may may' (t ∷ ts) b free ws fine =
      free_by may may' t ts b free (fine_free may may' ts b (λ k us less. free k us (let le : length us < length ts = less in omega arith))) (step react ready t ws) fine

  -- FAULTS

  -- The first token with which no text begins, or that opens a level too many; out: as which it is told.
  pub record Stops (may : Test) (ws : List W) (out : List Token → Next) (ts rest : List Token) : Type 0 where
    pub front : List Token
    pub at : Token
    pub behind : List Token
    pub here : rest ≡ at ∷ behind
    pub parts : ts ≡ front ++ rest
    pub before : (c : Bool) × (run react ready may front ws ≡ Fine c)
    pub with_it : run react ready may (front ++ at ∷ []) ws ≡ out (at ∷ [])

  further : (may : Test) (t : Token) (ts rest : List Token) (ws more : List W) (out : List Token → Next)
      → ((us : List Token) → run react ready may (t ∷ us) ws ≡ run react ready may us more) → Stops may more out ts rest → Stops may ws out (t ∷ ts) rest
  further may t ts rest ws more out goes stops = record {
    front = t ∷ stops.front;
    at = stops.at;
    behind = stops.behind;
    here = stops.here;
    parts = ap (λ us. t ∷ us) stops.parts;
    before = (stops.before.0, goes stops.front ∙ stops.before.1);
    with_it = goes (stops.front ++ stops.at ∷ []) ∙ stops.with_it;
  }

  bad_by : (may : Test) → Plain may → (t : Token) (ts rest : List Token) (ws : List W)
      → ((more : List W) → run react ready may ts more ≡ BadAt rest → Stops may more BadAt ts rest)
      → (s : Step W) → step react ready t ws ≡ s → behind react ready may t ts s ≡ BadAt rest → Stops may ws BadAt (t ∷ ts) rest
  bad_by may plain t ts rest ws ih (On more) is bad = further may t ts rest ws more BadAt (λ us. ap (behind react ready may t us) is) (ih more bad)
  bad_by may plain t ts rest ws ih (OnOpen k more) is bad =
      elim (tested (may k ts)) [
        | inl opens ↦
            further may t ts rest ws more BadAt (λ us. ap (behind react ready may t us) is ∙ when_true (may k us) _ _ (plain k us ts ∙ opens))
            (ih more (sym (when_true (may k ts) _ _ opens) ∙ bad))
        | inr not ↦ let no : DeepAt (t ∷ ts) ≡ BadAt rest = sym (when_false (may k ts) _ _ not) ∙ bad in absurd (cc)
      ]
  bad_by may plain t ts rest ws ih Stop is bad = record {
    front = [];
    at = t;
    behind = ts;
    here = let same : BadAt (t ∷ ts) ≡ BadAt rest = bad in cc;
    parts = let same : BadAt (t ∷ ts) ≡ BadAt rest = bad in cc;
    before = (all_ready react ready ws, refl);
    with_it = ap (behind react ready may t []) is;
  }

  pub bad_stops : (may : Test) → Plain may → (ts rest : List Token) (ws : List W) → run react ready may ts ws ≡ BadAt rest → Stops may ws BadAt ts rest
  bad_stops may plain [] rest ws bad = absurd (cc)
  bad_stops may plain (t ∷ ts) rest ws bad = bad_by may plain t ts rest ws (λ more. bad_stops may plain ts rest more) (step react ready t ws) refl bad

  deep_by : (may : Test) → Plain may → (t : Token) (ts rest : List Token) (ws : List W)
      → ((more : List W) → run react ready may ts more ≡ DeepAt rest → Stops may more DeepAt ts rest)
      → (s : Step W) → step react ready t ws ≡ s → behind react ready may t ts s ≡ DeepAt rest → Stops may ws DeepAt (t ∷ ts) rest
  deep_by may plain t ts rest ws ih (On more) is deep = further may t ts rest ws more DeepAt (λ us. ap (behind react ready may t us) is) (ih more deep)
  deep_by may plain t ts rest ws ih (OnOpen k more) is deep =
      elim (tested (may k ts)) [
        | inl opens ↦
            further may t ts rest ws more DeepAt (λ us. ap (behind react ready may t us) is ∙ when_true (may k us) _ _ (plain k us ts ∙ opens))
            (ih more (sym (when_true (may k ts) _ _ opens) ∙ deep))
        | inr not ↦
            let same : DeepAt (t ∷ ts) ≡ DeepAt rest = sym (when_false (may k ts) _ _ not) ∙ deep in
            record {
              front = [];
              at = t;
              behind = ts;
              here = cc;
              parts = cc;
              before = (all_ready react ready ws, refl);
              with_it = ap (behind react ready may t []) is ∙ when_false (may k []) _ _ (plain k [] ts ∙ not);
            }
      ]
  deep_by may plain t ts rest ws ih Stop is deep = absurd (cc)

  pub deep_stops : (may : Test) → Plain may → (ts rest : List Token) (ws : List W) → run react ready may ts ws ≡ DeepAt rest → Stops may ws DeepAt ts rest
  deep_stops may plain [] rest ws deep = absurd (cc)
  deep_stops may plain (t ∷ ts) rest ws deep = deep_by may plain t ts rest ws (λ more. deep_stops may plain ts rest more) (step react ready t ws) refl deep

  over_by : (may may' : Test) → ((k : ℕ) (us : List Token) → may' k us ≡ true) → (t u : Token) (ts : List Token)
      → ((ws : List W) → run react ready may (ts ++ u ∷ []) ws ≡ DeepAt (u ∷ []) → (c : Bool) × (run react ready may' (ts ++ u ∷ []) ws ≡ Fine c)) → (s : Step W)
      → behind react ready may t (ts ++ u ∷ []) s ≡ DeepAt (u ∷ []) → (c : Bool) × (behind react ready may' t (ts ++ u ∷ []) s ≡ Fine c)
  over_by may may' all t u ts ih (On ws) deep = ih ws deep
  over_by may may' all t u ts ih (OnOpen k ws) deep =
      elim (tested (may k (ts ++ u ∷ []))) [
        | inl is ↦
            let go = ih ws (sym (when_true (may k (ts ++ u ∷ [])) _ _ is) ∙ deep) in
            (go.0, when_true (may' k (ts ++ u ∷ [])) _ _ (all k (ts ++ u ∷ [])) ∙ go.1)
        | inr not ↦
            let same : DeepAt (t ∷ (ts ++ u ∷ [])) ≡ DeepAt (u ∷ []) = sym (when_false (may k (ts ++ u ∷ [])) _ _ not) ∙ deep in
            absurd (longer ts u t (cc))
      ]
    where
      longer : (ts : List Token) (u t : Token) → t ∷ (ts ++ u ∷ []) ≡ u ∷ [] → ⊥
      longer [] u t is = cc
      longer (v ∷ ts) u t is = cc
  over_by may may' all t u ts ih Stop deep = absurd (cc)

  -- the token that opens a level too many is taken where every level may be opened
  pub deep_over : (may may' : Test) → ((k : ℕ) (us : List Token) → may' k us ≡ true) → (ts : List Token) (u : Token) (ws : List W)
      → run react ready may (ts ++ u ∷ []) ws ≡ DeepAt (u ∷ []) → (c : Bool) × (run react ready may' (ts ++ u ∷ []) ws ≡ Fine c)
  deep_over may may' all [] u ws deep = last (step react ready u ws) deep
    where
      last : (s : Step W) → behind react ready may u [] s ≡ DeepAt (u ∷ []) → (c : Bool) × (behind react ready may' u [] s ≡ Fine c)
      last (On more) is = absurd (cc)
      last (OnOpen k more) is = (all_ready react ready more, when_true (may' k []) _ _ (all k []))
      last Stop is = absurd (cc)
  deep_over may may' all (t ∷ ts) u ws deep = over_by may may' all t u ts (λ more. deep_over may may' all ts u more) (step react ready t ws) deep
