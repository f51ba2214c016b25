-- Where a run of the machine stops it stops whatever stands behind the token at fault, and what it has taken before is
-- not the end of the text.
use Rattle.std.proofs.Common.{◌≡◌, ℕ, ◌≤◌, Bool, true, List, [], ◌∷◌, ◌++◌, length, refl, sym, ◌∙◌, ap, arith, inl, inr, length-append}
use Rattle.java_lex.specs.declared.spelling.Terminal.TheVariants as terminal
use Rattle.java_lex.specs.declared.token.Token.{Token}
use Rattle.java_lex.specs.Terminals.{terminal_of}
use Rattle.reading_core.specs.Machine.{Test, Act, Take, Open, Leave, Refuse, Step, On, OnOpen, Stop, Fine, BadAt, DeepAt, act, step, run}
use Rattle.reading_core.specs.Follow.{behind}
use Rattle.reading_core.proofs.Runs.{tested, when_true, when_false, Plain as Blind, bad_stops, deep_stops}
use Rattle.java_reading.proofs.Law.{Plain}

-- no list is its own rest
longer : (f : List Token) (t : Token) (us : List Token) → us ≡ f ++ t ∷ us → ⊥
longer f t us is = omega (arith, ap length is, length-append f (t ∷ us))

inside : (u : Token) (f : List Token) (t : Token) (us : List Token) → u ∷ (f ++ t ∷ us) ≡ t ∷ us → ⊥
inside u f t us is = omega (arith, ap length is, length-append f (t ∷ us))

module _ {W : Type 0} (react : W → Token → Act W) (ready : W → Bool) (may may' : Test) (blind : Blind may) (t : Token) (us vs : List Token) where
  -- BEFORE THE TOKEN AT FAULT

  bad_here : (wider : (k : ℕ) (a b : List Token) → may k a ≡ true → may' k b ≡ true) (s : Step W) → behind react ready may t us s ≡ BadAt (t ∷ us) → behind react ready may' t vs s ≡ BadAt (t ∷ vs)
  bad_here wider (On more) bad = let stops = bad_stops react ready may blind us (t ∷ us) more bad in absurd (longer stops.front t us stops.parts)
  bad_here wider (OnOpen k more) bad =
      elim (tested (may k us)) [
        | inl opens ↦ let stops = bad_stops react ready may blind us (t ∷ us) more (sym (when_true (may k us) _ _ opens) ∙ bad) in absurd (longer stops.front t us stops.parts)
        | inr not ↦ let no : DeepAt (t ∷ us) ≡ BadAt (t ∷ us) = sym (when_false (may k us) _ _ not) ∙ bad in absurd (cc)
      ]
  bad_here wider Stop bad = refl

  bad_by : (wider : (k : ℕ) (a b : List Token) → may k a ≡ true → may' k b ≡ true) (u : Token) (front : List Token)
      → ((ws : List W) → run react ready may (front ++ t ∷ us) ws ≡ BadAt (t ∷ us) → run react ready may' (front ++ t ∷ vs) ws ≡ BadAt (t ∷ vs)) → (s : Step W)
      → behind react ready may u (front ++ t ∷ us) s ≡ BadAt (t ∷ us) → behind react ready may' u (front ++ t ∷ vs) s ≡ BadAt (t ∷ vs)
  bad_by wider u front ih (On more) bad = ih more bad
  bad_by wider u front ih (OnOpen k more) bad =
      elim (tested (may k (front ++ t ∷ us))) [
        | inl opens ↦ when_true (may' k (front ++ t ∷ vs)) _ _ (wider k (front ++ t ∷ us) (front ++ t ∷ vs) opens) ∙ ih more (sym (when_true (may k (front ++ t ∷ us)) _ _ opens) ∙ bad)
        | inr not ↦ let no : DeepAt (u ∷ (front ++ t ∷ us)) ≡ BadAt (t ∷ us) = sym (when_false (may k (front ++ t ∷ us)) _ _ not) ∙ bad in absurd (cc)
      ]
  bad_by wider u front ih Stop bad = let no : BadAt (u ∷ (front ++ t ∷ us)) ≡ BadAt (t ∷ us) = bad in absurd (inside u front t us (cc))

  -- a token with which nothing goes on, under a wider test too
  pub bad_again : ((k : ℕ) (a b : List Token) → may k a ≡ true → may' k b ≡ true) → (front : List Token) (ws : List W) → run react ready may (front ++ t ∷ us) ws ≡ BadAt (t ∷ us)
      → run react ready may' (front ++ t ∷ vs) ws ≡ BadAt (t ∷ vs)
  bad_again wider [] ws bad = bad_here wider (step react ready t ws) bad
  bad_again wider (u ∷ front) ws bad = bad_by wider u front (bad_again wider front) (step react ready u ws) bad

  -- the tests are the same where so many tokens are left
  abbrev Same : Type 0
  Same = (k : ℕ) (a b : List Token) → length vs ≤ length b → may k a ≡ may' k b

  deep_here : Same → (s : Step W) → behind react ready may t us s ≡ DeepAt (t ∷ us) → behind react ready may' t vs s ≡ DeepAt (t ∷ vs)
  deep_here same (On more) deep = let stops = deep_stops react ready may blind us (t ∷ us) more deep in absurd (longer stops.front t us stops.parts)
  deep_here same (OnOpen k more) deep =
      elim (tested (may k us)) [
        | inl opens ↦ let stops = deep_stops react ready may blind us (t ∷ us) more (sym (when_true (may k us) _ _ opens) ∙ deep) in absurd (longer stops.front t us stops.parts)
        | inr not ↦ when_false (may' k vs) _ _ (sym (same k us vs (omega arith)) ∙ not)
      ]
  deep_here same Stop deep = absurd (cc)

  deep_by : Same → (u : Token) (front : List Token)
      → ((ws : List W) → run react ready may (front ++ t ∷ us) ws ≡ DeepAt (t ∷ us) → run react ready may' (front ++ t ∷ vs) ws ≡ DeepAt (t ∷ vs)) → (s : Step W)
      → behind react ready may u (front ++ t ∷ us) s ≡ DeepAt (t ∷ us) → behind react ready may' u (front ++ t ∷ vs) s ≡ DeepAt (t ∷ vs)
  deep_by same u front ih (On more) deep = ih more deep
  deep_by same u front ih (OnOpen k more) deep =
      elim (tested (may k (front ++ t ∷ us))) [
        | inl opens ↦ when_true (may' k (front ++ t ∷ vs)) _ _ (sym (same k (front ++ t ∷ us) (front ++ t ∷ vs) (omega (arith, length-append front (t ∷ vs)))) ∙ opens)
            ∙ ih more (sym (when_true (may k (front ++ t ∷ us)) _ _ opens) ∙ deep)
        | inr not ↦ let no : DeepAt (u ∷ (front ++ t ∷ us)) ≡ DeepAt (t ∷ us) = sym (when_false (may k (front ++ t ∷ us)) _ _ not) ∙ deep in absurd (inside u front t us (cc))
      ]
  deep_by same u front ih Stop deep = absurd (cc)

  -- a token that opens a level too many
  pub deep_again : Same → (front : List Token) (ws : List W) → run react ready may (front ++ t ∷ us) ws ≡ DeepAt (t ∷ us) → run react ready may' (front ++ t ∷ vs) ws ≡ DeepAt (t ∷ vs)
  deep_again same [] ws deep = deep_here same (step react ready t ws) deep
  deep_again same (u ∷ front) ws deep = deep_by same u front (deep_again same front) (step react ready u ws) deep

-- THE END OF THE TEXT

-- the token is not taken
abbrev pub Untaken : {W : Type 0} → Act W → Type 0
Untaken (Take more) = ⊥
Untaken (Open k more) = ⊥
Untaken Leave = Unit {0}
Untaken Refuse = Unit {0}

module _ {W : Type 0} (react : W → Token → Act W) (ready : W → Bool) (untaken : (w : W) (t : Token) → terminal_of t ≡ terminal.End → Untaken (react w t)) where
  stop_by : (a : Act W) (ws : List W) (left : Step W) → Untaken a → left ≡ Stop → act a ws left ≡ Stop
  stop_by (Take more) ws left not is = absurd not
  stop_by (Open k more) ws left not is = absurd not
  stop_by Leave ws left not is = is
  stop_by Refuse ws left not is = refl

  stop_at_end : (t : Token) → terminal_of t ≡ terminal.End → (ws : List W) → step react ready t ws ≡ Stop
  stop_at_end t end [] = refl
  stop_at_end t end (w ∷ ws) = stop_by (react w t) ws (step react ready t ws) (untaken w t end) (stop_at_end t end ws)

  plain_by : (may : Test) (t : Token) (ts : List Token) (c : Bool) → ((ws : List W) → run react ready may ts ws ≡ Fine c → Plain ts) → (s : Step W) → (terminal_of t ≡ terminal.End → s ≡ Stop)
      → behind react ready may t ts s ≡ Fine c → Plain (t ∷ ts)
  plain_by may t ts c ih (On more) stops fine = (λ end. let no : On more ≡ Stop = stops end in cc, ih more fine)
  plain_by may t ts c ih (OnOpen k more) stops fine =
      elim (tested (may k ts)) [
        | inl opens ↦ (λ end. let no : OnOpen k more ≡ Stop = stops end in cc, ih more (sym (when_true (may k ts) _ _ opens) ∙ fine))
        | inr not ↦ let no : DeepAt (t ∷ ts) ≡ Fine c = sym (when_false (may k ts) _ _ not) ∙ fine in absurd (cc)
      ]
  plain_by may t ts c ih Stop stops fine = absurd (cc)

  -- what is taken is not the end of the text
  pub fine_plain : (may : Test) (ts : List Token) (c : Bool) (ws : List W) → run react ready may ts ws ≡ Fine c → Plain ts
  fine_plain may [] c ws fine = tt {0}
  fine_plain may (t ∷ ts) c ws fine = plain_by may t ts c (fine_plain may ts c) (step react ready t ws) (λ end. stop_at_end t end ws) fine
