-- Laws of what reading gives.
use Rattle.std.proofs.Common.{◌≡◌, ℕ, ◌<◌, zero, suc, Bool, true, false, List, [], ◌∷◌, length, Option, Some, None, refl, sym, ◌∙◌, ap, subst, arith, inl, inr}
use mathlib.Core.Bool.{beq}
use Rattle.java_lex.specs.declared.spelling.Terminal.{Terminal}
use Rattle.java_lex.specs.declared.token.Token.{Token}
use Rattle.reading_core.specs.Read.{Read, Got, Bad, Deep, ◌>>=◌, OnGot, on, expect}
use Rattle.reading_core.specs.Deeper.{Level, deeper}
use Rattle.reading_core.specs.Loops.{repeat_by, repeat}
use Rattle.reading_core.specs.Machine.{Test, Next}
use Rattle.reading_core.specs.Follow.{follow, Allows}
use Rattle.reading_core.proofs.Runs.{tested, when_true, when_false}
use Rattle.reading_core.proofs.Follows.{follow_bind}

pub on_side : (side jml : Bool) (x : Terminal) → beq jml side ≡ true → on side (jml, x) ≡ x
on_side true true x is = refl
on_side false false x is = refl
on_side true false x is = cc
on_side false true x is = cc

-- FACTS OF WHAT WAS READ

pub on_bind : {A B : Type 0} (P : A → List Token → Type 0) (Q : B → List Token → Type 0) (r : Read A) (f : A → List Token → Read B) → OnGot P r
    → ((a : A) (rest : List Token) → P a rest → OnGot Q (f a rest)) → OnGot Q (r >>= f)
on_bind P Q (Got a rest) f is next = next a rest is
on_bind P Q (Bad rest) f is next = tt {0}
on_bind P Q (Deep rest) f is next = tt {0}

pub on_weaken : {A : Type 0} (P Q : A → List Token → Type 0) (r : Read A) → OnGot P r → ((a : A) (rest : List Token) → P a rest → Q a rest) → OnGot Q r
on_weaken P Q (Got a rest) is weaker = weaker a rest is
on_weaken P Q (Bad rest) is weaker = tt {0}
on_weaken P Q (Deep rest) is weaker = tt {0}

-- one token
abbrev pub IsFirst : (Token → Bool) → List Token → Token → List Token → Type 0
IsFirst is ts t rest = (is t ≡ true) × (ts ≡ t ∷ rest)

on_expect_by : (is : Token → Bool) (t : Token) (ts : List Token) (b : Bool) → is t ≡ b → OnGot (IsFirst is (t ∷ ts)) (elim b as (λ _. Read Token) [ true ↦ Got t ts | false ↦ Bad (t ∷ ts) ])
on_expect_by is t ts true so = (so, refl)
on_expect_by is t ts false so = tt {0}

pub on_expect : (is : Token → Bool) (ts : List Token) → OnGot (IsFirst is ts) (expect is ts)
on_expect is [] = tt {0}
on_expect is (t ∷ ts) = on_expect_by is t ts (is t) refl

on_deeper_by : {A : Type 0} (P : A → List Token → Type 0) (may : Test) (k : ℕ) (ts rest : List Token) (go : Read A) (mine : Bool) → mine ≡ may k rest → (may k rest ≡ true → OnGot P go)
    → OnGot P (elim mine as (λ _. Read A) [ true ↦ go | false ↦ Deep ts ])
on_deeper_by P may k ts rest go true same goes = goes (sym same)
on_deeper_by P may k ts rest go false same goes = tt {0}

-- one level deeper
pub on_deeper : {R A : Type 0} (P : A → List Token → Type 0) (Q : R → Type 0) (may : Test) (k : ℕ) (level : Option (Level R)) (ts rest : List Token) (go : R → Read A) → Allows Q may k level
    → ((r : R) → Q r → may k rest ≡ true → OnGot P (go r)) → OnGot P (deeper level ts rest go)
on_deeper P Q may k None ts rest go allows goes = tt {0}
on_deeper P Q may k (Some level) ts rest go allows goes = on_deeper_by P may k ts rest (go level.readers) (level.may rest) (allows.0 rest) (goes level.readers allows.1)

-- WHAT IS READ

pub expect_got : (is : Token → Bool) (t : Token) (ts : List Token) → is t ≡ true → expect is (t ∷ ts) ≡ Got t ts
expect_got is t ts so = when_true (is t) _ _ so

-- what may be opened is opened
pub deeper_got : {R A : Type 0} (Q : R → Type 0) (may : Test) (k : ℕ) (level : Option (Level R)) (ts rest : List Token) (go : R → Read A) (out : Read A) → Allows Q may k level → may k rest ≡ true
    → ((r : R) → Q r → go r ≡ out) → deeper level ts rest go ≡ out
deeper_got Q may k None ts rest go out allows opens goes = let no : may k rest ≡ false = allows rest in absurd (cc)
deeper_got Q may k (Some level) ts rest go out allows opens goes = when_true (level.may rest) _ _ (allows.0 rest ∙ opens) ∙ goes level.readers allows.1

bind_on : {A B : Type 0} (P : A → List Token → Type 0) (r : Read A) (f g : A → List Token → Read B) → OnGot P r → ((a : A) (rest : List Token) → P a rest → f a rest ≡ g a rest) → r >>= f ≡ r >>= g
bind_on P (Got a rest) f g is same = same a rest is
bind_on P (Bad rest) f g is same = refl
bind_on P (Deep rest) f g is same = refl

-- LOOPS

module _ {A : Type 0} (begins : List Token → Bool) (item : List Token → Read A) where
  -- each item has a token
  abbrev pub Short : Type 0
  Short = (ts : List Token) → OnGot (λ _ rest. length rest < length ts) (item ts)

  -- one item, and then the others
  abbrev pub turn : (List Token → Read (List A)) → List Token → Read (List A)
  turn others ts = elim (begins ts) [ true ↦ item ts >>= (λ a rest. others rest >>= (λ as_ rest'. Got (a ∷ as_) rest')) | false ↦ Got [] ts ]

  turn_same : (f g : List Token → Read (List A)) (ts : List Token) → Short → ((rest : List Token) → length rest < length ts → f rest ≡ g rest) → turn f ts ≡ turn g ts
  turn_same f g ts short same =
      elim (tested (begins ts)) [
        | inl is ↦
            when_true (begins ts) _ _ is
            ∙ bind_on (λ _ rest. length rest < length ts) (item ts) _ _ (short ts) (λ a rest less. ap (λ (r : Read (List A)). r >>= (λ as_ rest'. Got (a ∷ as_) rest')) (same rest less))
            ∙ sym (when_true (begins ts) _ _ is)
        | inr not ↦ when_false (begins ts) _ _ not ∙ sym (when_false (begins ts) _ _ not)
      ]

  enough : Short → (n m : ℕ) (ts : List Token) → length ts < n → length ts < m → repeat_by begins item n ts ≡ repeat_by begins item m ts
  enough short zero m ts low high = absurd (omega arith)
  enough short (suc n) zero ts low high = absurd (omega arith)
  enough short (suc n) (suc m) ts low high = turn_same (repeat_by begins item n) (repeat_by begins item m) ts short (λ rest less. enough short n m rest (omega arith) (omega arith))

  -- the first item, and then the others
  pub repeat_step : Short → (ts : List Token) → repeat begins item ts ≡ turn (repeat begins item) ts
  unfolding repeat
  repeat_step short ts = turn_same (repeat_by begins item (length ts)) (repeat begins item) ts short (λ rest less. enough short (length ts) (suc (length rest)) rest less (omega arith))

  pub repeat_end : (ts : List Token) → begins ts ≡ false → repeat begins item ts ≡ Got [] ts
  unfolding repeat
  repeat_end ts not = when_false (begins ts) _ _ not

  pub repeat_got : Short → (ts mid rest : List Token) (a : A) (as_ : List A) → begins ts ≡ true → item ts ≡ Got a mid → repeat begins item mid ≡ Got as_ rest → repeat begins item ts ≡ Got (a ∷ as_) rest
  repeat_got short ts mid rest a as_ is got others =
      repeat_step short ts ∙ when_true (begins ts) _ _ is
      ∙ ap (λ (r : Read A). r >>= (λ a rest. repeat begins item rest >>= (λ as_ rest'. Got (a ∷ as_) rest'))) got
      ∙ ap (λ (r : Read (List A)). r >>= (λ as_ rest'. Got (a ∷ as_) rest')) others

  on_repeat_by : (Q : List Token → A → List Token → Type 0) (P : List Token → List A → List Token → Type 0) → ((ts : List Token) → begins ts ≡ false → P ts [] ts)
      → ((ts mid rest : List Token) (a : A) (as_ : List A) → begins ts ≡ true → Q ts a mid → P mid as_ rest → P ts (a ∷ as_) rest) → ((ts : List Token) → OnGot (Q ts) (item ts))
      → (n : ℕ) (ts : List Token) → length ts < n → Short → OnGot (P ts) (repeat_by begins item n ts)
  on_repeat_by Q P at_end at_turn items zero ts low short = absurd (omega arith)
  on_repeat_by Q P at_end at_turn items (suc n) ts low short =
      elim (tested (begins ts)) [
        | inl is ↦
            subst (OnGot (P ts)) (sym (when_true (begins ts) _ _ is))
            (on_bind (λ a mid. Q ts a mid × (length mid < length ts)) (P ts) (item ts) _ (both (item ts) (items ts) (short ts)) (λ a mid so.
            on_bind (P mid) (P ts) (repeat_by begins item n mid) _ (on_repeat_by Q P at_end at_turn items n mid (let le : length mid < length ts = so.1 in omega arith) short)
            (λ as_ rest others. at_turn ts mid rest a as_ is so.0 others)))
        | inr not ↦ subst (OnGot (P ts)) (sym (when_false (begins ts) _ _ not)) (at_end ts not)
      ]
    where
      both : (r : Read A) → OnGot (Q ts) r → OnGot (λ _ rest. length rest < length ts) r → OnGot (λ a mid. Q ts a mid × (length mid < length ts)) r
      both (Got a mid) x y = (x, y)
      both (Bad mid) x y = tt {0}
      both (Deep mid) x y = tt {0}

  -- a fact of each item, and of all of them
  pub on_repeat : (Q : List Token → A → List Token → Type 0) (P : List Token → List A → List Token → Type 0) → ((ts : List Token) → begins ts ≡ false → P ts [] ts)
      → ((ts mid rest : List Token) (a : A) (as_ : List A) → begins ts ≡ true → Q ts a mid → P mid as_ rest → P ts (a ∷ as_) rest) → ((ts : List Token) → OnGot (Q ts) (item ts)) → Short
      → (ts : List Token) → OnGot (P ts) (repeat begins item ts)
  unfolding repeat
  on_repeat Q P at_end at_turn items short ts = on_repeat_by Q P at_end at_turn items (suc (length ts)) ts (omega arith) short

  repeat_sim_by : (h closing : List Token → Next) → Short → ((ts : List Token) → begins ts ≡ false → closing ts ≡ h ts)
      → ((ts : List Token) → begins ts ≡ true → follow (item ts) (λ _ rest. h rest) ≡ h ts) → (n : ℕ) (ts : List Token) → length ts < n
      → follow (repeat_by begins item n ts) (λ _ rest. closing rest) ≡ h ts
  repeat_sim_by h closing short at_end at_turn zero ts low = absurd (omega arith)
  repeat_sim_by h closing short at_end at_turn (suc n) ts low =
      elim (tested (begins ts)) [
        | inl is ↦
            ap (λ r. follow r (λ _ rest. closing rest)) (when_true (begins ts) _ _ is)
            ∙ follow_bind (item ts) _ _
            ∙ follow_on (item ts) (short ts) (λ a rest less. follow_bind (repeat_by begins item n rest) _ _ ∙ repeat_sim_by h closing short at_end at_turn n rest (omega arith))
            ∙ at_turn ts is
        | inr not ↦ ap (λ r. follow r (λ _ rest. closing rest)) (when_false (begins ts) _ _ not) ∙ at_end ts not
      ]
    where
      follow_on : {f g : A → List Token → Next} (r : Read A) → OnGot (λ _ rest. length rest < length ts) r → ((a : A) (rest : List Token) → length rest < length ts → f a rest ≡ g a rest) → follow r f ≡ follow r g
      follow_on (Got a rest) is same = same a rest is
      follow_on (Bad []) is same = refl
      follow_on (Bad (t ∷ us)) is same = refl
      follow_on (Deep us) is same = refl

  -- a loop of the machine: h, at whose end this follows
  pub repeat_sim : (h closing : List Token → Next) → Short → ((ts : List Token) → begins ts ≡ false → closing ts ≡ h ts)
      → ((ts : List Token) → begins ts ≡ true → follow (item ts) (λ _ rest. h rest) ≡ h ts) → (ts : List Token) → follow (repeat begins item ts) (λ _ rest. closing rest) ≡ h ts
  unfolding repeat
  repeat_sim h closing short at_end at_turn ts = repeat_sim_by h closing short at_end at_turn (suc (length ts)) ts (omega arith)
