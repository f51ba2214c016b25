-- The laws of a part that comes any number of times, and of one that may be missing.
use Rattle.std.proofs.Common.{◌≡◌, ◌⊎◌, ℕ, zero, suc, ◌<◌, Bool, true, false, List, [], ◌∷◌, ◌++◌, length, Option, Some, None, refl, sym, ap, subst, ◌∙◌, inl, inr, arith, length-append}
use Rattle.java_lex.specs.declared.token.Token.{Token}
use Rattle.java_tree.specs.Phrases.{Limit, ◌▸◌, nothing}
use Rattle.java_tree.specs.Reading.{any_level}
use Rattle.reading_core.specs.Read.{Read, Got}
use Rattle.java_reading.specs.Readers.{Reader, head, give, and_then, repeat_by, repeat, optional}
use Rattle.java_reading.proofs.Law.{Family, Extends, any, Sample, IsGot, Law, Exact}
use Rattle.java_reading.proofs.Seq.{seq, seq_law}
use Rattle.java_reading.proofs.Parts.{give_law, recast_at}

-- one p behind the other
abbrev pub each : {A : Type 0} → Family A → Family (List A)
each p May [] = nothing
each p May (a ∷ as_) = p May a ▸ each p May as_

module _ (A : Type 0) (p : Family A) (X S : Extends A) (b : Option Token → Bool) (E : Option Token → Type 0)
    (first : (May : Limit) (a : A) (l : ℕ) (us : List Token) (k : ℕ) (r : List Token) → p May a l us k r → b (head us) ≡ true)
    (extends : (a : A) (h : Option Token) → X a h → E h)
    (apart : (h : Option Token) → E h → b h ≡ true → ⊥)
    (none : b None ≡ false)
    (l : ℕ) where
  abbrev pub More : Extends (List A)
  More as_ h = (b h ≡ true) ⊎ E h

  pub each_sample : Sample (List A) (each p) l
  each_sample = record { tokens = []; tree = []; is = λ May c frees. (refl, refl) }

  module _ (item : List Token → Read A) (exact : Exact A p X S l item) where
    eats : (ts : List Token) (a : A) (mid : List Token) → IsGot A p X S l ts a mid → length mid < length ts
    eats ts a mid got = by_front got.front got.parts (first any_level a l (got.front ++ []) l [] (got.sound any_level (λ k r _. tt) []))
      where
        by_front : (front : List Token) → ts ≡ front ++ mid → b (head (front ++ [])) ≡ true → length mid < length ts
        by_front [] parts so = let not_so : b None ≡ true = so in absurd (cc)
        by_front (t ∷ front) parts so = omega (arith, ap length parts, length-append front mid)

    cons_of : A × List A → List A
    cons_of x = x.0 ∷ x.1

    by_item : (n : ℕ) → ((us : List Token) → length us < n → Law (List A) (each p) More any l us (repeat_by b item n us)) → (ts : List Token) → length ts < suc n → b (head ts) ≡ true
        → Law (List A) (each p) More any l ts (give (λ (x : A × List A). x.0 ∷ x.1) (and_then (item ts) (λ a rest. repeat_by b item n rest)))
    by_item n ih ts few begins =
        give_law (A × List A) (List A) (seq p (λ a. each p)) (λ x h. More x.1 h) (λ x h. Unit {0}) (each p) More any (λ (x : A × List A). x.0 ∷ x.1) (λ May x m us k r h. h) (λ x h y. y) (λ x h y. y) l ts
        (and_then (item ts) (λ a rest. repeat_by b item n rest)) back
        (seq_law A (List A) p X S (λ a. each p) (λ a. More) (λ a. any) (λ a m. record { tokens = []; tree = []; is = λ May c frees. (refl, refl) }) goes_on l ts (item ts) (exact ts) (λ a rest. repeat_by b item n rest) (λ a mid got. ih mid (omega (arith, eats ts a mid got))))
      where
        back : (May : Limit) (as_ : List A) (us : List Token) (k : ℕ) (r : List Token) → head us ≡ head ts → each p May as_ l us k r → ((x : A × List A) × (as_ ≡ x.0 ∷ x.1) × seq p (λ a. each p) May x l us k r) ⊎ More as_ (head r)
        back May [] us k r same (up, is) = inr (inl (ap b (ap head is ∙ same) ∙ begins))
        back May (a ∷ as_) us k r same h = inl ((a, as_), refl, h)

        goes_on : (a : A) (May : Limit) (as_ : List A) (m : ℕ) (us : List Token) (k : ℕ) (r : List Token) → each p May as_ m us k r → X a (head us) → More as_ (head r)
        goes_on a May [] m us k r (up, is) x = inr (subst (λ (v : List Token). E (head v)) (sym is) (extends a (head us) x))
        goes_on a May (a' ∷ as_) m us k r (m', us', h, h') x = absurd (apart (head us) (extends a (head us) x) (first May a' m us m' us' h))

    by_begins : (n : ℕ) → ((us : List Token) → length us < n → Law (List A) (each p) More any l us (repeat_by b item n us)) → (ts : List Token) → length ts < suc n → (so : Bool) → b (head ts) ≡ so
        → Law (List A) (each p) More any l ts (elim so [ true ↦ give (λ (x : A × List A). x.0 ∷ x.1) (and_then (item ts) (λ a rest. repeat_by b item n rest)) | false ↦ Got [] ts ])
    by_begins n ih ts few true begins = by_item n ih ts few begins
    by_begins n ih ts few false ends = record {
      front = [];
      parts = refl;
      plain = tt;
      sound = λ May allows c. (refl, refl);
      stop = tt;
      only = only_none;
    }
      where
        only_none : (May : Limit) (c : List Token) → head ts ≡ head c → (as_ : List A) (k : ℕ) (r : List Token) → each p May as_ l c k r → ((as_ ≡ []) × (k ≡ l) × (r ≡ c)) ⊎ More as_ (head r)
        only_none May c same [] k r (up, is) = inl (refl, up, is)
        only_none May c same (a ∷ as_) k r (m, us, h, h') = let so : b (head c) ≡ true = first May a l c m us h in let not_so : b (head c) ≡ false = ap b (sym same) ∙ ends in absurd (cc)

    pub repeat_law : (n : ℕ) (ts : List Token) → length ts < n → Law (List A) (each p) More any l ts (repeat_by b item n ts)
    repeat_law zero ts few = absurd (omega arith)
    repeat_law (suc n) ts few = by_begins n (repeat_law n) ts few (b (head ts)) refl

    pub many_law : Exact (List A) (each p) More any l (repeat b item)
    unfolding repeat
    many_law ts = repeat_law (suc (length ts)) ts (omega arith)

-- p, or nothing
abbrev pub optional_of : {A : Type 0} → Family A → Family (Option A)
optional_of p May None = nothing
optional_of p May (Some a) = p May a

module _ (A : Type 0) (p : Family A) (X S : Extends A) (b : Option Token → Bool)
    (first : (May : Limit) (a : A) (l : ℕ) (us : List Token) (k : ℕ) (r : List Token) → p May a l us k r → b (head us) ≡ true)
    (l : ℕ) where
  abbrev pub May_be : Extends (Option A)
  May_be None h = b h ≡ true
  May_be (Some a) h = X a h

  abbrev pub Rest : Extends (Option A)
  Rest None h = b h ≡ false
  Rest (Some a) h = S a h

  pub optional_sample : Sample (Option A) (optional_of p) l
  optional_sample = record { tokens = []; tree = None; is = λ May c frees. (refl, refl) }

  module _ (item : Reader A) (exact : Exact A p X S l item) where
    by_option : (ts : List Token) (so : Bool) → b (head ts) ≡ so → Law (Option A) (optional_of p) May_be Rest l ts (elim so [ true ↦ give Some (item ts) | false ↦ Got None ts ])
    by_option ts true begins =
        give_law A (Option A) p X S (optional_of p) May_be Rest Some (λ May a m us k r h. h) (λ a h x. x) (λ a h x. x) l ts (item ts) back (exact ts)
      where
        back : (May : Limit) (o : Option A) (us : List Token) (k : ℕ) (r : List Token) → head us ≡ head ts → optional_of p May o l us k r → ((a : A) × (o ≡ Some a) × p May a l us k r) ⊎ May_be o (head r)
        back May None us k r same (up, is) = inr (ap b (ap head is ∙ same) ∙ begins)
        back May (Some a) us k r same h = inl (a, refl, h)
    by_option ts false ends = record {
      front = [];
      parts = refl;
      plain = tt;
      sound = λ May allows c. (refl, refl);
      stop = ends;
      only = only_none;
    }
      where
        only_none : (May : Limit) (c : List Token) → head ts ≡ head c → (o : Option A) (k : ℕ) (r : List Token) → optional_of p May o l c k r → ((o ≡ None) × (k ≡ l) × (r ≡ c)) ⊎ May_be o (head r)
        only_none May c same None k r (up, is) = inl (refl, up, is)
        only_none May c same (Some a) k r h = let e : b (head c) ≡ true = first May a l c k r h in let e' : b (head c) ≡ false = ap b (sym same) ∙ ends in absurd (cc)

    -- and what is known of the token behind it
    pub optional_rest_law : Exact (Option A) (optional_of p) May_be Rest l (optional b item)
    optional_rest_law ts = by_option ts (b (head ts)) refl

    pub optional_law : Exact (Option A) (optional_of p) May_be any l (optional b item)
    optional_law ts = recast_at (Option A) (optional_of p) (optional_of p) May_be May_be Rest any l (λ May o us k r h. h) (λ o h x. x) (λ o h x. tt) ts (optional b item ts) (λ May o us k r same h. inl h) (optional_rest_law ts)
