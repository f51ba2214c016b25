-- Marking the literals of a clause, one after the other.
use Rattle.std.proofs.Common.{◌≡◌, ℕ, ◌+◌, ◌/◌, Bool, true, false, cond, eqb, not, ◌||◌, ◌&&◌, Option, List, [], ◌∷◌, ◌++◌, length, get_or, refl, sym, ap, ◌∙◌, subst, inl, inr, arith, length-append}
use Rattle.std.specs.Prelude.{filter}
use Rattle.std.proofs.lemmas.List.{append_assoc, append-nil}
use Rattle.std.proofs.lemmas.List.Elements.{filter-append}
use Rattle.std.proofs.lemmas.Bool.{or_left, or_right, or_cases, or_parts}
use Rattle.sat_watch.specs.Literals.{has}
use Rattle.sat_watch.proofs.LiteralLemmas.{tested, equal}
use Rattle.sat_watch.proofs.ThreadLemmas.{has-append}
use Rattle.sat_analysis.specs.Walk.{names, Adds}

-- a member of a list with one more is a member, or that one
pub has_push : (xs : List ℕ) (x y : ℕ) → has (xs ++ x ∷ []) y ≡ true → (P : Type 0) → (has xs y ≡ true → P) → (x ≡ y → P) → P
has_push xs x y h P f g =
    elim (or_cases (has xs y) (has (x ∷ []) y) (sym (has-append xs (x ∷ []) y) ∙ h)) [ inl a ↦ f a | inr b ↦ g (equal x y (grind (arith, b))) ]

pub has_left : (xs ys : List ℕ) (y : ℕ) → has xs y ≡ true → has (xs ++ ys) y ≡ true
has_left xs ys y h = has-append xs ys y ∙ or_left (has xs y) (has ys y) h

pub has_right : (xs ys : List ℕ) (y : ℕ) → has ys y ≡ true → has (xs ++ ys) y ≡ true
has_right xs ys y h = has-append xs ys y ∙ or_right (has xs y) (has ys y) h

pub has_last : (xs : List ℕ) (y : ℕ) → has (xs ++ y ∷ []) y ≡ true
has_last xs y = has_right xs (y ∷ []) y (grind arith)

-- one literal more of the clause
pub adds_more : (table clause : List ℕ) (implied : Option ℕ) (level : ℕ) (old new new' : List ℕ) (count lit : ℕ) (counts : Bool) → Adds table clause implied level old new count
    → new' ≡ cond (names implied lit || has new lit) new (new ++ lit ∷ []) → counts ≡ (not (names implied lit || has new lit) && eqb (get_or table (lit / 2) 0) level)
    → Adds table (clause ++ lit ∷ []) implied level old new' (cond counts (count + 1) count)
adds_more table clause implied level old new new' count lit counts a e b = elim (tested (names implied lit || has new lit)) [
  | inl skip ↦
      let same : new' ≡ new = e ∙ (rw skip refl) in
      let none : counts ≡ false = b ∙ (rw skip refl) in
      rw (same, none) (record {
        more = a.more;
        is = a.is;
        from = λ x h. (has_left clause (lit ∷ []) x (a.from x h).0, (a.from x h).1);
        all = λ x h n. has_push clause lit x h (has new x ≡ true) (λ g. a.all x g n) (λ q. elim (or_cases (names implied lit) (has new lit) skip) [
          | inl named ↦ absurd (let both : true ≡ false = sym named ∙ ap (names implied) q ∙ n in cc)
          | inr marked ↦ subst (λ y. has new y ≡ true) q marked
        ]);
        counted = a.counted;
      })
  | inr take_it ↦
      let same : new' ≡ new ++ lit ∷ [] = e ∙ (rw take_it refl) in
      let is : counts ≡ eqb (get_or table (lit / 2) 0) level = b ∙ (rw take_it refl) in
      rw (same, is) (record {
        more = a.more ++ lit ∷ [];
        is = ap (λ xs. xs ++ lit ∷ []) a.is ∙ append_assoc old a.more (lit ∷ []);
        from = λ x h. has_push a.more lit x h ((has (clause ++ lit ∷ []) x ≡ true) × (names implied x ≡ false))
            (λ g. (has_left clause (lit ∷ []) x (a.from x g).0, (a.from x g).1))
            (λ q. subst (λ y. (has (clause ++ lit ∷ []) y ≡ true) × (names implied y ≡ false)) q ((has_last clause lit, (or_parts (names implied lit) (has new lit) take_it).0)));
        all = λ x h n. has_push clause lit x h (has (new ++ lit ∷ []) x ≡ true) (λ g. has_left new (lit ∷ []) x (a.all x g n)) (λ q. subst (λ y. has (new ++ lit ∷ []) y ≡ true) q (has_last new lit));
        counted = sums (eqb (get_or table (lit / 2) 0) level) (filter (λ x. eqb (get_or table (x / 2) 0) level) a.more) a.counted
            ∙ ap length (sym (filter-append (λ x. eqb (get_or table (x / 2) 0) level) a.more (lit ∷ [])));
      })
]
  where
    sums : (b : Bool) (ys : List ℕ) → count ≡ length ys → cond b (count + 1) count ≡ length (ys ++ cond b (lit ∷ []) [])
    sums true ys h = omega (arith, h, length-append ys (lit ∷ []))
    sums false ys h = h ∙ ap length (sym (append-nil ys))

pub adds_same : (table table' clause clause' : List ℕ) (implied : Option ℕ) (level level' : ℕ) (old new : List ℕ) (count : ℕ) → table ≡ table' → clause ≡ clause' → level ≡ level'
    → Adds table clause implied level old new count → Adds table' clause' implied level' old new count
adds_same table table' clause clause' implied level level' old new count t c l a =
    subst (λ ts. Adds ts clause' implied level' old new count) t (subst (λ cl. Adds table cl implied level' old new count) c (subst (λ k. Adds table clause implied k old new count) l a))
