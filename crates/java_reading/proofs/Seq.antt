-- One part and then another.
use Rattle.std.proofs.Common.{◌≡◌, ◌⊎◌, ℕ, ◌<◌, List, [], ◌∷◌, ◌++◌, length, refl, sym, ap, subst, ◌∙◌, inl, inr, arith, append_assoc, length-append}
use Rattle.java_lex.specs.declared.token.Token.{Token}
use Rattle.java_tree.specs.Phrases.{Limit, ◌▸◌}
use Rattle.reading_core.specs.Read.{Read, Got, Bad, Deep}
use Rattle.java_reading.specs.Readers.{head, with_first, and_then}
use Rattle.java_reading.proofs.Law.{Family, Extends, Allows, Frees, Sample, IsGot, Begun, Law, plain_append}

pub head_append : (f r c : List Token) → head r ≡ head c → head (f ++ r) ≡ head (f ++ c)
head_append [] r c h = h
head_append (t ∷ f) r c h = refl

-- p, and then q of p's tree
abbrev pub seq : {A B : Type 0} → Family A → (A → Family B) → Family (A × B)
seq p q May ab = p May ab.0 ▸ q ab.0 May ab.1

pub pair_is : {A B : Type 0} (ab : A × B) (a : A) (b : B) → ab.0 ≡ a → ab.1 ≡ b → ab ≡ (a, b)
pair_is {A} {B} ab a b e f = pair_of ab.0 ab.1 a b e f
  where
    pair_of : (x : A) (y : B) (a : A) (b : B) → x ≡ a → y ≡ b → ◌≡◌ {A = A × B} (x, y) (a, b)
    pair_of x y a b e f = subst (λ (z : A). ◌≡◌ {A = A × B} (x, y) (z, b)) e (ap (λ (z : B). (x, z)) f)

module _ (A B : Type 0) (p : Family A) (X S : Extends A) (q : A → Family B) (Y R : A → Extends B)
    (sample : (a : A) (l : ℕ) → Sample B (q a) l)
    (apart : (a : A) (May : Limit) (b : B) (l : ℕ) (us : List Token) (k : ℕ) (r : List Token) → q a May b l us k r → X a (head us) → Y a b (head r))
    (l : ℕ) where
  abbrev Z : Extends (A × B)
  Z ab h = Y ab.0 ab.1 h

  abbrev W : Extends (A × B)
  W ab h = R ab.0 ab.1 h

  -- where the first part is read, nothing else is there
  only_first : (ts : List Token) (a : A) (mid : List Token) (got : IsGot A p X S l ts a mid) (May : Limit) (c : List Token) → head mid ≡ head c
      → (ab : A × B) (k : ℕ) (r : List Token) → seq p q May ab l (got.front ++ c) k r → ((ab.0 ≡ a) × q a May ab.1 l c k r) ⊎ Z ab (head r)
  only_first ts a mid got May c h ab k r (m, us, first, second) =
      elim (got.only May c h ab.0 m us first) [
        | inl e ↦ inl (e.0, subst (λ (x : A). q x May ab.1 l c k r) e.0 (subst (λ (v : List Token). q ab.0 May ab.1 l v k r) e.2 (subst (λ (n : ℕ). q ab.0 May ab.1 n us k r) e.1 second)))
        | inr x ↦ inr (apart ab.0 May ab.1 m us k r second x)
      ]

  -- the second part's law on what is read there is the law of both
  only_both : (ts : List Token) (a : A) (mid : List Token) (got : IsGot A p X S l ts a mid) (front rest : List Token) → mid ≡ front ++ rest → (May : Limit) (c : List Token) → head rest ≡ head c
      → (ab : A × B) (k : ℕ) (r : List Token) → seq p q May ab l ((got.front ++ front) ++ c) k r → ((ab.0 ≡ a) × q a May ab.1 l (front ++ c) k r) ⊎ Z ab (head r)
  only_both ts a mid got front rest parts May c h ab k r parse =
      only_first ts a mid got May (front ++ c) (ap head parts ∙ head_append front rest c h) ab k r (subst (λ (v : List Token). seq p q May ab l v k r) (append_assoc got.front front c) parse)

  both_parts : (f g mid ts rest : List Token) → ts ≡ f ++ mid → mid ≡ g ++ rest → ts ≡ (f ++ g) ++ rest
  both_parts f g mid ts rest e e' = e ∙ ap (λ v. f ++ v) e' ∙ sym (append_assoc f g rest)

  allows_all : (n : ℕ) (May : Limit) → Allows n May → Allows 0 May
  allows_all n May allows k r (inl below) = allows k r (inl below)
  allows_all n May allows k r (inr none) = absurd (omega arith)

  begun_both : (ts : List Token) (a : A) (mid : List Token) (got : IsGot A p X S l ts a mid) (front : List Token) → Begun B (q a) (Y a) (R a) l mid front → Begun (A × B) (seq p q) Z W l ts (got.front ++ front)
  begun_both ts a mid got front begun = record {
    more = begun.more;
    tree = (a, begun.tree);
    is = λ May c allows. subst (λ (v : List Token). seq p q May (a, begun.tree) l v l c) (sym (append_assoc got.front front (begun.more ++ c)))
        (l, front ++ (begun.more ++ c), got.sound May (allows_all (length (begun.more ++ c)) May allows) (front ++ (begun.more ++ c)), begun.is May c allows);
  }

  by_second : (ts : List Token) (a : A) (mid : List Token) (got : IsGot A p X S l ts a mid) (o : Read B) → Law B (q a) (Y a) (R a) l mid o → Law (A × B) (seq p q) Z W l ts (with_first a o)
  by_second ts a mid got (Got b rest) law = record {
    front = got.front ++ law.front;
    parts = both_parts got.front law.front mid ts rest got.parts law.parts;
    plain = plain_append got.front law.front got.plain law.plain;
    sound = λ May allows c. subst (λ (v : List Token). seq p q May (a, b) l v l c) (sym (append_assoc got.front law.front c)) (l, law.front ++ c, got.sound May allows (law.front ++ c), law.sound May allows c);
    stop = law.stop;
    only = λ May c h ab k r parse. elim (only_both ts a mid got law.front rest law.parts May c h ab k r parse) [
      | inl e ↦ elim (law.only May c h ab.1 k r e.1) [ inl e' ↦ inl (pair_is ab a b e.0 e'.0, e'.1, e'.2) | inr x ↦ inr (subst (λ (z : A). Y z ab.1 (head r)) (sym e.0) x) ]
      | inr x ↦ inr x
    ];
  }
  by_second ts a mid got (Bad rest) law = record {
    front = got.front ++ law.front;
    parts = both_parts got.front law.front mid ts rest got.parts law.parts;
    plain = plain_append got.front law.front got.plain law.plain;
    before = begun_both ts a mid got law.front law.before;
    only = λ May c h ab k r parse. elim (only_both ts a mid got law.front rest law.parts May c h ab k r parse) [
      | inl e ↦ subst (λ (z : A). Y z ab.1 (head r)) (sym e.0) (law.only May c h ab.1 k r e.1)
      | inr x ↦ x
    ];
  }
  by_second ts a mid got (Deep rest) law = record {
    front = got.front ++ law.front;
    at = law.at;
    behind = law.behind;
    here = law.here;
    parts = both_parts got.front law.front mid ts rest got.parts law.parts;
    plain = plain_append got.front law.front got.plain law.plain;
    before = begun_both ts a mid got law.front law.before;
    only = λ May c stops ab k r parse. elim (only_both ts a mid got law.front rest law.parts May (law.at ∷ c) (ap head law.here) ab k r parse) [
      | inl e ↦ subst (λ (z : A). Y z ab.1 (head r)) (sym e.0) (law.only May c stops ab.1 k r e.1)
      | inr x ↦ x
    ];
    more = law.more;
    tree = (a, law.tree);
    deeper = λ May c all. subst (λ (v : List Token). seq p q May (a, law.tree) l v l c) (sym (append_assoc got.front law.front (law.at ∷ (law.more ++ c))))
        (l, law.front ++ law.at ∷ (law.more ++ c), got.sound May (λ k r _. all k r) (law.front ++ law.at ∷ (law.more ++ c)), law.deeper May c all);
  }

  begun_first : (ts front : List Token) → Begun A p X S l ts front → Begun (A × B) (seq p q) Z W l ts front
  begun_first ts front begun = record {
    more = begun.more ++ s.tokens;
    tree = (begun.tree, s.tree);
    is = λ May c allows. subst (λ (v : List Token). seq p q May (begun.tree, s.tree) l (front ++ v) l c) (sym (append_assoc begun.more s.tokens c))
        (l, s.tokens ++ c, begun.is May (s.tokens ++ c) (subst (λ (v : List Token). Allows (length v) May) (append_assoc begun.more s.tokens c) allows), s.is May c (λ k r lt. allows k r (inr (long_enough (length r) c lt))));
  }
    where
      s : Sample B (q begun.tree) l
      s = sample begun.tree l

      long_enough : (n : ℕ) (c : List Token) → n < length (s.tokens ++ c) → n < length ((begun.more ++ s.tokens) ++ c)
      long_enough n c lt = omega (arith, lt, length-append s.tokens c, length-append begun.more s.tokens, length-append (begun.more ++ s.tokens) c)

  pub seq_law : (ts : List Token) (o : Read A) → Law A p X S l ts o → (f : A → List Token → Read B) → ((a : A) (mid : List Token) → IsGot A p X S l ts a mid → Law B (q a) (Y a) (R a) l mid (f a mid)) → Law (A × B) (seq p q) Z W l ts (and_then o f)
  seq_law ts (Got a mid) got f laws = by_second ts a mid got (f a mid) (laws a mid got)
  seq_law ts (Bad rest) law f laws = record {
    front = law.front;
    parts = law.parts;
    plain = law.plain;
    before = begun_first ts law.front law.before;
    only = λ May c h ab k r parse. apart ab.0 May ab.1 parse.0 parse.1 k r parse.3 (law.only May c h ab.0 parse.0 parse.1 parse.2);
  }
  seq_law ts (Deep rest) law f laws = record {
    front = law.front;
    at = law.at;
    behind = law.behind;
    here = law.here;
    parts = law.parts;
    plain = law.plain;
    before = begun_first ts law.front law.before;
    only = λ May c stops ab k r parse. apart ab.0 May ab.1 parse.0 parse.1 k r parse.3 (law.only May c stops ab.0 parse.0 parse.1 parse.2);
    more = law.more ++ (sample law.tree l).tokens;
    tree = (law.tree, (sample law.tree l).tree);
    deeper = λ May c all. subst (λ (v : List Token). seq p q May (law.tree, (sample law.tree l).tree) l (law.front ++ law.at ∷ v) l c) (sym (append_assoc law.more (sample law.tree l).tokens c))
        (l, (sample law.tree l).tokens ++ c, law.deeper May ((sample law.tree l).tokens ++ c) all, (sample law.tree l).is May c (λ k r _. all k r));
  }

pub seq_sample : (A B : Type 0) (p : Family A) (q : A → Family B) (l : ℕ) → Sample A p l → ((a : A) → Sample B (q a) l) → Sample (A × B) (seq p q) l
seq_sample A B p q l s t = record {
  tokens = s.tokens ++ (t s.tree).tokens;
  tree = (s.tree, (t s.tree).tree);
  is = λ May c frees. subst (λ (v : List Token). seq p q May (s.tree, (t s.tree).tree) l v l c) (sym (append_assoc s.tokens (t s.tree).tokens c))
      (l, (t s.tree).tokens ++ c, s.is May ((t s.tree).tokens ++ c) (subst (λ (v : List Token). Frees (length v) May) (append_assoc s.tokens (t s.tree).tokens c) frees), (t s.tree).is May c (λ k r lt. frees k r (longer (length r) c lt)));
}
  where
    longer : (n : ℕ) (c : List Token) → n < length ((t s.tree).tokens ++ c) → n < length ((s.tokens ++ (t s.tree).tokens) ++ c)
    longer n c lt = omega (arith, lt, length-append (t s.tree).tokens c, length-append s.tokens (t s.tree).tokens, length-append (s.tokens ++ (t s.tree).tokens) c)
