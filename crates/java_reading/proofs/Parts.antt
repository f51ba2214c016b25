-- The laws of tokens, levels, choices and repetitions.
use Rattle.std.proofs.Common.{◌≡◌, ◌⊎◌, ℕ, Bool, true, false, List, [], ◌∷◌, ◌++◌, Option, Some, None, refl, sym, ap, subst, ◌∙◌, inl, inr}
use Rattle.java_lex.specs.declared.token.Token.{Token}
use Rattle.java_lex.specs.declared.spelling.Terminal.TheVariants as terminal
use Rattle.java_lex.specs.Terminals.{terminal_of}
use Rattle.java_tree.specs.Phrases.{Limit, token}
use Rattle.java_tree.specs.Reading.{any_level}
use Rattle.reading_core.specs.Read.{Read, Got, Bad, Deep, ◌>>=◌}
use Rattle.java_reading.specs.Readers.{head, give, with_first, and_then, taken}
use Rattle.java_reading.proofs.Law.{Family, Extends, never, any, Sample, IsGot, Begun, Law, Exact}
use Rattle.java_reading.proofs.Seq.{head_append, seq, seq_law}

-- TOKENS

abbrev pub token_by : {A : Type 0} → (A → Token → Type 0) → Family A
token_by P May a = token (P a)

-- P: which tokens have which tree; a test decides it
pub record Decided (A : Type 0) (P : A → Token → Type 0) (test : Token → Bool) (value : Token → A) : Type 0 where
  pub is : (t : Token) → test t ≡ true → P (value t) t
  pub means : (a : A) (t : Token) → P a t → (test t ≡ true) × (a ≡ value t)
  pub example : Token
  pub works : test example ≡ true
  pub plain : (t : Token) → test t ≡ true → terminal_of t ≡ terminal.End → ⊥

pub heads : (t u : Token) (ts us : List Token) → t ∷ ts ≡ u ∷ us → t ≡ u
heads t u ts us is = cc

pub tails : (t u : Token) (ts us : List Token) → t ∷ ts ≡ u ∷ us → us ≡ ts
tails t u ts us is = cc

module _ (A : Type 0) (P : A → Token → Type 0) (test : Token → Bool) (value : Token → A) (decided : Decided A P test value) (l : ℕ) where
  pub token_sample : Sample A (token_by P) l
  token_sample = record {
    tokens = decided.example ∷ [];
    tree = value decided.example;
    is = λ May c frees. (decided.example, decided.is decided.example decided.works, refl, refl);
  }

  by_test : (t : Token) (ts : List Token) (b : Bool) → test t ≡ b → Law A (token_by P) never any l (t ∷ ts) (elim b [ true ↦ Got (value t) ts | false ↦ Bad (t ∷ ts) ])
  by_test t ts true passes = record {
    front = t ∷ [];
    parts = refl;
    plain = (decided.plain t passes, tt);
    sound = λ May allows c. (t, decided.is t passes, refl, refl);
    stop = tt;
    only = λ May c h a k r (u, is, parts, up). inl ((decided.means a u is).1 ∙ ap value (sym (heads t u c r parts)), up, tails t u c r parts);
  }
  by_test t ts false fails = record {
    front = [];
    parts = refl;
    plain = tt;
    before = record { more = decided.example ∷ []; tree = value decided.example; is = λ May c allows. (decided.example, decided.is decided.example decided.works, refl, refl) };
    only = λ May c h a k r (u, is, parts, up). differs a u is (fails) (h ∙ ap head parts);
  }
    where
      differs : (a : A) (u : Token) → P a u → test t ≡ false → ◌≡◌ {A = Option Token} (Some t) (Some u) → ⊥
      differs a u is fails same = let e : t ≡ u = cc in let e' : test u ≡ false = subst (λ (v : Token). test v ≡ false) e fails in let e'' : test u ≡ true = (decided.means a u is).0 in cc

  pub token_law : Exact A (token_by P) never any l (taken test value)
  token_law [] = record {
    front = [];
    parts = refl;
    plain = tt;
    before = record { more = decided.example ∷ []; tree = value decided.example; is = λ May c allows. (decided.example, decided.is decided.example decided.works, refl, refl) };
    only = λ May c h a k r (u, is, parts, up). absurd (none u (h ∙ ap head parts));
  }
    where
      none : (u : Token) → ◌≡◌ {A = Option Token} None (Some u) → ⊥
      none u e = cc
  token_law (t ∷ ts) = by_test t ts (test t) refl

-- A TREE MADE OF A PART

module _ (A B : Type 0) (p : Family A) (X S : Extends A) (q : Family B) (Y R : Extends B) (build : A → B) (l : ℕ)
    (is : (May : Limit) (a : A) (us : List Token) (k : ℕ) (r : List Token) → p May a l us k r → q May (build a) l us k r)
    (grows : (a : A) (h : Option Token) → X a h → Y (build a) h)
    (stops : (a : A) (h : Option Token) → S a h → R (build a) h) where
  abbrev pub Back : List Token → Type 1
  Back ts = (May : Limit) (b : B) (us : List Token) (k : ℕ) (r : List Token) → head us ≡ head ts → q May b l us k r → ((a : A) × (b ≡ build a) × p May a l us k r) ⊎ Y b (head r)

  begun_given : (ts front : List Token) → Begun A p X S l ts front → Begun B q Y R l ts front
  begun_given ts front begun = record { more = begun.more; tree = build begun.tree; is = λ May c allows. is May begun.tree (front ++ (begun.more ++ c)) l c (begun.is May c allows) }

  same_head : (ts front rest c : List Token) → ts ≡ front ++ rest → head rest ≡ head c → head (front ++ c) ≡ head ts
  same_head ts front rest c parts h = sym (ap head parts ∙ head_append front rest c h)

  pub give_at : (ts : List Token) (o : Read A) → Back ts → Law A p X S l ts o → Law B q Y R l ts (give build o)
  give_at ts (Got a rest) back law = record {
    front = law.front;
    parts = law.parts;
    plain = law.plain;
    sound = λ May allows c. is May a (law.front ++ c) l c (law.sound May allows c);
    stop = stops a (head rest) law.stop;
    only = λ May c h b k r parse. elim (back May b (law.front ++ c) k r (same_head ts law.front rest c law.parts h) parse) [
      | inl e ↦ elim (law.only May c h e.0 k r e.2) [ inl e' ↦ inl (e.1 ∙ ap build e'.0, e'.1, e'.2) | inr x ↦ inr (subst (λ (v : B). Y v (head r)) (sym e.1) (grows e.0 (head r) x)) ]
      | inr y ↦ inr y
    ];
  }
  give_at ts (Bad rest) back law = record {
    front = law.front;
    parts = law.parts;
    plain = law.plain;
    before = begun_given ts law.front law.before;
    only = λ May c h b k r parse. elim (back May b (law.front ++ c) k r (same_head ts law.front rest c law.parts h) parse) [
      | inl e ↦ subst (λ (v : B). Y v (head r)) (sym e.1) (grows e.0 (head r) (law.only May c h e.0 k r e.2))
      | inr y ↦ y
    ];
  }
  give_at ts (Deep rest) back law = record {
    front = law.front;
    at = law.at;
    behind = law.behind;
    here = law.here;
    parts = law.parts;
    plain = law.plain;
    before = begun_given ts law.front law.before;
    only = λ May c stops' b k r parse. elim (back May b (law.front ++ law.at ∷ c) k r (same_head ts law.front rest (law.at ∷ c) law.parts (ap head law.here)) parse) [
      | inl e ↦ subst (λ (v : B). Y v (head r)) (sym e.1) (grows e.0 (head r) (law.only May c stops' e.0 k r e.2))
      | inr y ↦ y
    ];
    more = law.more;
    tree = build law.tree;
    deeper = λ May c all. is May law.tree (law.front ++ law.at ∷ (law.more ++ c)) l c (law.deeper May c all);
  }

pub give_law : (A B : Type 0) (p : Family A) (X S : Extends A) (q : Family B) (Y R : Extends B) (build : A → B)
    (is : (May : Limit) (a : A) (l : ℕ) (us : List Token) (k : ℕ) (r : List Token) → p May a l us k r → q May (build a) l us k r)
    (grows : (a : A) (h : Option Token) → X a h → Y (build a) h)
    (stops : (a : A) (h : Option Token) → S a h → R (build a) h)
    (l : ℕ) (ts : List Token) (o : Read A)
    → ((May : Limit) (b : B) (us : List Token) (k : ℕ) (r : List Token) → head us ≡ head ts → q May b l us k r → ((a : A) × (b ≡ build a) × p May a l us k r) ⊎ Y b (head r))
    → Law A p X S l ts o → Law B q Y R l ts (give build o)
give_law A B p X S q Y R build is grows stops l = give_at A B p X S q Y R build l (λ May a. is May a l) grows stops

-- THE SAME PHRASE IN OTHER WORDS

module _ (A : Type 0) (p q : Family A) (X S : Extends A)
    (to : (May : Limit) (a : A) (l : ℕ) (us : List Token) (k : ℕ) (r : List Token) → p May a l us k r → q May a l us k r)
    (from : (May : Limit) (a : A) (l : ℕ) (us : List Token) (k : ℕ) (r : List Token) → q May a l us k r → p May a l us k r)
    (l : ℕ) where
  begun_same : (ts front : List Token) → Begun A p X S l ts front → Begun A q X S l ts front
  begun_same ts front begun = record { more = begun.more; tree = begun.tree; is = λ May c allows. to May begun.tree l (front ++ (begun.more ++ c)) l c (begun.is May c allows) }

  pub same_law : (ts : List Token) (o : Read A) → Law A p X S l ts o → Law A q X S l ts o
  same_law ts (Got a rest) law = record {
    front = law.front;
    parts = law.parts;
    plain = law.plain;
    sound = λ May allows c. to May a l (law.front ++ c) l c (law.sound May allows c);
    stop = law.stop;
    only = λ May c h b k r parse. law.only May c h b k r (from May b l (law.front ++ c) k r parse);
  }
  same_law ts (Bad rest) law = record {
    front = law.front;
    parts = law.parts;
    plain = law.plain;
    before = begun_same ts law.front law.before;
    only = λ May c h b k r parse. law.only May c h b k r (from May b l (law.front ++ c) k r parse);
  }
  same_law ts (Deep rest) law = record {
    front = law.front;
    at = law.at;
    behind = law.behind;
    here = law.here;
    parts = law.parts;
    plain = law.plain;
    before = begun_same ts law.front law.before;
    only = λ May c stops b k r parse. law.only May c stops b k r (from May b l (law.front ++ law.at ∷ c) k r parse);
    more = law.more;
    tree = law.tree;
    deeper = λ May c all. to May law.tree l (law.front ++ law.at ∷ (law.more ++ c)) l c (law.deeper May c all);
  }

  pub same_sample : Sample A p l → Sample A q l
  same_sample s = record { tokens = s.tokens; tree = s.tree; is = λ May c frees. to May s.tree l (s.tokens ++ c) l c (s.is May c frees) }

pub give_sample : (A B : Type 0) (p : Family A) (q : Family B) (build : A → B) (l : ℕ)
    → ((May : Limit) (a : A) (us : List Token) (k : ℕ) (r : List Token) → p May a l us k r → q May (build a) l us k r) → Sample A p l → Sample B q l
give_sample A B p q build l to s = record { tokens = s.tokens; tree = build s.tree; is = λ May c frees. to May s.tree (s.tokens ++ c) l c (s.is May c frees) }

-- THE SECOND OF TWO PARTS ALONE

pub second_with : {A B : Type 0} (a : A) (o : Read B) → give (λ (x : A × B). x.1) (with_first a o) ≡ o
second_with a (Got b rest) = refl
second_with a (Bad rest) = refl
second_with a (Deep rest) = refl

pub second_and_then : {A B : Type 0} (o : Read A) (f : A → List Token → Read B) → give (λ (x : A × B). x.1) (and_then o f) ≡ (o >>= f)
second_and_then (Got a rest) f = second_with a (f a rest)
second_and_then (Bad rest) f = refl
second_and_then (Deep rest) f = refl

pub give_same : {A : Type 0} (o : Read A) → give (λ (a : A). a) o ≡ o
give_same (Got a rest) = refl
give_same (Bad rest) = refl
give_same (Deep rest) = refl

-- a part, and then another whose tree is that of both
pub bind_law : (A B : Type 0) (p : Family A) (X S : Extends A) (q : A → Family B) (Y R : A → Extends B)
    (sample : (a : A) (l : ℕ) → Sample B (q a) l)
    (apart : (a : A) (May : Limit) (b : B) (l : ℕ) (us : List Token) (k : ℕ) (r : List Token) → q a May b l us k r → X a (head us) → Y a b (head r))
    (G : Family B) (V W : Extends B)
    (is : (May : Limit) (x : A × B) (l : ℕ) (us : List Token) (k : ℕ) (r : List Token) → seq p q May x l us k r → G May x.1 l us k r)
    (grows : (x : A × B) (h : Option Token) → Y x.0 x.1 h → V x.1 h)
    (stops : (x : A × B) (h : Option Token) → R x.0 x.1 h → W x.1 h)
    (l : ℕ) (ts : List Token) (o : Read A) → Law A p X S l ts o → (f : A → List Token → Read B) → ((a : A) (mid : List Token) → IsGot A p X S l ts a mid → Law B (q a) (Y a) (R a) l mid (f a mid))
    → ((May : Limit) (b : B) (us : List Token) (k : ℕ) (r : List Token) → head us ≡ head ts → G May b l us k r → ((x : A × B) × (b ≡ x.1) × seq p q May x l us k r) ⊎ V b (head r))
    → Law B G V W l ts (o >>= f)
bind_law A B p X S q Y R sample apart G V W is grows stops l ts o law f laws back =
    subst (λ (r : Read B). Law B G V W l ts r) (second_and_then o f)
    (give_law (A × B) B (seq p q) (λ x. Y x.0 x.1) (λ x. R x.0 x.1) G V W (λ x. x.1) is grows stops l ts (and_then o f) back (seq_law A B p X S q Y R sample apart l ts o law f laws))

-- a phrase that is another one behind the first token that stands here
pub recast_at : (A : Type 0) (p q : Family A) (X Y S R : Extends A) (l : ℕ)
    (is : (May : Limit) (a : A) (us : List Token) (k : ℕ) (r : List Token) → p May a l us k r → q May a l us k r)
    (grows : (a : A) (h : Option Token) → X a h → Y a h)
    (stops : (a : A) (h : Option Token) → S a h → R a h)
    (ts : List Token) (o : Read A)
    → ((May : Limit) (a : A) (us : List Token) (k : ℕ) (r : List Token) → head us ≡ head ts → q May a l us k r → p May a l us k r ⊎ Y a (head r))
    → Law A p X S l ts o → Law A q Y R l ts o
recast_at A p q X Y S R l is grows stops ts o back law =
    subst (λ (r : Read A). Law A q Y R l ts r) (give_same o) (give_at A A p X S q Y R (λ a. a) l is grows stops ts o (λ May a us k r same h. elim (back May a us k r same h) [ inl h' ↦ inl (a, refl, h') | inr y ↦ inr y ]) law)

pub recast_law : (A : Type 0) (p q : Family A) (X Y S : Extends A)
    (is : (May : Limit) (a : A) (l : ℕ) (us : List Token) (k : ℕ) (r : List Token) → p May a l us k r → q May a l us k r)
    (grows : (a : A) (h : Option Token) → X a h → Y a h)
    (l : ℕ) (ts : List Token) (o : Read A)
    → ((May : Limit) (a : A) (us : List Token) (k : ℕ) (r : List Token) → head us ≡ head ts → q May a l us k r → p May a l us k r ⊎ Y a (head r))
    → Law A p X S l ts o → Law A q Y S l ts o
recast_law A p q X Y S is grows l = recast_at A p q X Y S S l (λ May a. is May a l) grows (λ a h s. s)

-- what is known of every tree is known where it is read
pub settle_law : (A : Type 0) (p : Family A) (X S R : Extends A) (l : ℕ) → ((a : A) (us : List Token) → p any_level a l us l [] → (h : Option Token) → R a h) → (ts : List Token) (o : Read A) → Law A p X S l ts o → Law A p X R l ts o
settle_law A p X S R l settles ts (Got a rest) law = record {
  front = law.front;
  parts = law.parts;
  plain = law.plain;
  sound = law.sound;
  stop = settles a (law.front ++ []) (law.sound any_level (λ k r _. tt) []) (head rest);
  only = law.only;
}
settle_law A p X S R l settles ts (Bad rest) law = record {
  front = law.front;
  parts = law.parts;
  plain = law.plain;
  before = record { more = law.before.more; tree = law.before.tree; is = law.before.is };
  only = law.only;
}
settle_law A p X S R l settles ts (Deep rest) law = record {
  front = law.front;
  at = law.at;
  behind = law.behind;
  here = law.here;
  parts = law.parts;
  plain = law.plain;
  before = record { more = law.before.more; tree = law.before.tree; is = law.before.is };
  only = law.only;
  more = law.more;
  tree = law.tree;
  deeper = law.deeper;
}

-- BEHIND A TOKEN THAT IS KNOWN

-- the phrases behind the token t
abbrev pub behind : {A : Type 0} → Token → Family A → Family A
behind t p May a l ts k r = p May a l (t ∷ ts) k r

pub behind_law : (A : Type 0) (p : Family A) (X S : Extends A) (l : ℕ) (t : Token) → (terminal_of t ≡ terminal.End → ⊥) → (ts : List Token) (o : Read A) → Law A (behind t p) X S l ts o → Law A p X S l (t ∷ ts) o
behind_law A p X S l t plain ts (Got a rest) law = record { front = t ∷ law.front; parts = ap (λ v. t ∷ v) law.parts; plain = (plain, law.plain); sound = law.sound; stop = law.stop; only = law.only }
behind_law A p X S l t plain ts (Bad rest) law = record {
  front = t ∷ law.front;
  parts = ap (λ v. t ∷ v) law.parts;
  plain = (plain, law.plain);
  before = record { more = law.before.more; tree = law.before.tree; is = law.before.is };
  only = law.only;
}
behind_law A p X S l t plain ts (Deep rest) law = record {
  front = t ∷ law.front;
  at = law.at;
  behind = law.behind;
  here = law.here;
  parts = ap (λ v. t ∷ v) law.parts;
  plain = (plain, law.plain);
  before = record { more = law.before.more; tree = law.before.tree; is = law.before.is };
  only = law.only;
  more = law.more;
  tree = law.tree;
  deeper = law.deeper;
}
