-- The law of a token that opens a level, up to the end of what stands behind it.
use Rattle.std.proofs.Common.{◌≡◌, ◌⊎◌, ℕ, suc, ◌≤◌, Bool, true, false, List, [], ◌∷◌, ◌++◌, Option, Some, None, refl, sym, ap, subst, ◌∙◌, inl, inr, arith}
use Rattle.java_lex.specs.declared.token.Token.{Token}
use Rattle.java_tree.specs.Phrases.{Limit, ◌▸◌, token, opens, closed}
use Rattle.reading_core.specs.Read.{Read, Got, Bad, Deep, ◌>>=◌}
use Rattle.java_reading.specs.Readers.{head, with_first, deeper_by, opening}
use Rattle.java_reading.proofs.Law.{Family, Extends, Sample, Begun, Law, Exact}
use Rattle.java_reading.proofs.Seq.{pair_is}
use Rattle.java_reading.proofs.Parts.{Decided, heads, tails}

abbrev pub opened : {A B : Type 0} → (A → Token → Type 0) → Family B → Family (A × B)
opened P body May ab = closed (token (P ab.0) ▸ opens May ▸ body May ab.1)

-- There is a reader one level deeper exactly below 64 levels, and it is exact.
pub data Below (B : Type 0) (body : Family B) (X S : Extends B) (l : ℕ) : Option (List Token → Read B) → Type 1 where
  full : 64 ≤ l → Below B body X S l None
  room : (read : List Token → Read B) → suc l ≤ 64 → Exact B body X S (suc l) read → Below B body X S l (Some read)

module _ (A B : Type 0) (P : A → Token → Type 0) (test : Token → Bool) (value : Token → A) (decided : Decided A P test value)
    (body : Family B) (X S : Extends B) (sample : (l : ℕ) → Sample B body l) (l : ℕ) where
  abbrev OX : Extends (A × B)
  OX ab h = X ab.1 h

  abbrev OS : Extends (A × B)
  OS ab h = S ab.1 h

  abbrev O : Family (A × B)
  O = opened P body

  -- what is opened by this token: the body behind it
  opens_body : (May : Limit) (t : Token) (a : A) (b : B) (us : List Token) (k : ℕ) (r : List Token) → P a t → May (suc l) us → body May b (suc l) us k r → O May (a, b) l (t ∷ us) l r
  opens_body May t a b us k r is may h = (k, (l, us, (t, is, refl, refl), (suc l, us, (refl, may, refl), h)), refl)

  -- and nothing else
  opened_body : (May : Limit) (t : Token) (ab : A × B) (us : List Token) (k : ℕ) (r : List Token) → O May ab l (t ∷ us) k r
      → P ab.0 t × May (suc l) us × ((m : ℕ) × body May ab.1 (suc l) us m r) × (k ≡ l)
  opened_body May t ab us k r (m, (l1, us1, (u, is, parts, up), (k2, us2, (up2, may, same), h)), e) =
      let e1 : us1 ≡ us = tails t u us us1 parts in
      let e2 : us2 ≡ us = same ∙ e1 in
      let e3 : k2 ≡ suc l = up2 ∙ ap suc up in (
        subst (P ab.0) (sym (heads t u us us1 parts)) is,
        subst (λ (n : ℕ). May n us) e3 (subst (May k2) e1 may),
        (m, subst (λ (n : ℕ). body May ab.1 n us m r) e3 (subst (λ (v : List Token). body May ab.1 k2 v m r) e2 h)),
        e,
      )

  pub opened_sample : Sample (A × B) O l
  opened_sample = record {
    tokens = decided.example ∷ s.tokens;
    tree = (value decided.example, s.tree);
    is = λ May c frees. opens_body May decided.example (value decided.example) s.tree (s.tokens ++ c) (suc l) c (decided.is decided.example decided.works)
        (frees (suc l) (s.tokens ++ c) (omega arith)) (s.is May c (λ k r lt. frees k r (omega arith)));
  }
    where
      s : Sample B body (suc l)
      s = sample (suc l)

  begun_none : (ts : List Token) → Begun (A × B) O OX OS l ts []
  begun_none ts = record {
    more = opened_sample.tokens;
    tree = opened_sample.tree;
    is = λ May c allows. opened_sample.is May c (λ k r lt. allows k r (inr lt));
  }

  none_begins : (t : Token) → test t ≡ false → (h : Option Token) → h ≡ Some t → (May : Limit) (c : List Token) → h ≡ head c → (ab : A × B) (k : ℕ) (r : List Token) → O May ab l c k r → ⊥
  none_begins t fails h is May c same ab k r (m, (l1, us1, (u, isu, parts, up), rest), e) =
      let e1 : ◌≡◌ {A = Option Token} (Some t) (Some u) = sym is ∙ same ∙ ap head parts in
      let e2 : t ≡ u = cc in
      let e3 : test u ≡ true = (decided.means ab.0 u isu).0 in
      let e4 : test u ≡ false = subst (λ (v : Token). test v ≡ false) e2 fails in
      cc

  none_empty : (May : Limit) (c : List Token) → ◌≡◌ {A = Option Token} None (head c) → (ab : A × B) (k : ℕ) (r : List Token) → O May ab l c k r → ⊥
  none_empty May c same ab k r (m, (l1, us1, (u, isu, parts, up), rest), e) = let e1 : ◌≡◌ {A = Option Token} None (Some u) = same ∙ ap head parts in cc

  by_body : (t : Token) (ts : List Token) → test t ≡ true → (o : Read B) → suc l ≤ 64 → Law B body X S (suc l) ts o → Law (A × B) O OX OS l (t ∷ ts) (with_first (value t) o)
  by_body t ts passes (Got b rest) may law = record {
    front = t ∷ law.front;
    parts = ap (λ v. t ∷ v) law.parts;
    plain = (decided.plain t passes, law.plain);
    sound = λ May allows c. opens_body May t (value t) b (law.front ++ c) (suc l) c (decided.is t passes) (allows (suc l) (law.front ++ c) (inl may)) (law.sound May allows c);
    stop = law.stop;
    only = λ May c h ab k r parse. at_body May c h ab k r (opened_body May t ab (law.front ++ c) k r parse);
  }
    where
      at_body : (May : Limit) (c : List Token) → head rest ≡ head c → (ab : A × B) (k : ℕ) (r : List Token) → P ab.0 t × May (suc l) (law.front ++ c) × ((m : ℕ) × body May ab.1 (suc l) (law.front ++ c) m r) × (k ≡ l)
          → ((ab ≡ (value t, b)) × (k ≡ l) × (r ≡ c)) ⊎ OX ab (head r)
      at_body May c h ab k r (is, may', (m, inner), up) =
          elim (law.only May c h ab.1 m r inner) [ inl e ↦ inl (pair_is ab (value t) b (decided.means ab.0 t is).1 e.0, up, e.2) | inr x ↦ inr x ]
  by_body t ts passes (Bad rest) may law = record {
    front = t ∷ law.front;
    parts = ap (λ v. t ∷ v) law.parts;
    plain = (decided.plain t passes, law.plain);
    before = record {
      more = law.before.more;
      tree = (value t, law.before.tree);
      is = λ May c allows. opens_body May t (value t) law.before.tree (law.front ++ (law.before.more ++ c)) (suc l) c (decided.is t passes) (allows (suc l) (law.front ++ (law.before.more ++ c)) (inl may)) (law.before.is May c allows);
    };
    only = λ May c h ab k r parse. let body_of = opened_body May t ab (law.front ++ c) k r parse in law.only May c h ab.1 body_of.2.0 r body_of.2.1;
  }
  by_body t ts passes (Deep rest) may law = record {
    front = t ∷ law.front;
    at = law.at;
    behind = law.behind;
    here = law.here;
    parts = ap (λ v. t ∷ v) law.parts;
    plain = (decided.plain t passes, law.plain);
    before = record {
      more = law.before.more;
      tree = (value t, law.before.tree);
      is = λ May c allows. opens_body May t (value t) law.before.tree (law.front ++ (law.before.more ++ c)) (suc l) c (decided.is t passes) (allows (suc l) (law.front ++ (law.before.more ++ c)) (inl may)) (law.before.is May c allows);
    };
    only = λ May c stops ab k r parse. let body_of = opened_body May t ab (law.front ++ law.at ∷ c) k r parse in law.only May c stops ab.1 body_of.2.0 r body_of.2.1;
    more = law.more;
    tree = (value t, law.tree);
    deeper = λ May c all. opens_body May t (value t) law.tree (law.front ++ law.at ∷ (law.more ++ c)) (suc l) c (decided.is t passes) (all (suc l) (law.front ++ law.at ∷ (law.more ++ c))) (law.deeper May c all);
  }

  pub by_level : (t : Token) (ts : List Token) → test t ≡ true → (below : Option (List Token → Read B)) → Below B body X S l below → Law (A × B) O OX OS l (t ∷ ts) (deeper_by below (t ∷ ts) (value t) ts)
  by_level t ts passes None (full many) = record {
    front = [];
    at = t;
    behind = ts;
    here = refl;
    parts = refl;
    plain = tt;
    before = begun_none (t ∷ ts);
    only = λ May c stops ab k r parse. absurd (too_many (stops (suc l) c (omega arith) (opened_body May t ab c k r parse).1));
    more = s.tokens;
    tree = (value t, s.tree);
    deeper = λ May c all. opens_body May t (value t) s.tree (s.tokens ++ c) (suc l) c (decided.is t passes) (all (suc l) (s.tokens ++ c)) (s.is May c (λ k r _. all k r));
  }
    where
      s : Sample B body (suc l)
      s = sample (suc l)

      too_many : suc l ≤ 64 → ⊥
      too_many few = omega arith
  by_level t ts passes (Some read) (room _ may exact) = by_body t ts passes (read ts) may (exact ts)

  by_test : (below : Option (List Token → Read B)) → Below B body X S l below → (t : Token) (ts : List Token) (b : Bool) → test t ≡ b
      → Law (A × B) O OX OS l (t ∷ ts) (elim b as (λ _. Read A) [ true ↦ Got (value t) ts | false ↦ Bad (t ∷ ts) ] >>= deeper_by below (t ∷ ts))
  by_test below exact t ts true passes = by_level t ts passes below exact
  by_test below exact t ts false fails = record {
    front = [];
    parts = refl;
    plain = tt;
    before = begun_none (t ∷ ts);
    only = λ May c h ab k r parse. absurd (none_begins t fails (Some t) refl May c h ab k r parse);
  }

  pub opening_law : (below : Option (List Token → Read B)) → Below B body X S l below → Exact (A × B) O OX OS l (opening test value below)
  opening_law below exact [] = record {
    front = [];
    parts = refl;
    plain = tt;
    before = begun_none [];
    only = λ May c h ab k r parse. absurd (none_empty May c h ab k r parse);
  }
  opening_law below exact (t ∷ ts) = by_test below exact t ts (test t) refl
