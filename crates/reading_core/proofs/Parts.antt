-- The parts of a phrase, where it begins with one token, a level or a closed phrase.
use Rattle.std.proofs.Common.{◌≡◌, ℕ, suc, List, ◌∷◌, subst}
use Rattle.java_lex.specs.declared.token.Token.{Token}
use Rattle.java_tree.specs.Phrases.{Phrase, Limit, ◌▸◌, token, opens, closed}

module _ (q : Phrase) (l : ℕ) (ts : List Token) (k : ℕ) (rest : List Token) where
  pub record Token_ (P : Token → Type 0) : Type 0 where
    pub first : Token
    pub behind : List Token
    pub is : P first
    pub parts : ts ≡ first ∷ behind
    pub then_ : q l behind k rest

  -- one token first
  pub from_token : (P : Token → Type 0) → (token P ▸ q) l ts k rest → Token_ P
  from_token P (m, mid, (t, is, parts, level), x) = record { first = t; behind = mid; is = is; parts = parts; then_ = subst (λ (n : ℕ). q n mid k rest) level x }

  -- a level first
  pub from_opens : (May : Limit) → (opens May ▸ q) l ts k rest → May (suc l) ts × q (suc l) ts k rest
  from_opens May (m, mid, (up, may, same), x) = (subst (λ (n : ℕ). May n ts) up may, subst (λ (us : List Token). q (suc l) us k rest) same (subst (λ (n : ℕ). q n mid k rest) up x))

  pub record Closed_ (p : Phrase) : Type 0 where
    pub level : ℕ
    pub mid : List Token
    pub first : p l ts level mid
    pub then_ : q l mid k rest

  -- a closed phrase first
  pub from_closed : (p : Phrase) → (closed p ▸ q) l ts k rest → Closed_ p
  from_closed p (m, mid, (j, x, is), y) = record { level = j; mid = mid; first = x; then_ = subst (λ (n : ℕ). q n mid k rest) is y }
