-- What a reader owes to its phrase.
use Rattle.std.proofs.Common.{◌≡◌, ◌⊎◌, ℕ, ◌≤◌, ◌<◌, List, [], ◌∷◌, ◌++◌, length, Option}
use Rattle.java_lex.specs.declared.token.Token.{Token}
use Rattle.java_lex.specs.declared.spelling.Terminal.TheVariants as terminal
use Rattle.java_lex.specs.Terminals.{terminal_of}
use Rattle.java_tree.specs.Phrases.{Phrase, Limit}
use Rattle.java_tree.specs.Reading.{within_before}
use Rattle.reading_core.specs.Read.{Read, Got, Bad, Deep}
use Rattle.java_reading.specs.Readers.{Reader, head}

-- the phrases of the trees of one kind, under a limit on levels
abbrev pub Family : Type 0 → Type 1
Family A = Limit → A → Phrase

-- the tokens that may make a tree longer than this, by the first that is left behind it
abbrev pub Extends : Type 0 → Type 1
Extends A = A → Option Token → Type 0

-- no token makes it longer
abbrev pub never : {A : Type 0} → Extends A
never a h = ⊥

-- nothing is known of what is left
abbrev pub any : {A : Type 0} → Extends A
any a h = Unit {0}

-- the limit lets the last so many tokens open every level, and each token levels up to 64
abbrev pub Allows : ℕ → Limit → Type 0
Allows n May = (k : ℕ) (r : List Token) → within_before n k r → May k r

-- it lets the last so many tokens open every level
abbrev pub Frees : ℕ → Limit → Type 0
Frees n May = (k : ℕ) (r : List Token) → length r < n → May k r

-- it lets no token before the last so many open a level above 64
abbrev pub Stops : ℕ → Limit → Type 0
Stops n May = (k : ℕ) (r : List Token) → n ≤ length r → May k r → k ≤ 64

-- no token of these is the end of the text
abbrev pub Plain : List Token → Type 0
Plain [] = Unit {0}
Plain (t ∷ ts) = (terminal_of t ≡ terminal.End → ⊥) × Plain ts

pub plain_append : (f g : List Token) → Plain f → Plain g → Plain (f ++ g)
plain_append [] g p q = q
plain_append (t ∷ f) g p q = (p.0, plain_append f g p.1 q)

-- some tokens that are such a phrase, where they may open every level
pub record Sample (A : Type 0) (p : Family A) (l : ℕ) : Type 1 where
  pub tokens : List Token
  pub tree : A
  pub is : (May : Limit) (c : List Token) → Frees (length (tokens ++ c)) May → p May tree l (tokens ++ c) l c

-- X: what may make a tree longer; S: what is known of the first token left behind a tree
module _ (A : Type 0) (p : Family A) (X S : Extends A) (l : ℕ) (ts : List Token) where
  -- the tree is that of the tokens up to these, and no other one is, unless what is left behind it makes it longer
  pub record IsGot (a : A) (rest : List Token) : Type 1 where
    pub front : List Token
    pub parts : ts ≡ front ++ rest
    pub plain : Plain front
    pub sound : (May : Limit) → Allows 0 May → (c : List Token) → p May a l (front ++ c) l c
    pub stop : S a (head rest)
    pub only : (May : Limit) (c : List Token) → head rest ≡ head c → (b : A) (k : ℕ) (r : List Token) → p May b l (front ++ c) k r → ((b ≡ a) × (k ≡ l) × (r ≡ c)) ⊎ X b (head r)

  -- some tokens lead from those before these to the end of a phrase
  pub record Begun (front : List Token) : Type 1 where
    pub more : List Token
    pub tree : A
    pub is : (May : Limit) (c : List Token) → Allows (length (more ++ c)) May → p May tree l (front ++ (more ++ c)) l c

  pub record IsBad (rest : List Token) : Type 1 where
    pub front : List Token
    pub parts : ts ≡ front ++ rest
    pub plain : Plain front
    pub before : Begun front
    pub only : (May : Limit) (c : List Token) → head rest ≡ head c → (b : A) (k : ℕ) (r : List Token) → p May b l (front ++ c) k r → X b (head r)

  pub record IsDeep (rest : List Token) : Type 1 where
    pub front : List Token
    pub at : Token
    pub behind : List Token
    pub here : rest ≡ at ∷ behind
    pub parts : ts ≡ front ++ rest
    pub plain : Plain front
    pub before : Begun front
    pub only : (May : Limit) (c : List Token) → Stops (length c) May → (b : A) (k : ℕ) (r : List Token) → p May b l (front ++ at ∷ c) k r → X b (head r)
    pub more : List Token
    pub tree : A
    pub deeper : (May : Limit) (c : List Token) → ((k : ℕ) (r : List Token) → May k r) → p May tree l (front ++ at ∷ (more ++ c)) l c

  abbrev pub Law : Read A → Type 1
  Law (Got a rest) = IsGot a rest
  Law (Bad rest) = IsBad rest
  Law (Deep rest) = IsDeep rest

-- what a reader owes at a level
abbrev pub Exact : (A : Type 0) (p : Family A) (X S : Extends A) (l : ℕ) (r : Reader A) → Type 1
Exact A p X S l r = (ts : List Token) → Law A p X S l ts (r ts)
