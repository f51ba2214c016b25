-- A machine that takes tokens one by one, with a stack of what is awaited. It tells whether tokens begin a text.
use Rattle.std.specs.Prelude.{ℕ, Bool, true, false, List, [], ◌∷◌, ◌++◌}
use Rattle.java_lex.specs.declared.token.Token.{Token}

-- which levels may be opened by a token, by the tokens that are left behind it
abbrev pub Test : Type 0
Test = ℕ → List Token → Bool

-- What something awaited does at a token.
pub data Act (W : Type 0) : Type 0 where
  -- it takes the token, and then these are awaited in its place
  Take : List W → Act W
  -- and the token opens this level
  Open : ℕ → List W → Act W
  -- it is at its end before the token
  Leave : Act W
  -- the token does not go on with it
  Refuse : Act W

-- What the stack is behind the token.
pub data Step (W : Type 0) : Type 0 where
  On : List W → Step W
  OnOpen : ℕ → List W → Step W
  Stop : Step W

-- What a run ends in.
pub data Next : Type 0 where
  -- the tokens begin a text; true where they are one
  Fine : Bool → Next
  -- the tokens from the first on with which none begins
  BadAt : List Token → Next
  -- the tokens from the one on that opens a level too many
  DeepAt : List Token → Next

abbrev pub act : {W : Type 0} → Act W → List W → Step W → Step W
act (Take more) ws left = On (more ++ ws)
act (Open k more) ws left = OnOpen k (more ++ ws)
act Leave ws left = left
act Refuse ws left = Stop

-- what is awaited goes on with these
abbrev pub then_ : {W : Type 0} → Act W → List W → Act W
then_ (Take more) ws = Take (more ++ ws)
then_ (Open k more) ws = Open k (more ++ ws)
then_ Leave ws = Leave
then_ Refuse ws = Refuse

-- a token of a kind, and what is awaited behind it
abbrev pub takes_if : {W : Type 0} → Bool → List W → Act W
takes_if true ws = Take ws
takes_if false ws = Refuse

-- and it opens this level
abbrev pub opens_if : {W : Type 0} → Bool → ℕ → List W → Act W
opens_if true k ws = Open k ws
opens_if false k ws = Refuse

-- it takes a token or refuses it
abbrev pub IsStart : {W : Type 0} → Act W → Type 0
IsStart (Take more) = Unit {0}
IsStart (Open k more) = Unit {0}
IsStart Leave = ⊥
IsStart Refuse = Unit {0}

-- react: what something awaited does at a token; ready: whether it may be at its end where the tokens are
module _ {W : Type 0} (react : W → Token → Act W) (ready : W → Bool) where
  abbrev pub step : Token → List W → Step W
  step t [] = Stop
  step t (w ∷ ws) = act (react w t) ws (step t ws)

  abbrev pub all_ready : List W → Bool
  all_ready [] = true
  all_ready (w ∷ ws) = elim (ready w) [ true ↦ all_ready ws | false ↦ false ]

  module _ (may : Test) where
    abbrev pub run : List Token → List W → Next
    run [] ws = Fine (all_ready ws)
    run (t ∷ ts) ws = elim (step t ws) [ On more ↦ run ts more | OnOpen k more ↦ elim (may k ts) [ true ↦ run ts more | false ↦ DeepAt (t ∷ ts) ] | Stop ↦ BadAt (t ∷ ts) ]
