-- How what is awaited is brought to its end: by which tokens.
use Rattle.std.specs.Prelude.{◌≡◌, ℕ, ◌+◌, ◌<◌, Bool, true, false, List, [], ◌∷◌}
use Rattle.java_lex.specs.declared.spelling.Terminal.{Terminal}
use Rattle.java_lex.specs.declared.spelling.Terminal.TheVariants as terminal
use Rattle.java_lex.specs.declared.token.Token.{Token}
use Rattle.java_lex.specs.Terminals.{terminal_of}
use Rattle.reading_core.specs.Machine.{Act, Take, Open, Leave, Refuse}

-- all but the first are calm
abbrev pub all_calm : {W : Type 0} → (W → Bool) → List W → Bool
all_calm calm [] = true
all_calm calm (w ∷ ws) = elim (calm w) [ true ↦ all_calm calm ws | false ↦ false ]

abbrev pub tail_calm : {W : Type 0} → (W → Bool) → List W → Bool
tail_calm calm [] = true
tail_calm calm (w ∷ ws) = all_calm calm ws

abbrev pub Settled : {W : Type 0} → (W → Bool) → Act W → Type 0
Settled calm (Take more) = tail_calm calm more ≡ true
Settled calm (Open k more) = tail_calm calm more ≡ true
Settled calm Leave = Unit {0}
Settled calm Refuse = Unit {0}

-- the token is taken, whether it opens a level or not
abbrev pub Takes : {W : Type 0} → Act W → List W → Type 0
Takes (Take more) ws = more ≡ ws
Takes (Open k more) ws = more ≡ ws
Takes Leave ws = ⊥
Takes Refuse ws = ⊥

abbrev pub ranks : {W : Type 0} → (W → ℕ) → List W → ℕ
ranks rank [] = 0
ranks rank (w ∷ ws) = rank w + ranks rank ws

-- How each thing awaited ends. Some are ready: they may end before any token that ends another. Each of the
-- others has a token that it takes on its way to the end, and what is awaited then has a lower rank. All that is
-- awaited behind something else is calm: its first token on the way is a quiet one, at which what is ready ends.
pub record Endings {W : Type 0} (react : W → Token → Act W) (ready : W → Bool) : Type 0 where
  pub quiet : Token → Bool
  pub calm : W → Bool
  pub token : W → Token
  pub behind : W → List W
  pub rank : W → ℕ
  pub takes : (w : W) → ready w ≡ false → Takes (react w (token w)) (behind w)
  pub falls : (w : W) → ready w ≡ false → ranks rank (behind w) < rank w
  pub leaves : (w : W) (t : Token) → ready w ≡ true → quiet t ≡ true → react w t ≡ Leave
  pub quiets : (w : W) → ready w ≡ false → calm w ≡ true → quiet (token w) ≡ true
  pub settles : (w : W) (t : Token) → Settled calm (react w t)

-- a terminal before which what may end does so: no operator, no `.`, `(` or `else`
abbrev pub is_quiet : Terminal → Bool
is_quiet terminal.Else = false
is_quiet terminal.OpenParen = false
is_quiet terminal.Dot = false
is_quiet terminal.Equal = false
is_quiet terminal.NotEqual = false
is_quiet terminal.Less = false
is_quiet terminal.AtMost = false
is_quiet terminal.Greater = false
is_quiet terminal.AtLeast = false
is_quiet terminal.Plus = false
is_quiet terminal.Minus = false
is_quiet terminal.Times = false
is_quiet terminal.And = false
is_quiet terminal.Or = false
is_quiet terminal.Implies = false
is_quiet terminal.Iff = false
is_quiet x = true

abbrev pub quiet_token : Token → Bool
quiet_token t = is_quiet (terminal_of t)
