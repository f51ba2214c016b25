-- The text of a log. There is one text for a log, and one log for a text.
use Rattle.std.specs.Prelude.{◌≡◌, ◌≢◌, ℕ, ◌/◌, ◌^◌, ◌<◌, List, [], ◌∷◌, ◌++◌, All, length, map}
use Rattle.std.specs.List.{flat_map, join_with_byte}
use Rattle.std.specs.List.Sorted.{IsStrictlyIncreasing}
use Rattle.std.specs.Fmt.{decimal}
use Rattle.cnf_core.specs.Literal.{IsOver}
use Rattle.derivation.specs.declared.fault.TextFault.{TextFault}
use Rattle.derivation.specs.declared.fault.TextFault.TheVariants.{BadText, NoMemory}
use Rattle.derivation.specs.Step.{Step}
use Rattle.derivation.specs.Texts.{literal_text}

-- the words of a line: its literals and 0, and then its hints and 0
abbrev pub line_words : Step → List (List ℕ)
line_words step = map literal_text (step.clause ++ 0 ∷ []) ++ map decimal (step.hints ++ 0 ∷ [])

-- a line: its words, parted by one space, and a line feed
abbrev pub line_text : Step → List ℕ
line_text step = join_with_byte 32 (line_words step) ++ 10 ∷ []

-- the lines one after the other
abbrev pub text_of_log : List Step → List ℕ
text_of_log steps = flat_map line_text steps

-- A clause of a line: its variables rise, and all of them are from 1 to vars.
pub record IsClause (vars : ℕ) (clause : List ℕ) : Type 0 where
  pub rising : IsStrictlyIncreasing (map (λ lit. lit / 2) clause)
  pub over : All (IsOver vars) clause

-- Hints of a line: numbers from 1 to 4294967295.
abbrev pub AreHints : List ℕ → Type 0
AreHints hints = All (λ hint. (0 < hint) × (hint < 2 ^ 32)) hints

-- A line that a text can hold.
pub record IsLine (vars : ℕ) (step : Step) : Type 0 where
  pub clause : IsClause vars step.clause
  pub hints : AreHints step.hints

-- A line in order: its variables rise, from 1 to vars, and its hints count from 1.
pub record IsInOrder (vars : ℕ) (step : Step) : Type 0 where
  pub clause : IsClause vars step.clause
  pub hints : All (λ hint. 0 < hint) step.hints

-- The text is that of these lines, each one that a text can hold.
pub record IsLogText (vars : ℕ) (text : List ℕ) (steps : List Step) : Type 0 where
  pub lines : All (IsLine vars) steps
  pub text_is : text ≡ text_of_log steps

-- At this place, behind right lines, more stands, but no right line does.
pub record IsBadLine (vars : ℕ) (text : List ℕ) (at : ℕ) : Type 0 where
  pub front : List Step
  pub rest : List ℕ
  pub before : All (IsLine vars) front
  pub parts : text ≡ text_of_log front ++ rest
  pub place : at ≡ length (text_of_log front)
  pub some : rest ≢ []
  pub none : (step : Step) (more : List ℕ) → IsLine vars step → rest ≡ line_text step ++ more → ⊥

-- What a refused text of a log has: its first wrong line. Want of memory says nothing.
abbrev pub BlamesLine : ℕ → List ℕ → TextFault → Type 0
BlamesLine vars text (BadText at) = IsBadLine vars text at
BlamesLine vars text NoMemory = Unit {0}
