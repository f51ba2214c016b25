-- A text that is refused is refused at one place.
use Rattle.std.specs.Prelude.{◌≡◌, ℕ, ◌^◌, ◌<◌, List}
use Rattle.derivation.specs.declared.fault.TextFault.TheVariants.{BadText}
use Rattle.derivation.specs.CnfText.{BlamesCnf}
use Rattle.derivation.specs.LogText.{IsBadLine}
use Rattle.heap_core.specs.Posed.{Posed}
use Rattle.taco_report.specs.States.{IsBadState}
use Rattle.taco_unit.specs.Well.{IsWell}

-- the text of a state has one first line that is not right where it stands
abbrev pub OneBadState : Type 0
OneBadState = (p : Posed) (text : List ℕ) (a b : ℕ) → IsWell p.unit → IsBadState p text a → IsBadState p text b → a ≡ b

-- that of a formula one first fault
abbrev pub OneFault : Type 0
OneFault = (text : List ℕ) (a b : ℕ) → BlamesCnf text (BadText a) → BlamesCnf text (BadText b) → a ≡ b

-- and that of a log one first wrong line
abbrev pub OneBadLine : Type 0
OneBadLine = (vars : ℕ) (text : List ℕ) (a b : ℕ) → vars < 2 ^ 31 → IsBadLine vars text a → IsBadLine vars text b → a ≡ b
