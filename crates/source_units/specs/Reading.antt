-- What the bytes of a Java text are: the text of a unit, or a text with a first fault. (Java Language Specification,
-- "Lexical Structure", "Syntax", "Names", "Types, Values, and Variables"; JML Reference Manual, "Grammar Summary".)
use Rattle.std.specs.Prelude.{◌≡◌, ℕ, List, Some, None}
use Rattle.java_lex.specs.declared.token.Token.{Token}
use Rattle.java_lex.specs.Cut.{Cut, BadAt}
use Rattle.java_tree.specs.Trees.{Classes}
use Rattle.java_tree.specs.Reading.{Parse}
use Rattle.java_reader.specs.Source.{IsText, IsWrongAt, IsDeepAt}
use Rattle.taco_unit.specs.Parts.{Parts}
use Rattle.declared_names.specs.Seen.{Stands}
use Rattle.typed_core.specs.declared.fault.NameFault.{NameFault}
use Rattle.typed_core.specs.declared.fault.NameFault.TheVariants as name
use Rattle.typed_core.specs.Members.{resolved}
use Rattle.typed_core.specs.Resolved.{Reports}
use Rattle.refusals.specs.declared.refusal.Refusal.{Refusal}
use Rattle.refusals.specs.declared.refusal.Refusal.TheVariants.{BadToken, Syntax, Unsupported, Deep, Unknown, Twice, Kinds, TooMany}

-- The bytes are cut into tokens that are a text of the grammar within the levels, and its tree has no fault of names and
-- kinds and stands for this unit.
pub record Reads (bytes : List ℕ) (unit : Parts) : Type 0 where
  pub classes : Classes
  pub text : IsText bytes classes
  pub stands : resolved classes ≡ Stands unit

-- The bytes are a text of the grammar, and of the faults of names and kinds of its tree this is the one with the least
-- place, and at that place the one with the least number.
pub record IsMisnamed (bytes : List ℕ) (fault : NameFault) : Type 0 where
  pub classes : Classes
  pub text : IsText bytes classes
  pub reports : Reports (resolved classes) fault

-- The first fault of the bytes: where no token begins; the first token with which no text begins, or none within the
-- levels; the first fault of names and kinds.
abbrev pub Faulty : List ℕ → Refusal → Type 0
Faulty bytes (BadToken at) = BadAt bytes at
Faulty bytes (Syntax at) = IsWrongAt bytes at None
Faulty bytes (Unsupported part at) = IsWrongAt bytes at (Some part)
Faulty bytes (Deep at) = IsDeepAt bytes at
Faulty bytes (Unknown at) = IsMisnamed bytes (name.Unknown at)
Faulty bytes (Twice at) = IsMisnamed bytes (name.Twice at)
Faulty bytes (Kinds at) = IsMisnamed bytes (name.Kinds at)
Faulty bytes (TooMany many at) = IsMisnamed bytes (name.TooMany many at)
