-- What reading bytes answers.
use Rattle.std.specs.Prelude.{◌≡◌, ℕ, List, Result, Ok, Err}
use Rattle.java_reader.specs.declared.fault.SourceFault.{SourceFault}
use Rattle.java_reader.specs.declared.fault.SourceFault.TheVariants as source
use Rattle.taco_unit.specs.Parts.{Parts}
use Rattle.typed_core.specs.declared.fault.NameFault.{NameFault}
use Rattle.typed_core.specs.declared.fault.NameFault.TheVariants as name
use Rattle.refusals.specs.declared.refusal.Refusal.{Refusal}
use Rattle.refusals.specs.declared.refusal.Refusal.TheVariants.{BadToken, Syntax, Unsupported, Deep, Unknown, Twice, Kinds, TooMany}
use Rattle.source_units.specs.declared.refusal.Unread.{Unread}
use Rattle.source_units.specs.declared.refusal.Unread.TheVariants.{Refused, NoMemory}
use Rattle.source_units.specs.Reading.{Reads, Faulty}

-- what a unit is, or the first fault of a text
pub data Verdict : Type 0 where
  Unit_ : Parts → Verdict
  Fault_ : Refusal → Verdict

abbrev pub Holds : List ℕ → Verdict → Type 0
Holds bytes (Unit_ u) = Reads bytes u
Holds bytes (Fault_ r) = Faulty bytes r

-- the unit of the bytes, or their first fault; memory may be wanting
abbrev pub Tells : List ℕ → Result Parts Unread → Type 0
Tells bytes (Ok u) = Reads bytes u
Tells bytes (Err (Refused r)) = Faulty bytes r
Tells bytes (Err NoMemory) = Unit {0}

-- the answer for a fault of the grammar, and for one of names and kinds
abbrev pub of_source : SourceFault → Unread
of_source (source.BadToken at) = Refused (BadToken at)
of_source (source.Syntax at) = Refused (Syntax at)
of_source (source.Unsupported part at) = Refused (Unsupported part at)
of_source (source.Deep at) = Refused (Deep at)
of_source source.NoMemory = NoMemory

abbrev pub of_name : NameFault → Unread
of_name (name.Unknown at) = Refused (Unknown at)
of_name (name.Twice at) = Refused (Twice at)
of_name (name.Kinds at) = Refused (Kinds at)
of_name (name.TooMany many at) = Refused (TooMany many at)
of_name name.NoMemory = NoMemory
