-- What `resolve` answers.
use Rattle.std.specs.Prelude.{◌≡◌, ◌≤◌, ℕ, List, Some, Result, Ok, Err, All, slice_get}
use Rattle.taco_unit.specs.Parts.{Parts}
use Rattle.declared_names.specs.declared.fault.Fault.{Fault}
use Rattle.declared_names.specs.declared.fault.Cause.{Cause}
use Rattle.declared_names.specs.declared.fault.Cause.TheVariants as cause
use Rattle.declared_names.specs.Faults.{key, soonest}
use Rattle.declared_names.specs.Seen.{Seen, Stands, faults}
use Rattle.typed_core.specs.declared.fault.NameFault.{NameFault}
use Rattle.typed_core.specs.declared.fault.NameFault.TheVariants.{Unknown, Twice, Kinds, TooMany, NoMemory}

abbrev pub by_cause : ℕ → Cause → NameFault
by_cause at cause.Unknown = Unknown at
by_cause at cause.Twice = Twice at
by_cause at cause.Kinds = Kinds at
by_cause at (cause.TooMany many) = TooMany many at

abbrev pub name_fault : Fault → NameFault
name_fault f = by_cause f.at f.cause

-- it is one of these faults, and none of them goes before it: none has a lesser place, or at its place a lesser number
pub record IsReported (f : Fault) (fs : List Fault) : Type 0 where
  pub place : ℕ
  pub among : slice_get fs place ≡ Some f
  pub before : All (λ g. key f ≤ key g) fs
  -- of several that are alike, the first of the list
  pub first : soonest fs ≡ Some f

-- the fault of a text with these faults
pub record Reports (s : Seen Parts) (answer : NameFault) : Type 0 where
  pub fault : Fault
  pub is : answer ≡ name_fault fault
  pub reported : IsReported fault (faults s)

abbrev pub Refuses : Seen Parts → NameFault → Type 0
Refuses s NoMemory = Unit {0}
Refuses s (Unknown at) = Reports s (Unknown at)
Refuses s (Twice at) = Reports s (Twice at)
Refuses s (Kinds at) = Reports s (Kinds at)
Refuses s (TooMany many at) = Reports s (TooMany many at)

-- the unit that a text stands for, or the fault that is reported; memory may be wanting
abbrev pub Resolves : Seen Parts → Result Parts NameFault → Type 0
Resolves s (Ok u) = s ≡ Stands u
Resolves s (Err fault) = Refuses s fault
