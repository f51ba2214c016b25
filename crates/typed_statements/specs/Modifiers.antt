-- Modifiers and nullness. (JML Reference Manual, "Type Specifications": nullable and non_null; the faults are this project's.)
use Rattle.std.specs.Prelude.{ℕ, max, Bool, true, false, ◌&&◌, ◌||◌, List, [], ◌∷◌, ◌++◌, Option, None, Some, is_some, is_none}
use Rattle.java_tree.specs.declared.names.ModWord.{ModWord}
use Rattle.java_tree.specs.declared.names.ModWord.TheVariants.{Static, Nullable, NonNull, NullableByDefault, NonNullByDefault}
use Rattle.java_tree.specs.declared.names.Modifier.{Modifier}
use Rattle.declared_names.specs.declared.fault.Fault.{Fault}
use Rattle.declared_names.specs.declared.fault.Cause.TheVariants.{Twice, Kinds}
use Rattle.declared_names.specs.Faults.{check, fault}
use Rattle.typed_statements.specs.declared.modifiers.Marks.{Marks}

abbrev pub no_marks : Marks
no_marks = record { fixed = None; nullable = None; non_null = None; nullable_by_default = None; non_null_by_default = None }

-- the first place of a modifier
abbrev pub place_of : Marks → ModWord → Option ℕ
place_of ms Static = ms.fixed
place_of ms Nullable = ms.nullable
place_of ms NonNull = ms.non_null
place_of ms NullableByDefault = ms.nullable_by_default
place_of ms NonNullByDefault = ms.non_null_by_default

abbrev pub or_first : Option ℕ → ℕ → Option ℕ
or_first (Some p) at = Some p
or_first None at = Some at

abbrev pub marked : Marks → ModWord → ℕ → Marks
marked ms Static at = record ms { fixed = or_first ms.fixed at }
marked ms Nullable at = record ms { nullable = or_first ms.nullable at }
marked ms NonNull at = record ms { non_null = or_first ms.non_null at }
marked ms NullableByDefault at = record ms { nullable_by_default = or_first ms.nullable_by_default at }
marked ms NonNullByDefault at = record ms { non_null_by_default = or_first ms.non_null_by_default at }

-- the first place of each modifier
abbrev pub marks_from : Marks → List Modifier → Marks
marks_from ms [] = ms
marks_from ms (m ∷ more) = marks_from (marked ms m.word m.at) more

abbrev pub marks_of : List Modifier → Marks
marks_of = marks_from no_marks

-- a modifier that is there already
abbrev pub repeated_at : Marks → Modifier → List Fault
repeated_at ms m = check (is_none (place_of ms m.word)) m.at Twice

abbrev pub repeated_from : Marks → List Modifier → List Fault
repeated_from ms [] = []
repeated_from ms (m ∷ more) = repeated_at ms m ++ repeated_from (marked ms m.word m.at) more

-- both of two that say the contrary: the later one
abbrev pub opposed : Option ℕ → Option ℕ → List Fault
opposed None q = []
opposed (Some p) None = []
opposed (Some p) (Some q) = fault (max p q) Twice ∷ []

abbrev pub modifier_faults : List Modifier → List Fault
modifier_faults mods =
    repeated_from no_marks mods ++ (opposed (marks_of mods).nullable (marks_of mods).non_null ++ opposed (marks_of mods).nullable_by_default (marks_of mods).non_null_by_default)

abbrev pub kinds_at : Option ℕ → List Fault
kinds_at None = []
kinds_at (Some p) = fault p Kinds ∷ []

-- nullness of what is no object
abbrev pub nullness_faults : Bool → Marks → List Fault
nullness_faults true ms = []
nullness_faults false ms = kinds_at ms.nullable ++ kinds_at ms.non_null

-- what is of class kind may be null where it is marked so, or its class has it by default and it is not marked otherwise
abbrev pub is_nullable : Bool → Bool → Marks → Bool
is_nullable default object ms = object && (is_some ms.nullable || (default && is_none ms.non_null))
