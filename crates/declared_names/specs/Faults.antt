-- Faults of names and kinds, and which of them is reported. (This project's own.)
use Rattle.std.specs.Prelude.{ℕ, ◌+◌, ◌*◌, Bool, true, false, nat_lt, if◌then◌else◌, List, [], ◌∷◌, Option, None, Some}
use Rattle.declared_names.specs.declared.fault.Cause.{Cause}
use Rattle.declared_names.specs.declared.fault.Cause.TheVariants.{Unknown, Twice, Kinds, TooMany}
use Rattle.declared_names.specs.declared.fault.Fault.{Fault}

-- the number of a fault
abbrev pub rank : Cause → ℕ
rank Unknown = 0
rank Twice = 1
rank Kinds = 2
rank (TooMany many) = 3

-- faults go by their places, and at one place by their numbers
abbrev pub key : Fault → ℕ
key f = 4 * f.at + rank f.cause

-- the one of two that is reported; of two that are alike, the first
abbrev pub sooner : Fault → Fault → Fault
sooner f g = if nat_lt (key g) (key f) then g else f

-- the one of several that is reported
unfoldable pub least : Fault → List Fault → Fault
least f [] = f
least f (g ∷ gs) = sooner f (least g gs)

-- the same, where there may be none
unfoldable pub soonest : List Fault → Option Fault
soonest [] = None
soonest (f ∷ fs) = Some (least f fs)

-- the one of two that is reported, where either may be missing
unfoldable pub earlier : Option Fault → Option Fault → Option Fault
earlier None b = b
earlier (Some f) None = Some f
earlier (Some f) (Some g) = Some (sooner f g)

-- a fault
abbrev pub fault : ℕ → Cause → Fault
fault at cause = record { at = at; cause = cause }

-- the fault at this place, unless the condition holds
abbrev pub check : Bool → ℕ → Cause → List Fault
check true at cause = []
check false at cause = fault at cause ∷ []

abbrev pub fault_of : Bool → ℕ → Cause → Option Fault
fault_of true at cause = None
fault_of false at cause = Some (fault at cause)
