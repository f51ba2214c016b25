-- What a part of a tree is seen to be: its meaning, or its faults. A part with a fault inside has no meaning.
use Rattle.std.specs.Prelude.{Bool, true, false, List, [], ◌∷◌, ◌++◌, Option, None, Some, Result, Ok, Err}
use Rattle.declared_names.specs.declared.fault.Fault.{Fault}
use Rattle.declared_names.specs.Faults.{sooner, least}

-- it stands for a value, or has one fault at least
pub data Seen (A : Type 0) : Type 0 where
  Stands : A → Seen A
  Faulty : Fault → List Fault → Seen A

-- its faults
abbrev pub faults : {A : Type 0} → Seen A → List Fault
faults (Stands x) = []
faults (Faulty f fs) = f ∷ fs

-- it stands for a value
abbrev pub is_seen : {A : Type 0} → Seen A → Bool
is_seen (Stands x) = true
is_seen (Faulty f fs) = false

-- a whole of one part: it has faults of its own only where the part has none
unfoldable pub over : {A B : Type 0} → Seen A → (A → Seen B) → Seen B
over (Stands x) go = go x
over (Faulty f fs) go = Faulty f fs

-- a whole of two parts
unfoldable pub over_two : {A B C : Type 0} → Seen A → Seen B → (A → B → Seen C) → Seen C
over_two (Stands x) (Stands y) go = go x y
over_two (Stands x) (Faulty g gs) go = Faulty g gs
over_two (Faulty f fs) (Stands y) go = Faulty f fs
over_two (Faulty f fs) (Faulty g gs) go = Faulty f (fs ++ g ∷ gs)

-- the value, unless there are these faults
unfoldable pub unless : {A : Type 0} → List Fault → A → Seen A
unless [] x = Stands x
unless (f ∷ fs) x = Faulty f fs

-- these faults beside those of a part
unfoldable pub beside : {A : Type 0} → List Fault → Seen A → Seen A
beside [] s = s
beside (f ∷ fs) (Stands x) = Faulty f fs
beside (f ∷ fs) (Faulty g gs) = Faulty f (fs ++ g ∷ gs)

-- one fault
abbrev pub faulty : {A : Type 0} → Fault → Seen A
faulty f = Faulty f []

-- what is reported: the value, or the least fault
unfoldable pub told : {A : Type 0} → Seen A → Result A Fault
told (Stands x) = Ok x
told (Faulty f fs) = Err (least f fs)

-- the same words for what is reported
abbrev pub on : {A B : Type 0} → Result A Fault → (A → Result B Fault) → Result B Fault
on (Ok x) go = go x
on (Err f) go = Err f

abbrev pub on_two : {A B C : Type 0} → Result A Fault → Result B Fault → (A → B → Result C Fault) → Result C Fault
on_two (Ok x) (Ok y) go = go x y
on_two (Ok x) (Err g) go = Err g
on_two (Err f) (Ok y) go = Err f
on_two (Err f) (Err g) go = Err (sooner f g)

abbrev pub reported : {A : Type 0} → Option Fault → A → Result A Fault
reported None x = Ok x
reported (Some f) x = Err f

abbrev pub with_fault : {A : Type 0} → Option Fault → Result A Fault → Result A Fault
with_fault None r = r
with_fault (Some f) (Ok x) = Err f
with_fault (Some f) (Err g) = Err (sooner f g)
