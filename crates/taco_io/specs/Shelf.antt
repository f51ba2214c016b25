-- What an object of `Files` tells of its files and slots, and what a call may do to it.
use Rattle.std.specs.Prelude.{◌≡◌, ◌≢◌, ℕ, ◌<◌, ◌≤◌, ◌==◌, List, [], length, take, Option, None, unwrap_or, if◌then◌else◌}
use Rattle.std.specs.Io.KnownBytes.{Consumes, IsAtEnd}
use Rattle.taco_io.specs.declared.files.Opened.{Opened}
use Rattle.taco_io.specs.declared.files.Opened.TheVariants as opened
use Rattle.taco_io.specs.declared.files.Pull.{Pull}
use Rattle.taco_io.specs.declared.files.Pull.TheVariants as pull
use Rattle.taco_io.specs.Counts.{Rose}

-- the four meanings: the content of each named file and the rest of each slot, where they are
-- told, the name of each open slot, and for each name a count of faults
pub record Shelf : Type 0 where
  pub content : List ℕ → Option (List ℕ)
  pub rest : ℕ → Option (List ℕ)
  pub name : ℕ → Option (List ℕ)
  pub faults : List ℕ → ℕ

-- the name of an open slot
abbrev pub name_in : Shelf → ℕ → List ℕ
name_in shelf slot = unwrap_or (shelf.name slot) []

-- what every call on a slot keeps: each content, the other slots, and that no count falls
pub record Stays (slot : ℕ) (old new : Shelf) : Type 0 where
  pub content : (name : List ℕ) → new.content name ≡ old.content name
  pub faults : (name : List ℕ) → old.faults name ≤ new.faults name
  pub name : (other : ℕ) → other ≢ slot → new.name other ≡ old.name other
  pub rest : (other : ℕ) → other ≢ slot → new.rest other ≡ old.rest other

-- no count rose
abbrev pub IsCalm : Shelf → Shelf → Type 0
IsCalm old new = (name : List ℕ) → new.faults name ≡ old.faults name

-- the count of this name rose
abbrev pub NameRose : List ℕ → Shelf → Shelf → Type 0
NameRose name old new = Rose (old.faults name) (new.faults name)

-- the slot is as it was
pub record SlotStays (slot : ℕ) (old new : Shelf) : Type 0 where
  pub name : new.name slot ≡ old.name slot
  pub rest : new.rest slot ≡ old.rest slot

-- the slot is open under this name, and all of its content is left
pub record IsAtStart (slot : ℕ) (name : List ℕ) (shelf : Shelf) : Type 0 where
  pub named : shelf.name slot ≡ Option.Some name
  pub whole : shelf.rest slot ≡ shelf.content name

-- what `open` did to its slot and to the counts
abbrev pub Opens : ℕ → List ℕ → Shelf → Shelf → Opened → Type 0
Opens slot name old new opened.Ready = IsAtStart slot name new × IsCalm old new
Opens slot name old new opened.Failed = SlotStays slot old new × NameRose name old new
Opens slot name old new opened.NoMemory = SlotStays slot old new × IsCalm old new

-- what `pull` did to the rest of its slot, to the buffer and to the counts
abbrev pub Pulls : ℕ → Shelf → Shelf → Pull → List ℕ → Type 0
Pulls slot old new (pull.Got n) buffer =
    Consumes (old.rest slot) (new.rest slot) (take n buffer) × (0 < n) × (n ≤ length buffer) × IsCalm old new
Pulls slot old new pull.End buffer = (new.rest slot ≡ old.rest slot) × IsAtEnd (old.rest slot) × IsCalm old new
Pulls slot old new pull.Failed buffer = (new.rest slot ≡ old.rest slot) × NameRose (name_in old slot) old new

-- no content and no rest is told, the two slots have these names, and one count is that of every name
abbrev pub untold_shelf : Option (List ℕ) → Option (List ℕ) → ℕ → Shelf
untold_shelf first second faults =
    record {
      content = λ _. None;
      rest = λ _. None;
      name = λ slot. if slot == 0 then first else (if slot == 1 then second else None);
      faults = λ _. faults;
    }

-- a pull of which only the number of bytes is known
abbrev pub IsRead : Pull → List ℕ → Type 0
IsRead (pull.Got n) buffer = (0 < n) × (n ≤ length buffer)
IsRead pull.End buffer = Unit {0}
IsRead pull.Failed buffer = Unit {0}
