-- What is said of every request that reads files, whatever it asks for.
--
-- A request reads a list of files: that of number n through slot n, and the second one only where the first holds what the
-- request needs of it.
use Rattle.std.specs.Prelude.{◌≡◌, ◌≢◌, ℕ, ◌+◌, ◌<◌, ◌≤◌, ◌⊎◌, List, [], length, slice_get, Option, Some, IfSome, codes}
use Rattle.taco_io.specs.Shelf.{Shelf, IsCalm, NameRose, SlotStays}
use Rattle.taco_report.specs.declared.status.Status.{Status}
use Rattle.taco_report.specs.declared.status.Status.TheVariants as status
use Rattle.taco_report.specs.Texts.{line}
use Rattle.command_files.specs.Slots.{TextFile, IsOpened, IsTouched}

-- what a request needs of its first file that reads no second one
abbrev pub NoSecond : (List ℕ → Option (List ℕ)) → Type 0
NoSecond told = ⊥

-- the file of this slot is come to: it is the first one, or the first one holds what is needed
pub record IsReached (files : List TextFile) (Second : Type 0) (slot : ℕ) (f : TextFile) : Type 0 where
  pub listed : slice_get files slot ≡ Some f
  pub comes : (slot ≡ 0) ⊎ Second

-- a file that is come to is longer than its limit
pub record IsOverLong (files : List TextFile) (Second : Type 0) (told : List ℕ → Option (List ℕ)) (slot : ℕ) : Type 0 where
  pub file : TextFile
  pub reached : IsReached files Second slot file
  pub long : IfSome (told file.name) (λ bytes. file.limit < length bytes)

-- what a status tells, and the output that it calls for: of the files that cannot be read, that are too long, and of want
-- of memory here, of everything else by the request's own table
abbrev pub Tells : (files : List TextFile) → (Second : (List ℕ → Option (List ℕ)) → Type 0) → (Says : (List ℕ → Option (List ℕ)) → Status → List ℕ → Type 0)
    → (told : List ℕ → Option (List ℕ)) → Status → (output : List ℕ) → Type 0
Tells files Second Says told (status.TooLong slot) output = (output ≡ line (codes "toolong")) × IsOverLong files (Second told) told slot
Tells files Second Says told status.ReadFault output = output ≡ []
Tells files Second Says told status.NoMemory output = output ≡ []
Tells files Second Says told status.WriteFault output = ⊥
Tells files Second Says told ends output = Says told ends output

-- a file that is come to could not be read
pub record IsFailed (files : List TextFile) (Second : Type 0) (old new : Shelf) : Type 0 where
  pub slot : ℕ
  pub file : TextFile
  pub reached : IsReached files Second slot file
  pub rose : NameRose file.name old new

-- how many bytes of a file are taken at most: the one behind the limit shows that it is too long, and a read that fails
-- comes before it
abbrev pub most_of : Status → ℕ → ℕ
most_of (status.TooLong slot) limit = limit + 1
most_of status.NoMemory limit = limit + 1
most_of _ limit = limit

-- how many of so many files were opened, as a status shows
abbrev pub opened_by : Status → ℕ → ℕ
opened_by status.ReadFault files = 0
opened_by status.NoMemory files = 0
opened_by (status.TooLong slot) files = slot + 1
opened_by (status.BadText slot at) files = slot + 1
opened_by (status.Source refusal) files = 1
opened_by status.NoMethod files = 1
opened_by _ files = files

-- What became of the files: no content changed, no count fell, and only the slots of files that are asked about were
-- touched. A status that tells of a file comes with that file in its slot.
pub record Leaves (files : List TextFile) (ends : Status) (old new : Shelf) : Type 0 where
  pub content : (name : List ℕ) → new.content name ≡ old.content name
  pub faults : (name : List ℕ) → old.faults name ≤ new.faults name
  pub others : (slot : ℕ) → length files ≤ slot → SlotStays slot old new
  pub touched : (slot : ℕ) (f : TextFile) → slice_get files slot ≡ Some f → IsTouched slot f (most_of ends f.limit) old new
  pub opened : (slot : ℕ) (f : TextFile) → slice_get files slot ≡ Some f → slot < opened_by ends (length files) → new.name slot ≡ Some f.name

-- what the request came to, and what was done to the files on the way
pub record IsAnswered (files : List TextFile) (Second : (List ℕ → Option (List ℕ)) → Type 0) (Says : (List ℕ → Option (List ℕ)) → Status → List ℕ → Type 0)
    (old new : Shelf) (ends : Status) (output : List ℕ) : Type 0 where
  pub tells : Tells files Second Says old.content ends output
  pub failed : ends ≡ status.ReadFault → IsFailed files (Second old.content) old new
  pub calm : ends ≢ status.ReadFault → IsCalm old new
  pub leaves : Leaves files ends old new
