-- What the reading of a file through a slot does to the files.
use Rattle.std.specs.Prelude.{◌≡◌, ℕ, ◌+◌, ◌<◌, ◌≤◌, ◌⊎◌, List, length, Some, IfSome, Result, Ok, Err, Vec}
use Rattle.std.specs.declared.alloc.Global.{Global}
use Rattle.taco_io.specs.Shelf.{Shelf, IsCalm, NameRose, SlotStays}
use Rattle.taco_io.specs.Transfers.{TakesAtMost}
use Rattle.command_files.specs.declared.file.FileEnd.{FileEnd}
use Rattle.command_files.specs.declared.file.FileEnd.TheVariants as end

-- a file that is asked about, and the most bytes that it may have
pub record TextFile : Type 0 where
  pub name : List ℕ
  pub limit : ℕ

-- the slot is open under the file's name, and at most so many bytes were taken from its content
pub record IsOpened (slot : ℕ) (f : TextFile) (most : ℕ) (old new : Shelf) : Type 0 where
  pub named : new.name slot ≡ Some f.name
  pub few : TakesAtMost most (old.content f.name) (new.rest slot)

-- the slot is as it was, or open under the file's name
abbrev pub IsTouched : ℕ → TextFile → ℕ → Shelf → Shelf → Type 0
IsTouched slot f most old new = SlotStays slot old new ⊎ IsOpened slot f most old new

-- the file was read to its end
pub record IsReadWhole (slot : ℕ) (f : TextFile) (old new : Shelf) : Type 0 where
  pub opened : IsOpened slot f f.limit old new
  pub calm : IsCalm old new

-- what the reading of a file did that gave no text
abbrev pub EndsFile : ℕ → TextFile → Shelf → Shelf → FileEnd → Type 0
EndsFile slot f old new end.TooLong = IfSome (old.content f.name) (λ content. f.limit < length content) × IsOpened slot f (f.limit + 1) old new × IsCalm old new
EndsFile slot f old new end.Fault = NameRose f.name old new × IsTouched slot f f.limit old new
EndsFile slot f old new end.NoMemory = IsTouched slot f (f.limit + 1) old new × IsCalm old new

-- what the reading of a file answers of its content, and what it does
abbrev pub ReadsFile : ℕ → TextFile → Shelf → Shelf → Result (Vec ℕ Global) FileEnd → Type 0
ReadsFile slot f old new (Ok bytes) = IfSome (old.content f.name) (λ content. bytes.items ≡ content) × (length bytes.items ≤ f.limit) × IsReadWhole slot f old new
ReadsFile slot f old new (Err end) = EndsFile slot f old new end
