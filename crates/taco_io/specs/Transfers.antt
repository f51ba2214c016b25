-- What `read_all` and `write_all` answer.
use Rattle.std.specs.Prelude.{◌≡◌, ℕ, ◌+◌, ◌<◌, ◌≤◌, List, length, take, Option, IfSome, Result, Ok, Err, Vec}
use Rattle.std.specs.declared.alloc.Global.{Global}
use Rattle.std.specs.Io.KnownBytes.{Appends, Consumes, IsAtEnd}
use Rattle.taco_io.specs.declared.transfers.ReadEnd.{ReadEnd}
use Rattle.taco_io.specs.declared.transfers.ReadEnd.TheVariants as end
use Rattle.taco_io.specs.declared.transfers.WriteFault.{WriteFault}
use Rattle.taco_io.specs.Counts.{Rose}
use Rattle.taco_io.specs.Shelf.{Shelf, name_in, IsCalm, NameRose}
use Rattle.taco_io.specs.Taken.{Taken}

-- these bytes are all that is told
abbrev pub IsRest : Option (List ℕ) → List ℕ → Type 0
IsRest told bytes = IfSome told (λ rest. bytes ≡ rest)

-- what is told is longer than the limit
abbrev pub IsLonger : ℕ → Option (List ℕ) → Type 0
IsLonger limit told = IfSome told (λ rest. limit < length rest)

-- at most this many bytes were consumed
pub record TakesAtMost (most : ℕ) (old new : Option (List ℕ)) : Type 0 where
  pub bytes : List ℕ
  pub taken : Consumes old new bytes
  pub few : length bytes ≤ most

-- how many bytes `read_all` takes at most: the one behind the limit shows that the text is too long, and a pull that fails
-- comes before it
abbrev pub most_taken : ℕ → Result (Vec ℕ Global) ReadEnd → ℕ
most_taken limit (Ok bytes) = limit
most_taken limit (Err end.TooLong) = limit + 1
most_taken limit (Err end.Fault) = limit
most_taken limit (Err end.NoMemory) = limit + 1

-- what `read_all` answers of the rest of its slot, and what it does to the counts
abbrev pub ReadsAll : ℕ → ℕ → Shelf → Shelf → Result (Vec ℕ Global) ReadEnd → Type 0
ReadsAll slot limit old new (Ok bytes) =
    IsRest (old.rest slot) bytes.items × (length bytes.items ≤ limit) × IsAtEnd (new.rest slot) × IsCalm old new
ReadsAll slot limit old new (Err end.TooLong) = IsLonger limit (old.rest slot) × IsCalm old new
ReadsAll slot limit old new (Err end.Fault) = NameRose (name_in old slot) old new
ReadsAll slot limit old new (Err end.NoMemory) = IsCalm old new

-- what `write_all` does to the bytes taken and to the count
abbrev pub WritesAll : List ℕ → Taken → Taken → Result (Unit {0}) WriteFault → Type 0
WritesAll bytes old new (Ok _) = Appends old.bytes new.bytes bytes × (new.faults ≡ old.faults)
WritesAll bytes old new (Err fault) =
    Appends old.bytes new.bytes (take fault.sent bytes) × (fault.sent < length bytes) × Rose old.faults new.faults
