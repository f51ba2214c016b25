-- What a `Sink` tells of the bytes that it took, and what `push` may do to it.
use Rattle.std.specs.Prelude.{◌≡◌, ℕ, ◌<◌, ◌≤◌, List, length, take, Option}
use Rattle.std.specs.Io.KnownBytes.{Appends}
use Rattle.taco_io.specs.declared.sink.Push.{Push}
use Rattle.taco_io.specs.declared.sink.Push.TheVariants as push
use Rattle.taco_io.specs.Counts.{Rose}

-- the two meanings: the bytes taken, where they are told, and a count of faults
pub record Taken : Type 0 where
  pub bytes : Option (List ℕ)
  pub faults : ℕ

-- what `push` did to the bytes taken and to the count
abbrev pub Pushes : Taken → Taken → Push → List ℕ → Type 0
Pushes old new (push.Took n) piece =
    Appends old.bytes new.bytes (take n piece) × (0 < n) × (n ≤ length piece) × (new.faults ≡ old.faults)
Pushes old new push.Failed piece = (new.bytes ≡ old.bytes) × Rose old.faults new.faults
