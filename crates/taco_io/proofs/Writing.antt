-- What `write_all` has done so far.
use Rattle.std.proofs.Common.{◌≡◌, ℕ, ◌+◌, ◌≤◌, List, length, take, drop, ap, ◌∙◌, arith, take-add, length-drop}
use Rattle.std.specs.Io.KnownBytes.{Appends}
use Rattle.std.proofs.KnownBytes.{Appends-trans}
use Rattle.taco_io.specs.Taken.{Taken}

-- the first bytes were taken, and the count is as it was
pub record HasWritten (bytes : List ℕ) (sent : ℕ) (old new : Taken) : Type 0 where
  pub within : sent ≤ length bytes
  pub front : Appends old.bytes new.bytes (take sent bytes)
  pub calm : new.faults ≡ old.faults

-- one push more
pub has_written_more : (bytes rest : List ℕ) (sent n : ℕ) (old mid new : Taken) → HasWritten bytes sent old mid → rest ≡ drop sent bytes
    → Appends mid.bytes new.bytes (take n rest) → n ≤ length rest → new.faults ≡ mid.faults → HasWritten bytes (sent + n) old new
has_written_more bytes rest sent n old mid new has is pushed short calm =
    record {
      within = let within = has.within in omega (arith, ap length is, length-drop sent bytes);
      front = rw (take-add sent n bytes, ← is) (Appends-trans old.bytes mid.bytes new.bytes (take sent bytes) (take n rest) has.front pushed);
      calm = calm ∙ has.calm;
    }
