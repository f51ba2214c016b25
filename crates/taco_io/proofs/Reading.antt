-- What `read_all` has done so far.
use Rattle.std.proofs.Common.{◌≡◌, ℕ, ◌+◌, ◌<◌, ◌≤◌, List, ◌++◌, length, take, Some, None, sym, ap, ◌∙◌, arith, length-append, append-nil}
use Rattle.std.proofs.lemmas.List.{length-take}
use Rattle.std.specs.Prelude.{Option}
use Rattle.std.specs.Io.KnownBytes.{Consumes, IsAtEnd}
use Rattle.std.proofs.KnownBytes.{Consumes-trans}
use Rattle.taco_io.specs.Shelf.{Shelf, Stays, IsCalm}
use Rattle.taco_io.specs.Transfers.{IsRest, IsLonger, TakesAtMost}

-- the bytes so far were consumed, and no count rose
pub record HasRead (slot limit : ℕ) (old new : Shelf) (bytes : List ℕ) : Type 0 where
  pub stays : Stays slot old new
  pub name : new.name slot ≡ old.name slot
  pub taken : Consumes (old.rest slot) (new.rest slot) bytes
  pub few : length bytes ≤ limit + 1
  pub calm : IsCalm old new

-- a call after another keeps what both keep
pub stays_more : (slot : ℕ) (old mid new : Shelf) → Stays slot old mid → Stays slot mid new → Stays slot old new
stays_more slot old mid new first second =
    record {
      content = λ n. second.content n ∙ first.content n;
      faults = λ n. let a = first.faults n in let b = second.faults n in omega arith;
      name = λ other h. second.name other h ∙ first.name other h;
      rest = λ other h. second.rest other h ∙ first.rest other h;
    }

-- one pull more
pub has_read_more : (slot limit : ℕ) (old mid new : Shelf) (bytes buffer : List ℕ) (n : ℕ) → HasRead slot limit old mid bytes → Stays slot mid new
    → new.name slot ≡ mid.name slot → Consumes (mid.rest slot) (new.rest slot) (take n buffer) → IsCalm mid new → n ≤ length buffer
    → length bytes + n ≤ limit + 1 → HasRead slot limit old new (bytes ++ take n buffer)
has_read_more slot limit old mid new bytes buffer n has stays name taken calm short few =
    record {
      stays = stays_more slot old mid new has.stays stays;
      name = name ∙ has.name;
      taken = Consumes-trans (old.rest slot) (mid.rest slot) (new.rest slot) bytes (take n buffer) has.taken taken;
      few = omega (arith, length-append bytes (take n buffer), length-take n buffer);
      calm = λ m. calm m ∙ has.calm m;
    }

-- at the end the bytes so far are all that was told
pub rest_at_end : (old new : Option (List ℕ)) (bytes : List ℕ) → Consumes old new bytes → IsAtEnd new → IsRest old bytes
rest_at_end None new bytes taken end = tt
rest_at_end (Some xs) None bytes taken end = absurd taken
rest_at_end (Some xs) (Some ys) bytes taken end = sym (taken ∙ ap (λ l. bytes ++ l) end ∙ append-nil bytes)

-- more bytes than the limit were consumed, so more were told
pub longer_than : (limit : ℕ) (old new : Option (List ℕ)) (bytes : List ℕ) → Consumes old new bytes → limit < length bytes → IsLonger limit old
longer_than limit None new bytes taken more = tt
longer_than limit (Some xs) None bytes taken more = absurd taken
longer_than limit (Some xs) (Some ys) bytes taken more = omega (arith, ap length taken, length-append bytes ys)

-- a pull that took nothing leaves what was consumed
pub same_rest : (old mid new : Option (List ℕ)) (bytes : List ℕ) → Consumes old mid bytes → new ≡ mid → Consumes old new bytes
same_rest old mid new bytes taken same = rw same taken

-- two reads took at most this much together
pub takes_more : (most : ℕ) (old mid new : Option (List ℕ)) (bytes buffer : List ℕ) (n : ℕ) → Consumes old mid bytes → Consumes mid new (take n buffer)
    → length bytes + n ≤ most → TakesAtMost most old new
takes_more most old mid new bytes buffer n first second few =
    record {
      bytes = bytes ++ take n buffer;
      taken = Consumes-trans old mid new bytes (take n buffer) first second;
      few = omega (arith, length-append bytes (take n buffer), length-take n buffer);
    }
