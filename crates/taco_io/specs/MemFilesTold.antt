-- What `MemFiles` tells of itself, and what its calls answer.
use Rattle.std.specs.Prelude.{◌≡◌, ℕ, ◌==◌, min, Bool, ◌||◌, List, Option, None, option_map, is_none, if◌then◌else◌, Vec}
use Rattle.std.specs.declared.alloc.Global.{Global}
use Rattle.taco_io.specs.declared.files.Pull.{Pull}
use Rattle.taco_io.specs.declared.files.Pull.TheVariants as pull
use Rattle.taco_io.specs.declared.mem_files.MemFiles.{MemFiles}
use Rattle.taco_io.specs.declared.mem_slot.MemSlot.{MemSlot}
use Rattle.taco_io.specs.Planned.{is_due, IsFreshPlan, IsNextCall}
use Rattle.taco_io.specs.Shelf.{Shelf}
use Rattle.taco_io.specs.Slots.{content_of, rest_of, left_in, pull_of}

-- the slot of this number
abbrev pub slot_of : MemFiles → ℕ → Option MemSlot
slot_of files slot = if slot == 0 then files.first else (if slot == 1 then files.second else None)

-- everything is told, and one counter is the count of every name
abbrev pub shelf_of : MemFiles → Shelf
shelf_of files =
    record {
      content = content_of files.contents.items;
      rest = λ slot. option_map rest_of (slot_of files slot);
      name = λ slot. option_map (λ opened. opened.name.items) (slot_of files slot);
      faults = λ _. files.plan.faults;
    }

-- these files, no open slot, and no call yet
pub record IsFresh (contents : List (Vec ℕ Global × Vec ℕ Global)) (most : ℕ) (failing : List ℕ) (files : MemFiles) : Type 0 where
  pub same_contents : files.contents.items ≡ contents
  pub first_closed : files.first ≡ None
  pub second_closed : files.second ≡ None
  pub same_most : files.most ≡ most
  pub plan : IsFreshPlan failing files.plan

-- the call was counted
pub record IsCounted (old new : MemFiles) : Type 0 where
  pub plan : IsNextCall old.plan new.plan
  pub same_most : new.most ≡ old.most

-- whether an `open` of this name fails: the call is due, or there is no such file
abbrev pub fails_to_open : MemFiles → List ℕ → Bool
fails_to_open files name = is_due files.plan || is_none (content_of files.contents.items name)

-- what a `pull` into this much room answers: it fails where the call is due
abbrev pub pulled_of : MemFiles → ℕ → ℕ → Pull
pulled_of files slot room =
    if is_due files.plan then pull.Failed else (pull_of (min room files.most) (left_in (slot_of files slot)))
