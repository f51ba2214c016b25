-- What `MemSink` tells of itself, and what `push` answers.
use Rattle.std.specs.Prelude.{◌≡◌, ℕ, ◌-◌, ◌==◌, min, List, [], length, Some, if◌then◌else◌, ◌||◌}
use Rattle.taco_io.specs.declared.mem_sink.MemSink.{MemSink}
use Rattle.taco_io.specs.declared.sink.Push.{Push}
use Rattle.taco_io.specs.declared.sink.Push.TheVariants as push
use Rattle.taco_io.specs.Planned.{is_due, IsFreshPlan, IsNextCall}
use Rattle.taco_io.specs.Taken.{Taken}

-- the bytes taken
abbrev pub bytes_of : MemSink → List ℕ
bytes_of sink = sink.bytes.items

-- all bytes are told
abbrev pub taken_of : MemSink → Taken
taken_of sink = record { bytes = Some sink.bytes.items; faults = sink.plan.faults }

-- nothing taken, this much room, and no call yet
pub record IsFresh (room most : ℕ) (failing : List ℕ) (sink : MemSink) : Type 0 where
  pub empty : sink.bytes.items ≡ []
  pub same_room : sink.room ≡ room
  pub same_most : sink.most ≡ most
  pub plan : IsFreshPlan failing sink.plan

-- the call was counted
pub record IsCounted (old new : MemSink) : Type 0 where
  pub plan : IsNextCall old.plan new.plan
  pub same_room : new.room ≡ old.room
  pub same_most : new.most ≡ old.most

-- how much more fits
abbrev pub room_left : MemSink → ℕ
room_left sink = sink.room - length sink.bytes.items

-- what a `push` of this many bytes answers: it fails where the call is due or no room is left
abbrev pub pushed_of : MemSink → ℕ → Push
pushed_of sink count =
    if is_due sink.plan || (room_left sink == 0) then push.Failed else (push.Took (min (min count sink.most) (room_left sink)))
