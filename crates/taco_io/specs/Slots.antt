-- Files in memory and the slots through which they are read.
use Rattle.std.specs.Prelude.{◌≡◌, ℕ, ◌==◌, min, List, ◌++◌, take, length, drop, Option, None, Some, option_map, if◌then◌else◌, bytes_eq, Vec}
use Rattle.std.specs.List.{find}
use Rattle.std.specs.declared.alloc.Global.{Global}
use Rattle.taco_io.specs.declared.files.Pull.{Pull}
use Rattle.taco_io.specs.declared.files.Pull.TheVariants as pull
use Rattle.taco_io.specs.declared.mem_slot.MemSlot.{MemSlot}

-- the content of the first file of this name
abbrev pub content_of : List (Vec ℕ Global × Vec ℕ Global) → List ℕ → Option (List ℕ)
content_of files name = option_map (λ file. file.1.items) (find (λ file. bytes_eq file.0.items name) files)

-- what a slot has left
abbrev pub rest_of : MemSlot → List ℕ
rest_of slot = drop slot.at slot.content.items

-- how many bytes a slot has left
abbrev pub left_in : Option MemSlot → ℕ
left_in None = 0
left_in (Some opened) = length (rest_of opened)

-- what a pull gives of so many bytes
abbrev pub pull_of : ℕ → ℕ → Pull
pull_of most left = if left == 0 then pull.End else (pull.Got (min most left))

-- what a pull does to what a slot has left
abbrev pub Moves : Pull → List ℕ → List ℕ → List ℕ → Type 0
Moves (pull.Got n) old new buffer = old ≡ take n buffer ++ new
Moves pull.End old new buffer = new ≡ old
Moves pull.Failed old new buffer = ⊥
