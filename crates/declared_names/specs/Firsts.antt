-- Names that are found by an index. (This project's own.)
use Rattle.std.specs.Prelude.{◌≡◌, ℕ, Bool, ◌==◌, ◌&&◌, List, Option, None, Some, position, bytes_eq, if◌then◌else◌}
use Rattle.std.specs.Option.{option_or}
use Rattle.declared_names.specs.declared.names.Key.{Key}

-- the same name of the same owner
abbrev pub same_key : Key → Key → Bool
same_key k l = k.owner == l.owner && bytes_eq k.name.now l.name.now

-- the index tells a place exactly of the keys that are in the list, and it is that where the key stands first
abbrev pub TellsFirsts : (Key → Option ℕ) → List Key → Type 0
TellsFirsts first keys = (k : Key) → first k ≡ position (same_key k) keys

-- one key more was noted with its place, which counts only where the index told none
abbrev pub NotesFirst : (Key → Option ℕ) → (Key → Option ℕ) → Key → ℕ → Type 0
NotesFirst before after key place = (k : Key) → after k ≡ option_or (before k) (if same_key k key then Some place else None)
