-- What the code's values are to the definition of reading.
use Rattle.std.specs.Prelude.{ℕ, Bool, true, false}
use Rattle.java_tree.specs.Members.{Written, empty, one_part, fields}
use Rattle.java_tree.specs.Seen.{part_tree}
use Rattle.java_reader.specs.declared.clauses.ClauseWord.{ClauseWord}
use Rattle.java_reader.specs.declared.clauses.ClauseWord.TheVariants.{Requires, Ensures}
use Rattle.java_reader.specs.declared.members.Declared.{Declared}
use Rattle.java_reader.specs.declared.members.Declared.TheVariants.{Nothing, One, Fields}

-- whether it is `requires`, and its place
abbrev pub word_seen : ClauseWord × ℕ → Bool × ℕ
word_seen x = elim x.0 [ Requires ↦ (true, x.1) | Ensures ↦ (false, x.1) ]

abbrev pub declared_seen : Declared → Written
declared_seen Nothing = empty
declared_seen (One member) = one_part (part_tree member)
declared_seen (Fields mods kind name more) = fields mods.items kind name more.items
