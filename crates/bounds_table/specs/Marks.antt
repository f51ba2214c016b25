-- What the marks of a problem say. (This project's own.)
use Rattle.std.specs.Prelude.{◌≡◌, ℕ, ◌<◌, ◌≢◌, ◌==◌, if◌then◌else◌, length}
use Rattle.heap_core.specs.Posed.{Posed}
use Rattle.canonical_order.specs.Tuples.{tuples}
use Rattle.tuple_sets.specs.Words.{has}
use Rattle.tuple_sets.specs.Numbered.{word_count, IsPossible, IsImpossible}
use Rattle.bounds_table.specs.declared.marks.Marks.{Marks}
use Rattle.bounds_table.specs.declared.marks.Mark.{Mark}
use Rattle.bounds_table.specs.declared.marks.Mark.TheVariants.{Cleared, Kept, Open}
use Rattle.bounds_table.specs.State.{State}

-- a tuple is cleared where the table lacks it, else kept where it is among the kept ones, else open
abbrev pub mark_of : Marks → ℕ → Mark
mark_of m t = if has m.table t == 0 then Cleared else (if has m.kept t == 1 then Kept else Open)

-- the marks are of this problem: they have its tuples, and as many words as these have
pub record AreOf (p : Posed) (m : Marks) : Type 0 where
  pub tuples : m.tuples ≡ length (tuples p)
  pub table : length m.table ≡ word_count p
  pub kept : length m.kept ≡ word_count p

-- the marks are sound: each cleared tuple is impossible, and each kept one is possible
pub record AreSound (p : Posed) (m : Marks) : Type 0 where
  pub cleared : (t : ℕ) → t < m.tuples → mark_of m t ≡ Cleared → IsImpossible p t
  pub kept : (t : ℕ) → t < m.tuples → mark_of m t ≡ Kept → IsPossible p t

-- they are exact: sound, and no tuple is open
pub record AreExact (p : Posed) (m : Marks) : Type 0 where
  pub sound : AreSound p m
  pub decided : (t : ℕ) → t < m.tuples → mark_of m t ≢ Open

-- exact marks are one function of the problem
abbrev pub ExactMarksAgree : Type 0
ExactMarksAgree =
    (p : Posed) (m n : Marks) → AreOf p m → AreOf p n → AreExact p m → AreExact p n → (t : ℕ) → t < m.tuples → mark_of m t ≡ mark_of n t

-- the marks of a state
abbrev pub marks_of : State → Marks
marks_of s = record { tuples = length (tuples s.problem); table = s.table; kept = s.kept }
