-- A table that marks nothing that is true marks exactly the literals of an empty trail.
use Rattle.std.proofs.Common.{◌≡◌, ℕ, Bool, true, false, List, [], slice_index_or}
use Rattle.std.proofs.lemmas.Bool.{false_from_ne_true, false≢true}
use Rattle.cnf_core.specs.Trues.{is_true, AreMarks}

pub none_marked : (marks : List Bool) → ((lit : ℕ) → slice_index_or marks lit false ≡ true → is_true [] lit ≡ true) → AreMarks marks []
none_marked marks all lit = false_from_ne_true (slice_index_or marks lit false) (λ h. false≢true (all lit h))
