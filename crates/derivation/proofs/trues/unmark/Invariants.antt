use Rattle.std.proofs.Common.{◌≡◌, ℕ, true, false, drop, slice_index_or}
use Rattle.cnf_core.specs.Trues.{is_true}
use Rattle.derivation.proofs.trues.unmark.Given as goal

-- what is still marked comes later
abbrev pub invariant-loop-lit : goal.invariant-loop-lit
invariant-loop-lit l = (lit : ℕ) → slice_index_or l.marks.items lit false ≡ true → is_true (drop l.lit-index l.lits) lit ≡ true
