use Rattle.std.proofs.Common.{◌≡◌, ℕ, true, false, drop, length, slice_index_or}
use Rattle.cnf_core.specs.Trues.{is_true}
use Rattle.sat_analysis.proofs.marks.unmark.Given as goal

-- what is still marked comes later
abbrev pub invariant-loop-lit : goal.invariant-loop-lit
invariant-loop-lit l = record {
  later : (lit : ℕ) → slice_index_or l.table.items lit false ≡ true → is_true (drop l.lit-index l.lits) lit ≡ true;
  same : length l.table.items ≡ length l.initial.table.items;
}
