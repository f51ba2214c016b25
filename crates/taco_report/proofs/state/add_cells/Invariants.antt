use Rattle.std.proofs.Common.{◌≡◌, ◌++◌, drop, flat_map}
use Rattle.std.specs.Prelude.{zip}
use Rattle.taco_report.specs.Texts.{cell_text}
use Rattle.taco_report.proofs.state.add_cells.Given as goal

-- the fields so far, and then those of what is left, are those of all
abbrev pub invariant-loop-i : goal.invariant-loop-i
invariant-loop-i l =
    l.out.items ++ flat_map (cell_text l.problem) (zip (drop l.i l.fields) (drop l.i l.cells)) ≡ l.initial.out.items ++ flat_map (cell_text l.problem) (zip l.fields l.cells)
