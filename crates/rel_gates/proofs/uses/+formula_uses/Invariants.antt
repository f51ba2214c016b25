use Rattle.std.proofs.Common.{◌≡◌, ◌++◌, take}
use Rattle.std.specs.List.{flat_map}
use Rattle.rel_gates.specs.Naming.{uses, PartsFit}
use Rattle.rel_gates.proofs.uses.+formula_uses.Given as goal

abbrev pub invariant-add_parts-loop-part : goal.invariant-add_parts-loop-part
invariant-add_parts-loop-part l = record {
  items : l.list.items ≡ l.fn.list.items ++ flat_map (uses l.problem) (take l.part-index l.parts);
  fit : PartsFit l.problem (take l.part-index l.parts);
}
