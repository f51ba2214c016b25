-- The problem and the start of the test of a start's set.
use Rattle.std.specs.Prelude.{ℕ, List, [], ◌∷◌, None, true, false}
use Rattle.taco_unit.specs.declared.kind.Kind.TheVariants as kind
use Rattle.taco_unit.specs.declared.stmt.Stmt.TheVariants.{Block}
use Rattle.taco_unit.specs.declared.unit.FieldDef.{FieldDef}
use Rattle.taco_unit.specs.Parts.{Parts}

-- a field of class kind that may be null
abbrev pub link_to : List ℕ → ℕ → ℕ → FieldDef
link_to name class to = record { name = name; class = class; kind = kind.Ref to; nullable = true }

-- class A { B b; B a; void m() { } } and class B { A b; A f; A g; }
abbrev pub six_unit : Parts
six_unit = record {
  classes = record { name = 65 ∷ []; fields = 0 ∷ 1 ∷ []; methods = 0 ∷ []; invariants = [] } ∷ record { name = 66 ∷ []; fields = 2 ∷ 3 ∷ 4 ∷ []; methods = []; invariants = [] } ∷ [];
  fields = link_to (98 ∷ []) 0 1 ∷ link_to (97 ∷ []) 0 1 ∷ link_to (98 ∷ []) 1 0 ∷ link_to (102 ∷ []) 1 0 ∷ link_to (103 ∷ []) 1 0 ∷ [];
  methods = record { name = 109 ∷ []; class = 0; fixed = false; params = []; result = None; locals = []; needs = []; gives = []; body = Block [] } ∷ [];
}
