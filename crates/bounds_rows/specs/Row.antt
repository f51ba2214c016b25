-- The problem of the tests.
use Rattle.std.specs.Prelude.{ℕ, Bool, true, [], ◌∷◌, None, if◌then◌else◌}
use Rattle.taco_unit.specs.declared.kind.Kind.{Kind}
use Rattle.taco_unit.specs.declared.kind.Kind.TheVariants as kind
use Rattle.taco_unit.specs.declared.stmt.Stmt.TheVariants.{Block}
use Rattle.taco_unit.specs.Parts.{Parts}
use Rattle.heap_core.specs.Posed.{Posed}

-- class L { nullable L next; void nop() { } }, and with `bare` class L { int next; static void nop() { } }, which
-- has no tuples
abbrev pub link : Bool → Kind
link bare = if bare then kind.Int else kind.Ref 0

abbrev pub row_unit : Bool → Parts
row_unit bare = record {
  classes = record { name = 76 ∷ []; fields = 0 ∷ []; methods = 0 ∷ []; invariants = [] } ∷ [];
  fields = record { name = 110 ∷ []; class = 0; kind = link bare; nullable = true } ∷ [];
  methods = record { name = 109 ∷ []; class = 0; fixed = bare; params = []; result = None; locals = []; needs = []; gives = []; body = Block [] } ∷ [];
}

abbrev pub row : Bool → ℕ → Posed
row bare objects = record {
  unit = row_unit bare;
  method = 0;
  scope = record { objects = objects; ints = 4; loops = 3; calls = 2 };
}
