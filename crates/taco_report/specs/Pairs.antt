-- The unit of the tests: class P { int v; nullable P n; void m(nullable P q, int k) { } }
use Rattle.std.specs.Prelude.{false, true, [], ◌∷◌, None}
use Rattle.taco_unit.specs.declared.kind.Kind.TheVariants.{Int, Ref}
use Rattle.taco_unit.specs.declared.stmt.Stmt.TheVariants.{Block}
use Rattle.taco_unit.specs.Parts.{Parts}

abbrev pub pair_unit : Parts
pair_unit = record {
  classes = record { name = 80 ∷ []; fields = 0 ∷ 1 ∷ []; methods = 0 ∷ []; invariants = [] } ∷ [];
  fields = record { name = 118 ∷ []; class = 0; kind = Int; nullable = false } ∷ record { name = 110 ∷ []; class = 0; kind = Ref 0; nullable = true } ∷ [];
  methods =
      record {
        name = 109 ∷ [];
        class = 0;
        fixed = false;
        params = record { name = 113 ∷ []; kind = Ref 0; nullable = true } ∷ record { name = 107 ∷ []; kind = Int; nullable = false } ∷ [];
        result = None;
        locals = [];
        needs = [];
        gives = [];
        body = Block [];
      } ∷ [];
}
