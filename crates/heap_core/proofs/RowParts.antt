-- The parts of worked rows: units of one class as trees, and starts. Names are left empty: no definition of
-- this crate reads them.
use Rattle.std.proofs.Common.{ℕ, Bool, List, [], ◌∷◌, Option, Some}
use Rattle.std.specs.Prelude.{map, length}
use Rattle.std.specs.List.{range_with_len}
use Rattle.taco_unit.specs.declared.kind.Kind.{Kind}
use Rattle.taco_unit.specs.declared.expr.Expr.{Expr}
use Rattle.taco_unit.specs.declared.expr.Call.{Call, roll-Call}
use Rattle.taco_unit.specs.declared.stmt.Stmt.{Stmt}
use Rattle.taco_unit.specs.declared.unit.Clause.{Clause}
use Rattle.taco_unit.specs.declared.unit.ClassDef.{ClassDef}
use Rattle.taco_unit.specs.declared.unit.FieldDef.{FieldDef}
use Rattle.taco_unit.specs.declared.unit.ParamDef.{ParamDef}
use Rattle.taco_unit.specs.declared.unit.MethodDef.{MethodDef}
use Rattle.heap_core.specs.declared.value.Value.{Value}
use Rattle.heap_core.specs.declared.value.Object.{Object}
use Rattle.heap_core.specs.declared.start.Start.{Start}
use Rattle.heap_core.specs.Posed.{Posed}

abbrev pub clauses_of : List Expr → List Clause
clauses_of = map (λ x. record { expr = x })

-- a class with these invariants, fields and methods
abbrev pub class_with : List Expr → List ℕ → List ℕ → ClassDef
class_with invariants fields methods = record { name = []; fields = fields; methods = methods; invariants = clauses_of invariants }

-- a field of class 0
abbrev pub field_of : Kind → Bool → FieldDef
field_of kind nullable = record { name = []; class = 0; kind = kind; nullable = nullable }

abbrev pub param_of : Kind → Bool → ParamDef
param_of kind nullable = record { name = []; kind = kind; nullable = nullable }

-- a method of class 0, static where that is said
abbrev pub method_with : Bool → List ParamDef → Option (Kind × Bool) → List Kind → List Expr → List Expr → Stmt → MethodDef
method_with fixed params result locals needs gives body = record {
  name = [];
  class = 0;
  fixed = fixed;
  params = params;
  result = result;
  locals = locals;
  needs = clauses_of needs;
  gives = clauses_of gives;
  body = body;
}

-- the first method of a unit of one class with these invariants, at K objects, 4 bits, n turns and d calls
abbrev pub posed_with : List Expr → List FieldDef → List MethodDef → ℕ → ℕ → ℕ → Posed
posed_with invariants fields methods objects loops calls = record {
  unit = record {
    classes = class_with invariants (range_with_len 0 (length fields)) (range_with_len 0 (length methods)) ∷ [];
    fields = fields;
    methods = methods;
  };
  method = 0;
  scope = record { objects = objects; ints = 4; loops = loops; calls = calls };
}

-- the same without an invariant
abbrev pub posed : List FieldDef → List MethodDef → ℕ → ℕ → ℕ → Posed
posed = posed_with []

-- the method of this number, called on a target with arguments
abbrev pub call_on : ℕ → Expr → List Expr → Call
call_on method target args = roll-Call (record { method = method; target = Some target; args = args })

-- an object of class 0
abbrev pub object : List Value → Object
object cells = record { class = 0; cells = cells }

abbrev pub start : List Object → Value → List Value → Start
start objects this args = record { objects = objects; this = this; args = args }
