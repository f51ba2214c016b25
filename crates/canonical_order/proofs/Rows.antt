-- Worked rows: tuples of a small problem, and the visit of a heap that no order per class can number.
use Rattle.std.proofs.Common.{◌≡◌, ℕ, false, true, [], ◌∷◌, length, None, refl}
use Rattle.std.specs.Prelude.{map}
use Rattle.std.specs.List.{range_with_len}
use Rattle.taco_unit.specs.declared.kind.Kind.TheVariants.{Ref}
use Rattle.taco_unit.specs.declared.stmt.Stmt.TheVariants as s
use Rattle.taco_unit.specs.declared.unit.FieldDef.{FieldDef}
use Rattle.heap_core.specs.declared.value.Value.{Value}
use Rattle.heap_core.specs.declared.value.Value.TheVariants.{Null, Obj}
use Rattle.heap_core.specs.declared.value.Object.{Object}
use Rattle.heap_core.specs.declared.start.Start.{Start}
use Rattle.heap_core.specs.Posed.{Posed}
use Rattle.canonical_order.specs.declared.tuple.Tuple.TheVariants.{Root, Field}
use Rattle.canonical_order.specs.Canonical.{places, first_place, renumbered}
use Rattle.canonical_order.specs.Tuples.{tuples}
use Rattle.canonical_order.specs.Visiting.{visited}

-- class L { nullable L next; void nop() { } }, within this number of objects
abbrev nop : ℕ → Posed
nop objects = record {
  unit = record {
    classes = record { name = []; fields = 0 ∷ []; methods = 0 ∷ []; invariants = [] } ∷ [];
    fields = record { name = []; class = 0; kind = Ref 0; nullable = true } ∷ [];
    methods = record { name = []; class = 0; fixed = false; params = []; result = None; locals = []; needs = []; gives = []; body = s.Block [] } ∷ [];
  };
  method = 0;
  scope = record { objects = objects; ints = 4; loops = 3; calls = 2 };
}

four : length (tuples (nop 1)) ≡ 4
four = refl

-- the receiver null, 0, 1; `next` of 0 null, 0, 1; `next` of 1 null, 0, 1
nine : tuples (nop 2) ≡ Root 0 Null ∷ Root 0 (Obj 0) ∷ Root 0 (Obj 1) ∷ Field 0 0 Null ∷ Field 0 0 (Obj 0) ∷ Field 0 0 (Obj 1) ∷ Field 0 1 Null ∷ Field 0 1 (Obj 0) ∷ Field 0 1 (Obj 1) ∷ []
nine = refl

-- class A { B b; B a; } and class B { A b; A f1; A f2; }
abbrev a : Value → Value → Object
a b x = record { class = 0; cells = b ∷ x ∷ [] }

abbrev b : Value → Value → Value → Object
b y f g = record { class = 1; cells = y ∷ f ∷ g ∷ [] }

-- a method of A without parameters, within six objects: 7 tuples of the receiver, 42 of each of five fields
abbrev six : Posed
six = record {
  unit = record {
    classes = record { name = []; fields = 0 ∷ 1 ∷ []; methods = 0 ∷ []; invariants = [] } ∷ record { name = []; fields = 2 ∷ 3 ∷ 4 ∷ []; methods = []; invariants = [] } ∷ [];
    fields = link 0 1 ∷ link 0 1 ∷ link 1 0 ∷ link 1 0 ∷ link 1 0 ∷ [];
    methods = record { name = []; class = 0; fixed = false; params = []; result = None; locals = []; needs = []; gives = []; body = s.Block [] } ∷ [];
  };
  method = 0;
  scope = record { objects = 6; ints = 4; loops = 3; calls = 2 };
}
  where
    link : ℕ → ℕ → FieldDef
    link class to = record { name = []; class = class; kind = Ref to; nullable = true }

all_six : length (tuples six) ≡ 217
all_six = refl

-- the heap of six objects, numbered by its visit
abbrev crossed : Start
crossed = record {
  objects = a (Obj 1) Null ∷ b Null (Obj 2) (Obj 3) ∷ a Null (Obj 4) ∷ a Null (Obj 5) ∷ b (Obj 3) Null Null ∷ b (Obj 2) Null Null ∷ [];
  this = Obj 0;
  args = [];
}

rising : map (first_place (places crossed (range_with_len 0 6))) (range_with_len 0 6) ≡ 0 ∷ 1 ∷ 4 ∷ 5 ∷ 7 ∷ 9 ∷ []
rising = refl

-- with the numbers of the objects 2 and 3 exchanged
abbrev exchanged : Start
exchanged = renumbered crossed (0 ∷ 1 ∷ 3 ∷ 2 ∷ 4 ∷ 5 ∷ [])

exchanged_objects : exchanged.objects ≡ a (Obj 1) Null ∷ b Null (Obj 3) (Obj 2) ∷ a Null (Obj 5) ∷ a Null (Obj 4) ∷ b (Obj 2) Null Null ∷ b (Obj 3) Null Null ∷ []
exchanged_objects = refl

-- 0, 1, 2 and so on is not its visit, and 0, 1, 3, 2, 4, 5 is
not_rising : map (first_place (places exchanged (range_with_len 0 6))) (range_with_len 0 6) ≡ 0 ∷ 1 ∷ 5 ∷ 4 ∷ 9 ∷ 7 ∷ []
not_rising = refl

rising_again : map (first_place (places exchanged (0 ∷ 1 ∷ 3 ∷ 2 ∷ 4 ∷ 5 ∷ []))) (0 ∷ 1 ∷ 3 ∷ 2 ∷ 4 ∷ 5 ∷ []) ≡ 0 ∷ 1 ∷ 4 ∷ 5 ∷ 7 ∷ 9 ∷ []
rising_again = refl

visit_of_crossed : visited crossed ≡ 0 ∷ 1 ∷ 2 ∷ 3 ∷ 4 ∷ 5 ∷ []
visit_of_crossed = refl

visit_of_exchanged : visited exchanged ≡ 0 ∷ 1 ∷ 3 ∷ 2 ∷ 4 ∷ 5 ∷ []
visit_of_exchanged = refl

-- numbered backwards, it is renumbered by its visit to the same start again
backwards : renumbered (renumbered crossed (5 ∷ 4 ∷ 3 ∷ 2 ∷ 1 ∷ 0 ∷ [])) (visited (renumbered crossed (5 ∷ 4 ∷ 3 ∷ 2 ∷ 1 ∷ 0 ∷ []))) ≡ crossed
backwards = refl

-- an argument that is the receiver, two arguments that are one object, and a cycle
abbrev shared : Start
shared = record {
  objects = a (Obj 2) (Obj 1) ∷ b (Obj 0) Null Null ∷ b (Obj 2) (Obj 0) Null ∷ [];
  this = Obj 1;
  args = Obj 2 ∷ Null ∷ Obj 1 ∷ Obj 2 ∷ [];
}

visit_of_shared : visited shared ≡ 1 ∷ 2 ∷ 0 ∷ []
visit_of_shared = refl
