-- Worked rows: programs with the last states of their runs.
use Rattle.std.proofs.Common.{◌≡◌, ℕ, zero, suc, Bool, true, false, List, [], ◌∷◌, Some, refl, subst, arith}
use Rattle.std.specs.Prelude.{ℤ, pos, slice_get}
use Rattle.taco_unit.specs.declared.kind.Kind.{Kind}
use Rattle.taco_unit.specs.declared.kind.Kind.TheVariants.{Int, Flag, Ref}
use Rattle.taco_unit.specs.declared.unit.ClassDef.{ClassDef}
use Rattle.taco_unit.specs.declared.unit.FieldDef.{FieldDef}
use Rattle.heap_core.specs.declared.value.Value.{Value}
use Rattle.heap_core.specs.declared.value.Value.TheVariants as v
use Rattle.heap_core.specs.declared.value.Object.{Object}
use Rattle.heap_core.specs.Posed.{Posed}
use Rattle.heap_core.specs.Start.{has_kind}
use Rattle.heap_core.proofs.FieldLaws.{none_some, some_same}
use Rattle.dyn_core.specs.declared.prog.Act.TheVariants.{Copy, Const, Sum, Same, Below, Read, Write, Make}
use Rattle.dyn_core.specs.declared.prog.Prog.{Prog}
use Rattle.dyn_core.specs.declared.prog.Prog.TheVariants as q
use Rattle.dyn_core.specs.declared.state.DynState.{DynState}
use Rattle.dyn_core.specs.States.{var_at}
use Rattle.dyn_core.specs.Runs.{ends}
use Rattle.dyn_core.specs.Kinds.{is_kinded, HasKinds}
use Rattle.dyn_core.specs.Unrolled.{unrolled}
use Rattle.dyn_core.proofs.Forms.{ends_forms, kinded_forms, unrolled_forms}

-- a unit of these classes and fields, at K objects and 4 bits. Names are left empty: no definition of this crate
-- reads them
abbrev posed : List ClassDef → List FieldDef → ℕ → Posed
posed classes fields objects = record {
  unit = record { classes = classes; fields = fields; methods = [] };
  method = 0;
  scope = record { objects = objects; ints = 4; loops = 0; calls = 0 };
}

-- no class
abbrev bare : Posed
bare = posed [] [] 1

-- class N { nullable N next; }
abbrev nodes : ℕ → Posed
nodes = posed (record { name = []; fields = 0 ∷ []; methods = []; invariants = [] } ∷ []) (record { name = []; class = 0; kind = Ref 0; nullable = true } ∷ [])

abbrev node : Value → Object
node next = record { class = 0; cells = next ∷ [] }

abbrev state : List Value → List Object → DynState
state vars objects = record { vars = vars; objects = objects }

-- ## vars i int one int three int b boolean
-- do seq test a true const one 1 const three 3 star sum i i one end below b i three end post b,
-- where the parameter a is variable 0 and the receiver variable 1
abbrev count : Prog
count =
    q.Seq
    (q.Test 0 true ∷ q.Act (Const 3 (v.Num (pos 1))) ∷ q.Act (Const 4 (v.Num (pos 3))) ∷ q.Star (q.Act (Sum 2 2 3)) ∷ q.Act (Below 5 2 4) ∷ [])

abbrev begins : Bool → DynState
begins a = state (v.Flag a ∷ v.Null ∷ v.Num (pos 0) ∷ v.Num (pos 0) ∷ v.Num (pos 0) ∷ v.Flag false ∷ []) []

abbrev counted : ℤ → Bool → DynState
counted i b = state (v.Flag true ∷ v.Null ∷ v.Num i ∷ v.Num (pos 1) ∷ v.Num (pos 3) ∷ v.Flag b ∷ []) []

-- after at most two turns i is below three, after three it is not
two_turns : ends bare 2 count (begins true) ≡ counted (pos 0) true ∷ counted (pos 1) true ∷ counted (pos 2) true ∷ []
two_turns = simp ends_forms refl

three_turns : ends bare 3 count (begins true) ≡ counted (pos 0) true ∷ counted (pos 1) true ∷ counted (pos 2) true ∷ counted (pos 3) false ∷ []
three_turns = simp ends_forms refl

-- from `a` false there is no run
not_begun : ends bare 3 count (begins false) ≡ []
not_begun = simp ends_forms refl

count_kinded : is_kinded bare (Flag ∷ Int ∷ Int ∷ Int ∷ Int ∷ Flag ∷ []) count ≡ true
count_kinded = simp kinded_forms refl

-- ## vars b boolean x N do seq make x N same b x this end post b, where the receiver is variable 0; b
-- begins as true, so that it is seen to be set
abbrev fresh : Prog
fresh = q.Seq (q.Act (Make 2 0) ∷ q.Act (Same 1 2 0) ∷ [])

abbrev alone : DynState
alone = state (v.Obj 0 ∷ v.Flag true ∷ v.Null ∷ []) (node v.Null ∷ [])

-- one object leaves no room, and the new one of two is another
no_room : ends (nodes 1) 3 fresh alone ≡ []
no_room = simp ends_forms refl

fresh_is_another : ends (nodes 2) 3 fresh alone ≡ state (v.Obj 0 ∷ v.Flag false ∷ v.Obj 1 ∷ []) (node v.Null ∷ node v.Null ∷ []) ∷ []
fresh_is_another = simp ends_forms refl

fresh_kinded : is_kinded (nodes 2) (Ref 0 ∷ Flag ∷ Ref 0 ∷ []) fresh ≡ true
fresh_kinded = simp kinded_forms refl

-- ## the empty forms
no_branch : ends bare 3 (q.Choice []) (begins true) ≡ []
no_branch = simp ends_forms refl

no_part : ends bare 3 (q.Seq []) (begins true) ≡ begins true ∷ []
no_part = simp ends_forms refl

-- ## actions without a following state: 7 + 1 in 4 bits, a read of null, a write through null, a constant that is
-- an object or leaves 4 bits
sum_leaves : ends bare 3 (q.Act (Sum 0 0 1)) (state (v.Num (pos 7) ∷ v.Num (pos 1) ∷ []) []) ≡ []
sum_leaves = simp ends_forms refl

null_read : ends (nodes 2) 3 (q.Act (Read 0 0 0)) (state (v.Null ∷ []) []) ≡ []
null_read = simp ends_forms refl

null_written : ends (nodes 2) 3 (q.Act (Write 0 0 0)) (state (v.Null ∷ []) []) ≡ []
null_written = simp ends_forms refl

no_object_named : ends (nodes 2) 3 (q.Act (Const 0 (v.Obj 0))) alone ≡ []
no_object_named = simp ends_forms refl

eight : ends bare 3 (q.Act (Const 0 (v.Num (pos 8)))) (begins true) ≡ []
eight = simp ends_forms refl

-- ## a variable that the list lacks is null, and one that is set fills up with null
filled_up : ends bare 3 (q.Act (Copy 2 9)) (state (v.Flag true ∷ []) []) ≡ state (v.Flag true ∷ v.Null ∷ v.Null ∷ []) [] ∷ []
filled_up = simp ends_forms refl

-- the next of a node, set to itself and read
written_and_read : ends (nodes 2) 3 (q.Seq (q.Act (Write 0 0 0) ∷ q.Act (Read 1 0 0) ∷ [])) alone ≡ state (v.Obj 0 ∷ v.Obj 0 ∷ v.Null ∷ []) (node (v.Obj 0) ∷ []) ∷ []
written_and_read = simp ends_forms refl

-- ## kinds: one kind on both sides of a copy and of a comparison, null of every class, the class of a field, and none
-- for a variable without a kind
of_one_kind : is_kinded (nodes 2) (Int ∷ Flag ∷ Ref 0 ∷ []) (q.Act (Copy 0 1)) ≡ false
of_one_kind = simp kinded_forms refl

null_fits : is_kinded (nodes 2) (Int ∷ Flag ∷ Ref 0 ∷ []) (q.Star (q.Seq (q.Act (Const 2 v.Null) ∷ q.Act (Same 1 2 2) ∷ []))) ≡ true
null_fits = simp kinded_forms refl

null_is_no_number : is_kinded (nodes 2) (Int ∷ Flag ∷ Ref 0 ∷ []) (q.Act (Const 0 v.Null)) ≡ false
null_is_no_number = simp kinded_forms refl

of_its_class : is_kinded (nodes 2) (Ref 1 ∷ Ref 0 ∷ []) (q.Act (Read 1 0 0)) ≡ false
of_its_class = simp kinded_forms refl

without_kind : is_kinded (nodes 2) [] (q.Act (Copy 0 0)) ≡ false
without_kind = simp kinded_forms refl

-- a state that has the kinds: @0 with no next, in a variable of its class
alone_has_kinds : HasKinds (nodes 2) (Ref 0 ∷ Flag ∷ Ref 0 ∷ []) alone
alone_has_kinds = record { vars = each; objects_whole = refl; few_objects = omega arith }
  where
    each : (x : ℕ) (k : Kind) → slice_get (Ref 0 ∷ Flag ∷ Ref 0 ∷ []) x ≡ Some k → has_kind 4 alone.objects k (var_at alone.vars x) ≡ true
    each zero k at = subst (λ l. has_kind 4 alone.objects l (v.Obj 0) ≡ true) (some_same at) refl
    each (suc zero) k at = subst (λ l. has_kind 4 alone.objects l (v.Flag true) ≡ true) (some_same at) refl
    each (suc (suc zero)) k at = subst (λ l. has_kind 4 alone.objects l v.Null ≡ true) (some_same at) refl
    each (suc (suc (suc x))) k at = absurd (none_some at)

-- ## iterations written out: an inner one in each turn of the outer
abbrev turn : Prog
turn = q.Act (Sum 0 0 1)

abbrev once : Prog
once = q.Choice (q.Seq [] ∷ q.Seq (turn ∷ q.Seq [] ∷ []) ∷ [])

nested_once : unrolled 1 (q.Star (q.Seq (turn ∷ q.Star turn ∷ []))) ≡ q.Choice (q.Seq [] ∷ q.Seq (q.Seq (turn ∷ once ∷ []) ∷ q.Seq [] ∷ []) ∷ [])
nested_once = simp unrolled_forms refl

no_turn : unrolled 0 (q.Star turn) ≡ q.Seq []
no_turn = simp unrolled_forms refl
