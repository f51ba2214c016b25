-- Which relations a formula names, and with how many gates; new inputs. (This project's own.)
use Rattle.std.specs.Prelude.{◌≡◌, ℕ, ◌*◌, ◌<◌, ◌≤◌, ◌==◌, Bool, true, false, List, [], ◌∷◌, ◌++◌, length, map, flat_map, slice_get, Option, Some, None, IsTrue, All}
use Rattle.std.specs.List.{slice_index_or, list_all}
use Rattle.std.specs.Option.{option_map_or}
use Rattle.gate_core.specs.declared.circuit.Node.{Node}
use Rattle.gate_core.specs.declared.circuit.Node.TheVariants.{Input}
use Rattle.gate_core.specs.Circuit.{value, IsOf, Keeps, StandsAt}
use Rattle.gate_arith.specs.Numbers.{number}
use Rattle.heap_core.specs.Posed.{Posed}
use Rattle.rel_core.specs.declared.relation.RelVar.{RelVar}
use Rattle.rel_core.specs.declared.sets.RelExpr.{RelExpr, fold-RelExpr}
use Rattle.rel_core.specs.declared.sets.RelExpr.TheOpen.{RelExpr-F}
use Rattle.rel_core.specs.declared.numbers.NumExpr.{NumExpr, fold-NumExpr}
use Rattle.rel_core.specs.declared.numbers.NumExpr.TheOpen.{NumExpr-F}
use Rattle.rel_core.specs.declared.formula.Formula.{Formula, fold-Formula}
use Rattle.rel_core.specs.declared.formula.Formula.TheOpen.{Formula-F}
use Rattle.rel_core.specs.Reading.{Reading}
use Rattle.rel_core.specs.Uses.{IsOf as IsOfProblem, Kinds, Use, AsSet, AsNumber, AsFlag, AsClass, use_of, has_use, has_place, is_sorted_set, is_sorted_number, is_sorted}
use Rattle.rel_gates.specs.Shown.{Named, gates_of, is_named, width_of, gate_count, class_bits, row_bits, Agrees, HoldsOnly}

-- ## the relations that a formula uses, each with the number of gates that its use wants

abbrev pub Wanted : Type 0
Wanted = List (RelVar × ℕ)

-- a variable has one row, and every other relation one for each object
abbrev pub wanted_one : Posed → Use → RelVar → RelVar × ℕ
wanted_one p u r = (r, width_of p u)

abbrev pub wanted_each : Posed → Use → RelVar → RelVar × ℕ
wanted_each p u r = (r, p.scope.objects * width_of p u)

-- whichever it is
abbrev pub wanted_rows : Posed → Use → RelVar → RelVar × ℕ
wanted_rows p u r = (r, gate_count p u r)

abbrev pub set_uses_step : Posed → RelExpr-F Wanted → Wanted
set_uses_step p (RelExpr-F.Var r) = wanted_one p AsSet r ∷ []
set_uses_step p RelExpr-F.Nil = []
set_uses_step p (RelExpr-F.Object o) = []
set_uses_step p (RelExpr-F.Join e r) = e ++ wanted_each p AsSet r ∷ []
set_uses_step p (RelExpr-F.Reach e rs) = e ++ map (wanted_each p AsSet) rs

abbrev pub set_uses : Posed → RelExpr → Wanted
set_uses p = fold-RelExpr Wanted (set_uses_step p)

abbrev pub number_uses_step : Posed → NumExpr-F Wanted → Wanted
number_uses_step p (NumExpr-F.Const z) = []
number_uses_step p (NumExpr-F.Var r) = wanted_one p AsNumber r ∷ []
number_uses_step p (NumExpr-F.At e r) = set_uses p e ++ wanted_each p AsNumber r ∷ []
number_uses_step p (NumExpr-F.Sum a b) = a ++ b
number_uses_step p (NumExpr-F.Diff a b) = a ++ b
number_uses_step p (NumExpr-F.Product a b) = a ++ b
number_uses_step p (NumExpr-F.Count e) = set_uses p e

abbrev pub number_uses : Posed → NumExpr → Wanted
number_uses p = fold-NumExpr Wanted (number_uses_step p)

-- the use of a relation that is no variable
abbrev pub spread_use : Posed → RelVar → Option Use
spread_use p r = use_of p (λ x. None) r.what

abbrev pub changed_uses : Posed → RelVar → RelVar → RelVar → Use → Wanted
changed_uses p new given old u = wanted_each p u new ∷ wanted_rows p u given ∷ wanted_each p u old ∷ []

abbrev pub uses_step : Posed → Formula-F Wanted → Wanted
uses_step p (Formula-F.Const b) = []
uses_step p (Formula-F.Flag r) = wanted_one p AsFlag r ∷ []
uses_step p (Formula-F.FlagAt e r) = set_uses p e ++ wanted_each p AsFlag r ∷ []
uses_step p (Formula-F.Subset e f) = set_uses p e ++ set_uses p f
uses_step p (Formula-F.IsClass e c r) = set_uses p e ++ wanted_each p AsClass r ∷ []
uses_step p (Formula-F.SameNum a b) = number_uses p a ++ number_uses p b
uses_step p (Formula-F.BelowNum a b) = number_uses p a ++ number_uses p b
uses_step p (Formula-F.Fits a) = number_uses p a
uses_step p (Formula-F.Changed new e given old) = set_uses p e ++ option_map_or (changed_uses p new given old) (spread_use p new) []
uses_step p (Formula-F.Not f) = f
uses_step p (Formula-F.And fs) = flat_map (λ f. f) fs
uses_step p (Formula-F.Or fs) = flat_map (λ f. f) fs
uses_step p (Formula-F.Same f g) = f ++ g

abbrev pub uses : Posed → Formula → Wanted
uses p = fold-Formula Wanted (uses_step p)

-- the relation is named, with as many gates
abbrev pub is_named_for : Named → RelVar × ℕ → Bool
is_named_for es x = option_map_or (λ gates. length gates == x.1) (gates_of es x.0) false

abbrev pub are_named : Named → Wanted → Bool
are_named es xs = list_all (is_named_for es) xs

-- ## new inputs

-- the assignments agree on the nodes that stood
abbrev pub SameBefore : List Node → (ℕ → Bool) → (ℕ → Bool) → Type 0
SameBefore old before inputs = (place : ℕ) → place < length old → inputs place ≡ before place

-- an assignment that keeps what the nodes had that stood, under which so many gates have the wanted truth values
pub record ShowsAll (old new : List Node) (before wanted : ℕ → Bool) (count : ℕ) (gates : List ℕ) : Type 0 where
  pub inputs : ℕ → Bool
  pub same : SameBefore old before inputs
  pub values : (j : ℕ) → j < count → value inputs new (slice_index_or gates j 0) ≡ wanted j

-- an input that was not there before
pub record IsOwn (old new : List Node) (gate : ℕ) : Type 0 where
  pub place : ℕ
  pub is : gate ≡ 2 * place
  pub input : StandsAt new Input place
  pub fresh : length old ≤ place

-- a gate of the circuit that is always false
pub record IsConstant (nodes : List Node) (gate : ℕ) : Type 0 where
  pub of : IsOf nodes gate
  pub value_is : (inputs : ℕ → Bool) → value inputs nodes gate ≡ false

-- so many gates: each is false where its place is not free, and else an input that was not there before
pub record AreInputs (old new : List Node) (count : ℕ) (free : ℕ → Bool) (gates : List ℕ) : Type 0 where
  pub keeps : Keeps old new
  pub of : All (IsOf new) gates
  pub wide : length gates ≡ count
  pub constant : (j : ℕ) → j < count → free j ≡ false → slice_index_or gates j 0 ≡ 0
  pub own : (j : ℕ) → j < count → free j ≡ true → IsOwn old new (slice_index_or gates j 0)
  pub apart : (i j : ℕ) → i < j → j < count → free i ≡ true → free j ≡ true → slice_index_or gates i 0 < slice_index_or gates j 0
  -- every choice of truth values, false where a place is not free, is shown, whatever the nodes had that stood
  pub shown : (before wanted : ℕ → Bool) → ((j : ℕ) → j < count → free j ≡ false → wanted j ≡ false) → ShowsAll old new before wanted count gates

-- ## readings that are shown

-- the reading is one of the problem, and its start holds only tuples of the set
pub record IsWithin (p : Posed) (kinds : Kinds) (upper : List ℕ) (m : Reading) : Type 0 where
  pub of_problem : IsOfProblem p kinds m
  pub tuples : HoldsOnly p upper m

-- an assignment that keeps what the nodes had that stood, under which the gates show the reading
pub record IsShown (p : Posed) (kinds : Kinds) (old new : List Node) (es : Named) (before : ℕ → Bool) (m : Reading) : Type 0 where
  pub inputs : ℕ → Bool
  pub same : SameBefore old before inputs
  pub agrees : Agrees p kinds (value inputs new) es m

-- the use is by these kinds
abbrev pub FitsUse : Posed → Kinds → RelVar × ℕ → Type 0
FitsUse p kinds x = (u : Use) × IsTrue (has_use p kinds u x.0.what) × (x.1 ≡ gate_count p u x.0)

-- the uses are by these kinds
abbrev pub FitUses : Posed → Kinds → Wanted → Type 0
FitUses p kinds uses =
    (i : ℕ) (x : RelVar × ℕ) → slice_get uses i ≡ Some x → FitsUse p kinds x

-- the gates of named relations stand, and each reading of the problem that holds only tuples of the set is shown
pub record AreNamed (p : Posed) (kinds : Kinds) (upper : List ℕ) (old new : List Node) (es : Named) : Type 0 where
  pub of : (r : RelVar) (gates : List ℕ) → gates_of es r ≡ Some gates → All (IsOf new) gates
  pub shown : (m : Reading) (before : ℕ → Bool) → IsWithin p kinds upper m → IsShown p kinds old new es before m

-- a relation is named already, and nothing changes, or it is named by so many new inputs
pub data Names (old new : List Node) (es fs : Named) (r : RelVar) (count : ℕ) : Type 0 where
  Stays : IsTrue (is_named es r) → new ≡ old → fs ≡ es → Names old new es fs r count
  Grows : (gates : List ℕ) → gates_of es r ≡ None → fs ≡ es ++ (r, gates) ∷ [] → AreInputs old new count (λ j. true) gates → Names old new es fs r count

-- no relation is named twice
abbrev pub IsOnce : Named → Type 0
IsOnce es = (i : ℕ) (e : RelVar × List ℕ) → slice_get es i ≡ Some e → gates_of es e.0 ≡ Some e.1

-- ## the naming of all relations

-- each named relation has as many gates as its use wants
abbrev pub Counted : Posed → Kinds → Named → Type 0
Counted p kinds es =
    (r : RelVar) (gates : List ℕ) → gates_of es r ≡ Some gates → (u : Use) → IsTrue (has_use p kinds u r.what) → length gates ≡ gate_count p u r

-- how far the naming has come, from a circuit on
pub record IsNaming (p : Posed) (kinds : Kinds) (upper : List ℕ) (old new : List Node) (es : Named) : Type 0 where
  pub named : AreNamed p kinds upper old new es
  pub counted : Counted p kinds es
  pub some : IsOf new 0
  pub longer : length old ≤ length new

-- numbers have a sign and more, and class numbers have four bits at most
pub record IsSmall (p : Posed) : Type 0 where
  pub ints : 2 ≤ p.scope.ints
  pub some_class : 1 ≤ length p.unit.classes
  pub classes : length p.unit.classes ≤ 16

-- the first uses of a list are named, and what was named still is
pub record NamesFirst (before after : List Node) (es fs : Named) (wanted : Wanted) (count : ℕ) : Type 0 where
  pub goes_on : (p : Posed) (kinds : Kinds) (upper : List ℕ) (old : List Node) → IsSmall p → FitUses p kinds wanted → IsNaming p kinds upper old before es
      → IsNaming p kinds upper old after fs
  pub there : (p : Posed) (kinds : Kinds) (upper : List ℕ) (old : List Node) → IsSmall p → FitUses p kinds wanted → IsNaming p kinds upper old before es
      → (i : ℕ) (x : RelVar × ℕ) → i < count → slice_get wanted i ≡ Some x → IsTrue (is_named_for fs x)
  pub stays : (x : RelVar × ℕ) → IsTrue (is_named_for es x) → IsTrue (is_named_for fs x)

-- the uses of a set are by the kinds by which it is sorted
abbrev pub SetFits : Posed → RelExpr → Type 0
SetFits p e = (kinds : Kinds) → IsTrue (is_sorted_set p kinds e) → FitUses p kinds (set_uses p e)

-- the uses of a number are by the kinds by which it is sorted
abbrev pub NumberFits : Posed → NumExpr → Type 0
NumberFits p e = (kinds : Kinds) → IsTrue (is_sorted_number p kinds e) → FitUses p kinds (number_uses p e)

-- the uses of a formula are by the kinds by which it is sorted
abbrev pub FormulaFits : Posed → Formula → Type 0
FormulaFits p f = (kinds : Kinds) → IsTrue (is_sorted p kinds f) → FitUses p kinds (uses p f)

-- those of all parts of a formula
abbrev pub PartsFit : Posed → List Formula → Type 0
PartsFit p fs = (kinds : Kinds) → IsTrue (list_all (is_sorted p kinds) fs) → FitUses p kinds (flat_map (uses p) fs)

-- no class number that is shown is too large
abbrev pub ClassesFit : Posed → Kinds → (ℕ → Bool) → Named → Type 0
ClassesFit p kinds truth es =
    (r : RelVar) (gates : List ℕ) → gates_of es r ≡ Some gates → (o : ℕ) → IsTrue (has_place p kinds AsClass r o)
    → number (row_bits truth (class_bits p) gates o) < length p.unit.classes
