-- Steps whose kinds fit, whatever kinds stand behind the greatest variable that they name.
use Rattle.std.proofs.Common.{◌≡◌, ℕ, ◌≤◌, true, false, List, [], ◌∷◌, ◌++◌, Some, refl, ap, subst, arith}
use Rattle.std.specs.Prelude.{map, max, slice_get}
use Rattle.std.specs.List.{list_all}
use Rattle.std.proofs.Math.Nat.{le-max_left, le-max_right, max-le}
use Rattle.std.proofs.lemmas.Bool.{eq-eqb}
use Rattle.std.proofs.lemmas.List.Folds.{list_all-append}
use Rattle.taco_unit.specs.declared.kind.Kind.{Kind}
use Rattle.taco_unit.specs.declared.kind.Kind.TheVariants.{Int, Flag, Ref}
use Rattle.taco_unit.specs.declared.unit.FieldDef.{FieldDef}
use Rattle.taco_unit.specs.Kinds.{same_kind}
use Rattle.heap_core.specs.Posed.{Posed}
use Rattle.dyn_core.specs.declared.prog.Act.{Act}
use Rattle.dyn_core.specs.declared.prog.Act.TheVariants.{Copy, Const, Sum, Diff, Product, Same, Below, Read, Write, Make}
use Rattle.dyn_core.specs.declared.prog.Prog.{Prog}
use Rattle.dyn_core.specs.declared.prog.Prog.TheVariants as q
use Rattle.dyn_core.specs.Kinds.{is_var, are_alike, takes_constant, fit_field, are_numbers, is_kinded_act, is_kinded}
use Rattle.dyn_core.proofs.Forms.{kinded_act, kinded_test, kinded_seq, kinded_choice, kinded_star}
use Rattle.dyn_plan.specs.declared.plan.Plan.{Plan, fold-Plan}
use Rattle.dyn_plan.specs.declared.plan.Plan.TheVariants as l
use Rattle.dyn_plan.specs.Programs.{program_of_step}
use Rattle.dyn_plan.specs.Whole.{greatest_of_act, greatest_step, greatest}
use Rattle.dyn_plan.proofs.PlanForms.{program_do, program_fail, program_if, program_while}
use Rattle.dyn_plan.proofs.LowForms.{greatest_do, greatest_if, greatest_while}

-- kinds that tell of each variable up to m what K tells of it
abbrev pub Knows : (ℕ → Kind → Type 0) → List Kind → ℕ → Type 0
Knows K kinds m = (x : ℕ) (k : Kind) → K x k → x ≤ m → slice_get kinds x ≡ Some k

knows_less : (K : ℕ → Kind → Type 0) (kinds : List Kind) (m n : ℕ) → n ≤ m → Knows K kinds m → Knows K kinds n
knows_less K kinds m n less knows x k is low = knows x k is (omega arith)

-- steps fit, where the variables have the kinds of K
pub record Fit (p : Posed) (K : ℕ → Kind → Type 0) (steps : List Plan) : Type 0 where
  pub kinded : (kinds : List Kind) → Knows K kinds (greatest steps) → list_all (is_kinded p kinds) (map program_of_step steps) ≡ true

-- ## actions

-- the two variables of a field
pub record FieldSpots (p : Posed) (K : ℕ → Kind → Type 0) (f x y : ℕ) : Type 0 where
  pub declared : FieldDef
  pub there : slice_get p.unit.fields f ≡ Some declared
  pub object : K x (Ref declared.class)
  pub value : K y declared.kind

abbrev pub FitAct : Posed → (ℕ → Kind → Type 0) → Act → Type 0
FitAct p K (Copy x y) = (k : Kind) × K x k × K y k
FitAct p K (Const x c) = (k : Kind) × K x k × (takes_constant c k ≡ true)
FitAct p K (Sum x y z) = K x Int × K y Int × K z Int
FitAct p K (Diff x y z) = K x Int × K y Int × K z Int
FitAct p K (Product x y z) = K x Int × K y Int × K z Int
FitAct p K (Same x y z) = K x Flag × ((k : Kind) × K y k × K z k)
FitAct p K (Below x y z) = K x Flag × K y Int × K z Int
FitAct p K (Read x y f) = FieldSpots p K f y x
FitAct p K (Write x f y) = FieldSpots p K f x y
FitAct p K (Make x c) = K x (Ref c)

same_itself : (k : Kind) → same_kind k k ≡ true
same_itself Int = refl
same_itself Flag = refl
same_itself (Ref c) = eq-eqb c c refl

is_known : (kinds : List Kind) (x : ℕ) (k : Kind) → slice_get kinds x ≡ Some k → is_var kinds x k ≡ true
is_known kinds x k is = rw is (same_itself k)

alike_known : (kinds : List Kind) (x y : ℕ) (k : Kind) → slice_get kinds x ≡ Some k → slice_get kinds y ≡ Some k → are_alike kinds x y ≡ true
alike_known kinds x y k first second = rw second (is_known kinds x k first)

numbers_known : (kinds : List Kind) (x y z : ℕ) (k : Kind) → slice_get kinds x ≡ Some k → slice_get kinds y ≡ Some Int → slice_get kinds z ≡ Some Int → are_numbers kinds x k y z ≡ true
numbers_known kinds x y z k a b c = rw (is_known kinds x k a, is_known kinds y Int b, is_known kinds z Int c) refl

field_known : (p : Posed) (K : ℕ → Kind → Type 0) (kinds : List Kind) (f x y m : ℕ) → FieldSpots p K f x y → Knows K kinds m → x ≤ m → y ≤ m → fit_field p.unit kinds f x y ≡ true
field_known p K kinds f x y m spots knows low below =
    let d = spots.declared in
    rw spots.there (rw (is_known kinds x (Ref d.class) (knows x (Ref d.class) spots.object low), is_known kinds y d.kind (knows y d.kind spots.value below)) refl)

low_of : (x y z : ℕ) → (x ≤ max x (max y z)) × (y ≤ max x (max y z)) × (z ≤ max x (max y z))
low_of x y z =
    let a = le-max_left x (max y z) in
    let b = le-max_right x (max y z) in
    let c = le-max_left y z in
    let d = le-max_right y z in
    (a, omega arith, omega arith)

numbers_fit : (K : ℕ → Kind → Type 0) (kinds : List Kind) (x y z : ℕ) (k : Kind) → K x k → K y Int → K z Int → Knows K kinds (max x (max y z)) → are_numbers kinds x k y z ≡ true
numbers_fit K kinds x y z k a b c knows =
    let low = low_of x y z in
    numbers_known kinds x y z k (knows x k a low.0) (knows y Int b low.1) (knows z Int c low.2)

pub act_fits : (p : Posed) (K : ℕ → Kind → Type 0) (a : Act) → FitAct p K a → (kinds : List Kind) → Knows K kinds (greatest_of_act a) → is_kinded_act p kinds a ≡ true
act_fits p K (Copy x y) fit kinds knows = alike_known kinds x y fit.0 (knows x fit.0 fit.1 (le-max_left x y)) (knows y fit.0 fit.2 (le-max_right x y))
act_fits p K (Const x c) fit kinds knows = rw (knows x fit.0 fit.1 (omega arith)) fit.2
act_fits p K (Sum x y z) fit kinds knows = numbers_fit K kinds x y z Int fit.0 fit.1 fit.2 knows
act_fits p K (Diff x y z) fit kinds knows = numbers_fit K kinds x y z Int fit.0 fit.1 fit.2 knows
act_fits p K (Product x y z) fit kinds knows = numbers_fit K kinds x y z Int fit.0 fit.1 fit.2 knows
act_fits p K (Same x y z) fit kinds knows =
    let low = low_of x y z in
    let pair = fit.1 in
    let k = pair.0 in
    rw (is_known kinds x Flag (knows x Flag fit.0 low.0), alike_known kinds y z k (knows y k pair.1 low.1) (knows z k pair.2 low.2)) refl
act_fits p K (Below x y z) fit kinds knows = numbers_fit K kinds x y z Flag fit.0 fit.1 fit.2 knows
act_fits p K (Read x y f) fit kinds knows = field_known p K kinds f y x (max x y) fit knows (le-max_right x y) (le-max_left x y)
act_fits p K (Write x f y) fit kinds knows = field_known p K kinds f x y (max x y) fit knows (le-max_left x y) (le-max_right x y)
act_fits p K (Make x c) fit kinds knows = is_known kinds x (Ref c) (knows x (Ref c) fit (omega arith))

-- ## steps

greatest_left : (xs ys : List Plan) → greatest xs ≤ greatest (xs ++ ys)
greatest_left [] ys = omega arith
greatest_left (x ∷ xs) ys =
    let m : ℕ = fold-Plan ℕ greatest_step x in
    let rest = greatest_left xs ys in
    let a = le-max_left m (greatest (xs ++ ys)) in
    let b = le-max_right m (greatest (xs ++ ys)) in
    max-le a (omega arith)

greatest_right : (xs ys : List Plan) → greatest ys ≤ greatest (xs ++ ys)
greatest_right [] ys = omega arith
greatest_right (x ∷ xs) ys =
    let m : ℕ = fold-Plan ℕ greatest_step x in
    let rest = greatest_right xs ys in
    let b = le-max_right m (greatest (xs ++ ys)) in
    omega arith

pub fit_none : (p : Posed) (K : ℕ → Kind → Type 0) → Fit p K []
fit_none p K = record { kinded = λ kinds knows. refl }

map_append : (xs ys : List Plan) → map program_of_step (xs ++ ys) ≡ map program_of_step xs ++ map program_of_step ys
map_append [] ys = refl
map_append (x ∷ xs) ys = ap (λ zs. program_of_step x ∷ zs) (map_append xs ys)

pub fit_append : (p : Posed) (K : ℕ → Kind → Type 0) (xs ys : List Plan) → Fit p K xs → Fit p K ys → Fit p K (xs ++ ys)
fit_append p K xs ys first second = record {
  kinded = λ kinds knows.
      let a = first.kinded kinds (knows_less K kinds (greatest (xs ++ ys)) (greatest xs) (greatest_left xs ys) knows) in
      let b = second.kinded kinds (knows_less K kinds (greatest (xs ++ ys)) (greatest ys) (greatest_right xs ys) knows) in
      rw (map_append xs ys, list_all-append (is_kinded p kinds) (map program_of_step xs) (map program_of_step ys), a, b) refl;
}

-- one step
alone : (p : Posed) (K : ℕ → Kind → Type 0) (x : Plan) → ((kinds : List Kind) → Knows K kinds (fold-Plan ℕ greatest_step x) → is_kinded p kinds (program_of_step x) ≡ true) → Fit p K (x ∷ [])
alone p K x fits = record {
  kinded = λ kinds knows. rw (fits kinds (knows_less K kinds (max (fold-Plan ℕ greatest_step x) 0) (fold-Plan ℕ greatest_step x) (le-max_left (fold-Plan ℕ greatest_step x) 0) knows)) refl;
}

pub fit_do : (p : Posed) (K : ℕ → Kind → Type 0) (a : Act) → FitAct p K a → Fit p K (l.Do a ∷ [])
fit_do p K a fit =
    alone p K (l.Do a) (λ kinds knows. rw (program_do a, kinded_act p kinds a) (act_fits p K a fit kinds (subst (Knows K kinds) (greatest_do a) knows)))

pub fit_fail : (p : Posed) (K : ℕ → Kind → Type 0) → Fit p K (l.Fail ∷ [])
fit_fail p K = alone p K l.Fail (λ kinds knows. rw (program_fail, kinded_choice p kinds []) refl)

pub fit_if : (p : Posed) (K : ℕ → Kind → Type 0) (x : ℕ) (taken other : List Plan) → K x Flag → Fit p K taken → Fit p K other → Fit p K (l.If x taken other ∷ [])
fit_if p K x taken other flag first second = alone p K (l.If x taken other) (λ kinds knows.
    let m : ℕ = max x (max (greatest taken) (greatest other)) in
    let known : Knows K kinds m = subst (Knows K kinds) (greatest_if x taken other) knows in
    let low = low_of x (greatest taken) (greatest other) in
    let test = is_known kinds x Flag (known x Flag flag low.0) in
    let a = first.kinded kinds (knows_less K kinds m (greatest taken) low.1 known) in
    let b = second.kinded kinds (knows_less K kinds m (greatest other) low.2 known) in
    let xs : List Prog = q.Test x true ∷ map program_of_step taken in
    let ys : List Prog = q.Test x false ∷ map program_of_step other in
    rw (
      program_if x taken other,
      kinded_choice p kinds
          (q.Seq xs ∷ q.Seq ys ∷ []),
      kinded_seq p kinds xs,
      kinded_seq p kinds ys,
      kinded_test p kinds x true,
      kinded_test p kinds x false,
      test,
      a,
      b,
    ) refl)

pub fit_while : (p : Posed) (K : ℕ → Kind → Type 0) (x : ℕ) (body : List Plan) → K x Flag → Fit p K body → Fit p K (l.While x body ∷ [])
fit_while p K x body flag first = alone p K (l.While x body) (λ kinds knows.
    let m : ℕ = max x (greatest body) in
    let known : Knows K kinds m = subst (Knows K kinds) (greatest_while x body) knows in
    let test = is_known kinds x Flag (known x Flag flag (le-max_left x (greatest body))) in
    let a = first.kinded kinds (knows_less K kinds m (greatest body) (le-max_right x (greatest body)) known) in
    let xs : List Prog = q.Test x true ∷ map program_of_step body in
    let turn : Prog = q.Star (q.Seq xs) in
    rw (
      program_while x body,
      kinded_seq p kinds (turn ∷ q.Test x false ∷ []),
      kinded_star p kinds (q.Seq xs),
      kinded_seq p kinds xs,
      kinded_test p kinds x true,
      kinded_test p kinds x false,
      test,
      a,
    ) refl)
