-- One equation for each form of a set, a number and a formula: what it means, and when it is sorted.
use Rattle.std.proofs.Common.{◌≡◌, ℕ, List, [], ◌∷◌, ◌||◌, map, Option, Some, None, refl, ap}
use Rattle.std.specs.Prelude.{ℤ, pos, ◌+ℤ◌, ◌-ℤ◌, ◌*ℤ◌, int_lt, nat_lt, Bool, true, false, not, ◌&&◌, count_by, is_some}
use Rattle.std.specs.Ordering.{int_eq}
use Rattle.std.specs.List.{list_all, list_any}
use Rattle.std.specs.Option.{option_map_or}
use Rattle.std.proofs.lemmas.List.Folds.{list_all-map}
use Rattle.heap_core.specs.Outcomes.{is_null, is_object, same_flag}
use Rattle.heap_core.specs.Posed.{Posed}
use Rattle.rel_core.specs.declared.relation.RelVar.{RelVar}
use Rattle.rel_core.specs.declared.sets.RelExpr.{RelExpr, fold_out-RelExpr}
use Rattle.rel_core.specs.declared.sets.RelExpr.TheVariants as s
use Rattle.rel_core.specs.declared.numbers.NumExpr.{NumExpr, fold_out-NumExpr}
use Rattle.rel_core.specs.declared.numbers.NumExpr.TheVariants as n
use Rattle.rel_core.specs.declared.formula.Formula.{Formula, fold_out-Formula}
use Rattle.rel_core.specs.declared.formula.Formula.TheVariants as f
use Rattle.rel_core.specs.Reading.{Reading, numbers_below}
use Rattle.rel_core.specs.Meaning.{ValueSet, has_object, objects_only, joined, reached_from, step_set, set_of, only_object, fitting, with_both, step_number, number_of, is_subset, are_of, is_changed, step_formula, holds}
use Rattle.rel_core.specs.Uses.{Kinds, AsSet, AsNumber, AsFlag, AsClass, is_variable, is_spread, sorted_set_step, is_sorted_set, sorted_number_step, is_sorted_number, can_change, sorted_step, is_sorted}

list_any-map : {X Y : Type 0} (p : X → Bool) (h : Y → X) (ys : List Y) → list_any p (map h ys) ≡ list_any (λ y. p (h y)) ys
list_any-map p h [] = refl
list_any-map p h (y ∷ ys) = ap (λ b. p (h y) || b) (list_any-map p h ys)

pub set_var : (r : RelVar) (m : Reading) → set_of (s.Var r) m ≡ m.refs r 0
set_var r m = rw (fold_out-RelExpr (Reading → ValueSet) step_set (s.Var r), s.outs-Var r) refl

pub set_nil : (m : Reading) → set_of s.Nil m ≡ is_null
set_nil m = rw (fold_out-RelExpr (Reading → ValueSet) step_set s.Nil, s.outs-Nil) refl

pub set_object : (o : ℕ) (m : Reading) → set_of (s.Object o) m ≡ is_object o
set_object o m = rw (fold_out-RelExpr (Reading → ValueSet) step_set (s.Object o), s.outs-Object o) refl

pub set_join : (e : RelExpr) (r : RelVar) (m : Reading) → set_of (s.Join e r) m ≡ joined m (set_of e m) r
set_join e r m = rw (fold_out-RelExpr (Reading → ValueSet) step_set (s.Join e r), s.outs-Join e r) refl

pub set_reach : (e : RelExpr) (rs : List RelVar) (m : Reading) → set_of (s.Reach e rs) m ≡ objects_only (reached_from m rs (set_of e m))
set_reach e rs m = rw (fold_out-RelExpr (Reading → ValueSet) step_set (s.Reach e rs), s.outs-Reach e rs) refl

pub number_const : (z : ℤ) (m : Reading) → number_of (n.Const z) m ≡ fitting m.ints z
number_const z m = rw (fold_out-NumExpr (Reading → Option ℤ) step_number (n.Const z), n.outs-Const z) refl

pub number_var : (r : RelVar) (m : Reading) → number_of (n.Var r) m ≡ Some (m.number r 0)
number_var r m = rw (fold_out-NumExpr (Reading → Option ℤ) step_number (n.Var r), n.outs-Var r) refl

pub number_at : (e : RelExpr) (r : RelVar) (m : Reading) → number_of (n.At e r) m ≡ Some (option_map_or (m.number r) (only_object m (set_of e m)) (pos 0))
number_at e r m = rw (fold_out-NumExpr (Reading → Option ℤ) step_number (n.At e r), n.outs-At e r) refl

pub number_sum : (a b : NumExpr) (m : Reading) → number_of (n.Sum a b) m ≡ with_both (number_of a m) (number_of b m) (λ x y. fitting m.ints (x +ℤ y)) None
number_sum a b m = rw (fold_out-NumExpr (Reading → Option ℤ) step_number (n.Sum a b), n.outs-Sum a b) refl

pub number_diff : (a b : NumExpr) (m : Reading) → number_of (n.Diff a b) m ≡ with_both (number_of a m) (number_of b m) (λ x y. fitting m.ints (x -ℤ y)) None
number_diff a b m = rw (fold_out-NumExpr (Reading → Option ℤ) step_number (n.Diff a b), n.outs-Diff a b) refl

pub number_product : (a b : NumExpr) (m : Reading) → number_of (n.Product a b) m ≡ with_both (number_of a m) (number_of b m) (λ x y. fitting m.ints (x *ℤ y)) None
number_product a b m = rw (fold_out-NumExpr (Reading → Option ℤ) step_number (n.Product a b), n.outs-Product a b) refl

pub number_count : (e : RelExpr) (m : Reading) → number_of (n.Count e) m ≡ fitting m.ints (pos (count_by (has_object (set_of e m)) (numbers_below m.objects)))
number_count e m = rw (fold_out-NumExpr (Reading → Option ℤ) step_number (n.Count e), n.outs-Count e) refl

pub holds_const : (b : Bool) (m : Reading) → holds (f.Const b) m ≡ b
holds_const b m = rw (fold_out-Formula (Reading → Bool) step_formula (f.Const b), f.outs-Const b) refl

pub holds_flag : (r : RelVar) (m : Reading) → holds (f.Flag r) m ≡ m.flag r 0
holds_flag r m = rw (fold_out-Formula (Reading → Bool) step_formula (f.Flag r), f.outs-Flag r) refl

pub holds_flag_at : (e : RelExpr) (r : RelVar) (m : Reading) → holds (f.FlagAt e r) m ≡ option_map_or (m.flag r) (only_object m (set_of e m)) false
holds_flag_at e r m = rw (fold_out-Formula (Reading → Bool) step_formula (f.FlagAt e r), f.outs-FlagAt e r) refl

pub holds_subset : (d e : RelExpr) (m : Reading) → holds (f.Subset d e) m ≡ is_subset m (set_of d m) (set_of e m)
holds_subset d e m = rw (fold_out-Formula (Reading → Bool) step_formula (f.Subset d e), f.outs-Subset d e) refl

pub holds_is_class : (e : RelExpr) (c : ℕ) (r : RelVar) (m : Reading) → holds (f.IsClass e c r) m ≡ are_of m (set_of e m) c r
holds_is_class e c r m = rw (fold_out-Formula (Reading → Bool) step_formula (f.IsClass e c r), f.outs-IsClass e c r) refl

pub holds_same_number : (a b : NumExpr) (m : Reading) → holds (f.SameNum a b) m ≡ with_both (number_of a m) (number_of b m) int_eq false
holds_same_number a b m = rw (fold_out-Formula (Reading → Bool) step_formula (f.SameNum a b), f.outs-SameNum a b) refl

pub holds_below : (a b : NumExpr) (m : Reading) → holds (f.BelowNum a b) m ≡ with_both (number_of a m) (number_of b m) int_lt false
holds_below a b m = rw (fold_out-Formula (Reading → Bool) step_formula (f.BelowNum a b), f.outs-BelowNum a b) refl

pub holds_fits : (a : NumExpr) (m : Reading) → holds (f.Fits a) m ≡ is_some (number_of a m)
holds_fits a m = rw (fold_out-Formula (Reading → Bool) step_formula (f.Fits a), f.outs-Fits a) refl

pub holds_changed : (new : RelVar) (e : RelExpr) (given old : RelVar) (m : Reading) → holds (f.Changed new e given old) m ≡ is_changed m new (set_of e m) given old
holds_changed new e given old m = rw (fold_out-Formula (Reading → Bool) step_formula (f.Changed new e given old), f.outs-Changed new e given old) refl

pub holds_not : (a : Formula) (m : Reading) → holds (f.Not a) m ≡ not (holds a m)
holds_not a m = rw (fold_out-Formula (Reading → Bool) step_formula (f.Not a), f.outs-Not a) refl

pub holds_and : (fs : List Formula) (m : Reading) → holds (f.And fs) m ≡ list_all (λ a. holds a m) fs
holds_and fs m = rw (fold_out-Formula (Reading → Bool) step_formula (f.And fs), f.outs-And fs) (list_all-map (λ (b : Reading → Bool). b m) holds fs)

pub holds_or : (fs : List Formula) (m : Reading) → holds (f.Or fs) m ≡ list_any (λ a. holds a m) fs
holds_or fs m = rw (fold_out-Formula (Reading → Bool) step_formula (f.Or fs), f.outs-Or fs) (list_any-map (λ (b : Reading → Bool). b m) holds fs)

pub holds_same : (a b : Formula) (m : Reading) → holds (f.Same a b) m ≡ same_flag (holds a m) (holds b m)
holds_same a b m = rw (fold_out-Formula (Reading → Bool) step_formula (f.Same a b), f.outs-Same a b) refl

pub sorted_set_var : (p : Posed) (kinds : Kinds) (r : RelVar) → is_sorted_set p kinds (s.Var r) ≡ is_variable p kinds AsSet r
sorted_set_var p kinds r = rw (fold_out-RelExpr Bool (sorted_set_step p kinds) (s.Var r), s.outs-Var r) refl

pub sorted_set_nil : (p : Posed) (kinds : Kinds) → is_sorted_set p kinds s.Nil ≡ true
sorted_set_nil p kinds = rw (fold_out-RelExpr Bool (sorted_set_step p kinds) s.Nil, s.outs-Nil) refl

pub sorted_set_object : (p : Posed) (kinds : Kinds) (o : ℕ) → is_sorted_set p kinds (s.Object o) ≡ nat_lt o p.scope.objects
sorted_set_object p kinds o = rw (fold_out-RelExpr Bool (sorted_set_step p kinds) (s.Object o), s.outs-Object o) refl

pub sorted_set_join : (p : Posed) (kinds : Kinds) (e : RelExpr) (r : RelVar) → is_sorted_set p kinds (s.Join e r) ≡ (is_sorted_set p kinds e && is_spread p kinds AsSet r)
sorted_set_join p kinds e r = rw (fold_out-RelExpr Bool (sorted_set_step p kinds) (s.Join e r), s.outs-Join e r) refl

pub sorted_set_reach : (p : Posed) (kinds : Kinds) (e : RelExpr) (rs : List RelVar) → is_sorted_set p kinds (s.Reach e rs) ≡ (is_sorted_set p kinds e && list_all (is_spread p kinds AsSet) rs)
sorted_set_reach p kinds e rs = rw (fold_out-RelExpr Bool (sorted_set_step p kinds) (s.Reach e rs), s.outs-Reach e rs) refl

pub sorted_number_const : (p : Posed) (kinds : Kinds) (z : ℤ) → is_sorted_number p kinds (n.Const z) ≡ true
sorted_number_const p kinds z = rw (fold_out-NumExpr Bool (sorted_number_step p kinds) (n.Const z), n.outs-Const z) refl

pub sorted_number_var : (p : Posed) (kinds : Kinds) (r : RelVar) → is_sorted_number p kinds (n.Var r) ≡ is_variable p kinds AsNumber r
sorted_number_var p kinds r = rw (fold_out-NumExpr Bool (sorted_number_step p kinds) (n.Var r), n.outs-Var r) refl

pub sorted_number_at : (p : Posed) (kinds : Kinds) (e : RelExpr) (r : RelVar) → is_sorted_number p kinds (n.At e r) ≡ (is_sorted_set p kinds e && is_spread p kinds AsNumber r)
sorted_number_at p kinds e r = rw (fold_out-NumExpr Bool (sorted_number_step p kinds) (n.At e r), n.outs-At e r) refl

pub sorted_number_sum : (p : Posed) (kinds : Kinds) (a b : NumExpr) → is_sorted_number p kinds (n.Sum a b) ≡ (is_sorted_number p kinds a && is_sorted_number p kinds b)
sorted_number_sum p kinds a b = rw (fold_out-NumExpr Bool (sorted_number_step p kinds) (n.Sum a b), n.outs-Sum a b) refl

pub sorted_number_diff : (p : Posed) (kinds : Kinds) (a b : NumExpr) → is_sorted_number p kinds (n.Diff a b) ≡ (is_sorted_number p kinds a && is_sorted_number p kinds b)
sorted_number_diff p kinds a b = rw (fold_out-NumExpr Bool (sorted_number_step p kinds) (n.Diff a b), n.outs-Diff a b) refl

pub sorted_number_product : (p : Posed) (kinds : Kinds) (a b : NumExpr) → is_sorted_number p kinds (n.Product a b) ≡ (is_sorted_number p kinds a && is_sorted_number p kinds b)
sorted_number_product p kinds a b = rw (fold_out-NumExpr Bool (sorted_number_step p kinds) (n.Product a b), n.outs-Product a b) refl

pub sorted_number_count : (p : Posed) (kinds : Kinds) (e : RelExpr) → is_sorted_number p kinds (n.Count e) ≡ is_sorted_set p kinds e
sorted_number_count p kinds e = rw (fold_out-NumExpr Bool (sorted_number_step p kinds) (n.Count e), n.outs-Count e) refl

pub sorted_const : (p : Posed) (kinds : Kinds) (b : Bool) → is_sorted p kinds (f.Const b) ≡ true
sorted_const p kinds b = rw (fold_out-Formula Bool (sorted_step p kinds) (f.Const b), f.outs-Const b) refl

pub sorted_flag : (p : Posed) (kinds : Kinds) (r : RelVar) → is_sorted p kinds (f.Flag r) ≡ is_variable p kinds AsFlag r
sorted_flag p kinds r = rw (fold_out-Formula Bool (sorted_step p kinds) (f.Flag r), f.outs-Flag r) refl

pub sorted_flag_at : (p : Posed) (kinds : Kinds) (e : RelExpr) (r : RelVar) → is_sorted p kinds (f.FlagAt e r) ≡ (is_sorted_set p kinds e && is_spread p kinds AsFlag r)
sorted_flag_at p kinds e r = rw (fold_out-Formula Bool (sorted_step p kinds) (f.FlagAt e r), f.outs-FlagAt e r) refl

pub sorted_subset : (p : Posed) (kinds : Kinds) (d e : RelExpr) → is_sorted p kinds (f.Subset d e) ≡ (is_sorted_set p kinds d && is_sorted_set p kinds e)
sorted_subset p kinds d e = rw (fold_out-Formula Bool (sorted_step p kinds) (f.Subset d e), f.outs-Subset d e) refl

pub sorted_is_class : (p : Posed) (kinds : Kinds) (e : RelExpr) (c : ℕ) (r : RelVar) → is_sorted p kinds (f.IsClass e c r) ≡ (is_sorted_set p kinds e && is_spread p kinds AsClass r)
sorted_is_class p kinds e c r = rw (fold_out-Formula Bool (sorted_step p kinds) (f.IsClass e c r), f.outs-IsClass e c r) refl

pub sorted_same_number : (p : Posed) (kinds : Kinds) (a b : NumExpr) → is_sorted p kinds (f.SameNum a b) ≡ (is_sorted_number p kinds a && is_sorted_number p kinds b)
sorted_same_number p kinds a b = rw (fold_out-Formula Bool (sorted_step p kinds) (f.SameNum a b), f.outs-SameNum a b) refl

pub sorted_below : (p : Posed) (kinds : Kinds) (a b : NumExpr) → is_sorted p kinds (f.BelowNum a b) ≡ (is_sorted_number p kinds a && is_sorted_number p kinds b)
sorted_below p kinds a b = rw (fold_out-Formula Bool (sorted_step p kinds) (f.BelowNum a b), f.outs-BelowNum a b) refl

pub sorted_fits : (p : Posed) (kinds : Kinds) (a : NumExpr) → is_sorted p kinds (f.Fits a) ≡ is_sorted_number p kinds a
sorted_fits p kinds a = rw (fold_out-Formula Bool (sorted_step p kinds) (f.Fits a), f.outs-Fits a) refl

pub sorted_changed : (p : Posed) (kinds : Kinds) (new : RelVar) (e : RelExpr) (given old : RelVar) → is_sorted p kinds (f.Changed new e given old) ≡ (is_sorted_set p kinds e && can_change p kinds new given old)
sorted_changed p kinds new e given old = rw (fold_out-Formula Bool (sorted_step p kinds) (f.Changed new e given old), f.outs-Changed new e given old) refl

pub sorted_not : (p : Posed) (kinds : Kinds) (a : Formula) → is_sorted p kinds (f.Not a) ≡ is_sorted p kinds a
sorted_not p kinds a = rw (fold_out-Formula Bool (sorted_step p kinds) (f.Not a), f.outs-Not a) refl

pub sorted_and : (p : Posed) (kinds : Kinds) (fs : List Formula) → is_sorted p kinds (f.And fs) ≡ list_all (is_sorted p kinds) fs
sorted_and p kinds fs = rw (fold_out-Formula Bool (sorted_step p kinds) (f.And fs), f.outs-And fs) (list_all-map (λ (b : Bool). b) (is_sorted p kinds) fs)

pub sorted_or : (p : Posed) (kinds : Kinds) (fs : List Formula) → is_sorted p kinds (f.Or fs) ≡ list_all (is_sorted p kinds) fs
sorted_or p kinds fs = rw (fold_out-Formula Bool (sorted_step p kinds) (f.Or fs), f.outs-Or fs) (list_all-map (λ (b : Bool). b) (is_sorted p kinds) fs)

pub sorted_same : (p : Posed) (kinds : Kinds) (a b : Formula) → is_sorted p kinds (f.Same a b) ≡ (is_sorted p kinds a && is_sorted p kinds b)
sorted_same p kinds a b = rw (fold_out-Formula Bool (sorted_step p kinds) (f.Same a b), f.outs-Same a b) refl

-- all of them
pub ruleset meaning_forms = (set_var, set_nil, set_object, set_join, set_reach, number_const, number_var, number_at, number_sum, number_diff, number_product, number_count, holds_const, holds_flag, holds_flag_at, holds_subset, holds_is_class, holds_same_number, holds_below, holds_fits, holds_changed, holds_not, holds_and, holds_or, holds_same)

pub ruleset use_forms = (sorted_set_var, sorted_set_nil, sorted_set_object, sorted_set_join, sorted_set_reach, sorted_number_const, sorted_number_var, sorted_number_at, sorted_number_sum, sorted_number_diff, sorted_number_product, sorted_number_count, sorted_const, sorted_flag, sorted_flag_at, sorted_subset, sorted_is_class, sorted_same_number, sorted_below, sorted_fits, sorted_changed, sorted_not, sorted_and, sorted_or, sorted_same)
