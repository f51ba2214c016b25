-- The uses of each form of a formula.
use Rattle.std.proofs.Common.{◌≡◌, Bool, List, [], ◌∷◌, ◌++◌, refl}
use Rattle.std.specs.List.{flat_map}
use Rattle.std.specs.Option.{option_map_or}
use Rattle.std.proofs.lemmas.List.Folds.{flat_map-map}
use Rattle.heap_core.specs.Posed.{Posed}
use Rattle.rel_core.specs.declared.relation.RelVar.{RelVar}
use Rattle.rel_core.specs.declared.sets.RelExpr.{RelExpr}
use Rattle.rel_core.specs.declared.numbers.NumExpr.{NumExpr}
use Rattle.rel_core.specs.declared.formula.Formula.{Formula, fold_out-Formula}
use Rattle.rel_core.specs.declared.formula.Formula.TheVariants as f
use Rattle.rel_core.specs.Uses.{AsFlag, AsClass}
use Rattle.rel_gates.specs.Naming.{Wanted, wanted_one, wanted_each, set_uses, number_uses, spread_use, changed_uses, uses_step, uses}
use Rattle.std.specs.Prelude.{ℕ}

pub uses_constant : (p : Posed) (b : Bool) → uses p (f.Const b) ≡ []
uses_constant p b = rw (fold_out-Formula Wanted (uses_step p) (f.Const b), f.outs-Const b) refl

pub uses_flag : (p : Posed) (r : RelVar) → uses p (f.Flag r) ≡ wanted_one p AsFlag r ∷ []
uses_flag p r = rw (fold_out-Formula Wanted (uses_step p) (f.Flag r), f.outs-Flag r) refl

pub uses_flag_at : (p : Posed) (e : RelExpr) (r : RelVar) → uses p (f.FlagAt e r) ≡ set_uses p e ++ wanted_each p AsFlag r ∷ []
uses_flag_at p e r = rw (fold_out-Formula Wanted (uses_step p) (f.FlagAt e r), f.outs-FlagAt e r) refl

pub uses_subset : (p : Posed) (d e : RelExpr) → uses p (f.Subset d e) ≡ set_uses p d ++ set_uses p e
uses_subset p d e = rw (fold_out-Formula Wanted (uses_step p) (f.Subset d e), f.outs-Subset d e) refl

pub uses_is_class : (p : Posed) (e : RelExpr) (c : ℕ) (r : RelVar) → uses p (f.IsClass e c r) ≡ set_uses p e ++ wanted_each p AsClass r ∷ []
uses_is_class p e c r = rw (fold_out-Formula Wanted (uses_step p) (f.IsClass e c r), f.outs-IsClass e c r) refl

pub uses_same_number : (p : Posed) (a b : NumExpr) → uses p (f.SameNum a b) ≡ number_uses p a ++ number_uses p b
uses_same_number p a b = rw (fold_out-Formula Wanted (uses_step p) (f.SameNum a b), f.outs-SameNum a b) refl

pub uses_below : (p : Posed) (a b : NumExpr) → uses p (f.BelowNum a b) ≡ number_uses p a ++ number_uses p b
uses_below p a b = rw (fold_out-Formula Wanted (uses_step p) (f.BelowNum a b), f.outs-BelowNum a b) refl

pub uses_fits : (p : Posed) (a : NumExpr) → uses p (f.Fits a) ≡ number_uses p a
uses_fits p a = rw (fold_out-Formula Wanted (uses_step p) (f.Fits a), f.outs-Fits a) refl

pub uses_changed : (p : Posed) (new : RelVar) (e : RelExpr) (given old : RelVar)
    → uses p (f.Changed new e given old) ≡ set_uses p e ++ option_map_or (changed_uses p new given old) (spread_use p new) []
uses_changed p new e given old = rw (fold_out-Formula Wanted (uses_step p) (f.Changed new e given old), f.outs-Changed new e given old) refl

pub uses_not : (p : Posed) (a : Formula) → uses p (f.Not a) ≡ uses p a
uses_not p a = rw (fold_out-Formula Wanted (uses_step p) (f.Not a), f.outs-Not a) refl

pub uses_and : (p : Posed) (fs : List Formula) → uses p (f.And fs) ≡ flat_map (uses p) fs
uses_and p fs = rw (fold_out-Formula Wanted (uses_step p) (f.And fs), f.outs-And fs) (flat_map-map (λ (xs : Wanted). xs) (uses p) fs)

pub uses_or : (p : Posed) (fs : List Formula) → uses p (f.Or fs) ≡ flat_map (uses p) fs
uses_or p fs = rw (fold_out-Formula Wanted (uses_step p) (f.Or fs), f.outs-Or fs) (flat_map-map (λ (xs : Wanted). xs) (uses p) fs)

pub uses_same : (p : Posed) (a b : Formula) → uses p (f.Same a b) ≡ uses p a ++ uses p b
uses_same p a b = rw (fold_out-Formula Wanted (uses_step p) (f.Same a b), f.outs-Same a b) refl
