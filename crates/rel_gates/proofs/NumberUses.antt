-- The uses of each form of a number, by the kinds by which it is sorted.
use Rattle.std.proofs.Common.{◌≡◌, true, ◌&&◌, [], ◌∷◌, ◌++◌, refl, sym, subst, ◌∙◌}
use Rattle.std.specs.Prelude.{ℤ}
use Rattle.std.proofs.lemmas.Bool.{and_parts}
use Rattle.heap_core.specs.Posed.{Posed}
use Rattle.rel_core.specs.declared.relation.RelVar.{RelVar}
use Rattle.rel_core.specs.declared.sets.RelExpr.{RelExpr}
use Rattle.rel_core.specs.declared.numbers.NumExpr.{NumExpr, fold_out-NumExpr}
use Rattle.rel_core.specs.declared.numbers.NumExpr.TheVariants as n
use Rattle.rel_core.specs.Uses.{Kinds, AsNumber, is_spread, is_sorted_set, is_sorted_number}
use Rattle.rel_core.proofs.Forms.{sorted_number_var, sorted_number_at, sorted_number_sum, sorted_number_diff, sorted_number_product, sorted_number_count}
use Rattle.rel_gates.specs.Naming.{Wanted, wanted_one, wanted_each, set_uses, number_uses_step, number_uses, FitUses, SetFits, NumberFits}
use Rattle.rel_gates.proofs.Fitting.{fits_one, fits_each, fit_none, fit_one, fit_both}

pub uses_const : (p : Posed) (z : ℤ) → number_uses p (n.Const z) ≡ []
uses_const p z = rw (fold_out-NumExpr Wanted (number_uses_step p) (n.Const z), n.outs-Const z) refl

pub uses_number : (p : Posed) (r : RelVar) → number_uses p (n.Var r) ≡ wanted_one p AsNumber r ∷ []
uses_number p r = rw (fold_out-NumExpr Wanted (number_uses_step p) (n.Var r), n.outs-Var r) refl

pub uses_at : (p : Posed) (e : RelExpr) (r : RelVar) → number_uses p (n.At e r) ≡ set_uses p e ++ wanted_each p AsNumber r ∷ []
uses_at p e r = rw (fold_out-NumExpr Wanted (number_uses_step p) (n.At e r), n.outs-At e r) refl

pub uses_sum : (p : Posed) (a b : NumExpr) → number_uses p (n.Sum a b) ≡ number_uses p a ++ number_uses p b
uses_sum p a b = rw (fold_out-NumExpr Wanted (number_uses_step p) (n.Sum a b), n.outs-Sum a b) refl

pub uses_difference : (p : Posed) (a b : NumExpr) → number_uses p (n.Diff a b) ≡ number_uses p a ++ number_uses p b
uses_difference p a b = rw (fold_out-NumExpr Wanted (number_uses_step p) (n.Diff a b), n.outs-Diff a b) refl

pub uses_product : (p : Posed) (a b : NumExpr) → number_uses p (n.Product a b) ≡ number_uses p a ++ number_uses p b
uses_product p a b = rw (fold_out-NumExpr Wanted (number_uses_step p) (n.Product a b), n.outs-Product a b) refl

pub uses_count : (p : Posed) (e : RelExpr) → number_uses p (n.Count e) ≡ set_uses p e
uses_count p e = rw (fold_out-NumExpr Wanted (number_uses_step p) (n.Count e), n.outs-Count e) refl

pub const_fits : (p : Posed) (z : ℤ) → NumberFits p (n.Const z)
const_fits p z kinds sorted = subst (FitUses p kinds) (sym (uses_const p z)) (fit_none p kinds)

pub number_fits : (p : Posed) (r : RelVar) → NumberFits p (n.Var r)
number_fits p r kinds sorted =
    subst (FitUses p kinds) (sym (uses_number p r)) (fit_one p kinds (wanted_one p AsNumber r) (fits_one p kinds AsNumber r (sym (sorted_number_var p kinds r) ∙ sorted)))

pub at_fits : (p : Posed) (e : RelExpr) (r : RelVar) → SetFits p e → NumberFits p (n.At e r)
at_fits p e r fits kinds sorted =
    let parts = and_parts (is_sorted_set p kinds e) (is_spread p kinds AsNumber r) (sym (sorted_number_at p kinds e r) ∙ sorted) in
    subst (FitUses p kinds) (sym (uses_at p e r))
    (fit_both p kinds (set_uses p e) (wanted_each p AsNumber r ∷ []) (fits kinds parts.0) (fit_one p kinds (wanted_each p AsNumber r) (fits_each p kinds AsNumber r parts.1)))

-- both operands of an operation
both_fit : (p : Posed) (kinds : Kinds) (a b : NumExpr) → NumberFits p a → NumberFits p b → (is_sorted_number p kinds a && is_sorted_number p kinds b) ≡ true
    → FitUses p kinds (number_uses p a ++ number_uses p b)
both_fit p kinds a b first second sorted =
    let parts = and_parts (is_sorted_number p kinds a) (is_sorted_number p kinds b) sorted in
    fit_both p kinds (number_uses p a) (number_uses p b) (first kinds parts.0) (second kinds parts.1)

pub sum_fits : (p : Posed) (a b : NumExpr) → NumberFits p a → NumberFits p b → NumberFits p (n.Sum a b)
sum_fits p a b first second kinds sorted = subst (FitUses p kinds) (sym (uses_sum p a b)) (both_fit p kinds a b first second (sym (sorted_number_sum p kinds a b) ∙ sorted))

pub difference_fits : (p : Posed) (a b : NumExpr) → NumberFits p a → NumberFits p b → NumberFits p (n.Diff a b)
difference_fits p a b first second kinds sorted = subst (FitUses p kinds) (sym (uses_difference p a b)) (both_fit p kinds a b first second (sym (sorted_number_diff p kinds a b) ∙ sorted))

pub product_fits : (p : Posed) (a b : NumExpr) → NumberFits p a → NumberFits p b → NumberFits p (n.Product a b)
product_fits p a b first second kinds sorted = subst (FitUses p kinds) (sym (uses_product p a b)) (both_fit p kinds a b first second (sym (sorted_number_product p kinds a b) ∙ sorted))

pub count_fits : (p : Posed) (e : RelExpr) → SetFits p e → NumberFits p (n.Count e)
count_fits p e fits kinds sorted = subst (FitUses p kinds) (sym (uses_count p e)) (fits kinds (sym (sorted_number_count p kinds e) ∙ sorted))
