-- The uses of sorted formulas are by their kinds.
use Rattle.std.proofs.Common.{◌≡◌, ◌*◌, true, false, not, ◌&&◌, List, [], ◌∷◌, ◌++◌, Option, Some, None, refl, sym, subst, ap, ◌∙◌}
use Rattle.std.specs.Prelude.{ℕ, Bool, if◌then◌else◌}
use Rattle.std.specs.List.{list_all, flat_map}
use Rattle.std.specs.Option.{option_map_or}
use Rattle.std.proofs.lemmas.Bool.{true≢false, and_parts, not-true}
use Rattle.std.proofs.lemmas.Grind.{flat_map-append}
use Rattle.std.proofs.lemmas.List.Folds.{list_all-append}
use Rattle.heap_core.specs.Posed.{Posed}
use Rattle.rel_core.specs.declared.relation.RelVar.{RelVar}
use Rattle.rel_core.specs.declared.relation.What.{What}
use Rattle.rel_core.specs.declared.relation.What.TheVariants as what
use Rattle.rel_core.specs.declared.sets.RelExpr.{RelExpr}
use Rattle.rel_core.specs.declared.numbers.NumExpr.{NumExpr}
use Rattle.rel_core.specs.declared.formula.Formula.{Formula}
use Rattle.rel_core.specs.declared.formula.Formula.TheVariants as f
use Rattle.rel_core.specs.Reading.{same_what}
use Rattle.rel_core.specs.Uses.{Kinds, Use, AsSet, AsNumber, AsFlag, AsClass, same_use, use_of, has_use, is_slot, is_spread, is_sorted_set, is_sorted_number, can_change, is_sorted}
use Rattle.rel_core.proofs.Forms.{sorted_flag, sorted_flag_at, sorted_subset, sorted_is_class, sorted_same_number, sorted_below, sorted_fits, sorted_changed, sorted_not, sorted_and, sorted_or, sorted_same}
use Rattle.rel_gates.specs.Shown.{width_of}
use Rattle.rel_gates.specs.Naming.{wanted_one, wanted_each, wanted_rows, set_uses, number_uses, spread_use, changed_uses, uses, FitsUse, FitUses, SetFits, NumberFits, FormulaFits, PartsFit}
use Rattle.rel_gates.proofs.FormulaUses.{uses_constant, uses_flag, uses_flag_at, uses_subset, uses_is_class, uses_same_number, uses_below, uses_fits, uses_changed, uses_not, uses_and, uses_or, uses_same}
use Rattle.rel_gates.proofs.Fitting.{fits_one, fits_each, fit_none, fit_one, fit_both}
use Rattle.rel_gates.proofs.Growing.{same_what-is}

pub constant_fits : (p : Posed) (b : Bool) → FormulaFits p (f.Const b)
constant_fits p b kinds sorted = subst (FitUses p kinds) (sym (uses_constant p b)) (fit_none p kinds)

pub flag_fits : (p : Posed) (r : RelVar) → FormulaFits p (f.Flag r)
flag_fits p r kinds sorted = subst (FitUses p kinds) (sym (uses_flag p r)) (fit_one p kinds (wanted_one p AsFlag r) (fits_one p kinds AsFlag r (sym (sorted_flag p kinds r) ∙ sorted)))

-- a set, and a relation at its objects
set_and_each : (p : Posed) (kinds : Kinds) (u : Use) (e : RelExpr) (r : RelVar) → SetFits p e → (is_sorted_set p kinds e && is_spread p kinds u r) ≡ true
    → FitUses p kinds (set_uses p e ++ wanted_each p u r ∷ [])
set_and_each p kinds u e r fits sorted =
    let parts = and_parts (is_sorted_set p kinds e) (is_spread p kinds u r) sorted in
    fit_both p kinds (set_uses p e) (wanted_each p u r ∷ []) (fits kinds parts.0) (fit_one p kinds (wanted_each p u r) (fits_each p kinds u r parts.1))

pub flag_at_fits : (p : Posed) (e : RelExpr) (r : RelVar) → SetFits p e → FormulaFits p (f.FlagAt e r)
flag_at_fits p e r fits kinds sorted = subst (FitUses p kinds) (sym (uses_flag_at p e r)) (set_and_each p kinds AsFlag e r fits (sym (sorted_flag_at p kinds e r) ∙ sorted))

pub is_class_fits : (p : Posed) (e : RelExpr) (c : ℕ) (r : RelVar) → SetFits p e → FormulaFits p (f.IsClass e c r)
is_class_fits p e c r fits kinds sorted =
    subst (FitUses p kinds) (sym (uses_is_class p e c r)) (set_and_each p kinds AsClass e r fits (sym (sorted_is_class p kinds e c r) ∙ sorted))

pub subset_fits : (p : Posed) (d e : RelExpr) → SetFits p d → SetFits p e → FormulaFits p (f.Subset d e)
subset_fits p d e first second kinds sorted =
    let parts = and_parts (is_sorted_set p kinds d) (is_sorted_set p kinds e) (sym (sorted_subset p kinds d e) ∙ sorted) in
    subst (FitUses p kinds) (sym (uses_subset p d e)) (fit_both p kinds (set_uses p d) (set_uses p e) (first kinds parts.0) (second kinds parts.1))

numbers_fit : (p : Posed) (kinds : Kinds) (a b : NumExpr) → NumberFits p a → NumberFits p b → (is_sorted_number p kinds a && is_sorted_number p kinds b) ≡ true
    → FitUses p kinds (number_uses p a ++ number_uses p b)
numbers_fit p kinds a b first second sorted =
    let parts = and_parts (is_sorted_number p kinds a) (is_sorted_number p kinds b) sorted in
    fit_both p kinds (number_uses p a) (number_uses p b) (first kinds parts.0) (second kinds parts.1)

pub same_number_fits : (p : Posed) (a b : NumExpr) → NumberFits p a → NumberFits p b → FormulaFits p (f.SameNum a b)
same_number_fits p a b first second kinds sorted =
    subst (FitUses p kinds) (sym (uses_same_number p a b)) (numbers_fit p kinds a b first second (sym (sorted_same_number p kinds a b) ∙ sorted))

pub below_fits : (p : Posed) (a b : NumExpr) → NumberFits p a → NumberFits p b → FormulaFits p (f.BelowNum a b)
below_fits p a b first second kinds sorted =
    subst (FitUses p kinds) (sym (uses_below p a b)) (numbers_fit p kinds a b first second (sym (sorted_below p kinds a b) ∙ sorted))

pub fits_fits : (p : Posed) (a : NumExpr) → NumberFits p a → FormulaFits p (f.Fits a)
fits_fits p a fits kinds sorted = subst (FitUses p kinds) (sym (uses_fits p a)) (fits kinds (sym (sorted_fits p kinds a) ∙ sorted))

-- ## a relation that changes

pub same_use-refl : (u : Use) → same_use u u ≡ true
same_use-refl AsSet = refl
same_use-refl AsNumber = refl
same_use-refl AsFlag = refl
same_use-refl AsClass = refl

-- kinds have no part in the use of a relation that is no variable
pub spread_use-is : (p : Posed) (kinds : Kinds) (w : What) → is_slot w ≡ false → use_of p kinds w ≡ use_of p (λ x. None) w
spread_use-is p kinds what.Live none = refl
spread_use-is p kinds what.ClassOf none = refl
spread_use-is p kinds (what.Field g) none = refl
spread_use-is p kinds (what.Slot x) none = absurd (true≢false none)

each_of : (p : Posed) (kinds : Kinds) (u : Use) (r : RelVar) → is_slot r.what ≡ false → use_of p kinds r.what ≡ Some u → FitsUse p kinds (wanted_each p u r)
each_of p kinds u r none is =
    (u, ap (λ found. option_map_or (same_use u) found false) is ∙ same_use-refl u, sym (ap (λ b. (if b then 1 else p.scope.objects) * width_of p u) none))

changed_by : (p : Posed) (kinds : Kinds) (new given old : RelVar) (found : Option Use) → spread_use p new ≡ found → can_change p kinds new given old ≡ true
    → FitUses p kinds (option_map_or (changed_uses p new given old) found [])
changed_by p kinds new given old None there can = fit_none p kinds
changed_by p kinds new given old (Some u) there can =
    let outer = and_parts (not (is_slot new.what) && same_what new.what old.what) (option_map_or (λ t. has_use p kinds t given.what) (use_of p kinds new.what) false) can in
    let inner = and_parts (not (is_slot new.what)) (same_what new.what old.what) outer.0 in
    let none : is_slot new.what ≡ false = not-true (is_slot new.what) inner.0 in
    let same : new.what ≡ old.what = same_what-is new.what old.what inner.1 in
    let its : use_of p kinds new.what ≡ Some u = spread_use-is p kinds new.what none ∙ there in
    let has : has_use p kinds u given.what ≡ true = sym (ap (λ found. option_map_or (λ t. has_use p kinds t given.what) found false) its) ∙ outer.1 in
    fit_both p kinds (wanted_each p u new ∷ []) (wanted_rows p u given ∷ wanted_each p u old ∷ []) (fit_one p kinds (wanted_each p u new) (each_of p kinds u new none its))
    (fit_both p kinds (wanted_rows p u given ∷ []) (wanted_each p u old ∷ []) (fit_one p kinds (wanted_rows p u given) (u, has, refl))
    (fit_one p kinds (wanted_each p u old) (each_of p kinds u old (sym (ap is_slot same) ∙ none) (sym (ap (use_of p kinds) same) ∙ its))))

pub changed_fits : (p : Posed) (new : RelVar) (e : RelExpr) (given old : RelVar) → SetFits p e → FormulaFits p (f.Changed new e given old)
changed_fits p new e given old fits kinds sorted =
    let parts = and_parts (is_sorted_set p kinds e) (can_change p kinds new given old) (sym (sorted_changed p kinds new e given old) ∙ sorted) in
    subst (FitUses p kinds) (sym (uses_changed p new e given old))
    (fit_both p kinds (set_uses p e) (option_map_or (changed_uses p new given old) (spread_use p new) []) (fits kinds parts.0)
    (changed_by p kinds new given old (spread_use p new) refl parts.1))

-- ## connectives

pub not_fits : (p : Posed) (a : Formula) → FormulaFits p a → FormulaFits p (f.Not a)
not_fits p a fits kinds sorted = subst (FitUses p kinds) (sym (uses_not p a)) (fits kinds (sym (sorted_not p kinds a) ∙ sorted))

pub and_fits : (p : Posed) (fs : List Formula) → PartsFit p fs → FormulaFits p (f.And fs)
and_fits p fs fit kinds sorted = subst (FitUses p kinds) (sym (uses_and p fs)) (fit kinds (sym (sorted_and p kinds fs) ∙ sorted))

pub or_fits : (p : Posed) (fs : List Formula) → PartsFit p fs → FormulaFits p (f.Or fs)
or_fits p fs fit kinds sorted = subst (FitUses p kinds) (sym (uses_or p fs)) (fit kinds (sym (sorted_or p kinds fs) ∙ sorted))

pub same_fits : (p : Posed) (a b : Formula) → FormulaFits p a → FormulaFits p b → FormulaFits p (f.Same a b)
same_fits p a b first second kinds sorted =
    let parts = and_parts (is_sorted p kinds a) (is_sorted p kinds b) (sym (sorted_same p kinds a b) ∙ sorted) in
    subst (FitUses p kinds) (sym (uses_same p a b)) (fit_both p kinds (uses p a) (uses p b) (first kinds parts.0) (second kinds parts.1))

pub no_parts_fit : (p : Posed) → PartsFit p []
no_parts_fit p kinds sorted = fit_none p kinds

pub one_part_more : (p : Posed) (fs : List Formula) (a : Formula) → PartsFit p fs → FormulaFits p a → PartsFit p (fs ++ a ∷ [])
one_part_more p fs a fit fits kinds sorted =
    let parts = and_parts (list_all (is_sorted p kinds) fs) (list_all (is_sorted p kinds) (a ∷ [])) (sym (list_all-append (is_sorted p kinds) fs (a ∷ [])) ∙ sorted) in
    let single = and_parts (is_sorted p kinds a) true parts.1 in
    subst (FitUses p kinds) (sym (flat_map-append (uses p) fs (a ∷ [])))
    (fit_both p kinds (flat_map (uses p) fs) (uses p a ++ []) (fit kinds parts.0) (fit_both p kinds (uses p a) [] (fits kinds single.0) (fit_none p kinds)))
