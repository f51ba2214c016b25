-- The uses of sorted sets are by their kinds.
use Rattle.std.proofs.Common.{◌≡◌, ℕ, zero, suc, ◌+◌, ◌-◌, ◌*◌, true, not, List, [], ◌∷◌, ◌++◌, length, map, sym, subst, ap, ◌∙◌, arith, inl, inr}
use Rattle.std.specs.Prelude.{slice_get, if◌then◌else◌}
use Rattle.std.specs.List.{list_all}
use Rattle.std.proofs.lemmas.Bool.{and_parts, cases_lt, not-true}
use Rattle.heap_core.specs.Posed.{Posed}
use Rattle.heap_core.proofs.Lists.{slice_get-append_left, slice_get-append_right}
use Rattle.rel_core.specs.declared.relation.RelVar.{RelVar}
use Rattle.rel_core.specs.declared.sets.RelExpr.{RelExpr}
use Rattle.rel_core.specs.declared.sets.RelExpr.TheVariants as s
use Rattle.rel_core.specs.Uses.{Kinds, Use, AsSet, is_slot, has_use, is_variable, is_spread, is_sorted_set}
use Rattle.rel_core.proofs.Forms.{sorted_set_var, sorted_set_join, sorted_set_reach}
use Rattle.rel_gates.specs.Shown.{width_of}
use Rattle.rel_gates.specs.Naming.{Wanted, wanted_one, wanted_each, set_uses, FitsUse, FitUses, SetFits}
use Rattle.rel_gates.proofs.UseForms.{uses_var, uses_nil, uses_object, uses_join, uses_reach}

pub fits_one : (p : Posed) (kinds : Kinds) (u : Use) (r : RelVar) → is_variable p kinds u r ≡ true → FitsUse p kinds (wanted_one p u r)
fits_one p kinds u r is =
    let parts = and_parts (is_slot r.what) (has_use p kinds u r.what) is in
    let single : 1 * width_of p u ≡ width_of p u = omega arith in
    (u, parts.1, sym (ap (λ b. (if b then 1 else p.scope.objects) * width_of p u) parts.0 ∙ single))

pub fits_each : (p : Posed) (kinds : Kinds) (u : Use) (r : RelVar) → is_spread p kinds u r ≡ true → FitsUse p kinds (wanted_each p u r)
fits_each p kinds u r is =
    let parts = and_parts (not (is_slot r.what)) (has_use p kinds u r.what) is in
    (u, parts.1, sym (ap (λ b. (if b then 1 else p.scope.objects) * width_of p u) (not-true (is_slot r.what) parts.0)))

pub fit_none : (p : Posed) (kinds : Kinds) → FitUses p kinds []
fit_none p kinds i x there = absurd (cc)

pub fit_one : (p : Posed) (kinds : Kinds) (x : RelVar × ℕ) → FitsUse p kinds x → FitUses p kinds (x ∷ [])
fit_one p kinds x fits zero y there = subst (FitsUse p kinds) (let same : x ≡ y = cc in same) fits
fit_one p kinds x fits (suc i) y there = absurd (cc)

pub fit_both : (p : Posed) (kinds : Kinds) (xs ys : Wanted) → FitUses p kinds xs → FitUses p kinds ys → FitUses p kinds (xs ++ ys)
fit_both p kinds xs ys first second i x there =
    elim (cases_lt i (length xs)) [
      | inl below ↦ first i x (sym (slice_get-append_left xs ys i below) ∙ there)
      | inr past ↦
          let place : length xs + (i - length xs) ≡ i = omega (arith, past) in
          second (i - length xs) x (sym (slice_get-append_right xs ys (i - length xs)) ∙ ap (slice_get (xs ++ ys)) place ∙ there)
    ]

pub fit_all : (p : Posed) (kinds : Kinds) (u : Use) (rs : List RelVar) → list_all (is_spread p kinds u) rs ≡ true → FitUses p kinds (map (wanted_each p u) rs)
fit_all p kinds u [] spread = fit_none p kinds
fit_all p kinds u (r ∷ rs) spread =
    let parts = and_parts (is_spread p kinds u r) (list_all (is_spread p kinds u) rs) spread in
    fit_both p kinds (wanted_each p u r ∷ []) (map (wanted_each p u) rs) (fit_one p kinds (wanted_each p u r) (fits_each p kinds u r parts.0)) (fit_all p kinds u rs parts.1)

-- ## sets

pub var_fits : (p : Posed) (r : RelVar) → SetFits p (s.Var r)
var_fits p r kinds sorted = subst (FitUses p kinds) (sym (uses_var p r)) (fit_one p kinds (wanted_one p AsSet r) (fits_one p kinds AsSet r (sym (sorted_set_var p kinds r) ∙ sorted)))

pub nil_fits : (p : Posed) → SetFits p s.Nil
nil_fits p kinds sorted = subst (FitUses p kinds) (sym (uses_nil p)) (fit_none p kinds)

pub object_fits : (p : Posed) (o : ℕ) → SetFits p (s.Object o)
object_fits p o kinds sorted = subst (FitUses p kinds) (sym (uses_object p o)) (fit_none p kinds)

pub join_fits : (p : Posed) (e : RelExpr) (r : RelVar) → SetFits p e → SetFits p (s.Join e r)
join_fits p e r fits kinds sorted =
    let parts = and_parts (is_sorted_set p kinds e) (is_spread p kinds AsSet r) (sym (sorted_set_join p kinds e r) ∙ sorted) in
    subst (FitUses p kinds) (sym (uses_join p e r)) (fit_both p kinds (set_uses p e) (wanted_each p AsSet r ∷ []) (fits kinds parts.0) (fit_one p kinds (wanted_each p
    AsSet r) (fits_each p kinds AsSet r parts.1)))

pub reach_fits : (p : Posed) (e : RelExpr) (rs : List RelVar) → SetFits p e → SetFits p (s.Reach e rs)
reach_fits p e rs fits kinds sorted =
    let parts = and_parts (is_sorted_set p kinds e) (list_all (is_spread p kinds AsSet) rs) (sym (sorted_set_reach p kinds e rs) ∙ sorted) in
    subst (FitUses p kinds) (sym (uses_reach p e rs)) (fit_both p kinds (set_uses p e) (map (wanted_each p AsSet) rs) (fits kinds parts.0) (fit_all p kinds AsSet rs parts.1))
