-- The uses of each form of a set, and what it means that they are named.
use Rattle.std.proofs.Common.{◌≡◌, ℕ, true, List, [], ◌∷◌, ◌++◌, map, refl, sym, ap, ◌∙◌}
use Rattle.std.proofs.lemmas.Bool.{and_parts}
use Rattle.std.proofs.lemmas.List.Folds.{list_all-append}
use Rattle.heap_core.specs.Posed.{Posed}
use Rattle.rel_core.specs.declared.relation.RelVar.{RelVar}
use Rattle.rel_core.specs.declared.sets.RelExpr.{RelExpr, fold_out-RelExpr}
use Rattle.rel_core.specs.declared.sets.RelExpr.TheVariants as s
use Rattle.rel_core.specs.Uses.{AsSet}
use Rattle.rel_gates.specs.Shown.{Named}
use Rattle.rel_gates.specs.Naming.{Wanted, wanted_one, wanted_each, set_uses_step, set_uses, is_named_for, are_named}

pub uses_var : (p : Posed) (r : RelVar) → set_uses p (s.Var r) ≡ wanted_one p AsSet r ∷ []
uses_var p r = rw (fold_out-RelExpr Wanted (set_uses_step p) (s.Var r), s.outs-Var r) refl

pub uses_nil : (p : Posed) → set_uses p s.Nil ≡ []
uses_nil p = rw (fold_out-RelExpr Wanted (set_uses_step p) s.Nil, s.outs-Nil) refl

pub uses_object : (p : Posed) (o : ℕ) → set_uses p (s.Object o) ≡ []
uses_object p o = rw (fold_out-RelExpr Wanted (set_uses_step p) (s.Object o), s.outs-Object o) refl

pub uses_join : (p : Posed) (e : RelExpr) (r : RelVar) → set_uses p (s.Join e r) ≡ set_uses p e ++ wanted_each p AsSet r ∷ []
uses_join p e r = rw (fold_out-RelExpr Wanted (set_uses_step p) (s.Join e r), s.outs-Join e r) refl

pub uses_reach : (p : Posed) (e : RelExpr) (rs : List RelVar) → set_uses p (s.Reach e rs) ≡ set_uses p e ++ map (wanted_each p AsSet) rs
uses_reach p e rs = rw (fold_out-RelExpr Wanted (set_uses_step p) (s.Reach e rs), s.outs-Reach e rs) refl

-- of two lists of uses
pub both_named : (es : Named) (all xs ys : Wanted) → are_named es all ≡ true → all ≡ xs ++ ys → (are_named es xs ≡ true) × (are_named es ys ≡ true)
both_named es all xs ys named is = and_parts (are_named es xs) (are_named es ys) (sym (list_all-append (is_named_for es) xs ys) ∙ ap (are_named es) (sym is) ∙ named)

-- of a list with one use
pub one_named : (es : Named) (all : Wanted) (x : RelVar × ℕ) → are_named es all ≡ true → all ≡ x ∷ [] → is_named_for es x ≡ true
one_named es all x named is = (and_parts (is_named_for es x) true (ap (are_named es) (sym is) ∙ named)).0
