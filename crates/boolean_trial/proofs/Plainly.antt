-- The tests of plainness, and what they say.
use Rattle.std.proofs.Common.{◌≡◌, ℕ, ◌==◌, arith, Bool, true, false, List, [], ◌∷◌, length, map, refl, sym, ◌∙◌, ap, subst, Some}
use Rattle.std.specs.Prelude.{◌↔◌, ◌&&◌, IsTrue, slice_get}
use Rattle.std.specs.List.{list_all}
use Rattle.std.proofs.lemmas.Bool.{eqb-true, eq-eqb}
use Rattle.taco_unit.specs.declared.unit.Clause.{Clause}
use Rattle.taco_unit.specs.declared.unit.ClassDef.{ClassDef}
use Rattle.taco_unit.specs.declared.unit.MethodDef.{MethodDef}
use Rattle.taco_unit.specs.Parts.{Parts}
use Rattle.boolean_trial.specs.Plain.{IsPlain, IsPlainMethod}
use Rattle.boolean_trial.specs.Tests.{is_bare}
use Rattle.boolean_trial.proofs.Judging.{both}

none_left : {A : Type 0} (xs : List A) → (length xs == 0) ≡ true → xs ≡ []
none_left [] is = refl
none_left (x ∷ xs) is = absurd (let no = eqb-true (length (x ∷ xs)) 0 is in omega (arith, no))

no_invariants : (cs : List ClassDef) → list_all (λ (c : ClassDef). length c.invariants == 0) cs ≡ true → map (λ (c : ClassDef). c.invariants) cs ≡ map (λ c. []) cs
no_invariants [] all = refl
no_invariants (c ∷ cs) all =
    let parts = both (length c.invariants == 0) _ all in
    ap (λ (i : List Clause). i ∷ map (λ (c : ClassDef). c.invariants) cs) (none_left c.invariants parts.first) ∙ ap (λ (more : List (List Clause)). [] ∷ more) (no_invariants cs parts.second)

all_none : (cs : List ClassDef) → map (λ (c : ClassDef). c.invariants) cs ≡ map (λ c. []) cs → list_all (λ (c : ClassDef). length c.invariants == 0) cs ≡ true
all_none [] is = refl
all_none (c ∷ cs) is =
    let first : c.invariants ≡ [] = cc in
    let behind : map (λ (c : ClassDef). c.invariants) cs ≡ map (λ c. []) cs = cc in
    ap (λ b. b && list_all (λ (c : ClassDef). length c.invariants == 0) cs) (ap (λ (i : List Clause). length i == 0) first) ∙ all_none cs behind

pub bare_parts : (u : Parts) → is_bare u ≡ true → (length u.classes ≡ 1) × (u.fields ≡ []) × (map (λ (c : ClassDef). c.invariants) u.classes ≡ map (λ c. []) u.classes)
bare_parts u is =
    let one = both (length u.classes == 1) _ is in
    let two = both (length u.fields == 0) _ one.second in
    (eqb-true (length u.classes) 1 one.first, none_left u.fields two.first, no_invariants u.classes two.second)

plain_bare : (u : Parts) (method : ℕ) → IsPlain u method → is_bare u ≡ true
plain_bare u method plain =
    ap (λ b. b && (length u.fields == 0 && list_all (λ (c : ClassDef). length c.invariants == 0) u.classes)) (eq-eqb (length u.classes) 1 plain.one_class)
    ∙ ap (λ b. b && list_all (λ (c : ClassDef). length c.invariants == 0) u.classes) (ap (λ fs. length fs == 0) plain.no_fields)
    ∙ all_none u.classes plain.no_invariants

-- a method of a bare unit is plain by itself
pub by_method : (u : Parts) (method : ℕ) (m : MethodDef) (r : Bool) → slice_get u.methods method ≡ Some m → is_bare u ≡ true → IsTrue r ↔ IsPlainMethod m → IsTrue r ↔ IsPlain u method
by_method u method m r there bare is = (
  λ yes. record { def = m; one_class = (bare_parts u bare).0; no_fields = (bare_parts u bare).1; no_invariants = (bare_parts u bare).2; there = there; plain = is.0 yes },
  λ plain. is.1 (subst IsPlainMethod (let both_ : Some plain.def ≡ Some m = sym plain.there ∙ there in cc) plain.plain),
)

pub not_bare : (u : Parts) (method : ℕ) → is_bare u ≡ false → IsTrue false ↔ IsPlain u method
not_bare u method is = (λ no. absurd (cc), λ plain. let yes = plain_bare u method plain in absurd (cc))
