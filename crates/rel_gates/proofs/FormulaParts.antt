-- How many parts a formula has: those of each part are fewer. And what it means that the relations of parts are named.
use Rattle.std.proofs.Common.{◌≡◌, ℕ, zero, suc, ◌+◌, ◌*◌, ◌<◌, ◌≤◌, true, List, [], ◌∷◌, length, map, get_or, refl, sym, subst, arith}
use Rattle.std.specs.List.{flat_map}
use Rattle.std.proofs.lemmas.Option.{slice_get_within}
use Rattle.gate_core.specs.declared.circuit.Node.{Node}
use Rattle.gate_core.specs.declared.circuit.Node.TheVariants.{Zero}
use Rattle.gate_core.specs.Circuit.{IsOf, IsCircuit}
use Rattle.heap_core.specs.Posed.{Posed}
use Rattle.rel_core.specs.declared.formula.Formula.{Formula, fold-Formula, fold_out-Formula}
use Rattle.rel_core.specs.declared.formula.Formula.TheOpen.{Formula-F}
use Rattle.rel_core.specs.declared.formula.Formula.TheVariants as f
use Rattle.rel_gates.specs.Shown.{Named}
use Rattle.rel_gates.specs.Naming.{uses, are_named}
use Rattle.rel_gates.proofs.UseForms.{both_named}

pub total : List ℕ → ℕ
total [] = 0
total (n ∷ ns) = n + total ns

abbrev pub size_step : Formula-F ℕ → ℕ
size_step (Formula-F.Const b) = 0
size_step (Formula-F.Flag r) = 0
size_step (Formula-F.FlagAt e r) = 0
size_step (Formula-F.Subset d e) = 0
size_step (Formula-F.IsClass e c r) = 0
size_step (Formula-F.SameNum a b) = 0
size_step (Formula-F.BelowNum a b) = 0
size_step (Formula-F.Fits a) = 0
size_step (Formula-F.Changed new e given old) = 0
size_step (Formula-F.Not a) = a + 1
size_step (Formula-F.And fs) = total fs + 1
size_step (Formula-F.Or fs) = total fs + 1
size_step (Formula-F.Same a b) = a + b + 1

abbrev pub size : Formula → ℕ
size = fold-Formula ℕ size_step

-- of all parts of a list
abbrev pub sizes : List Formula → ℕ
sizes fs = total (map size fs)

pub size_not : (a : Formula) → size (f.Not a) ≡ size a + 1
size_not a = rw (fold_out-Formula ℕ size_step (f.Not a), f.outs-Not a) refl

pub size_and : (fs : List Formula) → size (f.And fs) ≡ sizes fs + 1
size_and fs = rw (fold_out-Formula ℕ size_step (f.And fs), f.outs-And fs) refl

pub size_or : (fs : List Formula) → size (f.Or fs) ≡ sizes fs + 1
size_or fs = rw (fold_out-Formula ℕ size_step (f.Or fs), f.outs-Or fs) refl

pub size_same : (a b : Formula) → size (f.Same a b) ≡ size a + size b + 1
size_same a b = rw (fold_out-Formula ℕ size_step (f.Same a b), f.outs-Same a b) refl

-- ## what falls: twice the size, and one more at a list

twice_below : (d da t : ℕ) → da + 1 ≤ d → 2 * d ≡ t → 2 * da < t
twice_below d da t fewer all = omega arith

twice_and_one : (d da t : ℕ) → d ≡ da + 1 → 2 * d ≡ t → 2 * da + 1 < t
twice_and_one d da t is all = omega arith

below_list : (all da t : ℕ) → da ≤ all → 2 * all + 1 ≡ t → 2 * da < t
below_list all da t within is = omega arith

pub part_falls : (a x : Formula) (d t : ℕ) → x ≡ a → size a + 1 ≤ d → 2 * d ≡ t → 2 * size x < t
part_falls a x d t same fewer all = subst (λ e. 2 * size e < t) (sym same) (twice_below d (size a) t fewer all)

pub list_falls : (fs xs : List Formula) (d t : ℕ) → xs ≡ fs → d ≡ sizes fs + 1 → 2 * d ≡ t → 2 * sizes xs + 1 < t
list_falls fs xs d t same is all = subst (λ gs. 2 * sizes gs + 1 < t) (sym same) (twice_and_one d (sizes fs) t is all)

at_most : (fs : List Formula) (i : ℕ) (x : Formula) → i < length fs → size (get_or fs i x) ≤ sizes fs
unfolding total
at_most [] i x within = absurd (omega (arith, within))
at_most (a ∷ fs) zero x within = first (size a) (sizes fs)
  where
    first : (m n : ℕ) → m ≤ m + n
    first m n = omega arith
at_most (a ∷ fs) (suc i) x within = later (size (get_or fs i x)) (size a) (sizes fs) (at_most fs i x (omega (arith, within)))
  where
    later : (k m n : ℕ) → k ≤ n → k ≤ m + n
    later k m n below = omega (arith, below)

pub element_falls : (fs : List Formula) (i : ℕ) (x : Formula) (t : ℕ) → i < length fs → x ≡ get_or fs i x → 2 * sizes fs + 1 ≡ t → 2 * size x < t
element_falls fs i x t within same all =
    below_list (sizes fs) (size x) t (subst (λ e. size e ≤ sizes fs) (sym same) (at_most fs i x within)) all

-- ## what is named

named_at : (p : Posed) (es : Named) (fs : List Formula) (i : ℕ) (x : Formula) → i < length fs → are_named es (flat_map (uses p) fs) ≡ true → are_named es (uses p (get_or fs i x)) ≡ true
named_at p es [] i x within named = absurd (omega (arith, within))
named_at p es (a ∷ fs) zero x within named = (both_named es (flat_map (uses p) (a ∷ fs)) (uses p a) (flat_map (uses p) fs) named refl).0
named_at p es (a ∷ fs) (suc i) x within named =
    named_at p es fs i x (omega (arith, within)) (both_named es (flat_map (uses p) (a ∷ fs)) (uses p a) (flat_map (uses p) fs) named refl).1

pub element_named : (p : Posed) (es : Named) (fs : List Formula) (i : ℕ) (x : Formula) → i < length fs → x ≡ get_or fs i x → are_named es (flat_map (uses p) fs) ≡ true
    → are_named es (uses p x) ≡ true
element_named p es fs i x within same named = subst (λ e. are_named es (uses p e) ≡ true) (sym same) (named_at p es fs i x within named)

-- a circuit has a constant
pub has_constant : (nodes : List Node) → IsCircuit nodes → IsOf nodes 0
has_constant nodes circuit =
    let within = slice_get_within nodes 0 Zero circuit.first in
    omega (arith, within)
