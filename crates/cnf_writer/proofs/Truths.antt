-- What clauses say of the values of nodes.
use Rattle.std.proofs.Common.{◌≡◌, ℕ, ◌+◌, ◌-◌, ◌*◌, ◌/◌, ◌%◌, Bool, true, false, not, ◌&&◌, ◌||◌, List, [], ◌∷◌, ◌++◌, length, refl, sym, ap, ◌∙◌, arith, inl, inr, ◌⊎◌, length-append}
use Rattle.std.specs.Prelude.{◌==◌, if◌then◌else◌}
use Rattle.std.proofs.lemmas.Bool.{cases_eq, false≢true}
use Rattle.gate_core.specs.declared.circuit.Node.{Node}
use Rattle.gate_core.specs.declared.circuit.Node.TheVariants.{Input}
use Rattle.gate_core.specs.Circuit.{values_behind, value, StandsAt, Keeps}
use Rattle.gate_core.proofs.Places.{split_at_place}
use Rattle.gate_core.proofs.Values.{edge, keeps_by, value_pushed_input}
use Rattle.cnf_core.specs.Literal.{negated}
use Rattle.cnf_core.specs.Truth.{lit_holds, clauses_hold}
use Rattle.cnf_writer.specs.Progress.{node_clauses}

pub positive : (v : ℕ → Bool) (p : ℕ) → lit_holds v (2 * p) ≡ v p
positive v p =
    let even : (2 * p) % 2 ≡ 0 = omega arith in
    let half : (2 * p) / 2 ≡ p = omega arith in
    ap (λ r. if r == 1 then not (v ((2 * p) / 2)) else v ((2 * p) / 2)) even ∙ ap v half

pub negative : (v : ℕ → Bool) (p : ℕ) → lit_holds v (2 * p + 1) ≡ not (v p)
negative v p =
    let odd : (2 * p + 1) % 2 ≡ 1 = omega arith in
    let half : (2 * p + 1) / 2 ≡ p = omega arith in
    ap (λ r. if r == 1 then not (v ((2 * p + 1) / 2)) else v ((2 * p + 1) / 2)) odd ∙ ap (λ i. not (v i)) half

not_not : (b : Bool) → not (not b) ≡ b
not_not true = refl
not_not false = refl

-- a literal by its variable and its sign
by_parity : (g : ℕ) → ((g ≡ 2 * (g / 2)) × (g % 2 ≡ 0)) ⊎ ((g ≡ 2 * (g / 2) + 1) × (g % 2 ≡ 1))
by_parity g = elim (cases_eq (g % 2) 0) [ inl even ↦ inl (omega arith, even) | inr odd ↦ inr (omega arith, omega arith) ]

pub negation : (v : ℕ → Bool) (g : ℕ) → lit_holds v (negated g) ≡ not (lit_holds v g)
negation v g = elim (by_parity g) [
  | inl even ↦
      (let other : negated g ≡ 2 * (g / 2) + 1 = ap (λ r. if r == 0 then g + 1 else g - 1) even.1 ∙ (let is = even.0 in omega arith) in
      ap (lit_holds v) other ∙ negative v (g / 2) ∙ ap not (sym (positive v (g / 2)) ∙ ap (lit_holds v) (sym even.0)))
  | inr odd ↦
      (let other : negated g ≡ 2 * (g / 2) = ap (λ r. if r == 0 then g + 1 else g - 1) odd.1 ∙ (let is = odd.0 in omega arith) in
      ap (lit_holds v) other ∙ positive v (g / 2) ∙ sym (not_not (v (g / 2))) ∙ ap not (sym (negative v (g / 2)) ∙ ap (lit_holds v) (sym odd.0)))
]

-- the three clauses of a conjunction
joined_by : (x a b l1 l2 n_a n_b : Bool) → l1 ≡ not x → l2 ≡ x → n_a ≡ not a → n_b ≡ not b
    → ((l1 || (a || false)) && ((l1 || (b || false)) && ((l2 || (n_a || (n_b || false))) && true))) ≡ true → x ≡ (a && b)
joined_by true true true l1 l2 n_a n_b h k m n holds = refl
joined_by true true false l1 l2 n_a n_b h k m n holds = absurd (false≢true (sym (ap (λ l. (l || true) && ((l || false) && ((l2 || (n_a || (n_b || false))) && true))) h) ∙ holds))
joined_by true false b l1 l2 n_a n_b h k m n holds = absurd (false≢true (sym (ap (λ l. (l || false) && ((l || (b || false)) && ((l2 || (n_a || (n_b || false))) && true))) h) ∙ holds))
joined_by false true true l1 l2 n_a n_b h k m n holds =
    absurd (false≢true (sym (ap (λ l. (l || true) && ((l || true) && ((l2 || (n_a || (n_b || false))) && true))) h ∙ ap (λ l. (l || (n_a || (n_b || false))) && true) k ∙ ap (λ l. (l || (n_b || false)) && true) m ∙ ap (λ l. (l || false) && true) n) ∙ holds))
joined_by false true false l1 l2 n_a n_b h k m n holds = refl
joined_by false false b l1 l2 n_a n_b h k m n holds = refl

holds_by : (x a b l1 l2 n_a n_b : Bool) → l1 ≡ not x → l2 ≡ x → n_a ≡ not a → n_b ≡ not b → x ≡ (a && b)
    → ((l1 || (a || false)) && ((l1 || (b || false)) && ((l2 || (n_a || (n_b || false))) && true))) ≡ true
holds_by true true true l1 l2 n_a n_b h k m n is =
    ap (λ l. (l || true) && ((l || true) && ((l2 || (n_a || (n_b || false))) && true))) h ∙ ap (λ l. (l || (n_a || (n_b || false))) && true) k
holds_by true true false l1 l2 n_a n_b h k m n is = absurd (false≢true (sym is))
holds_by true false b l1 l2 n_a n_b h k m n is = absurd (false≢true (sym is))
holds_by false true true l1 l2 n_a n_b h k m n is = absurd (false≢true is)
holds_by false true false l1 l2 n_a n_b h k m n is =
    ap (λ l. (l || true) && ((l || false) && ((l2 || (n_a || (n_b || false))) && true))) h ∙ ap (λ l. (l || (n_a || (n_b || false))) && true) k ∙ ap (λ l. (l || (n_b || false)) && true) m ∙ ap (λ l. (l || false) && true) n
holds_by false false b l1 l2 n_a n_b h k m n is =
    ap (λ l. (l || false) && ((l || (b || false)) && ((l2 || (n_a || (n_b || false))) && true))) h ∙ ap (λ l. (l || (n_a || (n_b || false))) && true) k ∙ ap (λ l. (l || (n_b || false)) && true) m

pub node_joined : (v : ℕ → Bool) (p a b : ℕ) → clauses_hold v (node_clauses p a b) ≡ true → v p ≡ (lit_holds v a && lit_holds v b)
node_joined v p a b = joined_by (v p) (lit_holds v a) (lit_holds v b) (lit_holds v (2 * p + 1)) (lit_holds v (2 * p)) (lit_holds v (negated a)) (lit_holds v (negated b))
    (negative v p) (positive v p) (negation v a) (negation v b)

pub node_holds : (v : ℕ → Bool) (p a b : ℕ) → v p ≡ (lit_holds v a && lit_holds v b) → clauses_hold v (node_clauses p a b) ≡ true
node_holds v p a b = holds_by (v p) (lit_holds v a) (lit_holds v b) (lit_holds v (2 * p + 1)) (lit_holds v (2 * p)) (lit_holds v (negated a)) (lit_holds v (negated b))
    (negative v p) (positive v p) (negation v a) (negation v b)

-- the value of a gate is that of its node, negated at the edge
pub gate_by_node : (inputs : ℕ → Bool) (nodes : List Node) (g : ℕ) → lit_holds (λ n. value inputs nodes (2 * n)) g ≡ value inputs nodes g
unfolding value
gate_by_node inputs nodes g = ap (λ b. if g % 2 == 1 then not b else b) (edge (values_behind inputs [] nodes) (g / 2))

-- a literal is read at its variable alone
pub lit-same : (v u : ℕ → Bool) (g : ℕ) → v (g / 2) ≡ u (g / 2) → lit_holds v g ≡ lit_holds u g
lit-same v u g same = ap (λ b. if g % 2 == 1 then not b else b) same
