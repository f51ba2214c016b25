-- The gate of a conjunction has its value, and is one.
use Rattle.std.proofs.Common.{◌≡◌, ◌≢◌, ◌<◌, ◌≤◌, ℕ, ◌+◌, ◌*◌, ◌/◌, ◌%◌, ◌&&◌, ◌||◌, Bool, true, false, not, List, [], ◌∷◌, ◌++◌, length, get_or, Option, Some, None, ◌⊎◌, refl, sym, subst, ap, ◌∙◌, arith, inl, inr, length-append, min, max}
use Rattle.std.specs.Prelude.{◌==◌, if◌then◌else◌, MatchOption}
use Rattle.std.proofs.Math.Bool.{and_comm, and_self, and-true, and-false, not-and_self, not-not}
use Rattle.std.proofs.lemmas.Bool.{cases_eq, cases_lt, eqb-true, eqb-false, eq-eqb}
use Rattle.std.proofs.lemmas.Option.{slice_get_within, same_Some, none-some}
use Rattle.gate_core.specs.declared.circuit.Node.{Node}
use Rattle.gate_core.specs.declared.circuit.Node.TheVariants.{Zero, And}
use Rattle.gate_core.specs.Circuit.{gate_value, is_negated, negation, values_behind, value, conjunction, simplified, IsOf, Keeps, IsCircuit, StandsAt, PutsOnce, Joins, PairsHaveOneGate, IsJoined}
use Rattle.gate_core.proofs.Places.{split_at_place, slice_get-append}
use Rattle.gate_core.proofs.Values.{keeps_by, keeps_same, value_pushed, value_standing, edge}

-- a test of the edge, as a number below two
edge_cases : (g : ℕ) → ((g % 2 ≡ 0) × (is_negated g ≡ false)) ⊎ ((g % 2 ≡ 1) × (is_negated g ≡ true))
edge_cases g = elim (cases_eq (g % 2) 0) [
  | inl even ↦ inl (even, ap (λ r. r == 1) even)
  | inr odd ↦ (let one : g % 2 ≡ 1 = omega arith in inr (one, ap (λ r. r == 1) one))
]

odd_edge : (values : List Bool) (place : ℕ) → gate_value values (2 * place + 1) ≡ not (get_or values place false)
odd_edge values place =
    let odd : (2 * place + 1) % 2 ≡ 1 = omega arith in
    let half : (2 * place + 1) / 2 ≡ place = omega arith in
    ap (λ r. if r == 1 then not (get_or values ((2 * place + 1) / 2) false) else get_or values ((2 * place + 1) / 2) false) odd
    ∙ ap (λ i. not (get_or values i false)) half

-- the other edge has the other value
pub gate_value-negation : (values : List Bool) (g : ℕ) → gate_value values (negation g) ≡ not (gate_value values g)
gate_value-negation values g =
    elim (edge_cases g) [
      | inl even ↦
          (let other : negation g ≡ 2 * (g / 2) + 1 = ap (λ b. if b then 2 * (g / 2) else 2 * (g / 2) + 1) even.1 in
          ap (λ h. gate_value values h) other ∙ odd_edge values (g / 2) ∙ ap (λ b. not (if b then not (get_or values (g / 2) false) else get_or values (g / 2) false)) (sym even.1))
      | inr odd ↦
          (let other : negation g ≡ 2 * (g / 2) = ap (λ b. if b then 2 * (g / 2) else 2 * (g / 2) + 1) odd.1 in
          ap (λ h. gate_value values h) other ∙ edge values (g / 2) ∙ sym (not-not (get_or values (g / 2) false)) ∙ ap (λ b. not (if b then not (get_or values (g / 2) false) else get_or values (g / 2) false)) (sym odd.1))
    ]

pub value-negation : (inputs : ℕ → Bool) (nodes : List Node) (g : ℕ) → value inputs nodes (negation g) ≡ not (value inputs nodes g)
unfolding value
value-negation inputs nodes g = gate_value-negation (values_behind inputs [] nodes) g

pub value_zero : (inputs : ℕ → Bool) (nodes : List Node) → IsCircuit nodes → value inputs nodes 0 ≡ false
value_zero inputs nodes circuit =
    let parts = split_at_place nodes 0 Zero circuit.first in
    let whole : Keeps (parts.0 ++ Zero ∷ []) nodes = keeps_by (parts.0 ++ Zero ∷ []) nodes parts.1 parts.2 in
    let none : length parts.0 ≡ 0 = parts.3 in
    whole.values inputs 0 (omega (arith, length-append parts.0 (Zero ∷ [])))
    ∙ ap (λ n. value inputs (parts.0 ++ Zero ∷ []) (2 * n)) (sym none)
    ∙ value_pushed inputs parts.0 Zero

-- the cases of the tests
simplified_by : (v : ℕ → Bool) (a b g : ℕ) (p q r s t u : Bool) → v 0 ≡ false
    → (p ≡ true → v a ≡ false) → (q ≡ true → v b ≡ false) → (r ≡ true → v a ≡ not (v b))
    → (s ≡ true → v a ≡ true) → (t ≡ true → v a ≡ v b) → (u ≡ true → v b ≡ true)
    → (if p || q || r then Some 0 else (if s || t then Some b else (if u then Some a else None))) ≡ Some g → v g ≡ v a && v b
simplified_by v a b g true q r s t u zero hp hq hr hs ht hu is = ap v (sym (same_Some 0 g is)) ∙ zero ∙ ap (λ x. x && v b) (sym (hp refl))
simplified_by v a b g false true r s t u zero hp hq hr hs ht hu is = ap v (sym (same_Some 0 g is)) ∙ zero ∙ sym (and-false (v a)) ∙ ap (λ x. v a && x) (sym (hq refl))
simplified_by v a b g false false true s t u zero hp hq hr hs ht hu is = ap v (sym (same_Some 0 g is)) ∙ zero ∙ sym (not-and_self (v b)) ∙ ap (λ x. x && v b) (sym (hr refl))
simplified_by v a b g false false false true t u zero hp hq hr hs ht hu is = ap v (sym (same_Some b g is)) ∙ ap (λ x. x && v b) (sym (hs refl))
simplified_by v a b g false false false false true u zero hp hq hr hs ht hu is = ap v (sym (same_Some b g is)) ∙ sym (and_self (v b)) ∙ ap (λ x. x && v b) (sym (ht refl))
simplified_by v a b g false false false false false true zero hp hq hr hs ht hu is = ap v (sym (same_Some a g is)) ∙ sym (and-true (v a)) ∙ ap (λ x. v a && x) (sym (hu refl))
simplified_by v a b g false false false false false false zero hp hq hr hs ht hu is = absurd (none-some g is)

-- over any values that negate at the edges, the simplified gate is the conjunction
pub simplified_value : (v : ℕ → Bool) (a b g : ℕ) → v 0 ≡ false → ((h : ℕ) → v (negation h) ≡ not (v h)) → simplified a b ≡ Some g → v g ≡ v a && v b
simplified_value v a b g zero flips is =
    simplified_by v a b g (a == 0) (b == 0) (a == negation b) (a == 1) (a == b) (b == 1) zero
    (λ e. ap v (eqb-true a 0 e) ∙ zero) (λ e. ap v (eqb-true b 0 e) ∙ zero)
    (λ e. ap v (eqb-true a (negation b) e) ∙ flips b)
    (λ e. ap v (eqb-true a 1 e) ∙ flips 0 ∙ ap not zero)
    (λ e. ap v (eqb-true a b e))
    (λ e. ap v (eqb-true b 1 e) ∙ flips 0 ∙ ap not zero) is

of_by : (nodes : List Node) (a b g : ℕ) (p s u : Bool) → IsOf nodes 0 → IsOf nodes a → IsOf nodes b
    → (if p then Some 0 else (if s then Some b else (if u then Some a else None))) ≡ Some g → IsOf nodes g
of_by nodes a b g true s u of_0 of_a of_b is = subst (IsOf nodes) (same_Some 0 g is) of_0
of_by nodes a b g false true u of_0 of_a of_b is = subst (IsOf nodes) (same_Some b g is) of_b
of_by nodes a b g false false true of_0 of_a of_b is = subst (IsOf nodes) (same_Some a g is) of_a
of_by nodes a b g false false false of_0 of_a of_b is = absurd (none-some g is)

pub simplified_of : (nodes : List Node) (a b g : ℕ) → IsOf nodes 0 → IsOf nodes a → IsOf nodes b → simplified a b ≡ Some g → IsOf nodes g
simplified_of nodes a b g of_0 of_a of_b is = of_by nodes a b g ((a == 0) || (b == 0) || (a == negation b)) ((a == 1) || (a == b)) (b == 1) of_0 of_a of_b is

pub and_simplified : (inputs : ℕ → Bool) (nodes : List Node) (a b g : ℕ) → IsCircuit nodes → simplified a b ≡ Some g → value inputs nodes g ≡ value inputs nodes a && value inputs nodes b
and_simplified inputs nodes a b g circuit is =
    simplified_value (value inputs nodes) a b g (value_zero inputs nodes circuit) (value-negation inputs nodes) is

-- the circuit to which a node was put at most keeps its values
pub keeps_once : (old new : List Node) (node : Node) → PutsOnce old new node → Keeps old new
keeps_once old new node puts = elim puts [
  | inl same ↦ keeps_same old new same
  | inr more ↦ keeps_by old new (node ∷ []) more.1
]

pub of_place : (nodes : List Node) (node : Node) (place : ℕ) → StandsAt nodes node place → IsOf nodes (2 * place)
of_place nodes node place at = (let within = slice_get_within nodes place node at in omega arith)

pub and_joined : (inputs : ℕ → Bool) (old new : List Node) (a b place : ℕ) → IsCircuit new → StandsAt new (And (min a b) (max a b)) place → Keeps old new → IsOf old a → IsOf old b
    → value inputs new (2 * place) ≡ value inputs old a && value inputs old b
and_joined inputs old new a b place circuit at kept of_a of_b =
    let before = circuit.earlier place (min a b) (max a b) at in
    let joined : value inputs new (2 * place) ≡ value inputs new (min a b) && value inputs new (max a b) = value_standing inputs new (min a b) (max a b) place at before.0 before.1 in
    let sides : value inputs new (min a b) && value inputs new (max a b) ≡ value inputs new a && value inputs new b =
    elim (cases_lt a b) [
      | inl less ↦ (let low : min a b ≡ a = omega arith in let high : max a b ≡ b = omega arith in ap (λ g. value inputs new g && value inputs new (max a b)) low ∙ ap (λ g. value inputs new a && value inputs new g) high)
      | inr more ↦ (let low : min a b ≡ b = omega arith in let high : max a b ≡ a = omega arith in ap (λ g. value inputs new g && value inputs new (max a b)) low ∙ ap (λ g. value inputs new b && value inputs new g) high ∙ and_comm (value inputs new b) (value inputs new a))
    ] in
    joined ∙ sides ∙ ap (λ v. v && value inputs new b) (kept.values inputs a of_a) ∙ ap (λ v. value inputs old a && v) (kept.values inputs b of_b)

-- the negation of a negation is the gate
negation_twice : (g : ℕ) → negation (negation g) ≡ g
negation_twice g =
    elim (edge_cases g) [
      | inl even ↦
          (let other : negation g ≡ 2 * (g / 2) + 1 = ap (λ b. if b then 2 * (g / 2) else 2 * (g / 2) + 1) even.1 in
          let odd : (2 * (g / 2) + 1) % 2 ≡ 1 = omega arith in
          ap negation other ∙ ap (λ r. if r == 1 then 2 * ((2 * (g / 2) + 1) / 2) else 2 * ((2 * (g / 2) + 1) / 2) + 1) odd ∙ (let is_even = even.0 in omega arith))
      | inr odd ↦
          (let other : negation g ≡ 2 * (g / 2) = ap (λ b. if b then 2 * (g / 2) else 2 * (g / 2) + 1) odd.1 in
          let even : (2 * (g / 2)) % 2 ≡ 0 = omega arith in
          ap negation other ∙ ap (λ r. if r == 1 then 2 * ((2 * (g / 2)) / 2) else 2 * ((2 * (g / 2)) / 2) + 1) even ∙ (let is_odd = odd.0 in omega arith))
    ]

same_tests : (p q : Bool) → (p ≡ true → q ≡ true) → (q ≡ true → p ≡ true) → p ≡ q
same_tests true q forth back = sym (forth refl)
same_tests false true forth back = back refl
same_tests false false forth back = refl

eqb_comm : (a b : ℕ) → (a == b) ≡ (b == a)
eqb_comm a b = same_tests (a == b) (b == a) (λ e. eq-eqb b a (sym (eqb-true a b e))) (λ e. eq-eqb a b (sym (eqb-true b a e)))

eqb_negation : (a b : ℕ) → (a == negation b) ≡ (b == negation a)
eqb_negation a b = same_tests (a == negation b) (b == negation a)
    (λ e. eq-eqb b (negation a) (sym (negation_twice b) ∙ ap negation (sym (eqb-true a (negation b) e))))
    (λ e. eq-eqb a (negation b) (sym (negation_twice a) ∙ ap negation (sym (eqb-true b (negation a) e))))

comm_by : (a b : ℕ) (p q r s t u : Bool) → (t ≡ true → a ≡ b) → (s ≡ true → u ≡ true → a ≡ b)
    → (if p || q || r then Some 0 else (if s || t then Some b else (if u then Some a else None)))
    ≡ (if q || p || r then Some 0 else (if u || t then Some a else (if s then Some b else None)))
comm_by a b true true r s t u same ones = refl
comm_by a b true false r s t u same ones = refl
comm_by a b false true r s t u same ones = refl
comm_by a b false false true s t u same ones = refl
comm_by a b false false false true t true same ones = ap (λ (n : ℕ). Some n) (sym (ones refl refl))
comm_by a b false false false true true false same ones = ap (λ (n : ℕ). Some n) (sym (same refl))
comm_by a b false false false true false false same ones = refl
comm_by a b false false false false true true same ones = ap (λ (n : ℕ). Some n) (sym (same refl))
comm_by a b false false false false true false same ones = ap (λ (n : ℕ). Some n) (sym (same refl))
comm_by a b false false false false false true same ones = refl
comm_by a b false false false false false false same ones = refl

simplified_comm : (a b : ℕ) → simplified a b ≡ simplified b a
simplified_comm a b =
    comm_by a b (a == 0) (b == 0) (a == negation b) (a == 1) (a == b) (b == 1) (λ e. eqb-true a b e) (λ e f. eqb-true a 1 e ∙ sym (eqb-true b 1 f))
    ∙ ap (λ r. if (b == 0) || (a == 0) || r then Some 0 else (if (b == 1) || (a == b) then Some a else (if a == 1 then Some b else None))) (eqb_negation a b)
    ∙ ap (λ t. if (b == 0) || (a == 0) || (b == negation a) then Some 0 else (if (b == 1) || t then Some a else (if a == 1 then Some b else None))) (eqb_comm a b)

one_gate : (nodes more : List Node) (a b gate other : ℕ) (o : Option ℕ) → IsCircuit (nodes ++ more)
    → MatchOption o ((place : ℕ) × (gate ≡ 2 * place) × StandsAt nodes (conjunction a b) place) (λ known. gate ≡ known)
    → MatchOption o ((place : ℕ) × (other ≡ 2 * place) × StandsAt (nodes ++ more) (conjunction b a) place) (λ known. other ≡ known)
    → gate ≡ other
one_gate nodes more a b gate other (Some known) circuit first second = first ∙ sym second
one_gate nodes more a b gate other None circuit first second =
    let low : min b a ≡ min a b = omega arith in
    let high : max b a ≡ max a b = omega arith in
    let same : conjunction b a ≡ conjunction a b = ap (λ g. And g (max b a)) low ∙ ap (λ g. And (min a b) g) high in
    let place : first.0 ≡ second.0 = circuit.once first.0 second.0 (min a b) (max a b)
    (slice_get-append nodes more first.0 (conjunction a b) first.2)
    (second.2 ∙ ap (λ (n : Node). Some n) same) in
    first.1 ∙ ap (λ p. 2 * p) place ∙ sym second.1

pub pairs_one : PairsHaveOneGate
pairs_one nodes more a b gate other circuit first second =
    one_gate nodes more a b gate other (simplified a b) circuit first
    (subst (λ o. MatchOption o ((place : ℕ) × (other ≡ 2 * place) × StandsAt (nodes ++ more) (conjunction b a) place) (λ known. other ≡ known)) (sym (simplified_comm a b)) second)

-- a simplified conjunction, and one that a node holds
pub joins_known : (nodes : List Node) (a b gate : ℕ) → IsCircuit nodes → IsOf nodes a → IsOf nodes b → Some gate ≡ simplified a b → IsJoined nodes nodes a b gate
joins_known nodes a b gate circuit of_a of_b is = record {
  value = λ inputs. and_simplified inputs nodes a b gate circuit (sym is);
  of = simplified_of nodes a b gate (of_place nodes Zero 0 circuit.first) of_a of_b (sym is);
  gate_is = subst (λ o. MatchOption o ((place : ℕ) × (gate ≡ 2 * place) × StandsAt nodes (conjunction a b) place) (λ known. gate ≡ known)) is refl;
  nodes = subst (λ o. MatchOption o (PutsOnce nodes nodes (conjunction a b)) (λ known. nodes ≡ nodes)) is refl;
  keeps = keeps_same nodes nodes refl;
}

pub joins_node : (old new : List Node) (a b first second place gate : ℕ) → IsCircuit new → IsOf old a → IsOf old b → None ≡ simplified a b → first ≡ min a b → second ≡ max a b
    → StandsAt new (And first second) place → PutsOnce old new (And first second) → gate ≡ 2 * place → IsJoined old new a b gate
joins_node old new a b first second place gate circuit of_a of_b none is_first is_second stands puts is =
    let node : And first second ≡ conjunction a b = ap (λ g. And g second) is_first ∙ ap (λ g. And (min a b) g) is_second in
    let at : StandsAt new (conjunction a b) place = stands ∙ ap (λ (n : Node). Some n) node in
    let kept : Keeps old new = keeps_once old new (And first second) puts in
    record {
      value = λ inputs. ap (value inputs new) is ∙ and_joined inputs old new a b place circuit at kept of_a of_b;
      of = subst (IsOf new) (sym is) (of_place new (conjunction a b) place at);
      gate_is = subst (λ o. MatchOption o ((p : ℕ) × (gate ≡ 2 * p) × StandsAt new (conjunction a b) p) (λ known. gate ≡ known)) none (place, is, at);
      nodes = subst (λ o. MatchOption o (PutsOnce old new (conjunction a b)) (λ known. new ≡ old)) none (subst (PutsOnce old new) node puts);
      keeps = kept;
    }

-- the same, for a gate that is named by what it is
pub value_negated : (inputs : ℕ → Bool) (nodes : List Node) (g h : ℕ) → h ≡ negation g → value inputs nodes h ≡ not (value inputs nodes g)
value_negated inputs nodes g h is = ap (value inputs nodes) is ∙ value-negation inputs nodes g

pub value_constant : (inputs : ℕ → Bool) (nodes : List Node) (truth : Bool) (g : ℕ) → IsCircuit nodes → g ≡ (if truth then 1 else 0) → value inputs nodes g ≡ truth
value_constant inputs nodes true g circuit is = ap (value inputs nodes) is ∙ value-negation inputs nodes 0 ∙ ap not (value_zero inputs nodes circuit)
value_constant inputs nodes false g circuit is = ap (value inputs nodes) is ∙ value_zero inputs nodes circuit

-- gates whose conjunction needs a node are no constants
free_by : (a b : ℕ) (p q r s t u : Bool) → (p ≡ false → a ≢ 0) → (q ≡ false → b ≢ 0) → (s ≡ false → a ≢ 1) → (u ≡ false → b ≢ 1)
    → None ≡ (if p || q || r then Some 0 else (if s || t then Some b else (if u then Some a else None))) → (1 < a) × (1 < b)
free_by a b true q r s t u hp hq hs hu is = absurd (none-some 0 is)
free_by a b false true r s t u hp hq hs hu is = absurd (none-some 0 is)
free_by a b false false true s t u hp hq hs hu is = absurd (none-some 0 is)
free_by a b false false false true t u hp hq hs hu is = absurd (none-some b is)
free_by a b false false false false true u hp hq hs hu is = absurd (none-some b is)
free_by a b false false false false false true hp hq hs hu is = absurd (none-some a is)
free_by a b false false false false false false hp hq hs hu is =
    let a0 = hp refl in
    let b0 = hq refl in
    let a1 = hs refl in
    let b1 = hu refl in
    (omega arith, omega arith)

pub free_sides : (a b : ℕ) → None ≡ simplified a b → (1 < a) × (1 < b)
free_sides a b is =
    free_by a b (a == 0) (b == 0) (a == negation b) (a == 1) (a == b) (b == 1) (eqb-false a 0) (eqb-false b 0) (eqb-false a 1) (eqb-false b 1) is

-- a conjunction adds one node at most
few_by : (o : Option ℕ) (old new : List Node) (node : Node) → MatchOption o (PutsOnce old new node) (λ known. new ≡ old) → length new ≤ length old + 1
few_by (Some known) old new node same = omega (arith, ap length same)
few_by None old new node puts = elim puts [
  | inl same ↦ omega (arith, ap length same)
  | inr more ↦ omega (arith, ap length more.1, length-append old (node ∷ []))
]

pub joins_few : (a b : ℕ) (old new : List Node) → Joins a b old new → length new ≤ length old + 1
joins_few a b old new joins = few_by (simplified a b) old new (conjunction a b) joins
