-- The roots at the beginning, and the whole formula at the end.
use Rattle.std.proofs.Common.{◌≡◌, ℕ, zero, suc, ◌+◌, ◌-◌, ◌*◌, ◌/◌, ◌<◌, Bool, true, false, ◌&&◌, ◌||◌, List, [], ◌∷◌, ◌++◌, length, take, get_or, refl, sym, ap, subst, ◌∙◌, arith, inl, inr, All}
use Rattle.std.specs.Prelude.{◌==◌, if◌then◌else◌, slice_get, slice_set, Some}
use Rattle.std.specs.List.{list_all}
use Rattle.std.proofs.lemmas.Bool.{cases_eq, cases_lt, false≢true, eqb-true, eq-eqb, and_parts, and_from}
use Rattle.std.proofs.lemmas.List.{take_more, take_all}
use Rattle.std.proofs.lemmas.List.Folds.{list_all-append}
use Rattle.std.proofs.lemmas.Option.{none-some, slice_get_within, same_Some, slice_get-get_or, get_or_from_slice_get}
use Rattle.gate_core.specs.declared.circuit.Node.{Node}
use Rattle.gate_core.specs.declared.circuit.Node.TheVariants.{Zero, Input, And}
use Rattle.gate_core.specs.Circuit.{value, StandsAt, IsCircuit, IsOf}
use Rattle.gate_core.proofs.Values.{value_standing, value_standing_input}
use Rattle.gate_core.proofs.Conjunctions.{value_zero, value_constant}
use Rattle.cnf_core.specs.Clauses.{Clauses}
use Rattle.cnf_core.specs.Truth.{lit_holds, clause_holds, clauses_hold}
use Rattle.cnf_writer.specs.Written.{IsBelow, root, left, right, values_of, IsWritten}
use Rattle.cnf_writer.specs.Progress.{root_clauses, root_holds, is_marked, IsRooted, IsDown}
use Rattle.cnf_writer.proofs.Truths.{gate_by_node, lit-same}
use Rattle.cnf_writer.proofs.Down.{marks_more, marks_here}

or_false : (b : Bool) → ((b || false) && true) ≡ b
or_false true = refl
or_false false = refl

-- the clauses of a root
root_by : (v : ℕ → Bool) (r : ℕ) (one none : Bool) → clauses_hold v (if one then [] else (if none then [] ∷ [] else (r ∷ []) ∷ [])) ≡ (if one then true else (if none then false else lit_holds v r))
root_by v r true none = refl
root_by v r false true = refl
root_by v r false false = or_false (lit_holds v r)

pub rooted_none : (roots : List ℕ) (marks : List Bool) → IsRooted roots 0 marks []
rooted_none roots marks = record { marked = λ k r less is. absurd (omega arith); holds = λ values. refl }

and_one : (b : Bool) → b ≡ (b && true)
and_one true = refl
and_one false = refl

pub rooted_more : (roots : List ℕ) (i r : ℕ) (marks : List Bool) (clauses : List (List ℕ)) → IsRooted roots i marks clauses → i < length roots → r ≡ get_or roots i r → r / 2 < length marks
    → IsRooted roots (i + 1) (slice_set marks (r / 2) true) (clauses ++ root_clauses r)
rooted_more roots i r marks clauses part within at inside = record {
  marked = λ k s less is. elim (cases_lt k i) [
    | inl before ↦ marks_more marks (r / 2) (s / 2) (part.marked k s before is)
    | inr up_to ↦ (let here : k ≡ i = omega arith in
        let same : s ≡ r = sym (get_or_from_slice_get roots k s r is) ∙ ap (λ n. get_or roots n r) here ∙ sym at in
        subst (λ n. is_marked (slice_set marks (r / 2) true) (n / 2) ≡ true) (sym same) (marks_here marks (r / 2) inside))
  ];
  holds = λ values.
      list_all-append (clause_holds values) clauses (root_clauses r)
      ∙ ap (λ b. b && clauses_hold values (root_clauses r)) (part.holds values)
      ∙ ap (λ b. list_all (root_holds values) (take i roots) && b) (root_by values r (r == 1) (r == 0) ∙ and_one (root_holds values r))
      ∙ sym (list_all-append (root_holds values) (take i roots) (r ∷ []))
      ∙ ap (list_all (root_holds values)) (sym (take_more roots i r within ∙ ap (λ x. take i roots ++ x ∷ []) (sym at)));
}

-- all roots are marked, and no node is gone through yet
pub down_begins : (nodes : List Node) (roots : List ℕ) (from : ℕ) (marks : List Bool) (clauses : List (List ℕ)) → from ≡ length nodes → IsRooted roots (length roots) marks clauses → IsDown nodes roots from marks clauses
down_begins nodes roots from marks clauses is rooted =
    let all : (values : ℕ → Bool) → clauses_hold values clauses ≡ list_all (root_holds values) roots =
    λ values. rooted.holds values ∙ ap (list_all (root_holds values)) (take_all (length roots) roots (omega arith)) in
    record {
      marked = λ k r at. rooted.marked k r (slice_get_within roots k r at) at;
      sides = λ n a b behind marked at. absurd (let inside = slice_get_within nodes n (And a b) at in omega arith);
      roots_hold = λ values holds. sym (all values) ∙ holds;
      joined = λ values holds n a b behind marked at. absurd (let inside = slice_get_within nodes n (And a b) at in omega arith);
      enough = λ values roots_true joined. all values ∙ roots_true;
    }

-- every node below the roots is marked
below_marked : (nodes : List Node) (roots : List ℕ) (marks : List Bool) (clauses : List (List ℕ)) → IsDown nodes roots 0 marks clauses → (n : ℕ) → IsBelow nodes roots n → is_marked marks n ≡ true
below_marked nodes roots marks clauses down n (root i gate at) = down.marked i gate at
below_marked nodes roots marks clauses down n (left place a b below at) = (down.sides place a b (omega arith) (below_marked nodes roots marks clauses down place below) at).0
below_marked nodes roots marks clauses down n (right place a b below at) = (down.sides place a b (omega arith) (below_marked nodes roots marks clauses down place below) at).1

told_node : (values : ℕ → Bool) (nodes : List Node) (roots : List ℕ) (marks : List Bool) (clauses : List (List ℕ)) → IsCircuit nodes → IsDown nodes roots 0 marks clauses → clauses_hold values clauses ≡ true
    → (n : ℕ) → 0 < n → n < length nodes → is_marked marks n ≡ true → (node : Node) → StandsAt nodes node n
    → ((m : ℕ) → m < n → 0 < m → m < length nodes → is_marked marks m ≡ true → values m ≡ value values nodes (2 * m)) → values n ≡ value values nodes (2 * n)
told_node values nodes roots marks clauses circuit down holds n some within marked Zero at before = absurd (let none = circuit.only n at in omega arith)
told_node values nodes roots marks clauses circuit down holds n some within marked Input at before = sym (value_standing_input values nodes n at)
told_node values nodes roots marks clauses circuit down holds n some within marked (And a b) at before =
    let earlier = circuit.earlier n a b at in
    let free = circuit.free n a b at in
    let sides = down.sides n a b (omega arith) marked at in
    let half_a : a / 2 < n = (let e = earlier.0 in omega arith) in
    let half_b : b / 2 < n = (let e = earlier.1 in omega arith) in
    let some_a : 0 < a / 2 = (let f = free.0 in omega arith) in
    let some_b : 0 < b / 2 = (let f = free.1 in omega arith) in
    let is_a : lit_holds values a ≡ value values nodes a =
    lit-same values (λ m. value values nodes (2 * m)) a (before (a / 2) half_a some_a (omega arith) sides.0) ∙ gate_by_node values nodes a in
    let is_b : lit_holds values b ≡ value values nodes b =
    lit-same values (λ m. value values nodes (2 * m)) b (before (b / 2) half_b some_b (omega arith) sides.1) ∙ gate_by_node values nodes b in
    down.joined values holds n a b (omega arith) marked at
    ∙ ap (λ x. x && lit_holds values b) is_a ∙ ap (λ y. value values nodes a && y) is_b
    ∙ sym (value_standing values nodes a b n at earlier.0 earlier.1)

-- a marked node has its value under the inputs that a satisfying assignment shows
told_by : (values : ℕ → Bool) (nodes : List Node) (roots : List ℕ) (marks : List Bool) (clauses : List (List ℕ)) → IsCircuit nodes → IsDown nodes roots 0 marks clauses → clauses_hold values clauses ≡ true
    → (bound n : ℕ) → n < bound → 0 < n → n < length nodes → is_marked marks n ≡ true → values n ≡ value values nodes (2 * n)
told_by values nodes roots marks clauses circuit down holds zero n less some within marked = absurd (omega arith)
told_by values nodes roots marks clauses circuit down holds (suc bound) n less some within marked =
    told_node values nodes roots marks clauses circuit down holds n some within marked (get_or nodes n Zero) (slice_get-get_or nodes n Zero within)
    (λ m before positive inside is_mark. told_by values nodes roots marks clauses circuit down holds bound m (omega arith) positive inside is_mark)

-- one of many that all pass
one_of_all : {X : Type 0} (test : X → Bool) (xs : List X) (i : ℕ) (x : X) → list_all test xs ≡ true → slice_get xs i ≡ Some x → test x ≡ true
one_of_all test [] i x h at = absurd (none-some x at)
one_of_all test (y ∷ ys) zero x h at = subst (λ z. test z ≡ true) (same_Some y x at) (and_parts (test y) (list_all test ys) h).0
one_of_all test (y ∷ ys) (suc i) x h at = one_of_all test ys i x (and_parts (test y) (list_all test ys) h).1 at

all_of_each : {X : Type 0} (test : X → Bool) (xs : List X) → ((i : ℕ) (x : X) → slice_get xs i ≡ Some x → test x ≡ true) → list_all test xs ≡ true
all_of_each test [] each = refl
all_of_each test (x ∷ xs) each = and_from (test x) (list_all test xs) (each 0 x refl) (all_of_each test xs (λ i y at. each (suc i) y at))

-- a root is true under an assignment that gives its node its value
root_value_by : (values : ℕ → Bool) (nodes : List Node) (r : ℕ) (one none : Bool) → IsCircuit nodes → (one ≡ true → r ≡ 1) → (none ≡ true → r ≡ 0) → (one ≡ false → none ≡ false → lit_holds values r ≡ value values nodes r)
    → (if one then true else (if none then false else lit_holds values r)) ≡ value values nodes r
root_value_by values nodes r true none circuit is_one is_none else_ = sym (ap (value values nodes) (is_one refl) ∙ value_constant values nodes true 1 circuit refl)
root_value_by values nodes r false true circuit is_one is_none else_ = sym (ap (value values nodes) (is_none refl) ∙ value_zero values nodes circuit)
root_value_by values nodes r false false circuit is_one is_none else_ = else_ refl refl

-- tests that fail
not_one : (r : ℕ) → (r == 1) ≡ false → (r == 0) ≡ false → 0 < r / 2
not_one r one none = elim (cases_lt 1 r) [
  | inl more ↦ omega arith
  | inr few ↦ elim (cases_eq r 0) [
    | inl zero_ ↦ absurd (false≢true (sym none ∙ eq-eqb r 0 zero_))
    | inr some ↦ absurd (false≢true (sym one ∙ eq-eqb r 1 (omega arith)))
  ]
]

-- a node below the roots is one of the circuit
below_inside : (nodes : List Node) (roots : List ℕ) → IsCircuit nodes → ((k r : ℕ) → slice_get roots k ≡ Some r → r / 2 < length nodes) → (n : ℕ) → IsBelow nodes roots n → n < length nodes
below_inside nodes roots circuit inside n (root i gate at) = inside i gate at
below_inside nodes roots circuit inside n (left place a b below at) =
    (let before = (circuit.earlier place a b at).0 in let within = slice_get_within nodes place (And a b) at in omega arith)
below_inside nodes roots circuit inside n (right place a b below at) =
    (let before = (circuit.earlier place a b at).1 in let within = slice_get_within nodes place (And a b) at in omega arith)

-- a root that is true is true under the values of the nodes
root_true_by : (v : ℕ → Bool) (r : ℕ) (one none : Bool) → (none ≡ true → ⊥) → lit_holds v r ≡ true → (if one then true else (if none then false else lit_holds v r)) ≡ true
root_true_by v r true none h k = refl
root_true_by v r false true h k = absurd (h refl)
root_true_by v r false false h k = k

root_true : (inputs : ℕ → Bool) (nodes : List Node) → IsCircuit nodes → (r : ℕ) → value inputs nodes r ≡ true → root_holds (values_of inputs nodes) r ≡ true
root_true inputs nodes circuit r is =
    root_true_by (values_of inputs nodes) r (r == 1) (r == 0)
    (λ none. false≢true (sym (value_zero inputs nodes circuit) ∙ ap (value inputs nodes) (sym (eqb-true r 0 none)) ∙ is))
    (gate_by_node inputs nodes r ∙ is)

-- the whole formula
pub written : (nodes : List Node) (roots : List ℕ) (marks : List Bool) (cnf : Clauses) → IsCircuit nodes → cnf.vars ≡ length nodes - 1 → All (IsOf nodes) roots → IsDown nodes roots 0 marks cnf.clauses
    → IsWritten nodes roots cnf
written nodes roots marks cnf circuit vars of down =
    let inside : (k r : ℕ) → slice_get roots k ≡ Some r → r / 2 < length nodes =
    λ k r at. (let is_of = of k r (slice_get_within roots k r at) in let same : get_or roots k r ≡ r = get_or_from_slice_get roots k r r at in omega arith) in
    let root_value : (values : ℕ → Bool) → ((m : ℕ) → 0 < m → m < length nodes → is_marked marks m ≡ true → values m ≡ value values nodes (2 * m)) → (k r : ℕ) → slice_get roots k ≡ Some r → root_holds values r ≡ value values nodes r =
    λ values told k r at. root_value_by values nodes r (r == 1) (r == 0) circuit (eqb-true r 1) (eqb-true r 0)
    (λ one none. lit-same values (λ m. value values nodes (2 * m)) r (told (r / 2) (not_one r one none) (inside k r at) (down.marked k r at)) ∙ gate_by_node values nodes r) in
    let is_told : (values : ℕ → Bool) → clauses_hold values cnf.clauses ≡ true → (m : ℕ) → 0 < m → m < length nodes → is_marked marks m ≡ true → values m ≡ value values nodes (2 * m) =
    λ values holds m some within marked. told_by values nodes roots marks cnf.clauses circuit down holds (suc m) m (omega arith) some within marked in
    record {
      vars = vars;
      told = λ values holds place some below.
          is_told values holds place some (below_inside nodes roots circuit inside place below) (below_marked nodes roots marks cnf.clauses down place below);
      roots_true = λ values holds k d within.
          let at : slice_get roots k ≡ Some (get_or roots k d) = slice_get-get_or roots k d within in
          sym (root_value values (is_told values holds) k (get_or roots k d) at) ∙ one_of_all (root_holds values) roots k (get_or roots k d) (down.roots_hold values holds) at;
      satisfied = λ inputs all.
          down.enough (values_of inputs nodes)
          (all_of_each (root_holds (values_of inputs nodes)) roots
          (λ k r at. root_true inputs nodes circuit r (let within = slice_get_within roots k r at in subst (λ x. value inputs nodes x ≡ true) (get_or_from_slice_get roots k r r at) (all k r within))))
          (λ n a b from marked at.
          let earlier = circuit.earlier n a b at in
          value_standing inputs nodes a b n at earlier.0 earlier.1
          ∙ ap (λ x. x && value inputs nodes b) (sym (gate_by_node inputs nodes a)) ∙ ap (λ y. lit_holds (values_of inputs nodes) a && y) (sym (gate_by_node inputs nodes b)));
    }
