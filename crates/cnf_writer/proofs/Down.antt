-- From the roots down to the first node.
use Rattle.std.proofs.Common.{◌≡◌, ◌≢◌, ℕ, ◌+◌, ◌*◌, ◌/◌, ◌<◌, ◌≤◌, Bool, true, false, ◌&&◌, List, ◌++◌, length, get_or, refl, sym, ap, subst, ◌∙◌, arith, inl, inr}
use Rattle.std.specs.Prelude.{slice_get, slice_set}
use Rattle.std.proofs.lemmas.Bool.{cases_eq, cases_lt, false≢true, and_parts, and_from}
use Rattle.std.proofs.lemmas.List.{get_or-set_same, get_or-set_other, length-set, get_or_past}
use Rattle.std.proofs.lemmas.List.Folds.{list_all-append}
use Rattle.std.proofs.lemmas.Option.{same_Some}
use Rattle.gate_core.specs.declared.circuit.Node.{Node}
use Rattle.gate_core.specs.declared.circuit.Node.TheVariants.{Zero, Input, And}
use Rattle.gate_core.specs.Circuit.{StandsAt}
use Rattle.cnf_core.specs.Truth.{lit_holds, clause_holds, clauses_hold}
use Rattle.cnf_writer.specs.Progress.{node_clauses, is_marked, IsDown}
use Rattle.cnf_writer.proofs.Truths.{node_joined, node_holds}

abbrev side_a : Node → ℕ
side_a (And a b) = a
side_a Zero = 0
side_a Input = 0

abbrev side_b : Node → ℕ
side_b (And a b) = b
side_b Zero = 0
side_b Input = 0

-- marks stay, and no mark is made at or behind a place by marks before it
pub marks_more : (marks : List Bool) (i n : ℕ) → is_marked marks n ≡ true → is_marked (slice_set marks i true) n ≡ true
marks_more marks i n h = elim (cases_eq n i) [
  | inl same ↦ elim (cases_lt n (length marks)) [
    | inl within ↦ ap (λ k. get_or (slice_set marks i true) k false) same ∙ get_or-set_same marks i true false (subst (λ k. k < length marks) same within)
    | inr past ↦ absurd (false≢true (sym (get_or_past marks n false past) ∙ h))
  ]
  | inr other ↦ get_or-set_other marks i n true false other ∙ h
]

marks_same : (marks : List Bool) (i n : ℕ) → i < n → is_marked (slice_set marks i true) n ≡ is_marked marks n
marks_same marks i n less = (let ne : n ≢ i = omega arith in get_or-set_other marks i n true false ne)

pub marks_here : (marks : List Bool) (i : ℕ) → i < length marks → is_marked (slice_set marks i true) i ≡ true
marks_here marks i within = get_or-set_same marks i true false within

-- a place that has nothing to write
pub down_over : (nodes : List Node) (roots : List ℕ) (place : ℕ) (marks : List Bool) (clauses : List (List ℕ)) → ((a b : ℕ) → is_marked marks place ≡ true → StandsAt nodes (And a b) place → ⊥)
    → IsDown nodes roots (place + 1) marks clauses → IsDown nodes roots place marks clauses
down_over nodes roots place marks clauses none down = record {
  marked = down.marked;
  sides = λ n a b from marked at. elim (cases_lt place n) [
    | inl behind ↦ down.sides n a b (omega arith) marked at
    | inr up_to ↦ (let here : n ≡ place = omega arith in
        absurd (none a b (subst (λ k. is_marked marks k ≡ true) here marked) (subst (λ k. StandsAt nodes (And a b) k) here at)))
  ];
  roots_hold = down.roots_hold;
  joined = λ values holds n a b from marked at. elim (cases_lt place n) [
    | inl behind ↦ down.joined values holds n a b (omega arith) marked at
    | inr up_to ↦ (let here : n ≡ place = omega arith in
        absurd (none a b (subst (λ k. is_marked marks k ≡ true) here marked) (subst (λ k. StandsAt nodes (And a b) k) here at)))
  ];
  enough = λ values roots_true joined. down.enough values roots_true (λ n a b from marked at. joined n a b (omega arith) marked at);
}

-- a conjunction that is marked is written
pub down_node : (nodes : List Node) (roots : List ℕ) (place a b : ℕ) (marks : List Bool) (clauses : List (List ℕ)) → is_marked marks place ≡ true → StandsAt nodes (And a b) place
    → place < length marks → a < 2 * place → b < 2 * place → IsDown nodes roots (place + 1) marks clauses
    → IsDown nodes roots place (slice_set (slice_set marks (a / 2) true) (b / 2) true) (clauses ++ node_clauses place a b)
down_node nodes roots place a b marks clauses is_mark at within less_a less_b down =
    let first = slice_set marks (a / 2) true in
    let new = slice_set first (b / 2) true in
    let stay : (n : ℕ) → is_marked marks n ≡ true → is_marked new n ≡ true = λ n h. marks_more first (b / 2) n (marks_more marks (a / 2) n h) in
    let same : (n : ℕ) → place ≤ n → is_marked new n ≡ is_marked marks n = λ n from. marks_same first (b / 2) n (omega arith) ∙ marks_same marks (a / 2) n (omega arith) in
    let mark_a : is_marked new (a / 2) ≡ true = marks_more first (b / 2) (a / 2) (marks_here marks (a / 2) (omega arith)) in
    let mark_b : is_marked new (b / 2) ≡ true = marks_here first (b / 2) (omega (arith, length-set marks (a / 2) true)) in
    let parts : (values : ℕ → Bool) → clauses_hold values (clauses ++ node_clauses place a b) ≡ (clauses_hold values clauses && clauses_hold values (node_clauses place a b)) =
    λ values. list_all-append (clause_holds values) clauses (node_clauses place a b) in
    record {
      marked = λ k r is. stay (r / 2) (down.marked k r is);
      sides = λ n x y from marked stands. elim (cases_lt place n) [
        | inl behind ↦ (let old = down.sides n x y (omega arith) (sym (same n from) ∙ marked) stands in (stay (x / 2) old.0, stay (y / 2) old.1))
        | inr up_to ↦ (let here : n ≡ place = omega arith in
            let pair : And x y ≡ And a b = same_Some (And x y) (And a b) (sym stands ∙ ap (slice_get nodes) here ∙ at) in
            (subst (λ (m : Node). is_marked new (side_a m / 2) ≡ true) (sym pair) mark_a, subst (λ (m : Node). is_marked new (side_b m / 2) ≡ true) (sym pair) mark_b))
      ];
      roots_hold = λ values holds. down.roots_hold values (and_parts (clauses_hold values clauses) (clauses_hold values (node_clauses place a b)) (sym (parts values) ∙ holds)).0;
      joined = λ values holds n x y from marked stands.
          let halves = and_parts (clauses_hold values clauses) (clauses_hold values (node_clauses place a b)) (sym (parts values) ∙ holds) in
          elim (cases_lt place n) [
            | inl behind ↦ down.joined values halves.0 n x y (omega arith) (sym (same n from) ∙ marked) stands
            | inr up_to ↦ (let here : n ≡ place = omega arith in
                let pair : And x y ≡ And a b = same_Some (And x y) (And a b) (sym stands ∙ ap (slice_get nodes) here ∙ at) in
                ap values here ∙ subst (λ (m : Node). values place ≡ (lit_holds values (side_a m) && lit_holds values (side_b m))) (sym pair) (node_joined values place a b halves.1))
          ];
      enough = λ values roots_true joined.
          parts values
          ∙ and_from (clauses_hold values clauses) (clauses_hold values (node_clauses place a b))
          (down.enough values roots_true (λ n x y from marked stands. joined n x y (omega arith) (same n (omega arith) ∙ marked) stands))
          (node_holds values place a b (joined place a b (omega arith) (same place (omega arith) ∙ is_mark) at));
    }
