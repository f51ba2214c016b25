-- How the values of a circuit grow with it.
use Rattle.std.proofs.Common.{◌≡◌, ℕ, suc, ◌+◌, ◌*◌, ◌/◌, ◌%◌, ◌<◌, ◌&&◌, Bool, false, not, List, [], ◌∷◌, ◌++◌, length, take, drop, get_or, slice_get, Some, All, refl, sym, subst, ap, ◌∙◌, arith, inl, inr, length-append, append_assoc}
use Rattle.std.specs.Prelude.{◌==◌, if◌then◌else◌}
use Rattle.std.proofs.lemmas.Bool.{cases_lt}
use Rattle.std.proofs.lemmas.List.{append-nil, get_or_append_left, get_or_at, length-take, take-append-drop, take_all}
use Rattle.std.proofs.lemmas.Option.{slice_get_within}
use Rattle.gate_core.proofs.Places.{split_at_place, slice_get-append}
use Rattle.gate_core.specs.declared.circuit.Node.{Node}
use Rattle.gate_core.specs.declared.circuit.Node.TheVariants.{Zero, Input, And}
use Rattle.gate_core.specs.Circuit.{gate_value, node_value, values_behind, value, IsOf, Keeps, StandsAt, InputsBelowDecide}

-- values behind nodes that stand are computed in two parts
pub values-append : (inputs : ℕ → Bool) (before : List Bool) (xs ys : List Node)
    → values_behind inputs before (xs ++ ys) ≡ values_behind inputs (values_behind inputs before xs) ys
unfolding values_behind
values-append inputs before [] ys = refl
values-append inputs before (x ∷ xs) ys = values-append inputs (before ++ node_value inputs before x ∷ []) xs ys

-- each node has one value
pub length-values : (inputs : ℕ → Bool) (before : List Bool) (nodes : List Node) → length (values_behind inputs before nodes) ≡ length before + length nodes
unfolding values_behind
length-values inputs before [] = omega arith
length-values inputs before (x ∷ xs) =
    omega (arith, length-values inputs (before ++ node_value inputs before x ∷ []) xs, length-append before (node_value inputs before x ∷ []))

-- values that stand stay
pub values_stand : (inputs : ℕ → Bool) (before : List Bool) (nodes : List Node) (i : ℕ) → i < length before
    → get_or (values_behind inputs before nodes) i false ≡ get_or before i false
unfolding values_behind
values_stand inputs before [] i within = refl
values_stand inputs before (x ∷ xs) i within =
    let longer : i < length (before ++ node_value inputs before x ∷ []) = omega (arith, length-append before (node_value inputs before x ∷ [])) in
    values_stand inputs (before ++ node_value inputs before x ∷ []) xs i longer ∙ get_or_append_left before (node_value inputs before x ∷ []) false i within

-- a gate's value is read at its node alone
pub gate_value-same : (old new : List Bool) (gate : ℕ) → get_or old (gate / 2) false ≡ get_or new (gate / 2) false → gate_value old gate ≡ gate_value new gate
gate_value-same old new gate same = ap (λ b. if gate % 2 == 1 then not b else b) same

-- so a gate over nodes that stand keeps its value
pub gate_stands : (inputs : ℕ → Bool) (before : List Bool) (nodes : List Node) (gate : ℕ) → gate < 2 * length before
    → gate_value (values_behind inputs before nodes) gate ≡ gate_value before gate
gate_stands inputs before nodes gate within =
    gate_value-same (values_behind inputs before nodes) before gate (values_stand inputs before nodes (gate / 2) (omega arith))

-- nodes behind those that stand change no value
pub keeps : (old more : List Node) → Keeps old (old ++ more)
unfolding value
keeps old more = record {
  more = more;
  behind = refl;
  values = λ inputs gate within.
      ap (λ vs. gate_value vs gate) (values-append inputs [] old more)
      ∙ gate_stands inputs (values_behind inputs [] old) more gate (omega (arith, length-values inputs [] old));
}

pub keeps_by : (old new more : List Node) → new ≡ old ++ more → Keeps old new
keeps_by old new more is = subst (λ ns. Keeps old ns) (sym is) (keeps old more)

pub keeps_same : (old new : List Node) → new ≡ old → Keeps old new
keeps_same old new is = keeps_by old new [] (is ∙ sym (append-nil old))

-- a gate stays one
pub of_more : (old new : List Node) (gate : ℕ) → Keeps old new → IsOf old gate → IsOf new gate
of_more old new gate keeps of = omega (arith, ap length keeps.behind, length-append old keeps.more)

pub all_more : (old new : List Node) (gates : List ℕ) → Keeps old new → All (IsOf old) gates → All (IsOf new) gates
all_more old new gates keeps of = λ k d within. of_more old new (get_or gates k d) keeps (of k d within)

-- a circuit that grows twice
pub keeps_twice : (old middle new : List Node) → Keeps old middle → Keeps middle new → Keeps old new
keeps_twice old middle new first second = record {
  more = first.more ++ second.more;
  behind = second.behind ∙ ap (λ ns. ns ++ second.more) first.behind ∙ append_assoc old first.more second.more;
  values = λ inputs gate of. second.values inputs gate (of_more old middle gate first of) ∙ first.values inputs gate of;
}

-- the lemmas of a circuit that grows step by step
pub ruleset growing = (of_more, keeps_twice)

-- the edge to a node does not negate
pub edge : (values : List Bool) (place : ℕ) → gate_value values (2 * place) ≡ get_or values place false
edge values place =
    let even : (2 * place) % 2 ≡ 0 = omega arith in
    let half : (2 * place) / 2 ≡ place = omega arith in
    ap (λ r. if r == 1 then not (get_or values ((2 * place) / 2) false) else get_or values ((2 * place) / 2) false) even
    ∙ ap (λ i. get_or values i false) half

-- the value of the node that was put behind the others
pub value_pushed : (inputs : ℕ → Bool) (nodes : List Node) (node : Node) → value inputs (nodes ++ node ∷ []) (2 * length nodes) ≡ node_value inputs (values_behind inputs [] nodes) node
unfolding value values_behind
value_pushed inputs nodes node =
    let count : length (values_behind inputs [] nodes) ≡ length nodes = length-values inputs [] nodes ∙ omega arith in
    ap (λ vs. gate_value vs (2 * length nodes)) (values-append inputs [] nodes (node ∷ []))
    ∙ edge (values_behind inputs [] nodes ++ node_value inputs (values_behind inputs [] nodes) node ∷ []) (length nodes)
    ∙ get_or_at (values_behind inputs [] nodes) (node_value inputs (values_behind inputs [] nodes) node) [] false (length nodes) count

pub value_pushed_input : (inputs : ℕ → Bool) (nodes : List Node) → value inputs (nodes ++ Input ∷ []) (2 * length nodes) ≡ inputs (length nodes)
value_pushed_input inputs nodes = value_pushed inputs nodes Input ∙ ap inputs (length-values inputs [] nodes ∙ omega arith)

pub value_pushed_and : (inputs : ℕ → Bool) (nodes : List Node) (a b : ℕ) → value inputs (nodes ++ And a b ∷ []) (2 * length nodes) ≡ value inputs nodes a && value inputs nodes b
unfolding value
value_pushed_and inputs nodes a b = value_pushed inputs nodes (And a b)

-- the value of a conjunction that stands
pub value_standing : (inputs : ℕ → Bool) (nodes : List Node) (a b place : ℕ) → slice_get nodes place ≡ Some (And a b) → a < 2 * place → b < 2 * place
    → value inputs nodes (2 * place) ≡ value inputs nodes a && value inputs nodes b
value_standing inputs nodes a b place at a_before b_before =
    let parts = split_at_place nodes place (And a b) at in
    let before = parts.0 in
    let count : length before ≡ place = parts.3 in
    let whole : Keeps (before ++ And a b ∷ []) nodes = keeps_by (before ++ And a b ∷ []) nodes parts.1 parts.2 in
    let first : Keeps before nodes = keeps_by before nodes (And a b ∷ [] ++ parts.1) (parts.2 ∙ append_assoc before (And a b ∷ []) parts.1) in
    whole.values inputs (2 * place) (omega (arith, length-append before (And a b ∷ [])))
    ∙ ap (λ p. value inputs (before ++ And a b ∷ []) (2 * p)) (sym count)
    ∙ value_pushed_and inputs before a b
    ∙ ap (λ v. v && value inputs before b) (sym (first.values inputs a (omega arith)))
    ∙ ap (λ v. value inputs nodes a && v) (sym (first.values inputs b (omega arith)))

-- the value of an input that stands
pub value_standing_input : (inputs : ℕ → Bool) (nodes : List Node) (place : ℕ) → StandsAt nodes Input place → value inputs nodes (2 * place) ≡ inputs place
value_standing_input inputs nodes place at =
    let parts = split_at_place nodes place Input at in
    let count : length parts.0 ≡ place = parts.3 in
    let whole : Keeps (parts.0 ++ Input ∷ []) nodes = keeps_by (parts.0 ++ Input ∷ []) nodes parts.1 parts.2 in
    whole.values inputs (2 * place) (omega (arith, length-append parts.0 (Input ∷ [])))
    ∙ ap (λ p. value inputs (parts.0 ++ Input ∷ []) (2 * p)) (sym count) ∙ value_pushed_input inputs parts.0 ∙ ap inputs count

-- nodes behind a gate's own do not change its value
value-take : (inputs : ℕ → Bool) (nodes : List Node) (gate n : ℕ) → gate / 2 < n → value inputs nodes gate ≡ value inputs (take n nodes) gate
value-take inputs nodes gate n less = elim (cases_lt (gate / 2) (length nodes)) [
  | inl within ↦ (keeps_by (take n nodes) nodes (drop n nodes) (sym (take-append-drop n nodes))).values inputs gate (omega (arith, length-take n nodes))
  | inr past ↦ ap (λ ns. value inputs ns gate) (sym (take_all n nodes (omega arith)))
]

-- nodes have the same values under assignments that agree at the inputs among them
node_decided : (inputs others : ℕ → Bool) (before : List Bool) (node : Node) → (node ≡ Input → inputs (length before) ≡ others (length before))
    → node_value inputs before node ≡ node_value others before node
node_decided inputs others before Zero agree = refl
node_decided inputs others before Input agree = agree refl
node_decided inputs others before (And a b) agree = refl

values_decided : (inputs others : ℕ → Bool) (before : List Bool) (nodes : List Node)
    → ((k place : ℕ) → StandsAt nodes Input k → place ≡ length before + k → inputs place ≡ others place) → values_behind inputs before nodes ≡ values_behind others before nodes
unfolding values_behind
values_decided inputs others before [] agree = refl
values_decided inputs others before (node ∷ nodes) agree =
    let here : node_value inputs before node ≡ node_value others before node =
    node_decided inputs others before node (λ is. agree 0 (length before) (ap (λ (n : Node). Some n) is) (omega arith)) in
    ap (λ v. values_behind inputs (before ++ v ∷ []) nodes) here
    ∙ values_decided inputs others (before ++ node_value others before node ∷ []) nodes
    (λ k place at is. agree (suc k) place at (omega (arith, length-append before (node_value others before node ∷ []))))

-- a gate has one value under all assignments that agree at the inputs below it
pub value_decided : InputsBelowDecide
unfolding value
value_decided nodes gate inputs others agree =
    let front = take (gate / 2 + 1) nodes in
    let whole : front ++ drop (gate / 2 + 1) nodes ≡ nodes = take-append-drop (gate / 2 + 1) nodes in
    value-take inputs nodes gate (gate / 2 + 1) (omega arith)
    ∙ ap (λ vs. gate_value vs gate) (values_decided inputs others [] front (λ k place at is.
    let within : k < length front = slice_get_within front k Input at in
    let same : place ≡ k = omega arith in
    agree place (omega (arith, length-take (gate / 2 + 1) nodes))
    (subst (λ p. StandsAt nodes Input p) (sym same) (subst (λ ns. StandsAt ns Input k) whole (slice_get-append front (drop (gate / 2 + 1) nodes) k Input at)))))
    ∙ sym (value-take others nodes gate (gate / 2 + 1) (omega arith))

-- the same where the circuits are named by what they are
pub keeps_input : (old new : List Node) → new ≡ old ++ Input ∷ [] → Keeps old new
keeps_input old new is = keeps_by old new (Input ∷ []) is

pub value_input : (inputs : ℕ → Bool) (old new : List Node) (gate : ℕ) → new ≡ old ++ Input ∷ [] → gate ≡ 2 * length old → value inputs new gate ≡ inputs (length old)
value_input inputs old new gate is at =
    ap (λ ns. value inputs ns gate) is ∙ ap (λ g. value inputs (old ++ Input ∷ []) g) at ∙ value_pushed_input inputs old
