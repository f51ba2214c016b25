-- The relations of tuples are named one behind the other.
use Rattle.std.proofs.Common.{◌≡◌, ℕ, zero, suc, ◌+◌, ◌-◌, ◌*◌, ◌/◌, ◌%◌, ◌<◌, ◌≤◌, Bool, false, List, [], ◌∷◌, ◌++◌, length, map, take, get_or, refl, sym, subst, ap, ◌∙◌, arith, inl, inr, Some, None, append_assoc}
use Rattle.std.specs.Prelude.{◌==◌, slice_get, if◌then◌else◌}
use Rattle.std.proofs.Math.Nat.{div-add-mod, div-lt_iff_lt-mul, mod-lt, mul_comm}
use Rattle.std.proofs.lemmas.Bool.{false≢true, cases_Bool, cases_lt, eq-eqb}
use Rattle.std.proofs.lemmas.List.{map-append, get_or_append_left, get_or-append-add, take_more}
use Rattle.std.proofs.lemmas.Option.{slice_get_within, get_or_from_slice_get}
use Rattle.gate_core.specs.declared.circuit.Node.{Node}
use Rattle.gate_core.specs.Circuit.{IsOf}
use Rattle.heap_core.specs.Posed.{Posed}
use Rattle.tuple_sets.specs.Words.{has}
use Rattle.rel_core.specs.declared.relation.RelVar.{RelVar}
use Rattle.rel_core.specs.Reading.{same_relation}
use Rattle.rel_core.specs.Uses.{Kinds, AsSet}
use Rattle.rel_gates.specs.Shown.{Named, gates_of, rows_of}
use Rattle.rel_gates.specs.Naming.{Wanted, AreInputs, IsSmall, FitsUse, IsNaming}
use Rattle.rel_gates.specs.Meant.{reference_at}
use Rattle.rel_gates.specs.Rows.{total, IsTupleUse, AreApart, AreTupleUses, AreGatesFrom, NamesTuple, NamesTuples}
use Rattle.rel_gates.proofs.Growing.{IsFree, same_relation-refl, found_first, found_last}
use Rattle.rel_gates.proofs.InputLists.{inputs_both}
use Rattle.rel_gates.proofs.Fresh.{no_inputs}
use Rattle.rel_gates.proofs.AllNamed.{naming_grown}

-- ## how many gates come before those of a use

pub total-append : (xs ys : Wanted) → total (xs ++ ys) ≡ total xs + total ys
total-append [] ys = omega arith
total-append (x ∷ xs) ys = omega (arith, total-append xs ys)

pub take_next : (wanted : Wanted) (count : ℕ) (x : RelVar × ℕ) → slice_get wanted count ≡ Some x → take (count + 1) wanted ≡ take count wanted ++ x ∷ []
take_next wanted count x at =
    take_more wanted count x (slice_get_within wanted count x at) ∙ ap (λ y. take count wanted ++ y ∷ []) (get_or_from_slice_get wanted count x x at)

pub total_next : (wanted : Wanted) (count : ℕ) (x : RelVar × ℕ) → slice_get wanted count ≡ Some x → total (take (count + 1) wanted) ≡ total (take count wanted) + x.1
total_next wanted count x at =
    let one : total (x ∷ []) ≡ x.1 = omega arith in
    omega (arith, ap total (take_next wanted count x at), total-append (take count wanted) (x ∷ []), one)

-- the gates of a use are among the first
total_within : (wanted : Wanted) (i count : ℕ) (x : RelVar × ℕ) → i < count → slice_get wanted i ≡ Some x → total (take i wanted) + x.1 ≤ total (take count wanted)
total_within [] i count x less at = absurd (cc)
total_within (y ∷ ys) i zero x less at = absurd (omega (arith, less))
total_within (y ∷ ys) zero (suc count) x less at = (let same : y.1 ≡ x.1 = (let h : y ≡ x = cc in ap (λ (u : RelVar × ℕ). u.1) h) in omega (arith, same))
total_within (y ∷ ys) (suc i) (suc count) x less at = (let rest = total_within ys i count x (omega (arith, less)) at in omega (arith, rest))

pub total_all : (wanted : Wanted) (i : ℕ) (x : RelVar × ℕ) → slice_get wanted i ≡ Some x → total (take i wanted) + x.1 ≤ total wanted
total_all [] i x at = absurd (cc)
total_all (y ∷ ys) zero x at = (let same : y.1 ≡ x.1 = (let h : y ≡ x = cc in ap (λ (u : RelVar × ℕ). u.1) h) in omega (arith, same))
total_all (y ∷ ys) (suc i) x at = (let rest = total_all ys i x at in omega (arith, rest))

-- each place below the total is one of a use
pub split_total : (wanted : Wanted) (t : ℕ) → t < total wanted
    → (i : ℕ) × (x : RelVar × ℕ) × (j : ℕ) × (slice_get wanted i ≡ Some x) × (j < x.1) × (t ≡ total (take i wanted) + j)
split_total [] t less = absurd (omega (arith, less))
split_total (y ∷ ys) t less =
    elim (cases_lt t y.1) [
      | inl below ↦ (0, y, t, refl, below, omega arith)
      | inr past ↦
          let rest = split_total ys (t - y.1) (omega (arith, less, past)) in
          (suc rest.0, rest.1, rest.2, rest.3, rest.4, (let is = rest.5 in omega (arith, is, past)))
    ]

-- ## a relation that was not named

first_of : (wanted : Wanted) (count i : ℕ) (x : RelVar × ℕ) → slice_get (take count wanted) i ≡ Some x → (i < count) × (slice_get wanted i ≡ Some x)
first_of wanted zero i x at = absurd (cc)
first_of [] (suc count) i x at = absurd (cc)
first_of (y ∷ ys) (suc count) zero x at = (omega arith, at)
first_of (y ∷ ys) (suc count) (suc i) x at = (let rest = first_of ys count i x at in (omega (arith, rest.0), rest.1))

absent_from : (es : Named) (ws : Wanted) (r : RelVar) → map (λ e. e.0) es ≡ map (λ x. x.0) ws
    → ((i : ℕ) (x : RelVar × ℕ) → slice_get ws i ≡ Some x → same_relation x.0 r ≡ false) → gates_of es r ≡ None
absent_from [] ws r same apart = refl
absent_from (e ∷ es) [] r same apart = absurd (cc)
absent_from (e ∷ es) (w ∷ ws) r same apart =
    let head : e.0 ≡ w.0 = cc in
    let other : same_relation e.0 r ≡ false = ap (λ s. same_relation s r) head ∙ apart 0 w refl in
    ap (λ b. if b then Some e.1 else gates_of es r) other ∙ absent_from es ws r (cc) (λ i x at. apart (suc i) x at)

pub absent : (upper : List ℕ) (before middle : List Node) (wanted : Wanted) (count : ℕ) (es : Named) (all : List ℕ) (x : RelVar × ℕ)
    → NamesTuples before middle upper wanted count es all → AreApart wanted → slice_get wanted count ≡ Some x → gates_of es x.0 ≡ None
absent upper before middle wanted count es all x first apart at =
    absent_from es (take count wanted) x.0 first.names (λ i y there. (let is = first_of wanted count i y there in apart i count y x is.0 is.1 at))

-- ## tuples that are lacking are not wanted

lacking_free : (p : Posed) (kinds : Kinds) (upper : List ℕ) (first : ℕ) (x : RelVar × ℕ) → IsTupleUse p kinds first x → IsFree p kinds upper x.0 AsSet (λ j. has upper (first + j) == 1)
lacking_free p kinds upper first x uses m within j below lacks =
    let width = p.scope.objects + 1 in
    let o = j / (p.scope.objects + 1) in
    let i = j % (p.scope.objects + 1) in
    let row : j / (p.scope.objects + 1) < rows_of p x.0.what = (div-lt_iff_lt-mul {k = p.scope.objects + 1} {x = j} {y = rows_of p x.0.what} (omega arith)).1 below in
    let inside : j % (p.scope.objects + 1) < p.scope.objects + 1 = mod-lt j (omega arith) in
    let place : o * width + i ≡ j = omega (arith, div-add-mod j (p.scope.objects + 1), mul_comm (p.scope.objects + 1) (j / (p.scope.objects + 1))) in
    let tuple = uses.places o i row inside in
    elim (cases_Bool (m.refs x.0 o (reference_at i))) [
      | inl has_it ↦
          absurd (false≢true (sym lacks ∙ eq-eqb (has upper (first + j)) 1 (ap (λ k. has upper (first + k)) (sym place) ∙ within.tuples (first + (o * width + i)) tuple.tuple tuple.there
          (tuple.says m ∙ has_it))))
      | inr not_it ↦ not_it
    ]

-- ## one relation more

pub no_tuples : (before : List Node) (upper : List ℕ) (wanted : Wanted) → NamesTuples before before upper wanted 0 [] []
no_tuples before upper wanted = record {
  inputs = no_inputs before before (λ t. has upper t == 1) refl;
  names = refl;
  found = λ apart i x less at. absurd (omega (arith, less));
  naming = λ p kinds small some uses. nothing_named p kinds upper before some;
}
  where
    nothing_named : (p : Posed) (kinds : Kinds) (upper : List ℕ) (before : List Node) → IsOf before 0 → IsNaming p kinds upper before before []
    nothing_named p kinds upper before some = record {
      named = record {
        of = λ r gates found. absurd (cc);
        shown = λ m inputs within. record { inputs = inputs; same = λ place inside. refl; agrees = λ r is. absurd (false≢true is) };
      };
      counted = λ r gates found. absurd (cc);
      some = some;
      longer = omega arith;
    }

get_or_behind : (xs ys : List ℕ) (n j : ℕ) → length xs ≡ n → get_or (xs ++ ys) (n + j) 0 ≡ get_or ys j 0
get_or_behind xs ys n j is = ap (λ k. get_or (xs ++ ys) (k + j) 0) (sym is) ∙ get_or-append-add xs ys j 0

-- what is pushed is the next of a list
pub pushed_next : (list items wanted : Wanted) (count : ℕ) (x : RelVar × ℕ) → slice_get wanted count ≡ Some x → items ≡ list ++ take count wanted
    → items ++ x ∷ [] ≡ list ++ take (count + 1) wanted
pushed_next list items wanted count x at is =
    ap (λ xs. xs ++ x ∷ []) is ∙ append_assoc list (take count wanted) (x ∷ []) ∙ ap (λ xs. list ++ xs) (sym (take_next wanted count x at))

pub one_tuple_more : (before middle new : List Node) (upper : List ℕ) (wanted : Wanted) (count : ℕ) (es fs : Named) (all longer : List ℕ) (x : RelVar × ℕ)
    → NamesTuples before middle upper wanted count es all → slice_get wanted count ≡ Some x → NamesTuple middle new es fs upper all longer (length all) x
    → NamesTuples before new upper wanted (count + 1) fs longer
one_tuple_more before middle new upper wanted count es fs all longer x first at one = record {
  inputs = subst (λ gs. AreInputs before new (total (take (count + 1) wanted)) free gs) (sym one.behind) (subst (λ n. AreInputs before new n free (all ++ one.gates)) (sym next)
      (inputs_both before middle new (total (take count wanted)) x.1 free all one.gates first.inputs moved));
  names = ap (map (λ e. e.0)) one.named ∙ map-append (λ (e : RelVar × List ℕ). e.0) es ((x.0, one.gates) ∷ []) ∙ ap (λ rs. rs ++ x.0 ∷ []) first.names
      ∙ sym (ap (map (λ u. u.0)) (take_next wanted count x at) ∙ map-append (λ (u : RelVar × ℕ). u.0) (take count wanted) (x ∷ []));
  found = found;
  naming = naming;
}
  where
    free : ℕ → Bool
    free t = has upper t == 1

    next : total (take (count + 1) wanted) ≡ total (take count wanted) + x.1
    next = total_next wanted count x at

    moved : AreInputs middle new x.1 (λ j. free (total (take count wanted) + j)) one.gates
    moved = subst (λ n. AreInputs middle new x.1 (λ j. free (n + j)) one.gates) first.inputs.wide one.inputs

    none : AreApart wanted → gates_of es x.0 ≡ None
    none apart = absent upper before middle wanted count es all x first apart at

    found : AreApart wanted → (i : ℕ) (y : RelVar × ℕ) → i < count + 1 → slice_get wanted i ≡ Some y → AreGatesFrom longer (total (take i wanted)) y.1 (gates_of fs y.0)
    found apart i y less there =
        elim (cases_lt i count) [
          | inl below ↦
              let old = first.found apart i y below there in
              let fits = total_within wanted i count y below there in
              record {
                gates = old.gates;
                there = ap (λ ns. gates_of ns y.0) one.named ∙ found_first es ((x.0, one.gates) ∷ []) y.0 old.gates old.there;
                same = λ j inside. old.same j inside
                    ∙ sym (ap (λ gs. get_or gs (total (take i wanted) + j) 0) one.behind ∙ get_or_append_left all one.gates 0 (total (take i wanted) + j)
                    (omega (arith, inside, fits, first.inputs.wide)));
              }
          | inr past ↦
              let last : i ≡ count = omega (arith, less, past) in
              let both : Some x ≡ Some y = sym at ∙ ap (slice_get wanted) (sym last) ∙ there in
              let equal : x ≡ y = cc in
              subst (λ k. AreGatesFrom longer (total (take k wanted)) y.1 (gates_of fs y.0)) (sym last) (subst (λ u. AreGatesFrom longer (total (take count wanted)) u.1 (gates_of fs u.0))
              equal (record {
                gates = one.gates;
                there = ap (λ ns. gates_of ns x.0) one.named ∙ found_last es ((x.0, one.gates) ∷ []) x.0 (none apart) ∙ ap (λ b. if b then Some one.gates else None) (same_relation-refl x.0);
                same = λ j inside. sym (ap (λ gs. get_or gs (total (take count wanted) + j) 0) one.behind ∙ behind_all j);
              }))
        ]
      where
        behind_all : (j : ℕ) → get_or (all ++ one.gates) (total (take count wanted) + j) 0 ≡ get_or one.gates j 0
        behind_all j = get_or_behind all one.gates (total (take count wanted)) j first.inputs.wide

    naming : (p : Posed) (kinds : Kinds) → IsSmall p → IsOf before 0 → AreTupleUses p kinds wanted → IsNaming p kinds upper before new fs
    naming p kinds small some uses =
        let its = uses.uses count x at in
        let fits : FitsUse p kinds x = (AsSet, its.used, its.counted) in
        subst (λ ns. IsNaming p kinds upper before new ns) (sym one.named)
        (naming_grown p kinds upper before middle new es x (λ j. free (total (take count wanted) + j)) one.gates small fits
        (lacking_free p kinds upper (total (take count wanted)) x its) (none uses.apart) moved (first.naming p kinds small some uses))
