-- The gates of sets under the readings that the inputs show.
use Rattle.std.proofs.Common.{
  ◌≡◌,
  ℕ,
  zero,
  suc,
  ◌+◌,
  ◌*◌,
  ◌<◌,
  ◌≤◌,
  Bool,
  true,
  false,
  not,
  ◌&&◌,
  ◌||◌,
  List,
  length,
  get_or,
  refl,
  sym,
  subst,
  ap,
  ◌∙◌,
  arith,
  inl,
  inr,
  add-one,
  Option,
  Some,
  None,
  is_some,
}
use Rattle.std.specs.Prelude.{◌==◌, nat_lt, IsTrue}
use Rattle.std.specs.List.{list_any}
use Rattle.std.specs.Option.{option_map_or}
use Rattle.std.proofs.lemmas.Bool.{false≢true, and_parts, and_from, or_left, or_right, lt-ltb, eq-eqb, eqb-true, ne_eqb, cases_eq}
use Rattle.gate_core.specs.declared.circuit.Node.{Node}
use Rattle.gate_core.specs.Circuit.{value, IsOf, Keeps}
use Rattle.gate_sets.specs.Lists.{AreTruths}
use Rattle.gate_sets.specs.Shapes.{has_object as has_gate, joined_set}
use Rattle.gate_sets.proofs.Standing.{any_row_alike}
use Rattle.heap_core.specs.Posed.{Posed}
use Rattle.heap_core.specs.Outcomes.{is_null, is_object}
use Rattle.rel_core.specs.declared.relation.RelVar.{RelVar}
use Rattle.rel_core.specs.declared.sets.RelExpr.{RelExpr}
use Rattle.rel_core.specs.declared.sets.RelExpr.TheVariants as s
use Rattle.rel_core.specs.Reading.{Reading, is_reference, numbers_below}
use Rattle.rel_core.specs.Meaning.{ValueSet, has_object, set_of}
use Rattle.rel_core.specs.Uses.{Kinds, Use, AsSet, is_slot, has_use, is_variable, is_spread, has_place, is_sorted_set}
use Rattle.rel_core.proofs.Forms.{set_var, set_nil, set_object, set_join, sorted_set_var, sorted_set_join}
use Rattle.rel_gates.specs.Shown.{Named, gates_of, is_named, place_of, in_row, refs_shown, Agrees}
use Rattle.rel_gates.specs.Naming.{is_named_for}
use Rattle.rel_gates.specs.Meant.{Stand, reference_at, IsSeen, AreSet}
use Rattle.rel_gates.proofs.Growing.{AgreesWith, stands_same, agree_from, agree_to, agree_kept}

-- ## what is seen when the circuit has grown was seen before

pub seen_before : (p : Posed) (kinds : Kinds) (old new : List Node) (es : Named) (inputs : ℕ → Bool) (m : Reading) → Keeps old new → IsOf old 0 → Stand old es
    → IsSeen p kinds new es inputs m → IsSeen p kinds old es inputs m
seen_before p kinds old new es inputs m keeps some stand seen = record { of_problem = seen.of_problem; agrees = agrees }
  where
    at : (r : RelVar) (found : Option (List ℕ)) → gates_of es r ≡ found → IsTrue (is_named es r) → AgreesWith p kinds (value inputs old) found m r
    at r (Some gates) there is =
        agree_kept p kinds (value inputs new) (value inputs old) gates m r (λ k. sym (stands_same old new inputs inputs gates keeps some (stand r gates there) (λ place inside. refl) k))
        (subst (λ found. AgreesWith p kinds (value inputs new) found m r) there (agree_to p kinds (value inputs new) es m r (seen.agrees r is)))
    at r None there is = absurd (false≢true (sym (ap is_some there) ∙ is))

    agrees : Agrees p kinds (value inputs old) es m
    agrees r is = agree_from p kinds (value inputs old) es m r (at r (gates_of es r) refl is)

-- ## references and their places

pub place_back : (i : ℕ) → place_of (reference_at i) ≡ i
place_back zero = refl
place_back (suc o) = add-one o

pub is_reference_at : (objects i : ℕ) → i < objects + 1 → is_reference objects (reference_at i) ≡ true
is_reference_at objects zero within = refl
is_reference_at objects (suc o) within = lt-ltb o objects (omega (arith, within))

-- the truth of a gate of a relation, at a place that the relation can have
pub refs_read : (p : Posed) (kinds : Kinds) (m : Reading) (r : RelVar) (truth : ℕ → Bool) (rows : List ℕ) (o i : ℕ)
    → m.refs r o (reference_at i) ≡ refs_shown p kinds truth (Some rows) r o (reference_at i)
    → has_place p kinds AsSet r o ≡ true → i < p.scope.objects + 1 → in_row truth (p.scope.objects + 1) rows o i ≡ m.refs r o (reference_at i)
refs_read p kinds m r truth rows o i is place within =
    let row = λ (k : ℕ). in_row truth (p.scope.objects + 1) rows o k in
    sym (is ∙ ap (λ b. b && is_reference p.scope.objects (reference_at i) && row (place_of (reference_at i))) place
    ∙ ap (λ b. b && row (place_of (reference_at i))) (is_reference_at p.scope.objects i within) ∙ ap row (place_back i))

pub spread_place : (p : Posed) (kinds : Kinds) (u : Use) (r : RelVar) (o : ℕ) → is_spread p kinds u r ≡ true → o < p.scope.objects → has_place p kinds u r o ≡ true
spread_place p kinds u r o is below =
    let parts = and_parts (not (is_slot r.what)) (has_use p kinds u r.what) is in
    and_from (has_use p kinds u r.what && nat_lt o p.scope.objects) (not (is_slot r.what) || o == 0)
    (and_from (has_use p kinds u r.what) (nat_lt o p.scope.objects) parts.1 (lt-ltb o p.scope.objects below)) (or_left (not (is_slot r.what)) (o == 0) parts.0)

pub variable_place : (p : Posed) (kinds : Kinds) (u : Use) (r : RelVar) → is_variable p kinds u r ≡ true → 1 ≤ p.scope.objects → has_place p kinds u r 0 ≡ true
variable_place p kinds u r is some =
    let parts = and_parts (is_slot r.what) (has_use p kinds u r.what) is in
    and_from (has_use p kinds u r.what && nat_lt 0 p.scope.objects) (not (is_slot r.what) || true)
    (and_from (has_use p kinds u r.what) (nat_lt 0 p.scope.objects) parts.1 (lt-ltb 0 p.scope.objects some)) (or_right (not (is_slot r.what)) true refl)

-- ## joins

pub join_members : (p : Posed) (es : Named) (middle new : List Node) (e : RelExpr) (r : RelVar) (set rows places : List ℕ) → AreSet p es middle e set → gates_of es r ≡ Some rows
    → Stand middle es → IsOf middle 0 → Keeps middle new
    → AreTruths new (p.scope.objects + 1) (λ inputs i. joined_set p.scope.objects middle set rows inputs i) places → AreSet p es new (s.Join e r) places
join_members p es middle new e r set rows places are found stand some keeps truths = record { of = truths.of; wide = truths.wide; values = values }
  where
    values : (kinds : Kinds) (m : Reading) (inputs : ℕ → Bool) → IsTrue (is_sorted_set p kinds (s.Join e r)) → IsSeen p kinds new es inputs m
        → (i : ℕ) → i < p.scope.objects + 1 → value inputs new (get_or places i 0) ≡ set_of (s.Join e r) m (reference_at i)
    values kinds m inputs sorted seen i within =
        let before = seen_before p kinds middle new es inputs m keeps some stand seen in
        let parts = and_parts (is_sorted_set p kinds e) (is_spread p kinds AsSet r) (sym (sorted_set_join p kinds e r) ∙ sorted) in
        let agree = (agree_to p kinds (value inputs middle) es m r (before.agrees r (ap is_some found))).0 in
        truths.values inputs i within
        ∙ any_row_alike p.scope.objects (has_gate (λ k. value inputs middle (get_or set k 0))) (has_object (set_of e m)) (λ o k. value inputs middle (get_or rows (o *
        (p.scope.objects + 1) + k) 0)) (λ o k. m.refs r o (reference_at k)) i
        (λ o below. are.values kinds m inputs parts.0 before (o + 1) (omega (arith, below)) ∙ ap (λ k. set_of e m (reference_at k)) (add-one o))
        (λ o below.
        refs_read p kinds m r (value inputs middle) rows o i (subst (λ gs. m.refs r o (reference_at i) ≡ refs_shown p kinds (value inputs middle) gs r o (reference_at i))
        found (agree o (reference_at i)))
        (spread_place p kinds AsSet r o parts.1 below) within)
        ∙ ap (λ n. list_any (λ o. has_object (set_of e m) o && m.refs r o (reference_at i)) (numbers_below n)) (sym before.of_problem.objects)
        ∙ sym (ap (λ (t : ValueSet). t (reference_at i)) (set_join e r m))

-- ## variables, and one reference alone

pub variable_members : (p : Posed) (es : Named) (nodes : List Node) (r : RelVar) (rows : List ℕ) → gates_of es r ≡ Some rows → length rows ≡ p.scope.objects + 1
    → 1 ≤ p.scope.objects → Stand nodes es → AreSet p es nodes (s.Var r) rows
variable_members p es nodes r rows found wide some stand = record {
  of = stand r rows found;
  wide = wide;
  values = λ kinds m inputs sorted seen i within.
      let is : is_variable p kinds AsSet r ≡ true = sym (sorted_set_var p kinds r) ∙ sorted in
      let agree = (agree_to p kinds (value inputs nodes) es m r (seen.agrees r (ap is_some found))).0 in
      let first : i ≡ 0 * (p.scope.objects + 1) + i = omega arith in
      ap (λ k. value inputs nodes (get_or rows k 0)) first
      ∙ refs_read p kinds m r (value inputs nodes) rows 0 i (subst (λ gs. m.refs r 0 (reference_at i) ≡ refs_shown p kinds (value inputs nodes) gs r 0 (reference_at i))
      found (agree 0 (reference_at i)))
      (variable_place p kinds AsSet r is some) within
      ∙ sym (ap (λ (t : ValueSet). t (reference_at i)) (set_var r m));
}

null_at : (i : ℕ) → (i == 0) ≡ is_null (reference_at i)
null_at zero = refl
null_at (suc o) = ne_eqb (suc o) 0 (λ same. absurd (omega (arith, same)))

object_at : (q i : ℕ) → (i == q + 1) ≡ is_object q (reference_at i)
object_at q zero = ne_eqb 0 (q + 1) (λ same. absurd (omega (arith, same)))
object_at q (suc o) =
    elim (cases_eq q o) [
      | inl same ↦ eq-eqb (suc o) (q + 1) (omega (arith, same)) ∙ sym (eq-eqb q o same)
      | inr other ↦ ne_eqb (suc o) (q + 1) (λ same. other (omega (arith, same))) ∙ sym (ne_eqb q o other)
    ]

pub null_members : (p : Posed) (es : Named) (nodes : List Node) (places : List ℕ) → AreTruths nodes (p.scope.objects + 1) (λ inputs i. i == 0) places → AreSet p es nodes s.Nil places
null_members p es nodes places truths = record {
  of = truths.of;
  wide = truths.wide;
  values = λ kinds m inputs sorted seen i within. truths.values inputs i within ∙ null_at i ∙ sym (ap (λ (t : ValueSet). t (reference_at i)) (set_nil m));
}

pub object_members : (p : Posed) (es : Named) (nodes : List Node) (q : ℕ) (places : List ℕ) → AreTruths nodes (p.scope.objects + 1) (λ inputs i. i == q + 1) places
    → AreSet p es nodes (s.Object q) places
object_members p es nodes q places truths = record {
  of = truths.of;
  wide = truths.wide;
  values = λ kinds m inputs sorted seen i within. truths.values inputs i within ∙ object_at q i ∙ sym (ap (λ (t : ValueSet). t (reference_at i)) (set_object q m));
}

-- ## how many gates a named relation has

named_by : (found : Option (List ℕ)) (rows : List ℕ) (n : ℕ) → option_map_or (λ gates. length gates == n) found false ≡ true → found ≡ Some rows → length rows ≡ n
named_by found rows n is there = eqb-true (length rows) n (sym (ap (λ f. option_map_or (λ (gates : List ℕ). length gates == n) f false) there) ∙ is)

pub named_count : (es : Named) (r : RelVar) (n : ℕ) (rows : List ℕ) → is_named_for es (r, n) ≡ true → gates_of es r ≡ Some rows → length rows ≡ n
named_count es r n rows is there = named_by (gates_of es r) rows n is there

pub is_named_by : (es : Named) (r : RelVar) (n : ℕ) → is_named_for es (r, n) ≡ true → is_named es r ≡ true
is_named_by es r n is = by (gates_of es r) is
  where
    by : (found : Option (List ℕ)) → option_map_or (λ gates. length gates == n) found false ≡ true → is_some found ≡ true
    by None none = absurd (false≢true none)
    by (Some gates) there = refl
