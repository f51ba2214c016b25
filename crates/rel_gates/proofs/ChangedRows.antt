-- A relation that is another but for the objects of a set, by rows of gates.
use Rattle.std.proofs.Common.{◌≡◌, ℕ, ◌+◌, ◌*◌, ◌<◌, ◌≤◌, Bool, true, false, not, ◌&&◌, ◌||◌, List, length, get_or, refl, sym, subst, ap, ◌∙◌, arith, add-one, Some, None, is_some}
use Rattle.std.specs.Prelude.{◌==◌, nat_lt, if◌then◌else◌}
use Rattle.std.specs.List.{list_all, range_with_len}
use Rattle.std.specs.Option.{option_map_or}
use Rattle.std.proofs.lemmas.Bool.{false≢true, and_parts, and_from, or_left, or_right, not-true, lt-ltb}
use Rattle.gate_core.specs.declared.circuit.Node.{Node}
use Rattle.gate_core.specs.Circuit.{value, IsOf, Keeps}
use Rattle.gate_arith.specs.Numbers.{differ}
use Rattle.gate_arith.specs.Operations.{IsTruth}
use Rattle.gate_sets.specs.Shapes.{are_same}
use Rattle.heap_core.specs.Posed.{Posed}
use Rattle.rel_core.specs.declared.relation.RelVar.{RelVar}
use Rattle.rel_core.specs.declared.sets.RelExpr.{RelExpr}
use Rattle.rel_core.specs.declared.formula.Formula.TheVariants as f
use Rattle.rel_core.specs.Reading.{same_what, numbers_below}
use Rattle.rel_core.specs.Meaning.{has_object, set_of, same_at}
use Rattle.rel_core.specs.Uses.{Kinds, Use, use_of, has_use, has_place, is_slot, is_sorted_set, can_change, same_use}
use Rattle.rel_core.proofs.Forms.{holds_changed, sorted_changed}
use Rattle.rel_gates.specs.Shown.{Named, gates_of, width_of, in_row}
use Rattle.rel_gates.specs.Naming.{spread_use}
use Rattle.rel_gates.specs.Meant.{Stand, reference_at, AreSet, IsTruthOf}
use Rattle.rel_gates.specs.Changes.{row_changes, rows_change}
use Rattle.rel_gates.proofs.FormulaFits.{spread_use-is, same_use-refl}
use Rattle.rel_gates.proofs.Growing.{AgreesWith, agree_to, same_what-is}
use Rattle.rel_gates.proofs.Inclusions.{all_alike}
use Rattle.rel_gates.proofs.OfSets.{seen_before}
use Rattle.rel_gates.proofs.SameRows.{IsRowOf, rows_tell}

-- where a relation that is no variable can have something
each_place : (p : Posed) (kinds : Kinds) (u : Use) (r : RelVar) (o : ℕ) → is_slot r.what ≡ false → has_use p kinds u r.what ≡ true → o < p.scope.objects → has_place p kinds u r o ≡ true
each_place p kinds u r o none its below =
    and_from (has_use p kinds u r.what && nat_lt o p.scope.objects) (not (is_slot r.what) || o == 0)
    (and_from (has_use p kinds u r.what) (nat_lt o p.scope.objects) its (lt-ltb o p.scope.objects below)) (or_left (not (is_slot r.what)) (o == 0) (ap not none))

first_place : (p : Posed) (kinds : Kinds) (u : Use) (r : RelVar) → has_use p kinds u r.what ≡ true → 1 ≤ p.scope.objects → has_place p kinds u r 0 ≡ true
first_place p kinds u r its some =
    and_from (has_use p kinds u r.what && nat_lt 0 p.scope.objects) (not (is_slot r.what) || true)
    (and_from (has_use p kinds u r.what) (nat_lt 0 p.scope.objects) its (lt-ltb 0 p.scope.objects some)) (or_right (not (is_slot r.what)) true refl)

-- what a change that is sorted uses
pub record IsChange (p : Posed) (kinds : Kinds) (u : Use) (new given old : RelVar) : Type 0 where
  pub new_spread : is_slot new.what ≡ false
  pub old_spread : is_slot old.what ≡ false
  pub new_use : has_use p kinds u new.what ≡ true
  pub given_use : has_use p kinds u given.what ≡ true
  pub old_use : has_use p kinds u old.what ≡ true

pub change_sorted : (p : Posed) (kinds : Kinds) (u : Use) (new given old : RelVar) → spread_use p new ≡ Some u → can_change p kinds new given old ≡ true → IsChange p kinds u new given old
change_sorted p kinds u new given old there can =
    let outer = and_parts (not (is_slot new.what) && same_what new.what old.what) (option_map_or (λ t. has_use p kinds t given.what) (use_of p kinds new.what) false) can in
    let inner = and_parts (not (is_slot new.what)) (same_what new.what old.what) outer.0 in
    let none : is_slot new.what ≡ false = not-true (is_slot new.what) inner.0 in
    let same : new.what ≡ old.what = same_what-is new.what old.what inner.1 in
    let its : use_of p kinds new.what ≡ Some u = spread_use-is p kinds new.what none ∙ there in
    let has : has_use p kinds u new.what ≡ true = ap (λ found. option_map_or (same_use u) found false) its ∙ same_use-refl u in
    record {
      new_spread = none;
      old_spread = sym (ap is_slot same) ∙ none;
      new_use = has;
      given_use = sym (ap (λ found. option_map_or (λ t. has_use p kinds t given.what) found false) its) ∙ outer.1;
      old_use = sym (ap (has_use p kinds u) same) ∙ has;
    }

pub no_change : (p : Posed) (kinds : Kinds) (new given old : RelVar) → spread_use p new ≡ None → can_change p kinds new given old ≡ true → false ≡ true
no_change p kinds new given old there can =
    let outer = and_parts (not (is_slot new.what) && same_what new.what old.what) (option_map_or (λ t. has_use p kinds t given.what) (use_of p kinds new.what) false) can in
    let inner = and_parts (not (is_slot new.what)) (same_what new.what old.what) outer.0 in
    let none : is_slot new.what ≡ false = not-true (is_slot new.what) inner.0 in
    sym (ap (λ found. option_map_or (λ t. has_use p kinds t given.what) found false) (spread_use-is p kinds new.what none ∙ there)) ∙ outer.1

-- at one object
row_tells : (w : ℕ) (a b c : ℕ → Bool) (inside member : Bool) (x y : Bool) → inside ≡ member → are_same w a b ≡ x → are_same w a c ≡ y
    → are_same w a (λ i. if inside then b i else c i) ≡ (if member then x else y)
row_tells w a b c true member x y same first second = first ∙ ap (λ m. if m then x else y) same
row_tells w a b c false member x y same first second = second ∙ ap (λ m. if m then x else y) same

pub changed_truth : (p : Posed) (es : Named) (old new : List Node) (e : RelExpr) (r given before : RelVar) (u : Use) (set members new_rows given_rows given_row old_rows : List ℕ) (gate : ℕ)
    → 1 ≤ p.scope.objects → 1 ≤ p.scope.ints → Keeps old new → IsOf old 0 → Stand old es → spread_use p r ≡ Some u → AreSet p es old e set → length members ≡ p.scope.objects
    → ((i : ℕ) → i < p.scope.objects → get_or members i 0 ≡ get_or set (i + 1) 0) → gates_of es r ≡ Some new_rows → gates_of es given ≡ Some given_rows → gates_of es before ≡ Some old_rows
    → ((i : ℕ) → i < width_of p u → get_or given_row i 0 ≡ get_or given_rows (0 * width_of p u + i) 0)
    → IsTruth new (λ inputs. rows_change (width_of p u) (value inputs old) members new_rows given_row old_rows) gate → IsTruthOf p es new (f.Changed r e given before) gate
changed_truth p es old new e r given before u set members new_rows given_rows given_row old_rows gate some low keeps node stand its are long same found_new found_given found_old row truth = record {
  of = truth.of;
  truth = λ kinds m inputs sorted seen.
      let w = width_of p u in
      let t = value inputs old in
      let earlier = seen_before p kinds old new es inputs m keeps node stand seen in
      let parts = and_parts (is_sorted_set p kinds e) (can_change p kinds r given before) (sym (sorted_changed p kinds r e given before) ∙ sorted) in
      let change = change_sorted p kinds u r given before its parts.1 in
      let inside = has_object (set_of e m) in
      let agree = λ (s : RelVar) (rows : List ℕ) (found : gates_of es s ≡ Some rows). subst (λ gs. AgreesWith p kinds t gs m s) found (agree_to p kinds t es m s
      (earlier.agrees s (ap is_some found))) in
      truth.value_is inputs
      ∙ ap (λ n. list_all (row_changes w t members new_rows given_row old_rows) (range_with_len 0 n)) long
      ∙ all_alike (row_changes w t members new_rows given_row old_rows) (λ o. if inside o then same_at m r o given 0 else same_at m r o before o) 0 p.scope.objects (λ o under.
      let below : o < p.scope.objects = omega (arith, under) in
      let mine : IsRowOf p kinds m t u r new_rows o = record { place = each_place p kinds u r o change.new_spread change.new_use below; agree = agree r new_rows found_new } in
      let first : IsRowOf p kinds m t u given given_rows 0 = record { place = first_place p kinds u given change.given_use some; agree = agree given given_rows found_given } in
      let second : IsRowOf p kinds m t u before old_rows o = record { place = each_place p kinds u before o change.old_spread change.old_use below; agree = agree before old_rows found_old } in
      row_tells w (in_row t w new_rows o) (λ i. t (get_or given_row i 0)) (in_row t w old_rows o) (t (get_or members o 0)) (inside o) (same_at m r o given 0) (same_at m r o before o)
      (ap t (same o below) ∙ are.values kinds m inputs parts.0 earlier (o + 1) (omega (arith, below)) ∙ ap (λ k. set_of e m (reference_at k)) (add-one o))
      (all_alike (λ i. not (differ (in_row t w new_rows o i) (t (get_or given_row i 0)))) (λ i. not (differ (in_row t w new_rows o i) (in_row t w given_rows 0 i))) 0 w (λ i inner.
      ap (λ k. not (differ (in_row t w new_rows o i) (t k))) (row i (omega (arith, inner))))
      ∙ rows_tell p kinds m t u low earlier.of_problem r given new_rows given_rows o 0 mine first)
      (rows_tell p kinds m t u low earlier.of_problem r before new_rows old_rows o o mine second))
      ∙ ap (λ n. list_all (λ o. if inside o then same_at m r o given 0 else same_at m r o before o) (numbers_below n)) (sym earlier.of_problem.objects)
      ∙ sym (holds_changed r e given before m);
}

pub unchanged_truth : (p : Posed) (es : Named) (nodes : List Node) (e : RelExpr) (r given before : RelVar) (gate : ℕ) → spread_use p r ≡ None → IsOf nodes gate
    → IsTruthOf p es nodes (f.Changed r e given before) gate
unchanged_truth p es nodes e r given before gate none of = record {
  of = of;
  truth = λ kinds m inputs sorted seen.
      let parts = and_parts (is_sorted_set p kinds e) (can_change p kinds r given before) (sym (sorted_changed p kinds r e given before) ∙ sorted) in
      absurd (false≢true (no_change p kinds r given before none parts.1));
}
