-- What it means that the relations of a change are named.
use Rattle.std.proofs.Common.{◌≡◌, ℕ, suc, zero, ◌+◌, ◌*◌, ◌≤◌, Bool, true, false, ◌&&◌, List, [], length, refl, sym, ap, ◌∙◌, arith, Option, Some, None, if◌then◌else◌}
use Rattle.std.specs.Option.{option_map, option_map_or}
use Rattle.std.proofs.lemmas.Bool.{and_parts}
use Rattle.heap_core.specs.Posed.{Posed}
use Rattle.rel_core.specs.declared.relation.RelVar.{RelVar}
use Rattle.rel_core.specs.Uses.{Use, is_slot}
use Rattle.rel_gates.specs.Shown.{Named, gates_of, width_of, rows_of, gate_count}
use Rattle.rel_gates.specs.Naming.{wanted_each, wanted_rows, changed_uses, spread_use, is_named_for, are_named}
use Rattle.rel_gates.proofs.OfSets.{named_count}

pub record IsNamedChange (p : Posed) (es : Named) (new given old : RelVar) (width : ℕ) : Type 0 where
  pub use_is : Use
  pub is : spread_use p new ≡ Some use_is
  pub wide : width ≡ width_of p use_is
  pub new_named : is_named_for es (wanted_each p use_is new) ≡ true
  pub given_named : is_named_for es (wanted_rows p use_is given) ≡ true
  pub old_named : is_named_for es (wanted_each p use_is old) ≡ true

pub named_change : (p : Posed) (es : Named) (new given old : RelVar) (width : ℕ) → Some width ≡ option_map (width_of p) (spread_use p new)
    → are_named es (option_map_or (changed_uses p new given old) (spread_use p new) []) ≡ true → IsNamedChange p es new given old width
named_change p es new given old width there named = by (spread_use p new) refl there named
  where
    by : (found : Option Use) → spread_use p new ≡ found → Some width ≡ option_map (width_of p) found → are_named es (option_map_or (changed_uses p new given old) found []) ≡ true
        → IsNamedChange p es new given old width
    by None is there named = absurd (cc)
    by (Some u) is there named =
        let a = is_named_for es (wanted_each p u new) in
        let b = is_named_for es (wanted_rows p u given) in
        let c = is_named_for es (wanted_each p u old) in
        let outer = and_parts a (b && (c && true)) named in
        let inner = and_parts b (c && true) outer.1 in
        record {
          use_is = u;
          is = is;
          wide = cc;
          new_named = outer.0;
          given_named = inner.0;
          old_named = (and_parts c true inner.1).0;
        }

pub no_use : (p : Posed) (r : RelVar) → None ≡ option_map (width_of p) (spread_use p r) → spread_use p r ≡ None
no_use p r none = by (spread_use p r) none
  where
    by : (found : Option Use) → None ≡ option_map (width_of p) found → found ≡ None
    by None none = refl
    by (Some u) none = absurd (cc)

first_row : (k w n : ℕ) → 1 ≤ k → n ≡ k * w → 0 * w + w ≤ n
first_row zero w n some is = absurd (omega (arith, some))
first_row (suc k) w n some is = omega (arith, is)

pub given_within : (p : Posed) (es : Named) (new given old : RelVar) (width : ℕ) (rows : List ℕ) → IsNamedChange p es new given old width → gates_of es given ≡ Some rows → 1 ≤ p.scope.objects
    → 0 * width + width ≤ length rows
given_within p es new given old width rows change found some =
    let count : length rows ≡ gate_count p change.use_is given = named_count es given (gate_count p change.use_is given) rows change.given_named found in
    first_row (rows_of p given.what) width (length rows) (some_rows (is_slot given.what)) (count ∙ ap (λ w. rows_of p given.what * w) (sym change.wide))
  where
    some_rows : (b : Bool) → 1 ≤ (if b then 1 else p.scope.objects)
    some_rows true = omega arith
    some_rows false = some
