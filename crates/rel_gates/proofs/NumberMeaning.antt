-- The gates of numbers under the readings that the inputs show.
use Rattle.std.proofs.Common.{◌≡◌, ℕ, Bool, true, false, ◌&&◌, List, get_or, refl, sym, ap, ◌∙◌, arith, inl, inr, ℤ, ◌+ℤ◌, ◌-ℤ◌, ◌*ℤ◌, Some, None}
use Rattle.std.specs.Prelude.{if◌then◌else◌}
use Rattle.std.proofs.lemmas.Bool.{cases_Bool, and_parts}
use Rattle.gate_core.specs.declared.circuit.Node.{Node}
use Rattle.gate_core.specs.Circuit.{value, IsOf, Keeps}
use Rattle.gate_core.proofs.Values.{of_more, all_more, keeps_twice}
use Rattle.gate_arith.specs.Numbers.{signed}
use Rattle.gate_arith.specs.Operations.{shown, IsTruth, IsNumber}
use Rattle.gate_arith.proofs.Ripple.{bits_keep}
use Rattle.heap_core.specs.Posed.{Posed}
use Rattle.heap_core.specs.Outcomes.{in_bits}
use Rattle.rel_core.specs.declared.sets.RelExpr.{RelExpr}
use Rattle.rel_core.specs.declared.numbers.NumExpr.{NumExpr}
use Rattle.rel_core.specs.declared.numbers.NumExpr.TheVariants as n
use Rattle.rel_core.specs.Reading.{Reading}
use Rattle.rel_core.specs.Meaning.{fitting, with_both, number_of}
use Rattle.rel_core.specs.Uses.{Kinds, is_sorted_number}
use Rattle.rel_core.proofs.Forms.{number_sum, number_diff, number_product, sorted_number_sum, sorted_number_diff, sorted_number_product}
use Rattle.rel_gates.specs.Shown.{Named}
use Rattle.rel_gates.specs.Meant.{Stand, AreSet}
use Rattle.rel_gates.specs.Counted.{IsStanding, counted, IsNumberOf, IsOperation, IsComparison}
use Rattle.rel_gates.proofs.OfSets.{seen_before}

-- ## what stands in a circuit that has grown

pub standing_kept : (p : Posed) (old new : List Node) (gates : List ℕ) (there : ℕ) → Keeps old new → IsStanding p old gates there → IsStanding p new gates there
standing_kept p old new gates there keeps stands = record {
  of = all_more old new gates keeps stands.of;
  wide = stands.wide;
  there_of = of_more old new there keeps stands.there_of;
}

pub counted_kept : (p : Posed) (old new : List Node) (gates : List ℕ) (there : ℕ) (inputs : ℕ → Bool) → Keeps old new → IsStanding p old gates there
    → counted new gates there inputs ≡ counted old gates there inputs
counted_kept p old new gates there inputs keeps stands =
    ap (λ b. if b then Some (shown new gates inputs) else None) (keeps.values inputs there stands.there_of)
    ∙ ap (λ bs. if value inputs old there then Some (signed bs) else None) (bits_keep inputs old new gates keeps stands.of)

pub number_kept : (p : Posed) (es : Named) (old new : List Node) (e : NumExpr) (gates : List ℕ) (there : ℕ) → Keeps old new → IsOf old 0 → Stand old es
    → IsNumberOf p es old e gates there → IsNumberOf p es new e gates there
number_kept p es old new e gates there keeps some stand are = record {
  stands = standing_kept p old new gates there keeps are.stands;
  values = λ kinds m inputs sorted seen.
      counted_kept p old new gates there inputs keeps are.stands ∙ are.values kinds m inputs sorted (seen_before p kinds old new es inputs m keeps some stand seen);
}

pub set_kept : (p : Posed) (es : Named) (old new : List Node) (e : RelExpr) (set : List ℕ) → Keeps old new → IsOf old 0 → Stand old es → AreSet p es old e set → AreSet p es new e set
set_kept p es old new e set keeps some stand are = record {
  of = all_more old new set keeps are.of;
  wide = are.wide;
  values = λ kinds m inputs sorted seen i within.
      keeps.values inputs (get_or set i 0) (are.of i 0 (omega (arith, within, are.wide)))
      ∙ are.values kinds m inputs sorted (seen_before p kinds old new es inputs m keeps some stand seen) i within;
}

-- ## operations

pub within_or_none : (w : ℕ) (z s : ℤ) → (in_bits w z ≡ true → s ≡ z) → (if in_bits w z then Some s else None) ≡ fitting w z
within_or_none w z s same =
    elim (cases_Bool (in_bits w z)) [
      | inl there ↦
          let choose = λ (b : Bool) (x : ℤ). if b then Some x else None in
          ap (λ b. choose b s) there ∙ ap Some (same there) ∙ sym (ap (λ b. choose b z) there)
      | inr none ↦ ap (λ b. if b then Some s else None) none ∙ sym (ap (λ b. if b then Some z else None) none)
    ]

joined_numbers : (w : ℕ) (op : ℤ → ℤ → ℤ) (a b : Bool) (x y s : ℤ) → (in_bits w (op x y) ≡ true → s ≡ op x y)
    → (if (a && b) && in_bits w (op x y) then Some s else None) ≡ with_both (if a then Some x else None) (if b then Some y else None) (λ u v. fitting w (op u v)) None
joined_numbers w op true true x y s same = within_or_none w (op x y) s same
joined_numbers w op true false x y s same = refl
joined_numbers w op false b x y s same = refl

pub operation : (p : Posed) (op : ℤ → ℤ → ℤ) (old middle third new : List Node) (a : List ℕ) (a_there : ℕ) (b : List ℕ) (b_there : ℕ) (found : List ℕ) (within known there : ℕ)
    → IsStanding p old a a_there → IsStanding p old b b_there → Keeps old middle
    → IsNumber middle p.scope.ints (λ inputs. op (shown old a inputs) (shown old b inputs)) found within → Keeps middle third
    → IsTruth third (λ inputs. value inputs middle a_there && value inputs middle b_there) known → Keeps third new
    → IsTruth new (λ inputs. value inputs third known && value inputs third within) there → IsOperation p op old new a a_there b b_there found there
operation p op old middle third new a a_there b b_there found within known there left right first number second both last whole = record {
  stands = record { of = all_more middle new found kept number.of; wide = number.wide; there_of = whole.of };
  values = λ inputs.
      let x = shown old a inputs in
      let y = shown old b inputs in
      let here : value inputs new there ≡ ((value inputs old a_there && value inputs old b_there) && in_bits p.scope.ints (op x y)) =
      whole.value_is inputs
      ∙ ap (λ t. t && value inputs third within) (both.value_is inputs
      ∙ ap (λ t. t && value inputs middle b_there) (first.values inputs a_there left.there_of) ∙ ap (λ t. value inputs old a_there && t) (first.values inputs b_there right.there_of))
      ∙ ap (λ t. (value inputs old a_there && value inputs old b_there) && t) (second.values inputs within number.within_is.of ∙ number.within_is.value_is inputs) in
      let kept_bits : shown new found inputs ≡ shown middle found inputs = ap signed (bits_keep inputs middle new found kept number.of) in
      ap (λ t. if t then Some (shown new found inputs) else None) here
      ∙ joined_numbers p.scope.ints op (value inputs old a_there) (value inputs old b_there) x y (shown new found inputs) (λ fits. kept_bits ∙ number.number_is inputs fits);
}
  where
    kept : Keeps middle new
    kept = keeps_twice middle third new second last

-- ## tests

tested_numbers : (test : ℤ → ℤ → Bool) (a b : Bool) (x y : ℤ) → ((a && b) && test x y) ≡ with_both (if a then Some x else None) (if b then Some y else None) test false
tested_numbers test true true x y = refl
tested_numbers test true false x y = refl
tested_numbers test false b x y = refl

pub comparison : (p : Posed) (test : ℤ → ℤ → Bool) (old middle third new : List Node) (a : List ℕ) (a_there : ℕ) (b : List ℕ) (b_there tested known gate : ℕ)
    → IsStanding p old a a_there → IsStanding p old b b_there → Keeps old middle → IsTruth middle (λ inputs. test (shown old a inputs) (shown old b inputs)) tested → Keeps middle third
    → IsTruth third (λ inputs. value inputs middle a_there && value inputs middle b_there) known → IsTruth new (λ inputs. value inputs third known && value inputs third tested) gate
    → IsComparison test old new a a_there b b_there gate
comparison p test old middle third new a a_there b b_there tested known gate left right first truth second both whole = record {
  of = whole.of;
  value_is = λ inputs.
      whole.value_is inputs
      ∙ ap (λ t. t && value inputs third tested) (both.value_is inputs
      ∙ ap (λ t. t && value inputs middle b_there) (first.values inputs a_there left.there_of) ∙ ap (λ t. value inputs old a_there && t) (first.values inputs b_there right.there_of))
      ∙ ap (λ t. (value inputs old a_there && value inputs old b_there) && t) (second.values inputs tested truth.of ∙ truth.value_is inputs)
      ∙ tested_numbers test (value inputs old a_there) (value inputs old b_there) (shown old a inputs) (shown old b inputs);
}

-- ## what they mean

abbrev Made : Posed → Named → List Node → List Node → (ℤ → ℤ → ℤ) → (NumExpr → NumExpr → NumExpr) → Type 0
Made p es old new op form =
    (a b : NumExpr) (x : List ℕ) (x_there : ℕ) (y : List ℕ) (y_there : ℕ) (found : List ℕ) (there : ℕ) → IsNumberOf p es old a x x_there → IsNumberOf p es old b y y_there
    → IsOperation p op old new x x_there y y_there found there → IsNumberOf p es new (form a b) found there

made : (p : Posed) (es : Named) (old new : List Node) (op : ℤ → ℤ → ℤ) (form : NumExpr → NumExpr → NumExpr) → Keeps old new → IsOf old 0 → Stand old es
    → ((a b : NumExpr) (m : Reading) → number_of (form a b) m ≡ with_both (number_of a m) (number_of b m) (λ u v. fitting m.ints (op u v)) None)
    → ((kinds : Kinds) (a b : NumExpr) → is_sorted_number p kinds (form a b) ≡ (is_sorted_number p kinds a && is_sorted_number p kinds b)) → Made p es old new op form
made p es old new op form keeps some stand meaning sorts a b x x_there y y_there found there first second is = record {
  stands = is.stands;
  values = λ kinds m inputs sorted seen.
      let before = seen_before p kinds old new es inputs m keeps some stand seen in
      let parts = and_parts (is_sorted_number p kinds a) (is_sorted_number p kinds b) (sym (sorts kinds a b) ∙ sorted) in
      is.values inputs
      ∙ ap (λ k. with_both k (counted old y y_there inputs) (λ u v. fitting p.scope.ints (op u v)) None) (first.values kinds m inputs parts.0 before)
      ∙ ap (λ k. with_both (number_of a m) k (λ u v. fitting p.scope.ints (op u v)) None) (second.values kinds m inputs parts.1 before)
      ∙ ap (λ w. with_both (number_of a m) (number_of b m) (λ u v. fitting w (op u v)) None) (sym before.of_problem.ints)
      ∙ sym (meaning a b m);
}

pub sum_made : (p : Posed) (es : Named) (old new : List Node) → Keeps old new → IsOf old 0 → Stand old es → Made p es old new (λ x y. x +ℤ y) n.Sum
sum_made p es old new keeps some stand = made p es old new (λ x y. x +ℤ y) n.Sum keeps some stand number_sum (sorted_number_sum p)

pub difference_made : (p : Posed) (es : Named) (old new : List Node) → Keeps old new → IsOf old 0 → Stand old es → Made p es old new (λ x y. x -ℤ y) n.Diff
difference_made p es old new keeps some stand = made p es old new (λ x y. x -ℤ y) n.Diff keeps some stand number_diff (sorted_number_diff p)

pub product_made : (p : Posed) (es : Named) (old new : List Node) → Keeps old new → IsOf old 0 → Stand old es → Made p es old new (λ x y. x *ℤ y) n.Product
product_made p es old new keeps some stand = made p es old new (λ x y. x *ℤ y) n.Product keeps some stand number_product (sorted_number_product p)
