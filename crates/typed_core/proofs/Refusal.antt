-- What is reported of a text.
use Rattle.std.proofs.Common.{◌≡◌, ◌≤◌, ◌<◌, ℕ, suc, Bool, true, false, List, [], ◌∷◌, Some, Ok, Err, refl, ap, ◌∙◌, subst, arith}
use Rattle.std.specs.Prelude.{All, slice_get, nat_lt, if◌then◌else◌}
use Rattle.std.proofs.lemmas.List.Elements.{All-cons, All-nil}
use Rattle.std.proofs.lemmas.Bool.{ltb-false}
use Rattle.std.proofs.lemmas.Bool.Decides.{Decides-ltb}
use Rattle.java_tree.specs.Trees.{Classes}
use Rattle.taco_unit.specs.Parts.{Parts}
use Rattle.taco_unit.specs.Well.{IsWell}
use Rattle.declared_names.specs.declared.fault.Fault.{Fault}
use Rattle.declared_names.specs.declared.fault.Cause.{Cause}
use Rattle.declared_names.specs.declared.fault.Cause.TheVariants as cause
use Rattle.declared_names.specs.Faults.{key, least, soonest}
use Rattle.declared_names.specs.Seen.{Seen, Stands, Faulty, over, told}
use Rattle.typed_statements.proofs.Stand.{stands}
use Rattle.typed_core.specs.declared.members.Built.{Built}
use Rattle.typed_core.specs.Members.{unit_of, seen_text, resolved}
use Rattle.typed_core.specs.Resolved.{by_cause, name_fault, IsReported, Reports, Refuses}
use Rattle.typed_core.proofs.WellUnit.{text_well}

-- it is one of these, and none of them goes before it
record IsLeast (f : Fault) (fs : List Fault) : Type 0 where
  place : ℕ
  among : slice_get fs place ≡ Some f
  before : All (λ g. key f ≤ key g) fs

not_before : (n : ℕ) → n ≤ n
not_before n = omega arith

least_by : (b : Bool) (f g : Fault) (gs : List Fault) (rest : Fault) → nat_lt (key rest) (key f) ≡ b → IsLeast rest (g ∷ gs) → IsLeast (if b then rest else f) (f ∷ g ∷ gs)
least_by true f g gs rest less h =
    let sooner_ : key rest < key f = (Decides-ltb (key rest) (key f)).0 less in
    record { place = suc h.place; among = h.among; before = All-cons (λ (x : Fault). key rest ≤ key x) f (g ∷ gs) (omega arith) h.before }
least_by false f g gs rest less h =
    let later : key f ≤ key rest = ltb-false (key rest) (key f) less in
    record { place = 0; among = refl; before = All-cons (λ (x : Fault). key f ≤ key x) f (g ∷ gs) (not_before (key f)) (λ i d within. omega (arith, h.before i d within, later)) }

least_is : (f : Fault) (fs : List Fault) → IsLeast (least f fs) (f ∷ fs)
unfolding least
least_is f [] = record { place = 0; among = refl; before = All-cons (λ (x : Fault). key f ≤ key x) f [] (not_before (key f)) (All-nil (λ (x : Fault). key f ≤ key x)) }
least_is f (g ∷ gs) = least_by (nat_lt (key (least g gs)) (key f)) f g gs (least g gs) refl (least_is g gs)

least_reported : (f : Fault) (fs : List Fault) → IsReported (least f fs) (f ∷ fs)
unfolding soonest
least_reported f fs = let h = least_is f fs in record { place = h.place; among = h.among; before = h.before; first = refl }

-- THE ANSWER

refused_by : (s : Seen Parts) (at : ℕ) (c : Cause) → Reports s (by_cause at c) → Refuses s (by_cause at c)
refused_by s at cause.Unknown h = h
refused_by s at cause.Twice h = h
refused_by s at cause.Kinds h = h
refused_by s at (cause.TooMany many) h = h

refused_text : (s : Seen Built) (f : Fault) → told s ≡ Err f → Refuses (over s (λ b. Stands (unit_of b))) (name_fault f)
unfolding over told
refused_text (Stands b) f is = absurd (cc)
refused_text (Faulty g gs) f is =
    let same : least g gs ≡ f = cc in
    let P : Fault → Type 0 = λ x. IsReported x (g ∷ gs) in
    refused_by (Faulty g gs) f.at f.cause (record { fault = f; is = refl; reported = subst P same (least_reported g gs) })

-- a text that is refused has this fault
pub refused : (cs : Classes) (f : Fault) → told (seen_text cs) ≡ Err f → Refuses (resolved cs) (name_fault f)
refused cs f is = refused_text (seen_text cs) f is

stands_by : (s : Seen Built) (b : Built) → told s ≡ Ok b → s ≡ Stands b
unfolding told
stands_by (Stands x) b is = let same : x ≡ b = cc in ap Stands same
stands_by (Faulty f fs) b is = absurd (cc)

over_stands : (b : Built) → over (Stands b) (λ x. Stands (unit_of x)) ≡ Stands (unit_of b)
unfolding over
over_stands b = refl

-- a text that stands has this unit
pub resolved_is : (cs : Classes) (b : Built) → told (seen_text cs) ≡ Ok b → resolved cs ≡ Stands (unit_of b)
resolved_is cs b is = ap (λ s. over s (λ x. Stands (unit_of x))) (stands_by (seen_text cs) b is) ∙ over_stands b

-- and this is well
pub well_built : (cs : Classes) (b : Built) → told (seen_text cs) ≡ Ok b → IsWell (unit_of b)
well_built cs b is = stands (λ x. IsWell (unit_of x)) (seen_text cs) b (stands_by (seen_text cs) b is) (text_well cs)
