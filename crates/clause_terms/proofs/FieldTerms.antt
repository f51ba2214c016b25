-- Terms of fields.
use Rattle.std.proofs.Common.{◌≡◌, ℕ, Bool, true, false, not, ◌&&◌, ◌||◌, refl, sym, ap, subst, ◌∙◌}
use Rattle.std.specs.Prelude.{List, pos}
use Rattle.std.specs.Ordering.{int_eq}
use Rattle.std.specs.Option.{option_map_or}
use Rattle.std.proofs.lemmas.Bool.{false≢true}
use Rattle.taco_unit.specs.declared.unit.ClassDef.{ClassDef}
use Rattle.taco_unit.specs.declared.unit.FieldDef.{FieldDef}
use Rattle.taco_unit.specs.Parts.{Parts}
use Rattle.heap_core.specs.declared.value.Value.{Value}
use Rattle.heap_core.specs.declared.value.Value.TheVariants.{Null, Obj, Num, Flag}
use Rattle.heap_core.specs.declared.value.Seen.{Seen}
use Rattle.heap_core.specs.declared.value.Seen.TheVariants.{Is, Bad, Out}
use Rattle.heap_core.specs.Outcomes.{is_bad, is_null, is_object, is_value}
use Rattle.heap_core.specs.Heap.{Heap, field}
use Rattle.rel_core.specs.declared.relation.RelVar.{RelVar}
use Rattle.rel_core.specs.declared.indices.Indices.{Indices}
use Rattle.rel_core.specs.Reading.{Reading}
use Rattle.rel_core.specs.Meaning.{ValueSet, joined, only_object, are_of, holds}
use Rattle.rel_core.specs.Shown.{ShowsValue, class_relation, field_relation, live_relation}
use Rattle.rel_core.specs.Laws.{FieldIsShown}
use Rattle.clause_terms.specs.declared.term.Term.{Term}
use Rattle.clause_terms.specs.Terms.{IsOnly, HasValue, Tells, gives_value}
use Rattle.clause_terms.specs.Fields.{FieldIsLacking}
use Rattle.clause_terms.proofs.Only.{only_one, joined_one, class_one}

-- ## what a relation has at the object of a set

or_false : (b : Bool) → (b || false) ≡ b
or_false true = refl
or_false false = refl

pub number_at_object : (m : Reading) (s : ValueSet) (o : ℕ) (r : RelVar) → IsOnly m s (Obj o) → option_map_or (m.number r) (only_object m s) (pos 0) ≡ m.number r o
number_at_object m s o r one = ap (λ p. option_map_or (m.number r) p (pos 0)) (only_one m s (Obj o) one)

pub flag_at_object : (m : Reading) (s : ValueSet) (o : ℕ) (r : RelVar) → IsOnly m s (Obj o) → option_map_or (m.flag r) (only_object m s) false ≡ m.flag r o
flag_at_object m s o r one = ap (λ p. option_map_or (m.flag r) p false) (only_one m s (Obj o) one)

pub references_at_object : (m : Reading) (s : ValueSet) (o : ℕ) (r : RelVar) (u : Value) → IsOnly m s (Obj o) → joined m s r u ≡ m.refs r o u
references_at_object m s o r u one = joined_one m s (Obj o) r u one ∙ or_false (m.refs r o u)

pub ruleset at_object = (number_at_object, flag_at_object, references_at_object)

-- ## a field

bad_is : (s : Seen) → is_bad s ≡ true → s ≡ Bad
bad_is Bad is = refl
bad_is Out is = absurd (false≢true is)
bad_is (Is v) is = absurd (false≢true is)

and_true : (b : Bool) → (b && true) ≡ b
and_true true = refl
and_true false = refl

-- what a field gives at an object, by whether the object is there and of the class
module _ (u : Parts) (m : Reading) (at : Indices) (heap : Heap) (f : ℕ) (d : FieldDef) (shown : FieldIsShown u m at heap f d) (t : Term) (o : ℕ)
    (value : (v : Value) → ShowsValue m d.kind (field_relation at f) o v → HasValue m t.value v) where
  told_there : (live of : Bool) → m.flag (live_relation at) o ≡ live → int_eq (m.number (class_relation at) o) (pos d.class) ≡ of
      → holds t.fine m ≡ (live && of) → holds t.inside m ≡ (not live || of) → Tells (field u.classes heap f (Obj o)) t m
  told_there true true there is fine inside =
      let c = shown.given o (rw (there, is) refl) in
      subst (λ s. Tells s t m) (sym c.is) (record { fine = fine; inside = inside; value = value c.value c.shown })
  told_there true false there is fine inside =
      let e = shown.other_class o there (rw (there, is) refl) in
      subst (λ s. Tells s t m) (sym e) (record { fine = fine; inside = inside; value = tt })
  told_there false of there is fine inside =
      let e = bad_is (field u.classes heap f (Obj o)) (shown.missing o ∙ ap not there) in
      subst (λ s. Tells s t m) (sym e) (record { fine = fine; inside = inside; value = tt })

pub told_read : (u : Parts) (m : Reading) (at : Indices) (heap : Heap) (f : ℕ) (d : FieldDef) (t : Term) (s : ValueSet) (v : Value) (live of : Bool)
    → FieldIsShown u m at heap f d → IsOnly m s v
    → live ≡ option_map_or (m.flag (live_relation at)) (only_object m s) false
    → of ≡ are_of m s d.class (class_relation at)
    → holds t.fine m ≡ (live && of) → holds t.inside m ≡ (not live || of)
    → ((o : ℕ) (w : Value) → IsOnly m s (Obj o) → ShowsValue m d.kind (field_relation at f) o w → HasValue m t.value w)
    → Tells (field u.classes heap f v) t m
told_read u m at heap f d t s Null live of shown one live_is of_is fine inside value =
    let dead : live ≡ false = live_is ∙ ap (λ p. option_map_or (m.flag (live_relation at)) p false) (only_one m s Null one) in
    record { fine = fine ∙ ap (λ b. b && of) dead; inside = inside ∙ ap (λ b. not b || of) dead; value = tt }
told_read u m at heap f d t s (Obj o) live of shown one live_is of_is fine inside value =
    let live_here : live ≡ m.flag (live_relation at) o = live_is ∙ flag_at_object m s o (live_relation at) one in
    let class : of ≡ int_eq (m.number (class_relation at) o) (pos d.class) = of_is ∙ class_one m s (Obj o) d.class (class_relation at) one ∙ and_true
    (int_eq (m.number (class_relation at) o) (pos d.class)) in
    told_there u m at heap f d shown t o (λ w. value o w one) live of (sym live_here) (sym class) fine inside
told_read u m at heap f d t s (Num z) live of shown one live_is of_is fine inside value = absurd (false≢true one.reference)
told_read u m at heap f d t s (Flag b) live of shown one live_is of_is fine inside value = absurd (false≢true one.reference)

-- ## a field that no class declares

pub told_lacking : (classes : List ClassDef) (m : Reading) (at : Indices) (heap : Heap) (f : ℕ) (t : Term) (s : ValueSet) (v : Value) (live : Bool)
    → FieldIsLacking classes m at heap f → IsOnly m s v
    → live ≡ option_map_or (m.flag (live_relation at)) (only_object m s) false
    → holds t.fine m ≡ false → holds t.inside m ≡ not live
    → Tells (field classes heap f v) t m
told_lacking classes m at heap f t s Null live lacks one live_is fine inside =
    let dead : live ≡ false = live_is ∙ ap (λ p. option_map_or (m.flag (live_relation at)) p false) (only_one m s Null one) in
    record { fine = fine; inside = inside ∙ ap not dead; value = tt }
told_lacking classes m at heap f t s (Obj o) live lacks one live_is fine inside =
    go (field classes heap f (Obj o)) (lacks.lacking o) (lacks.missing o)
  where
    go : (r : Seen) → gives_value r ≡ false → is_bad r ≡ not (m.flag (live_relation at) o) → Tells r t m
    go (Is v) none bad = absurd (false≢true (sym none))
    go Bad none bad = record { fine = fine; inside = inside ∙ ap not (live_is ∙ flag_at_object m s o (live_relation at) one) ∙ sym bad; value = tt }
    go Out none bad = record { fine = fine; inside = inside ∙ ap not (live_is ∙ flag_at_object m s o (live_relation at) one) ∙ sym bad; value = tt }
told_lacking classes m at heap f t s (Num z) live lacks one live_is fine inside = absurd (false≢true one.reference)
told_lacking classes m at heap f t s (Flag b) live lacks one live_is fine inside = absurd (false≢true one.reference)

-- ## the values of references

pub null_exact : (u : Value) → is_null u ≡ is_value Null u
null_exact Null = refl
null_exact (Obj o) = refl
null_exact (Num z) = refl
null_exact (Flag b) = refl

pub object_exact : (o : ℕ) (u : Value) → is_object o u ≡ is_value (Obj o) u
object_exact o Null = refl
object_exact o (Obj p) = refl
object_exact o (Num z) = refl
object_exact o (Flag b) = refl
