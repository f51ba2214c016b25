-- One relation more that is named: what stood is shown as before, and each reading is shown at the new relation too.
use Rattle.std.proofs.Common.{
  ◌≡◌,
  ℕ,
  ◌+◌,
  ◌*◌,
  ◌<◌,
  ◌≤◌,
  Bool,
  true,
  false,
  ◌&&◌,
  List,
  [],
  ◌∷◌,
  ◌++◌,
  length,
  map,
  get_or,
  All,
  refl,
  sym,
  subst,
  ap,
  ◌∙◌,
  arith,
  inl,
  inr,
  pos,
  Option,
  Some,
  None,
  is_some,
}
use Rattle.std.specs.Prelude.{◌==◌, if◌then◌else◌, IsTrue}
use Rattle.std.specs.List.{range_with_len}
use Rattle.std.proofs.lemmas.Bool.{false≢true, cases_Bool, cases_lt, and_parts, and_from, eqb-true, eq-eqb}
use Rattle.std.proofs.lemmas.List.{get_or_past}
use Rattle.gate_arith.specs.Numbers.{number, signed}
use Rattle.gate_core.specs.declared.circuit.Node.{Node}
use Rattle.gate_core.specs.Circuit.{value, IsOf, Keeps}
use Rattle.gate_core.proofs.Values.{all_more, value_decided}
use Rattle.heap_core.specs.declared.value.Value.{Value}
use Rattle.heap_core.specs.Posed.{Posed}
use Rattle.rel_core.specs.declared.relation.RelVar.{RelVar}
use Rattle.rel_core.specs.declared.relation.What.{What}
use Rattle.rel_core.specs.declared.relation.What.TheVariants as what
use Rattle.rel_core.specs.Reading.{Reading, same_what, same_relation, is_reference}
use Rattle.rel_core.specs.Uses.{Kinds, Use, AsSet, AsNumber, AsFlag, AsClass, has_use, has_place}
use Rattle.rel_gates.specs.Shown.{Named, gates_of, is_named, gate_count, class_bits, place_of, refs_shown, number_shown, flag_shown, reading_shown, AgreeAt, Agrees}
use Rattle.rel_gates.specs.Naming.{SameBefore, ShowsAll, AreInputs, IsWithin, IsShown, AreNamed}
use Rattle.rel_gates.proofs.Wanted.{wanted, refs_agree, number_agrees, flag_agrees}

-- ## relations that are one

pub same_what-is : (a b : What) → same_what a b ≡ true → a ≡ b
same_what-is what.Live what.Live is = refl
same_what-is what.ClassOf what.ClassOf is = refl
same_what-is (what.Field f) (what.Field g) is = ap what.Field (eqb-true f g is)
same_what-is (what.Slot x) (what.Slot y) is = ap what.Slot (eqb-true x y is)
same_what-is what.Live what.ClassOf is = absurd (false≢true is)
same_what-is what.Live (what.Field g) is = absurd (false≢true is)
same_what-is what.Live (what.Slot y) is = absurd (false≢true is)
same_what-is what.ClassOf what.Live is = absurd (false≢true is)
same_what-is what.ClassOf (what.Field g) is = absurd (false≢true is)
same_what-is what.ClassOf (what.Slot y) is = absurd (false≢true is)
same_what-is (what.Field f) what.Live is = absurd (false≢true is)
same_what-is (what.Field f) what.ClassOf is = absurd (false≢true is)
same_what-is (what.Field f) (what.Slot y) is = absurd (false≢true is)
same_what-is (what.Slot x) what.Live is = absurd (false≢true is)
same_what-is (what.Slot x) what.ClassOf is = absurd (false≢true is)
same_what-is (what.Slot x) (what.Field g) is = absurd (false≢true is)

pub same_relation-is : (r s : RelVar) → same_relation r s ≡ true → r ≡ s
same_relation-is r s is =
    let parts = and_parts (same_what r.what s.what) (r.index == s.index) is in
    let whats = same_what-is r.what s.what parts.0 in
    let indices = eqb-true r.index s.index parts.1 in
    (λ j. record { what = whats j; index = indices j })

-- ## look-ups

pub found_first : (es more : Named) (r : RelVar) (gates : List ℕ) → gates_of es r ≡ Some gates → gates_of (es ++ more) r ≡ Some gates
found_first [] more r gates is = absurd (cc)
found_first (e ∷ es) more r gates is =
    elim (cases_Bool (same_relation e.0 r)) [
      | inl same ↦
          let here = λ (rest : Option (List ℕ)). ap (λ b. if b then Some e.1 else rest) same in
          here (gates_of (es ++ more) r) ∙ sym (here (gates_of es r)) ∙ is
      | inr other ↦
          let past = λ (rest : Option (List ℕ)). ap (λ b. if b then Some e.1 else rest) other in
          past (gates_of (es ++ more) r) ∙ found_first es more r gates (sym (past (gates_of es r)) ∙ is)
    ]

pub found_last : (es more : Named) (r : RelVar) → gates_of es r ≡ None → gates_of (es ++ more) r ≡ gates_of more r
found_last [] more r none = refl
found_last (e ∷ es) more r none =
    elim (cases_Bool (same_relation e.0 r)) [
      | inl same ↦ absurd (let here : Some e.1 ≡ None = sym (ap (λ b. if b then Some e.1 else gates_of es r) same) ∙ none in cc)
      | inr other ↦
          let past = λ (rest : Option (List ℕ)). ap (λ b. if b then Some e.1 else rest) other in
          past (gates_of (es ++ more) r) ∙ found_last es more r (sym (past (gates_of es r)) ∙ none)
    ]

-- ## what is shown at a relation hangs on its gates alone

-- the gates of the list have the same truth values, and so has the gate that stands for none
abbrev pub SameTruth : (ℕ → Bool) → (ℕ → Bool) → List ℕ → Type 0
SameTruth truth other gates = (k : ℕ) → truth (get_or gates k 0) ≡ other (get_or gates k 0)

refs_same : (p : Posed) (kinds : Kinds) (truth other : ℕ → Bool) (gates : List ℕ) (r : RelVar) (o : ℕ) (v : Value) → SameTruth truth other gates
    → refs_shown p kinds truth (Some gates) r o v ≡ refs_shown p kinds other (Some gates) r o v
refs_same p kinds truth other gates r o v same =
    ap (λ b. has_place p kinds AsSet r o && is_reference p.scope.objects v && b) (same (o * (p.scope.objects + 1) + place_of v))

number_same : (p : Posed) (kinds : Kinds) (truth other : ℕ → Bool) (gates : List ℕ) (r : RelVar) (o : ℕ) → SameTruth truth other gates
    → number_shown p kinds truth (Some gates) r o ≡ number_shown p kinds other (Some gates) r o
number_same p kinds truth other gates r o same =
    (λ j. if has_place p kinds AsNumber r o then signed (map (λ i. same (o * p.scope.ints + i) j) (range_with_len 0 p.scope.ints))
    else (if has_place p kinds AsClass r o then pos (number (map (λ i. same (o * class_bits p + i) j) (range_with_len 0 (class_bits p)))) else pos 0))

flag_same : (p : Posed) (kinds : Kinds) (truth other : ℕ → Bool) (gates : List ℕ) (r : RelVar) (o : ℕ) → SameTruth truth other gates
    → flag_shown p kinds truth (Some gates) r o ≡ flag_shown p kinds other (Some gates) r o
flag_same p kinds truth other gates r o same = ap (λ b. has_place p kinds AsFlag r o && b) (same (o * 1 + 0))

-- a reading agrees at a relation with gates
abbrev pub AgreesWith : Posed → Kinds → (ℕ → Bool) → Option (List ℕ) → Reading → RelVar → Type 0
AgreesWith p kinds truth found m r =
    ((o : ℕ) (v : Value) → m.refs r o v ≡ refs_shown p kinds truth found r o v) × ((o : ℕ) → m.number r o ≡ number_shown p kinds truth found r o) × ((o : ℕ)
    → m.flag r o ≡ flag_shown p kinds truth found r o)

pub agree_from : (p : Posed) (kinds : Kinds) (truth : ℕ → Bool) (es : Named) (m : Reading) (r : RelVar) → AgreesWith p kinds truth (gates_of es r) m r
    → AgreeAt m (reading_shown p kinds truth es) r
agree_from p kinds truth es m r with_gates = record { refs = with_gates.0; number = with_gates.1; flag = with_gates.2 }

pub agree_to : (p : Posed) (kinds : Kinds) (truth : ℕ → Bool) (es : Named) (m : Reading) (r : RelVar) → AgreeAt m (reading_shown p kinds truth es) r
    → AgreesWith p kinds truth (gates_of es r) m r
agree_to p kinds truth es m r agree = (agree.refs, agree.number, agree.flag)

pub agree_kept : (p : Posed) (kinds : Kinds) (truth other : ℕ → Bool) (gates : List ℕ) (m : Reading) (r : RelVar) → SameTruth other truth gates
    → AgreesWith p kinds truth (Some gates) m r → AgreesWith p kinds other (Some gates) m r
agree_kept p kinds truth other gates m r same agree = (
  λ o v. agree.0 o v ∙ sym (refs_same p kinds other truth gates r o v same),
  λ o. agree.1 o ∙ sym (number_same p kinds other truth gates r o same),
  λ o. agree.2 o
      ∙ sym (flag_same p kinds other truth gates r o same),
)

-- ## one relation more

-- gates that stood have the truth values that they had, under an assignment that agrees on the nodes that stood
pub stands_same : (middle new : List Node) (before inputs : ℕ → Bool) (gates : List ℕ) → Keeps middle new → IsOf middle 0 → All (IsOf middle) gates → SameBefore middle before inputs
    → SameTruth (value inputs new) (value before middle) gates
stands_same middle new before inputs gates keeps some of same k =
    keeps.values inputs (get_or gates k 0) is_of ∙ value_decided middle (get_or gates k 0) inputs before (λ place within stands. same place (omega (arith, is_of, within)))
  where
    is_of : IsOf middle (get_or gates k 0)
    is_of = elim (cases_lt k (length gates)) [ inl inside ↦ of k 0 inside | inr past ↦ subst (IsOf middle) (sym (get_or_past gates k 0 past)) some ]

-- the tuples that are lacking are not wanted
abbrev pub IsFree : Posed → Kinds → List ℕ → RelVar → Use → (ℕ → Bool) → Type 0
IsFree p kinds upper r u free = (m : Reading) → IsWithin p kinds upper m → (j : ℕ) → j < gate_count p u r → free j ≡ false → wanted p m r u j ≡ false

pub named_more : (p : Posed) (kinds : Kinds) (upper : List ℕ) (old middle new : List Node) (es : Named) (r : RelVar) (u : Use) (free : ℕ → Bool) (gates : List ℕ) → 2 ≤ p.scope.ints
    → length p.unit.classes ≤ 16
    → IsOf middle 0 → length old ≤ length middle → has_use p kinds u r.what ≡ true → IsFree p kinds upper r u free → gates_of es r ≡ None → AreNamed p kinds upper old middle es
    → AreInputs middle new (gate_count p u r) free gates
    → AreNamed p kinds upper old new (es ++ (r, gates) ∷ [])
named_more p kinds upper old middle new es r u free gates wide few some longer its lacking none named are = record { of = of; shown = shown }
  where
    grown : Named
    grown = es ++ (r, gates) ∷ []

    only : (s : RelVar) (gs : List ℕ) → gates_of es s ≡ None → gates_of grown s ≡ Some gs → (r ≡ s) × (gates ≡ gs)
    only s gs absent is =
        elim (cases_Bool (same_relation r s)) [
          | inl same ↦
              let here : Some gates ≡ Some gs = sym (ap (λ b. if b then Some gates else None) same) ∙ sym (found_last es ((r, gates) ∷ []) s absent) ∙ is in
              (same_relation-is r s same, cc)
          | inr other ↦ absurd (let past : None ≡ Some gs = sym (ap (λ b. if b then Some gates else None) other) ∙ sym (found_last es ((r, gates) ∷ []) s absent) ∙ is in cc)
        ]

    of : (s : RelVar) (gs : List ℕ) → gates_of grown s ≡ Some gs → All (IsOf new) gs
    of s gs is = by (gates_of es s) refl
      where
        by : (found : Option (List ℕ)) → gates_of es s ≡ found → All (IsOf new) gs
        by (Some hs) there =
            let same : hs ≡ gs = (let h : Some hs ≡ Some gs = sym (found_first es ((r, gates) ∷ []) s hs there) ∙ is in cc) in
            subst (All (IsOf new)) same (all_more middle new hs are.keeps (named.of s hs there))
        by None there = subst (All (IsOf new)) (only s gs there is).1 are.of

    shown : (m : Reading) (before : ℕ → Bool) → IsWithin p kinds upper m → IsShown p kinds old new grown before m
    shown m before within = record { inputs = last.inputs; same = λ place inside. last.same place (omega (arith, inside, longer)) ∙ first.same place inside; agrees = agrees }
      where
        first : IsShown p kinds old middle es before m
        first = named.shown m before within

        last : ShowsAll middle new first.inputs (wanted p m r u) (gate_count p u r) gates
        last = are.shown first.inputs (wanted p m r u) (lacking m within)

        at : (s : RelVar) (found : Option (List ℕ)) → gates_of es s ≡ found → IsTrue (is_named grown s) → AgreesWith p kinds (value last.inputs new) (gates_of grown s) m s
        at s (Some gs) there is =
            subst (λ found. AgreesWith p kinds (value last.inputs new) found m s) (sym (found_first es ((r, gates) ∷ []) s gs there))
            (agree_kept p kinds (value first.inputs middle) (value last.inputs new) gs m s (stands_same middle new first.inputs last.inputs gs are.keeps some (named.of s gs there) last.same)
            (subst (λ found. AgreesWith p kinds (value first.inputs middle) found m s) there
            (agree_to p kinds (value first.inputs middle) es m s (first.agrees s (ap is_some there)))))
        at s None there is =
            elim (cases_Bool (same_relation r s)) [
              | inl same ↦
                  let there_are : gates_of grown s ≡ Some gates = found_last es ((r, gates) ∷ []) s there ∙ ap (λ b. if b then Some gates else None) same in
                  subst (λ found. AgreesWith p kinds (value last.inputs new) found m s) (sym there_are)
                  (subst (λ t. AgreesWith p kinds (value last.inputs new) (Some gates) m t) (same_relation-is r s same) (
                    refs_agree p kinds m r u (value last.inputs new) gates within.of_problem its last.values,
                    number_agrees p kinds m r u (value last.inputs new) gates
                        within.of_problem wide few its last.values,
                    flag_agrees p kinds m r u (value last.inputs new) gates within.of_problem its last.values,
                  ))
              | inr other ↦
                  let absent : gates_of grown s ≡ None = found_last es ((r, gates) ∷ []) s there ∙ ap (λ b. if b then Some gates else None) other in
                  absurd (false≢true (sym (ap is_some absent) ∙ is))
            ]

        agrees : Agrees p kinds (value last.inputs new) grown m
        agrees s is = agree_from p kinds (value last.inputs new) grown m s (at s (gates_of es s) refl is)

same_what-refl : (a : What) → same_what a a ≡ true
same_what-refl what.Live = refl
same_what-refl what.ClassOf = refl
same_what-refl (what.Field f) = eq-eqb f f refl
same_what-refl (what.Slot x) = eq-eqb x x refl

pub same_relation-refl : (r : RelVar) → same_relation r r ≡ true
same_relation-refl r = and_from (same_what r.what r.what) (r.index == r.index) (same_what-refl r.what) (eq-eqb r.index r.index refl)
