-- The relations of the tuples are in tuple order.
use Rattle.std.proofs.Common.{
  ◌≡◌,
  ℕ,
  zero,
  suc,
  ◌+◌,
  ◌-◌,
  ◌*◌,
  ◌<◌,
  ◌≤◌,
  Bool,
  true,
  false,
  not,
  List,
  [],
  ◌∷◌,
  ◌++◌,
  length,
  map,
  take,
  refl,
  sym,
  subst,
  ap,
  ◌∙◌,
  arith,
  inl,
  inr,
  ◌⊎◌,
  Option,
  Some,
  None,
}
use Rattle.std.specs.Prelude.{◌==◌, filter, slice_get, option_map, if◌then◌else◌}
use Rattle.std.specs.List.{range_with_len}
use Rattle.std.specs.Option.{option_map_or}
use Rattle.std.proofs.Math.Nat.{mul_comm}
use Rattle.std.proofs.Math.Seq.{take-append-add}
use Rattle.std.proofs.lemmas.Bool.{false≢true, cases_Bool, cases_lt, and_left, ne_eqb}
use Rattle.std.proofs.lemmas.Nat.{mul-add-lt}
use Rattle.std.proofs.lemmas.List.{length-append, length-map, take-append-le, take_all}
use Rattle.std.proofs.lemmas.Option.{slice_get-map, slice_get_within}
use Rattle.taco_unit.specs.declared.kind.Kind.{Kind}
use Rattle.taco_unit.specs.declared.kind.Kind.TheVariants as kind
use Rattle.taco_unit.specs.declared.unit.FieldDef.{FieldDef}
use Rattle.taco_unit.specs.declared.unit.ParamDef.{ParamDef}
use Rattle.taco_unit.specs.declared.unit.MethodDef.{MethodDef}
use Rattle.taco_unit.specs.Kinds.{is_class_kind}
use Rattle.taco_unit.specs.Well.{param_kinds}
use Rattle.heap_core.specs.declared.value.Value.TheVariants.{Obj}
use Rattle.heap_core.specs.Posed.{Posed}
use Rattle.heap_core.specs.Start.{method_of}
use Rattle.heap_core.proofs.Lists.{slice_get-append_left, slice_get-append_right}
use Rattle.canonical_order.specs.declared.tuple.Tuple.TheVariants.{Root, Field}
use Rattle.canonical_order.specs.Tuples.{targets, is_root, roots_of, is_link, links_of, tuples_of_links, tuples}
use Rattle.canonical_order.proofs.Counting.{slice_get-range}
use Rattle.canonical_order.proofs.TupleOrder.{length-tuples, root_tuple_at, field_tuple_at, tuple_left, tuple_right}
use Rattle.rel_core.specs.declared.relation.RelVar.{RelVar}
use Rattle.rel_core.specs.declared.relation.What.TheVariants as what
use Rattle.rel_core.specs.Reading.{same_relation}
use Rattle.rel_core.specs.Uses.{Kinds, GivesStart, receiver_kinds, start_kinds, use_of_kind, AsSet, same_use, has_use}
use Rattle.rel_gates.specs.Shown.{variable_of}
use Rattle.rel_gates.specs.Naming.{wanted_one, wanted_each}
use Rattle.rel_gates.specs.Meant.{reference_at}
use Rattle.rel_gates.specs.Rows.{slot_first, field_first, roots_in, tuple_uses, total, IsTupleAt, IsTupleUse, AreApart, AreTupleUses}
use Rattle.rel_gates.proofs.TupleNaming.{total-append}

-- ## what is filtered from a range

-- the first number passes, or what passes comes later
filtered_first : (g : ℕ → Bool) (a n k x : ℕ) → ((j : ℕ) → slice_get (filter g (range_with_len (a + 1) n)) j ≡ Some x → (a + 1 ≤ x) × (x < a + 1 + n) × (g x ≡ true))
    → slice_get (a ∷ filter g (range_with_len (a + 1) n)) k ≡ Some x → g a ≡ true → (a ≤ x) × (x < a + suc n) × (g x ≡ true)
filtered_first g a n zero x later here there = (let same : a ≡ x = cc in (omega (arith, same), omega (arith, same), ap g (sym same) ∙ there))
filtered_first g a n (suc k) x later here there = (let rest = later k here in (omega (arith, rest.0), omega (arith, rest.1), rest.2))

filtered_at : (g : ℕ → Bool) (a n i x : ℕ) → slice_get (filter g (range_with_len a n)) i ≡ Some x → (a ≤ x) × (x < a + n) × (g x ≡ true)
filtered_at g a zero i x at = absurd (cc)
filtered_at g a (suc n) i x at =
    elim (cases_Bool (g a)) [
      | inl there ↦
          filtered_first g a n i x (λ j later. filtered_at g (a + 1) n j x later)
          (sym (ap (λ b. slice_get (if b then a ∷ filter g (range_with_len (a + 1) n) else filter g (range_with_len (a + 1) n)) i) there) ∙ at) there
      | inr lacks ↦
          let rest = filtered_at g (a + 1) n i x (sym (ap (λ b. slice_get (if b then a ∷ filter g (range_with_len (a + 1) n) else filter g (range_with_len (a + 1) n)) i) lacks) ∙ at) in
          (omega (arith, rest.0), omega (arith, rest.1), rest.2)
    ]

rising_first : (g : ℕ → Bool) (a n i k x y : ℕ)
    → ((j l : ℕ) → slice_get (filter g (range_with_len (a + 1) n)) j ≡ Some x → slice_get (filter g (range_with_len (a + 1) n)) l ≡ Some y → j < l → x < y)
    → slice_get (a ∷ filter g (range_with_len (a + 1) n)) i ≡ Some x → slice_get (a ∷ filter g (range_with_len (a + 1) n)) k ≡ Some y → i < k → x < y
rising_first g a n i zero x y later one two less = absurd (omega (arith, less))
rising_first g a n zero (suc k) x y later one two less = (let same : a ≡ x = cc in let rest = filtered_at g (a + 1) n k y two in omega (arith, same, rest.0))
rising_first g a n (suc i) (suc k) x y later one two less = later i k one two (omega (arith, less))

rising : (g : ℕ → Bool) (a n i k x y : ℕ) → slice_get (filter g (range_with_len a n)) i ≡ Some x → slice_get (filter g (range_with_len a n)) k ≡ Some y → i < k → x < y
rising g a zero i k x y first second less = absurd (cc)
rising g a (suc n) i k x y first second less =
    elim (cases_Bool (g a)) [
      | inl there ↦
          rising_first g a n i k x y (λ j l one two below. rising g (a + 1) n j l x y one two below)
          (sym (ap (λ b. slice_get (if b then a ∷ filter g (range_with_len (a + 1) n) else filter g (range_with_len (a + 1) n)) i) there) ∙ first)
          (sym (ap (λ b. slice_get (if b then a ∷ filter g (range_with_len (a + 1) n) else filter g (range_with_len (a + 1) n)) k) there) ∙ second) less
      | inr lacks ↦
          rising g (a + 1) n i k x y (sym (ap (λ b. slice_get (if b then a ∷ filter g (range_with_len (a + 1) n) else filter g (range_with_len (a + 1) n)) i) lacks) ∙ first)
          (sym (ap (λ b. slice_get (if b then a ∷ filter g (range_with_len (a + 1) n) else filter g (range_with_len (a + 1) n)) k) lacks) ∙ second) less
    ]

-- ## lists that are mapped

mapped_from : (v : ℕ → RelVar × ℕ) (found : Option ℕ) (x : RelVar × ℕ) → option_map v found ≡ Some x → (r : ℕ) × (found ≡ Some r) × (x ≡ v r)
mapped_from v None x is = absurd (cc)
mapped_from v (Some r) x is = (r, refl, (let same : v r ≡ x = cc in sym same))

mapped_at : (v : ℕ → RelVar × ℕ) (rs : List ℕ) (i : ℕ) (x : RelVar × ℕ) → slice_get (map v rs) i ≡ Some x → (r : ℕ) × (slice_get rs i ≡ Some r) × (x ≡ v r)
mapped_at v rs i x at = mapped_from v (slice_get rs i) x (sym (slice_get-map v rs i) ∙ at)

total_alike : (v : ℕ → RelVar × ℕ) (n : ℕ) (rs : List ℕ) (i : ℕ) → ((r : ℕ) → (v r).1 ≡ n) → i ≤ length rs → total (take i (map v rs)) ≡ i * n
total_alike v n rs zero each within = omega arith
total_alike v n [] (suc i) each within = absurd (omega (arith, within))
total_alike v n (r ∷ rs) (suc i) each within = omega (arith, each r, total_alike v n rs i each (omega (arith, within)))

-- ## the uses of the roots and of the links

abbrev root_use : Posed → ℕ → RelVar × ℕ
root_use p r = wanted_one p AsSet (slot_first (variable_of p r))

abbrev link_use : Posed → ℕ → RelVar × ℕ
link_use p f = wanted_each p AsSet (field_first f)

pub roots_are : (p : Posed) (m : MethodDef) → method_of p ≡ Some m → roots_in p ≡ roots_of m
roots_are p m there = ap (λ o. option_map_or roots_of o []) there

root_length : (p : Posed) → length (map (root_use p) (roots_in p)) ≡ length (roots_in p)
root_length p = length-map (roots_in p) (root_use p)

-- a use that stands in the list is of a root or of a link
use_cases : (p : Posed) (i : ℕ) (x : RelVar × ℕ) → slice_get (tuple_uses p) i ≡ Some x
    → ((r : ℕ) × (slice_get (roots_in p) i ≡ Some r) × (x ≡ root_use p r))
    ⊎ ((k : ℕ) × (f : ℕ) × (i ≡ length (roots_in p) + k) × (slice_get (links_of p.unit) k ≡ Some f) × (x ≡ link_use p f))
use_cases p i x at =
    let roots = map (root_use p) (roots_in p) in
    let links = map (link_use p) (links_of p.unit) in
    elim (cases_lt i (length (roots_in p))) [
      | inl below ↦ inl (mapped_at (root_use p) (roots_in p) i x (sym (slice_get-append_left roots links i (omega (arith, below, root_length p))) ∙ at))
      | inr past ↦
          let k = i - length (roots_in p) in
          let place : length roots + k ≡ i = omega (arith, past, root_length p) in
          let found = mapped_at (link_use p) (links_of p.unit) k x (sym (slice_get-append_right roots links k) ∙ ap (slice_get (tuple_uses p)) place ∙ at) in
          inr (k, found.0, omega (arith, past), found.1, found.2)
    ]

-- how many gates come before a root's, and before a link's
before_root : (p : Posed) (i : ℕ) → i ≤ length (roots_in p) → total (take i (tuple_uses p)) ≡ i * (p.scope.objects + 1)
before_root p i within =
    ap total (take-append-le i (map (root_use p) (roots_in p)) (map (link_use p) (links_of p.unit)) (omega (arith, within, root_length p)))
    ∙ total_alike (root_use p) (p.scope.objects + 1) (roots_in p) i (λ r. refl) within

before_link : (p : Posed) (k : ℕ) → k ≤ length (links_of p.unit)
    → total (take (length (roots_in p) + k) (tuple_uses p)) ≡ length (roots_in p) * (p.scope.objects + 1) + k * (p.scope.objects * (p.scope.objects + 1))
before_link p k within =
    let roots = map (root_use p) (roots_in p) in
    let links = map (link_use p) (links_of p.unit) in
    let all : total roots ≡ length (roots_in p) * (p.scope.objects + 1) =
    ap total (sym (take_all (length (roots_in p)) roots (omega (arith, root_length p)))) ∙ total_alike (root_use p) (p.scope.objects + 1) (roots_in p) (length
    (roots_in p)) (λ r. refl) (omega arith) in
    ap (λ n. total (take (n + k) (tuple_uses p))) (sym (root_length p))
    ∙ ap total (take-append-add roots links k) ∙ total-append roots (take k links)
    ∙ omega (arith, all, total_alike (link_use p) (p.scope.objects * (p.scope.objects + 1)) (links_of p.unit) k (λ f. refl) within)

-- ## no relation is listed twice

variable_rises : (p : Posed) (r s : ℕ) → r < s → s ≤ variable_of p 0 → (variable_of p r == variable_of p s) ≡ false
variable_rises p zero zero less within = absurd (omega (arith, less))
variable_rises p zero (suc s) less within = ne_eqb (variable_of p 0) s (λ same. absurd (omega (arith, same, within)))
variable_rises p (suc r) zero less within = absurd (omega (arith, less))
variable_rises p (suc r) (suc s) less within = ne_eqb r s (λ same. absurd (omega (arith, same, less)))

root_within : (p : Posed) (m : MethodDef) (i r : ℕ) → method_of p ≡ Some m → slice_get (roots_in p) i ≡ Some r → (r ≤ variable_of p 0) × (is_root m r ≡ true)
root_within p m i r there at =
    let found = filtered_at (is_root m) 0 (length m.params + 1) i r (ap (λ rs. slice_get rs i) (sym (roots_are p m there)) ∙ at) in
    let last : variable_of p 0 ≡ length m.params = ap (λ o. option_map_or (λ (d : MethodDef). length d.params) o 0) there in
    (omega (arith, found.1, last), found.2)

uses_apart : (p : Posed) (m : MethodDef) → method_of p ≡ Some m → AreApart (tuple_uses p)
uses_apart p m there i k x y less first second =
    elim (use_cases p i x first) [
      | inl root ↦ elim (use_cases p k y second) [
        | inl other ↦
            let rises = rising (is_root m) 0 (length m.params + 1) i k root.0 other.0 (ap (λ rs. slice_get rs i) (sym (roots_are p m there)) ∙ root.1)
            (ap (λ rs. slice_get rs k) (sym (roots_are p m there)) ∙ other.1) less in
            let apart : same_relation (slot_first (variable_of p root.0)) (slot_first (variable_of p other.0)) ≡ false =
            and_left (variable_of p root.0 == variable_of p other.0) true (variable_rises p root.0 other.0 rises (root_within p m k other.0 there other.1).0) in
            ap (λ (u : RelVar × ℕ). same_relation u.0 y.0) root.2 ∙ ap (λ (u : RelVar × ℕ). same_relation (slot_first (variable_of p root.0)) u.0) other.2 ∙ apart
        | inr link ↦ ap (λ (u : RelVar × ℕ). same_relation u.0 y.0) root.2 ∙ ap (λ (u : RelVar × ℕ). same_relation (slot_first (variable_of p root.0)) u.0) link.4
      ]
      | inr link ↦ elim (use_cases p k y second) [
        | inl root ↦ absurd (let inside = slice_get_within (roots_in p) k root.0 root.1 in omega (arith, less, inside, link.2))
        | inr other ↦
            let rises = rising (is_link p.unit) 0 (length p.unit.fields) link.0 other.0 link.1 other.1 link.3 other.3 (omega (arith, less, link.2, other.2)) in
            let apart : same_relation (field_first link.1) (field_first other.1) ≡ false =
            and_left (link.1 == other.1) true (ne_eqb link.1 other.1 (λ same. absurd (omega (arith, same, rises)))) in
            ap (λ (u : RelVar × ℕ). same_relation u.0 y.0) link.4 ∙ ap (λ (u : RelVar × ℕ). same_relation (field_first link.1) u.0) other.4 ∙ apart
      ]
    ]

-- ## each use is of its tuples

target_is : (objects j : ℕ) → j < objects + 1 → slice_get (targets objects) j ≡ Some (reference_at j)
target_is objects zero within = refl
target_is objects (suc o) within =
    slice_get-map Obj (range_with_len 0 objects) o ∙ ap (option_map Obj) (slice_get-range 0 objects o (omega (arith, within))) ∙ ap (λ k. Some (Obj k)) (omega arith)

class_use : (k : Kind) → is_class_kind k ≡ true → use_of_kind k ≡ AsSet
class_use kind.Int is = absurd (false≢true is)
class_use kind.Flag is = absurd (false≢true is)
class_use (kind.Ref c) is = refl

used_by : (found : Option Kind) (k : Kind) → found ≡ Some k → is_class_kind k ≡ true → option_map_or (same_use AsSet) (option_map use_of_kind found) false ≡ true
used_by found k there is = ap (λ f. option_map_or (same_use AsSet) (option_map use_of_kind f) false) there ∙ ap (same_use AsSet) (class_use k is)

param_of : (m : MethodDef) (i : ℕ) (found : Option ParamDef) → slice_get m.params i ≡ found → option_map_or (λ q. is_class_kind q.kind) found false ≡ true
    → (k : Kind) × (slice_get (param_kinds m) i ≡ Some k) × (is_class_kind k ≡ true)
param_of m i None there is = absurd (false≢true is)
param_of m i (Some q) there is = (q.kind, slice_get-map (λ (d : ParamDef). d.kind) m.params i ∙ ap (option_map (λ (d : ParamDef). d.kind)) there, is)

receiver_is : (m : MethodDef) (fixed : Bool) → m.fixed ≡ fixed → not fixed ≡ true → receiver_kinds m ≡ kind.Ref m.class ∷ []
receiver_is m true is free = absurd (false≢true free)
receiver_is m false is free = ap (λ b. if b then [] else kind.Ref m.class ∷ []) is

-- the kind of a root's variable is that of a class
root_kind : (p : Posed) (m : MethodDef) (r : ℕ) → method_of p ≡ Some m → is_root m r ≡ true → (k : Kind) × (slice_get (start_kinds p) (variable_of p r) ≡ Some k) × (is_class_kind k ≡ true)
root_kind p m zero there is =
    let kinds : start_kinds p ≡ param_kinds m ++ receiver_kinds m = ap (λ o. option_map_or (λ (d : MethodDef). param_kinds d ++ receiver_kinds d) o []) there in
    let place : variable_of p 0 ≡ length (param_kinds m) + 0 =
    ap (λ o. option_map_or (λ (d : MethodDef). length d.params) o 0) there ∙ omega (arith, length-map m.params (λ (d : ParamDef). d.kind)) in (
      kind.Ref m.class,
      ap (λ ks. slice_get ks (variable_of p 0)) kinds
          ∙ ap (slice_get (param_kinds m ++ receiver_kinds m)) place ∙ slice_get-append_right (param_kinds m) (receiver_kinds m) 0 ∙ ap (λ ks. slice_get ks 0) (receiver_is m m.fixed refl is),
      refl,
    )
root_kind p m (suc i) there is =
    let kinds : start_kinds p ≡ param_kinds m ++ receiver_kinds m = ap (λ o. option_map_or (λ (d : MethodDef). param_kinds d ++ receiver_kinds d) o []) there in
    let found = param_of m i (slice_get m.params i) refl is in (
      found.0,
      ap (λ ks. slice_get ks i) kinds ∙ slice_get-append_left (param_kinds m) (receiver_kinds m) i (slice_get_within (param_kinds m) i found.0 found.1) ∙ found.1,
      found.2,
    )

root_places : (p : Posed) (m : MethodDef) (i r : ℕ) → method_of p ≡ Some m → slice_get (roots_in p) i ≡ Some r → (o j : ℕ) → o < 1 → j < p.scope.objects + 1
    → IsTupleAt p (i * (p.scope.objects + 1) + (o * (p.scope.objects + 1) + j)) (slot_first (variable_of p r)) o j
root_places p m i r there at zero j one within =
    let width = p.scope.objects + 1 in
    let root : slice_get (roots_of m) i ≡ Some r = ap (λ rs. slice_get rs i) (sym (roots_are p m there)) ∙ at in
    let place : i * width + (0 * width + j) ≡ i * width + j = omega arith in
    let inside = slice_get_within (roots_of m) i r root in
    let below : i * (p.scope.objects + 1) + j < length (roots_of m) * (p.scope.objects + 1) =
    subst (λ k. i * (p.scope.objects + 1) + j < k) (mul_comm (p.scope.objects + 1) (length (roots_of m))) (mul-add-lt i (p.scope.objects + 1) j (length (roots_of m)) inside within) in
    record {
      tuple = Root r (reference_at j);
      there = ap (slice_get (tuples p)) place
          ∙ tuple_left p m (i * width + j) (Root r (reference_at j)) there below (root_tuple_at p.scope.objects (roots_of m) i j r (reference_at j) root (target_is p.scope.objects j within));
      says = λ m. refl;
    }
root_places p m i r there at (suc o) j one within = absurd (omega (arith, one))

link_places : (p : Posed) (m : MethodDef) (k f : ℕ) → method_of p ≡ Some m → slice_get (links_of p.unit) k ≡ Some f → (o j : ℕ) → o < p.scope.objects → j < p.scope.objects + 1
    → IsTupleAt p (length (roots_in p) * (p.scope.objects + 1) + k * (p.scope.objects * (p.scope.objects + 1)) + (o * (p.scope.objects + 1) + j)) (field_first f) o j
link_places p m k f there at o j below within =
    let width = p.scope.objects + 1 in
    let first = length (roots_of m) * (p.scope.objects + 1) in
    let later = k * (p.scope.objects * (p.scope.objects + 1)) + (o * (p.scope.objects + 1) + j) in
    let roots : length (roots_in p) ≡ length (roots_of m) = ap length (roots_are p m there) in
    let place : length (roots_in p) * width + k * (p.scope.objects * width) + (o * width + j) ≡ first + later =
    ap (λ n. n * width + k * (p.scope.objects * width) + (o * width + j)) roots ∙ omega arith in
    let rest : first + later - first ≡ later = omega arith in
    record {
      tuple = Field f o (reference_at j);
      there = ap (slice_get (tuples p)) place
          ∙ tuple_right p m (first + later) (Field f o (reference_at j)) there (omega arith)
          (ap (slice_get (tuples_of_links p.scope.objects (links_of p.unit))) rest ∙ field_tuple_at p.scope.objects (links_of p.unit) k o j f (reference_at j) at below
          (target_is p.scope.objects j within));
      says = λ m. refl;
    }

link_used : (p : Posed) (kinds : Kinds) (f : ℕ) (found : Option FieldDef) → slice_get p.unit.fields f ≡ found → option_map_or (λ d. is_class_kind d.kind) found false ≡ true
    → has_use p kinds AsSet (what.Field f) ≡ true
link_used p kinds f None there is = absurd (false≢true is)
link_used p kinds f (Some d) there is =
    ap (λ o. option_map_or (same_use AsSet) (option_map (λ (g : FieldDef). use_of_kind g.kind) o) false) there ∙ ap (same_use AsSet) (class_use d.kind is)

pub tuple_uses_are : (p : Posed) (kinds : Kinds) (m : MethodDef) → method_of p ≡ Some m → GivesStart p kinds → AreTupleUses p kinds (tuple_uses p)
tuple_uses_are p kinds m there start = record { apart = uses_apart p m there; uses = uses }
  where
    of_root : (i r : ℕ) → slice_get (roots_in p) i ≡ Some r → IsTupleUse p kinds (total (take i (tuple_uses p))) (root_use p r)
    of_root i r at =
        let found = root_kind p m r there (root_within p m i r there at).1 in
        let inside = slice_get_within (roots_in p) i r at in
        record {
          used = used_by (kinds (variable_of p r)) found.0 (start (variable_of p r) found.0 found.1) found.2;
          counted = omega arith;
          places = λ o j one within.
              subst (λ n. IsTupleAt p (n + (o * (p.scope.objects + 1) + j)) (slot_first (variable_of p r)) o j) (sym
              (before_root p i (omega (arith, inside)))) (root_places p m i r there at o j one within);
        }

    of_link : (k f : ℕ) → slice_get (links_of p.unit) k ≡ Some f → IsTupleUse p kinds (total (take (length (roots_in p) + k) (tuple_uses p))) (link_use p f)
    of_link k f at =
        let found = filtered_at (is_link p.unit) 0 (length p.unit.fields) k f at in
        let inside = slice_get_within (links_of p.unit) k f at in
        record {
          used = link_used p kinds f (slice_get p.unit.fields f) refl found.2;
          counted = refl;
          places = λ o j below within.
              subst (λ n. IsTupleAt p (n + (o * (p.scope.objects + 1) + j)) (field_first f) o j) (sym (before_link p k (omega (arith, inside)))) (link_places p m k f there at o j below within);
        }

    uses : (i : ℕ) (x : RelVar × ℕ) → slice_get (tuple_uses p) i ≡ Some x → IsTupleUse p kinds (total (take i (tuple_uses p))) x
    uses i x at =
        elim (use_cases p i x at) [
          | inl root ↦ subst (IsTupleUse p kinds (total (take i (tuple_uses p)))) (sym root.2) (of_root i root.0 root.1)
          | inr link ↦
              subst (IsTupleUse p kinds (total (take i (tuple_uses p)))) (sym link.4)
              (subst (λ n. IsTupleUse p kinds (total (take n (tuple_uses p))) (link_use p link.1)) (sym link.2) (of_link link.0 link.1 link.3))
        ]

-- there are as many gates as tuples
pub uses_total : (p : Posed) (m : MethodDef) → method_of p ≡ Some m → total (tuple_uses p) ≡ length (tuples p)
uses_total p m there =
    let roots : length (roots_in p) ≡ length (roots_of m) = ap length (roots_are p m there) in
    let all : take (length (roots_in p) + length (links_of p.unit)) (tuple_uses p) ≡ tuple_uses p =
    take_all (length (roots_in p) + length (links_of p.unit)) (tuple_uses p)
    (omega (arith, length-append (map (root_use p) (roots_in p)) (map (link_use p) (links_of p.unit)), root_length p, length-map (links_of p.unit) (link_use p))) in
    ap total (sym all) ∙ before_link p (length (links_of p.unit)) (omega arith)
    ∙ ap (λ n. n * (p.scope.objects + 1) + length (links_of p.unit) * (p.scope.objects * (p.scope.objects + 1))) roots
    ∙ grind (arith, length-tuples p m there)
