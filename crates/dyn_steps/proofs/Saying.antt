-- What the formulas of single variables say: that a variable is what an evaluation gives.
use Rattle.std.proofs.Common.{◌≡◌, ℕ, ◌<◌, Bool, true, false, not, ◌&&◌, Some, None, inl, inr, refl, sym, ◌∙◌, ap}
use Rattle.std.specs.Prelude.{◌==◌, ℤ, nat_lt, if◌then◌else◌}
use Rattle.std.specs.Ordering.{int_eq}
use Rattle.std.proofs.lemmas.Bool.{cases_eq, eq-eqb, ne_eqb, eqb-true, false≢true, ltb-true, false_from_ne_true}
use Rattle.std.proofs.lemmas.Bool.Decides.{Decides-int_eq}
use Rattle.taco_unit.specs.declared.kind.Kind.{Kind}
use Rattle.taco_unit.specs.declared.kind.Kind.TheVariants as kind
use Rattle.heap_core.specs.declared.value.Value.{Value}
use Rattle.heap_core.specs.declared.value.Value.TheVariants.{Null, Obj, Num, Flag}
use Rattle.heap_core.specs.declared.value.Seen.{Seen}
use Rattle.heap_core.specs.declared.value.Seen.TheVariants.{Is, Bad, Out}
use Rattle.heap_core.specs.Posed.{Posed}
use Rattle.heap_core.specs.Outcomes.{in_bits, is_null, is_value, same, same_flag, flag, number}
use Rattle.rel_core.specs.declared.relation.RelVar.{RelVar}
use Rattle.rel_core.specs.Reading.{Reading, is_reference}
use Rattle.rel_core.specs.Meaning.{ValueSet, fitting, joined, only_object}
use Rattle.rel_core.specs.Uses.{Kinds, AsSet, has_place, IsOf}
use Rattle.rel_core.specs.Shown.{ShowsValue}
use Rattle.std.proofs.lemmas.Bool.{and_parts}
use Rattle.dyn_steps.specs.Meanings.{same_sets, same_variables, is_number, is_through, is_cell}
use Rattle.dyn_steps.proofs.Numbers.{IsOneObject, one_object, one_joined, IsWithin, sets_alike, sets_same, through_is}

-- a truth that says that a variable of this kind is what an evaluation gives
pub record Says (m : Reading) (k : Kind) (r : RelVar) (e : Seen) (truth : Bool) : Type 0 where
  pub sound : truth ≡ true → (v : Value) × (e ≡ Is v) × ShowsValue m k r 0 v
  pub full : (v : Value) → e ≡ Is v → ShowsValue m k r 0 v → truth ≡ true

pub is_same : {u v : Value} → Is u ≡ Is v → u ≡ v
is_same is = cc

bad_is : {v : Value} → Bad ≡ Is v → ⊥
bad_is is = absurd (cc)

out_is : {v : Value} → Out ≡ Is v → ⊥
out_is is = absurd (cc)

nums_same : {x y : ℤ} → Num x ≡ Num y → x ≡ y
nums_same is = cc

flags_same : {x y : Bool} → Flag x ≡ Flag y → x ≡ y
flags_same is = cc

num_flag : {x : ℤ} {y : Bool} → Num x ≡ Flag y → ⊥
num_flag is = absurd (cc)

pub int_same : (x y : ℤ) → int_eq x y ≡ true → x ≡ y
int_same x y is = (Decides-int_eq x y).0 is

pub same_int : (x y : ℤ) → x ≡ y → int_eq x y ≡ true
same_int x y is = (Decides-int_eq x y).1 is

pub flag_same : (x y : Bool) → same_flag x y ≡ true → x ≡ y
flag_same true y is = sym is
flag_same false false is = refl
flag_same false true is = absurd (false≢true is)

pub same_flags : (x y : Bool) → x ≡ y → same_flag x y ≡ true
same_flags true y is = sym is
same_flags false false is = refl
same_flags false true is = absurd (false≢true is)

-- nothing is said of what has no value
pub says_never : (m : Reading) (k : Kind) (r : RelVar) (e : Seen) → ((v : Value) → e ≡ Is v → ⊥) → Says m k r e false
says_never m k r e never = record { sound = λ is. absurd (false≢true is); full = λ v is shown. absurd (never v is) }

-- ## numbers and truth values

pub says_number : (m : Reading) (r : RelVar) (z : ℤ) → Says m kind.Int r (number m.ints z) (is_number m r (fitting m.ints z))
says_number m r z = at (in_bits m.ints z)
  where
    at : (b : Bool) → Says m kind.Int r (if b then Is (Num z) else Out) (is_number m r (if b then Some z else None))
    at true = record {
      sound = λ is. (Num z, refl, ap Num (sym (int_same (m.number r 0) z is)));
      full = λ v is shown. same_int (m.number r 0) z (sym (nums_same (is_same is ∙ shown)));
    }
    at false = says_never m kind.Int r Out (λ v is. out_is is)

pub says_flag : (m : Reading) (r : RelVar) (b : Bool) → Says m kind.Flag r (flag b) (same_flag (m.flag r 0) b)
says_flag m r b = record {
  sound = λ is. (Flag b, refl, ap Flag (sym (flag_same (m.flag r 0) b is)));
  full = λ v is shown. same_flags (m.flag r 0) b (sym (flags_same (is_same is ∙ shown)));
}

-- a number, or a truth value, that another relation has at a place
says_number_at : (m : Reading) (r q : RelVar) (o : ℕ) (v : Value) → ShowsValue m kind.Int q o v → Says m kind.Int r (Is v) (int_eq (m.number r 0) (m.number q o))
says_number_at m r q o v there = record {
  sound = λ is. (v, refl, there ∙ ap Num (sym (int_same (m.number r 0) (m.number q o) is)));
  full = λ u is shown. same_int (m.number r 0) (m.number q o) (sym (nums_same (sym there ∙ is_same is ∙ shown)));
}

says_flag_at : (m : Reading) (r q : RelVar) (o : ℕ) (v : Value) → ShowsValue m kind.Flag q o v → Says m kind.Flag r (Is v) (same_flag (m.flag r 0) (m.flag q o))
says_flag_at m r q o v there = record {
  sound = λ is. (v, refl, there ∙ ap Flag (sym (flag_same (m.flag r 0) (m.flag q o) is)));
  full = λ u is shown. same_flags (m.flag r 0) (m.flag q o) (sym (flags_same (sym there ∙ is_same is ∙ shown)));
}

-- ## references

-- the references of a relation of the problem are looked at
pub refs_within : (p : Posed) (kinds : Kinds) (m : Reading) → IsOf p kinds m → (r : RelVar) (o : ℕ) → IsWithin m.objects (m.refs r o)
refs_within p kinds m of r o v has =
    ap (λ k. is_reference k v) of.objects ∙ (and_parts (has_place p kinds AsSet r o) (is_reference p.scope.objects v) (of.refs r o v has)).1

value_within : (k : ℕ) (v : Value) → is_reference k v ≡ true → IsWithin k (is_value v)
value_within k Null is Null has = refl
value_within k Null is (Obj o) has = absurd (false≢true has)
value_within k Null is (Num z) has = absurd (false≢true has)
value_within k Null is (Flag b) has = absurd (false≢true has)
value_within k (Obj o) is (Obj q) has = ap (λ i. nat_lt i k) (sym (eqb-true o q has)) ∙ is
value_within k (Obj o) is Null has = absurd (false≢true has)
value_within k (Obj o) is (Num z) has = absurd (false≢true has)
value_within k (Obj o) is (Flag b) has = absurd (false≢true has)
value_within k (Num z) is v has = absurd (false≢true is)
value_within k (Flag b) is v has = absurd (false≢true is)

-- a set of one reference
pub says_set : (p : Posed) (kinds : Kinds) (m : Reading) → IsOf p kinds m → (c : ℕ) (r : RelVar) (t : ValueSet) (v : Value) → is_reference m.objects v ≡ true → ((u : Value) → t u ≡ is_value v u)
    → Says m (kind.Ref c) r (Is v) (same_sets m (m.refs r 0) t)
says_set p kinds m of c r t v low one = record {
  sound = λ is. (v, refl, (low, λ u. sets_alike m (m.refs r 0) t (refs_within p kinds m of r 0) (λ w has. value_within m.objects v low w (sym (one w) ∙ has)) is u ∙ one u));
  full = λ u is shown. sets_same m (m.refs r 0) t (λ w. shown.1 w ∙ ap (λ z. is_value z w) (sym (is_same is)) ∙ sym (one w));
}

pub says_null : (p : Posed) (kinds : Kinds) (m : Reading) → IsOf p kinds m → (c : ℕ) (r : RelVar) → Says m (kind.Ref c) r (Is Null) (same_sets m (m.refs r 0) is_null)
says_null p kinds m of c r = says_set p kinds m of c r is_null Null refl null_value
  where
    null_value : (u : Value) → is_null u ≡ is_value Null u
    null_value Null = refl
    null_value (Obj o) = refl
    null_value (Num z) = refl
    null_value (Flag b) = refl

-- ## the value of another variable

pub says_copy : (p : Posed) (kinds : Kinds) (m : Reading) → IsOf p kinds m → (k : Kind) (r q : RelVar) (v : Value) → ShowsValue m k q 0 v → Says m k r (Is v) (same_variables m k r q)
says_copy p kinds m of kind.Int r q v there = says_number_at m r q 0 v there
says_copy p kinds m of kind.Flag r q v there = says_flag_at m r q 0 v there
says_copy p kinds m of (kind.Ref c) r q v there = says_set p kinds m of c r (m.refs q 0) v there.0 there.1

-- whether two variables have one value
pub sameness : (p : Posed) (kinds : Kinds) (m : Reading) → IsOf p kinds m → (k : Kind) (r q : RelVar) (u v : Value) → ShowsValue m k r 0 u → ShowsValue m k q 0 v
    → same u v ≡ flag (same_variables m k r q)
sameness p kinds m of kind.Int r q u v first second = ap (λ z. same z v) first ∙ ap (λ z. same (Num (m.number r 0)) z) second
sameness p kinds m of kind.Flag r q u v first second = ap (λ z. same z v) first ∙ ap (λ z. same (Flag (m.flag r 0)) z) second
sameness p kinds m of (kind.Ref c) r q u v first second = at u v first second
  where
    equal : (u v : Value) → ShowsValue m (kind.Ref c) r 0 u → ShowsValue m (kind.Ref c) q 0 v → u ≡ v → same_sets m (m.refs r 0) (m.refs q 0) ≡ true
    equal u v first second is = sets_same m (m.refs r 0) (m.refs q 0) (λ w. first.1 w ∙ ap (λ z. is_value z w) is ∙ sym (second.1 w))

    -- sets that are the same have the same value
    other : (u v w : Value) → ShowsValue m (kind.Ref c) r 0 u → ShowsValue m (kind.Ref c) q 0 v → is_value u w ≡ true → is_value v w ≡ false → same_sets m (m.refs r 0) (m.refs q 0) ≡ false
    other u v w first second has lacks = false_from_ne_true (same_sets m (m.refs r 0) (m.refs q 0)) (λ is.
        false≢true (sym lacks ∙ sym (second.1 w) ∙ sym (sets_alike m (m.refs r 0) (m.refs q 0) (refs_within p kinds m of r 0) (refs_within p kinds m of q 0) is w) ∙ first.1 w ∙ has))

    objects : (o i : ℕ) → ShowsValue m (kind.Ref c) r 0 (Obj o) → ShowsValue m (kind.Ref c) q 0 (Obj i) → flag (o == i) ≡ flag (same_sets m (m.refs r 0) (m.refs q 0))
    objects o i first second = elim (cases_eq o i) [
      | inl is ↦ ap flag (eq-eqb o i is ∙ sym (equal (Obj o) (Obj i) first second (ap Obj is)))
      | inr apart ↦ ap flag (ne_eqb o i apart ∙ sym (other (Obj o) (Obj i) (Obj o) first second (eq-eqb o o refl) (ne_eqb i o (λ is. apart (sym is)))))
    ]

    at : (u v : Value) → ShowsValue m (kind.Ref c) r 0 u → ShowsValue m (kind.Ref c) q 0 v → same u v ≡ flag (same_sets m (m.refs r 0) (m.refs q 0))
    at Null Null first second = ap flag (sym (equal Null Null first second refl))
    at Null (Obj i) first second = ap flag (sym (other Null (Obj i) Null first second refl refl))
    at (Obj o) Null first second = ap flag (sym (other (Obj o) Null (Obj o) first second (eq-eqb o o refl) refl))
    at (Obj o) (Obj i) first second = objects o i first second
    at (Num z) v first second = absurd (false≢true first.0)
    at (Flag b) v first second = absurd (false≢true first.0)
    at Null (Num z) first second = absurd (false≢true second.0)
    at Null (Flag b) first second = absurd (false≢true second.0)
    at (Obj o) (Num z) first second = absurd (false≢true second.0)
    at (Obj o) (Flag b) first second = absurd (false≢true second.0)

-- ## the value of a field

-- the set of a variable that is an object
pub object_set : (m : Reading) (c : ℕ) (q : RelVar) (o : ℕ) → ShowsValue m (kind.Ref c) q 0 (Obj o) → IsOneObject (m.refs q 0) o
object_set m c q o shown i = shown.1 (Obj i)

pub object_low : (m : Reading) (c : ℕ) (q : RelVar) (o : ℕ) → ShowsValue m (kind.Ref c) q 0 (Obj o) → o < m.objects
object_low m c q o shown = ltb-true o m.objects shown.0

pub says_cell : (p : Posed) (kinds : Kinds) (m : Reading) → IsOf p kinds m → (k : Kind) (r q f : RelVar) (c o : ℕ) (v : Value) → ShowsValue m (kind.Ref c) q 0 (Obj o) → ShowsValue m k f o v
    → Says m k r (Is v) (is_cell m k r q f)
says_cell p kinds m of kind.Int r q f c o v object there =
    let one : only_object m (m.refs q 0) ≡ Some o = one_object m (m.refs q 0) o (object_set m c q o object) (object_low m c q o object) in
    rw one (says_number_at m r f o v there)
says_cell p kinds m of kind.Flag r q f c o v object there =
    let one : only_object m (m.refs q 0) ≡ Some o = one_object m (m.refs q 0) o (object_set m c q o object) (object_low m c q o object) in
    rw one (says_flag_at m r f o v there)
says_cell p kinds m of (kind.Ref d) r q f c o v object there =
    says_set p kinds m of d r (joined m (m.refs q 0) f) v there.0
    (λ u. one_joined m (m.refs q 0) f o u (object_set m c q o object) (object_low m c q o object) ∙ there.1 u)

-- through null there is no value, and through an object that of its field
pub says_through : (m : Reading) (k : Kind) (r q : RelVar) (e : Seen) (truth : Bool) → m.refs q 0 Null ≡ false → Says m k r e truth → Says m k r e (is_through m q && truth)
says_through m k r q e truth object says =
    let open_way : is_through m q ≡ true = through_is m q ∙ ap not object in
    rw open_way says

pub says_null_way : (m : Reading) (k : Kind) (r q : RelVar) (truth : Bool) → m.refs q 0 Null ≡ true → Says m k r Bad (is_through m q && truth)
says_null_way m k r q truth null =
    let closed : is_through m q ≡ false = through_is m q ∙ ap not null in
    rw closed (says_never m k r Bad (λ v is. bad_is is))
