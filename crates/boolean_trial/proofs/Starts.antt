-- The starts of a plain method.
use Rattle.std.proofs.Common.{◌≡◌, ℕ, ◌<◌, zero, suc, Bool, true, List, [], ◌∷◌, length, map, Some, refl, ap, ◌∙◌, subst, arith}
use Rattle.std.specs.Prelude.{slice_get, slice_index_or, Contains}
use Rattle.std.specs.List.{list_all}
use Rattle.std.specs.Cmp.Lexicographic.{pointwise}
use Rattle.taco_unit.specs.declared.kind.Kind.{Kind}
use Rattle.taco_unit.specs.declared.kind.Kind.TheVariants as kind
use Rattle.taco_unit.specs.declared.unit.MethodDef.{MethodDef}
use Rattle.taco_unit.specs.declared.unit.ParamDef.{ParamDef}
use Rattle.taco_unit.specs.Kinds.{same_kind}
use Rattle.heap_core.specs.declared.value.Value.{Value}
use Rattle.heap_core.specs.declared.value.Value.TheVariants.{Null, Obj, Num, Flag}
use Rattle.heap_core.specs.declared.start.Start.{Start}
use Rattle.heap_core.specs.Posed.{Posed}
use Rattle.heap_core.specs.Heap.{Heap}
use Rattle.heap_core.specs.Start.{Fits, Reached, root, held, has_kind, is_argument, is_receiver}
use Rattle.boolean_trial.specs.Plain.{IsPlainMethod}
use Rattle.boolean_trial.specs.Trial.{start_of}
use Rattle.boolean_trial.proofs.Judging.{both}

-- a truth value is one of the kind
flag_fits : (w : ℕ) (k : Kind) (b : Bool) → same_kind k kind.Flag ≡ true → has_kind w [] k (Flag b) ≡ true
flag_fits w kind.Int b is = absurd (cc)
flag_fits w kind.Flag b is = refl
flag_fits w (kind.Ref c) b is = absurd (cc)

flags_fit : (w : ℕ) (params : List ParamDef) (args : List Bool) → list_all (λ p. same_kind p.kind kind.Flag) params ≡ true → length args ≡ length params
    → pointwise (is_argument w []) params (map Flag args) ≡ true
flags_fit w [] [] flags same = refl
flags_fit w [] (b ∷ args) flags same = absurd (omega arith)
flags_fit w (p ∷ params) [] flags same = absurd (omega arith)
flags_fit w (p ∷ params) (b ∷ args) flags same =
    let parts = both (same_kind p.kind kind.Flag) (list_all (λ q. same_kind q.kind kind.Flag) params) flags in
    rw (flag_fits w p.kind b parts.first) (flags_fit w params args parts.second (omega arith))

pub start_fits : (p : Posed) (m : MethodDef) (plain : IsPlainMethod m) (args : List Bool) → length args ≡ length m.params → slice_get p.unit.methods p.method ≡ Some m
    → Fits (start_of args) p
start_fits p m plain args same there =
    record {
      few_objects = omega arith;
      objects_whole = refl;
      receiver = rw (there, plain.fixed) refl;
      arguments = rw (there, flags_fit p.scope.ints m.params args plain.params same) refl;
      all_reached = λ o within. absurd (omega arith);
    }

-- these values are truth values, one for each parameter
pub record AreFlags (count : ℕ) (vs : List Value) : Type 0 where
  pub flags : List Bool
  pub same : vs ≡ map Flag flags
  pub each : length flags ≡ count

-- what has the kind of truth values is one
is_flag : (w : ℕ) (heap : Heap) (k : Kind) (v : Value) → same_kind k kind.Flag ≡ true → has_kind w heap k v ≡ true → (b : Bool) × (v ≡ Flag b)
is_flag w heap kind.Int v is fits = absurd (cc)
is_flag w heap kind.Flag Null is fits = absurd (cc)
is_flag w heap kind.Flag (Obj o) is fits = absurd (cc)
is_flag w heap kind.Flag (Num z) is fits = absurd (cc)
is_flag w heap kind.Flag (Flag b) is fits = (b, refl)
is_flag w heap (kind.Ref c) v is fits = absurd (cc)

are_flags : (w : ℕ) (heap : Heap) (params : List ParamDef) (vs : List Value) → list_all (λ p. same_kind p.kind kind.Flag) params ≡ true
    → pointwise (is_argument w heap) params vs ≡ true → AreFlags (length params) vs
are_flags w heap [] [] flags fit = record { flags = []; same = refl; each = refl }
are_flags w heap [] (v ∷ vs) flags fit = absurd (cc)
are_flags w heap (p ∷ params) [] flags fit = absurd (cc)
are_flags w heap (p ∷ params) (v ∷ vs) flags fit =
    let parts = both (same_kind p.kind kind.Flag) (list_all (λ q. same_kind q.kind kind.Flag) params) flags in
    let fits = both (is_argument w heap p v) (pointwise (is_argument w heap) params vs) fit in
    let first = is_flag w heap p.kind v parts.first fits.first in
    let rest = are_flags w heap params vs parts.second fits.second in
    record {
      flags = first.0 ∷ rest.flags;
      same = ap (λ x. x ∷ vs) first.1 ∙ ap (λ xs. Flag first.0 ∷ xs) rest.same;
      each = omega (arith, rest.each);
    }

-- no truth value is an object
no_object : (flags : List Bool) (k o : ℕ) → k < length (map Flag flags) → slice_index_or (map Flag flags) k (Obj o) ≡ Obj o → ⊥
no_object [] k o within is = omega arith
no_object (b ∷ flags) zero o within is = cc
no_object (b ∷ flags) (suc k) o within is = no_object flags k o (omega arith) is

no_root : (flags : List Bool) (o : ℕ) → Contains (Null ∷ map Flag flags) (Obj o) → ⊥
no_root flags o holds = at holds.0 holds.1 holds.2
  where
    at : (k : ℕ) → k < length (Null ∷ map Flag flags) → slice_index_or (Null ∷ map Flag flags) k (Obj o) ≡ Obj o → ⊥
    at zero within is = cc
    at (suc k) within is = no_object flags k o (omega arith) is

none_reached : (s : Start) (flags : List Bool) (o : ℕ) → s.this ∷ s.args ≡ Null ∷ map Flag flags → Reached s o → ⊥
none_reached s flags o is (root o' holds) = no_root flags o' (subst (λ vs. Contains vs (Obj o')) is holds)
none_reached s flags o is (held q o' x reached there holds) = none_reached s flags q is reached

no_objects : (s : Start) (heap : Heap) → s.objects ≡ heap → ((o : ℕ) → o < length s.objects → ⊥) → s.objects ≡ []
no_objects s [] is none = is
no_objects s (x ∷ heap) is none = absurd (none 0 (let longer = ap length is in omega arith))

only_null : (heap : Heap) (class : ℕ) (v : Value) → is_receiver heap class true v ≡ true → v ≡ Null
only_null heap class Null is = refl
only_null heap class (Obj o) is = absurd (cc)
only_null heap class (Num z) is = absurd (cc)
only_null heap class (Flag b) is = absurd (cc)

-- a fitting start has no objects, no receiver, and one truth value for each parameter
pub record IsPlainStart (count : ℕ) (s : Start) : Type 0 where
  pub args : List Bool
  pub same : length args ≡ count
  pub is : s ≡ start_of args

pub only_starts : (p : Posed) (m : MethodDef) (plain : IsPlainMethod m) (s : Start) → slice_get p.unit.methods p.method ≡ Some m → Fits s p → IsPlainStart (length m.params) s
only_starts p m plain s there fits =
    let receiver : is_receiver s.objects m.class true s.this ≡ true = rw (there, plain.fixed) at fits.receiver in
    let null : s.this ≡ Null = only_null s.objects m.class s.this receiver in
    let arguments : pointwise (is_argument p.scope.ints s.objects) m.params s.args ≡ true = rw there at fits.arguments in
    let flags = are_flags p.scope.ints s.objects m.params s.args plain.params arguments in
    let roots : s.this ∷ s.args ≡ Null ∷ map Flag flags.flags = ap (λ v. v ∷ s.args) null ∙ ap (λ vs. Null ∷ vs) flags.same in
    let empty : s.objects ≡ [] = no_objects s s.objects refl (λ o within. none_reached s flags.flags o roots (fits.all_reached o within)) in
    let with_objects : Heap → Start = λ h. record { objects = h; this = s.this; args = s.args } in
    let with_this : Value → Start = λ v. record { objects = []; this = v; args = s.args } in
    let with_args : List Value → Start = λ vs. record { objects = []; this = Null; args = vs } in
    record { args = flags.flags; same = flags.each; is = ap with_objects empty ∙ ap with_this null ∙ ap with_args flags.same }
