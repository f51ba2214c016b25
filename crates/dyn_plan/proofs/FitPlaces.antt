-- Where values of each kind stand: rows, frames, and the parts of lowered code that have no expressions.
use Rattle.std.proofs.Common.{◌≡◌, ℕ, zero, suc, ◌+◌, Bool, true, false, List, [], ◌∷◌, length, Some, refl, sym, ◌∙◌, ap, arith}
use Rattle.std.specs.Prelude.{nat_lt, if◌then◌else◌, slice_get}
use Rattle.taco_unit.specs.declared.kind.Kind.{Kind}
use Rattle.taco_unit.specs.declared.kind.Kind.TheVariants as kind
use Rattle.taco_unit.specs.Kinds.{Around, Code as InCode, is_kind_of}
use Rattle.heap_core.specs.declared.value.Value.TheVariants.{Null, Flag}
use Rattle.heap_core.specs.Posed.{Posed}
use Rattle.dyn_core.specs.declared.prog.Act.TheVariants.{Const, Same}
use Rattle.dyn_plan.specs.declared.plan.Plan.{Plan}
use Rattle.dyn_plan.specs.declared.plan.Plan.TheVariants as l
use Rattle.dyn_plan.specs.Places.{Ground, Spots, width, slot, behind, flag_of, is_receiver}
use Rattle.dyn_plan.specs.Guards.{Lowered, guarded, throw, in_place, at_once, null_at, null_test, through}
use Rattle.dyn_plan.proofs.FitSteps.{Fit, fit_none, fit_append, fit_do, fit_if}

-- ## rows

-- the variables in so many rows
abbrev pub far : Ground → ℕ → ℕ
far g zero = 0
far g (suc i) = width g + far g i

-- a row begins here
abbrev pub IsRow : Ground → ℕ → Type 0
IsRow g b = (i : ℕ) × (b ≡ g.first + far g i)

-- the variable has this kind: it is an argument or the receiver, which have these kinds, or it stands in a row
pub data Spot (args : List Kind) (g : Ground) (x : ℕ) (k : Kind) : Type 0 where
  given : slice_get args x ≡ Some k → Spot args g x k
  standing : (i : ℕ) → x ≡ g.first + far g i + slot g k → is_kind_of g.unit k ≡ true → Spot args g x k

pub row_next : (g : Ground) (b : ℕ) → IsRow g b → IsRow g (b + width g)
row_next g b row = let is = row.1 in (suc row.0, omega arith)

pub row_behind : (g : Ground) (b x : ℕ) → IsRow g b → IsRow g (behind g b x)
row_behind g b x row = by (nat_lt x b)
  where
    by : (t : Bool) → IsRow g (if t then b else b + width g)
    by true = row
    by false = row_next g b row

module _ (args : List Kind) (g : Ground) where
  pub at_slot : (b : ℕ) (k : Kind) → IsRow g b → is_kind_of g.unit k ≡ true → Spot args g (b + slot g k) k
  at_slot b k row is = standing row.0 (ap (λ z. z + slot g k) row.1) is

  pub at_number : (b : ℕ) → IsRow g b → Spot args g b kind.Int
  at_number b row = let is = row.1 in standing row.0 (omega arith) refl

  pub at_flag : (b : ℕ) → IsRow g b → Spot args g (b + 1) kind.Flag
  at_flag b row = let is = row.1 in standing row.0 (omega arith) refl

  pub zero_spot : Spot args g g.first kind.Int
  zero_spot = standing 0 (omega arith) refl

  pub one_spot : Spot args g (g.first + width g) kind.Int
  one_spot = standing 1 (omega arith) refl

  pub flag_spot : (b : Bool) → Spot args g (flag_of g b) kind.Flag
  flag_spot false = standing 0 (omega arith) refl
  flag_spot true = standing 1 (omega arith) refl

-- ## frames

-- the receiver of a frame, of this class
pub record ThisFits (args : List Kind) (g : Ground) (c : ℕ) (f : Spots) : Type 0 where
  pub class : f.class ≡ c
  pub place : ℕ
  pub there : f.this ≡ Some place
  pub spot : Spot args g place (kind.Ref c)
  pub known : nat_lt c (length g.unit.classes) ≡ true

-- a local of a frame, of this kind
pub record LocalFits (args : List Kind) (g : Ground) (i : ℕ) (k : Kind) (f : Spots) : Type 0 where
  pub place : ℕ
  pub there : slice_get f.locals i ≡ Some place
  pub spot : Spot args g place k
  pub known : is_kind_of g.unit k ≡ true

-- the frame of a method has variables of the kinds that are known around its body
pub record FrameFits (args : List Kind) (g : Ground) (k : Around) (f : Spots) : Type 0 where
  pub form : k.form ≡ InCode
  pub unit : k.unit ≡ g.unit
  pub this : (c : ℕ) → k.this ≡ Some c → ThisFits args g c f
  pub kinds : f.kinds ≡ k.locals
  pub locals : (i : ℕ) (l : Kind) → slice_get k.locals i ≡ Some l → LocalFits args g i l f
  pub done : Spot args g f.done kind.Flag
  pub thrown : Spot args g f.thrown kind.Flag
  pub result : Spot args g f.result f.gives
  pub gives : (r : Kind) → k.result ≡ Some r → f.gives ≡ r
  pub known : (r : Kind) → k.result ≡ Some r → is_kind_of g.unit r ≡ true
  pub base : IsRow g f.base
  pub bound : k.bound ≡ []
  pub some_class : nat_lt 0 (length g.unit.classes) ≡ true

-- the steps fit, and the value stands where one of this kind does
pub record FitsAt (p : Posed) (args : List Kind) (g : Ground) (x : Lowered) (w : Kind) : Type 0 where
  pub steps : Fit p (Spot args g) x.steps
  pub place : Spot args g x.place w

-- ## parts

module _ (p : Posed) (args : List Kind) (g : Ground) where
  pub guarded_fits : (f : Spots) (t : Bool) (steps : List Plan) → Spot args g f.done kind.Flag → Fit p (Spot args g) steps → Fit p (Spot args g) (guarded f t steps)
  guarded_fits f false steps done fits = fits
  guarded_fits f true [] done fits = fit_none p (Spot args g)
  guarded_fits f true (x ∷ steps) done fits = fit_if p (Spot args g) f.done [] (x ∷ steps) done (fit_none p (Spot args g)) fits

  pub constant_fits : (x : ℕ) (b : Bool) → Spot args g x kind.Flag → Fit p (Spot args g) (l.Do (Const x (Flag b)) ∷ [])
  constant_fits x b spot = fit_do p (Spot args g) (Const x (Flag b)) (kind.Flag, spot, refl)

  pub throw_fits : (f : Spots) → Spot args g f.done kind.Flag → Spot args g f.thrown kind.Flag → Fit p (Spot args g) (throw f)
  throw_fits f done thrown =
      fit_append p (Spot args g) (l.Do (Const f.done (Flag true)) ∷ []) (l.Do (Const f.thrown (Flag true)) ∷ []) (constant_fits f.done true done) (constant_fits f.thrown true thrown)

  pub null_fits : (b c : ℕ) → nat_lt c (length g.unit.classes) ≡ true → FitsAt p args g (null_at g b (kind.Ref c)) (kind.Ref c)
  null_fits b c is = by (nat_lt c (length g.unit.classes)) is
    where
      slot_is : slot g (kind.Ref c) ≡ 2 + c
      slot_is = ap (λ t. if t then 2 + c else 0) is

      apart : g.first + (2 + c) ≡ g.first + far g 0 + (2 + c)
      apart = omega arith

      by : (t : Bool) → t ≡ true → FitsAt p args g (if t then in_place (g.first + (2 + c)) else at_once b (Const b Null)) (kind.Ref c)
      by true same = record { steps = fit_none p (Spot args g); place = standing 0 (apart ∙ ap (λ z. g.first + far g 0 + z) (sym slot_is)) is }
      by false same = absurd (cc)

  pub through_fits : (f : Spots) (b class x : ℕ) (steps : List Plan) → Spot args g f.done kind.Flag → Spot args g f.thrown kind.Flag → IsRow g b
      → nat_lt class (length g.unit.classes) ≡ true → Spot args g x (kind.Ref class) → Fit p (Spot args g) steps → Fit p (Spot args g) (through g f b class x steps)
  through_fits f b class x steps done thrown row known spot fits = by (is_receiver f x)
    where
      tested : Fit p (Spot args g) (null_test g f b class x steps)
      tested =
          let null = null_fits b class known in
          let flag = at_flag args g b row in
          let test = fit_do p (Spot args g) (Same (b + 1) x (null_at g b (kind.Ref class)).place) (flag, (kind.Ref class, spot, null.place)) in
          let branch = fit_if p (Spot args g) (b + 1) (throw f) steps flag (throw_fits f done thrown) fits in
          fit_append p (Spot args g) (null_at g b (kind.Ref class)).steps (l.Do (Same (b + 1) x (null_at g b (kind.Ref class)).place) ∷ l.If (b + 1) (throw f) steps ∷ []) null.steps
          (fit_append p (Spot args g) (l.Do (Same (b + 1) x (null_at g b (kind.Ref class)).place) ∷ []) (l.If (b + 1) (throw f) steps ∷ []) test branch)

      by : (t : Bool) → Fit p (Spot args g) (if t then steps else null_test g f b class x steps)
      by true = fits
      by false = tested
