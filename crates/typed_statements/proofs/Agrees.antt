-- What is declared agrees with the unit.
use Rattle.std.proofs.Common.{◌≡◌, ◌≤◌, ◌<◌, ℕ, zero, suc, true, false, List, [], ◌∷◌, ◌++◌, Option, None, Some, length, refl, ap, sym, ◌∙◌, subst, inl, inr}
use Rattle.std.specs.Prelude.{map, slice_get, option_map, option_and_then, ◌⊎◌}
use Rattle.std.specs.List.{list_all}
use Rattle.java_tree.specs.declared.names.Ident.{Ident}
use Rattle.taco_unit.specs.declared.unit.FieldDef.{FieldDef}
use Rattle.taco_unit.specs.declared.unit.MethodDef.{MethodDef}
use Rattle.taco_unit.specs.Parts.{Parts}
use Rattle.taco_unit.specs.Kinds.{Around}
use Rattle.declared_names.specs.declared.sort.Sort.{Sort}
use Rattle.declared_names.specs.declared.sort.Sort.TheVariants.{Object}
use Rattle.declared_names.specs.declared.world.World.{World}
use Rattle.declared_names.specs.declared.world.Here.{Here}
use Rattle.declared_names.specs.declared.world.Slot.{Slot}
use Rattle.declared_names.specs.declared.world.Declared.{Declared}
use Rattle.declared_names.specs.declared.world.MethodKnown.{MethodKnown}
use Rattle.declared_names.specs.declared.world.ResultKnown.{ResultKnown}
use Rattle.declared_names.specs.Lookups.{Scope, place_in, field_slot, param_slot, declared_slot, local_slot, slot, or_else_slot, method_of}
use Rattle.typed_forms.specs.Calls.{byte}
use Rattle.typed_statements.specs.Kinds.{kind_of, param_def, result_def}
use Rattle.typed_statements.proofs.Suits.{is_kind}
use Rattle.typed_statements.proofs.OperatorKinds.{form_of}

-- the field of this slot, in the unit
pub record FieldAt (u : Parts) (owner : ℕ) (s : Slot) : Type 0 where
  pub def : FieldDef
  pub at : slice_get u.fields (byte s.number) ≡ Some def
  pub class : def.class ≡ byte owner
  pub kind : def.kind ≡ kind_of s.sort
  pub fixed : is_kind s.sort ≡ true

-- the method of this number, in the unit
pub record MethodAt (u : Parts) (owner : ℕ) (m : ℕ × MethodKnown) : Type 0 where
  pub def : MethodDef
  pub at : slice_get u.methods (byte m.0) ≡ Some def
  pub class : def.class ≡ byte owner
  pub is_static : def.fixed ≡ m.1.fixed
  pub params : def.params ≡ map param_def m.1.params
  pub result : def.result ≡ option_map result_def m.1.result
  pub params_fixed : list_all (λ p. is_kind p.sort) m.1.params ≡ true
  pub result_fixed : (r : ResultKnown) → m.1.result ≡ Some r → is_kind r.sort ≡ true

-- what is declared in the text is in the unit
pub record Knows (w : World) (u : Parts) : Type 0 where
  pub classes : (name : List ℕ) (c : ℕ) → place_in w.classes 0 name ≡ Some c → c < length u.classes
  pub few : length u.classes ≤ 16
  pub fields : (owner : ℕ) (name : List ℕ) (s : Slot) → field_slot w owner name ≡ Some s → FieldAt u owner s
  pub methods : (owner : ℕ) (i : Ident) (m : ℕ × MethodKnown) → method_of w owner i ≡ Some m → MethodAt u owner m

-- the local of this number
pub record LocalAt (k : Around) (n : ℕ) (s : Sort) : Type 0 where
  pub at : slice_get k.locals (byte n) ≡ Some (kind_of s)
  pub fixed : is_kind s ≡ true

-- the quantified variable of this number
pub record BoundAt (k : Around) (d : Declared) : Type 0 where
  pub owner : ℕ
  pub is : d.sort ≡ Object owner
  pub at : slice_get k.bound (byte d.number) ≡ Some (byte owner)

-- what is known where an expression stands
pub record Agrees (sc : Scope) (k : Around) : Type 0 where
  pub knows : Knows sc.world k.unit
  pub form : k.form ≡ form_of sc.form
  pub receiver : sc.here.fixed ≡ false → k.this ≡ Some (byte sc.here.class)
  pub params : (i : ℕ) (s : Sort) → slice_get sc.here.sorts i ≡ Some s → LocalAt k i s
  pub held : (i : ℕ) (d : Declared) → slice_get sc.held i ≡ Some d → LocalAt k d.number d.sort
  pub result : (s : Sort) → sc.here.result ≡ Some s → (k.result ≡ Some (kind_of s)) × (is_kind s ≡ true)
  pub bound : (i : ℕ) (d : Declared) → slice_get sc.bound i ≡ Some d → BoundAt k d
  pub depth : length k.bound ≡ length sc.bound
  pub few : length sc.bound ≤ 4

-- LOOK-UPS

-- of a chain of two
pub chained : {A B : Type 0} (f : A → Option B) (o : Option A) (y : B) → option_and_then f o ≡ Some y → (x : A) × (o ≡ Some x) × (f x ≡ Some y)
chained f None y is = absurd (cc)
chained f (Some x) y is = (x, refl, is)

pub mapped : {A B : Type 0} (f : A → B) (o : Option A) (y : B) → option_map f o ≡ Some y → (x : A) × (o ≡ Some x) × (f x ≡ y)
mapped f None y is = absurd (cc)
mapped f (Some x) y is = let same : f x ≡ y = cc in (x, refl, same)

param_at : (h : Here) (name : List ℕ) (s : Slot) → param_slot h name ≡ Some s → slice_get h.sorts s.number ≡ Some s.sort
param_at h name s is =
    let found = chained (λ i. option_map (slot i) (slice_get h.sorts i)) (place_in h.params 0 name) s is in
    let made = mapped (slot found.0) (slice_get h.sorts found.0) s found.2 in
    let n : found.0 ≡ s.number = ap (λ (t : Slot). t.number) made.2 in
    let x : made.0 ≡ s.sort = ap (λ (t : Slot). t.sort) made.2 in
    ap (slice_get h.sorts) (sym n) ∙ made.1 ∙ ap Some x

pub declared_at : (ds : List Declared) (name : List ℕ) (s : Slot) → declared_slot ds name ≡ Some s → (i : ℕ) × (d : Declared) × (slice_get ds i ≡ Some d) × (slot d.number d.sort ≡ s)
declared_at ds name s is =
    let found = chained (λ i. option_map (λ d. slot d.number d.sort) (slice_get ds i)) _ s is in
    let made = mapped (λ (d : Declared). slot d.number d.sort) (slice_get ds found.0) s found.2 in
    (found.0, made.0, made.1, made.2)

by_param : (h : Here) (held : List Declared) (name : List ℕ) (s : Slot) (p : Option Slot) (k : Around) → param_slot h name ≡ p → local_slot h held name ≡ Some s
    → ((i : ℕ) (t : Sort) → slice_get h.sorts i ≡ Some t → LocalAt k i t) → ((i : ℕ) (d : Declared) → slice_get held i ≡ Some d → LocalAt k d.number d.sort) → LocalAt k s.number s.sort
by_param h held name s (Some t) k was is params locals =
    let here : or_else_slot (Some t) (declared_slot held name) ≡ Some s = rw was at is in
    let same : t ≡ s = cc in
    params s.number s.sort (param_at h name s (was ∙ ap Some same))
by_param h held name s None k was is params locals =
    let here : or_else_slot None (declared_slot held name) ≡ Some s = rw was at is in
    let found = declared_at held name s here in
    let n : found.1.number ≡ s.number = ap (λ (t : Slot). t.number) found.3 in
    let x : found.1.sort ≡ s.sort = ap (λ (t : Slot). t.sort) found.3 in
    let at = locals found.0 found.1 found.2 in
    let P : ℕ → Type 0 = λ m. LocalAt k m found.1.sort in
    let Q : Sort → Type 0 = λ t. LocalAt k s.number t in
    subst Q x (subst P n at)

-- a local or a parameter
pub local_at : (sc : Scope) (k : Around) (name : List ℕ) (s : Slot) → Agrees sc k → local_slot sc.here sc.held name ≡ Some s → LocalAt k s.number s.sort
local_at sc k name s agrees is = by_param sc.here sc.held name s (param_slot sc.here name) k refl is agrees.params agrees.held

-- a list with one more at its end
pub grown : {A : Type 0} (xs : List A) (y : A) (i : ℕ) (x : A) → slice_get (xs ++ y ∷ []) i ≡ Some x → (slice_get xs i ≡ Some x) ⊎ (x ≡ y)
grown [] y zero x is = let same : x ≡ y = cc in inr same
grown [] y (suc i) x is = absurd (cc)
grown (z ∷ xs) y zero x is = inl is
grown (z ∷ xs) y (suc i) x is = grown xs y i x is

pub kept : {A : Type 0} (xs ys : List A) (i : ℕ) (x : A) → slice_get xs i ≡ Some x → slice_get (xs ++ ys) i ≡ Some x
kept [] ys i x is = absurd (cc)
kept (z ∷ xs) ys zero x is = is
kept (z ∷ xs) ys (suc i) x is = kept xs ys i x is
