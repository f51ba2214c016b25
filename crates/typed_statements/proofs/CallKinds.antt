-- Names, reads and calls have their kinds.
use Rattle.std.proofs.Common.{◌≡◌, ℕ, Bool, true, false, List, [], ◌∷◌, ◌++◌, Option, None, Some, length, refl, ap, sym, ◌∙◌, eq-eqb, arith}
use Rattle.std.specs.Prelude.{map, option_map, ◌&&◌, ◌||◌, ◌==◌, not, if◌then◌else◌}
use Rattle.std.specs.List.{list_all}
use Rattle.std.proofs.lemmas.Bool.{eqb-true}
use Rattle.java_tree.specs.declared.names.Ident.{Ident}
use Rattle.taco_unit.specs.declared.kind.Kind.TheVariants as kind
use Rattle.taco_unit.specs.declared.expr.Expr.{Expr}
use Rattle.taco_unit.specs.declared.expr.Expr.TheVariants as e
use Rattle.taco_unit.specs.declared.expr.Call.{out-Call}
use Rattle.taco_unit.specs.Kinds.{Around, Sort as UnitSort, NoValue, Of, suits, sort_of_kind, sort_of_class, field_sort, sort_of, are_arguments, result_sort, is_object_of, in_code}
use Rattle.taco_unit.proofs.KindForms.{sort_local, sort_read, sort_this, sort_of_call, call_form, called_as, is_target_of, sort_call}
use Rattle.declared_names.specs.declared.fault.Fault.{Fault}
use Rattle.declared_names.specs.declared.fault.Cause.TheVariants.{Kinds}
use Rattle.declared_names.specs.declared.sort.Sort.{Sort}
use Rattle.declared_names.specs.declared.sort.Sort.TheVariants.{Loose, Null, Int, Flag, Object}
use Rattle.typed_forms.specs.declared.typed.Typed.{Typed}
use Rattle.typed_forms.specs.declared.typed.Place.{Place}
use Rattle.typed_forms.specs.declared.typed.Called.{Called}
use Rattle.typed_forms.specs.declared.typed.Given.{Given}
use Rattle.typed_forms.specs.declared.typed.Arguments.{Arguments}
use Rattle.declared_names.specs.declared.world.World.{World}
use Rattle.declared_names.specs.declared.world.Slot.{Slot}
use Rattle.declared_names.specs.declared.world.MethodKnown.{MethodKnown}
use Rattle.declared_names.specs.declared.world.ParamKnown.{ParamKnown}
use Rattle.declared_names.specs.declared.world.ResultKnown.{ResultKnown}
use Rattle.declared_names.specs.Faults.{check}
use Rattle.declared_names.specs.Sorts.{fits}
use Rattle.declared_names.specs.Lookups.{Scope, field_slot, local_slot, method_of}
use Rattle.typed_forms.specs.Operators.{wanted}
use Rattle.typed_forms.specs.Calls.{byte, local_place, field_place, object_field, own_field, place_of_name, named_place, read_of, read_place, value_at, place_value, argument_faults, passed, called, call_to, own_call, own_target, class_call, method_call, object_call, call_value}
use Rattle.typed_statements.specs.Kinds.{kind_of, param_def, result_def}
use Rattle.typed_statements.proofs.Stand.{OnStands, on_unless, nothing_left, nothing_right, passes}
use Rattle.typed_statements.proofs.Suits.{as_sort, is_known, is_kind, kind_known, kind_sort, fits_suits, HasSort, both_pass, one_passes}
use Rattle.typed_statements.proofs.Agrees.{FieldAt, MethodAt, LocalAt, Agrees, Knows, local_at}

-- what stands at a place has its kind
pub record HasPlace (k : Around) (p : Place) : Type 0 where
  pub sort : sort_of (value_at p.spot) k ≡ Of (kind_of p.sort)
  pub fixed : is_kind p.sort ≡ true

pub place_sort : (k : Around) (p : Place) → HasPlace k p → HasSort k (place_value p)
place_sort k p h = record { sort = h.sort ∙ sym (kind_sort p.sort h.fixed); known = kind_known p.sort h.fixed }

local_placed : (k : Around) (at : ℕ) (s : Slot) → LocalAt k s.number s.sort → HasPlace k (local_place at s)
local_placed k at s h = record { sort = sort_local (byte s.number) k ∙ ap sort_of_kind h.at; fixed = h.fixed }

field_placed : (k : Around) (at : ℕ) (o : Expr) (owner : ℕ) (s : Slot) → sort_of o k ≡ Of (kind.Ref (byte owner)) → FieldAt k.unit owner s → HasPlace k (field_place at o s)
field_placed k at o owner s of_o h =
    record {
      sort = sort_read o (byte s.number) k ∙ ap (λ d. field_sort d (sort_of o k)) h.at ∙ ap (field_sort (Some h.def)) of_o
          ∙ one_passes (h.def.class == byte owner) (Of h.def.kind) (eq-eqb h.def.class (byte owner) h.class) ∙ ap Of h.kind;
      fixed = h.fixed;
    }

object_field_placed : (k : Around) (at : ℕ) (i : Ident) (o : Expr) (owner : ℕ) (found : Option Slot) → sort_of o k ≡ Of (kind.Ref (byte owner)) → ((s : Slot) → found ≡ Some s → FieldAt k.unit owner s)
    → OnStands (object_field at i o found) (HasPlace k)
object_field_placed k at i o owner None of_o h = tt
object_field_placed k at i o owner (Some s) of_o h = field_placed k at o owner s of_o (h s refl)

-- a kind of objects, where it is known
object_sort : (k : Around) (x : Typed) (owner : ℕ) → HasSort k x → x.sort ≡ Object owner → sort_of x.expr k ≡ Of (kind.Ref (byte owner))
object_sort k x owner h is = h.sort ∙ ap as_sort is

own_placed : (sc : Scope) (k : Around) (at : ℕ) (i : Ident) (static : Bool) → Agrees sc k → sc.here.fixed ≡ static → OnStands (own_field sc.world sc.here at i static) (HasPlace k)
own_placed sc k at i true agrees is = tt
own_placed sc k at i false agrees is =
    object_field_placed k at i e.This sc.here.class (field_slot sc.world sc.here.class i.text) (sort_this k ∙ ap sort_of_class (agrees.receiver is))
    (agrees.knows.fields sc.here.class i.text)

by_slot : (sc : Scope) (k : Around) (at : ℕ) (i : Ident) (found : Option Slot) → Agrees sc k → local_slot sc.here sc.held i.text ≡ found → OnStands (place_of_name sc.world sc.here at i found) (HasPlace k)
by_slot sc k at i (Some s) agrees is = local_placed k at s (local_at sc k i.text s agrees is)
by_slot sc k at i None agrees is = own_placed sc k at i sc.here.fixed agrees refl

pub named_placed : (sc : Scope) (k : Around) (at : ℕ) (i : Ident) → Agrees sc k → OnStands (named_place sc.world sc.here sc.held at i) (HasPlace k)
named_placed sc k at i agrees = by_slot sc k at i (local_slot sc.here sc.held i.text) agrees refl

by_sort : (w : World) (k : Around) (at : ℕ) (i : Ident) (o : Expr) (s : Sort) → Knows w k.unit → sort_of o k ≡ as_sort s → is_known s ≡ true → OnStands (read_of w at i o s) (HasPlace k)
by_sort w k at i o Loose knows is known = absurd (cc)
by_sort w k at i o Null knows is known = tt
by_sort w k at i o Int knows is known = tt
by_sort w k at i o Flag knows is known = tt
by_sort w k at i o (Object c) knows is known = object_field_placed k at i o c (field_slot w c i.text) is (knows.fields c i.text)

pub read_placed : (w : World) (k : Around) (at : ℕ) (i : Ident) (x : Typed) → Knows w k.unit → HasSort k x → OnStands (read_place w at i x) (HasPlace k)
read_placed w k at i x knows h = by_sort w k at i x.expr x.sort knows h.sort h.known

-- CALLS

-- arguments have their kinds
pub record HaveSorts (k : Around) (ts : Arguments) : Type 0 where
  pub sorts : map (λ x. sort_of x k) ts.exprs ≡ map (λ (g : Given). as_sort g.sort) ts.given
  pub known : list_all (λ (g : Given). is_known g.sort) ts.given ≡ true

pub left_of : (a b : Bool) → (a && b) ≡ true → a ≡ true
left_of true b is = refl
left_of false b is = absurd (cc)

pub right_of : (a b : Bool) → (a && b) ≡ true → b ≡ true
right_of true b is = is
right_of false b is = absurd (cc)

pub both_of : (a b : Bool) → a ≡ true → b ≡ true → (a && b) ≡ true
both_of true true x y = refl
both_of true false x y = absurd (cc)
both_of false b x y = absurd (cc)

arguments_fit : (k : Around) (ps : List ParamKnown) (gs : List Given) (es : List Expr) → (length ps == length gs) ≡ true → argument_faults ps gs ≡ [] → list_all (λ (p : ParamKnown). is_kind p.sort) ps ≡ true
    → list_all (λ (g : Given). is_known g.sort) gs ≡ true → map (λ x. sort_of x k) es ≡ map (λ (g : Given). as_sort g.sort) gs → are_arguments k (map param_def ps) (map sort_of es) ≡ true
arguments_fit k [] [] [] many none kinds known is = refl
arguments_fit k [] [] (x ∷ es) many none kinds known is = absurd (cc)
arguments_fit k [] (g ∷ gs) es many none kinds known is = absurd (omega (arith, eqb-true 0 (length (g ∷ gs)) many))
arguments_fit k (p ∷ ps) [] es many none kinds known is = absurd (omega (arith, eqb-true (length (p ∷ ps)) 0 many))
arguments_fit k (p ∷ ps) (g ∷ gs) [] many none kinds known is = absurd (cc)
arguments_fit k (p ∷ ps) (g ∷ gs) (x ∷ es) many none kinds known is =
    let same : length ps ≡ length gs = omega (arith, eqb-true (length (p ∷ ps)) (length (g ∷ gs)) many) in
    let fewer = eq-eqb (length ps) (length gs) same in
    let here : sort_of x k ≡ as_sort g.sort = cc in
    let rest : map (λ y. sort_of y k) es ≡ map (λ (h : Given). as_sort h.sort) gs = cc in
    let first = nothing_left (wanted p.sort g.at g.sort) (argument_faults ps gs) none in
    let fit = fits_suits p.sort g.sort (left_of (is_kind p.sort) _ kinds) (left_of (is_known g.sort) _ known) (passes (fits p.sort g.sort) g.at Kinds first) in
    both_of (suits (kind_of p.sort) (sort_of x k)) (are_arguments k (map param_def ps) (map sort_of es)) (ap (suits (kind_of p.sort)) here ∙ fit)
    (arguments_fit k ps gs es fewer (nothing_right (wanted p.sort g.at g.sort) (argument_faults ps gs) none) (right_of (is_kind p.sort) _ kinds) (right_of (is_known g.sort) _ known) rest)

-- a call has the kind of what it gives, and none where it gives nothing
pub record HasCall (k : Around) (c : Called) : Type 0 where
  pub gives : (s : Sort) → c.result ≡ Some s → (sort_of_call c.call k ≡ Of (kind_of s)) × (is_kind s ≡ true)
  pub gives_none : c.result ≡ None → sort_of_call c.call k ≡ NoValue

rolled : (target : Option Expr) (args : List Expr) (n : ℕ) → out-Call (call_to n target args) ≡ record { method = byte n; target = target; args = args }
rolled target args n = refl

passed_by : (b : Bool) (xs : List Fault) (f : Fault) → (if b then xs else f ∷ []) ≡ [] → (b ≡ true) × (xs ≡ [])
passed_by true xs f is = (refl, is)
passed_by false xs f is = absurd (cc)

-- what a call gives, by what its method gives
given_by : (result : Option ResultKnown) (s : Sort) → option_map (λ (r : ResultKnown). r.sort) result ≡ Some s → ((r : ResultKnown) → result ≡ Some r → is_kind r.sort ≡ true)
    → (result_sort (option_map result_def result) ≡ Of (kind_of s)) × (is_kind s ≡ true)
given_by None s is kinds = absurd (cc)
given_by (Some r) s is kinds =
    let same : r.sort ≡ s = cc in
    (ap (λ t. Of (kind_of t)) same, ap is_kind (sym same) ∙ kinds r refl)

none_by : (result : Option ResultKnown) → option_map (λ (r : ResultKnown). r.sort) result ≡ None → result_sort (option_map result_def result) ≡ NoValue
none_by None is = refl
none_by (Some r) is = absurd (cc)

called_as_given : (k : Around) (m : ℕ × MethodKnown) (owner : ℕ) (i : Ident) (target : Option Expr) (ts : Arguments) (h : MethodAt k.unit owner m) → is_target_of k h.def target ≡ true → HaveSorts k ts
    → passed i m.1.params ts.given ≡ [] → sort_of_call (call_to m.0 target ts.exprs) k ≡ result_sort (option_map result_def m.1.result)
called_as_given k m owner i target ts h of_target args none =
    let split = passed_by (length m.1.params == length ts.given) (argument_faults m.1.params ts.given) _ none in
    let fit = ap (λ ps. are_arguments k ps (map sort_of ts.exprs)) h.params ∙ arguments_fit k m.1.params ts.given ts.exprs split.0 split.1 h.params_fixed args.known args.sorts in
    call_form (call_to m.0 target ts.exprs) k
    ∙ ap (called_as k target ts.exprs) h.at
    ∙ both_pass (is_target_of k h.def target) (are_arguments k h.def.params (map sort_of ts.exprs)) (result_sort h.def.result) of_target fit
    ∙ ap result_sort h.result

pub called_sort : (k : Around) (at : ℕ) (m : ℕ × MethodKnown) (owner : ℕ) (i : Ident) (target : Option Expr) (ts : Arguments) (h : MethodAt k.unit owner m) → is_target_of k h.def target ≡ true → HaveSorts k ts
    → passed i m.1.params ts.given ≡ [] → HasCall k (called at m target ts)
called_sort k at m owner i target ts h of_target args none =
    let whole = called_as_given k m owner i target ts h of_target args none in
    record {
      gives = λ s is. let given = given_by m.1.result s is h.result_fixed in (whole ∙ given.0, given.1);
      gives_none = λ is. whole ∙ none_by m.1.result is;
    }

same_class : (c : ℕ) (owner : ℕ) (s : UnitSort) → s ≡ Of (kind.Ref (byte owner)) → c ≡ byte owner → is_object_of c s ≡ true
same_class c owner s is class = ap (is_object_of c) is ∙ eq-eqb c (byte owner) class

not_static : (b : Bool) → not b ≡ true → b ≡ false
not_static true is = absurd (cc)
not_static false is = refl

-- the target of a bare call
own_target_fits : (k : Around) (sc : Scope) (static : Bool) (owner : ℕ) (m : ℕ × MethodKnown) (h : MethodAt k.unit owner m) → Agrees sc k → owner ≡ sc.here.class → m.1.fixed ≡ static → (static || not sc.here.fixed) ≡ true
    → is_target_of k h.def (own_target static) ≡ true
own_target_fits k sc true owner m h agrees own is test = h.is_static ∙ is
own_target_fits k sc false owner m h agrees own is test =
    let this = sort_this k ∙ ap sort_of_class (agrees.receiver (not_static sc.here.fixed test)) ∙ ap (λ c. Of (kind.Ref (byte c))) (sym own) in
    both_of (not h.def.fixed) _ (ap not (h.is_static ∙ is)) (same_class h.def.class owner (sort_of e.This k) this h.class)

own_by : (sc : Scope) (k : Around) (at : ℕ) (i : Ident) (ts : Arguments) (found : Option (ℕ × MethodKnown)) → Agrees sc k → HaveSorts k ts → method_of sc.world sc.here.class i ≡ found → OnStands (own_call sc.here at i ts found) (HasCall k)
own_by sc k at i ts None agrees args is = tt
own_by sc k at i ts (Some m) agrees args is =
    let h = agrees.knows.methods sc.here.class i m is in
    on_unless (HasCall k) (check (m.1.fixed || not sc.here.fixed) i.at Kinds ++ passed i m.1.params ts.given) (called at m (own_target m.1.fixed) ts)
    (λ none.
    called_sort k at m sc.here.class i (own_target m.1.fixed) ts h
    (own_target_fits k sc m.1.fixed sc.here.class m h agrees refl refl (passes (m.1.fixed || not sc.here.fixed) i.at Kinds (nothing_left (check (m.1.fixed || not sc.here.fixed) i.at Kinds) (passed i m.1.params ts.given) none)))
    args
    (nothing_right (check (m.1.fixed || not sc.here.fixed) i.at Kinds) (passed i m.1.params ts.given) none))

pub own_call_sort : (sc : Scope) (k : Around) (at : ℕ) (i : Ident) (ts : Arguments) → Agrees sc k → HaveSorts k ts → OnStands (own_call sc.here at i ts (method_of sc.world sc.here.class i)) (HasCall k)
own_call_sort sc k at i ts agrees args = own_by sc k at i ts (method_of sc.world sc.here.class i) agrees args refl

class_by : (sc : Scope) (k : Around) (at owner : ℕ) (i : Ident) (ts : Arguments) (found : Option (ℕ × MethodKnown)) → Agrees sc k → HaveSorts k ts → method_of sc.world owner i ≡ found → OnStands (class_call at i ts found) (HasCall k)
class_by sc k at owner i ts None agrees args is = tt
class_by sc k at owner i ts (Some m) agrees args is =
    let h = agrees.knows.methods owner i m is in
    on_unless (HasCall k) (check m.1.fixed i.at Kinds ++ passed i m.1.params ts.given) (called at m None ts)
    (λ none.
    called_sort k at m owner i None ts h (h.is_static ∙ passes m.1.fixed i.at Kinds (nothing_left (check m.1.fixed i.at Kinds) (passed i m.1.params ts.given) none)) args
    (nothing_right (check m.1.fixed i.at Kinds) (passed i m.1.params ts.given) none))

pub class_call_sort : (sc : Scope) (k : Around) (at owner : ℕ) (i : Ident) (ts : Arguments) → Agrees sc k → HaveSorts k ts → OnStands (class_call at i ts (method_of sc.world owner i)) (HasCall k)
class_call_sort sc k at owner i ts agrees args = class_by sc k at owner i ts (method_of sc.world owner i) agrees args refl

method_by : (sc : Scope) (k : Around) (at owner : ℕ) (i : Ident) (o : Expr) (ts : Arguments) (found : Option (ℕ × MethodKnown)) → Agrees sc k → HaveSorts k ts → sort_of o k ≡ Of (kind.Ref (byte owner)) → method_of sc.world owner i ≡ found
    → OnStands (method_call at i o ts found) (HasCall k)
method_by sc k at owner i o ts None agrees args of_o is = tt
method_by sc k at owner i o ts (Some m) agrees args of_o is =
    let h = agrees.knows.methods owner i m is in
    on_unless (HasCall k) (check (not m.1.fixed) i.at Kinds ++ passed i m.1.params ts.given) (called at m (Some o) ts)
    (λ none.
    called_sort k at m owner i (Some o) ts h
    (both_of (not h.def.fixed) _ (ap not h.is_static ∙ passes (not m.1.fixed) i.at Kinds (nothing_left (check (not m.1.fixed) i.at Kinds) (passed i m.1.params ts.given) none)) (same_class h.def.class owner (sort_of o k) of_o h.class))
    args
    (nothing_right (check (not m.1.fixed) i.at Kinds) (passed i m.1.params ts.given) none))

by_target : (sc : Scope) (k : Around) (at : ℕ) (i : Ident) (o : Expr) (ts : Arguments) (s : Sort) → Agrees sc k → HaveSorts k ts → sort_of o k ≡ as_sort s → is_known s ≡ true → OnStands (object_call sc.world at i o ts s) (HasCall k)
by_target sc k at i o ts Loose agrees args of_o known = absurd (cc)
by_target sc k at i o ts Null agrees args of_o known = tt
by_target sc k at i o ts Int agrees args of_o known = tt
by_target sc k at i o ts Flag agrees args of_o known = tt
by_target sc k at i o ts (Object c) agrees args of_o known = method_by sc k at c i o ts (method_of sc.world c i) agrees args of_o refl

pub object_call_sort : (sc : Scope) (k : Around) (at : ℕ) (i : Ident) (x : Typed) (ts : Arguments) → Agrees sc k → HaveSorts k ts → HasSort k x → OnStands (object_call sc.world at i x.expr ts x.sort) (HasCall k)
object_call_sort sc k at i x ts agrees args h = by_target sc k at i x.expr ts x.sort agrees args h.sort h.known

by_result : (k : Around) (c : Called) (r : Option Sort) → HasCall k c → c.result ≡ r → in_code k.form (sort_of_call c.call k) ≡ sort_of_call c.call k → OnStands (call_value c r) (HasSort k)
by_result k c None h is code = tt
by_result k c (Some s) h is code =
    let given = h.gives s is in
    record { sort = sort_call c.call k ∙ code ∙ given.0 ∙ sym (kind_sort s given.1); known = kind_known s given.1 }

pub call_value_sort : (k : Around) (c : Called) → HasCall k c → in_code k.form (sort_of_call c.call k) ≡ sort_of_call c.call k → OnStands (call_value c c.result) (HasSort k)
call_value_sort k c h code = by_result k c c.result h refl code
