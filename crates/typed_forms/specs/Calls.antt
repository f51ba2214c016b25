-- Names of variables and fields, reads of fields, calls and `new`. (Java Language Specification, "Field Access
-- Expressions", "Method Invocation Expressions", "Class Instance Creation Expressions".)
use Rattle.std.specs.Prelude.{ℕ, min, Bool, true, false, ◌==◌, ◌||◌, not, if◌then◌else◌, List, [], ◌∷◌, ◌++◌, length, Option, None, Some, option_map}
use Rattle.java_tree.specs.declared.names.Ident.{Ident}
use Rattle.taco_unit.specs.declared.expr.Expr.{Expr}
use Rattle.taco_unit.specs.declared.expr.Expr.TheVariants as e
use Rattle.taco_unit.specs.declared.expr.Call.{Call, roll-Call}
use Rattle.declared_names.specs.declared.fault.Fault.{Fault}
use Rattle.declared_names.specs.declared.fault.Cause.TheVariants.{Unknown, Kinds}
use Rattle.declared_names.specs.declared.sort.Sort.{Sort}
use Rattle.declared_names.specs.declared.sort.Sort.TheVariants.{Loose, Null, Int, Flag, Object}
use Rattle.typed_forms.specs.declared.typed.Typed.{Typed}
use Rattle.typed_forms.specs.declared.typed.Place.{Place}
use Rattle.typed_forms.specs.declared.typed.Spot.{Spot}
use Rattle.typed_forms.specs.declared.typed.Spot.TheVariants as spot
use Rattle.typed_forms.specs.declared.typed.Called.{Called}
use Rattle.typed_forms.specs.declared.typed.Given.{Given}
use Rattle.typed_forms.specs.declared.typed.Arguments.{Arguments}
use Rattle.declared_names.specs.declared.world.World.{World}
use Rattle.declared_names.specs.declared.world.Here.{Here}
use Rattle.declared_names.specs.declared.world.Slot.{Slot}
use Rattle.declared_names.specs.declared.world.Declared.{Declared}
use Rattle.declared_names.specs.declared.world.MethodKnown.{MethodKnown}
use Rattle.declared_names.specs.declared.world.ParamKnown.{ParamKnown}
use Rattle.declared_names.specs.Faults.{check, fault}
use Rattle.declared_names.specs.Seen.{Seen, Stands, faulty, unless, over}
use Rattle.declared_names.specs.Lookups.{place_in, field_slot, local_slot, method_of}
use Rattle.typed_forms.specs.Operators.{typed, wanted}

-- a number as a byte; what has a greater one is beyond a limit, which is a fault elsewhere
abbrev pub byte : ℕ → ℕ
byte n = min n 255

-- NAMES AND FIELDS

abbrev pub local_place : ℕ → Slot → Place
local_place at s = record { at = at; sort = s.sort; spot = spot.Local (byte s.number) }

abbrev pub field_place : ℕ → Expr → Slot → Place
field_place at o s = record { at = at; sort = s.sort; spot = spot.Field o (byte s.number) }

-- a field of the object, if there is one
abbrev pub object_field : ℕ → Ident → Expr → Option Slot → Seen Place
object_field at i o (Some s) = Stands (field_place at o s)
object_field at i o None = faulty (fault i.at Unknown)

-- a field of `this`, where there is a receiver
abbrev pub own_field : World → Here → ℕ → Ident → Bool → Seen Place
own_field w h at i true = faulty (fault i.at Unknown)
own_field w h at i false = object_field at i e.This (field_slot w h.class i.text)

-- a name is a local or a parameter in scope, and else a field
abbrev pub place_of_name : World → Here → ℕ → Ident → Option Slot → Seen Place
place_of_name w h at i (Some s) = Stands (local_place at s)
place_of_name w h at i None = own_field w h at i h.fixed

abbrev pub named_place : World → Here → List Declared → ℕ → Ident → Seen Place
named_place w h held at i = place_of_name w h at i (local_slot h held i.text)

-- a field is asked of an object
abbrev pub read_of : World → ℕ → Ident → Expr → Sort → Seen Place
read_of w at i o Loose = Stands (record { at = at; sort = Loose; spot = spot.Field o 0 })
read_of w at i o Null = faulty (fault i.at Kinds)
read_of w at i o Int = faulty (fault i.at Kinds)
read_of w at i o Flag = faulty (fault i.at Kinds)
read_of w at i o (Object c) = object_field at i o (field_slot w c i.text)

abbrev pub read_place : World → ℕ → Ident → Typed → Seen Place
read_place w at i x = read_of w at i x.expr x.sort

-- the value that stands at a place
abbrev pub value_at : Spot → Expr
value_at (spot.Local n) = e.Local n
value_at (spot.Field o f) = e.Read o f

abbrev pub place_value : Place → Typed
place_value p = typed p.at p.sort (value_at p.spot)

-- a quantified variable, and else what the name means
abbrev pub named_value : ℕ → Option Slot → Seen Place → Seen Typed
named_value at (Some s) p = Stands (typed at s.sort (e.Bound (byte s.number)))
named_value at None p = over p (λ q. Stands (place_value q))

-- the name of a class
abbrev pub class_found : Ident → Option ℕ → Seen ℕ
class_found i (Some c) = Stands c
class_found i None = faulty (fault i.at Unknown)

abbrev pub class_of : World → Ident → Seen ℕ
class_of w i = class_found i (place_in w.classes 0 i.text)

abbrev pub made : ℕ → Bool → ℕ → Seen Typed
made at clause c = unless (check (not clause) at Kinds) (typed at (Object c) (e.New (byte c)))

-- CALLS

-- arguments, from left to right
abbrev pub no_arguments : Arguments
no_arguments = record { given = []; exprs = [] }

abbrev pub with_argument : Arguments → Typed → Arguments
with_argument ts t = record { given = ts.given ++ record { at = t.at; sort = t.sort } ∷ []; exprs = ts.exprs ++ t.expr ∷ [] }

-- each argument fits its parameter
abbrev pub argument_faults : List ParamKnown → List Given → List Fault
argument_faults [] ts = []
argument_faults (p ∷ ps) [] = []
argument_faults (p ∷ ps) (t ∷ ts) = wanted p.sort t.at t.sort ++ argument_faults ps ts

-- the arguments are as many as the parameters, and fit them
abbrev pub passed : Ident → List ParamKnown → List Given → List Fault
passed i ps ts = if length ps == length ts then argument_faults ps ts else fault i.at Kinds ∷ []

abbrev pub call_to : ℕ → Option Expr → List Expr → Call
call_to n target args = roll-Call (record { method = byte n; target = target; args = args })

abbrev pub called : ℕ → (ℕ × MethodKnown) → Option Expr → Arguments → Called
called at m target ts = record { at = at; result = option_map (λ r. r.sort) m.1.result; call = call_to m.0 target ts.exprs }

-- a method without a receiver has no target, and any other one `this`
abbrev pub own_target : Bool → Option Expr
own_target true = None
own_target false = Some e.This

-- `m(..)`: a method of the own class; a method with a receiver stands only where there is one
abbrev pub own_call : Here → ℕ → Ident → Arguments → Option (ℕ × MethodKnown) → Seen Called
own_call h at i ts None = faulty (fault i.at Unknown)
own_call h at i ts (Some m) = unless (check (m.1.fixed || not h.fixed) i.at Kinds ++ passed i m.1.params ts.given) (called at m (own_target m.1.fixed) ts)

-- `N.m(..)`: a static method of the class N
abbrev pub class_call : ℕ → Ident → Arguments → Option (ℕ × MethodKnown) → Seen Called
class_call at i ts None = faulty (fault i.at Unknown)
class_call at i ts (Some m) = unless (check m.1.fixed i.at Kinds ++ passed i m.1.params ts.given) (called at m None ts)

-- `x.m(..)`: a method, which is not static, of the class of x
abbrev pub method_call : ℕ → Ident → Expr → Arguments → Option (ℕ × MethodKnown) → Seen Called
method_call at i o ts None = faulty (fault i.at Unknown)
method_call at i o ts (Some m) = unless (check (not m.1.fixed) i.at Kinds ++ passed i m.1.params ts.given) (called at m (Some o) ts)

abbrev pub object_call : World → ℕ → Ident → Expr → Arguments → Sort → Seen Called
object_call w at i o ts Loose = Stands (record { at = at; result = Some Loose; call = call_to 0 None [] })
object_call w at i o ts Null = faulty (fault i.at Kinds)
object_call w at i o ts Int = faulty (fault i.at Kinds)
object_call w at i o ts Flag = faulty (fault i.at Kinds)
object_call w at i o ts (Object c) = method_call at i o ts (method_of w c i)

-- calls stand in code alone
abbrev pub in_code : ℕ → Bool → Seen Called → Seen Called
in_code at false s = s
in_code at true s = faulty (fault at Kinds)

-- a call without a value is no value
abbrev pub call_value : Called → Option Sort → Seen Typed
call_value c (Some s) = Stands (typed c.at s (e.Call c.call))
call_value c None = faulty (fault c.at Kinds)
