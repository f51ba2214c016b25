-- What names mean. (Java Language Specification, "Names", "Scope of a Declaration".)
use Rattle.std.specs.Prelude.{ℕ, Bool, ◌==◌, ◌&&◌, List, Option, None, Some, option_map, option_and_then, bytes_eq, position, slice_get, []}
use Rattle.java_tree.specs.declared.names.Ident.{Ident}
use Rattle.declared_names.specs.declared.sort.Sort.{Sort}
use Rattle.declared_names.specs.declared.world.World.{World}
use Rattle.declared_names.specs.declared.world.Here.{Here}
use Rattle.declared_names.specs.declared.world.Declared.{Declared}
use Rattle.declared_names.specs.declared.world.Slot.{Slot}
use Rattle.declared_names.specs.declared.world.MethodKnown.{MethodKnown}
use Rattle.declared_names.specs.declared.world.Form.{Form}
use Rattle.declared_names.specs.declared.world.Form.TheVariants as form

-- the name is declared in this owner: in the class of this number, or, of a class or a parameter, in 0
abbrev pub is_key : ℕ → List ℕ → (ℕ × List ℕ) → Bool
is_key owner name k = k.0 == owner && bytes_eq k.1 name

-- a name means its first declaration: its place in the list
abbrev pub place_in : List (ℕ × List ℕ) → ℕ → List ℕ → Option ℕ
place_in names owner name = position (is_key owner name) names

abbrev pub slot : ℕ → Sort → Slot
slot number sort = record { number = number; sort = sort }

-- a field of this name of the class of this number
abbrev pub field_slot : World → ℕ → List ℕ → Option Slot
field_slot w owner name = option_and_then (λ i. option_map (λ d. slot i d.sort) (slice_get w.fields i)) (place_in w.field_names owner name)

-- a parameter of this name
abbrev pub param_slot : Here → List ℕ → Option Slot
param_slot h name = option_and_then (λ i. option_map (slot i) (slice_get h.sorts i)) (place_in h.params 0 name)

abbrev pub is_declared : List ℕ → Declared → Bool
is_declared name d = bytes_eq d.name name

-- a local or a quantified variable of this name
abbrev pub declared_slot : List Declared → List ℕ → Option Slot
declared_slot ds name = option_and_then (λ i. option_map (λ d. slot d.number d.sort) (slice_get ds i)) (position (is_declared name) ds)

abbrev pub or_else_slot : Option Slot → Option Slot → Option Slot
or_else_slot (Some s) t = Some s
or_else_slot None t = t

-- a parameter or a local in scope
abbrev pub local_slot : Here → List Declared → List ℕ → Option Slot
local_slot h held name = or_else_slot (param_slot h name) (declared_slot held name)

abbrev pub method_at : World → Option ℕ → Option (ℕ × MethodKnown)
method_at w None = None
method_at w (Some n) = option_map (λ m. (n, m)) (slice_get w.methods n)

-- the method of this name of the class of this number
abbrev pub method_of : World → ℕ → Ident → Option (ℕ × MethodKnown)
method_of w owner i = method_at w (place_in w.method_names owner i.text)

-- where an expression stands: what is declared in the text, in the class and the method; in what sort of code or clause;
-- the locals in scope, and the quantified variables, the outermost first
pub record Scope : Type 0 where
  pub world : World
  pub here : Here
  pub form : Form
  pub held : List Declared
  pub bound : List Declared

-- in code, with these locals in scope
abbrev pub in_body : World → Here → List Declared → Scope
in_body w h held = record { world = w; here = h; form = form.Code; held = held; bound = [] }

-- in a clause of this form, inside quantifiers with these variables
abbrev pub in_clause : World → Here → Form → List Declared → Scope
in_clause w h form bound = record { world = w; here = h; form = form; held = []; bound = bound }
