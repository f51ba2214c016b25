-- What stands in clauses alone: `\result`, `\old`, quantifiers and `\reach`. (JML Reference Manual, "Predicates and
-- Specification Expressions".)
use Rattle.std.specs.Prelude.{ℕ, Bool, true, false, ◌==◌, ◌&&◌, not, List, [], ◌∷◌, ◌++◌, length, map, Option, None, Some, option_map, is_some, is_none}
use Rattle.std.specs.Option.{unwrap_or}
use Rattle.java_tree.specs.declared.names.Ident.{Ident}
use Rattle.taco_unit.specs.declared.expr.Expr.TheVariants as e
use Rattle.taco_unit.specs.declared.expr.Quant.{Quant, roll-Quant}
use Rattle.taco_unit.specs.declared.expr.Reach.{Reach, roll-Reach}
use Rattle.declared_names.specs.declared.fault.Fault.{Fault}
use Rattle.refusals.specs.declared.refusal.Many.TheVariants.{Quantifiers}
use Rattle.declared_names.specs.declared.fault.Cause.TheVariants.{Unknown, Twice, Kinds, TooMany}
use Rattle.declared_names.specs.declared.sort.Sort.{Sort}
use Rattle.declared_names.specs.declared.sort.Sort.TheVariants.{Loose, Int, Flag, Object}
use Rattle.typed_forms.specs.declared.typed.Typed.{Typed}
use Rattle.declared_names.specs.declared.world.World.{World}
use Rattle.declared_names.specs.declared.world.Slot.{Slot}
use Rattle.declared_names.specs.declared.world.Declared.{Declared}
use Rattle.declared_names.specs.declared.world.Form.{Form}
use Rattle.declared_names.specs.declared.world.Form.TheVariants as form
use Rattle.declared_names.specs.Faults.{check, fault}
use Rattle.declared_names.specs.Seen.{Seen, Stands, faulty, unless}
use Rattle.declared_names.specs.Sorts.{is_object}
use Rattle.declared_names.specs.Lookups.{Scope, place_in, field_slot, local_slot, declared_slot}
use Rattle.typed_forms.specs.Operators.{typed, wants}
use Rattle.typed_forms.specs.Calls.{byte}

abbrev pub is_clause : Form → Bool
is_clause form.Code = false
is_clause form.Entry = true
is_clause form.Exit = true
is_clause form.Past = true

-- in an `ensures` clause, outside its `\old`
abbrev pub is_exit : Form → Bool
is_exit form.Code = false
is_exit form.Entry = false
is_exit form.Exit = true
is_exit form.Past = false

-- inside `\old`
abbrev pub past : Scope → Scope
past sc = record sc { form = form.Past }

abbrev pub old_of : ℕ → Bool → Typed → Seen Typed
old_of at exit x = unless (check exit at Kinds) (typed at x.sort (e.Old x.expr))

-- `this`, where there is a receiver
abbrev pub this_of : ℕ → ℕ → Bool → Seen Typed
this_of at owner true = faulty (fault at Kinds)
this_of at owner false = Stands (typed at (Object owner) e.This)

-- `\result`, where it has a kind
abbrev pub result_of : ℕ → Bool → Option Sort → Seen Typed
result_of at true (Some s) = Stands (typed at s e.Result)
result_of at true None = faulty (fault at Kinds)
result_of at false s = faulty (fault at Kinds)

-- QUANTIFIERS

-- the kind of a variable of a class of this name
abbrev pub class_sort : Option ℕ → Sort
class_sort (Some c) = Object c
class_sort None = Loose

abbrev pub sort_of_class : World → Ident → Sort
sort_of_class w kind = class_sort (place_in w.classes 0 kind.text)

-- a variable has the number of the quantifiers around its own
abbrev pub variable : World → List Declared → Ident → Ident → Declared
variable w bound kind i = record { name = i.text; sort = sort_of_class w kind; number = length bound }

abbrev pub with_variable : Scope → Ident → Ident → Scope
with_variable sc kind i = record sc { bound = sc.bound ++ variable sc.world sc.bound kind i ∷ [] }

-- the class has a meaning, the name is new, and the quantifier is not the first beyond four nested ones
unfoldable pub quantifier_faults : Scope → ℕ → Ident → Ident → List Fault
quantifier_faults sc at kind i =
    check (is_clause sc.form) at Kinds ++ check (is_some (place_in sc.world.classes 0 kind.text)) kind.at Unknown
    ++ check (is_none (declared_slot sc.bound i.text) && is_none (local_slot sc.here sc.held i.text)) i.at Twice
    ++ check (not (length sc.bound == 4)) at (TooMany Quantifiers)

abbrev pub quantifier : World → List Declared → Bool → Ident → Option Typed → Typed → Quant
quantifier w bound all kind range body =
    roll-Quant (record {
      all = all;
      class = byte (unwrap_or (place_in w.classes 0 kind.text) 0);
      bound = byte (length bound);
      range = option_map (λ r. r.expr) range;
      body = body.expr;
    })

abbrev pub range_faults : Option Typed → List Fault
range_faults None = []
range_faults (Some r) = wants Flag r

abbrev pub quantified : Scope → ℕ → Bool → Ident → Ident → Option Typed → Typed → Seen Typed
quantified sc at all kind i range body =
    unless (quantifier_faults sc at kind i ++ range_faults range ++ wants Flag body) (typed at Flag (e.Quant (quantifier sc.world sc.bound all kind range body)))

-- REACH

-- a field of the class with the class as its kind
abbrev pub link_faults : ℕ → Ident → Option Slot → List Fault
link_faults c f None = fault f.at Unknown ∷ []
link_faults c f (Some s) = check (is_object c s.sort) f.at Kinds

abbrev pub links_faults : World → ℕ → List Ident → List Fault
links_faults w c [] = []
links_faults w c (f ∷ fs) = link_faults c f (field_slot w c f.text) ++ links_faults w c fs

-- the class has a meaning; the start is an object of it, and each field leads from it to it
abbrev pub reach_faults : World → Ident → List Ident → Typed → Option ℕ → List Fault
reach_faults w kind fields x None = fault kind.at Unknown ∷ []
reach_faults w kind fields x (Some c) = check (is_object c x.sort) x.at Kinds ++ links_faults w c fields

abbrev pub link_number : Option Slot → ℕ
link_number None = 0
link_number (Some s) = byte s.number

abbrev pub reached : World → Ident → List Ident → Typed → ℕ → Reach
reached w kind fields x c = roll-Reach (record { from = x.expr; class = byte c; fields = map (λ f. link_number (field_slot w c f.text)) fields })

-- `.has` asks for an object of the class or for null
abbrev pub has_of : World → ℕ → Bool → Ident → List Ident → Typed → Typed → Option ℕ → Seen Typed
has_of w at clause kind fields x y found =
    unless (check clause at Kinds ++ reach_faults w kind fields x found ++ wants (class_sort found) y) (typed at Flag (e.Has (reached w kind fields x (unwrap_or found 0)) y.expr))

abbrev pub size_of : World → ℕ → Bool → Ident → List Ident → Typed → Option ℕ → Seen Typed
size_of w at clause kind fields x found =
    unless (check clause at Kinds ++ reach_faults w kind fields x found) (typed at Int (e.Size (reached w kind fields x (unwrap_or found 0))))
