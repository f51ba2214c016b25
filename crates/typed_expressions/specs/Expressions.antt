-- What an expression is seen to be: its kind and its value in the unit, or its faults. Every form is one line.
use Rattle.std.specs.Prelude.{ℕ, Bool, true, false, Option, None, Some, is_none, Result}
use Rattle.java_tree.specs.declared.names.Ident.{Ident}
use Rattle.java_tree.specs.Trees.{Expr, num, flag, null, this, outcome, make, named, call, read, call_on, paren, negation, minus, bin, old, quant, quant_in, has, size, Exprs, none, also}
use Rattle.java_tree.specs.Expressions.{place}
use Rattle.taco_unit.specs.declared.expr.Expr.TheVariants as e
use Rattle.declared_names.specs.declared.fault.Fault.{Fault}
use Rattle.declared_names.specs.declared.fault.Cause.TheVariants.{Kinds}
use Rattle.declared_names.specs.declared.sort.Sort.TheVariants.{Null, Int, Flag}
use Rattle.typed_forms.specs.declared.typed.Typed.{Typed}
use Rattle.typed_forms.specs.declared.typed.Place.{Place}
use Rattle.typed_forms.specs.declared.typed.Called.{Called}
use Rattle.typed_forms.specs.declared.typed.Arguments.{Arguments}
use Rattle.declared_names.specs.declared.world.World.{World}
use Rattle.declared_names.specs.Faults.{fault}
use Rattle.declared_names.specs.Seen.{Seen, Stands, faulty, is_seen, over, over_two, told, on_two}
use Rattle.declared_names.specs.Lookups.{Scope, place_in, declared_slot, method_of}
use Rattle.typed_forms.specs.Operators.{typed, operated, negated, literal, minus_of}
use Rattle.typed_forms.specs.Calls.{no_arguments, with_argument, named_place, read_place, place_value, named_value, class_of, made, own_call, class_call, object_call, in_code, call_value}
use Rattle.typed_forms.specs.Clauses.{is_clause, is_exit, past, old_of, this_of, result_of, with_variable, quantified, has_of, size_of}

-- a minus sign directly before a literal
abbrev pub literal_of : Expr → Option ℕ
literal_of (num at n) = Some n
literal_of e = None

-- in `N.m(..)`, where N is no variable and no field, N is a class
abbrev pub bare_name : Expr → Option Ident
bare_name (named at i) = Some i
bare_name e = None

abbrev pub if_no_value : Bool → Bool → Ident → Option Ident
if_no_value true false i = Some i
if_no_value true true i = None
if_no_value false known i = None

abbrev pub class_name_of : Scope → Option Ident → Option Ident
class_name_of sc None = None
class_name_of sc (Some i) = if_no_value (is_none (declared_slot sc.bound i.text)) (is_seen (named_place sc.world sc.here sc.held 0 i)) i

-- a call behind a dot, of a static method of a class or of a method of an object
abbrev pub dotted : World → ℕ → Ident → Option Ident → Seen Typed → Seen Arguments → Seen Called
dotted w at i (Some n) a args = over_two (class_of w n) args (λ c ts. class_call at i ts (method_of w c i))
dotted w at i None a args = over_two a args (λ x ts. object_call w at i x.expr ts x.sort)

-- the same, by what is reported of the parts
abbrev pub dotted_told : World → ℕ → Ident → Option Ident → Result Typed Fault → Result Arguments Fault → Result Called Fault
dotted_told w at i (Some n) a args = on_two (told (class_of w n)) args (λ c ts. told (class_call at i ts (method_of w c i)))
dotted_told w at i None a args = on_two a args (λ x ts. told (object_call w at i x.expr ts x.sort))

-- a call, which may give no value
abbrev pub own_called : Scope → ℕ → Ident → Seen Arguments → Seen Called
own_called sc at i args = over args (λ ts. own_call sc.here at i ts (method_of sc.world sc.here.class i))

abbrev pub valued : Seen Called → Seen Typed
valued s = over s (λ c. call_value c c.result)

abbrev mutual
  pub seen : Expr → Scope → Seen Typed
  seen (num at n) sc = Stands (typed at Int (e.Num (literal n)))
  seen (flag at b) sc = Stands (typed at Flag (e.Flag b))
  seen (null at) sc = Stands (typed at Null e.Null)
  seen (this at) sc = this_of at sc.here.class sc.here.fixed
  seen (outcome at) sc = result_of at (is_exit sc.form) sc.here.result
  seen (make at i) sc = over (class_of sc.world i) (made at (is_clause sc.form))
  seen (named at i) sc = named_value at (declared_slot sc.bound i.text) (named_place sc.world sc.here sc.held at i)
  seen (call at i args) sc = valued (in_code at (is_clause sc.form) (own_called sc at i (seen_from (Stands no_arguments) args sc)))
  seen (read at a i) sc = over (over (seen a sc) (read_place sc.world at i)) (λ p. Stands (place_value p))
  seen (call_on at a i args) sc = valued (in_code at (is_clause sc.form) (dotted sc.world at i (class_name_of sc (bare_name a)) (seen a sc) (seen_from (Stands no_arguments) args sc)))
  seen (paren at a) sc = over (seen a sc) (λ x. Stands (typed at x.sort x.expr))
  seen (negation at a) sc = over (seen a sc) (negated at)
  seen (minus at a) sc = minus_of at (literal_of a) (seen a sc)
  seen (bin at s a b) sc = over_two (seen a sc) (seen b sc) (operated at (is_clause sc.form) s)
  seen (old at a) sc = over (seen a (past sc)) (old_of at (is_exit sc.form))
  seen (quant at all kind i body) sc = over (seen body (with_variable sc kind i)) (quantified sc at all kind i None)
  seen (quant_in at all kind i range body) sc =
      over_two (seen range (with_variable sc kind i)) (seen body (with_variable sc kind i)) (λ r b. quantified sc at all kind i (Some r) b)
  seen (has at a kind fields b) sc =
      over_two (seen a sc) (seen b sc) (λ x y. has_of sc.world at (is_clause sc.form) kind fields x y (place_in sc.world.classes 0 kind.text))
  seen (size at a kind fields) sc =
      over (seen a sc) (λ x. size_of sc.world at (is_clause sc.form) kind fields x (place_in sc.world.classes 0 kind.text))

  -- arguments, from left to right
  pub seen_from : Seen Arguments → Exprs → Scope → Seen Arguments
  seen_from done none sc = done
  seen_from done (also a more) sc = seen_from (over_two done (seen a sc) (λ ts t. Stands (with_argument ts t))) more sc

-- a call as a statement may give no value
abbrev pub seen_call : Expr → Scope → Seen Called
seen_call (call at i args) sc = own_called sc at i (seen_from (Stands no_arguments) args sc)
seen_call (call_on at a i args) sc = dotted sc.world at i (class_name_of sc (bare_name a)) (seen a sc) (seen_from (Stands no_arguments) args sc)
seen_call e sc = faulty (fault (place e) Kinds)

-- what a value is assigned to
abbrev pub seen_target : Expr → Scope → Seen Place
seen_target (named at i) sc = named_place sc.world sc.here sc.held at i
seen_target (read at a i) sc = over (seen a sc) (read_place sc.world at i)
seen_target e sc = faulty (fault (place e) Kinds)
