-- The kind of an expression. (Java Language Specification, "Expressions": the types of operands, as in
-- "Numerical Comparison Operators", "Numerical Equality Operators" and "Reference Equality Operators", of "Field
-- Access Expressions" and of "Method Invocation Expressions"; JML Reference Manual, "Predicates and
-- Specification Expressions".)
use Rattle.std.specs.Prelude.{ℕ, Bool, true, false, ◌==◌, nat_lt, ◌&&◌, not, List, [], ◌∷◌, ◌++◌, length, slice_get, Option, Some, None}
use Rattle.std.specs.List.{list_all}
use Rattle.std.specs.Option.{option_map_or}
use Rattle.std.specs.Cmp.Lexicographic.{pointwise}
use Rattle.taco_unit.specs.declared.kind.Kind.{Kind}
use Rattle.taco_unit.specs.declared.kind.Kind.TheVariants.{Int, Flag, Ref}
use Rattle.taco_unit.specs.declared.expr.Op.{Op}
use Rattle.taco_unit.specs.declared.expr.Op.TheVariants as op
use Rattle.taco_unit.specs.declared.expr.Expr.{Expr, fold-Expr}
use Rattle.taco_unit.specs.declared.expr.Expr.TheOpen.{Expr-F, Call-F, Quant-F, Reach-F}
use Rattle.taco_unit.specs.declared.unit.FieldDef.{FieldDef}
use Rattle.taco_unit.specs.declared.unit.MethodDef.{MethodDef}
use Rattle.taco_unit.specs.declared.unit.ParamDef.{ParamDef}
use Rattle.taco_unit.specs.Parts.{Parts}

-- what an expression is: one with a fault, a call without a value, `null` (which has every class
-- kind), or one of a kind
pub data Sort : Type 0 where
  Faulty : Sort
  NoValue : Sort
  NullOnly : Sort
  Of : Kind → Sort

-- where an expression stands: in the code of a method, in an invariant or a `requires` clause, in an
-- `ensures` clause, or inside its `\old`
pub data Form : Type 0 where
  Code : Form
  Entry : Form
  Exit : Form
  Past : Form

-- what is known around an expression
pub record Around : Type 0 where
  pub unit : Parts
  pub form : Form
  -- the class of the receiver, where there is one
  pub this : Option ℕ
  -- the kinds of the locals that may be named: parameters first
  pub locals : List Kind
  -- the classes of the quantified variables around it, the outermost first
  pub bound : List ℕ
  -- the kind of the method's result, where there is a method with a result
  pub result : Option Kind

-- two kinds are the same
abbrev pub same_kind : Kind → Kind → Bool
same_kind Int Int = true
same_kind Flag Flag = true
same_kind (Ref c) (Ref d) = c == d
same_kind _ _ = false

-- a kind of objects
abbrev pub is_class_kind : Kind → Bool
is_class_kind (Ref c) = true
is_class_kind _ = false

-- the class of a kind is one of the unit's
abbrev pub is_kind_of : Parts → Kind → Bool
is_kind_of u (Ref c) = nat_lt c (length u.classes)
is_kind_of u _ = true

-- an expression of this sort can stand where this kind is wanted
abbrev pub suits : Kind → Sort → Bool
suits k (Of l) = same_kind k l
suits k NullOnly = is_class_kind k
suits k _ = false

-- expressions of these sorts can be compared by `==`
abbrev pub alike : Sort → Sort → Bool
alike (Of k) s = suits k s
alike NullOnly (Of k) = is_class_kind k
alike NullOnly NullOnly = true
alike _ _ = false

-- the sort, where the test passes
abbrev pub where_ : Bool → Sort → Sort
where_ true s = s
where_ false s = Faulty

-- the sort of what has a kind, where it is there
abbrev pub sort_of_kind : Option Kind → Sort
sort_of_kind (Some k) = Of k
sort_of_kind None = Faulty

-- the kind of a field of this number, read from an expression of this sort: an object of its class
abbrev pub field_sort : Option FieldDef → Sort → Sort
field_sort (Some d) (Of (Ref c)) = where_ (d.class == c) (Of d.kind)
field_sort _ _ = Faulty

-- the sort of what two operands make
abbrev pub binary_sort : Op → Sort → Sort → Sort
binary_sort op.Add a b = where_ (suits Int a && suits Int b) (Of Int)
binary_sort op.Sub a b = where_ (suits Int a && suits Int b) (Of Int)
binary_sort op.Mul a b = where_ (suits Int a && suits Int b) (Of Int)
binary_sort op.Eq a b = where_ (alike a b) (Of Flag)
binary_sort op.Ne a b = where_ (alike a b) (Of Flag)
binary_sort op.Lt a b = where_ (suits Int a && suits Int b) (Of Flag)
binary_sort op.Le a b = where_ (suits Int a && suits Int b) (Of Flag)
binary_sort op.Gt a b = where_ (suits Int a && suits Int b) (Of Flag)
binary_sort op.Ge a b = where_ (suits Int a && suits Int b) (Of Flag)
binary_sort op.And a b = where_ (suits Flag a && suits Flag b) (Of Flag)
binary_sort op.Or a b = where_ (suits Flag a && suits Flag b) (Of Flag)
binary_sort op.Implies a b = where_ (suits Flag a && suits Flag b) (Of Flag)
binary_sort op.Iff a b = where_ (suits Flag a && suits Flag b) (Of Flag)

-- the sort of an expression, or of a part of one, by what is known around it
abbrev pub Sorted : Type 0
Sorted = Around → Sort

-- inside `\old`
abbrev pub past : Around → Around
past k = record k { form = Past }

-- inside a quantifier over this class
abbrev pub with_bound : Around → ℕ → Around
with_bound k class = record k { bound = k.bound ++ class ∷ [] }

-- the sort of a quantifier: its class is there, its variable has the number of the quantifiers around
-- it, and its range and body are conditions
abbrev pub quant_sort : Quant-F Sorted Sorted Sorted Sorted → Sorted
quant_sort q k =
    let inner : Around = with_bound k q.class in
    where_
    (nat_lt q.class (length k.unit.classes) && q.bound == length k.bound && option_map_or (λ r. suits Flag (r inner)) q.range true && suits Flag (q.body inner))
    (Of Flag)

-- a field of this number is declared in the class with the class as its kind
abbrev pub is_link : Parts → ℕ → ℕ → Bool
is_link u class f = option_map_or (λ d. d.class == class && same_kind d.kind (Ref class)) (slice_get u.fields f) false

-- an expression of this sort is an object of this class, or null read from a variable or a field
abbrev pub is_object_of : ℕ → Sort → Bool
is_object_of class (Of k) = same_kind (Ref class) k
is_object_of class _ = false

-- the sort of the objects of a `\reach`: it begins at an object of its class, and each of its fields
-- leads from the class to the class
abbrev pub reach_sort : Reach-F Sorted Sorted Sorted Sorted → Sorted
reach_sort r k =
    where_
    (nat_lt r.class (length k.unit.classes) && is_object_of r.class (r.from k) && list_all (is_link k.unit r.class) r.fields)
    (Of (Ref r.class))

-- the target of a call: none for a static method, else an object of the method's class
abbrev pub is_target : Around → MethodDef → Option Sorted → Bool
is_target k m None = m.fixed
is_target k m (Some t) = not m.fixed && is_object_of m.class (t k)

-- each parameter has one argument that fits it
abbrev pub are_arguments : Around → List ParamDef → List Sorted → Bool
are_arguments k = pointwise (λ p a. suits p.kind (a k))

-- what a method of this result gives
abbrev pub result_sort : Option (Kind × Bool) → Sort
result_sort (Some r) = Of r.0
result_sort None = NoValue

-- the sort of a call of this method
abbrev pub called_sort : Call-F Sorted Sorted Sorted Sorted → Around → Option MethodDef → Sort
called_sort c k (Some m) = where_ (is_target k m c.target && are_arguments k m.params c.args) (result_sort m.result)
called_sort c k None = Faulty

-- the sort of a call
abbrev pub call_sort : Call-F Sorted Sorted Sorted Sorted → Sorted
call_sort c k = called_sort c k (slice_get k.unit.methods c.method)

-- `.has` of a `\reach` of this sort asks for an object of its class, or for null
abbrev pub has_sort : Sort → Sort → Sort
has_sort (Of k) s = where_ (suits k s) (Of Flag)
has_sort _ s = Faulty

-- `.int_size` of a `\reach` of this sort
abbrev pub size_sort : Sort → Sort
size_sort (Of k) = Of Int
size_sort _ = Faulty

-- the sort, in a clause alone
abbrev pub in_clause : Form → Sort → Sort
in_clause Code s = Faulty
in_clause _ s = s

-- the sort, in code alone
abbrev pub in_code : Form → Sort → Sort
in_code Code s = s
in_code _ s = Faulty

-- the sort, in an `ensures` clause outside its `\old` alone
abbrev pub in_exit : Form → Sort → Sort
in_exit Exit s = s
in_exit _ s = Faulty

-- the sort of an operator's result: `==>` and `<==>` stand in clauses alone
abbrev pub operator_sort : Op → Form → Sort → Sort
operator_sort op.Implies form s = in_clause form s
operator_sort op.Iff form s = in_clause form s
operator_sort o form s = s

-- the sort of an object of the class, where there is one
abbrev pub sort_of_class : Option ℕ → Sort
sort_of_class (Some c) = Of (Ref c)
sort_of_class None = Faulty

-- the sort of an expression, by cases on its form
abbrev pub sort_step : Expr-F Sorted Sorted Sorted Sorted → Sorted
sort_step (Expr-F.Num n) k = Of Int
sort_step (Expr-F.Flag b) k = Of Flag
sort_step Expr-F.Null k = NullOnly
sort_step Expr-F.This k = sort_of_class k.this
sort_step Expr-F.Result k = in_exit k.form (sort_of_kind k.result)
sort_step (Expr-F.Local i) k = sort_of_kind (slice_get k.locals i)
sort_step (Expr-F.Bound i) k = sort_of_class (slice_get k.bound i)
sort_step (Expr-F.Read a f) k = field_sort (slice_get k.unit.fields f) (a k)
sort_step (Expr-F.Neg a) k = where_ (suits Int (a k)) (Of Int)
sort_step (Expr-F.Not a) k = where_ (suits Flag (a k)) (Of Flag)
sort_step (Expr-F.Bin o a b) k = operator_sort o k.form (binary_sort o (a k) (b k))
sort_step (Expr-F.Quant q) k = in_clause k.form (q k)
sort_step (Expr-F.Old a) k = in_exit k.form (a (past k))
sort_step (Expr-F.Has r a) k = in_clause k.form (has_sort (r k) (a k))
sort_step (Expr-F.Size r) k = in_clause k.form (size_sort (r k))
sort_step (Expr-F.New c) k = in_code k.form (where_ (nat_lt c (length k.unit.classes)) (Of (Ref c)))
sort_step (Expr-F.Call c) k = in_code k.form (c k)

-- the sort of an expression
abbrev pub sort_of : Expr → Sorted
sort_of = fold-Expr Sorted Sorted Sorted Sorted sort_step call_sort quant_sort reach_sort

-- an expression that can be tested
abbrev pub is_condition : Around → Expr → Bool
is_condition k e = suits Flag (sort_of e k)
