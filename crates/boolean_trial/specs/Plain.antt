-- Plain methods: static, over truth values alone, with one `return` as the body.
use Rattle.std.specs.Prelude.{◌≡◌, ℕ, nat_lt, ◌&&◌, Bool, true, false, List, [], ◌∷◌, length, map, slice_get, Some, option_map}
use Rattle.std.specs.List.{list_all}
use Rattle.taco_unit.specs.declared.kind.Kind.TheVariants as kind
use Rattle.taco_unit.specs.declared.expr.Op.{Op}
use Rattle.taco_unit.specs.declared.expr.Op.TheVariants as op
use Rattle.taco_unit.specs.declared.expr.Expr.{Expr, fold-Expr}
use Rattle.taco_unit.specs.declared.expr.Expr.TheOpen.{Expr-F}
use Rattle.taco_unit.specs.declared.stmt.Stmt.TheVariants as s
use Rattle.taco_unit.specs.declared.unit.Clause.{Clause}
use Rattle.taco_unit.specs.declared.unit.MethodDef.{MethodDef}
use Rattle.taco_unit.specs.Kinds.{Form, Code, Entry, Exit, same_kind}
use Rattle.taco_unit.specs.Parts.{Parts}

-- an operator on truth values that gives a truth value: `==>` and `<==>` stand in clauses alone
abbrev pub is_logical : Form → Op → Bool
is_logical form op.Eq = true
is_logical form op.Ne = true
is_logical form op.And = true
is_logical form op.Or = true
is_logical Code op.Implies = false
is_logical form op.Implies = true
is_logical Code op.Iff = false
is_logical form op.Iff = true
is_logical form _ = false

-- `\result` stands in `ensures` clauses alone
abbrev pub has_result : Form → Bool
has_result Exit = true
has_result _ = false

-- by cases: truth values, one of so many parameters, the result where it stands, and logical operators
-- on these
abbrev pub Plainness : Type 0
Plainness = ℕ → Form → Bool

abbrev pub plain_step : Expr-F Plainness (Unit {0}) (Unit {0}) (Unit {0}) → Plainness
plain_step (Expr-F.Flag b) count form = true
plain_step (Expr-F.Local i) count form = nat_lt i count
plain_step Expr-F.Result count form = has_result form
plain_step (Expr-F.Not a) count form = a count form
plain_step (Expr-F.Bin o a b) count form = is_logical form o && a count form && b count form
plain_step _ count form = false

-- an expression over truth values alone
abbrev pub is_plain : Expr → Plainness
is_plain = fold-Expr Plainness (Unit {0}) (Unit {0}) (Unit {0}) plain_step (λ c. tt) (λ q. tt) (λ r. tt)

-- all of these clauses are plain
abbrev pub are_plain : ℕ → Form → List Clause → Bool
are_plain count form = list_all (λ c. is_plain c.expr count form)

-- a plain method: static, of truth values, without locals, whose body returns a plain value
pub record IsPlainMethod (m : MethodDef) : Type 0 where
  pub value : Expr
  pub fixed : m.fixed ≡ true
  pub params : list_all (λ p. same_kind p.kind kind.Flag) m.params ≡ true
  pub result : option_map (λ r. r.0) m.result ≡ Some kind.Flag
  pub no_locals : m.locals ≡ []
  pub body : m.body ≡ s.Block (s.Return (Some value) ∷ [])
  pub plain_value : is_plain value (length m.params) Code ≡ true
  pub needs : are_plain (length m.params) Entry m.needs ≡ true
  pub gives : are_plain (length m.params) Exit m.gives ≡ true

-- one class without fields and invariants, and this method, which is plain
pub record IsPlain (u : Parts) (method : ℕ) : Type 0 where
  pub def : MethodDef
  pub one_class : length u.classes ≡ 1
  pub no_fields : u.fields ≡ []
  pub no_invariants : map (λ c. c.invariants) u.classes ≡ map (λ c. []) u.classes
  pub there : slice_get u.methods method ≡ Some def
  pub plain : IsPlainMethod def
