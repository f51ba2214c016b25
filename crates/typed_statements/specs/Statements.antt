-- Statements: what they are in the unit, or their faults. (Java Language Specification, "Blocks, Statements, and Patterns".)
use Rattle.std.specs.Prelude.{ℕ, pos, min, ◌+◌, ◌==◌, nat_lt, Bool, true, false, not, List, [], ◌∷◌, ◌++◌, length, take, Option, None, Some, is_none}
use Rattle.java_tree.specs.declared.names.Ident.{Ident}
use Rattle.java_tree.specs.declared.names.Modifier.{Modifier}
use Rattle.java_tree.specs.declared.names.TypeTree.{TypeTree}
use Rattle.java_tree.specs.Trees.{Expr, Decl, Stmt, block, blank, if_only, if_else, loops, gives_back, local, set, step, run, Stmts, done, next}
use Rattle.taco_unit.specs.declared.expr.Expr.{Expr as UnitExpr}
use Rattle.taco_unit.specs.declared.expr.Expr.TheVariants as e
use Rattle.taco_unit.specs.declared.stmt.Stmt.{Stmt as UnitStmt}
use Rattle.taco_unit.specs.declared.stmt.Stmt.TheVariants as s
use Rattle.declared_names.specs.declared.fault.Fault.{Fault}
use Rattle.refusals.specs.declared.refusal.Many.TheVariants.{Locals, Loops}
use Rattle.declared_names.specs.declared.fault.Cause.TheVariants.{Twice, Kinds, TooMany}
use Rattle.declared_names.specs.declared.sort.Sort.{Sort}
use Rattle.declared_names.specs.declared.sort.Sort.TheVariants.{Loose, Null, Int, Flag, Object}
use Rattle.typed_forms.specs.declared.typed.Typed.{Typed}
use Rattle.typed_forms.specs.declared.typed.Place.{Place}
use Rattle.typed_forms.specs.declared.typed.Spot.{Spot}
use Rattle.typed_forms.specs.declared.typed.Spot.TheVariants as spot
use Rattle.typed_forms.specs.declared.typed.Called.{Called}
use Rattle.declared_names.specs.declared.world.World.{World}
use Rattle.declared_names.specs.declared.world.Here.{Here}
use Rattle.declared_names.specs.declared.world.Declared.{Declared}
use Rattle.declared_names.specs.Faults.{check, fault}
use Rattle.declared_names.specs.Seen.{Seen, Stands, over, over_two, unless, beside}
use Rattle.declared_names.specs.Lookups.{local_slot, in_body}
use Rattle.typed_forms.specs.Operators.{wanted, wants}
use Rattle.typed_forms.specs.Calls.{byte}
use Rattle.typed_expressions.specs.Expressions.{seen, seen_call, seen_target}
use Rattle.typed_statements.specs.declared.statements.Branch.{Branch}
use Rattle.typed_statements.specs.declared.statements.Piece.{Piece}
use Rattle.typed_statements.specs.declared.statements.Piece.TheVariants.{One, Many}
use Rattle.typed_statements.specs.Heads.{type_sort, typed_faults}

-- the locals in scope, and the kinds of all that the method has declared so far
pub record State : Type 0 where
  pub held : List Declared
  pub sorts : List Sort

-- what a part of a body is seen to be, and the locals behind it
pub record Ended (A : Type 0) : Type 0 where
  pub state : State
  pub is : Seen A

abbrev pub ended : {A : Type 0} → State → Seen A → Ended A
ended st is = record { state = st; is = is }

-- at the end of a block its locals leave the scope
abbrev pub closed : State → State → State
closed before after = record { held = take (length before.held) after.held; sorts = after.sorts }

-- behind the first local beyond the limit nothing is asked: a fault there has a greater place
abbrev pub is_full : State → Bool
is_full st = nat_lt 32 (length st.sorts)

abbrev pub as_stmt : Piece → UnitStmt
as_stmt (One x) = x
as_stmt (Many xs) = s.Block xs

abbrev pub as_list : Piece → List UnitStmt
as_list (One x) = x ∷ []
as_list (Many xs) = xs

abbrev pub branch : UnitExpr → Piece → Branch
branch x p = record { test = x; under = as_stmt p }

-- VALUES

abbrev pub condition_of : Typed → Seen UnitExpr
condition_of x = unless (wants Flag x) x.expr

abbrev pub assigned : Spot → UnitExpr → UnitStmt
assigned (spot.Local n) x = s.Set n x
assigned (spot.Field o f) x = s.Write o f x

-- a value goes to a place of its kind
abbrev pub set_of : Place → Typed → Seen Piece
set_of p x = unless (wants p.sort x) (One (assigned p.spot x.expr))

abbrev pub counted : Spot → Bool → UnitStmt
counted (spot.Local n) up = s.StepLocal n up
counted (spot.Field o f) up = s.StepField o f up

-- `++` and `--` count a number
abbrev pub step_of : Bool → Place → Seen Piece
step_of up p = unless (wanted Int p.at p.sort) (One (counted p.spot up))

abbrev pub run_of : Called → Seen Piece
run_of c = Stands (One (s.Run c.call))

-- a method without a result gives no value
abbrev pub given_faults : Option Sort → Typed → List Fault
given_faults (Some sort) x = wants sort x
given_faults None x = fault x.at Kinds ∷ []

abbrev pub return_of : Option Sort → Typed → Seen Piece
return_of result x = unless (given_faults result x) (One (s.Return (Some x.expr)))

-- and one with a result gives one
abbrev pub return_none : Option Sort → ℕ → Seen Piece
return_none result at = unless (check (is_none result) at Kinds) (One (s.Return None))

abbrev pub returned : World → Here → State → ℕ → Option Expr → Seen Piece
returned w h st at None = return_none h.result at
returned w h st at (Some a) = over (seen a (in_body w h st.held)) (return_of h.result)

-- DECLARATIONS

-- what a local is set to that is declared without a value
abbrev pub first_value : Sort → UnitExpr
first_value Loose = e.Null
first_value Null = e.Null
first_value Int = e.Num (pos 0)
first_value Flag = e.Flag false
first_value (Object c) = e.Null

-- locals are numbered behind the parameters, by their declarations in text order
abbrev pub number_of : Here → State → ℕ
number_of h st = byte (length h.sorts) + length st.sorts

abbrev pub with_local : Here → Sort → Ident → State → State
with_local h sort i st =
    record { held = st.held ++ record { name = i.text; sort = sort; number = number_of h st } ∷ []; sorts = st.sorts ++ sort ∷ [] }

-- a name that a local in scope or a parameter has; the first local beyond the limit
abbrev pub local_faults : Here → Ident → State → List Fault
local_faults h i st = check (is_none (local_slot h st.held i.text)) i.at Twice ++ check (not (length st.sorts == 32)) i.at (TooMany Locals)

abbrev pub initial : ℕ → Sort → Typed → Seen UnitStmt
initial n sort x = unless (wants sort x) (s.Set (byte n) x.expr)

-- the scope of a local holds its own first value
abbrev pub first_set : World → Here → Sort → Option Expr → ℕ → List Declared → Seen UnitStmt
first_set w h sort None n held = Stands (s.Set (byte n) (first_value sort))
first_set w h sort (Some a) n held = over (seen a (in_body w h held)) (initial n sort)

abbrev pub seen_decl : World → Here → Sort → Decl → State → Ended UnitStmt
seen_decl w h sort d st =
    ended (with_local h sort d.name st)
    (beside (local_faults h d.name st) (first_set w h sort d.value (number_of h st) (with_local h sort d.name st).held))

abbrev pub skipped : {A : Type 0} → Bool → State → Seen A → Ended A → Ended A
skipped true st was ran = ended st was
skipped false st was ran = ran

abbrev pub seen_decls : World → Here → Sort → List Decl → State → Seen (List UnitStmt) → Ended (List UnitStmt)
seen_decls w h sort [] st so_far = ended st so_far
seen_decls w h sort (d ∷ ds) st so_far =
    skipped (is_full st) st so_far
    (seen_decls w h sort ds (seen_decl w h sort d st).state (over_two so_far (seen_decl w h sort d st).is (λ xs x. Stands (xs ++ x ∷ []))))

-- a declaration of locals is one assignment for each
abbrev pub seen_local : World → Here → List Modifier → TypeTree → List Decl → State → Ended Piece
seen_local w h mods kind ds st =
    ended (seen_decls w h (type_sort w.classes kind) ds st (Stands [])).state
    (beside (typed_faults w.classes mods kind) (over (seen_decls w h (type_sort w.classes kind) ds st (Stands [])).is (λ xs. Stands (Many xs))))

-- STATEMENTS; `depth` is the number of loops around, as far as it matters

abbrev pub deeper : ℕ → ℕ
deeper depth = min (depth + 1) 5

-- the first loop beyond the limit
abbrev pub many_loops : ℕ → ℕ → List Fault
many_loops depth at = check (not (depth == 4)) at (TooMany Loops)

abbrev pub nothing : Piece
nothing = One (s.Block [])

-- statements in braces
abbrev pub block_of : State → Ended (List UnitStmt) → Ended Piece
block_of st inner = ended (closed st inner.state) (over inner.is (λ xs. Stands (One (s.Block xs))))

-- a condition with the statement under it, which is a block of its own
abbrev pub branch_of : World → Here → Expr → State → Ended Piece → Ended Branch
branch_of w h c st under = ended (closed st under.state) (over_two (over (seen c (in_body w h st.held)) condition_of) under.is (λ x p. Stands (branch x p)))

abbrev pub if_of : Ended Branch → Ended Piece
if_of first = ended first.state (over first.is (λ b. Stands (One (s.If b.test b.under (s.Block [])))))

abbrev pub else_of : State → Ended Branch → Ended Piece → Ended Piece
else_of st first other = ended (closed st other.state) (over_two first.is other.is (λ b p. Stands (One (s.If b.test b.under (as_stmt p)))))

abbrev pub while_of : ℕ → ℕ → Ended Branch → Ended Piece
while_of depth at first = ended first.state (beside (many_loops depth at) (over first.is (λ b. Stands (One (s.While b.test b.under)))))

unfoldable mutual
  -- a statement: what it becomes, and the locals behind it
  pub seen_stmt : World → Here → ℕ → Stmt → State → Ended Piece
  seen_stmt w h depth (block ss) st = skipped (is_full st) st (Stands nothing) (block_of st (seen_stmts w h depth ss st (Stands [])))
  seen_stmt w h depth blank st = ended st (Stands nothing)
  seen_stmt w h depth (if_only c a) st = skipped (is_full st) st (Stands nothing) (if_of (branch_of w h c st (seen_stmt w h depth a st)))
  seen_stmt w h depth (if_else c a b) st =
      skipped (is_full st) st (Stands nothing)
      (else_of st (branch_of w h c st (seen_stmt w h depth a st)) (seen_stmt w h depth b (branch_of w h c st (seen_stmt w h depth a st)).state))
  seen_stmt w h depth (loops at c a) st = skipped (is_full st) st (Stands nothing) (while_of depth at (branch_of w h c st (seen_stmt w h (deeper depth) a st)))
  seen_stmt w h depth (gives_back at a) st = skipped (is_full st) st (Stands nothing) (ended st (returned w h st at a))
  seen_stmt w h depth (local mods kind ds) st = skipped (is_full st) st (Stands nothing) (seen_local w h mods kind ds st)
  seen_stmt w h depth (set a b) st =
      skipped (is_full st) st (Stands nothing) (ended st (over_two (seen_target a (in_body w h st.held)) (seen b (in_body w h st.held)) set_of))
  seen_stmt w h depth (step a up) st = skipped (is_full st) st (Stands nothing) (ended st (over (seen_target a (in_body w h st.held)) (step_of up)))
  seen_stmt w h depth (run a) st = skipped (is_full st) st (Stands nothing) (ended st (over (seen_call a (in_body w h st.held)) run_of))

  -- statements, one behind the other
  pub seen_stmts : World → Here → ℕ → Stmts → State → Seen (List UnitStmt) → Ended (List UnitStmt)
  seen_stmts w h depth done st so_far = ended st so_far
  seen_stmts w h depth (next a more) st so_far =
      seen_stmts w h depth more (seen_stmt w h depth a st).state (over_two so_far (seen_stmt w h depth a st).is (λ xs p. Stands (xs ++ as_list p)))

-- the body of a method, and its locals
abbrev pub seen_body : World → Here → Stmts → Ended (List UnitStmt)
seen_body w h ss = seen_stmts w h 0 ss (record { held = []; sorts = [] }) (Stands [])
