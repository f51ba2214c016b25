-- The same meanings, by what is reported of the parts.
use Rattle.std.specs.Prelude.{ℕ, Bool, true, false, List, [], ◌∷◌, ◌++◌, Option, None, Some, Result}
use Rattle.java_tree.specs.Trees.{Decl, Stmts, done, next as next_stmt}
use Rattle.declared_names.specs.declared.world.World.{World}
use Rattle.declared_names.specs.declared.world.Here.{Here}
use Rattle.taco_unit.specs.declared.stmt.Stmt.{Stmt as UnitStmt}
use Rattle.declared_names.specs.declared.fault.Fault.{Fault}
use Rattle.declared_names.specs.declared.sort.Sort.{Sort}
use Rattle.typed_forms.specs.declared.typed.Typed.{Typed}
use Rattle.declared_names.specs.Seen.{Stands, told, on, on_two}
use Rattle.typed_statements.specs.declared.statements.Piece.{Piece}
use Rattle.typed_statements.specs.Statements.{State, is_full, as_list, seen_decl, seen_stmt, first_value, initial, return_none, return_of}
use Rattle.taco_unit.specs.declared.stmt.Stmt.TheVariants as s
use Rattle.typed_forms.specs.Calls.{byte}

-- the first value of a local
abbrev pub first_reported : Sort → ℕ → Option (Result Typed Fault) → Result UnitStmt Fault
first_reported sort n None = told (Stands (s.Set (byte n) (first_value sort)))
first_reported sort n (Some a) = on a (λ x. told (initial n sort x))

-- a returned value
abbrev pub return_reported : Option Sort → ℕ → Option (Result Typed Fault) → Result Piece Fault
return_reported result at None = told (return_none result at)
return_reported result at (Some a) = on a (λ x. told (return_of result x))

-- what is reported of a part of a body, and the locals behind it
pub record Turn (A : Type 0) : Type 0 where
  pub state : State
  pub is : Result A Fault

abbrev pub turn : {A : Type 0} → State → Result A Fault → Turn A
turn st is = record { state = st; is = is }

abbrev pub skip_told : {A : Type 0} → Bool → State → Result A Fault → Turn A → Turn A
skip_told true st was ran = turn st was
skip_told false st was ran = ran

-- declarations behind others
abbrev pub decls_told : World → Here → Sort → List Decl → State → Result (List UnitStmt) Fault → Turn (List UnitStmt)
decls_told w h sort [] st so_far = turn st so_far
decls_told w h sort (d ∷ ds) st so_far =
    skip_told (is_full st) st so_far
    (decls_told w h sort ds (seen_decl w h sort d st).state (on_two so_far (told (seen_decl w h sort d st).is) (λ xs x. told (Stands (xs ++ x ∷ [])))))

-- statements behind others
abbrev pub stmts_told : World → Here → ℕ → Stmts → State → Result (List UnitStmt) Fault → Turn (List UnitStmt)
stmts_told w h depth done st so_far = turn st so_far
stmts_told w h depth (next_stmt a more) st so_far =
    stmts_told w h depth more (seen_stmt w h depth a st).state (on_two so_far (told (seen_stmt w h depth a st).is) (λ xs p. told (Stands (xs ++ as_list p))))
