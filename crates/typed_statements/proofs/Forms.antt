-- What is reported of a statement follows from what is reported of its parts.
use Rattle.std.proofs.Common.{◌≡◌, ℕ, Bool, true, false, List, [], ◌∷◌, ◌++◌, Option, None, Some, Result, Ok, refl, ap, ◌∙◌}
use Rattle.std.specs.Prelude.{option_map}
use Rattle.java_tree.specs.Trees.{Expr, Decl, Stmts, done, next}
use Rattle.taco_unit.specs.declared.stmt.Stmt.{Stmt as UnitStmt}
use Rattle.declared_names.specs.declared.fault.Fault.{Fault}
use Rattle.declared_names.specs.declared.sort.Sort.{Sort}
use Rattle.declared_names.specs.declared.world.World.{World}
use Rattle.declared_names.specs.declared.world.Here.{Here}
use Rattle.declared_names.specs.declared.world.Declared.{Declared}
use Rattle.declared_names.specs.Seen.{Seen, Stands, over_two, told, on_two}
use Rattle.declared_names.specs.Lookups.{in_body}
use Rattle.typed_expressions.specs.Expressions.{seen}
use Rattle.declared_names.proofs.Told.{told-over, told-over_two, told-beside, told-stands}
use Rattle.typed_statements.specs.Statements.{State, Ended, is_full, as_list, first_set, seen_decl, seen_decls, seen_stmt, seen_stmts, initial, skipped, returned, return_of}
use Rattle.typed_statements.specs.Reported.{first_reported, return_reported, Turn, turn, skip_told, decls_told, stmts_told}

pub told-first_set : (w : World) (h : Here) (sort : Sort) (a : Option Expr) (n : ℕ) (held : List Declared) → told (first_set w h sort a n held) ≡ first_reported sort n (option_map (λ x. told (seen x (in_body w h held))) a)
told-first_set w h sort None n held = refl
told-first_set w h sort (Some a) n held = told-over (seen a (in_body w h held)) (initial n sort)

pub ruleset declarations = (told-first_set, told-beside)

-- so is what is reported of a list of them
of_skipped : {A : Type 0} (b : Bool) (st : State) (s : Seen A) (e : Ended A) (t : Turn A) → e.state ≡ t.state → told e.is ≡ t.is
    → ((skipped b st s e).state ≡ (skip_told b st (told s) t).state) × (told (skipped b st s e).is ≡ (skip_told b st (told s) t).is)
of_skipped true st s e t p q = (refl, refl)
of_skipped false st s e t p q = (p, q)

both_decls : (w : World) (h : Here) (sort : Sort) (ds : List Decl) (st : State) (s : Seen (List UnitStmt)) → ((seen_decls w h sort ds st s).state ≡ (decls_told w h sort ds st (told s)).state) × (told (seen_decls w h sort ds st s).is ≡ (decls_told w h sort ds st (told s)).is)
both_decls w h sort [] st s = (refl, refl)
both_decls w h sort (d ∷ ds) st s =
    let t : Seen (List UnitStmt) = over_two s (seen_decl w h sort d st).is (λ xs x. Stands (xs ++ x ∷ [])) in
    let st' : State = (seen_decl w h sort d st).state in
    let e = told-over_two s (seen_decl w h sort d st).is (λ xs x. Stands (xs ++ x ∷ [])) in
    let rest = both_decls w h sort ds st' t in
    of_skipped (is_full st) st s (seen_decls w h sort ds st' t)
    (decls_told w h sort ds st' (on_two (told s) (told (seen_decl w h sort d st).is) (λ xs x. told (Stands (xs ++ x ∷ [])))))
    (rest.0 ∙ ap (λ r. (decls_told w h sort ds st' r).state) e) (rest.1 ∙ ap (λ r. (decls_told w h sort ds st' r).is) e)

pub decls-state : (w : World) (h : Here) (sort : Sort) (ds : List Decl) (st : State) → (seen_decls w h sort ds st (Stands [])).state ≡ (decls_told w h sort ds st (Ok [])).state
decls-state w h sort ds st = (both_decls w h sort ds st (Stands [])).0 ∙ ap (λ r. (decls_told w h sort ds st r).state) (told-stands [])

pub decls-is : (w : World) (h : Here) (sort : Sort) (ds : List Decl) (st : State) → told (seen_decls w h sort ds st (Stands [])).is ≡ (decls_told w h sort ds st (Ok [])).is
decls-is w h sort ds st = (both_decls w h sort ds st (Stands [])).1 ∙ ap (λ r. (decls_told w h sort ds st r).is) (told-stands [])

by_flag : {A : Type 0} (b : Bool) (st : State) (r : Result A Fault) (t : Turn A) → b ≡ true → skip_told b st r t ≡ turn st r
by_flag true st r t is = refl
by_flag false st r t is = absurd (cc)

-- behind the first local beyond the limit nothing is asked
pub decls_full : (w : World) (h : Here) (sort : Sort) (d : Decl) (ds : List Decl) (st : State) (r : Result (List UnitStmt) Fault) → is_full st ≡ true → decls_told w h sort (d ∷ ds) st r ≡ turn st r
decls_full w h sort d ds st r is =
    by_flag (is_full st) st r (decls_told w h sort ds (seen_decl w h sort d st).state (on_two r (told (seen_decl w h sort d st).is) (λ xs x. told (Stands (xs ++ x ∷ []))))) is

both_stmts : (w : World) (h : Here) (depth : ℕ) (ss : Stmts) (st : State) (s : Seen (List UnitStmt)) → ((seen_stmts w h depth ss st s).state ≡ (stmts_told w h depth ss st (told s)).state) × (told (seen_stmts w h depth ss st s).is ≡ (stmts_told w h depth ss st (told s)).is)
unfolding seen_stmts
both_stmts w h depth done st s = (refl, refl)
both_stmts w h depth (next a more) st s =
    let t : Seen (List UnitStmt) = over_two s (seen_stmt w h depth a st).is (λ xs p. Stands (xs ++ as_list p)) in
    let st' : State = (seen_stmt w h depth a st).state in
    let e = told-over_two s (seen_stmt w h depth a st).is (λ xs p. Stands (xs ++ as_list p)) in
    let rest = both_stmts w h depth more st' t in
    (rest.0 ∙ ap (λ r. (stmts_told w h depth more st' r).state) e, rest.1 ∙ ap (λ r. (stmts_told w h depth more st' r).is) e)

pub stmts-state : (w : World) (h : Here) (depth : ℕ) (ss : Stmts) (st : State) → (seen_stmts w h depth ss st (Stands [])).state ≡ (stmts_told w h depth ss st (Ok [])).state
stmts-state w h depth ss st = (both_stmts w h depth ss st (Stands [])).0 ∙ ap (λ r. (stmts_told w h depth ss st r).state) (told-stands [])

pub stmts-is : (w : World) (h : Here) (depth : ℕ) (ss : Stmts) (st : State) → told (seen_stmts w h depth ss st (Stands [])).is ≡ (stmts_told w h depth ss st (Ok [])).is
stmts-is w h depth ss st = (both_stmts w h depth ss st (Stands [])).1 ∙ ap (λ r. (stmts_told w h depth ss st r).is) (told-stands [])

pub told-returned : (w : World) (h : Here) (st : State) (at : ℕ) (a : Option Expr) → told (returned w h st at a) ≡ return_reported h.result at (option_map (λ x. told (seen x (in_body w h st.held))) a)
told-returned w h st at None = refl
told-returned w h st at (Some a) = told-over (seen a (in_body w h st.held)) (return_of h.result)

pub ruleset returns = (told-returned)
