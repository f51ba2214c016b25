-- One equation for each form of statement, where the method is not full.
use Rattle.std.proofs.Common.{◌≡◌, ℕ, Bool, true, false, List, [], Option, refl, ap}
use Rattle.java_tree.specs.declared.names.Modifier.{Modifier}
use Rattle.java_tree.specs.declared.names.TypeTree.{TypeTree}
use Rattle.java_tree.specs.Trees.{Expr, Decl, Stmt, block, blank, if_only, if_else, loops, gives_back, local, set, step, run, Stmts}
use Rattle.declared_names.specs.declared.world.World.{World}
use Rattle.declared_names.specs.declared.world.Here.{Here}
use Rattle.declared_names.specs.Seen.{Seen, Stands, over, over_two}
use Rattle.declared_names.specs.Lookups.{in_body}
use Rattle.typed_expressions.specs.Expressions.{seen, seen_call, seen_target}
use Rattle.java_tree.specs.declared.statements.StmtTree.TheViews.{the_lemmas as stmt_lemmas}
use Rattle.declared_names.proofs.Told.{wholes}
use Rattle.typed_statements.specs.Statements.{State, Ended, ended, is_full, skipped, nothing, deeper, block_of, branch_of, if_of, else_of, while_of, seen_stmt, seen_stmts, seen_local, returned, set_of, step_of, run_of}

goes_on : {A : Type 0} (b : Bool) (st : State) (was : Seen A) (ran : Ended A) → b ≡ false → skipped b st was ran ≡ ran
goes_on true st was ran is = absurd (cc)
goes_on false st was ran is = refl

stops : {A : Type 0} (b : Bool) (st : State) (was : Seen A) (ran : Ended A) → b ≡ true → skipped b st was ran ≡ ended st was
stops true st was ran is = refl
stops false st was ran is = absurd (cc)

-- where the method is full, nothing is asked
pub full_state : (w : World) (h : Here) (n : ℕ) (a : Stmt) (st : State) → is_full st ≡ true → (seen_stmt w h n a st).state ≡ st
unfolding seen_stmt
full_state w h n (block ss) st is = ap (λ e. e.state) (stops (is_full st) st (Stands nothing) _ is)
full_state w h n blank st is = refl
full_state w h n (if_only c a) st is = ap (λ e. e.state) (stops (is_full st) st (Stands nothing) _ is)
full_state w h n (if_else c a b) st is = ap (λ e. e.state) (stops (is_full st) st (Stands nothing) _ is)
full_state w h n (loops at c a) st is = ap (λ e. e.state) (stops (is_full st) st (Stands nothing) _ is)
full_state w h n (gives_back at a) st is = ap (λ e. e.state) (stops (is_full st) st (Stands nothing) _ is)
full_state w h n (local mods kind ds) st is = ap (λ e. e.state) (stops (is_full st) st (Stands nothing) _ is)
full_state w h n (set a b) st is = ap (λ e. e.state) (stops (is_full st) st (Stands nothing) _ is)
full_state w h n (step a up) st is = ap (λ e. e.state) (stops (is_full st) st (Stands nothing) _ is)
full_state w h n (run a) st is = ap (λ e. e.state) (stops (is_full st) st (Stands nothing) _ is)

pub full_is : (w : World) (h : Here) (n : ℕ) (a : Stmt) (st : State) → is_full st ≡ true → (seen_stmt w h n a st).is ≡ Stands nothing
unfolding seen_stmt
full_is w h n (block ss) st is = ap (λ e. e.is) (stops (is_full st) st (Stands nothing) _ is)
full_is w h n blank st is = refl
full_is w h n (if_only c a) st is = ap (λ e. e.is) (stops (is_full st) st (Stands nothing) _ is)
full_is w h n (if_else c a b) st is = ap (λ e. e.is) (stops (is_full st) st (Stands nothing) _ is)
full_is w h n (loops at c a) st is = ap (λ e. e.is) (stops (is_full st) st (Stands nothing) _ is)
full_is w h n (gives_back at a) st is = ap (λ e. e.is) (stops (is_full st) st (Stands nothing) _ is)
full_is w h n (local mods kind ds) st is = ap (λ e. e.is) (stops (is_full st) st (Stands nothing) _ is)
full_is w h n (set a b) st is = ap (λ e. e.is) (stops (is_full st) st (Stands nothing) _ is)
full_is w h n (step a up) st is = ap (λ e. e.is) (stops (is_full st) st (Stands nothing) _ is)
full_is w h n (run a) st is = ap (λ e. e.is) (stops (is_full st) st (Stands nothing) _ is)

pub blank_state : (w : World) (h : Here) (n : ℕ) (st : State) → (seen_stmt w h n blank st).state ≡ st
unfolding seen_stmt
blank_state w h n st = refl

pub blank_is : (w : World) (h : Here) (n : ℕ) (st : State) → (seen_stmt w h n blank st).is ≡ Stands nothing
unfolding seen_stmt
blank_is w h n st = refl

pub block_state : (w : World) (h : Here) (n : ℕ) (ss : Stmts) (st : State) → is_full st ≡ false → (seen_stmt w h n (block ss) st).state ≡ (block_of st (seen_stmts w h n ss st (Stands []))).state
unfolding seen_stmt
block_state w h n ss st is = ap (λ e. e.state) (goes_on (is_full st) st (Stands nothing) (block_of st (seen_stmts w h n ss st (Stands []))) is)

pub block_is : (w : World) (h : Here) (n : ℕ) (ss : Stmts) (st : State) → is_full st ≡ false → (seen_stmt w h n (block ss) st).is ≡ (block_of st (seen_stmts w h n ss st (Stands []))).is
unfolding seen_stmt
block_is w h n ss st is = ap (λ e. e.is) (goes_on (is_full st) st (Stands nothing) (block_of st (seen_stmts w h n ss st (Stands []))) is)

pub if_only_state : (w : World) (h : Here) (n : ℕ) (c : Expr) (a : Stmt) (st : State) → is_full st ≡ false → (seen_stmt w h n (if_only c a) st).state ≡ (if_of (branch_of w h c st (seen_stmt w h n a st))).state
unfolding seen_stmt
if_only_state w h n c a st is = ap (λ e. e.state) (goes_on (is_full st) st (Stands nothing) (if_of (branch_of w h c st (seen_stmt w h n a st))) is)

pub if_only_is : (w : World) (h : Here) (n : ℕ) (c : Expr) (a : Stmt) (st : State) → is_full st ≡ false → (seen_stmt w h n (if_only c a) st).is ≡ (if_of (branch_of w h c st (seen_stmt w h n a st))).is
unfolding seen_stmt
if_only_is w h n c a st is = ap (λ e. e.is) (goes_on (is_full st) st (Stands nothing) (if_of (branch_of w h c st (seen_stmt w h n a st))) is)

pub if_else_state : (w : World) (h : Here) (n : ℕ) (c : Expr) (a b : Stmt) (st : State) → is_full st ≡ false → (seen_stmt w h n (if_else c a b) st).state ≡ (else_of st (branch_of w h c st (seen_stmt w h n a st)) (seen_stmt w h n b (branch_of w h c st (seen_stmt w h n a st)).state)).state
unfolding seen_stmt
if_else_state w h n c a b st is = ap (λ e. e.state) (goes_on (is_full st) st (Stands nothing) (else_of st (branch_of w h c st (seen_stmt w h n a st)) (seen_stmt w h n b (branch_of w h c st (seen_stmt w h n a st)).state)) is)

pub if_else_is : (w : World) (h : Here) (n : ℕ) (c : Expr) (a b : Stmt) (st : State) → is_full st ≡ false → (seen_stmt w h n (if_else c a b) st).is ≡ (else_of st (branch_of w h c st (seen_stmt w h n a st)) (seen_stmt w h n b (branch_of w h c st (seen_stmt w h n a st)).state)).is
unfolding seen_stmt
if_else_is w h n c a b st is = ap (λ e. e.is) (goes_on (is_full st) st (Stands nothing) (else_of st (branch_of w h c st (seen_stmt w h n a st)) (seen_stmt w h n b (branch_of w h c st (seen_stmt w h n a st)).state)) is)

pub loops_state : (w : World) (h : Here) (n : ℕ) (at : ℕ) (c : Expr) (a : Stmt) (st : State) → is_full st ≡ false → (seen_stmt w h n (loops at c a) st).state ≡ (while_of n at (branch_of w h c st (seen_stmt w h (deeper n) a st))).state
unfolding seen_stmt
loops_state w h n at c a st is = ap (λ e. e.state) (goes_on (is_full st) st (Stands nothing) (while_of n at (branch_of w h c st (seen_stmt w h (deeper n) a st))) is)

pub loops_is : (w : World) (h : Here) (n : ℕ) (at : ℕ) (c : Expr) (a : Stmt) (st : State) → is_full st ≡ false → (seen_stmt w h n (loops at c a) st).is ≡ (while_of n at (branch_of w h c st (seen_stmt w h (deeper n) a st))).is
unfolding seen_stmt
loops_is w h n at c a st is = ap (λ e. e.is) (goes_on (is_full st) st (Stands nothing) (while_of n at (branch_of w h c st (seen_stmt w h (deeper n) a st))) is)

pub gives_back_state : (w : World) (h : Here) (n : ℕ) (at : ℕ) (a : Option Expr) (st : State) → is_full st ≡ false → (seen_stmt w h n (gives_back at a) st).state ≡ (ended st (returned w h st at a)).state
unfolding seen_stmt
gives_back_state w h n at a st is = ap (λ e. e.state) (goes_on (is_full st) st (Stands nothing) (ended st (returned w h st at a)) is)

pub gives_back_is : (w : World) (h : Here) (n : ℕ) (at : ℕ) (a : Option Expr) (st : State) → is_full st ≡ false → (seen_stmt w h n (gives_back at a) st).is ≡ (ended st (returned w h st at a)).is
unfolding seen_stmt
gives_back_is w h n at a st is = ap (λ e. e.is) (goes_on (is_full st) st (Stands nothing) (ended st (returned w h st at a)) is)

pub local_state : (w : World) (h : Here) (n : ℕ) (mods : List Modifier) (kind : TypeTree) (ds : List Decl) (st : State) → is_full st ≡ false → (seen_stmt w h n (local mods kind ds) st).state ≡ (seen_local w h mods kind ds st).state
unfolding seen_stmt
local_state w h n mods kind ds st is = ap (λ e. e.state) (goes_on (is_full st) st (Stands nothing) (seen_local w h mods kind ds st) is)

pub local_is : (w : World) (h : Here) (n : ℕ) (mods : List Modifier) (kind : TypeTree) (ds : List Decl) (st : State) → is_full st ≡ false → (seen_stmt w h n (local mods kind ds) st).is ≡ (seen_local w h mods kind ds st).is
unfolding seen_stmt
local_is w h n mods kind ds st is = ap (λ e. e.is) (goes_on (is_full st) st (Stands nothing) (seen_local w h mods kind ds st) is)

pub set_state : (w : World) (h : Here) (n : ℕ) (a b : Expr) (st : State) → is_full st ≡ false → (seen_stmt w h n (set a b) st).state ≡ (ended st (over_two (seen_target a (in_body w h st.held)) (seen b (in_body w h st.held)) set_of)).state
unfolding seen_stmt
set_state w h n a b st is = ap (λ e. e.state) (goes_on (is_full st) st (Stands nothing) (ended st (over_two (seen_target a (in_body w h st.held)) (seen b (in_body w h st.held)) set_of)) is)

pub set_is : (w : World) (h : Here) (n : ℕ) (a b : Expr) (st : State) → is_full st ≡ false → (seen_stmt w h n (set a b) st).is ≡ (ended st (over_two (seen_target a (in_body w h st.held)) (seen b (in_body w h st.held)) set_of)).is
unfolding seen_stmt
set_is w h n a b st is = ap (λ e. e.is) (goes_on (is_full st) st (Stands nothing) (ended st (over_two (seen_target a (in_body w h st.held)) (seen b (in_body w h st.held)) set_of)) is)

pub step_state : (w : World) (h : Here) (n : ℕ) (a : Expr) (up : Bool) (st : State) → is_full st ≡ false → (seen_stmt w h n (step a up) st).state ≡ (ended st (over (seen_target a (in_body w h st.held)) (step_of up))).state
unfolding seen_stmt
step_state w h n a up st is = ap (λ e. e.state) (goes_on (is_full st) st (Stands nothing) (ended st (over (seen_target a (in_body w h st.held)) (step_of up))) is)

pub step_is : (w : World) (h : Here) (n : ℕ) (a : Expr) (up : Bool) (st : State) → is_full st ≡ false → (seen_stmt w h n (step a up) st).is ≡ (ended st (over (seen_target a (in_body w h st.held)) (step_of up))).is
unfolding seen_stmt
step_is w h n a up st is = ap (λ e. e.is) (goes_on (is_full st) st (Stands nothing) (ended st (over (seen_target a (in_body w h st.held)) (step_of up))) is)

pub run_state : (w : World) (h : Here) (n : ℕ) (a : Expr) (st : State) → is_full st ≡ false → (seen_stmt w h n (run a) st).state ≡ (ended st (over (seen_call a (in_body w h st.held)) run_of)).state
unfolding seen_stmt
run_state w h n a st is = ap (λ e. e.state) (goes_on (is_full st) st (Stands nothing) (ended st (over (seen_call a (in_body w h st.held)) run_of)) is)

pub run_is : (w : World) (h : Here) (n : ℕ) (a : Expr) (st : State) → is_full st ≡ false → (seen_stmt w h n (run a) st).is ≡ (ended st (over (seen_call a (in_body w h st.held)) run_of)).is
unfolding seen_stmt
run_is w h n a st is = ap (λ e. e.is) (goes_on (is_full st) st (Stands nothing) (ended st (over (seen_call a (in_body w h st.held)) run_of)) is)

-- all forms
pub ruleset arms = (full_state, full_is, blank_state, blank_is, block_state, block_is, if_only_state, if_only_is, if_else_state, if_else_is, loops_state, loops_is, gives_back_state, gives_back_is, local_state, local_is, set_state, set_is, step_state, step_is, run_state, run_is, wholes, stmt_lemmas)
