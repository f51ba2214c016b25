-- The statements of a body that stand fit.
use Rattle.std.proofs.Common.{◌≡◌, ◌≤◌, ◌<◌, ◌+◌, ℕ, zero, suc, Bool, true, false, List, [], ◌∷◌, ◌++◌, Option, None, Some, length, refl, ap, sym, ◌∙◌, subst, arith, lt-ltb, inl, inr}
use Rattle.std.specs.Prelude.{pos, map, slice_get, option_map, take, drop, ◌&&◌, nat_lt, is_some, ◌⊎◌}
use Rattle.std.proofs.lemmas.Option.{slice_get-map}
use Rattle.std.proofs.lemmas.Bool.{ltb-false}
use Rattle.std.proofs.lemmas.List.{length-map, take-append-drop}
use Rattle.java_tree.specs.declared.names.Ident.{Ident}
use Rattle.java_tree.specs.declared.names.Modifier.{Modifier}
use Rattle.java_tree.specs.declared.names.TypeTree.{TypeTree}
use Rattle.java_tree.specs.declared.names.TypeTree.TheVariants as type
use Rattle.java_tree.specs.Trees.{Expr as Tree, Decl, Stmt, block, blank, if_only, if_else, loops, gives_back, local, set, step, run, Stmts, done, next}
use Rattle.taco_unit.specs.declared.stmt.Stmt.{Stmt as UnitStmt}
use Rattle.taco_unit.specs.declared.stmt.Stmt.TheVariants as s
use Rattle.taco_unit.specs.Kinds.{Around, Of, sort_of, sort_of_kind, is_condition, is_kind_of}
use Rattle.taco_unit.specs.Parts.{Parts}
use Rattle.taco_unit.specs.Bodies.{takes, is_fitting}
use Rattle.taco_unit.proofs.KindForms.{sort_num, sort_flag, sort_null, fitting_set, fitting_if, fitting_while}
use Rattle.declared_names.specs.declared.fault.Cause.TheVariants.{Unknown}
use Rattle.declared_names.specs.declared.sort.Sort.{Sort}
use Rattle.declared_names.specs.declared.sort.Sort.TheVariants.{Loose, Null, Int, Flag, Object}
use Rattle.declared_names.specs.declared.world.World.{World}
use Rattle.declared_names.specs.declared.world.Here.{Here}
use Rattle.declared_names.specs.declared.world.Declared.{Declared}
use Rattle.declared_names.specs.declared.world.Form.TheVariants as form
use Rattle.declared_names.specs.Seen.{Seen, Stands, over, over_two}
use Rattle.declared_names.specs.Lookups.{place_in, in_body}
use Rattle.typed_forms.specs.Operators.{wants}
use Rattle.typed_forms.specs.Calls.{byte}
use Rattle.typed_forms.specs.Clauses.{class_sort}
use Rattle.typed_expressions.specs.Expressions.{seen, seen_call, seen_target}
use Rattle.typed_statements.specs.declared.statements.Branch.{Branch}
use Rattle.typed_statements.specs.declared.statements.Piece.{Piece}
use Rattle.typed_statements.specs.declared.statements.Piece.TheVariants.{One, Many}
use Rattle.typed_statements.specs.Kinds.{kind_of}
use Rattle.typed_statements.specs.Modifiers.{modifier_faults, nullness_faults, marks_of}
use Rattle.typed_statements.specs.Heads.{Names, type_sort, type_faults, typed_faults, is_object_type}
use Rattle.typed_statements.specs.Statements.{State, Ended, closed, is_full, skipped, as_stmt, as_list, branch, condition_of, set_of, step_of, run_of, returned, first_value, number_of, with_local, local_faults, initial, first_set, seen_decl, seen_decls, seen_local, deeper, many_loops, nothing, block_of, branch_of, if_of, else_of, while_of, seen_stmt, seen_stmts}
use Rattle.typed_statements.proofs.Stand.{OnStands, on_over, on_over_two, on_unless, on_beside, on_then, weaker, nothing_left, nothing_right, passes}
use Rattle.typed_statements.proofs.Suits.{is_kind, HasSort}
use Rattle.taco_unit.proofs.Lists.{append_last}
use Rattle.typed_statements.proofs.Agrees.{Knows, LocalAt, grown, kept}
use Rattle.typed_statements.proofs.CallKinds.{both_of, HasPlace, HasCall}
use Rattle.typed_statements.proofs.ExpressionKinds.{sorts, the_class}
use Rattle.typed_statements.proofs.Fitting.{Before, before_trans, decls_grow, stmt_grows, stmts_grow, Surrounds, Holds, all_both, agrees_in, tested, AllFit, one_fits, block_fits, as_stmt_fits, value_suits, set_fits, step_fits, run_fits, target_placed, call_gives, return_fits}

-- these statements fit, and what is known behind them
pub record Done (k : Around) (st : State) (xs : List UnitStmt) : Type 0 where
  pub fit : AllFit k xs
  pub holds : Holds k st

skip_fits : {A : Type 0} (P : State → A → Type 0) (all : List Sort) (b : Bool) (st : State) (was : Seen A) (ran : Ended A) → Before (skipped b st was ran).state.sorts all → OnStands was (P st)
    → (b ≡ false → Before ran.state.sorts all → OnStands ran.is (P ran.state)) → OnStands (skipped b st was ran).is (P (skipped b st was ran).state)
skip_fits P all true st was ran before h go = h
skip_fits P all false st was ran before h go = go refl before

-- TYPES

-- the kind is known and in the unit
pub record InUnit (u : Parts) (sort : Sort) : Type 0 where
  pub fixed : is_kind sort ≡ true
  pub there : is_kind_of u (kind_of sort) ≡ true

class_there : (w : World) (u : Parts) (c : ℕ) → Knows w u → c < length u.classes → nat_lt (byte c) (length u.classes) ≡ true
class_there w u c knows within =
    let few : length u.classes ≤ 16 = knows.few in
    lt-ltb (byte c) (length u.classes) (omega arith)

class_in_unit : (w : World) (u : Parts) (i : Ident) → Knows w u → is_some (place_in w.classes 0 i.text) ≡ true → InUnit u (class_sort (place_in w.classes 0 i.text))
class_in_unit w u i knows is =
    let found = the_class (place_in w.classes 0 i.text) is in
    let P : Option ℕ → Type 0 = λ o. InUnit u (class_sort o) in
    subst P (sym found.1) (record { fixed = refl; there = class_there w u found.0 knows (knows.classes i.text found.0 found.1) })

pub type_in_unit : (w : World) (u : Parts) (kind : TypeTree) → Knows w u → type_faults w.classes kind ≡ [] → InUnit u (type_sort w.classes kind)
type_in_unit w u type.Int knows quiet = record { fixed = refl; there = refl }
type_in_unit w u type.Flag knows quiet = record { fixed = refl; there = refl }
type_in_unit w u (type.Class i) knows quiet = class_in_unit w u i knows (passes (is_some (place_in w.classes 0 i.text)) i.at Unknown quiet)

-- of a type without a fault
pub typed_quiet : (names : Names) (mods : List Modifier) (kind : TypeTree) → typed_faults names mods kind ≡ [] → type_faults names kind ≡ []
typed_quiet names mods kind quiet =
    nothing_left (type_faults names kind) (nullness_faults (is_object_type kind) (marks_of mods)) (nothing_right (modifier_faults mods) (type_faults names kind ++ nullness_faults (is_object_type kind) (marks_of mods)) quiet)

pub typed_in_unit : (w : World) (u : Parts) (mods : List Modifier) (kind : TypeTree) → Knows w u → typed_faults w.classes mods kind ≡ [] → InUnit u (type_sort w.classes kind)
typed_in_unit w u mods kind knows quiet = type_in_unit w u kind knows (typed_quiet w.classes mods kind quiet)

class_fixed : (o : Option ℕ) → is_some o ≡ true → is_kind (class_sort o) ≡ true
class_fixed None is = absurd (cc)
class_fixed (Some c) is = refl

-- its kind is known
pub type_fixed : (names : Names) (kind : TypeTree) → type_faults names kind ≡ [] → is_kind (type_sort names kind) ≡ true
type_fixed names type.Int quiet = refl
type_fixed names type.Flag quiet = refl
type_fixed names (type.Class i) quiet = class_fixed (place_in names 0 i.text) (passes (is_some (place_in names 0 i.text)) i.at Unknown quiet)

-- DECLARATIONS

behind : {A : Type 0} (xs ys : List A) (i m : ℕ) → m ≡ length xs + i → slice_get (xs ++ ys) m ≡ slice_get ys i
behind [] ys i m is = let same : m ≡ i = omega arith in ap (slice_get ys) same
behind (x ∷ xs) ys i zero is = absurd (omega arith)
behind (x ∷ xs) ys i (suc m) is = let less : m ≡ length xs + i = omega arith in behind xs ys i m less

new_local : (w : World) (h : Here) (all : List Sort) (k : Around) (sort : Sort) (i : Ident) (st : State) → Surrounds w h form.Code all k → is_kind sort ≡ true → length st.sorts ≤ 32 → Before (with_local h sort i st).sorts all
    → LocalAt k (number_of h st) sort
new_local w h all k sort i st around fixed few before =
    let params : length h.sorts ≤ 8 = around.few in
    let place : byte (number_of h st) ≡ length (map kind_of h.sorts) + length st.sorts = rw (length-map h.sorts kind_of) (omega arith) in
    record {
      at = ap (λ l. slice_get l (byte (number_of h st))) around.locals
          ∙ behind (map kind_of h.sorts) (map kind_of all) (length st.sorts) (byte (number_of h st)) place
          ∙ slice_get-map kind_of all (length st.sorts)
          ∙ ap (option_map kind_of) (ap (λ l. slice_get l (length st.sorts)) before.is ∙ kept (st.sorts ++ sort ∷ []) before.more (length st.sorts) sort (append_last st.sorts sort));
      fixed = fixed;
    }

local_by : (k : Around) (st : State) (new d : Declared) (i : ℕ) → Holds k st → LocalAt k new.number new.sort → (slice_get st.held i ≡ Some d) ⊎ (d ≡ new) → LocalAt k d.number d.sort
local_by k st new d i holds h (inl before) = holds.held i d before
local_by k st new d i holds h (inr last) = let P : Declared → Type 0 = λ x. LocalAt k x.number x.sort in subst P (sym last) h

with_local_holds : (w : World) (h : Here) (all : List Sort) (k : Around) (sort : Sort) (i : Ident) (st : State) → Surrounds w h form.Code all k → InUnit k.unit sort → length st.sorts ≤ 32 → Before (with_local h sort i st).sorts all → Holds k st
    → Holds k (with_local h sort i st)
with_local_holds w h all k sort i st around there few before holds =
    let new : Declared = record { name = i.text; sort = sort; number = number_of h st } in
    record {
      held = λ j d is. local_by k st new d j holds (new_local w h all k sort i st around there.fixed few before) (grown st.held new j d is);
      there = all_both (λ x. is_kind_of k.unit (kind_of x)) st.sorts (sort ∷ []) holds.there (both_of (is_kind_of k.unit (kind_of sort)) true there.there refl);
    }

first_suits : (k : Around) (sort : Sort) → is_kind sort ≡ true → takes (Of (kind_of sort)) (sort_of (first_value sort) k) ≡ true
first_suits k Loose fixed = absurd (cc)
first_suits k Null fixed = absurd (cc)
first_suits k Int fixed = ap (takes (Of (kind_of Int))) (sort_num (pos 0) k)
first_suits k Flag fixed = ap (takes (Of (kind_of Flag))) (sort_flag false k)
first_suits k (Object c) fixed = ap (takes (Of (kind_of (Object c)))) (sort_null k)

first_fits : (w : World) (h : Here) (all : List Sort) (k : Around) (sort : Sort) (a : Option Tree) (n : ℕ) (st : State) → Surrounds w h form.Code all k → LocalAt k n sort → Holds k st
    → OnStands (first_set w h sort a n st.held) (λ x. is_fitting x k ≡ true)
first_fits w h all k sort None n st around at holds =
    fitting_set (byte n) (first_value sort) k ∙ ap (λ o. takes (sort_of_kind o) (sort_of (first_value sort) k)) at.at ∙ first_suits k sort at.fixed
first_fits w h all k sort (Some a) n st around at holds =
    on_over (HasSort k) (λ x. is_fitting x k ≡ true) (seen a (in_body w h st.held)) (initial n sort) (sorts a (in_body w h st.held) k (agrees_in w h form.Code all k st around holds))
    (λ x of_x.
    on_unless (λ y. is_fitting y k ≡ true) (wants sort x) (s.Set (byte n) x.expr)
    (λ quiet. fitting_set (byte n) x.expr k ∙ ap (λ o. takes (sort_of_kind o) (sort_of x.expr k)) at.at ∙ value_suits k sort x at.fixed of_x quiet))

decl_fits : (w : World) (h : Here) (all : List Sort) (k : Around) (sort : Sort) (d : Decl) (st : State) → Surrounds w h form.Code all k → InUnit k.unit sort → length st.sorts ≤ 32 → Before (with_local h sort d.name st).sorts all → Holds k st
    → OnStands (seen_decl w h sort d st).is (λ x. Done k (with_local h sort d.name st) (x ∷ []))
decl_fits w h all k sort d st around there few before holds =
    let behind_it = with_local_holds w h all k sort d.name st around there few before holds in
    on_beside (λ x. Done k (with_local h sort d.name st) (x ∷ [])) (local_faults h d.name st) (first_set w h sort d.value (number_of h st) (with_local h sort d.name st).held)
    (λ quiet.
    weaker (λ x. is_fitting x k ≡ true) (λ x. Done k (with_local h sort d.name st) (x ∷ [])) (first_set w h sort d.value (number_of h st) (with_local h sort d.name st).held)
    (first_fits w h all k sort d.value (number_of h st) (with_local h sort d.name st) around (new_local w h all k sort d.name st around there.fixed few before) behind_it)
    (λ x fits. record { fit = one_fits k x fits; holds = behind_it }))

few_locals : (n : ℕ) → nat_lt 32 n ≡ false → n ≤ 32
few_locals n is = ltb-false 32 n is

decls_fit : (w : World) (h : Here) (all : List Sort) (k : Around) (sort : Sort) (ds : List Decl) (st : State) (s : Seen (List UnitStmt)) → Surrounds w h form.Code all k → InUnit k.unit sort
    → Before (seen_decls w h sort ds st s).state.sorts all → OnStands s (Done k st) → OnStands (seen_decls w h sort ds st s).is (Done k (seen_decls w h sort ds st s).state)
decls_fit w h all k sort [] st s around there before h_s = h_s
decls_fit w h all k sort (d ∷ ds) st s around there before h_s =
    let st' : State = with_local h sort d.name st in
    let one : Seen UnitStmt = (seen_decl w h sort d st).is in
    let s' : Seen (List UnitStmt) = over_two s one (λ xs x. Stands (xs ++ x ∷ [])) in
    skip_fits (Done k) all (is_full st) st s (seen_decls w h sort ds st' s') before h_s
    (λ open_ within.
    decls_fit w h all k sort ds st' s' around there within
    (on_then (Done k st) (λ x. Done k st' (x ∷ [])) (Done k st') s one (λ xs x. Stands (xs ++ x ∷ [])) h_s
    (λ xs so_far.
    decl_fits w h all k sort d st around there (few_locals (length st.sorts) open_)
    (before_trans st'.sorts (seen_decls w h sort ds st' s').state.sorts all (decls_grow w h sort ds st' s') within) so_far.holds)
    (λ xs x so_far new. record { fit = all_both (λ y. is_fitting y k) xs (x ∷ []) so_far.fit new.fit; holds = new.holds })))

-- STATEMENTS

kept_front : {A : Type 0} (n : ℕ) (xs : List A) (i : ℕ) (x : A) → slice_get (take n xs) i ≡ Some x → slice_get xs i ≡ Some x
kept_front n xs i x is = ap (λ l. slice_get l i) (sym (take-append-drop n xs)) ∙ kept (take n xs) (drop n xs) i x is

closed_holds : (k : Around) (st after : State) → Holds k after → Holds k (closed st after)
closed_holds k st after holds = record { held = λ i d is. holds.held i d (kept_front (length st.held) after.held i d is); there = holds.there }

all_three : (a b c : Bool) → a ≡ true → b ≡ true → c ≡ true → (a && b && c) ≡ true
all_three true true true x y z = refl
all_three true true false x y z = absurd (cc)
all_three true false c x y z = absurd (cc)
all_three false b c x y z = absurd (cc)

nothing_done : (k : Around) (st : State) → Holds k st → Done k st (as_list nothing)
nothing_done k st holds = record { fit = one_fits k (s.Block []) (block_fits k [] refl); holds = holds }

-- of a statement that changes no locals
still : (k : Around) (st : State) (a : Seen Piece) → Holds k st → OnStands a (λ p. AllFit k (as_list p)) → OnStands a (λ p. Done k st (as_list p))
still k st a holds h = weaker (λ p. AllFit k (as_list p)) (λ p. Done k st (as_list p)) a h (λ p fits. record { fit = fits; holds = holds })

local_fits : (w : World) (h : Here) (all : List Sort) (k : Around) (mods : List Modifier) (kind : TypeTree) (ds : List Decl) (st : State) → Surrounds w h form.Code all k → Before (seen_local w h mods kind ds st).state.sorts all → Holds k st
    → OnStands (seen_local w h mods kind ds st).is (λ p. Done k (seen_local w h mods kind ds st).state (as_list p))
local_fits w h all k mods kind ds st around before holds =
    let sort : Sort = type_sort w.classes kind in
    let e_decls : Ended (List UnitStmt) = seen_decls w h sort ds st (Stands []) in
    on_beside (λ p. Done k e_decls.state (as_list p)) (typed_faults w.classes mods kind) (over e_decls.is (λ xs. Stands (Many xs)))
    (λ quiet.
    on_over (Done k e_decls.state) (λ p. Done k e_decls.state (as_list p)) e_decls.is (λ xs. Stands (Many xs))
    (decls_fit w h all k sort ds st (Stands []) around (typed_in_unit w k.unit mods kind around.knows quiet) before (record { fit = refl; holds = holds }))
    (λ xs so_far. so_far))

-- a condition with a statement that fits
record Fits (k : Around) (st : State) (b : Branch) : Type 0 where
  test : is_condition k b.test ≡ true
  under : is_fitting b.under k ≡ true
  holds : Holds k st

branch_fits : (w : World) (h : Here) (all : List Sort) (k : Around) (c : Tree) (st : State) (under : Ended Piece) → Surrounds w h form.Code all k → Holds k st → OnStands under.is (λ p. Done k under.state (as_list p))
    → OnStands (branch_of w h c st under).is (Fits k (branch_of w h c st under).state)
branch_fits w h all k c st under around holds h_under =
    on_over_two (λ x. is_condition k x ≡ true) (λ p. Done k under.state (as_list p)) (Fits k (closed st under.state)) (over (seen c (in_body w h st.held)) condition_of) under.is (λ x p. Stands (branch x p))
    (tested w h all k st c around holds) h_under
    (λ x p test part. record { test = test; under = as_stmt_fits k p part.fit; holds = closed_holds k st under.state part.holds })

mutual
  unfolding seen_stmt seen_stmts

  pub stmt_fits : (w : World) (h : Here) (all : List Sort) (k : Around) (n : ℕ) (a : Stmt) (st : State) → Surrounds w h form.Code all k → Before (seen_stmt w h n a st).state.sorts all → Holds k st
      → OnStands (seen_stmt w h n a st).is (λ p. Done k (seen_stmt w h n a st).state (as_list p))
  stmt_fits w h all k n (block ss) st around before holds =
      let inner : Ended (List UnitStmt) = seen_stmts w h n ss st (Stands []) in
      skip_fits (λ st' p. Done k st' (as_list p)) all (is_full st) st (Stands nothing) (block_of st inner) before (nothing_done k st holds)
      (λ open_ within.
      on_over (Done k inner.state) (λ p. Done k (closed st inner.state) (as_list p)) inner.is (λ xs. Stands (One (s.Block xs)))
      (stmts_fit w h all k n ss st (Stands []) around within (record { fit = refl; holds = holds }))
      (λ xs so_far. record { fit = one_fits k (s.Block xs) (block_fits k xs so_far.fit); holds = closed_holds k st inner.state so_far.holds }))
  stmt_fits w h all k n blank st around before holds = nothing_done k st holds
  stmt_fits w h all k n (if_only c a) st around before holds =
      let under : Ended Piece = seen_stmt w h n a st in
      let first : Ended Branch = branch_of w h c st under in
      skip_fits (λ st' p. Done k st' (as_list p)) all (is_full st) st (Stands nothing) (if_of first) before (nothing_done k st holds)
      (λ open_ within.
      on_over (Fits k first.state) (λ p. Done k first.state (as_list p)) first.is (λ b. Stands (One (s.If b.test b.under (s.Block []))))
      (branch_fits w h all k c st under around holds (stmt_fits w h all k n a st around within holds))
      (λ b fits.
      record {
        fit = one_fits k (s.If b.test b.under (s.Block [])) (fitting_if b.test b.under (s.Block []) k ∙ all_three (is_condition k b.test) (is_fitting b.under k) _ fits.test fits.under (block_fits k [] refl));
        holds = fits.holds;
      }))
  stmt_fits w h all k n (if_else c a b) st around before holds =
      let under : Ended Piece = seen_stmt w h n a st in
      let first : Ended Branch = branch_of w h c st under in
      let other : Ended Piece = seen_stmt w h n b first.state in
      skip_fits (λ st' p. Done k st' (as_list p)) all (is_full st) st (Stands nothing) (else_of st first other) before (nothing_done k st holds)
      (λ open_ within.
      on_then (Fits k first.state) (λ p. Done k other.state (as_list p)) (λ p. Done k (closed st other.state) (as_list p)) first.is other.is (λ x p. Stands (One (s.If x.test x.under (as_stmt p))))
      (branch_fits w h all k c st under around holds (stmt_fits w h all k n a st around (before_trans under.state.sorts other.state.sorts all (stmt_grows w h n b first.state) within) holds))
      (λ x fits. stmt_fits w h all k n b first.state around within fits.holds)
      (λ x p fits part.
      record {
        fit = one_fits k (s.If x.test x.under (as_stmt p)) (fitting_if x.test x.under (as_stmt p) k ∙ all_three (is_condition k x.test) (is_fitting x.under k) _ fits.test fits.under (as_stmt_fits k p part.fit));
        holds = closed_holds k st other.state part.holds;
      }))
  stmt_fits w h all k n (loops at c a) st around before holds =
      let under : Ended Piece = seen_stmt w h (deeper n) a st in
      let first : Ended Branch = branch_of w h c st under in
      skip_fits (λ st' p. Done k st' (as_list p)) all (is_full st) st (Stands nothing) (while_of n at first) before (nothing_done k st holds)
      (λ open_ within.
      on_beside (λ p. Done k first.state (as_list p)) (many_loops n at) (over first.is (λ b. Stands (One (s.While b.test b.under))))
      (λ quiet.
      on_over (Fits k first.state) (λ p. Done k first.state (as_list p)) first.is (λ b. Stands (One (s.While b.test b.under)))
      (branch_fits w h all k c st under around holds (stmt_fits w h all k (deeper n) a st around within holds))
      (λ b fits.
      record {
        fit = one_fits k (s.While b.test b.under) (fitting_while b.test b.under k ∙ both_of (is_condition k b.test) (is_fitting b.under k) fits.test fits.under);
        holds = fits.holds;
      })))
  stmt_fits w h all k n (gives_back at a) st around before holds =
      skip_fits (λ st' p. Done k st' (as_list p)) all (is_full st) st (Stands nothing) _ before (nothing_done k st holds)
      (λ open_ within. still k st (returned w h st at a) holds (return_fits w h all k st at a around holds))
  stmt_fits w h all k n (local mods kind ds) st around before holds =
      skip_fits (λ st' p. Done k st' (as_list p)) all (is_full st) st (Stands nothing) _ before (nothing_done k st holds)
      (λ open_ within. local_fits w h all k mods kind ds st around within holds)
  stmt_fits w h all k n (set a b) st around before holds =
      let agrees = agrees_in w h form.Code all k st around holds in
      skip_fits (λ st' p. Done k st' (as_list p)) all (is_full st) st (Stands nothing) _ before (nothing_done k st holds)
      (λ open_ within.
      still k st (over_two (seen_target a (in_body w h st.held)) (seen b (in_body w h st.held)) set_of) holds
      (on_over_two (HasPlace k) (HasSort k) (λ p. AllFit k (as_list p)) (seen_target a (in_body w h st.held)) (seen b (in_body w h st.held)) set_of (target_placed a (in_body w h st.held) k agrees)
      (sorts b (in_body w h st.held) k agrees) (λ p x of_p of_x. set_fits k p x of_p of_x)))
  stmt_fits w h all k n (step a up) st around before holds =
      let agrees = agrees_in w h form.Code all k st around holds in
      skip_fits (λ st' p. Done k st' (as_list p)) all (is_full st) st (Stands nothing) _ before (nothing_done k st holds)
      (λ open_ within.
      still k st (over (seen_target a (in_body w h st.held)) (step_of up)) holds
      (on_over (HasPlace k) (λ p. AllFit k (as_list p)) (seen_target a (in_body w h st.held)) (step_of up) (target_placed a (in_body w h st.held) k agrees) (λ p of_p. step_fits k p up of_p)))
  stmt_fits w h all k n (run a) st around before holds =
      let agrees = agrees_in w h form.Code all k st around holds in
      skip_fits (λ st' p. Done k st' (as_list p)) all (is_full st) st (Stands nothing) _ before (nothing_done k st holds)
      (λ open_ within.
      still k st (over (seen_call a (in_body w h st.held)) run_of) holds
      (on_over (HasCall k) (λ p. AllFit k (as_list p)) (seen_call a (in_body w h st.held)) run_of (call_gives a (in_body w h st.held) k agrees) (λ c of_c. run_fits k c around.form of_c)))

  pub stmts_fit : (w : World) (h : Here) (all : List Sort) (k : Around) (n : ℕ) (ss : Stmts) (st : State) (s : Seen (List UnitStmt)) → Surrounds w h form.Code all k → Before (seen_stmts w h n ss st s).state.sorts all
      → OnStands s (Done k st) → OnStands (seen_stmts w h n ss st s).is (Done k (seen_stmts w h n ss st s).state)
  stmts_fit w h all k n done st s around before h_s = h_s
  stmts_fit w h all k n (next a more) st s around before h_s =
      let one : Ended Piece = seen_stmt w h n a st in
      let s' : Seen (List UnitStmt) = over_two s one.is (λ xs p. Stands (xs ++ as_list p)) in
      stmts_fit w h all k n more one.state s' around before
      (on_then (Done k st) (λ p. Done k one.state (as_list p)) (Done k one.state) s one.is (λ xs p. Stands (xs ++ as_list p)) h_s
      (λ xs so_far. stmt_fits w h all k n a st around (before_trans one.state.sorts (seen_stmts w h n more one.state s').state.sorts all (stmts_grow w h n more one.state s') before) so_far.holds)
      (λ xs p so_far new. record { fit = all_both (λ y. is_fitting y k) xs (as_list p) so_far.fit new.fit; holds = new.holds }))
