-- A statement that stands fits.
use Rattle.std.proofs.Common.{◌≡◌, ◌≤◌, ◌<◌, ℕ, zero, suc, Bool, true, false, List, [], ◌∷◌, ◌++◌, Option, None, Some, length, refl, ap, sym, ◌∙◌, arith, append_assoc}
use Rattle.std.specs.Prelude.{map, slice_get, option_map, is_none}
use Rattle.std.specs.List.{list_all}
use Rattle.std.proofs.lemmas.Option.{slice_get_within, slice_get-map}
use Rattle.std.proofs.lemmas.List.Folds.{list_all-append, list_all-map}
use Rattle.java_tree.specs.Trees.{Expr as Tree, num, flag, null, this, outcome, make, named, call, read, call_on, paren, negation, minus, bin, old, quant, quant_in, has, size, Decl, Stmt, block, blank, if_only, if_else, loops, gives_back, local, set, step, run, Stmts, done, next}
use Rattle.taco_unit.specs.declared.stmt.Stmt.{Stmt as UnitStmt}
use Rattle.taco_unit.specs.declared.stmt.Stmt.TheVariants as s
use Rattle.taco_unit.specs.Kinds.{Around, Of, Code, sort_of, sort_of_kind, is_condition, is_kind_of, in_code}
use Rattle.taco_unit.specs.Bodies.{takes, is_call, is_fitting}
use Rattle.taco_unit.proofs.KindForms.{sort_local, sort_read, sort_call, sort_of_call, fitting_block, fitting_set, fitting_write, fitting_step_local, fitting_step_field, fitting_return, fitting_run}
use Rattle.declared_names.specs.declared.fault.Cause.TheVariants.{Kinds}
use Rattle.declared_names.specs.declared.sort.Sort.{Sort}
use Rattle.declared_names.specs.declared.sort.Sort.TheVariants.{Loose, Null, Int, Flag, Object}
use Rattle.typed_forms.specs.declared.typed.Typed.{Typed}
use Rattle.typed_forms.specs.declared.typed.Place.{Place}
use Rattle.typed_forms.specs.declared.typed.Spot.{Spot}
use Rattle.typed_forms.specs.declared.typed.Spot.TheVariants as spot
use Rattle.typed_forms.specs.declared.typed.Called.{Called}
use Rattle.declared_names.specs.declared.world.World.{World}
use Rattle.declared_names.specs.declared.world.Here.{Here}
use Rattle.declared_names.specs.declared.world.Declared.{Declared}
use Rattle.declared_names.specs.declared.world.Form.{Form}
use Rattle.declared_names.specs.declared.world.Form.TheVariants as form
use Rattle.declared_names.specs.Faults.{fault}
use Rattle.declared_names.specs.Seen.{Seen, Stands, over, over_two}
use Rattle.declared_names.specs.Lookups.{Scope, method_of, in_body}
use Rattle.typed_forms.specs.Operators.{wanted, wants}
use Rattle.typed_forms.specs.Calls.{byte, value_at, no_arguments, own_call, read_place}
use Rattle.typed_expressions.specs.Expressions.{seen, seen_from, seen_call, seen_target, class_name_of, bare_name}
use Rattle.typed_statements.specs.declared.statements.Piece.{Piece}
use Rattle.typed_statements.specs.declared.statements.Piece.TheVariants.{One, Many}
use Rattle.typed_statements.specs.Kinds.{kind_of}
use Rattle.typed_statements.specs.Heads.{type_sort}
use Rattle.typed_statements.specs.Statements.{State, Ended, closed, is_full, skipped, as_stmt, as_list, condition_of, assigned, set_of, counted, step_of, run_of, return_of, return_none, returned, with_local, seen_decl, seen_decls, deeper, seen_stmt, seen_stmts}
use Rattle.typed_statements.proofs.Stand.{OnStands, on_over, on_unless}
use Rattle.typed_statements.proofs.Suits.{is_kind, HasSort, wanted_suits}
use Rattle.typed_statements.proofs.OperatorKinds.{form_of}
use Rattle.typed_statements.proofs.Agrees.{Agrees, Knows, LocalAt, kept}
use Rattle.typed_statements.proofs.CallKinds.{both_of, left_of, right_of, HasPlace, HasCall, named_placed, read_placed, own_call_sort, HaveSorts}
use Rattle.typed_statements.proofs.ExpressionKinds.{sorts, sorts_from, dotted_sort}

-- the first of a list are these
pub record Before {A : Type 0} (xs ys : List A) : Type 0 where
  pub more : List A
  pub is : ys ≡ xs ++ more

pub before_refl : {A : Type 0} (xs : List A) → Before xs xs
before_refl xs = record { more = []; is = sym (nothing_more xs) }
  where
    nothing_more : {A : Type 0} (xs : List A) → xs ++ [] ≡ xs
    nothing_more [] = refl
    nothing_more (x ∷ xs) = ap (λ ys. x ∷ ys) (nothing_more xs)

pub before_trans : {A : Type 0} (xs ys zs : List A) → Before xs ys → Before ys zs → Before xs zs
before_trans xs ys zs a b = record { more = a.more ++ b.more; is = b.is ∙ ap (λ l. l ++ b.more) a.is ∙ append_assoc xs a.more b.more }

pub before_one : {A : Type 0} (xs : List A) (x : A) → Before xs (xs ++ x ∷ [])
before_one xs x = record { more = x ∷ []; is = refl }

-- LOCALS ARE ADDED BEHIND THE OTHERS

skipped_grows : {A : Type 0} (b : Bool) (st : State) (was : Seen A) (ran : Ended A) → Before st.sorts ran.state.sorts → Before st.sorts (skipped b st was ran).state.sorts
skipped_grows true st was ran h = before_refl st.sorts
skipped_grows false st was ran h = h

pub decls_grow : (w : World) (h : Here) (sort : Sort) (ds : List Decl) (st : State) (s : Seen (List UnitStmt)) → Before st.sorts (seen_decls w h sort ds st s).state.sorts
decls_grow w h sort [] st s = before_refl st.sorts
decls_grow w h sort (d ∷ ds) st s =
    skipped_grows (is_full st) st s _
    (before_trans st.sorts (st.sorts ++ sort ∷ []) _ (before_one st.sorts sort)
    (decls_grow w h sort ds (with_local h sort d.name st) (over_two s (seen_decl w h sort d st).is (λ xs x. Stands (xs ++ x ∷ [])))))

mutual
  unfolding seen_stmt seen_stmts

  pub stmt_grows : (w : World) (h : Here) (n : ℕ) (a : Stmt) (st : State) → Before st.sorts (seen_stmt w h n a st).state.sorts
  stmt_grows w h n (block ss) st = skipped_grows (is_full st) st _ _ (stmts_grow w h n ss st (Stands []))
  stmt_grows w h n blank st = before_refl st.sorts
  stmt_grows w h n (if_only c a) st = skipped_grows (is_full st) st _ _ (stmt_grows w h n a st)
  stmt_grows w h n (if_else c a b) st =
      skipped_grows (is_full st) st _ _
      (before_trans st.sorts (seen_stmt w h n a st).state.sorts _ (stmt_grows w h n a st) (stmt_grows w h n b (closed st (seen_stmt w h n a st).state)))
  stmt_grows w h n (loops at c a) st = skipped_grows (is_full st) st _ _ (stmt_grows w h (deeper n) a st)
  stmt_grows w h n (gives_back at a) st = skipped_grows (is_full st) st _ _ (before_refl st.sorts)
  stmt_grows w h n (local mods kind ds) st = skipped_grows (is_full st) st _ _ (decls_grow w h (type_sort w.classes kind) ds st (Stands []))
  stmt_grows w h n (set a b) st = skipped_grows (is_full st) st _ _ (before_refl st.sorts)
  stmt_grows w h n (step a up) st = skipped_grows (is_full st) st _ _ (before_refl st.sorts)
  stmt_grows w h n (run a) st = skipped_grows (is_full st) st _ _ (before_refl st.sorts)

  pub stmts_grow : (w : World) (h : Here) (n : ℕ) (ss : Stmts) (st : State) (s : Seen (List UnitStmt)) → Before st.sorts (seen_stmts w h n ss st s).state.sorts
  stmts_grow w h n done st s = before_refl st.sorts
  stmts_grow w h n (next a more) st s =
      before_trans st.sorts (seen_stmt w h n a st).state.sorts _ (stmt_grows w h n a st)
      (stmts_grow w h n more (seen_stmt w h n a st).state (over_two s (seen_stmt w h n a st).is (λ xs p. Stands (xs ++ as_list p))))

-- WHAT IS KNOWN AROUND A BODY

-- the unit knows what is declared, and the kinds of the parameters and of all locals of the method; `f` says whether it is
-- code or a clause
pub record Surrounds (w : World) (h : Here) (f : Form) (all : List Sort) (k : Around) : Type 0 where
  pub knows : Knows w k.unit
  pub form : k.form ≡ form_of f
  pub receiver : h.fixed ≡ false → k.this ≡ Some (byte h.class)
  pub few : length h.sorts ≤ 8
  pub params : list_all is_kind h.sorts ≡ true
  pub locals : k.locals ≡ map kind_of h.sorts ++ map kind_of all
  pub result : (s : Sort) → h.result ≡ Some s → (k.result ≡ Some (kind_of s)) × (is_kind s ≡ true)
  pub no_result : h.result ≡ None → k.result ≡ None
  pub bound : k.bound ≡ []

-- the kinds of the locals in scope are known, and those of all are in the unit
pub record Holds (k : Around) (st : State) : Type 0 where
  pub held : (i : ℕ) (d : Declared) → slice_get st.held i ≡ Some d → LocalAt k d.number d.sort
  pub there : list_all (λ s. is_kind_of k.unit (kind_of s)) st.sorts ≡ true

pub all_at : {A : Type 0} (p : A → Bool) (xs : List A) (i : ℕ) (x : A) → list_all p xs ≡ true → slice_get xs i ≡ Some x → p x ≡ true
all_at p [] i x all is = absurd (cc)
all_at p (y ∷ ys) zero x all is = let same : y ≡ x = cc in ap p (sym same) ∙ left_of (p y) (list_all p ys) all
all_at p (y ∷ ys) (suc i) x all is = all_at p ys i x (right_of (p y) (list_all p ys) all) is

pub all_both : {A : Type 0} (p : A → Bool) (xs ys : List A) → list_all p xs ≡ true → list_all p ys ≡ true → list_all p (xs ++ ys) ≡ true
all_both p xs ys a b = list_all-append p xs ys ∙ both_of (list_all p xs) (list_all p ys) a b

param_at : (w : World) (h : Here) (f : Form) (all : List Sort) (k : Around) (i : ℕ) (s : Sort) → Surrounds w h f all k → slice_get h.sorts i ≡ Some s → LocalAt k i s
param_at w h f all k i s around is =
    let within : i < length h.sorts = slice_get_within h.sorts i s is in
    let few : length h.sorts ≤ 8 = around.few in
    let small : byte i ≡ i = omega arith in
    record {
      at = ap (slice_get k.locals) small ∙ ap (λ l. slice_get l i) around.locals
          ∙ kept (map kind_of h.sorts) (map kind_of all) i (kind_of s) (slice_get-map kind_of h.sorts i ∙ ap (option_map kind_of) is);
      fixed = all_at is_kind h.sorts i s around.params is;
    }

-- where an expression stands
abbrev pub scope_of : World → Here → Form → State → Scope
scope_of w h f st = record { world = w; here = h; form = f; held = st.held; bound = [] }

pub agrees_in : (w : World) (h : Here) (f : Form) (all : List Sort) (k : Around) (st : State) → Surrounds w h f all k → Holds k st → Agrees (scope_of w h f st) k
agrees_in w h f all k st around holds =
    record {
      knows = around.knows;
      form = around.form;
      receiver = around.receiver;
      params = λ i s is. param_at w h f all k i s around is;
      held = holds.held;
      result = around.result;
      bound = λ i d is. absurd (cc);
      depth = ap length around.bound;
      few = omega arith;
    }

-- VALUES

condition_fits : (k : Around) (x : Typed) → HasSort k x → OnStands (condition_of x) (λ c. is_condition k c ≡ true)
condition_fits k x h = on_unless (λ c. is_condition k c ≡ true) (wants Flag x) x.expr (λ quiet. wanted_suits Flag x k refl h quiet)

pub tested : (w : World) (h : Here) (all : List Sort) (k : Around) (st : State) (c : Tree) → Surrounds w h form.Code all k → Holds k st → OnStands (over (seen c (in_body w h st.held)) condition_of) (λ x. is_condition k x ≡ true)
tested w h all k st c around holds =
    on_over (HasSort k) (λ x. is_condition k x ≡ true) (seen c (in_body w h st.held)) condition_of (sorts c (in_body w h st.held) k (agrees_in w h form.Code all k st around holds)) (λ x of_x. condition_fits k x of_x)

-- all of these fit
abbrev pub AllFit : Around → List UnitStmt → Type 0
AllFit k xs = list_all (λ x. is_fitting x k) xs ≡ true

pub one_fits : (k : Around) (x : UnitStmt) → is_fitting x k ≡ true → AllFit k (x ∷ [])
one_fits k x h = both_of (is_fitting x k) true h refl

pub block_fits : (k : Around) (xs : List UnitStmt) → AllFit k xs → is_fitting (s.Block xs) k ≡ true
block_fits k xs h = fitting_block xs k ∙ list_all-map (λ f. f k) is_fitting xs ∙ h

pub as_stmt_fits : (k : Around) (p : Piece) → AllFit k (as_list p) → is_fitting (as_stmt p) k ≡ true
as_stmt_fits k (One x) h = left_of (is_fitting x k) true h
as_stmt_fits k (Many xs) h = block_fits k xs h

pub value_suits : (k : Around) (sort : Sort) (x : Typed) → is_kind sort ≡ true → HasSort k x → wants sort x ≡ [] → takes (Of (kind_of sort)) (sort_of x.expr k) ≡ true
value_suits k sort x fixed of_x quiet = wanted_suits sort x k fixed of_x quiet

assigned_fits : (k : Around) (p : Spot) (sort : Sort) (x : Typed) → sort_of (value_at p) k ≡ Of (kind_of sort) → is_kind sort ≡ true → HasSort k x → wants sort x ≡ [] → is_fitting (assigned p x.expr) k ≡ true
assigned_fits k (spot.Local n) sort x of_p fixed of_x quiet =
    fitting_set n x.expr k ∙ ap (λ r. takes r (sort_of x.expr k)) (sym (sort_local n k) ∙ of_p) ∙ value_suits k sort x fixed of_x quiet
assigned_fits k (spot.Field o f) sort x of_p fixed of_x quiet =
    fitting_write o f x.expr k ∙ ap (λ r. takes r (sort_of x.expr k)) (sym (sort_read o f k) ∙ of_p) ∙ value_suits k sort x fixed of_x quiet

pub set_fits : (k : Around) (p : Place) (x : Typed) → HasPlace k p → HasSort k x → OnStands (set_of p x) (λ q. AllFit k (as_list q))
set_fits k p x of_p of_x =
    on_unless (λ q. AllFit k (as_list q)) (wants p.sort x) (One (assigned p.spot x.expr))
    (λ quiet. one_fits k (assigned p.spot x.expr) (assigned_fits k p.spot p.sort x of_p.sort of_p.fixed of_x quiet))

-- `int` alone is counted
wanted_int : (sort : Sort) (at : ℕ) → is_kind sort ≡ true → wanted Int at sort ≡ [] → Of (kind_of sort) ≡ Of (kind_of Int)
wanted_int Loose at fixed quiet = absurd (cc)
wanted_int Null at fixed quiet = absurd (cc)
wanted_int Int at fixed quiet = refl
wanted_int Flag at fixed quiet = absurd (cc)
wanted_int (Object c) at fixed quiet = absurd (cc)

counted_fits : (k : Around) (p : Spot) (up : Bool) → sort_of (value_at p) k ≡ Of (kind_of Int) → is_fitting (counted p up) k ≡ true
counted_fits k (spot.Local n) up of_p = fitting_step_local n up k ∙ ap (λ r. takes r (Of (kind_of Int))) (sym (sort_local n k) ∙ of_p)
counted_fits k (spot.Field o f) up of_p = fitting_step_field o f up k ∙ ap (λ r. takes r (Of (kind_of Int))) (sym (sort_read o f k) ∙ of_p)

pub step_fits : (k : Around) (p : Place) (up : Bool) → HasPlace k p → OnStands (step_of up p) (λ q. AllFit k (as_list q))
step_fits k p up of_p =
    on_unless (λ q. AllFit k (as_list q)) (wanted Int p.at p.sort) (One (counted p.spot up))
    (λ quiet. one_fits k (counted p.spot up) (counted_fits k p.spot up (of_p.sort ∙ wanted_int p.sort p.at of_p.fixed quiet)))

run_by : (k : Around) (c : Called) (r : Option Sort) → HasCall k c → c.result ≡ r → is_call (sort_of_call c.call k) ≡ true
run_by k c None of_c is = ap is_call (of_c.gives_none is)
run_by k c (Some s) of_c is = ap is_call (of_c.gives s is).0

pub run_fits : (k : Around) (c : Called) → k.form ≡ Code → HasCall k c → OnStands (run_of c) (λ q. AllFit k (as_list q))
run_fits k c code of_c =
    one_fits k (s.Run c.call) (fitting_run c.call k ∙ ap is_call (sort_call c.call k ∙ ap (λ f. in_code f (sort_of_call c.call k)) code) ∙ run_by k c c.result of_c refl)

pub target_placed : (a : Tree) (sc : Scope) (k : Around) → Agrees sc k → OnStands (seen_target a sc) (HasPlace k)
target_placed (named at i) sc k agrees = named_placed sc k at i agrees
target_placed (read at a i) sc k agrees = on_over (HasSort k) (HasPlace k) (seen a sc) (read_place sc.world at i) (sorts a sc k agrees) (λ x of_x. read_placed sc.world k at i x agrees.knows of_x)
target_placed (num at n) sc k agrees = tt
target_placed (flag at b) sc k agrees = tt
target_placed (null at) sc k agrees = tt
target_placed (this at) sc k agrees = tt
target_placed (outcome at) sc k agrees = tt
target_placed (make at i) sc k agrees = tt
target_placed (call at i args) sc k agrees = tt
target_placed (call_on at a i args) sc k agrees = tt
target_placed (paren at a) sc k agrees = tt
target_placed (negation at a) sc k agrees = tt
target_placed (minus at a) sc k agrees = tt
target_placed (bin at s a b) sc k agrees = tt
target_placed (old at a) sc k agrees = tt
target_placed (quant at all kind i b) sc k agrees = tt
target_placed (quant_in at all kind i r b) sc k agrees = tt
target_placed (has at a kind fields b) sc k agrees = tt
target_placed (size at a kind fields) sc k agrees = tt

pub call_gives : (a : Tree) (sc : Scope) (k : Around) → Agrees sc k → OnStands (seen_call a sc) (HasCall k)
call_gives (call at i args) sc k agrees =
    on_over (HaveSorts k) (HasCall k) (seen_from (Stands no_arguments) args sc) (λ ts. own_call sc.here at i ts (method_of sc.world sc.here.class i))
    (sorts_from args (Stands no_arguments) sc k agrees (record { sorts = refl; known = refl })) (λ ts of_ts. own_call_sort sc k at i ts agrees of_ts)
call_gives (call_on at a i args) sc k agrees =
    dotted_sort sc k at i (class_name_of sc (bare_name a)) (seen a sc) (seen_from (Stands no_arguments) args sc) agrees (sorts a sc k agrees)
    (sorts_from args (Stands no_arguments) sc k agrees (record { sorts = refl; known = refl }))
call_gives (num at n) sc k agrees = tt
call_gives (flag at b) sc k agrees = tt
call_gives (null at) sc k agrees = tt
call_gives (this at) sc k agrees = tt
call_gives (outcome at) sc k agrees = tt
call_gives (make at i) sc k agrees = tt
call_gives (named at i) sc k agrees = tt
call_gives (read at a i) sc k agrees = tt
call_gives (paren at a) sc k agrees = tt
call_gives (negation at a) sc k agrees = tt
call_gives (minus at a) sc k agrees = tt
call_gives (bin at s a b) sc k agrees = tt
call_gives (old at a) sc k agrees = tt
call_gives (quant at all kind i b) sc k agrees = tt
call_gives (quant_in at all kind i r b) sc k agrees = tt
call_gives (has at a kind fields b) sc k agrees = tt
call_gives (size at a kind fields) sc k agrees = tt

return_by : (w : World) (h : Here) (all : List Sort) (k : Around) (r : Option Sort) (x : Typed) → Surrounds w h form.Code all k → h.result ≡ r → HasSort k x → OnStands (return_of r x) (λ q. AllFit k (as_list q))
return_by w h all k None x around is of_x = on_unless (λ q. AllFit k (as_list q)) (fault x.at Kinds ∷ []) (One (s.Return (Some x.expr))) (λ quiet. absurd (cc))
return_by w h all k (Some sort) x around is of_x =
    let given = around.result sort is in
    on_unless (λ q. AllFit k (as_list q)) (wants sort x) (One (s.Return (Some x.expr)))
    (λ quiet.
    one_fits k (s.Return (Some x.expr)) (fitting_return (Some x.expr) k ∙ ap (λ r. takes (sort_of_kind r) (sort_of x.expr k)) given.0 ∙ value_suits k sort x given.1 of_x quiet))

none_by : (w : World) (h : Here) (all : List Sort) (k : Around) (r : Option Sort) (at : ℕ) → Surrounds w h form.Code all k → h.result ≡ r → OnStands (return_none r at) (λ q. AllFit k (as_list q))
none_by w h all k None at around is =
    on_unless (λ q. AllFit k (as_list q)) [] (One (s.Return None)) (λ quiet. one_fits k (s.Return None) (fitting_return None k ∙ ap is_none (around.no_result is)))
none_by w h all k (Some sort) at around is = on_unless (λ q. AllFit k (as_list q)) (fault at Kinds ∷ []) (One (s.Return None)) (λ quiet. absurd (cc))

pub return_fits : (w : World) (h : Here) (all : List Sort) (k : Around) (st : State) (at : ℕ) (a : Option Tree) → Surrounds w h form.Code all k → Holds k st → OnStands (returned w h st at a) (λ q. AllFit k (as_list q))
return_fits w h all k st at None around holds = none_by w h all k h.result at around refl
return_fits w h all k st at (Some a) around holds =
    on_over (HasSort k) (λ q. AllFit k (as_list q)) (seen a (in_body w h st.held)) (return_of h.result) (sorts a (in_body w h st.held) k (agrees_in w h form.Code all k st around holds))
    (λ x of_x. return_by w h all k h.result x around refl of_x)
