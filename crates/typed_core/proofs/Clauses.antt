-- Clauses without a fault are conditions.
use Rattle.std.proofs.Common.{◌≡◌, ◌≤◌, ◌+◌, ℕ, Bool, true, false, List, [], ◌∷◌, ◌++◌, length, refl, ap, sym, ◌∙◌, subst, arith}
use Rattle.std.specs.Prelude.{not, ◌==◌}
use Rattle.std.proofs.lemmas.List.{length-append}
use Rattle.java_tree.specs.Trees.{Expr as Tree, Clause as ClauseTree, needs, gives}
use Rattle.taco_unit.specs.declared.unit.Clause.{Clause}
use Rattle.taco_unit.specs.Kinds.{Around, is_condition}
use Rattle.taco_unit.specs.Well.{are_conditions}
use Rattle.refusals.specs.declared.refusal.Many.TheVariants as many
use Rattle.declared_names.specs.declared.fault.Cause.TheVariants.{TooMany}
use Rattle.declared_names.specs.declared.sort.Sort.TheVariants.{Flag}
use Rattle.typed_forms.specs.declared.typed.Typed.{Typed}
use Rattle.declared_names.specs.declared.world.World.{World}
use Rattle.declared_names.specs.declared.world.Here.{Here}
use Rattle.declared_names.specs.declared.world.Form.{Form}
use Rattle.declared_names.specs.declared.world.Form.TheVariants as form
use Rattle.declared_names.specs.Seen.{Seen, Stands, over, over_two, beside}
use Rattle.typed_forms.specs.Operators.{wants}
use Rattle.declared_names.specs.Lookups.{in_clause}
use Rattle.typed_expressions.specs.Expressions.{seen}
use Rattle.typed_statements.specs.Heads.{next}
use Rattle.typed_statements.specs.Statements.{State}
use Rattle.typed_statements.proofs.Stand.{OnStands, on_over, on_unless, on_beside, on_then, weaker, passes}
use Rattle.typed_statements.proofs.Suits.{HasSort, wanted_suits}
use Rattle.typed_statements.proofs.CallKinds.{both_of}
use Rattle.typed_statements.proofs.ExpressionKinds.{sorts}
use Rattle.typed_statements.proofs.Fitting.{Surrounds, Holds, agrees_in, all_both}
use Rattle.typed_core.specs.declared.members.Spec.{Spec}
use Rattle.typed_core.specs.Members.{clause_of, with_need, with_give, many_clauses, seen_clauses, no_clauses}

-- no locals
abbrev pub no_state : State
no_state = record { held = []; sorts = [] }

pub no_state_holds : (k : Around) → Holds k no_state
no_state_holds k = record { held = λ i d is. absurd (cc); there = refl }

-- a condition, where there were fewer than 255 before
pub record IsOneMore (k : Around) (n : ℕ) (c : Clause) : Type 0 where
  pub condition : is_condition k c.expr ≡ true
  pub fewer : not (n == 255) ≡ true

condition_at : (k : Around) (x : Typed) → HasSort k x → OnStands (clause_of x) (λ c. is_condition k c.expr ≡ true)
condition_at k x of_x = on_unless (λ (c : Clause). is_condition k c.expr ≡ true) (wants Flag x) (record { expr = x.expr }) (λ quiet. wanted_suits Flag x k refl of_x quiet)

pub condition_stands : (w : World) (h : Here) (f : Form) (k : Around) (e : Tree) → Surrounds w h f [] k → OnStands (over (seen e (in_clause w h f [])) clause_of) (λ c. is_condition k c.expr ≡ true)
condition_stands w h f k e around =
    on_over (HasSort k) (λ (c : Clause). is_condition k c.expr ≡ true) (seen e (in_clause w h f [])) clause_of (sorts e (in_clause w h f []) k (agrees_in w h f [] k no_state around (no_state_holds k)))
    (λ x of_x. condition_at k x of_x)

clause_stands : (w : World) (h : Here) (f : Form) (k : Around) (n at : ℕ) (e : Tree) → Surrounds w h f [] k → OnStands (beside (many_clauses n at) (over (seen e (in_clause w h f [])) clause_of)) (IsOneMore k n)
clause_stands w h f k n at e around =
    on_beside (IsOneMore k n) (many_clauses n at) (over (seen e (in_clause w h f [])) clause_of)
    (λ quiet.
    weaker (λ (c : Clause). is_condition k c.expr ≡ true) (IsOneMore k n) (over (seen e (in_clause w h f [])) clause_of) (condition_stands w h f k e around)
    (λ c test. record { condition = test; fewer = passes (not (n == 255)) at (TooMany many.Clauses) quiet }))

-- clauses of one sort: so many, all of them conditions
pub record Fine (k : Around) (n : ℕ) (cs : List Clause) : Type 0 where
  pub conditions : are_conditions k cs ≡ true
  pub many : n ≡ length cs
  pub few : n ≤ 255

pub fine_none : (k : Around) → Fine k 0 []
fine_none k = record { conditions = refl; many = refl; few = omega arith }

pub below : (n : ℕ) → n ≤ 255 → not (n == 255) ≡ true → n + 1 ≤ 255
below n few is = by_order (n == 255) refl is
  where
    by_order : (b : Bool) → (n == 255) ≡ b → not b ≡ true → n + 1 ≤ 255
    by_order true same test = absurd (cc)
    by_order false other test = grind (arith, other)

pub next_small : (n : ℕ) → n ≤ 255 → next n ≡ n + 1
next_small n few = omega arith

pub fine_more : (k : Around) (n : ℕ) (cs : List Clause) (c : Clause) → Fine k n cs → IsOneMore k n c → Fine k (next n) (cs ++ c ∷ [])
fine_more k n cs c so_far new =
    let step : next n ≡ n + 1 = next_small n so_far.few in
    let less : n + 1 ≤ 255 = below n so_far.few new.fewer in
    record {
      conditions = all_both (λ (x : Clause). is_condition k x.expr) cs (c ∷ []) so_far.conditions (both_of (is_condition k c.expr) true new.condition refl);
      many = step ∙ ap (λ m. m + 1) so_far.many ∙ sym (length-append cs (c ∷ []));
      few = let P : ℕ → Type 0 = λ m. m ≤ 255 in subst P (sym step) less;
    }

-- the clauses of a method
pub record FineSpec (entry exit : Around) (spec : Spec) : Type 0 where
  pub needs : are_conditions entry spec.needs ≡ true
  pub gives : are_conditions exit spec.gives ≡ true
  pub few_needs : length spec.needs ≤ 255
  pub few_gives : length spec.gives ≤ 255

record SoFar (entry exit : Around) (a b : ℕ) (spec : Spec) : Type 0 where
  needs : Fine entry a spec.needs
  gives : Fine exit b spec.gives

whole : (entry exit : Around) (a b : ℕ) (spec : Spec) → SoFar entry exit a b spec → FineSpec entry exit spec
whole entry exit a b spec so_far =
    let P : ℕ → Type 0 = λ n. n ≤ 255 in
    record { needs = so_far.needs.conditions; gives = so_far.gives.conditions; few_needs = subst P so_far.needs.many so_far.needs.few; few_gives = subst P so_far.gives.many so_far.gives.few }

clauses_from : (w : World) (h : Here) (entry exit : Around) (a b : ℕ) (s : Seen Spec) (cs : List ClauseTree) → Surrounds w h form.Entry [] entry → Surrounds w h form.Exit [] exit → OnStands s (SoFar entry exit a b)
    → OnStands (seen_clauses w h a b s cs) (FineSpec entry exit)
clauses_from w h entry exit a b s [] around_entry around_exit so_far = weaker (SoFar entry exit a b) (FineSpec entry exit) s so_far (λ spec h_spec. whole entry exit a b spec h_spec)
clauses_from w h entry exit a b s (needs at e ∷ more) around_entry around_exit so_far =
    let one : Seen Clause = beside (many_clauses a at) (over (seen e (in_clause w h form.Entry [])) clause_of) in
    clauses_from w h entry exit (next a) b (over_two s one (λ spec c. Stands (with_need spec c))) more around_entry around_exit
    (on_then (SoFar entry exit a b) (IsOneMore entry a) (SoFar entry exit (next a) b) s one (λ spec c. Stands (with_need spec c)) so_far (λ spec h_spec. clause_stands w h form.Entry entry a at e around_entry)
    (λ spec c h_spec new. record { needs = fine_more entry a spec.needs c h_spec.needs new; gives = h_spec.gives }))
clauses_from w h entry exit a b s (gives at e ∷ more) around_entry around_exit so_far =
    let one : Seen Clause = beside (many_clauses b at) (over (seen e (in_clause w h form.Exit [])) clause_of) in
    clauses_from w h entry exit a (next b) (over_two s one (λ spec c. Stands (with_give spec c))) more around_entry around_exit
    (on_then (SoFar entry exit a b) (IsOneMore exit b) (SoFar entry exit a (next b)) s one (λ spec c. Stands (with_give spec c)) so_far (λ spec h_spec. clause_stands w h form.Exit exit b at e around_exit)
    (λ spec c h_spec new. record { needs = h_spec.needs; gives = fine_more exit b spec.gives c h_spec.gives new }))

pub clauses_fine : (w : World) (h : Here) (entry exit : Around) (cs : List ClauseTree) → Surrounds w h form.Entry [] entry → Surrounds w h form.Exit [] exit
    → OnStands (seen_clauses w h 0 0 (Stands no_clauses) cs) (FineSpec entry exit)
clauses_fine w h entry exit cs around_entry around_exit =
    clauses_from w h entry exit 0 0 (Stands no_clauses) cs around_entry around_exit (record { needs = fine_none entry; gives = fine_none exit })
