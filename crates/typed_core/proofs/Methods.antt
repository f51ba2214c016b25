-- A method without a fault is well in the unit, and so is an invariant.
use Rattle.std.proofs.Common.{◌≡◌, ◌≤◌, ◌<◌, ℕ, Bool, true, List, [], ◌∷◌, ◌++◌, Option, None, Some, length, refl, ap, sym, ◌∙◌, subst, arith}
use Rattle.std.specs.Prelude.{map, option_map, not, ◌==◌}
use Rattle.std.specs.List.{list_all}
use Rattle.std.specs.Option.{option_map_or}
use Rattle.std.proofs.lemmas.List.{length-map}
use Rattle.std.proofs.lemmas.List.Folds.{list_all-map}
use Rattle.java_tree.specs.declared.names.Modifier.{Modifier}
use Rattle.java_tree.specs.declared.names.TypeTree.{TypeTree}
use Rattle.java_tree.specs.Trees.{Expr as Tree, Param, Method}
use Rattle.taco_unit.specs.declared.kind.Kind.{Kind}
use Rattle.taco_unit.specs.declared.stmt.Stmt.{Stmt as UnitStmt}
use Rattle.taco_unit.specs.declared.unit.ParamDef.{ParamDef}
use Rattle.taco_unit.specs.declared.unit.MethodDef.{MethodDef}
use Rattle.taco_unit.specs.Parts.{Parts}
use Rattle.taco_unit.specs.Words.{is_word}
use Rattle.taco_unit.specs.Kinds.{Around, is_kind_of, is_condition}
use Rattle.taco_unit.specs.Well.{IsWellMethod, around_invariant, around_method, receiver_of}
use Rattle.declared_names.specs.declared.fault.Fault.{Fault}
use Rattle.refusals.specs.declared.refusal.Many.TheVariants as many
use Rattle.declared_names.specs.declared.fault.Cause.TheVariants.{Unknown, Twice, TooMany}
use Rattle.declared_names.specs.declared.sort.Sort.{Sort}
use Rattle.declared_names.specs.declared.world.World.{World}
use Rattle.declared_names.specs.declared.world.Here.{Here}
use Rattle.declared_names.specs.declared.world.ParamKnown.{ParamKnown}
use Rattle.declared_names.specs.declared.world.ResultKnown.{ResultKnown}
use Rattle.declared_names.specs.declared.world.MethodKnown.{MethodKnown}
use Rattle.declared_names.specs.declared.world.Form.{Form}
use Rattle.declared_names.specs.declared.world.Form.TheVariants as form
use Rattle.declared_names.specs.Faults.{check}
use Rattle.declared_names.specs.Seen.{Stands, over, over_two}
use Rattle.declared_names.specs.Lookups.{place_in, in_clause}
use Rattle.typed_forms.specs.Calls.{byte}
use Rattle.typed_expressions.specs.Expressions.{seen}
use Rattle.typed_statements.specs.Kinds.{kind_of, param_def, result_def}
use Rattle.typed_statements.specs.Modifiers.{marks_of, is_nullable}
use Rattle.typed_statements.specs.Heads.{Names, type_sort, is_object_type, word_faults, params_faults, param_known, method_known, here_of, here_in}
use Rattle.typed_statements.specs.Statements.{Ended, seen_body}
use Rattle.typed_statements.proofs.Stand.{OnStands, on_over_two, nothing_left, nothing_right, passes}
use Rattle.typed_statements.proofs.Suits.{is_kind}
use Rattle.typed_statements.proofs.OperatorKinds.{form_of}
use Rattle.typed_statements.proofs.Agrees.{Knows}
use Rattle.typed_statements.proofs.Fitting.{Surrounds, before_refl, all_both, block_fits}
use Rattle.typed_statements.proofs.BodiesFit.{Done, typed_quiet, type_fixed, typed_in_unit, stmts_fit}
use Rattle.typed_core.specs.declared.members.Counts.{Counts}
use Rattle.typed_core.specs.declared.members.Made.{Made}
use Rattle.typed_core.specs.declared.members.Made.TheVariants as made
use Rattle.typed_core.specs.Members.{is_first, clause_of, method_def, no_clauses, seen_clauses, result_faults, method_faults}
use Rattle.typed_core.proofs.Parameters.{params_few, params_named, params_fixed, params_there, params_apart}
use Rattle.typed_core.proofs.Clauses.{no_state, no_state_holds, condition_stands, FineSpec, clauses_fine}

-- RESULTS

-- what is known of a result of this type
abbrev result_of : Names → Bool → List Modifier → Option TypeTree → Option ResultKnown
result_of names default mods result = option_map (λ kind. record { sort = type_sort names kind; nullable = is_nullable default (is_object_type kind) (marks_of mods) }) result

result_fixed : (w : World) (default : Bool) (mods : List Modifier) (result : Option TypeTree) → result_faults w mods result ≡ [] → (r : ResultKnown) → result_of w.classes default mods result ≡ Some r → is_kind r.sort ≡ true
result_fixed w default mods None quiet r is = absurd (cc)
result_fixed w default mods (Some kind) quiet r is =
    let same : record { sort = type_sort w.classes kind; nullable = is_nullable default (is_object_type kind) (marks_of mods) } ≡ r = cc in
    ap (λ (x : ResultKnown). is_kind x.sort) (sym same) ∙ type_fixed w.classes kind (typed_quiet w.classes mods kind quiet)

result_there : (w : World) (u : Parts) (default : Bool) (mods : List Modifier) (result : Option TypeTree) → Knows w u → result_faults w mods result ≡ []
    → option_map_or (is_kind_of u) (option_map (λ (r : Kind × Bool). r.0) (option_map result_def (result_of w.classes default mods result))) true ≡ true
result_there w u default mods None knows quiet = refl
result_there w u default mods (Some kind) knows quiet = (typed_in_unit w u mods kind knows quiet).there

kind_of_result : (o : Option ResultKnown) (sort : Sort) → option_map (λ (r : ResultKnown). r.sort) o ≡ Some sort → ((r : ResultKnown) → o ≡ Some r → is_kind r.sort ≡ true)
    → (option_map (λ (r : Kind × Bool). r.0) (option_map result_def o) ≡ Some (kind_of sort)) × (is_kind sort ≡ true)
kind_of_result None sort is fixed = absurd (cc)
kind_of_result (Some r) sort is fixed =
    let same : r.sort ≡ sort = cc in
    (ap (λ x. Some (kind_of x)) same, ap is_kind (sym same) ∙ fixed r refl)

no_result : (o : Option ResultKnown) → option_map (λ (r : ResultKnown). r.sort) o ≡ None → option_map (λ (r : Kind × Bool). r.0) (option_map result_def o) ≡ None
no_result None is = refl
no_result (Some r) is = absurd (cc)

-- HEADS

-- what the head of a method without a fault keeps
pub record QuietHead (w : World) (n : ℕ) (counts : Counts) (m : Method) : Type 0 where
  pub result : result_faults w m.mods m.result ≡ []
  pub named : is_word m.name.text ≡ true
  pub fewer : not (counts.methods == 64) ≡ true
  pub params : params_faults w.classes [] m.params ≡ []

pub quiet_head : (w : World) (n : ℕ) (counts : Counts) (m : Method) → method_faults w n counts m ≡ [] → QuietHead w n counts m
quiet_head w n counts m quiet =
    let a : List Fault = result_faults w m.mods m.result in
    let b : List Fault = check (is_first (place_in w.method_names n m.name.text) counts.methods) m.name.at Twice in
    let c : List Fault = check (not (counts.methods == 64)) m.name.at (TooMany many.Methods) in
    let d : List Fault = params_faults w.classes [] m.params in
    let e : List Fault = word_faults m.name in
    let ebcd = nothing_right a (e ++ (b ++ (c ++ d))) quiet in
    let bcd = nothing_right e (b ++ (c ++ d)) ebcd in
    let cd = nothing_right b (c ++ d) bcd in
    record { result = nothing_left a (e ++ (b ++ (c ++ d))) quiet; named = passes (is_word m.name.text) m.name.at Unknown (nothing_left e (b ++ (c ++ d)) ebcd); fewer = passes (not (counts.methods == 64)) m.name.at (TooMany many.Methods) (nothing_left c d cd); params = nothing_right c d cd }

kinds_same : (ps : List ParamKnown) → map (λ (p : ParamDef). p.kind) (map param_def ps) ≡ map kind_of (map (λ (p : ParamKnown). p.sort) ps)
kinds_same [] = refl
kinds_same (p ∷ ps) = ap (λ l. kind_of p.sort ∷ l) (kinds_same ps)

words_same : (names : Names) (default : Bool) (ps : List Param) → list_all (λ (p : ParamDef). is_word p.name) (map param_def (map (param_known names default) ps)) ≡ list_all (λ (p : Param). is_word p.name.text) ps
words_same names default ps =
    list_all-map (λ (p : ParamDef). is_word p.name) param_def (map (param_known names default) ps) ∙ list_all-map (λ (p : ParamKnown). is_word p.name) (param_known names default) ps

surrounds : (w : World) (u : Parts) (n : ℕ) (default : Bool) (m : Method) (counts : Counts) (f : Form) (all : List Sort) (locals : List Kind) → Knows w u → QuietHead w n counts m
    → locals ≡ map kind_of (here_of (method_known w.classes n default m)).sorts ++ map kind_of all
    → Surrounds w (here_of (method_known w.classes n default m)) f all (around_method u (method_def (method_known w.classes n default m) no_clauses [] []) (form_of f) locals)
surrounds w u n default m counts f all locals knows quiet is =
    let known : MethodKnown = method_known w.classes n default m in
    record {
      knows = knows;
      form = refl;
      receiver = λ static. ap (λ b. receiver_of b (byte n)) static;
      few = let P : ℕ → Type 0 = λ x. x ≤ 8 in subst P (sym (length-map known.params (λ (p : ParamKnown). p.sort) ∙ length-map m.params (param_known w.classes default))) (params_few w.classes m.params quiet.params);
      params = list_all-map is_kind (λ (p : ParamKnown). p.sort) known.params ∙ params_fixed w.classes default m.params quiet.params;
      locals = is;
      result = λ sort given. kind_of_result known.result sort given (result_fixed w default m.mods m.result quiet.result);
      no_result = λ none. no_result known.result none;
      bound = refl;
    }

nothing_more : {A : Type 0} (xs : List A) → xs ++ [] ≡ xs
nothing_more [] = refl
nothing_more (x ∷ xs) = ap (λ ys. x ∷ ys) (nothing_more xs)

-- a method that is made
abbrev pub MadeMethod : (MethodDef → Type 0) → Made → Type 0
MadeMethod P (made.Method d) = P d
MadeMethod P (made.Field d) = ⊥
MadeMethod P (made.Invariant c) = ⊥

byte_less : (n k : ℕ) → n < k → byte n < k
byte_less n k less = omega arith

pub method_well : (w : World) (u : Parts) (n : ℕ) (default : Bool) (m : Method) (counts : Counts) → Knows w u → n < length u.classes
    → QuietHead w n counts m
    → OnStands
    (over_two
    (seen_clauses w (here_of (method_known w.classes n default m)) 0 0 (Stands no_clauses) m.spec)
    (seen_body w (here_of (method_known w.classes n default m)) m.body).is
    (λ spec ss. Stands (made.Method (method_def (method_known w.classes n default m) spec (seen_body w (here_of (method_known w.classes n default m)) m.body).state.sorts ss))))
    (MadeMethod (IsWellMethod u))
method_well w u n default m counts knows within quiet =
    let known : MethodKnown = method_known w.classes n default m in
    let h : Here = here_of known in
    let kinds : List Kind = map (λ (p : ParamDef). p.kind) (map param_def known.params) in
    let body : Ended (List UnitStmt) = seen_body w h m.body in
    let bare : MethodDef = method_def known no_clauses [] [] in
    let entry : Around = around_method u bare (form_of form.Entry) kinds in
    let exit : Around = around_method u bare (form_of form.Exit) kinds in
    let code : Around = around_method u bare (form_of form.Code) (kinds ++ map kind_of body.state.sorts) in
    let same = kinds_same known.params in
    let no_locals = same ∙ sym (nothing_more (map kind_of h.sorts)) in
    on_over_two (FineSpec entry exit) (Done code body.state) (MadeMethod (IsWellMethod u)) (seen_clauses w h 0 0 (Stands no_clauses) m.spec) body.is _
    (clauses_fine w h entry exit m.spec (surrounds w u n default m counts form.Entry [] kinds knows quiet no_locals) (surrounds w u n default m counts form.Exit [] kinds knows quiet no_locals))
    (stmts_fit w h body.state.sorts code 0 m.body no_state (Stands [])
    (surrounds w u n default m counts form.Code body.state.sorts (kinds ++ map kind_of body.state.sorts) knows quiet (ap (λ l. l ++ map kind_of body.state.sorts) same)) (before_refl body.state.sorts)
    (record { fit = refl; holds = no_state_holds code }))
    (λ spec ss fine fits.
    record {
      named = quiet.named;
      in_class = byte_less n (length u.classes) within;
      params_named = words_same w.classes default m.params ∙ params_named w.classes m.params quiet.params;
      params_apart = params_apart w.classes default m.params quiet.params;
      kinds_there = all_both (is_kind_of u) kinds (map kind_of body.state.sorts) (params_there w u default m.params knows quiet.params) (list_all-map (is_kind_of u) kind_of body.state.sorts ∙ fits.holds.there);
      result_there = result_there w u default m.mods m.result knows quiet.result;
      needs = fine.needs;
      gives = fine.gives;
      body = block_fits code ss fits.fit;
      few_params = let P : ℕ → Type 0 = λ x. x ≤ 8 in subst P (sym (length-map known.params param_def ∙ length-map m.params (param_known w.classes default))) (params_few w.classes m.params quiet.params);
      few_needs = fine.few_needs;
      few_gives = fine.few_gives;
    })

-- what the methods above say of a method that is declared
pub known_params : (w : World) (n : ℕ) (default : Bool) (m : Method) (counts : Counts) → QuietHead w n counts m → list_all (λ (p : ParamKnown). is_kind p.sort) (method_known w.classes n default m).params ≡ true
known_params w n default m counts quiet = params_fixed w.classes default m.params quiet.params

pub known_result : (w : World) (n : ℕ) (default : Bool) (m : Method) (counts : Counts) → QuietHead w n counts m → (r : ResultKnown) → (method_known w.classes n default m).result ≡ Some r → is_kind r.sort ≡ true
known_result w n default m counts quiet = result_fixed w default m.mods m.result quiet.result

-- INVARIANTS

around_class : (w : World) (u : Parts) (n : ℕ) → Knows w u → n < length u.classes → Surrounds w (here_in n) form.Entry [] (around_invariant u n)
around_class w u n knows within =
    let few : length u.classes ≤ 16 = knows.few in
    let small : n ≡ byte n = omega arith in
    record {
      knows = knows;
      form = refl;
      receiver = λ static. ap Some small;
      few = omega arith;
      params = refl;
      locals = refl;
      result = λ sort given. absurd (cc);
      no_result = λ none. refl;
      bound = refl;
    }

pub invariant_stands : (w : World) (u : Parts) (n : ℕ) (e : Tree) → Knows w u → n < length u.classes → OnStands (over (seen e (in_clause w (here_in n) form.Entry [])) clause_of) (λ c. is_condition (around_invariant u n) c.expr ≡ true)
invariant_stands w u n e knows within = condition_stands w (here_in n) form.Entry (around_invariant u n) e (around_class w u n knows within)
