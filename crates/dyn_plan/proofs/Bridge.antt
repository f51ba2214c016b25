-- The program of a plan runs as the plan does.
use Rattle.std.proofs.Common.{◌≡◌, ℕ, zero, suc, Bool, true, false, List, [], ◌∷◌, ◌++◌, Option, Some, None, refl, sym, ◌∙◌, ap, subst}
use Rattle.std.specs.Prelude.{if◌then◌else◌, map, flat_map, option_and_then}
use Rattle.std.specs.List.{AllByRecursion}
use Rattle.std.specs.Option.{option_to_list}
use Rattle.std.proofs.lemmas.List.{append-nil}
use Rattle.std.proofs.lemmas.Grind.{flat_map-append}
use Rattle.heap_core.specs.declared.value.Value.{Value}
use Rattle.heap_core.specs.declared.value.Value.TheVariants.{Null, Obj, Num, Flag}
use Rattle.heap_core.specs.Outcomes.{is_value}
use Rattle.heap_core.specs.Posed.{Posed}
use Rattle.dyn_core.specs.declared.prog.Prog.{Prog}
use Rattle.dyn_core.specs.declared.prog.Prog.TheVariants as q
use Rattle.dyn_core.specs.declared.state.DynState.{DynState}
use Rattle.dyn_core.specs.States.{var_at}
use Rattle.dyn_core.specs.Runs.{LastStates, passes, one_by_one, up_to, ends}
use Rattle.dyn_core.proofs.Forms.{ends_act, ends_test, ends_seq, ends_choice, ends_star}
use Rattle.dyn_plan.specs.declared.plan.Plan.{Plan, ind-Plan, roll-Plan, map-Plan}
use Rattle.dyn_plan.specs.declared.plan.Plan.TheOpen.{Plan-F}
use Rattle.dyn_plan.specs.declared.plan.Plan.TheVariants as l
use Rattle.dyn_plan.specs.Plans.{Next, by_flag, while_true, next, go}
use Rattle.dyn_plan.specs.Programs.{program_of_step}
use Rattle.dyn_plan.specs.Laws.{PlansRunAsPrograms}
use Rattle.dyn_plan.proofs.PlanForms.{next_do, next_fail, next_if, next_while, program_do, program_fail, program_if, program_while}

-- ## lists of at most one state

flat_option : (f : LastStates) (g : Next) → ((t : DynState) → f t ≡ option_to_list (g t)) → (o : Option DynState) → flat_map f (option_to_list o) ≡ option_to_list (option_and_then g o)
flat_option f g same None = refl
flat_option f g same (Some t) = rw (append-nil (f t)) (same t)

if_flat : (b : Bool) (f : LastStates) (s : DynState) → flat_map f (if b then s ∷ [] else []) ≡ (if b then f s else [])
if_flat true f s = append-nil (f s)
if_flat false f s = refl

flat_flat : (f g : LastStates) (xs : List DynState) → flat_map f (flat_map g xs) ≡ flat_map (λ x. flat_map f (g x)) xs
flat_flat f g [] = refl
flat_flat f g (x ∷ xs) = flat_map-append f (g x) (flat_map g xs) ∙ ap (λ z. flat_map f (g x) ++ z) (flat_flat f g xs)

two_branches : (v : Value) (taken other : Option DynState) → (if is_value (Flag true) v then option_to_list taken else []) ++
    ((if is_value (Flag false) v then option_to_list other else []) ++ []) ≡ option_to_list (by_flag v taken other)
two_branches (Flag true) taken other = append-nil (option_to_list taken)
two_branches (Flag false) taken other = append-nil (option_to_list other)
two_branches Null taken other = refl
two_branches (Obj o) taken other = refl
two_branches (Num z) taken other = refl

end_or_turn : (v : Value) (taken other : Option DynState) → (if is_value (Flag false) v then option_to_list other else []) ++
    (if is_value (Flag true) v then option_to_list taken else []) ≡ option_to_list (by_flag v taken other)
end_or_turn (Flag true) taken other = refl
end_or_turn (Flag false) taken other = append-nil (option_to_list other)
end_or_turn Null taken other = refl
end_or_turn (Obj o) taken other = refl
end_or_turn (Num z) taken other = refl

if_nothing : (b : Bool) → let none : List DynState = [] in (if b then none else none) ≡ none
if_nothing true = refl
if_nothing false = refl

if_option : (b : Bool) (f : LastStates) (g : Next) → ((t : DynState) → f t ≡ option_to_list (g t)) → (o : Option DynState)
    → flat_map f (if b then option_to_list o else []) ≡ (if b then option_to_list (option_and_then g o) else [])
if_option true f g same o = flat_option f g same o
if_option false f g same o = refl

-- ## each step

-- the program of the step has the last state to which the step leads
abbrev Bridged : Posed → ℕ → Plan → Type 0
Bridged p n x = (s : DynState) → ends p n (program_of_step x) s ≡ option_to_list (next p n x s)

line : (p : Posed) (n : ℕ) (xs : List Plan) → AllByRecursion (Bridged p n) xs → (s : DynState) → one_by_one (map (ends p n) (map program_of_step xs)) s ≡ option_to_list (go p n xs s)
line p n [] all s = refl
line p n (x ∷ xs) all s = rw (all.0 s) (flat_option (one_by_one (map (ends p n) (map program_of_step xs))) (go p n xs) (line p n xs all.1) (next p n x s))

-- steps behind a test
tested : (p : Posed) (n x : ℕ) (b : Bool) (xs : List Plan) → AllByRecursion (Bridged p n) xs → (s : DynState)
    → ends p n (q.Seq (q.Test x b ∷ map program_of_step xs)) s ≡ (if passes x b s then option_to_list (go p n xs s) else [])
tested p n x b xs all s =
    let rest : LastStates = one_by_one (map (ends p n) (map program_of_step xs)) in
    ends_seq p n (q.Test x b ∷ map program_of_step xs) s
    ∙ ap (flat_map rest) (ends_test p n x b s)
    ∙ if_flat (passes x b s) rest s
    ∙ ap (λ z. if passes x b s then z else []) (line p n xs all s)

-- a loop of at most m turns, whose last test ends it
looped : (m x : ℕ) (e last : LastStates) (g : Next) → ((s : DynState) → e s ≡ (if passes x true s then option_to_list (g s) else []))
    → ((s : DynState) → last s ≡ (if passes x false s then s ∷ [] else [])) → (s : DynState) → flat_map last (up_to m e s) ≡ option_to_list (while_true m x g s)
looped zero x e last g turn ending s =
    append-nil (last s)
    ∙ ending s
    ∙ sym (append-nil (if passes x false s then s ∷ [] else []))
    ∙ ap (λ z. (if passes x false s then s ∷ [] else []) ++ z) (sym (if_nothing (passes x true s)))
    ∙ end_or_turn (var_at s.vars x) None (Some s)
looped (suc m) x e last g turn ending s =
    let later : LastStates = λ t. flat_map last (up_to m e t) in
    let more : flat_map later (e s) ≡ (if passes x true s then option_to_list (option_and_then (while_true m x g) (g s)) else []) =
    ap (flat_map later) (turn s) ∙ if_option (passes x true s) later (while_true m x g) (looped m x e last g turn ending) (g s) in
    ap (λ z. last s ++ z) (flat_flat last (up_to m e) (e s) ∙ more)
    ∙ ap (λ z. z ++ (if passes x true s then option_to_list (option_and_then (while_true m x g) (g s)) else [])) (ending s)
    ∙ end_or_turn (var_at s.vars x) (option_and_then (while_true m x g) (g s)) (Some s)

-- a last test alone
last_test : (p : Posed) (n x : ℕ) (s : DynState) → one_by_one (ends p n (q.Test x false) ∷ []) s ≡ (if passes x false s then s ∷ [] else [])
last_test p n x s = ap (flat_map (λ t. t ∷ [])) (ends_test p n x false s) ∙ if_flat (passes x false s) (λ t. t ∷ []) s

-- ## the forms

for_if : (p : Posed) (n x : ℕ) (taken other : List Plan) → AllByRecursion (Bridged p n) taken → AllByRecursion (Bridged p n) other → Bridged p n (l.If x taken other)
for_if p n x taken other all none s =
    let first : Prog = q.Seq (q.Test x true ∷ map program_of_step taken) in
    let second : Prog = q.Seq (q.Test x false ∷ map program_of_step other) in
    ap (λ y. ends p n y s) (program_if x taken other)
    ∙ ends_choice p n (first ∷ second ∷ []) s
    ∙ ap (λ z. z ++ (ends p n second s ++ [])) (tested p n x true taken all s)
    ∙ ap (λ z. (if passes x true s then option_to_list (go p n taken s) else []) ++ (z ++ [])) (tested p n x false other none s)
    ∙ two_branches (var_at s.vars x) (go p n taken s) (go p n other s)
    ∙ ap option_to_list (sym (next_if p n x taken other s))

for_while : (p : Posed) (n x : ℕ) (body : List Plan) → AllByRecursion (Bridged p n) body → Bridged p n (l.While x body)
for_while p n x body all s =
    let turn : Prog = q.Seq (q.Test x true ∷ map program_of_step body) in
    ap (λ y. ends p n y s) (program_while x body)
    ∙ ends_seq p n (q.Star turn ∷ q.Test x false ∷ []) s
    ∙ ap (flat_map (one_by_one (ends p n (q.Test x false) ∷ []))) (ends_star p n turn s)
    ∙ looped n x (ends p n turn) (one_by_one (ends p n (q.Test x false) ∷ [])) (go p n body) (tested p n x true body all) (last_test p n x) s
    ∙ ap option_to_list (sym (next_while p n x body s))

all_of : (P : Plan → Type 0) (xs : List ((x : Plan) × P x)) → AllByRecursion P (map (λ x. x.0) xs)
all_of P [] = tt
all_of P (x ∷ xs) = (x.1, all_of P xs)

layer : (p : Posed) (n : ℕ) (y : Plan-F ((x : Plan) × Bridged p n x)) → Bridged p n (roll-Plan (map-Plan ((x : Plan) × Bridged p n x) Plan (λ x. x.0) y))
layer p n (Plan-F.Do a) = rw (l.rolls-Do a) (λ s. ap (λ y. ends p n y s) (program_do a) ∙ ends_act p n a s ∙ ap option_to_list (sym (next_do p n a s)))
layer p n Plan-F.Fail = rw l.rolls-Fail (λ s. ap (λ y. ends p n y s) program_fail ∙ ends_choice p n [] s ∙ ap option_to_list (sym (next_fail p n s)))
layer p n (Plan-F.If x taken other) =
    rw (l.rolls-If x (map (λ y. y.0) taken) (map (λ y. y.0) other))
    (for_if p n x (map (λ y. y.0) taken) (map (λ y. y.0) other) (all_of (Bridged p n) taken) (all_of (Bridged p n) other))
layer p n (Plan-F.While x body) =
    rw (l.rolls-While x (map (λ y. y.0) body)) (for_while p n x (map (λ y. y.0) body) (all_of (Bridged p n) body))

bridged : (p : Posed) (n : ℕ) (x : Plan) → Bridged p n x
bridged p n = ind-Plan (Bridged p n) (λ x y is. subst (λ z. Bridged p n (roll-Plan z)) is (layer p n y))

all_bridged : (p : Posed) (n : ℕ) (xs : List Plan) → AllByRecursion (Bridged p n) xs
all_bridged p n [] = tt
all_bridged p n (x ∷ xs) = (bridged p n x, all_bridged p n xs)

pub plans_run_as_programs : PlansRunAsPrograms
plans_run_as_programs p n steps s = ends_seq p n (map program_of_step steps) s ∙ line p n steps (all_bridged p n steps) s
