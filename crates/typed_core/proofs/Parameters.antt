-- The parameters of a method without a fault: few, of known kinds, and with names of their own.
use Rattle.std.proofs.Common.{◌≡◌, ◌≢◌, ◌≤◌, ◌<◌, ◌+◌, ℕ, zero, suc, Bool, true, false, List, [], ◌∷◌, ◌++◌, Option, None, Some, length, refl, ap, sym, ◌∙◌, subst, arith}
use Rattle.std.specs.Prelude.{map, slice_get, AllPairs, is_none, not, ◌==◌}
use Rattle.std.specs.List.{list_all}
use Rattle.std.proofs.lemmas.Option.{slice_get-map}
use Rattle.std.proofs.lemmas.List.{length-append}
use Rattle.java_tree.specs.Trees.{Param}
use Rattle.taco_unit.specs.declared.unit.ParamDef.{ParamDef}
use Rattle.taco_unit.specs.Parts.{Parts}
use Rattle.taco_unit.specs.Words.{is_word}
use Rattle.taco_unit.specs.Kinds.{is_kind_of}
use Rattle.declared_names.specs.declared.fault.Fault.{Fault}
use Rattle.declared_names.specs.declared.fault.Cause.TheVariants.{Unknown, Twice, TooMany}
use Rattle.refusals.specs.declared.refusal.Many.TheVariants as many
use Rattle.declared_names.specs.declared.world.World.{World}
use Rattle.declared_names.specs.declared.world.ParamKnown.{ParamKnown}
use Rattle.declared_names.specs.Faults.{check}
use Rattle.declared_names.specs.Lookups.{is_key, place_in}
use Rattle.typed_statements.specs.Kinds.{kind_of, param_def}
use Rattle.typed_statements.specs.Heads.{Names, typed_faults, word_faults, param_faults, params_faults, param_known, type_sort}
use Rattle.typed_statements.proofs.Stand.{nothing_left, nothing_right, passes}
use Rattle.typed_statements.proofs.Suits.{is_kind}
use Rattle.taco_unit.proofs.Lists.{append_last}
use Rattle.typed_statements.proofs.Agrees.{Knows, kept, mapped}
use Rattle.typed_statements.proofs.CallKinds.{both_of}
use Rattle.typed_statements.proofs.BodiesFit.{typed_quiet, type_fixed, typed_in_unit}
use Rattle.typed_core.proofs.Each.{apart_from, not_nowhere, is_own_key}

-- what a parameter without a fault keeps
record Quiet (names before : Names) (p : Param) : Type 0 where
  typed : typed_faults names p.mods p.kind ≡ []
  named : is_word p.name.text ≡ true
  fresh : is_none (place_in before 0 p.name.text) ≡ true
  few : not (length before == 8) ≡ true

quiet_one : (names before : Names) (p : Param) → param_faults names before p ≡ [] → Quiet names before p
quiet_one names before p quiet =
    let a : List Fault = typed_faults names p.mods p.kind in
    let b : List Fault = check (is_none (place_in before 0 p.name.text)) p.name.at Twice in
    let c : List Fault = check (not (length before == 8)) p.name.at (TooMany many.Params) in
    let e : List Fault = word_faults p.name in
    let named_rest = nothing_right a (e ++ (b ++ c)) quiet in
    let rest = nothing_right e (b ++ c) named_rest in
    record {
      typed = nothing_left a (e ++ (b ++ c)) quiet;
      named = passes (is_word p.name.text) p.name.at Unknown (nothing_left e (b ++ c) named_rest);
      fresh = passes (is_none (place_in before 0 p.name.text)) p.name.at Twice (nothing_left b c rest);
      few = passes (not (length before == 8)) p.name.at (TooMany many.Params) (nothing_right b c rest);
    }

-- one more name
abbrev and_name : Names → Param → Names
and_name before p = before ++ (0, p.name.text) ∷ []

first_quiet : (names before : Names) (p : Param) (ps : List Param) → params_faults names before (p ∷ ps) ≡ [] → Quiet names before p
first_quiet names before p ps quiet = quiet_one names before p (nothing_left (param_faults names before p) (params_faults names (and_name before p) ps) quiet)

rest_quiet : (names before : Names) (p : Param) (ps : List Param) → params_faults names before (p ∷ ps) ≡ [] → params_faults names (and_name before p) ps ≡ []
rest_quiet names before p ps quiet = nothing_right (param_faults names before p) (params_faults names (and_name before p) ps) quiet

not_eight : (n : ℕ) → n ≤ 8 → not (n == 8) ≡ true → n + 1 ≤ 8
not_eight n few is = by_order (n == 8) refl is
  where
    by_order : (b : Bool) → (n == 8) ≡ b → not b ≡ true → n + 1 ≤ 8
    by_order true same test = absurd (cc)
    by_order false other test = grind (arith, other)

few_from : (names before : Names) (ps : List Param) → length before ≤ 8 → params_faults names before ps ≡ [] → length before + length ps ≤ 8
few_from names before [] few quiet = omega arith
few_from names before (p ∷ ps) few quiet =
    let own = first_quiet names before p ps quiet in
    let more : length (and_name before p) ≡ length before + 1 = length-append before ((0, p.name.text) ∷ []) in
    let less : length (and_name before p) ≤ 8 = let P : ℕ → Type 0 = λ n. n ≤ 8 in subst P (sym more) (not_eight (length before) few own.few) in
    let all : length (and_name before p) + length ps ≤ 8 = few_from names (and_name before p) ps less (rest_quiet names before p ps quiet) in
    omega (arith, more, all)

pub params_few : (names : Names) (ps : List Param) → params_faults names [] ps ≡ [] → length ps ≤ 8
params_few names ps quiet = let all : 0 + length ps ≤ 8 = few_from names [] ps (omega arith) quiet in omega arith

fixed_from : (names before : Names) (default : Bool) (ps : List Param) → params_faults names before ps ≡ [] → list_all (λ (p : ParamKnown). is_kind p.sort) (map (param_known names default) ps) ≡ true
fixed_from names before default [] quiet = refl
fixed_from names before default (p ∷ ps) quiet =
    both_of (is_kind (type_sort names p.kind)) _ (type_fixed names p.kind (typed_quiet names p.mods p.kind (first_quiet names before p ps quiet).typed))
    (fixed_from names (and_name before p) default ps (rest_quiet names before p ps quiet))

pub params_fixed : (names : Names) (default : Bool) (ps : List Param) → params_faults names [] ps ≡ [] → list_all (λ (p : ParamKnown). is_kind p.sort) (map (param_known names default) ps) ≡ true
params_fixed names default ps quiet = fixed_from names [] default ps quiet

there_from : (w : World) (u : Parts) (before : Names) (default : Bool) (ps : List Param) → Knows w u → params_faults w.classes before ps ≡ []
    → list_all (is_kind_of u) (map (λ (p : ParamDef). p.kind) (map param_def (map (param_known w.classes default) ps))) ≡ true
there_from w u before default [] knows quiet = refl
there_from w u before default (p ∷ ps) knows quiet =
    both_of (is_kind_of u (kind_of (type_sort w.classes p.kind))) _ (typed_in_unit w u p.mods p.kind knows (first_quiet w.classes before p ps quiet).typed).there
    (there_from w u (and_name before p) default ps knows (rest_quiet w.classes before p ps quiet))

pub params_there : (w : World) (u : Parts) (default : Bool) (ps : List Param) → Knows w u → params_faults w.classes [] ps ≡ []
    → list_all (is_kind_of u) (map (λ (p : ParamDef). p.kind) (map param_def (map (param_known w.classes default) ps))) ≡ true
params_there w u default ps knows quiet = there_from w u [] default ps knows quiet

named_from : (names before : Names) (ps : List Param) → params_faults names before ps ≡ [] → list_all (λ (p : Param). is_word p.name.text) ps ≡ true
named_from names before [] quiet = refl
named_from names before (p ∷ ps) quiet = both_of (is_word p.name.text) _ (first_quiet names before p ps quiet).named (named_from names (and_name before p) ps (rest_quiet names before p ps quiet))

pub params_named : (names : Names) (ps : List Param) → params_faults names [] ps ≡ [] → list_all (λ (p : Param). is_word p.name.text) ps ≡ true
params_named names ps quiet = named_from names [] ps quiet

-- NAMES OF THEIR OWN

is_nothing : (o : Option ℕ) → is_none o ≡ true → o ≡ None
is_nothing None is = refl
is_nothing (Some n) is = absurd (cc)

fresh_differs : (before : Names) (name fresh : List ℕ) (i : ℕ) → slice_get before i ≡ Some (0, name) → place_in before 0 fresh ≡ None → name ≢ fresh
fresh_differs before name fresh i there none same =
    let P : List ℕ → Type 0 = λ n. is_key 0 fresh (0, n) ≡ true in
    not_nowhere (is_key 0 fresh) before i (0, name) there (subst P (sym same) (is_own_key 0 fresh)) none

later_differs : (names before : Names) (ps : List Param) → params_faults names before ps ≡ [] → (i : ℕ) (name : List ℕ) → slice_get before i ≡ Some (0, name) → (j : ℕ) (q : Param) → slice_get ps j ≡ Some q → name ≢ q.name.text
later_differs names before [] quiet i name there j q is = absurd (cc)
later_differs names before (p ∷ ps) quiet i name there zero q is =
    let same : p ≡ q = cc in
    let P : Param → Type 0 = λ r. name ≢ r.name.text in
    subst P same (fresh_differs before name p.name.text i there (is_nothing (place_in before 0 p.name.text) (first_quiet names before p ps quiet).fresh))
later_differs names before (p ∷ ps) quiet i name there (suc j) q is =
    later_differs names (and_name before p) ps (rest_quiet names before p ps quiet) i name (kept before ((0, p.name.text) ∷ []) i (0, name) there) j q is

differ_from : (names before : Names) (ps : List Param) → params_faults names before ps ≡ [] → (i j : ℕ) (p q : Param) → i < j → slice_get ps i ≡ Some p → slice_get ps j ≡ Some q → p.name.text ≢ q.name.text
differ_from names before [] quiet i j p q less is_p is_q = absurd (cc)
differ_from names before (x ∷ ps) quiet i zero p q less is_p is_q = absurd (omega arith)
differ_from names before (x ∷ ps) quiet zero (suc j) p q less is_p is_q =
    let same : x ≡ p = cc in
    let P : Param → Type 0 = λ r. r.name.text ≢ q.name.text in
    subst P same (later_differs names (and_name before x) ps (rest_quiet names before x ps quiet) (length before) x.name.text (append_last before (0, x.name.text)) j q is_q)
differ_from names before (x ∷ ps) quiet (suc i) (suc j) p q less is_p is_q = differ_from names (and_name before x) ps (rest_quiet names before x ps quiet) i j p q (omega arith) is_p is_q

-- the parameter that a parameter of the unit comes from
from_param : (names : Names) (default : Bool) (ps : List Param) (i : ℕ) (x : ParamDef) → slice_get (map param_def (map (param_known names default) ps)) i ≡ Some x → (p : Param) × (slice_get ps i ≡ Some p) × (x.name ≡ p.name.text)
from_param names default ps i x is =
    let outer = mapped param_def (slice_get (map (param_known names default) ps) i) x (sym (slice_get-map param_def (map (param_known names default) ps) i) ∙ is) in
    let inner = mapped (param_known names default) (slice_get ps i) outer.0 (sym (slice_get-map (param_known names default) ps i) ∙ outer.1) in
    (inner.0, inner.1, ap (λ (d : ParamDef). d.name) (sym outer.2) ∙ ap (λ (k : ParamKnown). k.name) (sym inner.2))

pub params_apart : (names : Names) (default : Bool) (ps : List Param) → params_faults names [] ps ≡ [] → AllPairs (λ (p : ParamDef) (q : ParamDef). p.name ≢ q.name) (map param_def (map (param_known names default) ps))
params_apart names default ps quiet =
    apart_from (λ (p : ParamDef) (q : ParamDef). p.name ≢ q.name) (map param_def (map (param_known names default) ps))
    (λ i j x y less is_x is_y same.
    let a = from_param names default ps i x is_x in
    let b = from_param names default ps j y is_y in
    differ_from names [] ps quiet i j a.0 b.0 less a.1 b.1 (sym a.2 ∙ same ∙ b.2))
