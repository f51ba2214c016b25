-- What each kind of text is found to be.
use Rattle.std.proofs.Common.{◌≡◌, ℕ, ◌^◌, ◌<◌, ◌≤◌, List, [], ◌∷◌, length, Option, Some, None, refl, sym, ap, subst, ◌∙◌, arith}
use Rattle.std.specs.Prelude.{position}
use Rattle.std.proofs.lemmas.List.Quantifiers.{position-Some}
use Rattle.cnf_core.specs.Clauses.{Clauses}
use Rattle.declared_names.specs.Seen.{Seen, Stands, Faulty as FaultySeen, over}
use Rattle.derivation.specs.Runs.{words_of}
use Rattle.heap_core.specs.Posed.{InRange, Posed}
use Rattle.formula_commands.specs.Texts.{text_limit, IsFormula, IsNoFormula, IsLog, IsNoLog}
use Rattle.posed_files.specs.Problems.{java_limit, IsPosed, IsRefused, LacksMethod, Names}
use Rattle.refusals.specs.declared.refusal.Refusal.{Refusal}
use Rattle.replay_command.specs.ReplayCommand.{state_limit, IsNoState, IsState}
use Rattle.source_units.proofs.OneVerdict.{one}
use Rattle.source_units.specs.Reading.{Reads, Faulty}
use Rattle.source_units.specs.Told.{Unit_, Fault_}
use Rattle.taco_report.proofs.FittingStarts.{fitting_text}
use Rattle.taco_report.proofs.OneStart.{one_start}
use Rattle.taco_unit.specs.Named.{class_number, is_method_named, method_number}
use Rattle.taco_unit.specs.declared.unit.MethodDef.{MethodDef}
use Rattle.taco_unit.specs.Parts.{Parts}
use Rattle.taco_unit.specs.Scopes.{IsScope}
use Rattle.taco_unit.specs.Well.{IsWell}
use Rattle.taco_words.specs.declared.request.Job.{Job}
use Rattle.typed_core.proofs.WellUnit.{text_well}
use Rattle.typed_core.specs.Members.{seen_text, unit_of}
use Rattle.typed_statements.proofs.Stand.{OnStands}
use Rattle.answer_laws.proofs.Found.{AreTold}
use Rattle.answer_laws.proofs.FormulaPlaces.{one_fault as one_formula_fault}
use Rattle.answer_laws.proofs.LogPlaces.{one_bad}
use Rattle.answer_laws.proofs.StatePlaces.{one_place}

-- JAVA

same_unit : (bytes : List ℕ) (u v : Parts) → Reads bytes u → Reads bytes v → u ≡ v
same_unit bytes u v x y = let h : Unit_ u ≡ Unit_ v = one bytes (Unit_ u) (Unit_ v) x y in cc

-- the first fault of a Java text, or none where the method is lacking
abbrev pub PosesNot : List ℕ → Job → Option Refusal → Type 0
PosesNot bytes job (Some refusal) = IsRefused bytes refusal
PosesNot bytes job None = LacksMethod bytes job

some_one : (o : Option ℕ) (a b : ℕ) → o ≡ Some a → o ≡ Some b → a ≡ b
some_one o a b x y = cc

same_numbers : (u : Parts) (job : Job) (c d m n : ℕ) → Names u job c m → Names u job d n → m ≡ n
same_numbers u job c d m n x y =
    let classes : c ≡ d = some_one (class_number u job.class) c d x.the_class y.the_class in
    some_one (method_number u d job.method) m n (subst (λ (k : ℕ). method_number u k job.method ≡ Some m) classes x.the_method) y.the_method

same_problem : (bytes : List ℕ) (job : Job) (p q : Posed) → IsPosed bytes job p → IsPosed bytes job q → p ≡ q
same_problem bytes job p q x y =
    let units : p.unit ≡ q.unit = same_unit bytes p.unit q.unit x.reads y.reads in
    let methods : p.method ≡ q.method =
    same_numbers q.unit job x.class y.class p.method q.method (subst (λ (u : Parts). Names u job x.class p.method) units x.names) y.names in
    let scopes : p.scope ≡ q.scope = x.scope ∙ sym y.scope in
    ap (λ u. let r : Posed = record { unit = u; method = p.method; scope = p.scope } in r) units
    ∙ ap (λ m. let r : Posed = record { unit = q.unit; method = m; scope = p.scope } in r) methods
    ∙ ap (λ s. let r : Posed = record { unit = q.unit; method = q.method; scope = s } in r) scopes

read_or_faulty : (bytes : List ℕ) (u : Parts) (r : Refusal) → Reads bytes u → Faulty bytes r → ⊥
read_or_faulty bytes u r x y = let h : Unit_ u ≡ Fault_ r = one bytes (Unit_ u) (Fault_ r) x y in cc

posed_or_not : (bytes : List ℕ) (job : Job) (p : Posed) (e : Option Refusal) → IsPosed bytes job p → PosesNot bytes job e → ⊥
posed_or_not bytes job p (Some r) x y = read_or_faulty bytes p.unit r x.reads y.faulty
posed_or_not bytes job p None x y =
    y.lacks x.class p.method (subst (λ (u : Parts). Names u job x.class p.method) (same_unit bytes p.unit y.unit x.reads y.reads) x.names)

one_reason : (bytes : List ℕ) (job : Job) (d e : Option Refusal) → PosesNot bytes job d → PosesNot bytes job e → d ≡ e
one_reason bytes job (Some r) (Some s) x y = let h : Fault_ r ≡ Fault_ s = one bytes (Fault_ r) (Fault_ s) x.faulty y.faulty in cc
one_reason bytes job (Some r) None x y = absurd (read_or_faulty bytes y.unit r y.reads x.faulty)
one_reason bytes job None (Some s) x y = absurd (read_or_faulty bytes x.unit s x.reads y.faulty)
one_reason bytes job None None x y = refl

not_short : (bytes : List ℕ) (job : Job) (e : Option Refusal) → PosesNot bytes job e → length bytes ≤ java_limit
not_short bytes job (Some r) x = x.short
not_short bytes job None x = x.short

pub java_told : (bytes : List ℕ) (job : Job) → AreTold java_limit (IsPosed bytes job) (PosesNot bytes job) bytes
java_told bytes job =
    record {
      is_short = λ p x. x.short;
      no_short = not_short bytes job;
      apart = posed_or_not bytes job;
      one_value = same_problem bytes job;
      one_fault = one_reason bytes job;
    }

-- FORMULAS AND LOGS

pub formula_told : (bytes : List ℕ) → AreTold text_limit (IsFormula bytes) (IsNoFormula bytes) bytes
formula_told bytes =
    record {
      is_short = λ v x. x.short;
      no_short = λ e x. x.short;
      apart = λ v e x y. y.none v x.text;
      one_value = λ v w x y. x.only w y.text;
      one_fault = λ d e x y. one_formula_fault (words_of bytes) (length bytes) d e x.first y.first;
    }

pub log_told : (vars : ℕ) (bytes : List ℕ) → vars < 2 ^ 31 → AreTold text_limit (IsLog vars bytes) (IsNoLog vars bytes) bytes
log_told vars bytes small =
    record {
      is_short = λ v x. x.short;
      no_short = λ e x. x.short;
      apart = λ v e x y. y.none v x.text;
      one_value = λ v w x y. x.only w y.text;
      one_fault = λ d e x y. one_bad vars bytes d e small x.first y.first;
    }

pub few_vars : (bytes : List ℕ) (v : Clauses) → IsFormula bytes v → v.vars < 2 ^ 31
few_vars bytes v x = omega (arith, x.text.spelled.small.vars)

-- STATES

well_seen : {B : Type 0} (unit : B → Parts) (s : Seen B) (u : Parts) → over s (λ b. Stands (unit b)) ≡ Stands u → OnStands s (λ b. IsWell (unit b)) → IsWell u
unfolding over
well_seen unit (Stands b) u is h = let same : unit b ≡ u = cc in subst IsWell same h
well_seen unit (FaultySeen f fs) u is h = absurd (cc)

-- a unit that is read is well
well_read : (bytes : List ℕ) (u : Parts) → Reads bytes u → IsWell u
well_read bytes u x = well_seen unit_of (seen_text x.classes) u x.stands (text_well x.classes)

pub posed_well : (bytes : List ℕ) (job : Job) (p : Posed) → IsPosed bytes job p → IsWell p.unit
posed_well bytes job p x = well_read bytes p.unit x.reads

pub posed_range : (bytes : List ℕ) (job : Job) (p : Posed) → IsScope job.scope → IsPosed bytes job p → InRange p
posed_range bytes job p scope x =
    record { method_there = below p.unit.methods x.names.the_method; scope = subst IsScope (sym x.scope) scope }
  where
    below : (ms : List MethodDef) → position (is_method_named x.class job.method) ms ≡ Some p.method → p.method < length ms
    below [] is = absurd (cc)
    below (m ∷ ms) is = (position-Some (is_method_named x.class job.method) (m ∷ ms) p.method m is).0

pub state_told : (p : Posed) (bytes : List ℕ) → IsWell p.unit → InRange p → AreTold state_limit (IsState p bytes) (IsNoState p bytes) bytes
state_told p bytes well range =
    record {
      is_short = λ v x. x.short;
      no_short = λ e x. x.short;
      apart = λ s e x y. y.none s x.fits x.text;
      one_value = λ s t x y. one_start p bytes s t well (fitting_text p bytes s range x.fits x.text) (fitting_text p bytes t range y.fits y.text);
      one_fault = λ d e x y. one_place p bytes d e well x.first y.first;
    }
