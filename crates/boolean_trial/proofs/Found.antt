-- What the trial of all lists says of the method.
use Rattle.std.proofs.Common.{◌≡◌, ℕ, Bool, true, false, List, [], ◌∷◌, length, Option, Some, None, sym, ap, ◌∙◌, subst}
use Rattle.std.specs.Prelude.{slice_get, MatchOption, IfOk, Result, Ok, Err, if◌then◌else◌}
use Rattle.std.specs.List.{list_all}
use Rattle.taco_unit.specs.declared.expr.Expr.{Expr}
use Rattle.taco_unit.specs.declared.stmt.Stmt.TheVariants as s
use Rattle.taco_unit.specs.declared.unit.MethodDef.{MethodDef}
use Rattle.heap_core.specs.declared.judged.Part.TheVariants as part
use Rattle.heap_core.specs.declared.judged.Judged.TheVariants.{NotAsked, Breaks, Meets}
use Rattle.heap_core.specs.declared.judged.Part.{Part}
use Rattle.heap_core.specs.Posed.{Posed}
use Rattle.heap_core.specs.Judge.{judged, Violates, Violable}
use Rattle.boolean_trial.specs.declared.trial.Breach.{Breach}
use Rattle.boolean_trial.specs.Found.{Finds}
use Rattle.boolean_trial.specs.Plain.{IsPlain, IsPlainMethod}
use Rattle.boolean_trial.specs.Truth.{truth_of}
use Rattle.boolean_trial.specs.Trial.{start_of, first_untrue, failing, NoneFails}
use Rattle.boolean_trial.proofs.Judging.{broken_at, judged_plain}
use Rattle.boolean_trial.proofs.Starts.{start_fits, only_starts}

some_broken : (asked : Bool) (first : Option ℕ) (k : ℕ) → (if asked then first else None) ≡ Some k → (if asked then broken_at first else NotAsked) ≡ Breaks (part.Ensures k)
some_broken true first k is = ap broken_at is
some_broken false first k is = absurd (cc)

none_broken : (asked : Bool) (first : Option ℕ) (b : Part) → (if asked then first else None) ≡ None → (if asked then broken_at first else NotAsked) ≡ Breaks b → ⊥
none_broken true first b is breaks = let meets : Meets ≡ Breaks b = sym (ap broken_at is) ∙ breaks in cc
none_broken false first b is breaks = cc

pub violation : (p : Posed) (m : MethodDef) (plain : IsPlainMethod m) (args : List Bool) (k : ℕ) → slice_get p.unit.methods p.method ≡ Some m → length args ≡ length m.params
    → failing m.needs plain.value m.gives args ≡ Some k → Violates p (start_of args) (part.Ensures k)
violation p m plain args k there same fails =
    record {
      fits = start_fits p m plain args same there;
      breaks = judged_plain p m plain args same there ∙ some_broken (list_all (λ c. truth_of c.expr args false) m.needs) (first_untrue 1 m.gives args (truth_of plain.value args false)) k fails;
    }

pub no_violation : (p : Posed) (m : MethodDef) (plain : IsPlainMethod m) → slice_get p.unit.methods p.method ≡ Some m
    → NoneFails (failing m.needs plain.value m.gives) [] (length m.params) → Violable p → ⊥
no_violation p m plain there none (s, b, violates) =
    let start = only_starts p m plain s there violates.fits in
    let breaks : judged p (start_of start.args) ≡ Breaks b = ap (judged p) (sym start.is) ∙ violates.breaks in
    none_broken (list_all (λ c. truth_of c.expr start.args false) m.needs) (first_untrue 1 m.gives start.args (truth_of plain.value start.args false)) b (none.none start.args start.same)
    (sym (judged_plain p m plain start.args start.same there) ∙ breaks)

-- the same of a plain method
by_found : (p : Posed) (m : MethodDef) (plain : IsPlainMethod m) → slice_get p.unit.methods p.method ≡ Some m → (found : Option Breach) → Finds m plain.value found
    → MatchOption found (Violable p → ⊥) (λ b. Violates p b.start b.part)
by_found p m plain there None none = no_violation p m plain there none
by_found p m plain there (Some b) failing_ =
    subst (λ q. Violates p b.start q) (sym failing_.is_part)
    (subst (λ q. Violates p q (part.Ensures failing_.number)) (sym failing_.is_start) (violation p m plain failing_.args failing_.number there failing_.same failing_.fails))

-- what the trial of the method finds is so of the problem
pub found_is : (p : Posed) (m : MethodDef) (value : Expr) → IsPlain p.unit p.method → slice_get p.unit.methods p.method ≡ Some m
    → ((v : Expr) → m.body ≡ s.Block (s.Return (Some v) ∷ []) → Some value ≡ Some v) → (found : Option Breach) → Finds m value found
    → MatchOption found (Violable p → ⊥) (λ b. Violates p b.start b.part)
found_is p m value plain there body found finds =
    let def_is : plain.def ≡ m = let both : Some plain.def ≡ Some m = sym plain.there ∙ there in cc in
    let method : IsPlainMethod m = subst IsPlainMethod def_is plain.plain in
    let value_is : value ≡ method.value = let both : Some value ≡ Some method.value = body method.value method.body in cc in
    by_found p m method there found (subst (λ v. Finds m v found) value_is finds)

-- what follows of the value of an `Ok`
pub if_ok_more : {T E : Type 0} (P Q : T → Type 0) (r : Result T E) → ((x : T) → P x → Q x) → IfOk r P → IfOk r Q
if_ok_more P Q (Ok x) more holds = more x holds
if_ok_more P Q (Err e) more holds = tt
