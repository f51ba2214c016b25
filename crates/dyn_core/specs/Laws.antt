-- Laws of the definitions, which contracts of this crate name.
use Rattle.std.specs.Prelude.{◌≡◌, ◌↔◌, ℕ, ◌≤◌, Bool, List, [], ◌∷◌, Some, IsTrue, Any, replicate}
use Rattle.taco_unit.specs.declared.kind.Kind.{Kind}
use Rattle.taco_unit.specs.Well.{IsWell}
use Rattle.heap_core.specs.declared.value.Value.TheVariants.{Flag}
use Rattle.heap_core.specs.Posed.{Posed}
use Rattle.dyn_core.specs.declared.prog.Act.{Act}
use Rattle.dyn_core.specs.declared.prog.Prog.{Prog}
use Rattle.dyn_core.specs.declared.prog.Prog.TheVariants as q
use Rattle.dyn_core.specs.declared.state.DynState.{DynState}
use Rattle.dyn_core.specs.States.{var_at}
use Rattle.dyn_core.specs.Actions.{acted}
use Rattle.dyn_core.specs.Runs.{ends, RunUpTo, Run}
use Rattle.dyn_core.specs.Kinds.{is_kinded, HasKinds, KeepsKinds}
use Rattle.dyn_core.specs.Unrolled.{starless}

-- which programs lead from which state to which
abbrev pub Leads : Type 1
Leads = Prog → DynState → DynState → Type 0

-- a chain: each of these programs in order leads on from where the one before it ended
abbrev pub Chain : Leads → List Prog → DynState → DynState → Type 0
Chain R [] s t = s ≡ t
Chain R (x ∷ more) s t = (between : DynState) × R x s between × Chain R more between t

-- the runs by cases, where an iteration may take the numbers of turns that are `allowed`
pub record ByCases (p : Posed) (allowed : ℕ → Type 0) (R : Leads) : Type 0 where
  pub act : (a : Act) (s t : DynState) → R (q.Act a) s t ↔ (acted p a s ≡ Some t)
  pub test : (x : ℕ) (b : Bool) (s t : DynState) → R (q.Test x b) s t ↔ ((var_at s.vars x ≡ Flag b) × (s ≡ t))
  pub seq : (parts : List Prog) (s t : DynState) → R (q.Seq parts) s t ↔ Chain R parts s t
  pub choice : (parts : List Prog) (s t : DynState) → R (q.Choice parts) s t ↔ Any (λ x. R x s t) parts
  pub star : (body : Prog) (s t : DynState) → R (q.Star body) s t ↔ ((k : ℕ) × allowed k × Chain R (replicate k body) s t)

-- a run of an action ends in its following state, that of a test where it began and exactly where its variable has
-- the given value, that of a sequence is a chain of runs of its parts in order, that of a choice is one of a branch,
-- and that of an iteration is a chain of runs of its body: of at most n where n is the bound, and else of any number
abbrev pub RunsByCases : Type 0
RunsByCases = (p : Posed) → ((n : ℕ) → ByCases p (λ k. k ≤ n) (RunUpTo p n)) × ByCases p (λ k. Unit {0}) (Run p)

-- a program without iterations has the same runs under every bound
abbrev pub StarlessRunsAlike : Type 0
StarlessRunsAlike = (p : Posed) (m n : ℕ) (prog : Prog) (s : DynState) → IsTrue (starless prog) → ends p m prog s ≡ ends p n prog s

-- a run of a kinded program leads from a state that has the kinds to one that has them, and its heap only grows
abbrev pub RunsKeepKinds : Type 0
RunsKeepKinds =
    (p : Posed) (kinds : List Kind) (prog : Prog) (s t : DynState)
    → IsWell p.unit
    → IsTrue (is_kinded p kinds prog)
    → HasKinds p kinds s
    → Run p prog s t
    → KeepsKinds p kinds s t
