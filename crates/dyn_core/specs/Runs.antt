-- The runs of a program. (DynAlloy's partial correctness: Frias, Galeotti, López Pombo, Aguirre, "DynAlloy:
-- Upgrading Alloy with Actions"; that each entry of an iteration has a bound is this project's own.)
use Rattle.std.specs.Prelude.{ℕ, zero, suc, Bool, if◌then◌else◌, List, [], ◌∷◌, flat_map, Contains}
use Rattle.std.specs.Option.{option_to_list}
use Rattle.heap_core.specs.declared.value.Value.TheVariants.{Flag}
use Rattle.heap_core.specs.Posed.{Posed}
use Rattle.heap_core.specs.Outcomes.{is_value}
use Rattle.dyn_core.specs.declared.prog.Prog.{Prog, fold-Prog}
use Rattle.dyn_core.specs.declared.prog.Prog.TheOpen.{Prog-F}
use Rattle.dyn_core.specs.declared.state.DynState.{DynState}
use Rattle.dyn_core.specs.States.{var_at}
use Rattle.dyn_core.specs.Actions.{acted}

-- the variable has this truth value
abbrev pub passes : ℕ → Bool → DynState → Bool
passes x b s = is_value (Flag b) (var_at s.vars x)

-- the last states of the runs from a state, one for each run
abbrev pub LastStates : Type 0
LastStates = DynState → List DynState

-- all parts in order
abbrev pub one_by_one : List LastStates → LastStates
one_by_one [] s = s ∷ []
one_by_one (e ∷ es) s = flat_map (one_by_one es) (e s)

-- at most n turns
abbrev pub up_to : ℕ → LastStates → LastStates
up_to zero e s = s ∷ []
up_to (suc n) e s = s ∷ flat_map (up_to n e) (e s)

-- by cases on the program's form: an iteration takes at most n turns at each entry
abbrev pub ends_step : Posed → ℕ → Prog-F LastStates → LastStates
ends_step p n (Prog-F.Act a) s = option_to_list (acted p a s)
ends_step p n (Prog-F.Test x b) s = if passes x b s then s ∷ [] else []
ends_step p n (Prog-F.Seq es) s = one_by_one es s
ends_step p n (Prog-F.Choice es) s = flat_map (λ e. e s) es
ends_step p n (Prog-F.Star e) s = up_to n e s

-- the last states of the runs of a program from a state, where each entry of an iteration takes at most n turns
abbrev pub ends : Posed → ℕ → Prog → LastStates
ends p n = fold-Prog LastStates (ends_step p n)

-- a run leads from s to t in which each entry of an iteration takes at most n turns
abbrev pub RunUpTo : Posed → ℕ → Prog → DynState → DynState → Type 0
RunUpTo p n q s t = Contains (ends p n q s) t

-- a run leads from s to t
abbrev pub Run : Posed → Prog → DynState → DynState → Type 0
Run p q s t = (n : ℕ) × RunUpTo p n q s t
