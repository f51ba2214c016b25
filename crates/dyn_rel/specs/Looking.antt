-- Which variables are looked at from before a program on, by those that are looked at after it. (Live variables, as
-- compilers have them.)
use Rattle.std.specs.Prelude.{◌≡◌, ◌⊎◌, ℕ, ◌<◌, Bool, true, false, ◌||◌, List, [], ◌∷◌, ◌++◌, length, map, get_or, IsTrue}
use Rattle.std.specs.List.{list_any}
use Rattle.rel_core.specs.Reading.{numbers_below}
use Rattle.dyn_core.specs.declared.prog.Prog.{Prog, fold-Prog}
use Rattle.dyn_core.specs.declared.prog.Prog.TheOpen.{Prog-F}
use Rattle.dyn_steps.specs.Looked.{Vars, with_one, looked_at}

-- ## sets

-- from before these on, in order
abbrev pub looked_in_turn : List (Vars → Vars) → Vars → Vars
looked_in_turn [] vars = vars
looked_in_turn (f ∷ fs) vars = f (looked_in_turn fs vars)

-- from before any of these on
abbrev pub looked_by_any : List (Vars → Vars) → Vars → Vars
looked_by_any fs vars x = list_any (λ f. f vars x) fs

-- by cases on the program's form
abbrev pub looked_step : Prog-F (Vars → Vars) → Vars → Vars
looked_step (Prog-F.Act a) vars = looked_at a vars
looked_step (Prog-F.Test x b) vars = with_one x vars
looked_step (Prog-F.Seq fs) vars = looked_in_turn fs vars
looked_step (Prog-F.Choice fs) vars = looked_by_any fs vars
looked_step (Prog-F.Star f) vars = vars

-- from before a program on, in which no iteration takes a turn
abbrev pub looked_from : Prog → Vars → Vars
looked_from = fold-Prog (Vars → Vars) looked_step

-- ## sets as lists

-- for each of the first n variables, whether it is in the set
pub record IsList (n : ℕ) (vars : Vars) (set : List Bool) : Type 0 where
  pub long : length set ≡ n
  pub same : (x : ℕ) → x < n → get_or set x false ≡ vars x

-- the variables of either list
abbrev pub all_united : List Bool → List Bool → List Bool
all_united first second = map (λ x. get_or first x false || get_or second x false) (numbers_below (length first))

-- an action or a test, which joins nothing
abbrev pub single_step : Prog-F Bool → Bool
single_step (Prog-F.Act a) = true
single_step (Prog-F.Test x b) = true
single_step _ = false

abbrev pub is_single : Prog → Bool
is_single = fold-Prog Bool single_step

-- what is looked at after a program, in which something is joined
abbrev pub IsBehind : Prog → ℕ → Vars → List Bool → Type 0
IsBehind prog n vars set = IsTrue (is_single prog) ⊎ IsList n vars set

-- what is looked at after each of the parts of a sequence, that of the last part first
abbrev pub AreBehind : ℕ → Vars → List Prog → List (List Bool) → Type 0
AreBehind n vars [] sets = sets ≡ []
AreBehind n vars (x ∷ parts) sets =
    (rest : List (List Bool)) × (set : List Bool) × (sets ≡ rest ++ set ∷ []) × IsBehind x n (looked_in_turn (map looked_from parts) vars) set × AreBehind n vars parts rest
