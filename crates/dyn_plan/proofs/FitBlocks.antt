-- The kinds of lowered blocks, branches, loops and bare returns, of parts that fit.
use Rattle.std.proofs.Common.{◌≡◌, ℕ, ◌+◌, Bool, true, false, List, [], ◌∷◌, ◌++◌}
use Rattle.std.specs.Prelude.{◌||◌, if◌then◌else◌}
use Rattle.taco_unit.specs.declared.kind.Kind.{Kind}
use Rattle.taco_unit.specs.declared.kind.Kind.TheVariants as kind
use Rattle.heap_core.specs.declared.value.Value.TheVariants.{Flag}
use Rattle.heap_core.specs.Posed.{Posed}
use Rattle.dyn_core.specs.declared.prog.Act.TheVariants.{Copy, Const}
use Rattle.dyn_plan.specs.declared.plan.Plan.{Plan}
use Rattle.dyn_plan.specs.declared.plan.Plan.TheVariants as l
use Rattle.dyn_plan.specs.Places.{Ground, Spots}
use Rattle.dyn_plan.specs.Guards.{Lowered, guarded, set_done}
use Rattle.dyn_plan.specs.Statements.{Laid, stops, lay_block, settled, asked, if_low, loop_low, turnless_low, while_low, return_bare}
use Rattle.dyn_plan.proofs.FitSteps.{Fit, fit_none, fit_append, fit_do, fit_fail, fit_if, fit_while}
use Rattle.dyn_plan.proofs.FitPlaces.{Spot, at_flag, FitsAt, IsRow, guarded_fits, constant_fits}

module _ (p : Posed) (args : List Kind) (g : Ground) where
  -- each part fits
  abbrev pub AllFit : List Laid → Type 0
  AllFit [] = Unit {0}
  AllFit (x ∷ xs) = Fit p (Spot args g) x.steps × AllFit xs

  pub block_fits : (f : Spots) (t : Bool) (xs : List Laid) → Spot args g f.done kind.Flag → AllFit xs → Fit p (Spot args g) (lay_block f t xs).steps
  block_fits f t [] done fits = fit_none p (Spot args g)
  block_fits f t (x ∷ xs) done fits =
      fit_append p (Spot args g) (guarded f t x.steps) (lay_block f (t || stops x) xs).steps (guarded_fits p args g f t x.steps done fits.0) (block_fits f (t || stops x) xs done fits.1)

  pub branches_fit : (f : Spots) (x : Lowered) (taken other : Laid) → Spot args g f.done kind.Flag → FitsAt p args g x kind.Flag → Fit p (Spot args g) taken.steps
      → Fit p (Spot args g) other.steps → Fit p (Spot args g) (if_low f x taken other).steps
  branches_fit f x taken other done test first second =
      fit_append p (Spot args g) x.steps (guarded f x.throws (l.If x.place taken.steps other.steps ∷ [])) test.steps
      (guarded_fits p args g f x.throws (l.If x.place taken.steps other.steps ∷ []) done (fit_if p (Spot args g) x.place taken.steps other.steps test.place first second))

  settled_fits : (f : Spots) (t : Bool) (x y : ℕ) → Spot args g f.done kind.Flag → Spot args g x kind.Flag → Spot args g y kind.Flag → Fit p (Spot args g) (settled f t x y)
  settled_fits f false x y done at of = fit_do p (Spot args g) (Copy x y) (kind.Flag, at, of)
  settled_fits f true x y done at of =
      fit_if p (Spot args g) f.done (l.Do (Const x (Flag false)) ∷ []) (l.Do (Copy x y) ∷ []) done (constant_fits p args g x false at)
      (fit_do p (Spot args g) (Copy x y) (kind.Flag, at, of))

  asked_fits : (f : Spots) (t : Bool) (a : Lowered) (x : ℕ) → Spot args g f.done kind.Flag → Spot args g x kind.Flag → FitsAt p args g a kind.Flag → Fit p (Spot args g) (asked f t a x)
  asked_fits f t a x done at test =
      fit_append p (Spot args g) (guarded f t a.steps) (settled f (t || a.throws) x a.place) (guarded_fits p args g f t a.steps done test.steps)
      (settled_fits f (t || a.throws) x a.place done at test.place)

  -- a loop, whether it has turns or not
  pub loop_fits : (f : Spots) (a : Lowered) (body : Laid) → Spot args g f.done kind.Flag → IsRow g f.base → FitsAt p args g a kind.Flag → Fit p (Spot args g) body.steps
      → Fit p (Spot args g) (while_low g f a body).steps
  loop_fits f a body done row test fits = by g.turnless
    where
      at : Spot args g (f.base + 1) kind.Flag
      at = at_flag args g f.base row

      by : (t : Bool) → Fit p (Spot args g) (if t then turnless_low f a (f.base + 1) else loop_low f a body (f.base + 1)).steps
      by true =
          fit_append p (Spot args g) (asked f false a (f.base + 1)) (l.If (f.base + 1) (l.Fail ∷ []) [] ∷ []) (asked_fits f false a (f.base + 1) done at test)
          (fit_if p (Spot args g) (f.base + 1) (l.Fail ∷ []) [] at (fit_fail p (Spot args g)) (fit_none p (Spot args g)))
      by false =
          let again : List Plan = asked f (stops body) a (f.base + 1) in
          fit_append p (Spot args g) (asked f false a (f.base + 1)) (l.While (f.base + 1) (body.steps ++ again) ∷ []) (asked_fits f false a (f.base + 1) done at test)
          (fit_while p (Spot args g) (f.base + 1) (body.steps ++ again) at
          (fit_append p (Spot args g) body.steps again fits (asked_fits f (stops body) a (f.base + 1) done at test)))

  pub bare_fits : (f : Spots) → Spot args g f.done kind.Flag → Fit p (Spot args g) (return_bare f).steps
  bare_fits f done = by f.wanted
    where
      by : (t : Bool) → Fit p (Spot args g) (if t then l.Fail ∷ [] else set_done f)
      by true = fit_fail p (Spot args g)
      by false = constant_fits p args g f.done true done
