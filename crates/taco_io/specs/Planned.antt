-- Which calls of an object in memory fail.
use Rattle.std.specs.Prelude.{◌≡◌, ℕ, ◌==◌, Bool, List}
use Rattle.std.specs.List.{list_any}
use Rattle.taco_io.specs.declared.plan.FaultPlan.{FaultPlan}
use Rattle.taco_io.specs.Counts.{one_more}

-- whether the next call is one of those that fail
abbrev pub is_due : FaultPlan → Bool
is_due plan = list_any (λ number. number == plan.calls) plan.failing.items

-- no call was counted yet, and these are to fail
pub record IsFreshPlan (failing : List ℕ) (plan : FaultPlan) : Type 0 where
  pub failing_calls : plan.failing.items ≡ failing
  pub none_made : plan.calls ≡ 0
  pub none_failed : plan.faults ≡ 0

-- one call more was counted, and the same calls are to fail
pub record IsNextCall (old new : FaultPlan) : Type 0 where
  pub counted : new.calls ≡ one_more old.calls
  pub failing_calls : new.failing.items ≡ old.failing.items
