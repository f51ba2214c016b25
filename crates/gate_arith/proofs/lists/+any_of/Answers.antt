-- The two halves are joined.
use Rattle.std.proofs.Common.{ℕ, ◌/◌, Bool, length, subst, ◌||◌}
use Rattle.std.specs.List.{list_any}
use Rattle.gate_core.specs.Circuit.{value}
use Rattle.gate_arith.specs.Operations.{IsTruth}
use Rattle.gate_arith.proofs.Joins.{any_joins, joined}
use Rattle.gate_arith.proofs.lists.+any_of.Goals as goal

pub returns-in_ok-gate-in_default-clause-truth : goal.returns-in_ok-gate-in_default-clause-truth
returns-in_ok-gate-in_default-clause-truth t c =
    let old = c.args.gates.now in
    let first = c.any_of.new.gates in
    let second = c.any_of-in_default.new.gates in
    let list = c.args.list.now in
    let half : ℕ = length list / 2 in
    joined (λ p xs. list_any p xs) (λ (x y : Bool). x || y) old first second c.either.new.gates list half c.in_ok-first-in_default.first c.in_ok-second-in_default.second c.in_ok-gate-in_default.gate
    any_joins c.requires
    (subst (λ gs. IsTruth first (λ inputs. list_any (value inputs old) gs) c.in_ok-first-in_default.first) c.split_at.ensures.front c.in_ok-first-in_default.ensures.truth) c.in_ok-first-in_default.ensures.keeps
    (subst (λ gs. IsTruth second (λ inputs. list_any (value inputs first) gs) c.in_ok-second-in_default.second) c.split_at.ensures.back c.in_ok-second-in_default.ensures.truth) c.in_ok-second-in_default.ensures.keeps
    c.in_ok-gate-in_default.ensures.truth
