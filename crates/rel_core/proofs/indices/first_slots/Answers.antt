use Rattle.std.proofs.Common.{ℕ, List, [], ◌∷◌, ◌++◌, sym, ap, ◌∙◌}
use Rattle.std.specs.Prelude.{map}
use Rattle.std.proofs.lemmas.List.{map-append}
use Rattle.std.specs.List.{range_with_len}
use Rattle.rel_core.proofs.Ranges.{numbers_last}
use Rattle.rel_core.proofs.indices.first_slots.Goals as goal

pub loop-variable-preserved : goal.loop-variable-preserved
loop-variable-preserved c =
    let n = c.loop-variable.variable in
    c.in_ok-push.ensures.ok
    ∙ ap (λ (slots : List (ℕ × ℕ)). slots ++ (n, 0) ∷ []) c.loop-variable.invariant
    ∙ sym (ap (map (λ (x : ℕ). (x, 0))) (numbers_last n) ∙ map-append (λ (x : ℕ). (x, 0)) (range_with_len 0 n) (n ∷ []))
