use Rattle.std.proofs.Common.{◌∙◌, ap, sym, map, ◌++◌, ◌∷◌, [], arith}
use Rattle.std.specs.List.{range_with_len}
use Rattle.std.proofs.lemmas.List.FromFn.{map-range_with_len_more}
use Rattle.tuple_sets.specs.Words.{first_bits}
use Rattle.tuple_sets.proofs.words.all_below.Goals as goal

pub loop-at-preserved : goal.loop-at-preserved
loop-at-preserved c =
    let at = c.loop-at.at in
    let bits = first_bits c.args.count in
    c.in_ok-push.ensures.ok
    ∙ ap (λ l. l ++ c.front_of.result ∷ []) c.loop-at.invariant
    ∙ ap (λ x. map bits (range_with_len 0 at) ++ x ∷ []) c.front_of.ensures
    ∙ sym (map-range_with_len_more bits 0 at at (omega arith))
