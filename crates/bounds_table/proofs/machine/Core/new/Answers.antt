use Rattle.std.proofs.Common.{◌≡◌, [], ◌∷◌, ◌++◌, ap, subst, sym, ◌∙◌}
use Rattle.std.specs.Prelude.{Some}
use Rattle.bounds_table.specs.Core.{tuple_count}
use Rattle.bounds_table.specs.State.{IsSound}
use Rattle.bounds_table.proofs.Runs.{opening-sound}
use Rattle.bounds_table.proofs.Joining.{opening_is}
use Rattle.bounds_table.proofs.machine.Core.new.Goals as goal

pub invariant_of-result : goal.invariant_of-result
invariant_of-result c =
    let p = c.of.result.value in
    let count : c.tuple_count-tuples.result ≡ tuple_count p = c.tuple_count-tuples.ensures.value ∙ ap tuple_count (sym c.of.ensures) in
    let worker : c.push.new.self.items ≡ Some c.in_ok-first.field-0 ∷ [] = c.in_ok-push.ensures.items ∙ ap (λ l. l ++ Some c.in_ok-first.field-0 ∷ []) c.new-workers.ensures.items in
    (count, subst IsSound (opening_is p c.tuple_count-tuples.result c.words_for-words.result c.in_ok-all_below.field-0 c.in_ok-none_of.field-0 c.in_ok-none_of-2.field-0 c.in_ok-first.field-0 c.push.new.self.items count c.words_for-words.ensures c.in_ok-all_below.ensures c.in_ok-none_of.ensures c.in_ok-none_of-2.ensures c.in_ok-first.ensures worker) (opening-sound p))
