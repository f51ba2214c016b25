use Rattle.std.proofs.Common.{◌≡◌, ◌+◌, ◌∙◌, ap, arith, length, sym}
use Rattle.std.proofs.lemmas.List.{length-map}
use Rattle.std.proofs.lemmas.List.Splits.{length-slice_split}
use Rattle.std.specs.Prelude.{count_by, ◌==◌}
use Rattle.taco_words.proofs.Lists.{is_schedule}
use Rattle.taco_words.proofs.list.list_below.Goals as goal

pub returns-clause-within : goal.returns-clause-within
returns-clause-within c =
    let word = c.args.word.now in
    let count : length c.as_slice.result.now ≡ count_by (λ b. b == 44) word + 1 =
    ap length c.as_slice.ensures.value ∙ sym (length-map c.in_ok-pieces.pieces.items (λ w. w.now)) ∙ ap length c.in_ok-pieces.ensures ∙ length-slice_split (λ b. b == 44) word in
    is_schedule c.args.workers (length c.as_slice.result.now) c.numbers_up_to.result c.requires (omega (arith, count)) (omega arith) c.numbers_up_to.ensures.each c.numbers_up_to.ensures.all
