use Rattle.std.proofs.Common.{◌≡◌, ℕ, ◌+◌, ◌++◌, [], List, length, ◌∙◌, ap, sym, subst, refl, arith, length-append}
use Rattle.std.specs.Prelude.{IfSome}
use Rattle.std.proofs.lemmas.List.{length-replicate}
use Rattle.atomic_table.specs.Table.{Me}
use Rattle.tuple_sets.specs.Words.{words_for, all_below, none_of}
use Rattle.tuple_sets.specs.Numbered.{word_count}
use Rattle.tuple_sets.proofs.Sets.{length-all_below}
use Rattle.bounds_table.specs.declared.rule.View.{View}
use Rattle.bounds_table.specs.State.{IsSound}
use Rattle.bounds_table.specs.Core.{tuple_count, opening, first}
use Rattle.bounds_table.specs.Rule.{spare, opening_words, first_view}
use Rattle.bounds_table.specs.Plays.{IsRight}
use Rattle.bounds_table.proofs.Runs.{opening-sound}
use Rattle.bounds_table.proofs.Allowed.{right_of}
use Rattle.bounds_table.proofs.Laying.{opening_shown, spare_room}
use Rattle.bounds_table.proofs.bounds.Bounds.new.Goals as goal

pub of_words-requires : goal.of_words-requires
of_words-requires c =
    let p = c.args.problem.now in
    let cells : c.as_slice.result.now ≡ opening_words p = c.as_slice.ensures ∙ c.in_ok-cells.ensures in
    subst IsSound (opening_shown p c.as_slice.result.now cells) (opening-sound p)

pub invariant_of-result : goal.invariant_of-result
invariant_of-result c =
    let p = c.args.problem.now in
    let key : c.in_ok-table.table.shared.key ≡ p = c.in_ok-table.ensures.5 in
    let tuples : c.tuple_count-tuples.result ≡ tuple_count p = c.tuple_count-tuples.ensures.value in
    let words : c.words_for-words.result ≡ word_count p = c.words_for-words.ensures ∙ ap words_for tuples in
    let n : ℕ = c.words_for-words.result in
    let room = spare_room n in
    let long : length c.as_slice.result.now ≡ n + spare n =
    ap length (c.as_slice.ensures ∙ c.in_ok-cells.ensures)
    ∙ length-append (all_below (tuple_count p)) (none_of (spare (word_count p)))
    ∙ ap (λ m. m + length (none_of (spare (word_count p)))) (length-all_below (tuple_count p))
    ∙ ap (λ m. word_count p + m) (length-replicate (spare (word_count p)) 0)
    ∙ ap (λ m. m + spare m) (sym words)
    in
    let total : c.in_ok-table.table.shared.table_id.words ≡ n + spare n = c.in_ok-table.ensures.0 ∙ long in
    record {
      tuples = tuples ∙ ap tuple_count (sym key);
      words = words ∙ ap word_count (sym key);
      few = omega (arith, c.words_for-words.ensures);
      room = let r = room.3 in let t = total in omega arith;
      some = let r = room.2 in let t = total in omega arith;
      no_slots = c.in_ok-table.ensures.1;
    }

pub invariant_of-result-2 : goal.invariant_of-result-2
invariant_of-result-2 c =
    let p = c.args.problem.now in
    let me : c.in_ok-table.seat.me ≡ (first_view p, []) = c.in_ok-table.ensures.4 in
    let right : IsRight p (first p) = right_of (opening p) 0 (opening-sound p) refl in
    subst (λ (m : Me (Unit {0}) View). (m.1 ≡ []) × IfSome m.0.problem (λ q. IsRight q m.0.known)) (sym me) (refl, right)
