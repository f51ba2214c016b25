use Rattle.std.proofs.Common.{◌++◌, ◌∙◌, ap, sym, get_or, List}
use Rattle.std.specs.Prelude.{option_map, option_to_list, slice_get}
use Rattle.heap_core.specs.declared.value.Object.{Object}
use Rattle.canonical_order.specs.Canonical.{renamed_object}
use Rattle.canonical_order.proofs.Places.{filter_map_more}
use Rattle.canonical_order.proofs.numbering.reordered.Goals as goal

pub loop-place-preserved : goal.loop-place-preserved
loop-place-preserved c =
    let order = c.args.order.now in
    let i = c.loop-place.place-index in
    let new : List Object = option_to_list (option_map (renamed_object order) (slice_get c.args.objects.now (get_or order i 0))) in
    c.in_ok-push_renamed.ensures ∙ ap (λ os. c.loop-place.all ++ option_to_list (option_map (renamed_object os) (slice_get c.args.objects.now (get_or order i 0)))) c.requires.same ∙ ap (λ xs. xs ++ new) c.loop-place.invariant ∙ sym (filter_map_more (λ o. option_map (renamed_object order) (slice_get c.args.objects.now o)) order i 0 c.loop-place-test.true)
