use Rattle.std.proofs.Common.{◌≡◌, ◌<◌, length, ◌∷◌, Some, subst, ap, ◌∙◌, arith, slice_set, get_or}
use Rattle.std.specs.Prelude.{slice_get}
use Rattle.std.specs.List.{list_any}
use Rattle.std.proofs.lemmas.Option.{slice_get-get_or}
use Rattle.heap_core.specs.declared.visit.Stage.TheVariants.{Done}
use Rattle.heap_core.specs.Outcomes.{is_object}
use Rattle.heap_core.specs.Stages.{found, found_all, held, given, is_reached}
use Rattle.heap_core.proofs.Visiting.{Visits, Upon, upon_values, begun, turned, left_turned, ended}
use Rattle.heap_core.proofs.Reached.{held_within, reached_is_least, upon_cells}
use Rattle.heap_core.proofs.visit.visit.Goals as goal

pub loop-place-init : goal.loop-place-init
loop-place-init c =
    let s = c.args.start.now in
    let before = c.args.stages.now in
    let after = c.find_all.new.stages in
    let made : found_all (found before s.this) s.args ≡ after = cc in
    let upon : Upon (given s) before after = subst (λ ss. Upon (given s) before ss) made (upon_values (s.this ∷ s.args) before) in
    let least = reached_is_least s (length s.objects) (omega arith) in
    subst (λ n. Visits n (held s.objects) (given s) (is_reached s) after) c.requires.sized
    (begun (held s.objects) (given s) (is_reached s) before after (λ p o is. omega (arith, held_within s.objects p o is, c.requires.sized)) least.holds c.requires.fresh upon)

pub loop-place-smaller : goal.loop-place-smaller
loop-place-smaller c =
    let cells = c.as_slice-in-Some-2.result.now in
    let before = slice_set c.loop-place.stages c.in-Some.place Done in
    let after = c.find_all-in-Some.new.stages in
    let made : found_all before cells ≡ after = cc in
    let upon = subst (λ ss. Upon (λ o. list_any (is_object o) cells) before ss) made (upon_values cells before) in
    omega (arith, left_turned (λ o. list_any (is_object o) cells) c.loop-place.stages after c.in-Some.place c.in-Some.ensures.some.1 upon)

pub loop-place-preserved : goal.loop-place-preserved
loop-place-preserved c =
    let s = c.args.start.now in
    let x = c.index-as_slice-place.result in
    let place = c.in-Some.place in
    let before = slice_set c.loop-place.stages place Done in
    let after = c.find_all-in-Some.new.stages in
    let inside : place < length s.objects = omega (arith, c.loop-place.invariant.sized, c.in-Some.ensures.some.0) in
    let read : get_or s.objects place x ≡ x = cc in
    let there : slice_get s.objects place ≡ Some x = slice_get-get_or s.objects place x inside ∙ ap Some read in
    let made : found_all before x.cells ≡ after = cc in
    let upon = subst (λ ss. Upon (held s.objects place) before ss) made (upon_cells s.objects place x before there) in
    let least = reached_is_least s (length s.objects) (omega arith) in
    turned (length s.objects) (held s.objects) (given s) (is_reached s) c.loop-place.stages after place least.closed c.loop-place.invariant c.in-Some.ensures.some.1 upon

pub returns-clause-sized : goal.returns-clause-sized
returns-clause-sized c = c.loop-place.invariant.sized

pub returns-clause-done : goal.returns-clause-done
returns-clause-done c =
    let s = c.args.start.now in
    ended (length s.objects) (held s.objects) (given s) (is_reached s) c.loop-place.stages (reached_is_least s (length s.objects) (omega arith)) c.loop-place.invariant c.in_default.ensures.none
