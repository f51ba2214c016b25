use Rattle.std.proofs.Common.{not, ◌&&◌, ap, ◌∙◌}
use Rattle.rel_core.specs.Meaning.{holds}
use Rattle.canon_rel.specs.Places.{is_sorted_place}
use Rattle.canon_rel.proofs.Along.{all_apart, comes_before_along}
use Rattle.canon_rel.proofs.order.+comes_before.Goals as goal

pub returns-in_ok-never-in-empty-clause-sorted : goal.returns-in_ok-never-in-empty-clause-sorted
returns-in_ok-never-in-empty-clause-sorted t c = λ p kinds sorted first second. c.in_ok-never-in-empty.ensures.sorted p kinds

pub returns-in_ok-before-in-len1-up-clause-meaning : goal.returns-in_ok-before-in-len1-up-clause-meaning
returns-in_ok-before-in-len1-up-clause-meaning t c = λ m within first second.
    let before = c.in_ok-before-in-len1-up in
    let not_yet = c.in_ok-not_yet-in-len1-up in
    let passed = c.in_ok-passed-in-len1-up in
    let met = c.in_ok-met-in-len1-up in
    let here = c.in_ok-here-in-len1-up in
    let later = c.in_ok-later-in-len1-up in
    comes_before_along m c.args.places.now c.args.first c.args.second _ (holds before.before m) (holds passed.passed m) (holds here.here m) (holds later.later m) c.in-len1-up.len_at_least within
    (before.ensures.meaning m ∙ ap (λ b. b && holds met.met m) (not_yet.ensures.meaning m) ∙ ap (λ b. not (holds passed.passed m) && b) (met.ensures.meaning m))
    (λ inside. passed.ensures.meaning m inside second) (λ inside. here.ensures.meaning m inside first) (λ inside. later.ensures.meaning m inside first second)

pub returns-in_ok-before-in-len1-up-clause-sorted : goal.returns-in_ok-before-in-len1-up-clause-sorted
returns-in_ok-before-in-len1-up-clause-sorted t c = λ p kinds sorted first second.
    let parts = all_apart (is_sorted_place p kinds) c.args.places.now _ c.in-len1-up.len_at_least sorted in
    c.in_ok-before-in-len1-up.ensures.sorted p kinds
    (c.in_ok-not_yet-in-len1-up.ensures.sorted p kinds (c.in_ok-passed-in-len1-up.ensures.sorted p kinds parts.0 second))
    (c.in_ok-met-in-len1-up.ensures.sorted p kinds (c.in_ok-here-in-len1-up.ensures.sorted p kinds parts.0 first) (c.in_ok-later-in-len1-up.ensures.sorted p kinds parts.1 first second))
