use Rattle.std.proofs.Common.{◌≡◌, ℕ, ◌<◌, ◌||◌, not, List, ap, subst, ◌∙◌, arith, length, get_or, IfSome}
use Rattle.std.proofs.lemmas.Grind.{get_or_default_zero}
use Rattle.sat_watch.specs.Literals.{has}
use Rattle.sat_watch.specs.Trail.{literals}
use Rattle.sat_analysis.specs.Learnt.{level_of}
use Rattle.sat_analysis.specs.Noted.{IsNoted}
use Rattle.sat_analysis.specs.Settled.{covers, IsEntryOf, IsCoveredReason}
use Rattle.sat_analysis.proofs.Settling.{settled_imply, implies_imply, settled_keep, implies_keep, others_false, unit_covered, false_over}
use Rattle.sat_analysis.proofs.minimise.Minimiser.+settling.Goals as goal

pub derive-holds-requires : goal.derive-holds-requires
derive-holds-requires n c = omega (arith, false_over c.args.trail.now c.args.lit c.requires.sound c.requires.is_false, c.requires.settled.room.failed)

pub derive-imply-requires-clause-kept : goal.derive-imply-requires-clause-kept
derive-imply-requires-clause-kept n c = omega (arith, false_over c.args.trail.now c.args.lit c.requires.sound c.requires.is_false, c.in_ok-number.ensures.settled.room.kept)

pub derive-imply-requires-clause-implied : goal.derive-imply-requires-clause-implied
derive-imply-requires-clause-implied n c = omega (arith, false_over c.args.trail.now c.args.lit c.requires.sound c.requires.is_false, c.in_ok-number.ensures.settled.room.implied)

pub derive-returns-in_ok-imply-in-Some-clause-settled : goal.derive-returns-in_ok-imply-in-Some-clause-settled
derive-returns-in_ok-imply-in-Some-clause-settled n c =
    let e = c.in_ok-imply-in-Some.ensures in
    settled_imply c.args.trail.now c.args.notes.now.levels.items c.settle_reason.new.self c.imply.new.self c.args.lit c.in-Some.number
    (record { kept = e.kept; failed = e.failed; places = e.places; implied = e.implied; hints = e.hints }) c.in_ok-number.ensures.settled c.requires.is_false c.requires.low

pub derive-returns-in_ok-imply-in-Some-clause-implies : goal.derive-returns-in_ok-imply-in-Some-clause-implies
derive-returns-in_ok-imply-in-Some-clause-implies n c = λ known noted by.
    let e = c.in_ok-imply-in-Some.ensures in
    let reason : IfSome c.in_ok-number.field-0 (λ number. (known : List (List ℕ)) → IsNoted known c.args.watches.now c.args.trail.now c.args.notes.now → IsCoveredReason known c.settle_reason.new.self c.args.lit number) = c.in_ok-number.ensures.reason in
    let found : IsCoveredReason known c.settle_reason.new.self c.args.lit c.in-Some.number =
    subst (λ o. IfSome o (λ number. (known : List (List ℕ)) → IsNoted known c.args.watches.now c.args.trail.now c.args.notes.now → IsCoveredReason known c.settle_reason.new.self c.args.lit number)) c.in-Some.is reason known noted in
    implies_imply known c.args.trail.now c.args.notes.now.levels.items c.settle_reason.new.self c.imply.new.self c.args.lit c.in-Some.number
    (record { kept = e.kept; failed = e.failed; places = e.places; implied = e.implied; hints = e.hints }) c.requires.sound c.in_ok-number.ensures.settled c.requires.is_false found
    (c.in_ok-number.ensures.implies known noted by)

pub settle-index-requires : goal.settle-index-requires
settle-index-requires n c = omega (arith, false_over c.args.trail.now c.args.lit c.requires.sound c.requires.is_false, c.var.ensures.value, c.requires.supported.noted.levels)

pub settle-returns-then-index-level-clause-of_line : goal.settle-returns-then-index-level-clause-of_line
settle-returns-then-index-level-clause-of_line n c = λ m below.
    let within : c.var.result < length c.args.notes.now.levels.items = omega (arith, false_over c.args.trail.now c.args.lit c.requires.sound c.requires.is_false, c.var.ensures.value, c.requires.supported.noted.levels) in
    let level : c.index.result.now ≡ level_of c.args.notes.now.levels.items c.args.lit =
    c.index.ensures ∙ get_or_default_zero c.args.notes.now.levels.items c.var.result c.index.result.now within ∙ ap (λ k. get_or c.args.notes.now.levels.items k 0) c.var.ensures.value in
    absurd (omega (arith, below, level, c.if-index-level.true, c.level.ensures))

pub settle-covers-requires-clause-kept : goal.settle-covers-requires-clause-kept
settle-covers-requires-clause-kept n c = omega (arith, false_over c.args.trail.now c.args.lit c.requires.sound c.requires.is_false, c.requires.settled.room.kept)

pub settle-covers-requires-clause-implied : goal.settle-covers-requires-clause-implied
settle-covers-requires-clause-implied n c = omega (arith, false_over c.args.trail.now c.args.lit c.requires.sound c.requires.is_false, c.requires.settled.room.implied)

pub settle-keep_or_give_up-requires-clause-kept : goal.settle-keep_or_give_up-requires-clause-kept
settle-keep_or_give_up-requires-clause-kept n c = omega (arith, false_over c.args.trail.now c.args.lit c.requires.sound c.requires.is_false, c.in_ok-derive.ensures.settled.room.kept)

pub settle-keep_or_give_up-requires-clause-implied : goal.settle-keep_or_give_up-requires-clause-implied
settle-keep_or_give_up-requires-clause-implied n c = omega (arith, false_over c.args.trail.now c.args.lit c.requires.sound c.requires.is_false, c.in_ok-derive.ensures.settled.room.implied)

pub settle-keep_or_give_up-requires-clause-failed : goal.settle-keep_or_give_up-requires-clause-failed
settle-keep_or_give_up-requires-clause-failed n c = omega (arith, false_over c.args.trail.now c.args.lit c.requires.sound c.requires.is_false, c.in_ok-derive.ensures.settled.room.failed)

pub settle-keep_or_give_up-requires-clause-line : goal.settle-keep_or_give_up-requires-clause-line
settle-keep_or_give_up-requires-clause-line n c = omega (arith, false_over c.args.trail.now c.args.lit c.requires.sound c.requires.is_false, c.requires.line)

pub settle_reason-settle_others-requires : goal.settle_reason-settle_others-requires
settle_reason-settle_others-requires n c =
    (omega arith, (c.requires.supported, (c.requires.sound, (c.requires.line, (c.requires.settled, others_false c.requires.supported c.in-Some.ensures.entry c.in-Some-reason.is c.lits-lits.ensures.value)))))

pub settle_reason-returns-in-None-clause-reason : goal.settle_reason-returns-in-None-clause-reason
settle_reason-returns-in-None-clause-reason n c = λ known noted.
    unit_covered known c.args.watches.now c.args.trail.now c.args.notes.now c.args.self.now c.in-Some.entry.now c.args.lit c.var.result c.index-in-None.result.now noted c.requires.sound
    (subst (IsEntryOf c.args.trail.now c.in-Some.entry.now) c.negated.ensures c.in-Some.ensures.entry) c.in-None.is c.if-entry-eq0.true c.var.ensures.value c.index-in-None.ensures

-- the literal is of a lower level
low : (n : ℕ) (c : goal.settle-In_ok-settled n) → level_of c.args.notes.now.levels.items c.args.lit < c.args.trail.now.level
low n c =
    let within : c.var.result < length c.args.notes.now.levels.items = omega (arith, false_over c.args.trail.now c.args.lit c.requires.sound c.requires.is_false, c.var.ensures.value, c.requires.supported.noted.levels) in
    let level : c.index.result.now ≡ level_of c.args.notes.now.levels.items c.args.lit =
    c.index.ensures ∙ get_or_default_zero c.args.notes.now.levels.items c.var.result c.index.result.now within ∙ ap (λ k. get_or c.args.notes.now.levels.items k 0) c.var.ensures.value in
    omega (arith, level, c.if-index-level.false, c.level.ensures)

pub settle-returns-clause-settled : goal.settle-returns-clause-settled
settle-returns-clause-settled n c =
    let e = c.in_ok-settled.ensures in
    settled_keep c.args.trail.now c.args.notes.now.levels.items c.derive.new.self c.keep_or_give_up.new.self c.args.lit (not (has c.args.line.now.lits c.args.lit))
    (record { implied = e.implied; hints = e.hints; places = e.places; failed = e.failed; kept = e.kept }) c.in_ok-derive.ensures.settled c.requires.is_false (low n c)

pub settle-returns-clause-implies : goal.settle-returns-clause-implies
settle-returns-clause-implies n c = λ known noted by.
    let e = c.in_ok-settled.ensures in
    implies_keep known (literals c.args.trail.now.entries) c.derive.new.self c.keep_or_give_up.new.self c.args.lit (covers c.derive.new.self.kept.lits c.derive.new.self.implied.lits c.args.lit || not (has c.args.line.now.lits c.args.lit))
    (record { implied = e.implied; hints = e.hints; places = e.places; failed = e.failed; kept = e.kept }) (c.in_ok-derive.ensures.implies known noted by)
