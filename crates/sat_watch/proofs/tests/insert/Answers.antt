use Rattle.std.proofs.Common.{sym, subst, arith}
use Rattle.sat_watch.specs.Watching.{RightBut}
use Rattle.sat_watch.proofs.tests.insert.Goals as goal

pub returns-clause-right : goal.returns-clause-right
returns-clause-right c =
    c.watch.ensures.right c.args.trail.now
    (subst (λ n. RightBut n c.add.new.self c.args.trail.now) (sym c.in_ok-clause.ensures.number) (c.in_ok-clause.ensures.right c.args.trail.now c.requires.right))
    (record { one = λ i lt h. absurd (omega (arith, lt, c.requires.start)); other = λ i lt h. absurd (omega (arith, lt, c.requires.start)) })
