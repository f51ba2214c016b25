use Rattle.rel_core.specs.Meaning.{set_of}
use Rattle.rel_core.specs.Views.{read}
use Rattle.rel_core.proofs.Forms.{set_join, set_reach}
use Rattle.rel_core.proofs.holds.sets.+members.Goals as goal

pub returns-in-Join : goal.returns-in-Join
returns-in-Join t c =
    let m = read c.args.view in
    rw (c.in-Join.is, set_join c.in-Join.from c.in-Join.relation m) (c.joined.ensures (set_of c.in-Join.from m) (rw c.get.ensures at c.members.ensures))

pub returns-in-Reach : goal.returns-in-Reach
returns-in-Reach t c =
    let m = read c.args.view in
    rw (c.in-Reach.is, set_reach c.in-Reach.from c.in-Reach.relations m)
    (rw c.as_slice.ensures at (c.reached.ensures (set_of c.in-Reach.from m) (rw c.get-in-Reach.ensures at c.members-in-Reach.ensures)))
