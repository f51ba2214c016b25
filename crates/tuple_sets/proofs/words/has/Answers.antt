use Rattle.std.proofs.Common.{◌/◌, ◌%◌, get_or, eq-eqb}
use Rattle.std.specs.Int.{bit_at}
use Rattle.std.proofs.lemmas.Bool.{eqb-true}
use Rattle.std.proofs.lemmas.Nat.Bits.{shr_and_one}
use Rattle.tuple_sets.specs.Words.{has}
use Rattle.tuple_sets.proofs.words.has.Goals as goal

pub returns : goal.returns
unfolding has
returns c =
    let here = bit_at (get_or c.args.set.now (c.args.number / 64) 0) (c.args.number % 64) in
    rw shr_and_one (eqb-true here 1, eq-eqb here 1)
