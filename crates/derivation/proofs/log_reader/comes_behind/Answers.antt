use Rattle.std.proofs.Common.{sym, arith}
use Rattle.std.proofs.lemmas.Bool.{ltb-true, lt-ltb}
use Rattle.derivation.proofs.Rising.{rising_more, rising_above}
use Rattle.derivation.proofs.log_reader.comes_behind.Goals as goal

pub returns-in-Some : goal.returns-in-Some
returns-in-Some c = (
  λ above. rising_more _ c.in-Some.before.now c.args.lit (sym c.in-Some.ensures.value) c.requires (omega (arith, ltb-true _ _ above)),
  λ rising. lt-ltb _ _ (omega (arith, rising_above _ c.in-Some.before.now c.args.lit (sym c.in-Some.ensures.value) rising)),
)
