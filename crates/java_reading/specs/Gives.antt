-- What the code answers, by the definition of reading.
use Rattle.std.specs.Prelude.{◌≡◌}
use Rattle.reading_core.specs.declared.stop.Stop.{Stop}
use Rattle.reading_core.specs.declared.stop.Stop.TheVariants.{Memory, Wrong, Deep as DeepStop}
use Rattle.reading_core.specs.Read.{Read, Bad, Deep}

-- the fault is the one of the reading; only want of memory is free
abbrev pub Blames : {A : Type 0} → Stop → Read A → Type 0
Blames Memory o = Unit {0}
Blames (Wrong rest) o = o ≡ Bad rest.now
Blames (DeepStop rest) o = o ≡ Deep rest.now
