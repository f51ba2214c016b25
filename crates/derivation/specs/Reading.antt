-- What a reader answers.
use Rattle.std.specs.Prelude.{◌≡◌, Result, Ok, Err}
use Rattle.derivation.specs.declared.fault.TextFault.{TextFault}
use Rattle.derivation.specs.declared.fault.TextFault.TheVariants.{BadText, NoMemory}

-- The answer is this value, unless memory was wanting.
abbrev pub IsReadAs : {V : Type 0} → Result V TextFault → V → Type 0
IsReadAs (Ok x) v = x ≡ v
IsReadAs (Err (BadText at)) v = ⊥
IsReadAs (Err NoMemory) v = Unit {0}
