use Rattle.source_units.proofs.OneVerdict.{one}
use Rattle.source_units.proofs.laws.bytes_have_one_unit_or_one_first_fault.Goals as goal

pub returns : goal.returns
returns c bytes a b x y = one bytes a b x y
