use Rattle.std.proofs.Common.{◌≡◌, length, true}
use Rattle.expression_reading.specs.Reading.{field_in, first_is, is_plus}
use Rattle.expression_reading.proofs.Gathered.{gathered}
use Rattle.jml_reader.specs.Descent.{fields_in}
use Rattle.jml_reader.proofs.reaches.fields.Given as goal

-- the fields that are left
abbrev pub invariant-fields : goal.invariant-fields
invariant-fields l = fields_in l.fn.start l.fn.tokens ≡ gathered (λ is. is) (first_is (is_plus true)) field_in l.names.items l.rest

abbrev pub decreases-fields : goal.decreases-fields
decreases-fields l = length l.rest
