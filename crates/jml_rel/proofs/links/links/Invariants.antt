use Rattle.std.proofs.Common.{◌≡◌, ◌++◌, drop}
use Rattle.jml_rel.specs.Links.{links_of}
use Rattle.jml_rel.proofs.links.links.Given as goal

abbrev pub invariant-loop-field : goal.invariant-loop-field
invariant-loop-field l = l.all ++ links_of l.declared l.at (drop l.field-index l.fields) ≡ links_of l.declared l.at l.fields
