use Rattle.std.proofs.Common.{length}
use Rattle.taco_report.proofs.line_reader.+add_read_cells.Given as goal

abbrev pub decreases-add_read_cells : goal.decreases-add_read_cells
decreases-add_read_cells l = length l.fields.now
