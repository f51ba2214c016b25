use Rattle.std.proofs.Common.{◌+◌, ◌*◌}
use Rattle.java_reader.proofs.places.+places.Given as goal

abbrev pub decreases-named : goal.decreases-named
decreases-named l = 3 * l.left + 1

abbrev pub decreases-reached : goal.decreases-reached
decreases-reached l = 3 * l.left

abbrev pub decreases-step : goal.decreases-step
decreases-step l = 3 * l.left + 2
