-- The locals of the code, as a state.
use Rattle.typed_statements.specs.declared.locals.Locals.{Locals}
use Rattle.typed_statements.specs.Statements.{State}

abbrev pub state_of : Locals → State
state_of l = record { held = l.held.items; sorts = l.sorts }
