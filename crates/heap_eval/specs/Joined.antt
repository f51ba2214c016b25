-- One instance more of a quantifier. (This project's own.)
use Rattle.std.specs.Prelude.{Bool, if◌then◌else◌, ◌&&◌, ◌||◌}
use Rattle.heap_core.specs.declared.value.Seen.{Seen}
use Rattle.heap_core.specs.declared.value.Seen.TheVariants.{Is, Bad, Out}
use Rattle.heap_core.specs.Outcomes.{flag, is_true, is_bad, is_out}

-- the outcome of the instances so far with one more: Out before Bad before a truth value
abbrev pub joined : Bool → Seen → Seen → Seen
joined all Out s = Out
joined all Bad s = if is_out s then Out else Bad
joined all (Is v) s =
    if is_out s then Out
    else (if is_bad s then Bad
    else (if all then flag (is_true (Is v) && is_true s) else flag (is_true (Is v) || is_true s)))
