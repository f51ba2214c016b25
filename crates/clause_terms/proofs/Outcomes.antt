-- What is said of the value of an outcome.
use Rattle.heap_core.specs.declared.value.Value.{Value}
use Rattle.heap_core.specs.declared.value.Seen.{Seen}
use Rattle.heap_core.specs.declared.value.Seen.TheVariants.{Is, Bad, Out}
use Rattle.clause_terms.specs.Terms.{OnValue}

pub on_value : (s : Seen) (P Q : Value → Type 0) → ((v : Value) → P v → Q v) → OnValue s P → OnValue s Q
on_value (Is v) P Q leads is = leads v is
on_value Bad P Q leads is = tt
on_value Out P Q leads is = tt
