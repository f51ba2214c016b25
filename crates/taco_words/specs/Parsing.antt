-- What a simple command makes of words, by the clauses of `clap`.
use Rattle.std.specs.Prelude.{◌≡◌, true, false, List, Option, Some, None, Result, Ok, Err, if◌then◌else◌}
use Rattle.clap.specs.Words.{App, Row, Text, fault_of, found_of, matches_of, rows_of}
use Rattle.clap.specs.Walk.{is_empty}
use Rattle.clap.specs.declared.parser.matches.ArgMatches.{ArgMatches}
use Rattle.taco_words.specs.declared.request.RequestFault.{RequestFault}
use Rattle.taco_words.specs.declared.request.RequestFault.TheVariants as fault

-- what a command's values say, where `clap` finds no fault in the words
abbrev pub taken : {V : Type 0} → App → (List Row → Option V) → List Text → Option V
taken app meaning words = if is_empty (fault_of app words) then meaning (matches_of app words) else None

-- the matches are those of the command on these words; Usage comes where `clap` finds a fault
abbrev pub Parses : App → List Text → Result ArgMatches RequestFault → Type 0
Parses app words (Ok m) = (is_empty (fault_of app words) ≡ true) × (rows_of (found_of m) ≡ matches_of app words)
Parses app words (Err fault.Usage) = is_empty (fault_of app words) ≡ false
Parses app words (Err fault.NoMemory) = Unit {0}

-- what is answered where the words mean this: Usage comes exactly where they mean nothing
abbrev pub Gives : {V : Type 0} → Option V → Result V RequestFault → Type 0
Gives meant (Ok v) = meant ≡ Some v
Gives meant (Err fault.Usage) = meant ≡ None
Gives meant (Err fault.NoMemory) = Unit {0}
