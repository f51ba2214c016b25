-- The commands that work so far. The words of every other command are answered as words that are no request.
use Rattle.std.specs.Prelude.{Bool, true, false, Option, Some, None, if◌then◌else◌}
use Rattle.taco_words.specs.declared.request.Request.{Request}
use Rattle.taco_words.specs.declared.request.Request.TheVariants as request

-- `check`, `replay`, `sat` and `proof` work
abbrev pub is_served : Request → Bool
is_served (request.Check job budget) = true
is_served (request.Bounds job schedule) = false
is_served (request.Replay job state) = true
is_served (request.Sat cnf budget) = true
is_served (request.Proof cnf log) = true
is_served (request.Stress number) = false

-- of these `run_plain` serves `replay`, `sat` and `proof`
abbrev pub is_served_plainly : Request → Bool
is_served_plainly (request.Check job budget) = false
is_served_plainly r = is_served r

abbrev pub where_served : (Request → Bool) → Option Request → Option Request
where_served works None = None
where_served works (Some r) = if works r then Some r else None

-- the request that `run` does, and the one that `run_plain` does, of what the words ask for
abbrev pub served : Option Request → Option Request
served = where_served is_served

abbrev pub served_plainly : Option Request → Option Request
served_plainly = where_served is_served_plainly
