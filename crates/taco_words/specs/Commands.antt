-- The commands, as what `clap` parses: each is a simple command without subcommands. Every option takes one value.
use Rattle.std.specs.Prelude.{Option, Some, None, true, bytes_eq, codes, if◌then◌else◌}
use Rattle.clap.specs.Words.{App, Rule, Text, new_app, new_rule, with_rule}
use Rattle.clap.specs.declared.builder.action.ArgAction.TheVariants.{Set}
use Rattle.taco_words.specs.declared.commands.Task.{Task}
use Rattle.taco_words.specs.declared.commands.Task.TheVariants as task

-- a word that stands by its place
abbrev pub word_rule : Text → Rule
word_rule id = record (new_rule id) { required = true; action = Some Set }

-- an option that has to be there
abbrev pub needed_rule : Text → Rule
needed_rule id = record (new_rule id) { long = Some id; required = true; action = Some Set }

-- an option that may be left out
abbrev pub option_rule : Text → Rule
option_rule id = record (new_rule id) { long = Some id; action = Some Set }

-- `--class C --method M`
abbrev pub with_method : App → App
with_method a = with_rule (with_rule a (needed_rule (codes "class"))) (needed_rule (codes "method"))

-- the scope: `--objects`, `--ints`, `--loops`, `--calls`
abbrev pub with_scope : App → App
with_scope a =
    with_rule (with_rule (with_rule (with_rule a (option_rule (codes "objects"))) (option_rule (codes "ints"))) (option_rule (codes "loops"))) (option_rule (codes "calls"))

-- the plan: `--workers`, `--rounds`, `--tuple-conflicts`
abbrev pub with_plan : App → App
with_plan a = with_rule (with_rule (with_rule a (option_rule (codes "workers"))) (option_rule (codes "rounds"))) (option_rule (codes "tuple-conflicts"))

-- `check FILE --class C --method M [scope] [plan] [--conflicts B]`
unfoldable pub check_app : App
check_app = with_rule (with_plan (with_scope (with_method (with_rule (new_app (codes "check")) (word_rule (codes "file")))))) (option_rule (codes "conflicts"))

-- `bounds FILE --class C --method M [scope] [plan] [--schedule LIST]`
unfoldable pub bounds_app : App
bounds_app = with_rule (with_plan (with_scope (with_method (with_rule (new_app (codes "bounds")) (word_rule (codes "file")))))) (option_rule (codes "schedule"))

-- `replay FILE STATE --class C --method M [scope]`
unfoldable pub replay_app : App
replay_app = with_scope (with_method (with_rule (with_rule (new_app (codes "replay")) (word_rule (codes "file"))) (word_rule (codes "state"))))

-- `sat CNF [--conflicts B]`
unfoldable pub sat_app : App
sat_app = with_rule (with_rule (new_app (codes "sat")) (word_rule (codes "cnf"))) (option_rule (codes "conflicts"))

-- `proof CNF LOG`
unfoldable pub proof_app : App
proof_app = with_rule (with_rule (new_app (codes "proof")) (word_rule (codes "cnf"))) (word_rule (codes "log"))

-- `stress --number N`
unfoldable pub stress_app : App
stress_app = with_rule (new_app (codes "stress")) (needed_rule (codes "number"))

-- the command of this name
abbrev pub task_named : Text → Option Task
task_named word =
    if bytes_eq word (codes "check") then Some task.Check
    else (if bytes_eq word (codes "bounds") then Some task.Bounds
    else (if bytes_eq word (codes "replay") then Some task.Replay
    else (if bytes_eq word (codes "sat") then Some task.Sat
    else (if bytes_eq word (codes "proof") then Some task.Proof
    else (if bytes_eq word (codes "stress") then Some task.Stress
    else None)))))

abbrev pub app_for : Task → App
app_for task.Check = check_app
app_for task.Bounds = bounds_app
app_for task.Replay = replay_app
app_for task.Sat = sat_app
app_for task.Proof = proof_app
app_for task.Stress = stress_app
