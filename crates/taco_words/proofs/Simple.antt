-- The commands are simple, and no argument has a rule on another.
use Rattle.std.proofs.Common.{◌≡◌, true, refl}
use Rattle.clap.specs.Words.{is_simple_and_free}
use Rattle.clap.proofs.OnLiterals.{clap_on_literals}
use Rattle.taco_words.specs.declared.commands.Task.{Task}
use Rattle.taco_words.specs.declared.commands.Task.TheVariants as task
use Rattle.taco_words.specs.Commands.{app_for, check_app, bounds_app, replay_app, sat_app, proof_app, stress_app}

check_simple : is_simple_and_free check_app ≡ true
unfolding clap_on_literals check_app
check_simple = refl

bounds_simple : is_simple_and_free bounds_app ≡ true
unfolding clap_on_literals bounds_app
bounds_simple = refl

replay_simple : is_simple_and_free replay_app ≡ true
unfolding clap_on_literals replay_app
replay_simple = refl

sat_simple : is_simple_and_free sat_app ≡ true
unfolding clap_on_literals sat_app
sat_simple = refl

proof_simple : is_simple_and_free proof_app ≡ true
unfolding clap_on_literals proof_app
proof_simple = refl

stress_simple : is_simple_and_free stress_app ≡ true
unfolding clap_on_literals stress_app
stress_simple = refl

pub is_simple : (t : Task) → is_simple_and_free (app_for t) ≡ true
is_simple task.Check = check_simple
is_simple task.Bounds = bounds_simple
is_simple task.Replay = replay_simple
is_simple task.Sat = sat_simple
is_simple task.Proof = proof_simple
is_simple task.Stress = stress_simple
