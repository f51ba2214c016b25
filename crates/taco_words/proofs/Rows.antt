-- Lists of words, and what they ask for.
use Rattle.std.proofs.Common.{◌≡◌, ℕ, zero, suc, List, [], ◌∷◌, Some, None, codes, refl}
use Rattle.std.specs.Prelude.{⊤}
use Rattle.std.specs.Fmt.{digits}
use Rattle.clap.specs.Words.{Text}
use Rattle.clap.proofs.OnLiterals.{clap_on_literals}
use Rattle.taco_words.specs.declared.request.Job.{Job}
use Rattle.taco_words.specs.declared.request.Request.TheVariants as request
use Rattle.taco_words.specs.Asked.{asked}
use Rattle.taco_words.specs.Commands.{check_app, bounds_app, replay_app, sat_app, proof_app, stress_app}

-- what a row unfolds
unfoldable on_literals : ⊤
unfolding clap_on_literals digits asked check_app bounds_app replay_app sat_app proof_app stress_app
on_literals = tt

-- the method id of class B in this file, with the usual scope and so many workers in the usual plan
abbrev job_in : Text → ℕ → Job
job_in file workers = record { file = file; class = codes "B"; method = codes "id"; scope = record { objects = 3; ints = 4; loops = 3; calls = 2 }; plan = record { workers = workers; rounds = 1; budget = 0 } }

abbrev job : Job
job = job_in (codes "B.java") 1

options_around_the_file : asked (codes "check" ∷ codes "--class" ∷ codes "B" ∷ codes "B.java" ∷ codes "--method=id" ∷ []) ≡ Some (request.Check job 0)
unfolding on_literals
options_around_the_file = refl

every_option : asked (codes "check" ∷ codes "B.java" ∷ codes "--class" ∷ codes "B" ∷ codes "--method" ∷ codes "id" ∷ codes "--objects" ∷ codes "12" ∷ codes "--ints=2" ∷ codes "--loops" ∷ codes "0" ∷ codes "--calls" ∷ codes "4" ∷ codes "--workers" ∷ codes "16" ∷ codes "--rounds" ∷ codes "8" ∷ codes "--tuple-conflicts" ∷ codes "7" ∷ codes "--conflicts" ∷ codes "5" ∷ []) ≡ Some (request.Check (record job { scope = record { objects = 12; ints = 2; loops = 0; calls = 4 }; plan = record { workers = 16; rounds = 8; budget = 7 } }) 5)
unfolding on_literals
every_option = refl

two_files : asked (codes "check" ∷ codes "B.java" ∷ codes "B.java" ∷ codes "--class" ∷ codes "B" ∷ codes "--method" ∷ codes "id" ∷ []) ≡ None
unfolding on_literals
two_files = refl

no_file : asked (codes "check" ∷ codes "--class" ∷ codes "B" ∷ codes "--method" ∷ codes "id" ∷ []) ≡ None
unfolding on_literals
no_file = refl

leading_zero : asked (codes "check" ∷ codes "B.java" ∷ codes "--class" ∷ codes "B" ∷ codes "--method" ∷ codes "id" ∷ codes "--objects" ∷ codes "03" ∷ []) ≡ None
unfolding on_literals
leading_zero = refl

plus_sign : asked (codes "check" ∷ codes "B.java" ∷ codes "--class" ∷ codes "B" ∷ codes "--method" ∷ codes "id" ∷ codes "--objects" ∷ codes "+3" ∷ []) ≡ None
unfolding on_literals
plus_sign = refl

above_its_range : asked (codes "check" ∷ codes "B.java" ∷ codes "--class" ∷ codes "B" ∷ codes "--method" ∷ codes "id" ∷ codes "--objects" ∷ codes "13" ∷ []) ≡ None
unfolding on_literals
above_its_range = refl

below_its_range : asked (codes "check" ∷ codes "B.java" ∷ codes "--class" ∷ codes "B" ∷ codes "--method" ∷ codes "id" ∷ codes "--objects" ∷ codes "0" ∷ []) ≡ None
unfolding on_literals
below_its_range = refl

empty_number : asked (codes "check" ∷ codes "B.java" ∷ codes "--class" ∷ codes "B" ∷ codes "--method" ∷ codes "id" ∷ codes "--objects" ∷ codes "" ∷ []) ≡ None
unfolding on_literals
empty_number = refl

no_number : asked (codes "check" ∷ codes "B.java" ∷ codes "--class" ∷ codes "B" ∷ codes "--method" ∷ codes "id" ∷ codes "--objects" ∷ []) ≡ None
unfolding on_literals
no_number = refl

repeated_option : asked (codes "check" ∷ codes "B.java" ∷ codes "--class" ∷ codes "B" ∷ codes "--method" ∷ codes "id" ∷ codes "--loops" ∷ codes "3" ∷ codes "--loops" ∷ codes "3" ∷ []) ≡ None
unfolding on_literals
repeated_option = refl

unknown_option : asked (codes "check" ∷ codes "B.java" ∷ codes "--class" ∷ codes "B" ∷ codes "--method" ∷ codes "id" ∷ codes "--loop" ∷ codes "3" ∷ []) ≡ None
unfolding on_literals
unknown_option = refl

help : asked (codes "check" ∷ codes "B.java" ∷ codes "--class" ∷ codes "B" ∷ codes "--method" ∷ codes "id" ∷ codes "--help" ∷ []) ≡ None
unfolding on_literals
help = refl

version : asked (codes "check" ∷ codes "B.java" ∷ codes "--class" ∷ codes "B" ∷ codes "--method" ∷ codes "id" ∷ codes "--version" ∷ []) ≡ None
unfolding on_literals
version = refl

empty_class : asked (codes "check" ∷ codes "B.java" ∷ codes "--class=" ∷ codes "--method" ∷ codes "id" ∷ []) ≡ Some (request.Check (record job { class = [] }) 0)
unfolding on_literals
empty_class = refl

dash_as_a_file : asked (codes "check" ∷ codes "-" ∷ codes "--class" ∷ codes "B" ∷ codes "--method" ∷ codes "id" ∷ []) ≡ Some (request.Check (job_in (codes "-") 1) 0)
unfolding on_literals
dash_as_a_file = refl

file_that_begins_with_a_dash : asked (codes "check" ∷ codes "-x" ∷ codes "--class" ∷ codes "B" ∷ codes "--method" ∷ codes "id" ∷ []) ≡ None
unfolding on_literals
file_that_begins_with_a_dash = refl

file_behind_two_dashes : asked (codes "check" ∷ codes "--class" ∷ codes "B" ∷ codes "--method" ∷ codes "id" ∷ codes "--" ∷ codes "-x" ∷ []) ≡ Some (request.Check (job_in (codes "-x") 1) 0)
unfolding on_literals
file_behind_two_dashes = refl

file_that_is_named_as_an_option : asked (codes "check" ∷ codes "--class" ∷ codes "B" ∷ codes "--method" ∷ codes "id" ∷ codes "--" ∷ codes "--class" ∷ []) ≡ Some (request.Check (job_in (codes "--class") 1) 0)
unfolding on_literals
file_that_is_named_as_an_option = refl

option_in_place_of_a_value : asked (codes "check" ∷ codes "B.java" ∷ codes "--class" ∷ codes "--class" ∷ codes "--method" ∷ codes "id" ∷ []) ≡ None
unfolding on_literals
option_in_place_of_a_value = refl

no_schedule : asked (codes "bounds" ∷ codes "B.java" ∷ codes "--class" ∷ codes "B" ∷ codes "--method" ∷ codes "id" ∷ []) ≡ Some (request.Bounds job None)
unfolding on_literals
no_schedule = refl

schedule : asked (codes "bounds" ∷ codes "B.java" ∷ codes "--class" ∷ codes "B" ∷ codes "--method" ∷ codes "id" ∷ codes "--schedule" ∷ codes "0,1" ∷ codes "--workers" ∷ codes "2" ∷ []) ≡ Some (request.Bounds (job_in (codes "B.java") 2) (Some (0 ∷ 1 ∷ [])))
unfolding on_literals
schedule = refl

worker_that_is_not_there : asked (codes "bounds" ∷ codes "B.java" ∷ codes "--class" ∷ codes "B" ∷ codes "--method" ∷ codes "id" ∷ codes "--schedule" ∷ codes "2" ∷ codes "--workers" ∷ codes "2" ∷ []) ≡ None
unfolding on_literals
worker_that_is_not_there = refl

worker_that_is_not_there_by_default : asked (codes "bounds" ∷ codes "B.java" ∷ codes "--class" ∷ codes "B" ∷ codes "--method" ∷ codes "id" ∷ codes "--schedule" ∷ codes "1" ∷ []) ≡ None
unfolding on_literals
worker_that_is_not_there_by_default = refl

empty_schedule : asked (codes "bounds" ∷ codes "B.java" ∷ codes "--class" ∷ codes "B" ∷ codes "--method" ∷ codes "id" ∷ codes "--schedule=" ∷ []) ≡ None
unfolding on_literals
empty_schedule = refl

comma_at_the_end : asked (codes "bounds" ∷ codes "B.java" ∷ codes "--class" ∷ codes "B" ∷ codes "--method" ∷ codes "id" ∷ codes "--schedule" ∷ codes "0," ∷ []) ≡ None
unfolding on_literals
comma_at_the_end = refl

-- `bounds` has no such option
bounds_without_conflicts : asked (codes "bounds" ∷ codes "B.java" ∷ codes "--class" ∷ codes "B" ∷ codes "--method" ∷ codes "id" ∷ codes "--conflicts" ∷ codes "0" ∷ []) ≡ None
unfolding on_literals
bounds_without_conflicts = refl

replay : asked (codes "replay" ∷ codes "B.java" ∷ codes "S" ∷ codes "--class" ∷ codes "B" ∷ codes "--method" ∷ codes "id" ∷ []) ≡ Some (request.Replay job (codes "S"))
unfolding on_literals
replay = refl

-- `replay` has no such option
replay_without_workers : asked (codes "replay" ∷ codes "B.java" ∷ codes "S" ∷ codes "--workers" ∷ codes "2" ∷ codes "--class" ∷ codes "B" ∷ codes "--method" ∷ codes "id" ∷ []) ≡ None
unfolding on_literals
replay_without_workers = refl

greatest_budget : asked (codes "sat" ∷ codes "F" ∷ codes "--conflicts" ∷ codes "1000000000" ∷ []) ≡ Some (request.Sat (codes "F") 1000000000)
unfolding on_literals
greatest_budget = refl

budget_too_great : asked (codes "sat" ∷ codes "F" ∷ codes "--conflicts" ∷ codes "1000000001" ∷ []) ≡ None
unfolding on_literals
budget_too_great = refl

option_before_the_file : asked (codes "sat" ∷ codes "--conflicts=1" ∷ codes "F" ∷ []) ≡ Some (request.Sat (codes "F") 1)
unfolding on_literals
option_before_the_file = refl

proof : asked (codes "proof" ∷ codes "F" ∷ codes "L" ∷ []) ≡ Some (request.Proof (codes "F") (codes "L"))
unfolding on_literals
proof = refl

proof_of_one_file : asked (codes "proof" ∷ codes "F" ∷ []) ≡ None
unfolding on_literals
proof_of_one_file = refl

greatest_stress : asked (codes "stress" ∷ codes "--number" ∷ codes "65536" ∷ []) ≡ Some (request.Stress 65536)
unfolding on_literals
greatest_stress = refl

stress_too_great : asked (codes "stress" ∷ codes "--number" ∷ codes "65537" ∷ []) ≡ None
unfolding on_literals
stress_too_great = refl

stress_without_a_number : asked (codes "stress" ∷ []) ≡ None
unfolding on_literals
stress_without_a_number = refl

no_words : asked ([]) ≡ None
unfolding on_literals
no_words = refl

unknown_command : asked (codes "Check" ∷ codes "B.java" ∷ codes "--class" ∷ codes "B" ∷ codes "--method" ∷ codes "id" ∷ []) ≡ None
unfolding on_literals
unknown_command = refl

option_as_a_command : asked (codes "--help" ∷ []) ≡ None
unfolding on_literals
option_as_a_command = refl

-- so many zeros, joined by commas behind a zero
more_zeros : ℕ → Text
more_zeros zero = []
more_zeros (suc n) = 44 ∷ 48 ∷ more_zeros n

nothing_but_zeros : ℕ → List ℕ
nothing_but_zeros zero = []
nothing_but_zeros (suc n) = 0 ∷ nothing_but_zeros n

most_entries : asked (codes "bounds" ∷ codes "B.java" ∷ codes "--class" ∷ codes "B" ∷ codes "--method" ∷ codes "id" ∷ codes "--schedule" ∷ (48 ∷ more_zeros 4095) ∷ []) ≡ Some (request.Bounds job (Some (nothing_but_zeros 4096)))
unfolding on_literals more_zeros nothing_but_zeros
most_entries = refl

one_entry_too_many : asked (codes "bounds" ∷ codes "B.java" ∷ codes "--class" ∷ codes "B" ∷ codes "--method" ∷ codes "id" ∷ codes "--schedule" ∷ (48 ∷ more_zeros 4096) ∷ []) ≡ None
unfolding on_literals more_zeros
one_entry_too_many = refl
