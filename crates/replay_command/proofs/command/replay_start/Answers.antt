use Rattle.std.proofs.Common.{◌≡◌, ℕ, List, IfSome, subst}
use Rattle.std.specs.Prelude.{IfOk}
use Rattle.taco_io.specs.Shelf.{Shelf}
use Rattle.command_files.specs.Slots.{EndsFile, IsReadWhole}
use Rattle.replay_command.specs.ReplayCommand.{state_file}
use Rattle.replay_command.specs.Replaying.{ReplaysText}
use Rattle.replay_command.proofs.Answering.{none_answered, state_answered, state_ended}
use Rattle.replay_command.proofs.command.replay_start.Goals as goal

pub returns-in-Err : goal.returns-in-Err
returns-in-Err g c =
    none_answered c.args.job.now c.args.state.now (g.F.Files.shelf c.args.files.now) (g.F.Files.shelf c.read_problem.new.files) c.in-Err.why c.without_problem.result c.in-Err.ensures.fetches
    c.in-Err.ensures.stays c.without_problem.ensures

pub returns-in-Ok-read_file : goal.returns-in-Ok-read_file
returns-in-Ok-read_file g c =
    let p = c.in-Ok.problem in
    let fetches = c.in-Ok.ensures.fetches in
    let old : Shelf = g.F.Files.shelf c.args.files.now in
    let mid : Shelf = g.F.Files.shelf c.read_problem.new.files in
    let new : Shelf = g.F.Files.shelf c.read_file.new.files in
    let bytes : List ℕ = c.in-Ok-read_file.text.items in
    let reads = c.in-Ok-read_file.ensures.reads in
    let told_at : List ℕ → Type 0 = λ name. IfSome (mid.content name) (λ content. bytes ≡ content) in
    let whole_at : List ℕ → Type 0 = λ name. IsReadWhole 1 (state_file name) mid new in
    let replays : List ℕ → Type 0 = λ b. IfOk c.replay_of.result (ReplaysText p b) in
    state_answered c.args.job.now c.args.state.now old mid new p fetches.0 fetches.1 fetches.2 c.in-Ok.ensures.stays c.in-Ok-read_file.ensures.stays bytes (subst told_at c.as_str.ensures reads.0)
    (subst whole_at c.as_str.ensures reads.2) c.replay_of.result c.or_no_memory.result (subst replays c.deref.ensures.value c.replay_of.ensures) c.or_no_memory.ensures

pub returns : goal.returns
returns g c =
    let p = c.in-Ok.problem in
    let fetches = c.in-Ok.ensures.fetches in
    let old : Shelf = g.F.Files.shelf c.args.files.now in
    let mid : Shelf = g.F.Files.shelf c.read_problem.new.files in
    let new : Shelf = g.F.Files.shelf c.read_file.new.files in
    let ends_at : List ℕ → Type 0 = λ name. EndsFile 1 (state_file name) mid new c.in-Err-read_file.end in
    state_ended c.args.job.now c.args.state.now old mid new p fetches.0 fetches.1 fetches.2 c.in-Ok.ensures.stays c.in-Err-read_file.ensures.stays c.in-Err-read_file.end c.ended.result
    (subst ends_at c.as_str.ensures c.in-Err-read_file.ensures.reads) c.ended.ensures
