use Rattle.check_command.proofs.Deciding.{checked_answered, none_answered}
use Rattle.check_command.proofs.command.check_method.Goals as goal

pub returns-in-Ok : goal.returns-in-Ok
returns-in-Ok g c =
    let fetches = c.in-Ok.ensures.fetches in
    checked_answered c.args.job.now (g.F.Files.shelf c.args.files.now) (g.F.Files.shelf c.read_problem.new.files) c.in-Ok.ensures.stays c.in-Ok.problem fetches.0 fetches.1 fetches.2 c.decide.result
    c.or_no_memory.result c.decide.ensures c.or_no_memory.ensures

pub returns-in-Err : goal.returns-in-Err
returns-in-Err g c =
    none_answered c.args.job.now (g.F.Files.shelf c.args.files.now) (g.F.Files.shelf c.read_problem.new.files) c.in-Err.ensures.stays c.in-Err.why c.without_problem.result c.in-Err.ensures.fetches
    c.without_problem.ensures
