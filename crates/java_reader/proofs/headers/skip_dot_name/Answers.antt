use Rattle.java_reader.specs.Headers.{dot_name_passed, name_passed}
use Rattle.java_reader.proofs.Passing.{pass_as, dot_is}
use Rattle.java_reader.proofs.headers.skip_dot_name.Goals as goal

pub returns-clause-is : goal.returns-clause-is
returns-clause-is c =
    pass_as c.skip_name.result (dot_name_passed c.args.tokens.now) (name_passed c.in_ok-rest.rest.now) (dot_is c.args.tokens.now c.in_ok-rest.rest.now c.in_ok-rest.ensures.is) c.skip_name.ensures.is
