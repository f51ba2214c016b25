use Rattle.std.proofs.Common.{refl, ap, ◌∙◌, subst}
use Rattle.sat_solver.specs.Answers.{IsKept, IsRight}
use Rattle.sat_solver.specs.Loading.{Asked}
use Rattle.formula_commands.proofs.Searching.{verdict}
use Rattle.formula_commands.proofs.sat_command.decided.Goals as goal

pub returns : goal.returns
returns c =
    let solved = c.in_ok-answer.field-0 in
    let formula = ap (λ (a : Asked). a.cnf) c.in_ok-solver.ensures in
    let budget = ap (λ (a : Asked). a.budget) c.in_ok-solver.ensures in
    let answer = c.in_ok-answer.ensures.answer in
    let right : IsRight solved.cnf solved.log c.args.budget solved.answer = subst (λ b. IsRight solved.cnf solved.log b solved.answer) budget answer.right in
    record {
      evidence = record { cnf = solved.cnf; log = solved.log; tuple_vars = c.new-tuple_vars.result };
      there = refl;
      same = c.in_ok-answer.ensures.cnf ∙ formula;
      kept = subst (λ b. IsKept solved.cnf solved.log b) budget answer.kept;
      no_tuples = c.new-tuple_vars.ensures.items;
      verdict = verdict solved.cnf solved.log c.args.budget solved.answer c.in_ok-outcome.outcome right c.in_ok-outcome.ensures;
    }
