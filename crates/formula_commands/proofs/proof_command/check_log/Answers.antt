use Rattle.std.proofs.Common.{ℕ, List, subst}
use Rattle.taco_io.specs.Shelf.{Shelf}
use Rattle.formula_commands.specs.Texts.{Fetches, IsFormula, IsLog, IsNoFormula, IsNoLog, formula_file}
use Rattle.formula_commands.proofs.Judging.{formula_ended, log_ended}
use Rattle.formula_commands.proofs.proof_command.check_log.Goals as goal

pub returns-in-Err : goal.returns-in-Err
returns-in-Err g c =
    let old : Shelf = g.F.Files.shelf c.args.files.now in
    let new : Shelf = g.F.Files.shelf c.read_formula.new.files in
    let fetched : List ℕ → Type 0 = λ name. Fetches 0 (formula_file name) IsFormula IsNoFormula old new c.read_formula.result in
    formula_ended c.args.cnf.now c.args.log.now old new c.in-Err.end c.text_ended.result
    (subst (λ r. Fetches 0 (formula_file c.args.cnf.now) IsFormula IsNoFormula old new r) c.in-Err.is (subst fetched c.as_str.ensures c.read_formula.ensures.fetches)) c.in-Err.ensures.stays c.text_ended.ensures

pub returns : goal.returns
returns g c =
    let old : Shelf = g.F.Files.shelf c.args.files.now in
    let mid : Shelf = g.F.Files.shelf c.read_formula.new.files in
    let new : Shelf = g.F.Files.shelf c.read_steps.new.files in
    let formula = c.in-Ok.formula in
    let first : List ℕ → Type 0 = λ name. Fetches 0 (formula_file name) IsFormula IsNoFormula old mid c.read_formula.result in
    let second : List ℕ → Type 0 = λ name. Fetches 1 (formula_file name) (IsLog c.vars.result) (IsNoLog c.vars.result) mid new c.read_steps.result in
    let read = subst (λ r. Fetches 0 (formula_file c.args.cnf.now) IsFormula IsNoFormula old mid r) c.in-Ok.is (subst first c.as_str.ensures c.read_formula.ensures.fetches) in
    let steps = subst (λ r. Fetches 1 (formula_file c.args.log.now) (IsLog c.vars.result) (IsNoLog c.vars.result) mid new r) c.in-Err-read_steps.is (subst second c.as_str-2.ensures c.read_steps.ensures.fetches) in
    log_ended c.args.cnf.now c.args.log.now old mid new formula c.vars.result c.vars.ensures.value c.in-Err-read_steps.end c.text_ended-in-Err-read_steps.result read c.in-Ok.ensures.stays steps
    c.in-Err-read_steps.ensures.stays c.text_ended-in-Err-read_steps.ensures
