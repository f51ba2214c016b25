use Rattle.std.proofs.Common.{ℕ, List, subst}
use Rattle.taco_io.specs.Shelf.{Shelf}
use Rattle.formula_commands.specs.Texts.{Fetches, IsFormula, IsNoFormula, formula_file}
use Rattle.formula_commands.proofs.Searching.{none_found}
use Rattle.formula_commands.proofs.sat_command.search_formula.Goals as goal

pub returns-in-Err-clause-answered : goal.returns-in-Err-clause-answered
returns-in-Err-clause-answered g c =
    let old : Shelf = g.F.Files.shelf c.args.files.now in
    let new : Shelf = g.F.Files.shelf c.read_formula.new.files in
    let fetched : List ℕ → Type 0 = λ name. Fetches 0 (formula_file name) IsFormula IsNoFormula old new c.read_formula.result in
    none_found c.args.cnf.now c.args.budget old new c.in-Err.end c.bare.result c.text_ended.result c.bare.ensures
    (subst (λ r. Fetches 0 (formula_file c.args.cnf.now) IsFormula IsNoFormula old new r) c.in-Err.is (subst fetched c.as_str.ensures c.read_formula.ensures.fetches)) c.in-Err.ensures.stays c.text_ended.ensures
