use Rattle.std.proofs.Common.{sym, ◌∙◌}
use Rattle.derivation.proofs.LineTexts.{front_line, line_made}
use Rattle.derivation.proofs.log_reader.first_line.Goals as goal

pub returns-in_default-2-clause-none : goal.returns-in_default-2-clause-none
returns-in_default-2-clause-none c =
    λ step more is same.
    let none = rw c.in_default-2.is at c.in_ok-line.ensures.none in
    none step is (c.new-words.ensures ∙ (front_line c.args.vars _ _ _ step more c.requires c.in-Some.ensures is same).words)

pub returns-clause-found : goal.returns-clause-found
returns-clause-found c =
    let found = rw c.in-Some-2.is at c.in_ok-line.ensures.found in
    (found.0, line_made _ _ _ c.in-Some-2.line c.in-Some.ensures (sym c.new-words.ensures ∙ found.1))
