use Rattle.std.proofs.Common.{◌≡◌, true, ◌&&◌, [], map, reverse, refl, subst, sym, ap, ◌∙◌}
use Rattle.std.proofs.lemmas.Bool.{and_from}
use Rattle.std.proofs.lemmas.List.{nil_from_length}
use Rattle.std.proofs.lemmas.List.Sorted.{length_permutation}
use Rattle.cnf_core.specs.Literal.{negated}
use Rattle.derivation.specs.Propagation.{once, ends}
use Rattle.sat_analysis.proofs.Learning.{refuted}
use Rattle.sat_analysis.proofs.learn.refute.Goals as goal

pub start-requires : goal.start-requires
start-requires g c =
    let noted = c.requires.0 in
    (c.entries-left.ensures.sound, (noted.levels, (noted.leveled, (c.requires.1.0, (c.new-hints.ensures.items, (c.requires.1.1.1.0, (c.requires.1.1.1.1.0, c.requires.1.1.1.1.1)))))))

pub returns-clause-empty : goal.returns-clause-empty
returns-clause-empty g c = nil_from_length c.in_ok-line.line.clause (length_permutation [] c.in_ok-line.line.clause c.in_ok-line.ensures.clause)

pub returns-clause-follows : goal.returns-clause-follows
returns-clause-follows g c =
    let empty : c.in_ok-line.line.clause ≡ [] = nil_from_length c.in_ok-line.line.clause (length_permutation [] c.in_ok-line.line.clause c.in_ok-line.ensures.clause) in
    let hints : c.in_ok-line.line.hints ≡ reverse c.go_back.new.hints.items = c.in_ok-line.ensures.hints ∙ ap reverse c.deref.ensures.value in
    let done : ends g.known c.in_ok-line.line.hints [] ≡ true =
    subst (λ hs. ends g.known hs [] ≡ true) (sym hints)
    (refuted g.known c.args.trail.now c.args.notes.now.levels.items c.go_back.new.marks.lits c.go_back.new.hints.items c.in_ok-_left._left c.entries-left.ensures.sound c.requires.0.leveled c.requires.1.1.0 c.in_ok-_left.ensures.at) in
    subst (λ cl. (once cl && ends g.known c.in_ok-line.line.hints (map negated cl)) ≡ true) (sym empty) (and_from (once []) _ refl done)
