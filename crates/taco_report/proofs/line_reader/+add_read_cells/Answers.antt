use Rattle.std.proofs.Common.{◌≡◌, ◌++◌, ◌∷◌, true, List, ℕ, flat_map, sym, ap, subst, ◌∙◌, arith}
use Rattle.std.specs.Prelude.{zip}
use Rattle.std.specs.Cmp.Lexicographic.{pointwise}
use Rattle.taco_report.specs.Texts.{cell_text}
use Rattle.taco_report.specs.States.{is_cell}
use Rattle.taco_report.proofs.Lists.{FirstCell, first_cell, none_from, SameCell, same_cell}
use Rattle.taco_report.proofs.line_reader.+add_read_cells.Goals as goal

pub returns-in-None-clause-none : goal.returns-in-None-clause-none
returns-in-None-clause-none t c =
    λ vs more are end same.
    let none = rw c.in-None.is at c.in_ok-value.ensures.none in
    let fields : c.args.fields.now ≡ c.in-Some.field.now ∷ c.in-Some.others.now = c.in-Some.ensures.cases.0 in
    let all : pointwise (is_cell c.args.problem.now.unit c.args.count) (c.in-Some.field.now ∷ c.in-Some.others.now) vs ≡ true =
    subst (λ (fs : List ℕ). pointwise (is_cell c.args.problem.now.unit c.args.count) fs vs ≡ true) fields are in
    let h : FirstCell c.args.problem.now c.args.count c.in-Some.field.now c.in-Some.others.now vs more =
    first_cell c.args.problem.now c.args.count c.in-Some.field.now c.in-Some.others.now vs more all end in
    let text : c.args.text.now ≡ cell_text c.args.problem.now (c.in-Some.field.now, h.value) ++ (flat_map (cell_text c.args.problem.now) (zip c.in-Some.others.now h.values) ++ more) =
    same ∙ ap (λ (fs : List ℕ). flat_map (cell_text c.args.problem.now) (zip fs vs) ++ more) fields ∙ h.text in
    none h.value (flat_map (cell_text c.args.problem.now) (zip c.in-Some.others.now h.values) ++ more) h.is h.end text

pub returns-in_ok-push-in-Some-2-clause-none : goal.returns-in_ok-push-in-Some-2-clause-none
returns-in_ok-push-in-Some-2-clause-none t c =
    let found = rw c.in-Some-2.is at c.in_ok-value.ensures.found in
    let fields : c.args.fields.now ≡ c.in-Some.field.now ∷ c.in-Some.others.now = c.in-Some.ensures.cases.0 in
    none_from c.add_read_cells.result (λ none vs more are end same.
    let all : pointwise (is_cell c.args.problem.now.unit c.args.count) (c.in-Some.field.now ∷ c.in-Some.others.now) vs ≡ true =
    subst (λ (fs : List ℕ). pointwise (is_cell c.args.problem.now.unit c.args.count) fs vs ≡ true) fields are in
    let h : FirstCell c.args.problem.now c.args.count c.in-Some.field.now c.in-Some.others.now vs more =
    first_cell c.args.problem.now c.args.count c.in-Some.field.now c.in-Some.others.now vs more all end in
    let text : c.args.text.now ≡ cell_text c.args.problem.now (c.in-Some.field.now, h.value) ++ (flat_map (cell_text c.args.problem.now) (zip c.in-Some.others.now h.values) ++ more) =
    same ∙ ap (λ (fs : List ℕ). flat_map (cell_text c.args.problem.now) (zip fs vs) ++ more) fields ∙ h.text in
    let k : SameCell c.args.problem.now c.in-Some-2.value h.value c.in-Some-2.rest.now (flat_map (cell_text c.args.problem.now) (zip c.in-Some.others.now h.values) ++ more) =
    same_cell c.args.problem.now c.args.count c.in-Some.field.now c.in-Some-2.value h.value c.in-Some-2.rest.now (flat_map (cell_text c.args.problem.now) (zip c.in-Some.others.now h.values) ++ more)
    (omega arith) found.0 h.is found.2 h.end (sym found.1 ∙ text) in
    none h.values more h.are end k.rest)
    c.add_read_cells.ensures.none
