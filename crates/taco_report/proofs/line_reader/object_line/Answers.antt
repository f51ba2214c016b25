use Rattle.std.proofs.Common.{◌≡◌, ℕ, true, Some, None, List, ◌∷◌, ◌++◌, flat_map, refl, sym, ap, subst, ◌∙◌, arith}
use Rattle.std.specs.Prelude.{codes, zip}
use Rattle.std.specs.Cmp.Lexicographic.{pointwise}
use Rattle.taco_unit.specs.Named.{class_number}
use Rattle.heap_core.specs.Posed.{Posed}
use Rattle.heap_core.specs.declared.value.Value.{Value}
use Rattle.heap_core.specs.declared.value.Object.{Object}
use Rattle.taco_report.specs.Texts.{cell_text, class_text, fields_of_class, object_text}
use Rattle.taco_report.specs.States.{is_cell}
use Rattle.taco_report.proofs.Lists.{SameCells, same_cells}
use Rattle.taco_report.proofs.Objects.{ObjectFront, ObjectRead, cells_text, object_front, object_opened, object_read}
use Rattle.taco_report.proofs.line_reader.object_line.Goals as goal

pub returns-in_default-clause-none : goal.returns-in_default-clause-none
returns-in_default-clause-none c =
    λ x more is same.
    let start : c.as_bytes.result.now ≡ object_text c.args.number ++ codes " " = c.as_bytes.ensures.value ∙ c.in_ok-head.ensures.ok in
    let behind : List ℕ = class_text c.args.problem.now x.class ++ (cells_text c.args.problem.now x.class x.cells ++ (10 ∷ more)) in
    c.in_default.ensures behind (object_opened c.args.problem.now c.args.number x more c.args.text.now same ∙ ap (λ h. h ++ behind) (sym start))

pub returns-in_default-class_named-clause-none : goal.returns-in_default-class_named-clause-none
returns-in_default-class_named-clause-none c =
    λ x more is same.
    let start : c.as_bytes.result.now ≡ object_text c.args.number ++ codes " " = c.as_bytes.ensures.value ∙ c.in_ok-head.ensures.ok in
    let front : ObjectFront c.args.problem.now c.args.count x c.word_of.result.0.now c.word_of.result.1.now more =
    object_front c.args.problem.now c.args.count c.args.number x c.as_bytes.result.now c.in-Some.name.now c.word_of.result.0.now c.word_of.result.1.now more c.args.text.now
    c.well_posed.ensures.unit is start c.in-Some.ensures c.word_of.ensures.parts c.word_of.ensures.word c.word_of.ensures.ends same in
    let unit : class_number c.problem.inside.unit c.word_of.result.0.now ≡ class_number c.args.problem.now.unit c.word_of.result.0.now =
    ap (λ (q : Posed). class_number q.unit c.word_of.result.0.now) c.problem.view_is in
    let lost : None ≡ Some x.class = sym c.in_default-class_named.is ∙ c.class_named.ensures ∙ unit ∙ front.class in
    absurd (cc)

pub returns-in_default-2-clause-none : goal.returns-in_default-2-clause-none
returns-in_default-2-clause-none c =
    λ x more is same.
    let none = rw c.in_default-2.is at c.in_ok-end.ensures.none in
    let start : c.as_bytes.result.now ≡ object_text c.args.number ++ codes " " = c.as_bytes.ensures.value ∙ c.in_ok-head.ensures.ok in
    let front : ObjectFront c.args.problem.now c.args.count x c.word_of.result.0.now c.word_of.result.1.now more =
    object_front c.args.problem.now c.args.count c.args.number x c.as_bytes.result.now c.in-Some.name.now c.word_of.result.0.now c.word_of.result.1.now more c.args.text.now
    c.well_posed.ensures.unit is start c.in-Some.ensures c.word_of.ensures.parts c.word_of.ensures.word c.word_of.ensures.ends same in
    let unit : class_number c.problem.inside.unit c.word_of.result.0.now ≡ class_number c.args.problem.now.unit c.word_of.result.0.now =
    ap (λ (q : Posed). class_number q.unit c.word_of.result.0.now) c.problem.view_is in
    let found_is : Some c.in-Some-class_named.class ≡ Some x.class = sym c.in-Some-class_named.is ∙ c.class_named.ensures ∙ unit ∙ front.class in
    let class : c.in-Some-class_named.class ≡ x.class = cc in
    let fields : c.fields_in-listed.result.now ≡ fields_of_class c.args.problem.now x.class = c.fields_in-listed.ensures ∙ ap (fields_of_class c.args.problem.now) class in
    let cells : pointwise (is_cell c.args.problem.now.unit c.args.count) c.fields_in-listed.result.now x.cells ≡ true =
    subst (λ (fs : List ℕ). pointwise (is_cell c.args.problem.now.unit c.args.count) fs x.cells ≡ true) (sym fields) front.cells in
    let text : c.word_of.result.1.now ≡ flat_map (cell_text c.args.problem.now) (zip c.fields_in-listed.result.now x.cells) ++ (10 ∷ more) =
    front.fields_are ∙ ap (λ (fs : List ℕ). flat_map (cell_text c.args.problem.now) (zip fs x.cells) ++ (10 ∷ more)) (sym fields) in
    none x.cells (10 ∷ more) cells refl text

pub returns-clause-none : goal.returns-clause-none
returns-clause-none c =
    λ x more is same.
    let found = rw c.in-Some-2.is at c.in_ok-end.ensures.found in
    let start : c.as_bytes.result.now ≡ object_text c.args.number ++ codes " " = c.as_bytes.ensures.value ∙ c.in_ok-head.ensures.ok in
    let front : ObjectFront c.args.problem.now c.args.count x c.word_of.result.0.now c.word_of.result.1.now more =
    object_front c.args.problem.now c.args.count c.args.number x c.as_bytes.result.now c.in-Some.name.now c.word_of.result.0.now c.word_of.result.1.now more c.args.text.now
    c.well_posed.ensures.unit is start c.in-Some.ensures c.word_of.ensures.parts c.word_of.ensures.word c.word_of.ensures.ends same in
    let unit : class_number c.problem.inside.unit c.word_of.result.0.now ≡ class_number c.args.problem.now.unit c.word_of.result.0.now =
    ap (λ (q : Posed). class_number q.unit c.word_of.result.0.now) c.problem.view_is in
    let found_is : Some c.in-Some-class_named.class ≡ Some x.class = sym c.in-Some-class_named.is ∙ c.class_named.ensures ∙ unit ∙ front.class in
    let class : c.in-Some-class_named.class ≡ x.class = cc in
    let fields : c.fields_in-listed.result.now ≡ fields_of_class c.args.problem.now x.class = c.fields_in-listed.ensures ∙ ap (fields_of_class c.args.problem.now) class in
    let cells : pointwise (is_cell c.args.problem.now.unit c.args.count) c.fields_in-listed.result.now x.cells ≡ true =
    subst (λ (fs : List ℕ). pointwise (is_cell c.args.problem.now.unit c.args.count) fs x.cells ≡ true) (sym fields) front.cells in
    let text : c.word_of.result.1.now ≡ flat_map (cell_text c.args.problem.now) (zip c.fields_in-listed.result.now x.cells) ++ (10 ∷ more) =
    front.fields_are ∙ ap (λ (fs : List ℕ). flat_map (cell_text c.args.problem.now) (zip fs x.cells) ++ (10 ∷ more)) (sym fields) in
    let k : SameCells found.0 x.cells c.in-Some-2.end.now (10 ∷ more) =
    same_cells c.args.problem.now c.args.count c.fields_in-listed.result.now found.0 x.cells c.in-Some-2.end.now (10 ∷ more) (omega arith) found.2 cells found.4 refl (sym found.3 ∙ text) in
    c.in-None.ensures more k.rest

pub returns-in-Some-behind-clause-found : goal.returns-in-Some-behind-clause-found
returns-in-Some-behind-clause-found c =
    let found = rw c.in-Some-2.is at c.in_ok-end.ensures.found in
    let start : c.as_bytes.result.now ≡ object_text c.args.number ++ codes " " = c.as_bytes.ensures.value ∙ c.in_ok-head.ensures.ok in
    let unit : class_number c.problem.inside.unit c.word_of.result.0.now ≡ class_number c.args.problem.now.unit c.word_of.result.0.now =
    ap (λ (q : Posed). class_number q.unit c.word_of.result.0.now) c.problem.view_is in
    let class : class_number c.args.problem.now.unit c.word_of.result.0.now ≡ Some c.in-Some-class_named.class = sym unit ∙ sym c.class_named.ensures ∙ c.in-Some-class_named.is in
    let x : Object = record { class = c.in-Some-class_named.class; cells = c.add_read_cells.new.cells } in
    let values : c.add_read_cells.new.cells ≡ found.0 = found.1 ∙ ap (λ (vs : List Value). vs ++ found.0) c.new-cells.ensures in
    let cells : pointwise (is_cell c.args.problem.now.unit c.args.count) (fields_of_class c.args.problem.now x.class) x.cells ≡ true =
    subst (λ (vs : List Value). pointwise (is_cell c.args.problem.now.unit c.args.count) (fields_of_class c.args.problem.now x.class) vs ≡ true) (sym values)
    (subst (λ (fs : List ℕ). pointwise (is_cell c.args.problem.now.unit c.args.count) fs found.0 ≡ true) c.fields_in-listed.ensures found.2) in
    let text : c.word_of.result.1.now ≡ cells_text c.args.problem.now x.class x.cells ++ c.in-Some-2.end.now =
    found.3 ∙ ap (λ (fs : List ℕ). flat_map (cell_text c.args.problem.now) (zip fs found.0) ++ c.in-Some-2.end.now) c.fields_in-listed.ensures
    ∙ ap (λ (vs : List Value). cells_text c.args.problem.now x.class vs ++ c.in-Some-2.end.now) (sym values) in
    let h : ObjectRead c.args.problem.now c.args.count c.args.number x c.args.text.now c.in-Some-behind.rest.now =
    object_read c.args.problem.now c.args.count c.args.number x c.args.text.now c.as_bytes.result.now c.in-Some.name.now c.word_of.result.0.now c.word_of.result.1.now c.in-Some-2.end.now c.in-Some-behind.rest.now
    start c.in-Some.ensures c.word_of.ensures.parts class cells text c.in-Some-behind.ensures in
    (h.is, h.text_is)
