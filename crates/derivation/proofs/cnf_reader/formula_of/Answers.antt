use Rattle.std.proofs.Common.{◌≡◌, ℕ, inl, sym, ap, subst, ◌∙◌}
use Rattle.derivation.specs.CnfText.{IsClosing, IsWrongWord}
use Rattle.derivation.specs.Runs.{Run, runs, words_of}
use Rattle.derivation.proofs.Bodies.{header_as, body_as, ends_wrong, ends_right}
use Rattle.derivation.proofs.cnf_reader.formula_of.Goals as goal

pub returns-then-not-is_closing-clause-fault : goal.returns-then-not-is_closing-clause-fault
returns-then-not-is_closing-clause-fault c =
    let words : c.new-words.result ≡ words_of c.args.text.now = c.new-words.ensures ∙ ap (runs 0) (c.as_slice.ensures.value ∙ c.in_ok-plain.ensures.shown) in
    let given : c.new-cnf.result.vars ≡ c.in_ok-header.header.vars = ap (λ v. v.vars) c.new-cnf.ensures in
    let place : c.in-Some.word.at ≡ c.word.inside.at = ap (λ (w : Run). w.at) (sym c.word.view_is) in
    inl
    (subst (λ (n : ℕ). IsWrongWord (words_of c.args.text.now) n) place
    (ends_wrong (header_as c.in_ok-header.ensures.found c.new-cnf.result.vars (words_of c.args.text.now) (sym given) words) c.fill.new.cnf.clauses c.in_ok-fill.ensures.found
    c.in-Some.word c.next.new.self c.in-Some.ensures.word (sym c.is_closing.ensures ∙ c.if-not-is_closing.true)))

pub returns-clause-read : goal.returns-clause-read
returns-clause-read c =
    let words : c.new-words.result ≡ words_of c.args.text.now = c.new-words.ensures ∙ ap (runs 0) (c.as_slice.ensures.value ∙ c.in_ok-plain.ensures.shown) in
    let given : c.new-cnf.result.vars ≡ c.in_ok-header.header.vars = ap (λ v. v.vars) c.new-cnf.ensures in
    ends_right (header_as c.in_ok-header.ensures.found c.fill.new.cnf.vars (words_of c.args.text.now) (sym given ∙ sym c.in_ok-fill.ensures.same) words)
    c.fill.new.cnf.clauses (body_as c.fill.new.cnf.clauses c.in_ok-fill.ensures.found c.fill.new.cnf.vars (sym c.in_ok-fill.ensures.same))
    (subst IsClosing (sym c.in-Some.ensures.word) (sym c.is_closing.ensures ∙ c.if-not-is_closing.false))
