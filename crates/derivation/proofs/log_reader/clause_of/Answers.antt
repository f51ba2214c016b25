use Rattle.std.proofs.Common.{◌≡◌, ℕ, List, [], ◌++◌, ◌∷◌, map, ap, subst, sym, ◌∙◌}
use Rattle.std.specs.List.Sorted.{IsStrictlyIncreasing}
use Rattle.cnf_core.specs.Literal.{IsOver}
use Rattle.derivation.specs.Entry.{entry_number, IsWithin}
use Rattle.derivation.proofs.Rising.{vars_of}
use Rattle.std.proofs.lemmas.Bool.{false≢true}
use Rattle.derivation.specs.Texts.{literal_text}
use Rattle.derivation.proofs.LogWords.{clause_goes, no_end, next_entry, next_rises}
use Rattle.derivation.proofs.log_reader.clause_of.Goals as goal

pub returns-in_default-clause-none : goal.returns-in_default-clause-none
returns-in_default-clause-none c =
    λ clause tail is same.
    no_end c.loop-word.clause.items clause c.loop-word.words tail c.in_default.ensures
    (clause_goes c.args.vars c.loop-word.clause.items clause c.loop-word.words tail c.requires c.loop-word.invariant.0 is (sym c.loop-word.invariant.1 ∙ same))

pub returns-in_default-entry_of-clause-none : goal.returns-in_default-entry_of-clause-none
returns-in_default-entry_of-clause-none c =
    λ clause tail is same.
    next_entry c.args.vars c.loop-word.clause.items clause c.in-Some.word.now c.next.new.self tail is
    (clause_goes c.args.vars c.loop-word.clause.items clause (c.in-Some.word.now ∷ c.next.new.self) tail c.requires c.loop-word.invariant.0 is
    (ap (λ ws. map literal_text c.loop-word.clause.items ++ ws) (sym c.in-Some.ensures) ∙ sym c.loop-word.invariant.1 ∙ same))
    c.in_default-entry_of.ensures.none

pub returns-then-not-comes_behind-clause-none : goal.returns-then-not-comes_behind-clause-none
returns-then-not-comes_behind-clause-none c =
    λ clause tail is same.
    let spelled : c.in-Some.word.now ≡ literal_text c.in-Literal.lit = c.in-Some-entry_of.ensures.spelled ∙ ap (λ e. literal_text (entry_number e)) c.in-Literal.is in
    let over : IsOver c.args.vars c.in-Literal.lit = subst (IsWithin c.args.vars) c.in-Literal.is c.in-Some-entry_of.ensures.over in
    let rises : IsStrictlyIncreasing (vars_of (c.loop-word.clause.items ++ c.in-Literal.lit ∷ [])) =
    next_rises c.args.vars c.loop-word.clause.items clause c.in-Literal.lit c.next.new.self tail c.requires is over
    (clause_goes c.args.vars c.loop-word.clause.items clause (literal_text c.in-Literal.lit ∷ c.next.new.self) tail c.requires c.loop-word.invariant.0 is
    (ap (λ w. map literal_text c.loop-word.clause.items ++ w ∷ c.next.new.self) (sym spelled)
    ∙ ap (λ ws. map literal_text c.loop-word.clause.items ++ ws) (sym c.in-Some.ensures) ∙ sym c.loop-word.invariant.1 ∙ same)) in
    false≢true (sym c.if-not-comes_behind.true ∙ c.comes_behind.ensures.1 (subst (λ (cs : List ℕ). IsStrictlyIncreasing (vars_of (cs ++ c.in-Literal.lit ∷ []))) (sym c.as_slice.ensures) rises))
