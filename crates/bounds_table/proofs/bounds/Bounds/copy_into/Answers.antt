use Rattle.std.proofs.Common.{◌≡◌, List, ℕ, ◌∙◌, ap, sym, arith}
use Rattle.tuple_sets.specs.Words.{has}
use Rattle.tuple_sets.specs.Numbered.{word_count}
use Rattle.bounds_table.specs.declared.known.Known.{Known}
use Rattle.bounds_table.proofs.Laying.{copied_all}
use Rattle.bounds_table.proofs.bounds.Bounds.copy_into.Goals as goal

pub returns-clause-known : goal.returns-clause-known
returns-clause-known c =
    let i = c.loop-at.invariant in
    let n : ℕ = word_count c.args.self.now.problem in
    let all : c.loop-at.copy ≡ c.loop-at.pass.known.seen = copied_all c.loop-at.copy c.loop-at.pass.known.seen n c.loop-at.at i.long i.right.words.seen (let past = c.loop-at-test.false in let l = c.requires.long in omega arith) i.done in
    i.only ∙ ap {A = List ℕ} {B = Known} (λ l. record c.args.pass.now.known { seen = l }) (sym all)

pub returns-clause-missing : goal.returns-clause-missing
returns-clause-missing c = λ t none.
    let i = c.loop-at.invariant in
    let n : ℕ = word_count c.args.self.now.problem in
    let all : c.loop-at.copy ≡ c.loop-at.pass.known.seen = copied_all c.loop-at.copy c.loop-at.pass.known.seen n c.loop-at.at i.long i.right.words.seen (let past = c.loop-at-test.false in let l = c.requires.long in omega arith) i.done in
    i.right.lacked t (ap (λ l. has l t) (sym all) ∙ none)
