use Rattle.std.proofs.Common.{ℕ, Option, Some, sym, ap, ◌∙◌}
use Rattle.std.specs.Prelude.{pos}
use Rattle.std.specs.Option.{option_map_or}
use Rattle.rel_core.specs.declared.numbers.NumExpr.{NumExpr}
use Rattle.rel_core.specs.Meaning.{fitting, number_of, set_of}
use Rattle.rel_core.specs.Views.{read}
use Rattle.rel_core.proofs.Forms.{number_at, number_count}
use Rattle.rel_core.proofs.KeptSets.{only_kept, count_kept}
use Rattle.rel_core.proofs.holds.numbers.+number_of.Goals as goal

pub returns-in-At : goal.returns-in-At
returns-in-At t c =
    let m = read c.args.view in
    let set = c.in-At.set in
    let only = only_kept m (set_of set m) c.members.result (rw c.get.ensures at c.members.ensures) in
    c.at_only.ensures ∙ ap (λ (o : Option ℕ). Some (option_map_or (m.number c.in-At.relation) o (pos 0))) only
    ∙ sym (ap (λ (n : NumExpr). number_of n m) c.in-At.is ∙ number_at set c.in-At.relation m)

pub returns-in-Count : goal.returns-in-Count
returns-in-Count t c =
    let m = read c.args.view in
    let set = c.in-Count.set in
    let counted = count_kept m (set_of set m) c.members-in-Count.result (rw c.get-in-Count.ensures at c.members-in-Count.ensures) in
    c.size.ensures ∙ ap (λ (k : ℕ). fitting m.ints (pos k)) counted ∙ sym (ap (λ (n : NumExpr). number_of n m) c.in-Count.is ∙ number_count set m)
