use Rattle.std.proofs.Common.{ℕ, false, List, Option, sym, ap, ◌∙◌}
use Rattle.std.specs.List.{list_all, list_any}
use Rattle.std.specs.Option.{option_map_or}
use Rattle.rel_core.specs.declared.formula.Formula.{Formula}
use Rattle.rel_core.specs.Meaning.{holds, set_of}
use Rattle.rel_core.specs.Views.{read}
use Rattle.rel_core.proofs.Forms.{holds_flag_at, holds_subset, holds_is_class, holds_changed, holds_and, holds_or}
use Rattle.rel_core.proofs.KeptSets.{only_kept, subset_kept, class_kept, changed_kept}
use Rattle.rel_core.proofs.holds.truth.+truth.Goals as goal

pub is_true-returns-in-FlagAt : goal.is_true-returns-in-FlagAt
is_true-returns-in-FlagAt t c =
    let m = read c.args.view in
    let set = c.in-FlagAt.set in
    let only = only_kept m (set_of set m) c.members.result (rw c.get.ensures at c.members.ensures) in
    c.at_only.ensures ∙ ap (λ (o : Option ℕ). option_map_or (m.flag c.in-FlagAt.relation) o false) only
    ∙ sym (ap (λ (f : Formula). holds f m) c.in-FlagAt.is ∙ holds_flag_at set c.in-FlagAt.relation m)

pub is_true-returns-in-Subset : goal.is_true-returns-in-Subset
is_true-returns-in-Subset t c =
    let m = read c.args.view in
    let a = c.in-Subset.a in
    let b = c.in-Subset.b in
    let part = rw c.get-in-Subset.ensures at c.members-in-Subset.ensures in
    let whole = rw c.get-in-Subset-2.ensures at c.members-in-Subset-2.ensures in
    c.is_subset.ensures ∙ subset_kept m (set_of a m) (set_of b m) c.members-in-Subset.result c.members-in-Subset-2.result part whole
    ∙ sym (ap (λ (f : Formula). holds f m) c.in-Subset.is ∙ holds_subset a b m)

pub is_true-returns-in-IsClass : goal.is_true-returns-in-IsClass
is_true-returns-in-IsClass t c =
    let m = read c.args.view in
    let arm = c.in-IsClass in
    c.are_of.ensures ∙ class_kept m (set_of arm.set m) c.members-in-IsClass.result arm.class arm.relation (rw c.get-in-IsClass.ensures at c.members-in-IsClass.ensures)
    ∙ sym (ap (λ (f : Formula). holds f m) arm.is ∙ holds_is_class arm.set arm.class arm.relation m)

pub is_true-returns-in-Changed : goal.is_true-returns-in-Changed
is_true-returns-in-Changed t c =
    let m = read c.args.view in
    let arm = c.in-Changed in
    c.is_changed.ensures ∙ changed_kept m (set_of arm.set m) c.members-in-Changed.result arm.new arm.given arm.old (rw c.get-in-Changed.ensures at c.members-in-Changed.ensures)
    ∙ sym (ap (λ (f : Formula). holds f m) arm.is ∙ holds_changed arm.new arm.set arm.given arm.old m)

pub is_true-returns-in-And : goal.is_true-returns-in-And
is_true-returns-in-And t c =
    let m = read c.args.view in
    c.all_hold.ensures ∙ ap (λ (fs : List Formula). list_all (λ f. holds f m) fs) c.as_slice.ensures ∙ sym (ap (λ (f : Formula). holds f m) c.in-And.is ∙ holds_and c.in-And.parts m)

pub is_true-returns-in-Or : goal.is_true-returns-in-Or
is_true-returns-in-Or t c =
    let m = read c.args.view in
    c.some_holds.ensures ∙ ap (λ (fs : List Formula). list_any (λ f. holds f m) fs) c.as_slice-in-Or.ensures ∙ sym (ap (λ (f : Formula). holds f m) c.in-Or.is ∙ holds_or c.in-Or.parts m)
