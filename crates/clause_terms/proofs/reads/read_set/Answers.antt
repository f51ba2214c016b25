use Rattle.std.proofs.Common.{◌≡◌, true, subst, sym}
use Rattle.rel_core.specs.Meaning.{holds, set_of}
use Rattle.rel_core.specs.Uses.{is_spread, use_of_kind}
use Rattle.rel_core.specs.Shown.{ShowsValue}
use Rattle.clause_terms.proofs.FieldTerms.{told_read}
use Rattle.clause_terms.proofs.reads.read_set.Goals as goal

pub returns-clause-told : goal.returns-clause-told
returns-clause-told c u m heap v shown one = told_read u m c.args.at.now heap c.args.field c.args.declared.now _ (set_of c.args.set m) v (holds c.in_ok-live.live m) (holds c.in_ok-of.of m)
    shown one (c.in_ok-live.ensures.meaning m) (c.in_ok-of.ensures.meaning m) (c.in_ok-fine.ensures.meaning m).0 (c.in_ok-fine.ensures.meaning m).1
    (λ o w alone is. c.in_ok-value.ensures.value m o w alone (subst (λ r. ShowsValue m c.args.declared.now.kind r o w) (sym c.field-relation.ensures) is))

pub returns-clause-sorted : goal.returns-clause-sorted
returns-clause-sorted c p kinds set field = let parts = c.in_ok-fine.ensures.sorted p kinds (c.in_ok-live.ensures.sorted p kinds set) (c.in_ok-of.ensures.sorted p kinds set) in
    record {
      value = c.in_ok-value.ensures.sorted p kinds set (subst (λ r. is_spread p kinds (use_of_kind c.args.declared.now.kind) r ≡ true) (sym c.field-relation.ensures) field);
      fine = parts.0;
      inside = parts.1;
    }
