-- The relation is put behind the others.
use Rattle.std.proofs.Common.{◌≡◌, false, Option, Some, None, is_some, refl, sym, ◌∙◌}
use Rattle.std.specs.Prelude.{option_map}
use Rattle.std.proofs.lemmas.Bool.{true≢false}
use Rattle.rel_gates.specs.Naming.{Grows}
use Rattle.rel_gates.proofs.naming.name.Goals as goal

none_from : {A B : Type 0} (f : A → B) (found : Option A) → is_some found ≡ false → option_map f found ≡ None
none_from f None is = refl
none_from f (Some x) is = absurd (true≢false is)

pub returns-clause-named : goal.returns-clause-named
returns-clause-named c =
    Grows c.in_ok-list.list.items (sym c.find.ensures ∙ none_from (λ gates. gates.now) c.find.result (sym c.is_some.ensures
    ∙ c.if-is_some.false)) c.in_ok-push.ensures.added c.in_ok-list.ensures.inputs
