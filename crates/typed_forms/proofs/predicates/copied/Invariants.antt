use Rattle.std.proofs.Common.{◌≡◌, ◌++◌, drop}
use Rattle.typed_forms.proofs.predicates.copied.Given as goal

-- what is left is still to be copied
abbrev pub invariant-loop-declared : goal.invariant-loop-declared
invariant-loop-declared l = l.copies ++ drop l.declared-index l.bound ≡ l.bound
