use Rattle.std.proofs.Common.{◌≡◌, ◌+◌, drop}
use Rattle.std.specs.List.{prefix_len}
use Rattle.java_lex.specs.Bytes.{is_of}
use Rattle.java_lex.proofs.classes.run.Given as goal

abbrev pub invariant-loop-i : goal.invariant-loop-i
invariant-loop-i l = l.i + prefix_len (is_of l.kind) (drop l.i l.text) ≡ prefix_len (is_of l.kind) l.text
