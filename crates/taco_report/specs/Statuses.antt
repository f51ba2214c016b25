-- The statuses with which the program ends.
use Rattle.std.specs.Prelude.{ℕ, ◌≤◌}
use Rattle.taco_report.specs.declared.status.Status.{Status}
use Rattle.taco_report.specs.declared.status.Status.TheVariants as status

-- all is well 0, a broken contract and a log with a bad line 1, words that are no request 2, an input that is refused 3,
-- one that is too long 4, a spent budget 5, a file that cannot be read 6, an output that cannot be written 7, want of
-- memory 8
abbrev pub code_of : Status → ℕ
code_of status.Holds = 0
code_of status.Violated = 1
code_of status.Done = 0
code_of status.Broken = 1
code_of status.Usage = 2
code_of status.NotBuilt = 3
code_of (status.Source refusal) = 3
code_of status.NoMethod = 3
code_of (status.BadState at) = 3
code_of (status.BadText slot at) = 3
code_of (status.TooLong slot) = 4
code_of status.Unknown = 5
code_of status.ReadFault = 6
code_of status.WriteFault = 7
code_of status.NoMemory = 8

-- a refusal: the program says why it does not do what it was asked for
pub record IsRefusal (s : Status) : Type 0 where
  pub low : 2 ≤ code_of s
  pub high : code_of s ≤ 4
