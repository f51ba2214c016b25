use Rattle.java_tree.specs.Reading.{some_text}
use Rattle.java_tree.proofs.Fronts.{some_text_grows, fault_none, fault_one, deep_or_wrong}
use Rattle.java_tree.proofs.laws.a_text_has_one_fault_at_most.Goals as goal

pub returns-clause-none : goal.returns-clause-none
returns-clause-none c ts rest cs parse = fault_none some_text some_text_grows ts rest (record { levels = parse.levels; parse = (cs, parse.parse) })

pub returns-clause-once : goal.returns-clause-once
returns-clause-once c = fault_one some_text some_text_grows

pub returns-clause-kind : goal.returns-clause-kind
returns-clause-kind c = deep_or_wrong some_text some_text_grows
