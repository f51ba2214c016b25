use Rattle.java_tree.specs.Reading.{some_predicate}
use Rattle.java_tree.proofs.Fronts.{some_predicate_grows, fault_none, fault_one, deep_or_wrong}
use Rattle.java_tree.proofs.laws.a_clause_has_one_fault_at_most.Goals as goal

pub returns-clause-none : goal.returns-clause-none
returns-clause-none c ts rest e parses = fault_none some_predicate some_predicate_grows ts rest (record { levels = parses.levels; parse = (e, parses.parse) })

pub returns-clause-once : goal.returns-clause-once
returns-clause-once c = fault_one some_predicate some_predicate_grows

pub returns-clause-kind : goal.returns-clause-kind
returns-clause-kind c = deep_or_wrong some_predicate some_predicate_grows
