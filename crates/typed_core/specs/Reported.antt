-- The same meanings, by what is reported of the parts.
use Rattle.std.specs.Prelude.{ℕ, Bool, List, [], ◌∷◌, Result}
use Rattle.java_tree.specs.Trees.{Clause, needs, gives, Part, Classes}
use Rattle.declared_names.specs.declared.fault.Fault.{Fault}
use Rattle.declared_names.specs.declared.world.World.{World}
use Rattle.declared_names.specs.declared.world.Here.{Here}
use Rattle.declared_names.specs.declared.world.Form.TheVariants as form
use Rattle.declared_names.specs.Faults.{soonest}
use Rattle.declared_names.specs.Seen.{Stands, told, on, on_two, with_fault}
use Rattle.declared_names.specs.Lookups.{in_clause}
use Rattle.typed_expressions.specs.Expressions.{seen}
use Rattle.typed_statements.specs.Heads.{next}
use Rattle.typed_core.specs.declared.members.Spec.{Spec}
use Rattle.typed_core.specs.declared.members.Counts.{Counts}
use Rattle.typed_core.specs.declared.members.Members.{Members}
use Rattle.typed_core.specs.declared.members.Built.{Built}
use Rattle.typed_core.specs.Members.{many_clauses, clause_of, with_need, with_give, seen_part, counted, with_made, seen_class, with_class, fresh_class, counted_parts}

-- clauses behind others
abbrev pub clauses_told : World → Here → ℕ → ℕ → Result Spec Fault → List Clause → Result Spec Fault
clauses_told w h a b so_far [] = so_far
clauses_told w h a b so_far (needs at e ∷ more) =
    clauses_told w h (next a) b
    (on_two so_far (with_fault (soonest (many_clauses a at)) (on (told (seen e (in_clause w h form.Entry []))) (λ x. told (clause_of x)))) (λ spec c. told (Stands (with_need spec c)))) more
clauses_told w h a b so_far (gives at e ∷ more) =
    clauses_told w h a (next b)
    (on_two so_far (with_fault (soonest (many_clauses b at)) (on (told (seen e (in_clause w h form.Exit []))) (λ x. told (clause_of x)))) (λ spec c. told (Stands (with_give spec c)))) more

-- members behind others
abbrev pub parts_told : World → ℕ → Bool → Counts → Result Members Fault → List Part → Result Members Fault
parts_told w n default counts so_far [] = so_far
parts_told w n default counts so_far (p ∷ ps) =
    parts_told w n default (counted counts p) (on_two so_far (told (seen_part w n default counts p)) (λ ms m. told (Stands (with_made ms m)))) ps

-- classes behind others
abbrev pub classes_told : World → ℕ → Counts → Result Built Fault → Classes → Result Built Fault
classes_told w n counts so_far [] = so_far
classes_told w n counts so_far (c ∷ cs) =
    classes_told w (next n) (counted_parts (fresh_class counts) c.members) (on_two so_far (told (seen_class w n counts c)) (λ b ms. told (Stands (with_class b c ms)))) cs
