-- What is reported of members and classes follows from what is reported of their parts.
use Rattle.std.proofs.Common.{◌≡◌, ℕ, Bool, List, [], ◌∷◌, Ok, refl, ap, ◌∙◌}
use Rattle.java_tree.specs.Trees.{Clause as ClauseTree, needs, gives, Part, Classes}
use Rattle.taco_unit.specs.declared.unit.Clause.{Clause}
use Rattle.typed_forms.specs.declared.typed.Typed.{Typed}
use Rattle.declared_names.specs.declared.world.World.{World}
use Rattle.declared_names.specs.declared.world.Here.{Here}
use Rattle.declared_names.specs.declared.world.Form.TheVariants as form
use Rattle.declared_names.specs.Faults.{soonest}
use Rattle.declared_names.specs.Seen.{Seen, Stands, over, over_two, beside, told, on, on_two, with_fault}
use Rattle.declared_names.specs.Lookups.{in_clause}
use Rattle.typed_expressions.specs.Expressions.{seen}
use Rattle.declared_names.proofs.Told.{told-over, told-over_two, told-beside, told-stands}
use Rattle.typed_core.specs.declared.members.Spec.{Spec}
use Rattle.typed_core.specs.declared.members.Counts.{Counts}
use Rattle.typed_core.specs.declared.members.Members.{Members}
use Rattle.typed_core.specs.declared.members.Built.{Built}
use Rattle.typed_statements.specs.Heads.{next}
use Rattle.typed_core.specs.Members.{many_clauses, clause_of, with_need, with_give, no_clauses, no_members, nothing_built, seen_clauses, seen_part, seen_parts, seen_class, seen_classes, counted, with_made, with_class, fresh_class, counted_parts}
use Rattle.typed_core.specs.Reported.{clauses_told, parts_told, classes_told}

one_clause : (s : Seen Spec) (n at : ℕ) (x : Seen Typed) (go : Spec → Clause → Spec)
    → told (over_two s (beside (many_clauses n at) (over x clause_of)) (λ spec c. Stands (go spec c))) ≡ on_two (told s) (with_fault (soonest (many_clauses n at)) (on (told x) (λ y. told (clause_of y)))) (λ spec c. told (Stands (go spec c)))
one_clause s n at x go =
    told-over_two s (beside (many_clauses n at) (over x clause_of)) (λ spec c. Stands (go spec c))
    ∙ ap (λ r. on_two (told s) r (λ spec c. told (Stands (go spec c)))) (told-beside (many_clauses n at) (over x clause_of) ∙ ap (with_fault (soonest (many_clauses n at))) (told-over x clause_of))

clauses_from : (w : World) (h : Here) (a b : ℕ) (s : Seen Spec) (cs : List ClauseTree) → told (seen_clauses w h a b s cs) ≡ clauses_told w h a b (told s) cs
clauses_from w h a b s [] = refl
clauses_from w h a b s (needs at e ∷ more) =
    clauses_from w h (next a) b (over_two s (beside (many_clauses a at) (over (seen e (in_clause w h form.Entry [])) clause_of)) (λ spec c. Stands (with_need spec c))) more
    ∙ ap (λ r. clauses_told w h (next a) b r more) (one_clause s a at (seen e (in_clause w h form.Entry [])) with_need)
clauses_from w h a b s (gives at e ∷ more) =
    clauses_from w h a (next b) (over_two s (beside (many_clauses b at) (over (seen e (in_clause w h form.Exit [])) clause_of)) (λ spec c. Stands (with_give spec c))) more
    ∙ ap (λ r. clauses_told w h a (next b) r more) (one_clause s b at (seen e (in_clause w h form.Exit [])) with_give)

pub told-clauses : (w : World) (h : Here) (cs : List ClauseTree) → told (seen_clauses w h 0 0 (Stands no_clauses) cs) ≡ clauses_told w h 0 0 (Ok no_clauses) cs
told-clauses w h cs = clauses_from w h 0 0 (Stands no_clauses) cs ∙ ap (λ r. clauses_told w h 0 0 r cs) (told-stands no_clauses)

parts_from : (w : World) (n : ℕ) (default : Bool) (counts : Counts) (s : Seen Members) (ps : List Part) → told (seen_parts w n default counts s ps) ≡ parts_told w n default counts (told s) ps
parts_from w n default counts s [] = refl
parts_from w n default counts s (p ∷ ps) =
    parts_from w n default (counted counts p) (over_two s (seen_part w n default counts p) (λ ms m. Stands (with_made ms m))) ps
    ∙ ap (λ r. parts_told w n default (counted counts p) r ps) (told-over_two s (seen_part w n default counts p) (λ ms m. Stands (with_made ms m)))

pub told-parts : (w : World) (n : ℕ) (default : Bool) (counts : Counts) (ps : List Part) → told (seen_parts w n default counts (Stands no_members) ps) ≡ parts_told w n default counts (Ok no_members) ps
told-parts w n default counts ps = parts_from w n default counts (Stands no_members) ps ∙ ap (λ r. parts_told w n default counts r ps) (told-stands no_members)

classes_from : (w : World) (n : ℕ) (counts : Counts) (s : Seen Built) (cs : Classes) → told (seen_classes w n counts s cs) ≡ classes_told w n counts (told s) cs
classes_from w n counts s [] = refl
classes_from w n counts s (c ∷ cs) =
    classes_from w (next n) (counted_parts (fresh_class counts) c.members) (over_two s (seen_class w n counts c) (λ b ms. Stands (with_class b c ms))) cs
    ∙ ap (λ r. classes_told w (next n) (counted_parts (fresh_class counts) c.members) r cs) (told-over_two s (seen_class w n counts c) (λ b ms. Stands (with_class b c ms)))

pub told-classes : (w : World) (n : ℕ) (counts : Counts) (cs : Classes) → told (seen_classes w n counts (Stands nothing_built) cs) ≡ classes_told w n counts (Ok nothing_built) cs
told-classes w n counts cs = classes_from w n counts (Stands nothing_built) cs ∙ ap (λ r. classes_told w n counts r cs) (told-stands nothing_built)
