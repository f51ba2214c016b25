-- The members of a class that stand.
use Rattle.std.proofs.Common.{◌≡◌, ◌≤◌, ◌<◌, ◌+◌, ℕ, Bool, true, List, [], ◌∷◌, ◌++◌, length, refl, ap, sym, ◌∙◌, subst, append_assoc}
use Rattle.std.specs.Prelude.{map, option_map, not, ◌==◌}
use Rattle.std.proofs.lemmas.List.{length-append}
use Rattle.java_tree.specs.declared.names.Ident.{Ident}
use Rattle.java_tree.specs.declared.names.Modifier.{Modifier}
use Rattle.java_tree.specs.declared.names.TypeTree.{TypeTree}
use Rattle.java_tree.specs.Trees.{Expr as Tree, Method, Part, invariant, field, method}
use Rattle.taco_unit.specs.declared.unit.Clause.{Clause}
use Rattle.taco_unit.specs.declared.unit.FieldDef.{FieldDef}
use Rattle.taco_unit.specs.declared.unit.MethodDef.{MethodDef}
use Rattle.taco_unit.specs.Parts.{Parts}
use Rattle.taco_unit.specs.Kinds.{is_condition}
use Rattle.taco_unit.specs.Well.{IsWellMethod, around_invariant, are_conditions}
use Rattle.refusals.specs.declared.refusal.Many.TheVariants as many
use Rattle.declared_names.specs.declared.fault.Cause.TheVariants.{TooMany}
use Rattle.declared_names.specs.declared.world.World.{World}
use Rattle.declared_names.specs.declared.world.Here.{Here}
use Rattle.declared_names.specs.declared.world.MethodKnown.{MethodKnown}
use Rattle.declared_names.specs.declared.world.Form.TheVariants as form
use Rattle.declared_names.specs.Seen.{Seen, Stands, Faulty, over, over_two, beside}
use Rattle.typed_forms.specs.Calls.{byte}
use Rattle.declared_names.specs.Lookups.{in_clause}
use Rattle.typed_expressions.specs.Expressions.{seen}
use Rattle.typed_statements.specs.Kinds.{param_def, result_def}
use Rattle.typed_statements.specs.Heads.{next, field_known, method_known, here_of, here_in, with_part, with_parts}
use Rattle.typed_statements.specs.Statements.{seen_body}
use Rattle.typed_statements.proofs.Stand.{OnStands, on_over, on_over_two_late, on_unless, on_beside, on_then, weaker, passes}
use Rattle.typed_statements.proofs.CallKinds.{both_of}
use Rattle.typed_statements.proofs.Fitting.{Before, all_both}
use Rattle.typed_core.specs.declared.members.Counts.{Counts}
use Rattle.typed_core.specs.declared.members.Made.{Made}
use Rattle.typed_core.specs.declared.members.Made.TheVariants as made
use Rattle.typed_core.specs.declared.members.Members.{Members}
use Rattle.typed_core.specs.declared.members.Built.{Built}
use Rattle.typed_core.specs.Members.{clause_of, many_clauses, field_def, field_faults, method_def, method_faults, no_clauses, seen_clauses, seen_part, seen_parts, counted, counted_parts, with_made}
use Rattle.typed_core.proofs.Growth.{After, after_trans, after_parts, Even, even_part}
use Rattle.typed_core.proofs.Clauses.{below, next_small}
use Rattle.typed_core.proofs.Methods.{QuietHead, quiet_head, MadeMethod, method_well, known_params, known_result, invariant_stands}
use Rattle.typed_core.proofs.Totals.{Whole, Totals, totals_field, totals_method}

-- what holds in each unit that knows what is declared
pub for_all : {A : Type 0} (w : World) (P : Parts → A → Type 0) (s : Seen A) → ((u : Parts) → Whole w u → OnStands s (P u)) → OnStands s (λ x. (u : Parts) → Whole w u → P u x)
for_all w P (Stands x) h = h
for_all w P (Faulty f fs) h = tt

both : {A : Type 0} (P Q : A → Type 0) (s : Seen A) → OnStands s P → OnStands s Q → OnStands s (λ x. P x × Q x)
both P Q (Stands x) p q = (p, q)
both P Q (Faulty f fs) p q = tt

-- the invariants of the class of this number: so many, all of them conditions
pub record Invariants (w : World) (n : ℕ) (many_ : ℕ) (cs : List Clause) : Type 0 where
  pub conditions : (u : Parts) → Whole w u → are_conditions (around_invariant u n) cs ≡ true
  pub same : many_ ≡ length cs
  pub few : many_ ≤ 255

-- the members of a class so far, behind those of the classes before
pub record PartsFine (w before : World) (b : Built) (n : ℕ) (counts : Counts) (ms : Members) : Type 0 where
  pub totals : Totals w before counts (b.fields ++ ms.fields) (b.methods ++ ms.methods)
  pub own : Invariants w n counts.invariants ms.invariants

-- INVARIANTS

record IsInvariant (w : World) (n : ℕ) (many_ : ℕ) (c : Clause) : Type 0 where
  condition : (u : Parts) → Whole w u → is_condition (around_invariant u n) c.expr ≡ true
  fewer : not (many_ == 255) ≡ true

abbrev MadeInvariant : (Clause → Type 0) → Made → Type 0
MadeInvariant P (made.Invariant c) = P c
MadeInvariant P (made.Field d) = ⊥
MadeInvariant P (made.Method d) = ⊥

within_unit : (w : World) (u : Parts) (n : ℕ) → Whole w u → n < length w.classes → n < length u.classes
within_unit w u n whole within = let P : ℕ → Type 0 = λ k. n < k in subst P (sym whole.classes) within

invariant_made : (w : World) (n : ℕ) (default : Bool) (counts : Counts) (at : ℕ) (e : Tree) → n < length w.classes → OnStands (seen_part w n default counts (invariant at e)) (MadeInvariant (IsInvariant w n counts.invariants))
invariant_made w n default counts at e within =
    let value : Seen Clause = over (seen e (in_clause w (here_in n) form.Entry [])) clause_of in
    let Condition : Clause → Type 0 = λ c. (u : Parts) → Whole w u → is_condition (around_invariant u n) c.expr ≡ true in
    on_over (IsInvariant w n counts.invariants) (MadeInvariant (IsInvariant w n counts.invariants)) (beside (many_clauses counts.invariants at) value) (λ c. Stands (made.Invariant c))
    (on_beside (IsInvariant w n counts.invariants) (many_clauses counts.invariants at) value
    (λ quiet.
    weaker Condition (IsInvariant w n counts.invariants) value
    (for_all w (λ u (c : Clause). is_condition (around_invariant u n) c.expr ≡ true) value (λ u whole. invariant_stands w u n e whole.knows (within_unit w u n whole within)))
    (λ c condition. record { condition = condition; fewer = passes (not (counts.invariants == 255)) at (TooMany many.Clauses) quiet })))
    (λ c h. h)

with_invariant : (w before : World) (b : Built) (n : ℕ) (default : Bool) (counts : Counts) (at : ℕ) (e : Tree) (ms : Members) (m : Made) → PartsFine w before b n counts ms → MadeInvariant (IsInvariant w n counts.invariants) m
    → PartsFine w before b n (counted counts (invariant at e)) (with_made ms m)
with_invariant w before b n default counts at e ms (made.Field d) so_far h = absurd h
with_invariant w before b n default counts at e ms (made.Method d) so_far h = absurd h
with_invariant w before b n default counts at e ms (made.Invariant c) so_far h =
    let step : next counts.invariants ≡ counts.invariants + 1 = next_small counts.invariants so_far.own.few in
    let P : ℕ → Type 0 = λ x. x ≤ 255 in
    let t = so_far.totals in
    record {
      totals = record {
        fields = t.fields;
        methods = t.methods;
        many_fields = t.many_fields;
        few_fields = t.few_fields;
        many_methods = t.many_methods;
        few_methods = t.few_methods;
        many_references = t.many_references;
        few_references = t.few_references;
      };
      own = record {
        conditions = λ u whole.
            all_both (λ (x : Clause). is_condition (around_invariant u n) x.expr) ms.invariants (c ∷ []) (so_far.own.conditions u whole) (both_of (is_condition (around_invariant u n) c.expr) true (h.condition u whole) refl);
        same = step ∙ ap (λ x. x + 1) so_far.own.same ∙ sym (length-append ms.invariants (c ∷ []));
        few = subst P (sym step) (below counts.invariants so_far.own.few h.fewer);
      };
    }

-- FIELDS

abbrev MadeField : (FieldDef → Type 0) → Made → Type 0
MadeField P (made.Invariant c) = ⊥
MadeField P (made.Field d) = P d
MadeField P (made.Method d) = ⊥

record IsField (w : World) (n : ℕ) (default : Bool) (counts : Counts) (mods : List Modifier) (kind : TypeTree) (i : Ident) (d : FieldDef) : Type 0 where
  is : d ≡ field_def (field_known w.classes n default mods kind i)
  quiet : field_faults w n counts mods kind i ≡ []

field_made : (w : World) (n : ℕ) (default : Bool) (counts : Counts) (mods : List Modifier) (kind : TypeTree) (i : Ident)
    → OnStands (seen_part w n default counts (field mods kind i)) (MadeField (IsField w n default counts mods kind i))
field_made w n default counts mods kind i =
    on_unless (MadeField (IsField w n default counts mods kind i)) (field_faults w n counts mods kind i) (made.Field (field_def (field_known w.classes n default mods kind i))) (λ quiet. record { is = refl; quiet = quiet })

with_field_made : (w before : World) (b : Built) (n : ℕ) (default : Bool) (counts : Counts) (mods : List Modifier) (kind : TypeTree) (i : Ident) (ms : Members) (m : Made) → Even before → w.classes ≡ before.classes
    → Before (before.field_names ++ (n, i.text) ∷ []) w.field_names → n < length w.classes → PartsFine w before b n counts ms → MadeField (IsField w n default counts mods kind i) m
    → PartsFine w (with_part n default before (field mods kind i)) b n (counted counts (field mods kind i)) (with_made ms m)
with_field_made w before b n default counts mods kind i ms (made.Invariant c) even same behind within so_far h = absurd h
with_field_made w before b n default counts mods kind i ms (made.Method d) even same behind within so_far h = absurd h
with_field_made w before b n default counts mods kind i ms (made.Field d) even same behind within so_far h =
    let known_def : FieldDef = field_def (field_known w.classes n default mods kind i) in
    let all = totals_field w before n default counts mods kind i (b.fields ++ ms.fields) (b.methods ++ ms.methods) even same behind within h.quiet so_far.totals in
    let place : (b.fields ++ ms.fields) ++ known_def ∷ [] ≡ b.fields ++ (ms.fields ++ d ∷ []) = append_assoc b.fields ms.fields (known_def ∷ []) ∙ ap (λ x. b.fields ++ (ms.fields ++ x ∷ [])) (sym h.is) in
    let P : List FieldDef → Type 0 = λ l. Totals w (with_part n default before (field mods kind i)) (counted counts (field mods kind i)) l (b.methods ++ ms.methods) in
    record { totals = subst P place all; own = record { conditions = so_far.own.conditions; same = so_far.own.same; few = so_far.own.few } }

-- METHODS

-- what is made has the head that is declared
record Headed (m : MethodKnown) (def : MethodDef) : Type 0 where
  class : def.class ≡ byte m.class
  is_static : def.fixed ≡ m.fixed
  params : def.params ≡ map param_def m.params
  result : def.result ≡ option_map result_def m.result

record IsMethod (w : World) (n : ℕ) (default : Bool) (counts : Counts) (m : Method) (def : MethodDef) : Type 0 where
  head : Headed (method_known w.classes n default m) def
  quiet : QuietHead w n counts m
  well : (u : Parts) → Whole w u → IsWellMethod u def

well_made : (w : World) (n : ℕ) (default : Bool) (counts : Counts) (m : Method) (x : Made) → QuietHead w n counts m → ((u : Parts) → Whole w u → MadeMethod (IsWellMethod u) x) × MadeMethod (Headed (method_known w.classes n default m)) x
    → MadeMethod (IsMethod w n default counts m) x
well_made w n default counts m (made.Invariant c) quiet h = h.1
well_made w n default counts m (made.Field d) quiet h = h.1
well_made w n default counts m (made.Method d) quiet h = record { head = h.1; quiet = quiet; well = h.0 }

method_made : (w : World) (n : ℕ) (default : Bool) (counts : Counts) (m : Method) → n < length w.classes
    → OnStands (seen_part w n default counts (method m)) (MadeMethod (IsMethod w n default counts m))
method_made w n default counts m within =
    let known : MethodKnown = method_known w.classes n default m in
    let h : Here = here_of known in
    let whole_method : Seen Made =
    over_two (seen_clauses w h 0 0 (Stands no_clauses) m.spec) (seen_body w h m.body).is (λ spec ss. Stands (made.Method (method_def known spec (seen_body w h m.body).state.sorts ss)))
    in
    on_beside (MadeMethod (IsMethod w n default counts m)) (method_faults w n counts m) whole_method
    (λ quiet.
    let head = quiet_head w n counts m quiet in
    weaker (λ (x : Made). ((u : Parts) → Whole w u → MadeMethod (IsWellMethod u) x) × MadeMethod (Headed known) x) (MadeMethod (IsMethod w n default counts m)) whole_method
    (both (λ (x : Made). (u : Parts) → Whole w u → MadeMethod (IsWellMethod u) x) (MadeMethod (Headed known)) whole_method
    (for_all w (λ u. MadeMethod (IsWellMethod u)) whole_method (λ u whole. method_well w u n default m counts whole.knows (within_unit w u n whole within) head))
    (on_over_two_late (MadeMethod (Headed known)) (seen_clauses w h 0 0 (Stands no_clauses) m.spec) (seen_body w h m.body).is _ (λ spec ss a b. record { class = refl; is_static = refl; params = refl; result = refl })))
    (λ x h_x. well_made w n default counts m x head h_x))

with_method_made : (w before : World) (b : Built) (n : ℕ) (default : Bool) (counts : Counts) (m : Method) (ms : Members) (x : Made) → w.classes ≡ before.classes → PartsFine w before b n counts ms
    → MadeMethod (IsMethod w n default counts m) x → PartsFine w (with_part n default before (method m)) b n (counted counts (method m)) (with_made ms x)
with_method_made w before b n default counts m ms (made.Invariant c) same so_far h = absurd h
with_method_made w before b n default counts m ms (made.Field d) same so_far h = absurd h
with_method_made w before b n default counts m ms (made.Method d) same so_far h =
    let all =
    totals_method w before n default counts m (b.fields ++ ms.fields) (b.methods ++ ms.methods) d same h.quiet.fewer
    (record {
      class = h.head.class;
      is_static = h.head.is_static;
      params = h.head.params;
      result = h.head.result;
      params_fixed = known_params w n default m counts h.quiet;
      result_fixed = known_result w n default m counts h.quiet;
      well = h.well;
    })
    so_far.totals
    in
    let P : List MethodDef → Type 0 = λ l. Totals w (with_part n default before (method m)) (counted counts (method m)) (b.fields ++ ms.fields) l in
    record { totals = subst P (append_assoc b.methods ms.methods (d ∷ [])) all; own = record { conditions = so_far.own.conditions; same = so_far.own.same; few = so_far.own.few } }

-- EACH MEMBER

part_fine : (w before : World) (b : Built) (n : ℕ) (default : Bool) (counts : Counts) (p : Part) (s : Seen Members) → Even before → After (with_part n default before p) w → n < length w.classes
    → OnStands s (PartsFine w before b n counts)
    → OnStands (over_two s (seen_part w n default counts p) (λ ms m. Stands (with_made ms m))) (PartsFine w (with_part n default before p) b n (counted counts p))
part_fine w before b n default counts (invariant at e) s even after within so_far =
    on_then (PartsFine w before b n counts) (MadeInvariant (IsInvariant w n counts.invariants)) (PartsFine w before b n (counted counts (invariant at e))) s (seen_part w n default counts (invariant at e))
    (λ ms m. Stands (with_made ms m)) so_far (λ ms h. invariant_made w n default counts at e within) (λ ms m h h_m. with_invariant w before b n default counts at e ms m h h_m)
part_fine w before b n default counts (field mods kind i) s even after within so_far =
    on_then (PartsFine w before b n counts) (MadeField (IsField w n default counts mods kind i)) (PartsFine w (with_part n default before (field mods kind i)) b n (counted counts (field mods kind i))) s
    (seen_part w n default counts (field mods kind i)) (λ ms m. Stands (with_made ms m)) so_far (λ ms h. field_made w n default counts mods kind i)
    (λ ms m h h_m. with_field_made w before b n default counts mods kind i ms m even after.classes after.field_names within h h_m)
part_fine w before b n default counts (method m) s even after within so_far =
    on_then (PartsFine w before b n counts) (MadeMethod (IsMethod w n default counts m)) (PartsFine w (with_part n default before (method m)) b n (counted counts (method m))) s
    (seen_part w n default counts (method m)) (λ ms x. Stands (with_made ms x)) so_far
    (λ ms h. method_made w n default counts m within)
    (λ ms x h h_x. with_method_made w before b n default counts m ms x after.classes h h_x)

pub parts_fine : (w before : World) (b : Built) (n : ℕ) (default : Bool) (counts : Counts) (ps : List Part) (s : Seen Members) → Even before → After (with_parts n default before ps) w → n < length w.classes
    → OnStands s (PartsFine w before b n counts)
    → OnStands (seen_parts w n default counts s ps) (PartsFine w (with_parts n default before ps) b n (counted_parts counts ps))
parts_fine w before b n default counts [] s even after within so_far = so_far
parts_fine w before b n default counts (p ∷ ps) s even after within so_far =
    let more : World = with_part n default before p in
    parts_fine w more b n default (counted counts p) ps (over_two s (seen_part w n default counts p) (λ ms m. Stands (with_made ms m))) (even_part n default before p even) after within
    (part_fine w before b n default counts p s even (after_trans more (with_parts n default more ps) w (after_parts n default more ps) after) within so_far)
