-- The classes of a text that stand.
use Rattle.std.proofs.Common.{◌≡◌, ◌≤◌, ◌<◌, ◌+◌, ℕ, true, List, [], ◌∷◌, ◌++◌, Some, length, refl, ap, sym, ◌∙◌, subst, arith, append_assoc}
use Rattle.std.specs.Prelude.{slice_get, option_map, count_by, not, ◌==◌}
use Rattle.std.proofs.lemmas.Option.{slice_get-map}
use Rattle.std.proofs.lemmas.List.{length-map, length-append}
use Rattle.java_tree.specs.Trees.{Class, Classes}
use Rattle.taco_unit.specs.declared.unit.FieldDef.{FieldDef}
use Rattle.taco_unit.specs.declared.unit.MethodDef.{MethodDef}
use Rattle.taco_unit.specs.Parts.{Parts}
use Rattle.taco_unit.specs.Words.{is_word}
use Rattle.taco_unit.specs.Kinds.{is_class_kind}
use Rattle.taco_unit.specs.Well.{around_invariant, are_conditions}
use Rattle.declared_names.specs.declared.fault.Fault.{Fault}
use Rattle.refusals.specs.declared.refusal.Many.TheVariants as many
use Rattle.declared_names.specs.declared.fault.Cause.TheVariants.{Unknown, Twice, TooMany}
use Rattle.declared_names.specs.declared.world.World.{World}
use Rattle.declared_names.specs.Faults.{check}
use Rattle.declared_names.specs.Seen.{Seen, Stands, Faulty, over_two}
use Rattle.declared_names.specs.Lookups.{place_in}
use Rattle.typed_statements.specs.Modifiers.{modifier_faults}
use Rattle.typed_statements.specs.Heads.{word_faults, next, class_names, is_default, with_parts, with_classes}
use Rattle.typed_statements.proofs.Stand.{OnStands, on_beside, weaker, nothing_left, nothing_right, passes}
use Rattle.typed_core.specs.declared.members.Counts.{Counts}
use Rattle.typed_core.specs.declared.members.Members.{Members}
use Rattle.typed_core.specs.declared.members.Built.{Built}
use Rattle.typed_core.specs.declared.members.ClassPart.{ClassPart}
use Rattle.typed_core.specs.Members.{is_first, no_members, counted_parts, seen_parts, class_faults, fresh_class, seen_class, with_class, seen_classes}
use Rattle.typed_core.proofs.Each.{Each, each_push, is_here}
use Rattle.typed_core.proofs.Growth.{After, after_classes, Even, even_parts}
use Rattle.typed_core.proofs.Totals.{Whole, FieldFine, MethodFine, Totals, below_limit, next_is}
use Rattle.typed_core.proofs.PartsFine.{PartsFine, parts_fine}

-- where the second part is looked at only where the first stands, and with it
on_then_with : {A B C : Type 0} (P : A → Type 0) (R : A → B → Type 0) (Q : C → Type 0) (s : Seen A) (t : Seen B) (go : A → B → Seen C) → OnStands s P → ((x : A) → P x → OnStands t (R x))
    → ((x : A) (y : B) → P x → R x y → OnStands (go x y) Q) → OnStands (over_two s t go) Q
unfolding over_two
on_then_with P R Q (Stands x) (Stands y) go h i step = step x y h (i x h)
on_then_with P R Q (Stands x) (Faulty g gs) go h i step = tt
on_then_with P R Q (Faulty f fs) (Stands y) go h i step = tt
on_then_with P R Q (Faulty f fs) (Faulty g gs) go h i step = tt

-- a class of the unit that goes with its declaration
pub record ClassFine (w : World) (i : ℕ) (c : Class) (part : ClassPart) : Type 0 where
  pub name : part.name ≡ c.name.text
  pub named : is_word c.name.text ≡ true
  pub first : place_in w.classes 0 c.name.text ≡ Some i
  pub invariants : (u : Parts) → Whole w u → are_conditions (around_invariant u i) part.invariants ≡ true
  pub few : length part.invariants ≤ 255

-- so many classes so far
pub record SoFar (w before : World) (front : Classes) (n : ℕ) (counts : Counts) (b : Built) : Type 0 where
  pub classes : Each (ClassFine w) front b.classes
  pub totals : Totals w before counts b.fields b.methods
  pub number : n ≡ length front
  pub few : n ≤ 16

-- what is built of all classes
pub record AllFine (w : World) (all : Classes) (b : Built) : Type 0 where
  pub classes : Each (ClassFine w) all b.classes
  pub few : length all ≤ 16
  pub fields : Each (FieldFine w) w.fields b.fields
  pub few_fields : length w.fields ≤ 64
  pub methods : Each (MethodFine w) w.methods b.methods
  pub few_methods : length w.methods ≤ 64
  pub few_references : count_by (λ (f : FieldDef). is_class_kind f.kind) b.fields ≤ 32

-- ONE CLASS

-- what the head of a class without a fault keeps
record Quiet (w : World) (n : ℕ) (c : Class) : Type 0 where
  named : is_word c.name.text ≡ true
  first : is_first (place_in w.classes 0 c.name.text) n ≡ true
  fewer : not (n == 16) ≡ true

quiet_class : (w : World) (n : ℕ) (c : Class) → class_faults w n c ≡ [] → Quiet w n c
quiet_class w n c quiet =
    let a : List Fault = modifier_faults c.mods in
    let b : List Fault = check (is_first (place_in w.classes 0 c.name.text) n) c.name.at Twice in
    let d : List Fault = check (not (n == 16)) c.name.at (TooMany many.Classes) in
    let e : List Fault = word_faults c.name in
    let named_rest = nothing_right a (e ++ (b ++ d)) quiet in
    let rest = nothing_right e (b ++ d) named_rest in
    record {
      named = passes (is_word c.name.text) c.name.at Unknown (nothing_left e (b ++ d) named_rest);
      first = passes (is_first (place_in w.classes 0 c.name.text) n) c.name.at Twice (nothing_left b d rest);
      fewer = passes (not (n == 16)) c.name.at (TooMany many.Classes) (nothing_right b d rest);
    }

nothing_more : {A : Type 0} (xs : List A) → xs ++ [] ≡ xs
nothing_more [] = refl
nothing_more (x ∷ xs) = ap (λ ys. x ∷ ys) (nothing_more xs)

none_yet : (w before : World) (b : Built) (n : ℕ) (counts : Counts) → Totals w before counts b.fields b.methods → PartsFine w before b n (fresh_class counts) no_members
none_yet w before b n counts t =
    let fresh : Totals w before (fresh_class counts) b.fields b.methods =
    record {
      fields = t.fields;
      methods = t.methods;
      many_fields = t.many_fields;
      few_fields = t.few_fields;
      many_methods = t.many_methods;
      few_methods = t.few_methods;
      many_references = t.many_references;
      few_references = t.few_references;
    }
    in
    let P : List FieldDef → Type 0 = λ fs. Totals w before (fresh_class counts) fs b.methods in
    let Q : List MethodDef → Type 0 = λ ms. Totals w before (fresh_class counts) (b.fields ++ []) ms in
    record {
      totals = subst Q (sym (nothing_more b.methods)) (subst P (sym (nothing_more b.fields)) fresh);
      own = record { conditions = λ u whole. refl; same = refl; few = omega arith };
    }

-- the members of the class, and what its head keeps
record ClassStands (w behind : World) (b : Built) (n : ℕ) (counts : Counts) (c : Class) (ms : Members) : Type 0 where
  head : Quiet w n c
  parts : PartsFine w behind b n counts ms

class_stands : (w before : World) (b : Built) (n : ℕ) (counts : Counts) (c : Class) → Even before → After (with_parts n (is_default c.mods) before c.members) w → n < length w.classes
    → Totals w before counts b.fields b.methods
    → OnStands (seen_class w n counts c) (ClassStands w (with_parts n (is_default c.mods) before c.members) b n (counted_parts (fresh_class counts) c.members) c)
class_stands w before b n counts c even after within t =
    let behind : World = with_parts n (is_default c.mods) before c.members in
    let members : Seen Members = seen_parts w n (is_default c.mods) (fresh_class counts) (Stands no_members) c.members in
    let counts' : Counts = counted_parts (fresh_class counts) c.members in
    on_beside (ClassStands w behind b n counts' c) (class_faults w n c) members
    (λ quiet.
    weaker (PartsFine w behind b n counts') (ClassStands w behind b n counts' c) members
    (parts_fine w before b n (is_default c.mods) (fresh_class counts) c.members (Stands no_members) even after within (none_yet w before b n counts t))
    (λ ms parts. record { head = quiet_class w n c quiet; parts = parts }))

at_seam : {A : Type 0} (xs : List A) (y : A) (ys : List A) → slice_get (xs ++ y ∷ ys) (length xs) ≡ Some y
at_seam [] y ys = refl
at_seam (x ∷ xs) y ys = at_seam xs y ys

within_all : (front : Classes) (c : Class) (cs : Classes) (n : ℕ) → n ≡ length front → n < length (front ++ c ∷ cs)
within_all front c cs n is = let long : length (front ++ c ∷ cs) ≡ length front + length (c ∷ cs) = length-append front (c ∷ cs) in omega (arith, long, is)

add_class : (w before : World) (all front : Classes) (c : Class) (cs : Classes) (n : ℕ) (counts : Counts) (b : Built) (ms : Members) → w.classes ≡ class_names all → all ≡ front ++ c ∷ cs → SoFar w before front n counts b
    → ClassStands w (with_parts n (is_default c.mods) before c.members) b n (counted_parts (fresh_class counts) c.members) c ms
    → SoFar w (with_parts n (is_default c.mods) before c.members) (front ++ c ∷ []) (next n) (counted_parts (fresh_class counts) c.members) (with_class b c ms)
add_class w before all front c cs n counts b ms names is so_far new =
    let few : n ≤ 16 = so_far.few in
    let step : next n ≡ n + 1 = next_is n (omega arith) in
    let P : ℕ → Type 0 = λ x. x ≤ 16 in
    let part : ClassPart = record { name = c.name.text; invariants = ms.invariants } in
    let named_here : slice_get w.classes n ≡ Some (0, c.name.text) =
    ap (λ l. slice_get l n) names ∙ slice_get-map (λ (x : Class). (0, x.name.text)) all n
    ∙ ap (option_map (λ (x : Class). (0, x.name.text))) (ap (λ l. slice_get l n) is ∙ ap (slice_get (front ++ c ∷ cs)) so_far.number ∙ at_seam front c cs)
    in
    let Q : ℕ → Type 0 = λ i. ClassFine w i c part in
    let R : ℕ → Type 0 = λ x. x ≤ 255 in
    let fine : ClassFine w n c part =
    record {
      name = refl;
      named = new.head.named;
      first = is_here w.classes 0 c.name.text n named_here new.head.first;
      invariants = new.parts.own.conditions;
      few = subst R new.parts.own.same new.parts.own.few;
    }
    in
    record {
      classes = each_push (ClassFine w) front b.classes c part so_far.classes (subst Q so_far.number fine);
      totals = new.parts.totals;
      number = step ∙ ap (λ x. x + 1) so_far.number ∙ sym (length-append front (c ∷ []));
      few = subst P (sym step) (below_limit n 16 so_far.few new.head.fewer);
    }

-- ALL CLASSES

whole_text : (w : World) (all front : Classes) (n : ℕ) (counts : Counts) (b : Built) → all ≡ front → SoFar w w front n counts b → AllFine w all b
whole_text w all front n counts b is so_far =
    let t = so_far.totals in
    let P : Classes → Type 0 = λ cs. Each (ClassFine w) cs b.classes in
    let Few : ℕ → Type 0 = λ x. x ≤ 16 in
    let Fields : ℕ → Type 0 = λ x. x ≤ 64 in
    let References : ℕ → Type 0 = λ x. x ≤ 32 in
    record {
      classes = subst P (sym is) so_far.classes;
      few = subst Few (so_far.number ∙ ap length (sym is)) so_far.few;
      fields = t.fields;
      few_fields = subst Fields t.many_fields t.few_fields;
      methods = t.methods;
      few_methods = subst Fields t.many_methods t.few_methods;
      few_references = subst References t.many_references t.few_references;
    }

pub classes_fine : (w before : World) (all front : Classes) (cs : Classes) (n : ℕ) (counts : Counts) (s : Seen Built) → w.classes ≡ class_names all → all ≡ front ++ cs → w ≡ with_classes n before cs → Even before
    → OnStands s (SoFar w before front n counts) → OnStands (seen_classes w n counts s cs) (AllFine w all)
classes_fine w before all front [] n counts s names is made even so_far =
    let P : World → Type 0 = λ v. OnStands s (SoFar w v front n counts) in
    weaker (SoFar w w front n counts) (AllFine w all) s (subst P (sym made) so_far) (λ b h. whole_text w all front n counts b (is ∙ nothing_more front) h)
classes_fine w before all front (c ∷ cs) n counts s names is made even so_far =
    let behind : World = with_parts n (is_default c.mods) before c.members in
    let counts' : Counts = counted_parts (fresh_class counts) c.members in
    let After_w : World → Type 0 = λ v. After behind v in
    let after : After behind w = subst After_w (sym made) (after_classes (next n) behind cs) in
    let long : length w.classes ≡ length all = ap length names ∙ length-map all (λ (x : Class). (0, x.name.text)) in
    classes_fine w behind all (front ++ c ∷ []) cs (next n) counts' (over_two s (seen_class w n counts c) (λ b ms. Stands (with_class b c ms))) names (is ∙ sym (append_assoc front (c ∷ []) cs)) made
    (even_parts n (is_default c.mods) before c.members even)
    (on_then_with (SoFar w before front n counts) (λ b. ClassStands w behind b n counts' c) (SoFar w behind (front ++ c ∷ []) (next n) counts') s (seen_class w n counts c) (λ b ms. Stands (with_class b c ms)) so_far
    (λ b h.
    let P : ℕ → Type 0 = λ x. n < x in
    class_stands w before b n counts c even after (subst P (ap length (sym is) ∙ sym long) (within_all front c cs n h.number)) h.totals)
    (λ b ms h new. add_class w before all front c cs n counts b ms names is h new))
