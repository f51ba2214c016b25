-- What is declared grows: later declarations stand behind earlier ones.
use Rattle.std.proofs.Common.{◌≡◌, ℕ, Bool, List, [], ◌∷◌, ◌++◌, refl, ap, sym, ◌∙◌}
use Rattle.std.specs.Prelude.{map}
use Rattle.std.proofs.lemmas.List.{map-append}
use Rattle.java_tree.specs.Trees.{Part, invariant, field, method, Classes}
use Rattle.declared_names.specs.declared.world.World.{World}
use Rattle.declared_names.specs.declared.world.FieldKnown.{FieldKnown}
use Rattle.declared_names.specs.declared.world.MethodKnown.{MethodKnown}
use Rattle.typed_statements.specs.Heads.{next, field_known, method_known, with_part, with_parts, with_classes, is_default}
use Rattle.typed_statements.proofs.Fitting.{Before, before_refl, before_trans, before_one}

-- the fields and methods of one come first in the other
pub record After (w v : World) : Type 0 where
  pub classes : v.classes ≡ w.classes
  pub field_names : Before w.field_names v.field_names
  pub fields : Before w.fields v.fields
  pub methods : Before w.methods v.methods

after_refl : (w : World) → After w w
after_refl w = record { classes = refl; field_names = before_refl w.field_names; fields = before_refl w.fields; methods = before_refl w.methods }

pub after_trans : (w v z : World) → After w v → After v z → After w z
after_trans w v z a b =
    record {
      classes = b.classes ∙ a.classes;
      field_names = before_trans w.field_names v.field_names z.field_names a.field_names b.field_names;
      fields = before_trans w.fields v.fields z.fields a.fields b.fields;
      methods = before_trans w.methods v.methods z.methods a.methods b.methods;
    }

pub after_part : (n : ℕ) (default : Bool) (w : World) (p : Part) → After w (with_part n default w p)
after_part n default w (invariant at e) = after_refl w
after_part n default w (field mods kind i) =
    record { classes = refl; field_names = before_one w.field_names (n, i.text); fields = before_one w.fields (field_known w.classes n default mods kind i); methods = before_refl w.methods }
after_part n default w (method m) = record { classes = refl; field_names = before_refl w.field_names; fields = before_refl w.fields; methods = before_one w.methods (method_known w.classes n default m) }

pub after_parts : (n : ℕ) (default : Bool) (w : World) (ps : List Part) → After w (with_parts n default w ps)
after_parts n default w [] = after_refl w
after_parts n default w (p ∷ ps) = after_trans w (with_part n default w p) (with_parts n default (with_part n default w p) ps) (after_part n default w p) (after_parts n default (with_part n default w p) ps)

pub after_classes : (n : ℕ) (w : World) (cs : Classes) → After w (with_classes n w cs)
after_classes n w [] = after_refl w
after_classes n w (c ∷ cs) =
    after_trans w (with_parts n (is_default c.mods) w c.members) (with_classes (next n) (with_parts n (is_default c.mods) w c.members) cs) (after_parts n (is_default c.mods) w c.members)
    (after_classes (next n) (with_parts n (is_default c.mods) w c.members) cs)

-- names go with what they name
pub record Even (w : World) : Type 0 where
  pub fields : w.field_names ≡ map (λ (d : FieldKnown). (d.class, d.name)) w.fields
  pub methods : w.method_names ≡ map (λ (m : MethodKnown). (m.class, m.name)) w.methods

pub even_part : (n : ℕ) (default : Bool) (w : World) (p : Part) → Even w → Even (with_part n default w p)
even_part n default w (invariant at e) even = even
even_part n default w (field mods kind i) even =
    let d : FieldKnown = field_known w.classes n default mods kind i in
    record {
      fields = ap (λ l. l ++ (d.class, d.name) ∷ []) even.fields ∙ sym (map-append (λ (x : FieldKnown). (x.class, x.name)) w.fields (d ∷ []));
      methods = even.methods;
    }
even_part n default w (method m) even =
    let d : MethodKnown = method_known w.classes n default m in
    record {
      fields = even.fields;
      methods = ap (λ l. l ++ (d.class, d.name) ∷ []) even.methods ∙ sym (map-append (λ (x : MethodKnown). (x.class, x.name)) w.methods (d ∷ []));
    }

pub even_parts : (n : ℕ) (default : Bool) (w : World) (ps : List Part) → Even w → Even (with_parts n default w ps)
even_parts n default w [] even = even
even_parts n default w (p ∷ ps) even = even_parts n default (with_part n default w p) ps (even_part n default w p even)

pub even_classes : (n : ℕ) (w : World) (cs : Classes) → Even w → Even (with_classes n w cs)
even_classes n w [] even = even
even_classes n w (c ∷ cs) even = even_classes (next n) (with_parts n (is_default c.mods) w c.members) cs (even_parts n (is_default c.mods) w c.members even)
