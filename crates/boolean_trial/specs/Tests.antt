-- Plainness as tests.
use Rattle.std.specs.Prelude.{◌==◌, ◌&&◌, Bool, true, false, length, Option, Some, None}
use Rattle.std.specs.List.{list_all}
use Rattle.taco_unit.specs.declared.kind.Kind.{Kind}
use Rattle.taco_unit.specs.declared.kind.Kind.TheVariants as kind
use Rattle.taco_unit.specs.declared.expr.Expr.{Expr}
use Rattle.taco_unit.specs.declared.unit.ClassDef.{ClassDef}
use Rattle.taco_unit.specs.declared.unit.MethodDef.{MethodDef}
use Rattle.taco_unit.specs.Kinds.{Form, Code, Entry, Exit, same_kind}
use Rattle.taco_unit.specs.Parts.{Parts}
use Rattle.boolean_trial.specs.declared.plainness.Place.{Place}
use Rattle.boolean_trial.specs.declared.plainness.Place.TheVariants.{Body, Before, After}
use Rattle.boolean_trial.specs.Plain.{is_plain, are_plain}

-- what may stand in this place
abbrev pub form_of : Place → Form
form_of Body = Code
form_of Before = Entry
form_of After = Exit

abbrev pub is_body : Place → Bool
is_body Body = true
is_body Before = false
is_body After = false

-- the result is a truth value
abbrev pub has_flag : Option (Kind × Bool) → Bool
has_flag None = false
has_flag (Some r) = same_kind r.0 kind.Flag

-- the method, whose body returns this value, is plain
abbrev pub plain_with : MethodDef → Expr → Bool
plain_with m value =
    m.fixed && (list_all (λ p. same_kind p.kind kind.Flag) m.params && (has_flag m.result && (length m.locals == 0 && (is_plain value (length m.params) Code && (are_plain (length m.params) Entry m.needs && are_plain (length m.params) Exit m.gives)))))

-- one class without fields and invariants
abbrev pub is_bare : Parts → Bool
is_bare u = length u.classes == 1 && (length u.fields == 0 && list_all (λ (c : ClassDef). length c.invariants == 0) u.classes)
