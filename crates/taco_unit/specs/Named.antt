-- Classes and methods by name. (This project's own.)
use Rattle.std.specs.Prelude.{ℕ, Bool, ◌==◌, ◌&&◌, List, Option, bytes_eq, position}
use Rattle.taco_unit.specs.declared.unit.ClassDef.{ClassDef}
use Rattle.taco_unit.specs.declared.unit.MethodDef.{MethodDef}
use Rattle.taco_unit.specs.Parts.{Parts}

-- the class has this name
abbrev pub is_class_named : List ℕ → ClassDef → Bool
is_class_named name d = bytes_eq d.name name

-- the method is one of this class and has this name
abbrev pub is_method_named : ℕ → List ℕ → MethodDef → Bool
is_method_named class name d = d.class == class && bytes_eq d.name name

-- the number of the first class of this name
abbrev pub class_number : Parts → List ℕ → Option ℕ
class_number u name = position (is_class_named name) u.classes

-- the number of the first method of this class and name
abbrev pub method_number : Parts → ℕ → List ℕ → Option ℕ
method_number u class name = position (is_method_named class name) u.methods
