-- What a text declares has words for names.
use Rattle.std.specs.Prelude.{◌&&◌, Bool, true, List}
use Rattle.std.specs.List.{list_all}
use Rattle.java_tree.specs.Trees.{Param, Part, invariant, field, method, Class, Classes}
use Rattle.taco_unit.specs.Words.{is_word}

abbrev pub is_part_named : Part → Bool
is_part_named (invariant at e) = true
is_part_named (field mods type i) = is_word i.text
is_part_named (method m) = is_word m.name.text && list_all (λ (p : Param). is_word p.name.text) m.params

abbrev pub is_named : Class → Bool
is_named c = is_word c.name.text && list_all is_part_named c.members

-- the classes, and their fields, methods and parameters, have words for names
abbrev pub are_named : Classes → Bool
are_named cs = list_all is_named cs
