-- The texts of starts: lines that end with LF, with decimal numbers.
use Rattle.std.specs.Prelude.{ℕ, true, false, List, [], ◌∷◌, ◌++◌, length, flat_map, zip, slice_get, decimal, codes}
use Rattle.std.specs.List.{enumerate_from}
use Rattle.std.specs.Option.{option_map_or}
use Rattle.std.specs.Fmt.{signed_decimal}
use Rattle.taco_unit.specs.declared.unit.ParamDef.{ParamDef}
use Rattle.heap_core.specs.declared.value.Value.{Value}
use Rattle.heap_core.specs.declared.value.Value.TheVariants.{Null, Obj, Num, Flag}
use Rattle.heap_core.specs.declared.value.Object.{Object}
use Rattle.heap_core.specs.declared.start.Start.{Start}
use Rattle.heap_core.specs.Posed.{Posed}
use Rattle.heap_core.specs.Start.{method_of}

-- a line, with its end
abbrev pub line : List ℕ → List ℕ
line text = text ++ 10 ∷ []

-- an object: `@` and its number
abbrev pub object_text : ℕ → List ℕ
object_text o = codes "@" ++ decimal o

abbrev pub value_text : Value → List ℕ
value_text Null = codes "null"
value_text (Obj o) = object_text o
value_text (Num z) = signed_decimal z
value_text (Flag true) = codes "true"
value_text (Flag false) = codes "false"

-- the names of a class and of a field, by their numbers
abbrev pub class_text : Posed → ℕ → List ℕ
class_text p c = option_map_or (λ d. d.name) (slice_get p.unit.classes c) []

abbrev pub field_text : Posed → ℕ → List ℕ
field_text p f = option_map_or (λ d. d.name) (slice_get p.unit.fields f) []

-- one field of an object, behind a space
abbrev pub cell_text : Posed → ℕ × Value → List ℕ
cell_text p e = codes " " ++ field_text p e.0 ++ codes "=" ++ value_text e.1

-- the fields of the class of this number
abbrev pub fields_of_class : Posed → ℕ → List ℕ
fields_of_class p c = option_map_or (λ d. d.fields) (slice_get p.unit.classes c) []

-- the line of an object: `@i CLASS FIELD=VALUE ..`
abbrev pub object_line : Posed → ℕ × Object → List ℕ
object_line p e = line (object_text e.0 ++ codes " " ++ class_text p e.1.class ++ flat_map (cell_text p) (zip (fields_of_class p e.1.class) e.1.cells))

-- the line of a number of objects
abbrev pub objects_line : ℕ → List ℕ
objects_line n = codes "objects " ++ (decimal n ++ codes "\n")

-- the lines of a heap: `objects N`, and one for each object
abbrev pub heap_text : Posed → List Object → List ℕ
heap_text p heap = objects_line (length heap) ++ flat_map (object_line p) (enumerate_from 0 heap)

-- the line of the receiver: `this @i`, or `this none` of a static method
abbrev pub this_value : Value → List ℕ
this_value (Obj o) = object_text o
this_value _ = codes "none"

abbrev pub this_line : Value → List ℕ
this_line v = line (codes "this " ++ this_value v)

-- the line of an argument: `NAME=VALUE`
abbrev pub argument_line : ParamDef × Value → List ℕ
argument_line e = line (e.0.name ++ codes "=" ++ value_text e.1)

-- the parameters of the method
abbrev pub params_of : Posed → List ParamDef
params_of p = option_map_or (λ m. m.params) (method_of p) []

-- the text of a start
abbrev pub state_text : Posed → Start → List ℕ
state_text p s = heap_text p s.objects ++ this_line s.this ++ flat_map argument_line (zip (params_of p) s.args)
