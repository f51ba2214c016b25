-- Path formulas of whole programs. (This project's own.)
use Rattle.std.specs.Prelude.{List, IsTrue}
use Rattle.taco_unit.specs.declared.kind.Kind.{Kind}
use Rattle.heap_core.specs.Posed.{Posed}
use Rattle.dyn_core.specs.declared.prog.Prog.{Prog}
use Rattle.dyn_core.specs.Runs.{RunUpTo}
use Rattle.dyn_core.specs.Kinds.{is_kinded}
use Rattle.dyn_steps.specs.declared.part.Front.{Front}
use Rattle.dyn_steps.specs.declared.part.Part.{Part}
use Rattle.dyn_steps.specs.Points.{IsPoint}
use Rattle.dyn_steps.specs.Looked.{Vars}
use Rattle.dyn_steps.specs.Paths.{IsPath}
use Rattle.dyn_rel.specs.Looking.{looked_from}

-- the part of a program, in which no iteration takes a turn; one that has none has the same runs under every bound. Of
-- the variables only these are looked at behind it
abbrev pub IsProgPath : Posed → List Kind → Vars → Prog → Front → Part → Type 0
IsProgPath p kinds vars prog from part =
    IsTrue (is_kinded p kinds prog)
    → IsPoint p kinds from.next from.at
    → IsPath p kinds (looked_from prog vars) vars (RunUpTo p 0 prog) from part
