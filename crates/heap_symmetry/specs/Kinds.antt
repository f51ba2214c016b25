-- The kind of a judgement: the broken part goes by the numbers of objects, and plays no part in it.
use Rattle.heap_core.specs.declared.judged.Judged.{Judged}
use Rattle.heap_core.specs.declared.judged.Judged.TheVariants.{Outside, NotAsked, Breaks, Meets}
use Rattle.heap_core.specs.declared.judged.Part.{Part}

-- two judgements are of one kind
pub data IsOfKind : Judged → Judged → Type 0 where
  outside : IsOfKind Outside Outside
  not_asked : IsOfKind NotAsked NotAsked
  breaks : (b c : Part) → IsOfKind (Breaks b) (Breaks c)
  meets : IsOfKind Meets Meets
