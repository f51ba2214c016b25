-- When relations lead where fields do. (This project's own.)
use Rattle.std.specs.Prelude.{◌≡◌, ℕ, List}
use Rattle.heap_core.specs.Eval.{Env, points}
use Rattle.rel_core.specs.declared.relation.RelVar.{RelVar}
use Rattle.rel_core.specs.Reading.{Reading}
use Rattle.rel_core.specs.Meaning.{leads}

-- the reading and the environment have the same scopes, and the relations lead from each object where the fields do
pub record LeadAlike (m : Reading) (relations : List RelVar) (env : Env) (fields : List ℕ) : Type 0 where
  pub objects : m.objects ≡ env.objects
  pub ints : m.ints ≡ env.ints
  pub edges : (p o : ℕ) → leads m relations p o ≡ points env fields p o
