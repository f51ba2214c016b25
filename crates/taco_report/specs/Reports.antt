-- The reports of verdicts, and the parts of a contract that can be broken.
use Rattle.std.specs.Prelude.{ℕ, List, [], ◌++◌, slice_get, decimal, codes}
use Rattle.std.specs.Option.{option_map_or}
use Rattle.taco_unit.specs.declared.scope.Scope.{Scope}
use Rattle.heap_core.specs.declared.start.Start.{Start}
use Rattle.heap_core.specs.declared.judged.Part.{Part}
use Rattle.heap_core.specs.declared.judged.Part.TheVariants as part
use Rattle.heap_core.specs.Posed.{Posed}
use Rattle.taco_report.specs.Texts.{line, object_text, class_text, state_text}

-- the names of a field and of the class that declares it: `CLASS.FIELD`
abbrev pub place_text : Posed → ℕ → List ℕ
place_text p f = option_map_or (λ d. class_text p d.class ++ codes "." ++ d.name) (slice_get p.unit.fields f) []

-- a part of a contract: `thrown`, `ensures I`, `result`, `nonnull @N CLASS.FIELD`, `invariant I @N`
abbrev pub part_text : Posed → Part → List ℕ
part_text p part.Thrown = codes "thrown"
part_text p (part.Ensures k) = codes "ensures " ++ decimal k
part_text p part.Result = codes "result"
part_text p (part.NonNull o f) = codes "nonnull " ++ object_text o ++ codes " " ++ place_text p f
part_text p (part.Invariant k o) = codes "invariant " ++ decimal k ++ codes " " ++ object_text o

-- the line of a broken part
abbrev pub broken_line : Posed → Part → List ℕ
broken_line p b = line (codes "broken " ++ part_text p b)

-- the line of the scope
abbrev pub scope_line : Scope → List ℕ
scope_line s =
    codes "scope objects " ++ (decimal s.objects ++ (codes " ints " ++ (decimal s.ints ++ (codes " loops " ++ (decimal s.loops ++ (codes " calls " ++ (decimal s.calls ++ codes "\n")))))))

-- how many tuples there are, and how many of them are cleared, kept and open
pub record Counts : Type 0 where
  pub tuples : ℕ
  pub cleared : ℕ
  pub kept : ℕ
  pub open_ : ℕ

-- the line of the counts
abbrev pub counts_line : Counts → List ℕ
counts_line n =
    codes "tuples " ++ (decimal n.tuples ++ (codes " cleared " ++ (decimal n.cleared ++ (codes " kept " ++ (decimal n.kept ++ (codes " open " ++ (decimal n.open_ ++ codes "\n")))))))

-- a method without receiver and without parameters of class kind has no tuples
abbrev pub no_tuples : Counts
no_tuples = record { tuples = 0; cleared = 0; kept = 0; open_ = 0 }

-- the report of a method that holds, and of one that does not
abbrev pub holds_report : Posed → Counts → List ℕ
holds_report p n = line (codes "HOLDS") ++ scope_line p.scope ++ counts_line n

abbrev pub violated_report : Posed → Counts → Start → Part → List ℕ
violated_report p n s b = line (codes "VIOLATED") ++ scope_line p.scope ++ counts_line n ++ broken_line p b ++ state_text p s
