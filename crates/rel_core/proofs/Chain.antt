-- How a verdict follows from what the layers above promise: from formulas of canonical order, of the precondition, of
-- runs and of the end, over circuits, to what the clauses of a CNF say of starts. The records are these promises.
use Rattle.std.proofs.Common.{◌≡◌, ℕ, Bool, true, false, Option, Some, None, refl, sym, ap, subst, ◌∙◌, ◌&&◌, ◌||◌}
use Rattle.std.specs.Prelude.{IsTrue, slice_get}
use Rattle.std.proofs.lemmas.Bool.{and_parts, and_from, or_left, or_right, false≢true}
use Rattle.taco_unit.specs.declared.kind.Kind.{Kind}
use Rattle.taco_unit.specs.declared.kind.Kind.TheVariants as kind
use Rattle.taco_unit.specs.declared.unit.MethodDef.{MethodDef}
use Rattle.taco_unit.specs.Well.{IsWell, result_kind}
use Rattle.heap_core.specs.declared.value.Value.{Value}
use Rattle.heap_core.specs.declared.value.Value.TheVariants.{Flag}
use Rattle.heap_core.specs.declared.start.Start.{Start}
use Rattle.heap_core.specs.declared.judged.Judged.{Judged}
use Rattle.heap_core.specs.declared.judged.Judged.TheVariants.{Outside, NotAsked, Breaks, Meets}
use Rattle.heap_core.specs.declared.judged.Part.{Part}
use Rattle.heap_core.specs.declared.judged.Part.TheVariants as part
use Rattle.heap_core.specs.Posed.{Posed, InRange}
use Rattle.heap_core.specs.Heap.{Heap}
use Rattle.heap_core.specs.Exec.{Memory, Ends, Gives, Throws, Leaves}
use Rattle.heap_core.specs.Start.{Fits, method_of}
use Rattle.heap_core.specs.Judge.{is_good, is_asked, run_of, judged, judged_run, judged_end, Violates}
use Rattle.rel_core.specs.declared.relation.RelVar.{RelVar}
use Rattle.rel_core.specs.declared.indices.Indices.{Indices}
use Rattle.rel_core.specs.declared.formula.Formula.{Formula}
use Rattle.rel_core.specs.Reading.{Reading}
use Rattle.rel_core.specs.Meaning.{holds}
use Rattle.rel_core.specs.Uses.{Kinds, GivesStart, IsOf, is_sorted, start_kinds}
use Rattle.rel_core.specs.Shown.{State, ShowsValue, ShowsHeap, ShowsState, ShowsStart, IsFirst, start_of, slot_relation}
use Rattle.rel_core.specs.States.{IsState, reading_of_start}
use Rattle.rel_core.specs.Laws.{StartsAreShown}

-- ## the promises

-- a formula that holds exactly of canonical starts
pub record IsCanonFormula (IsCanonical : Start → Type 0) (p : Posed) (at : Indices) (f : Formula) : Type 0 where
  pub sorted : (kinds : Kinds) → GivesStart p kinds → IsTrue (is_sorted p kinds f)
  pub shows : (kinds : Kinds) (m : Reading) → GivesStart p kinds → IsOf p kinds m → IsTrue (holds f m) → ShowsStart p m at (start_of p m at)
  pub fits : (kinds : Kinds) (m : Reading) → GivesStart p kinds → IsOf p kinds m → IsTrue (holds f m) → Fits (start_of p m at) p
  pub canonical : (kinds : Kinds) (m : Reading) → GivesStart p kinds → IsOf p kinds m → IsTrue (holds f m) → IsCanonical (start_of p m at)
  pub shown : (kinds : Kinds) (m : Reading) (s : Start) → GivesStart p kinds → IsOf p kinds m → ShowsStart p m at s → Fits s p → IsCanonical s → IsTrue (holds f m)

-- a formula that holds exactly where the heap is good
pub record IsGoodFormula (p : Posed) (at : Indices) (f : Formula) : Type 0 where
  pub sorted : (kinds : Kinds) → IsTrue (is_sorted p kinds f)
  pub exact : (kinds : Kinds) (m : Reading) (h : Heap) → IsOf p kinds m → ShowsHeap p.unit m at h → holds f m ≡ is_good p h

-- a formula that holds exactly where the start is asked about
pub record IsAskedFormula (p : Posed) (at : Indices) (f : Formula) : Type 0 where
  pub sorted : (kinds : Kinds) → GivesStart p kinds → IsTrue (is_sorted p kinds f)
  pub exact : (kinds : Kinds) (m : Reading) (s : Start) → GivesStart p kinds → IsOf p kinds m → ShowsStart p m at s → Fits s p → holds f m ≡ is_asked p s

-- a part is broken
abbrev pub is_breaking : Judged → Bool
is_breaking (Breaks b) = true
is_breaking _ = false

abbrev pub ShowsResultOf : Reading → RelVar → Option Value → Option Kind → Type 0
ShowsResultOf m x r None = r ≡ None
ShowsResultOf m x r (Some k) = (v : Value) × (r ≡ Some v) × ShowsValue m k x 0 v

-- the result is there exactly where the method has one, and is shown
abbrev pub ShowsResult : Posed → Reading → Indices → ℕ → Option Value → Type 0
ShowsResult p m last result r = (d : MethodDef) → method_of p ≡ Some d → ShowsResultOf m (slot_relation last result) r (result_kind d)

-- a formula that holds exactly where the method, when it ends so, breaks its contract
pub record IsEndFormula (p : Posed) (first last : Indices) (result : ℕ) (f : Formula) : Type 0 where
  pub exact : (kinds : Kinds) (m : Reading) (s : Start) (r : Option Value) (after : Memory)
      → IsOf p kinds m → ShowsStart p m first s → Fits s p → ShowsHeap p.unit m last after.heap → ShowsResult p m last result r
      → holds f m ≡ is_breaking (judged_end p s r after)

-- a formula of a program's runs
pub record IsPath (p : Posed) (kinds : Kinds) (Leads : State → State → Type 0) (first last : Indices) (f : Formula) : Type 0 where
  pub sound : (m : Reading) (s : State) → IsOf p kinds m → IsTrue (holds f m) → ShowsState p.unit kinds m first s → IsState p kinds s
      → (t : State) × Leads s t × ShowsState p.unit kinds m last t
  pub full : (s t : State) → IsState p kinds s → Leads s t
      → (m : Reading) × IsOf p kinds m × ShowsState p.unit kinds m first s × ShowsState p.unit kinds m last t × IsTrue (holds f m)

-- a state ends as an execution does
abbrev pub EndsAs : ℕ → ℕ → Ends (Option Value) → State → Type 0
EndsAs thrown result (Gives r m) t = (t.heap ≡ m.heap) × (t.value thrown ≡ Flag false) × ((v : Value) → r ≡ Some v → t.value result ≡ v)
EndsAs thrown result (Throws m) t = (t.heap ≡ m.heap) × (t.value thrown ≡ Flag true)
EndsAs thrown result Leaves t = ⊥

-- a program whose runs are the executions; `begins` is the state with which a start begins
pub record IsLowered (p : Posed) (kinds : Kinds) (Leads : State → State → Type 0) (thrown result : ℕ) (begins : Start → State) : Type 0 where
  pub kinds_given : GivesStart p kinds
  pub thrown_kind : kinds thrown ≡ Some kind.Flag
  pub only : (s : Start) (t : State) → Fits s p → Leads (begins s) t → EndsAs thrown result (run_of p s) t
  pub some : (s : Start) → Fits s p → (run_of p s ≡ Leaves → ⊥) → (t : State) × Leads (begins s) t

-- an execution of a start that fits gives a value exactly where the method has a result
abbrev pub GivesResult : Posed → Type 0
GivesResult p = (m : Reading) (kinds : Kinds) (last : Indices) (result thrown : ℕ) (s : Start) (r : Option Value) (after : Memory) (t : State)
    → Fits s p → run_of p s ≡ Gives r after → EndsAs thrown result (Gives r after) t → ShowsState p.unit kinds m last t → ShowsResult p m last result r

-- the state of a start, with zeros behind it, is shown exactly where the start and zeros are
pub record StartsAreStates (p : Posed) (kinds : Kinds) (first : Indices) (begins : Start → State) (rest : Formula) : Type 0 where
  pub there : (m : Reading) (s : Start) → IsOf p kinds m → Fits s p → ShowsStart p m first s → IsTrue (holds rest m) → ShowsState p.unit kinds m first (begins s)
  pub back : (m : Reading) (s : Start) → IsOf p kinds m → Fits s p → ShowsState p.unit kinds m first (begins s) → ShowsStart p m first s × IsTrue (holds rest m)
  pub kinded : (s : Start) → Fits s p → IsState p kinds (begins s)

-- ## from a formula to starts

-- what a formula says of the starts at an index: each reading of the problem that makes it true shows a start of
-- the sort, and each such start is shown by one
pub record SaysOf (p : Posed) (kinds : Kinds) (at : Indices) (Is : Start → Type 0) (f : Reading → Bool) : Type 0 where
  pub told : (m : Reading) → IsOf p kinds m → IsTrue (f m) → ShowsStart p m at (start_of p m at) × Is (start_of p m at)
  pub shown : (s : Start) → Is s → (m : Reading) × IsOf p kinds m × ShowsStart p m at s × IsTrue (f m)

abbrev flag_in : Value → Bool
flag_in (Flag b) = b
flag_in _ = true

breaking : (j : Judged) → is_breaking j ≡ true → (b : Part) × (j ≡ Breaks b)
breaking (Breaks b) is = (b, refl)
breaking Outside is = absurd (false≢true is)
breaking NotAsked is = absurd (false≢true is)
breaking Meets is = absurd (false≢true is)

not_breaking : {b : Part} → Outside ≡ Breaks b → ⊥
not_breaking h = absurd (cc)

module _ (IsCanonical : Start → Type 0) (p : Posed) (well : IsWell p.unit) (range : InRange p) (first : Indices) (first_zero : IsFirst first) (starts_shown : StartsAreShown) where
  pub record IsPosed (s : Start) : Type 0 where
    pub fits : Fits s p
    pub canonical : IsCanonical s
    pub good : IsTrue (is_good p s.objects)

  abbrev start_kinds_of : Kinds
  start_kinds_of = slice_get (start_kinds p)

  gives_own : GivesStart p start_kinds_of
  gives_own x k is = is

  -- canonical starts with a good heap
  pub poses : (canon good : Formula) → IsCanonFormula IsCanonical p first canon → IsGoodFormula p first good
      → SaysOf p start_kinds_of first IsPosed (λ m. holds canon m && holds good m)
  poses canon good c g = record {
    told = λ m of is.
        let parts = and_parts (holds canon m) (holds good m) is in
        let shows = c.shows start_kinds_of m gives_own of parts.0 in (
          shows,
          record {
            fits = c.fits start_kinds_of m gives_own of parts.0;
            canonical = c.canonical start_kinds_of m gives_own of parts.0;
            good = sym (g.exact start_kinds_of m _ of shows.heap) ∙ parts.1;
          },
        );
    shown = λ s is.
        let there = starts_shown p s well range is.fits in
        let m = reading_of_start p s in
        let shows = there.shown first first_zero in (
          m,
          there.of_problem,
          shows,
          and_from (holds canon m) (holds good m) (c.shown start_kinds_of m s gives_own there.of_problem shows is.fits is.canonical)
              (g.exact start_kinds_of m _ there.of_problem shows.heap ∙ is.good),
        );
  }

  pub record IsBreaking (s : Start) : Type 0 where
    pub canonical : IsCanonical s
    pub part : Part
    pub violates : Violates p s part

  -- a start that is asked about leaves no scope before the run
  module _ (asked_decides : (s : Start) → IsTrue (is_asked p s) → judged p s ≡ judged_run p s (run_of p s))
      (asked_of_breaking : (s : Start) (b : Part) → judged p s ≡ Breaks b → IsTrue (is_asked p s))
      (kinds : Kinds) (Leads : State → State → Type 0) (thrown result : ℕ) (begins : Start → State) (last : Indices)
      (canon asked rest path end : Formula) where
    -- what the verdict's formula says under a reading
    abbrev pub query : Reading → Bool
    query m = holds canon m && (holds asked m && (holds rest m && (holds path m && (m.flag (slot_relation last thrown) 0 || holds end m))))

    told_end : (m : Reading) (s : Start) (t : State) (e : Ends (Option Value)) → IsOf p kinds m → ShowsStart p m first s → Fits s p → ShowsState p.unit kinds m last t → kinds thrown ≡ Some kind.Flag
        → IsEndFormula p first last result end → GivesResult p → run_of p s ≡ e → EndsAs thrown result e t → (m.flag (slot_relation last thrown) 0 || holds end m) ≡ true
        → (b : Part) × (judged_run p s e ≡ Breaks b)
    told_end m s t (Throws after) of shows fits at_last flag_kind ends gives is as_run either = (part.Thrown, refl)
    told_end m s t Leaves of shows fits at_last flag_kind ends gives is as_run either = absurd as_run
    told_end m s t (Gives r after) of shows fits at_last flag_kind ends gives is as_run either =
        let flag_is : Flag false ≡ Flag (m.flag (slot_relation last thrown) 0) = sym as_run.1 ∙ at_last.values thrown kind.Flag flag_kind in
        let off : m.flag (slot_relation last thrown) 0 ≡ false = sym (ap flag_in flag_is) in
        let broken : holds end m ≡ true = ap (λ b. b || holds end m) (sym off) ∙ either in
        let heap_shown : ShowsHeap p.unit m last after.heap = subst (ShowsHeap p.unit m last) as_run.0 at_last.heap in
        breaking (judged_end p s r after) (sym (ends.exact kinds m s r after of shows fits heap_shown (gives m kinds last result thrown s r after t fits is as_run at_last)) ∙ broken)

    shown_end : (m : Reading) (s : Start) (t : State) (e : Ends (Option Value)) (b : Part) → IsOf p kinds m → ShowsStart p m first s → Fits s p → ShowsState p.unit kinds m last t → kinds thrown ≡ Some kind.Flag
        → IsEndFormula p first last result end → GivesResult p → run_of p s ≡ e → EndsAs thrown result e t → judged_run p s e ≡ Breaks b → (m.flag (slot_relation last thrown) 0 || holds end m) ≡ true
    shown_end m s t (Throws after) b of shows fits at_last flag_kind ends gives is as_run breaks =
        or_left (m.flag (slot_relation last thrown) 0) (holds end m) (ap flag_in (sym (at_last.values thrown kind.Flag flag_kind) ∙ as_run.1))
    shown_end m s t Leaves b of shows fits at_last flag_kind ends gives is as_run breaks = absurd as_run
    shown_end m s t (Gives r after) b of shows fits at_last flag_kind ends gives is as_run breaks =
        let heap_shown : ShowsHeap p.unit m last after.heap = subst (ShowsHeap p.unit m last) as_run.0 at_last.heap in
        or_right (m.flag (slot_relation last thrown) 0) (holds end m)
        (ends.exact kinds m s r after of shows fits heap_shown (gives m kinds last result thrown s r after t fits is as_run at_last) ∙ ap is_breaking breaks)

    -- canonical starts that break the contract
    pub encodes : IsCanonFormula IsCanonical p first canon → IsAskedFormula p first asked → IsPath p kinds Leads first last path → IsLowered p kinds Leads thrown result begins
        → StartsAreStates p kinds first begins rest → IsEndFormula p first last result end → GivesResult p → SaysOf p kinds first IsBreaking query
    encodes c a f l z e g = record {
      told = λ m of is.
          let one = and_parts (holds canon m) _ is in
          let two = and_parts (holds asked m) _ one.1 in
          let three = and_parts (holds rest m) _ two.1 in
          let four = and_parts (holds path m) _ three.1 in
          let shows = c.shows kinds m l.kinds_given of one.0 in
          let s = start_of p m first in
          let fits = c.fits kinds m l.kinds_given of one.0 in
          let is_asked_for : IsTrue (is_asked p s) = sym (a.exact kinds m s l.kinds_given of shows fits) ∙ two.0 in
          let run = f.sound m (begins s) of four.0 (z.there m s of fits shows three.0) (z.kinded s fits) in
          let end_is = told_end m s run.0 (run_of p s) of shows fits run.2 l.thrown_kind e g refl (l.only s run.0 fits run.1) four.1 in (
            shows,
            record {
              canonical = c.canonical kinds m l.kinds_given of one.0;
              part = end_is.0;
              violates = record { fits = fits; breaks = asked_decides s is_asked_for ∙ end_is.1 };
            },
          );
      shown = λ s is.
          let fits = is.violates.fits in
          let is_asked_for = asked_of_breaking s is.part is.violates.breaks in
          let by_run : judged_run p s (run_of p s) ≡ Breaks is.part = sym (asked_decides s is_asked_for) ∙ is.violates.breaks in
          let ends_within : run_of p s ≡ Leaves → ⊥ = λ leaves. not_breaking (sym (ap (judged_run p s) leaves) ∙ by_run) in
          let run = l.some s fits ends_within in
          let there = f.full (begins s) run.0 (z.kinded s fits) run.1 in
          let m = there.0 in
          let of = there.1 in
          let at_first = z.back m s of fits there.2 in (
            m,
            of,
            at_first.0,
            and_from (holds canon m) _ (c.shown kinds m s l.kinds_given of at_first.0 fits is.canonical)
                (and_from (holds asked m) _ (a.exact kinds m s l.kinds_given of at_first.0 fits ∙ is_asked_for)
                (and_from (holds rest m) _ at_first.1
                (and_from (holds path m) _ there.4
                (shown_end m s run.0 (run_of p s) is.part of at_first.0 fits there.3 l.thrown_kind e g refl (l.only s run.0 fits run.1) by_run)))),
          );
    }

-- ## from circuits to clauses

-- the gate of a formula within an upper bound; what a reading has of tuples is `has_tuple`
pub record IsBuilt (p : Posed) (kinds : Kinds) (f : Reading → Bool) (Within : Reading → Type 0) (gate_true : (ℕ → Bool) → Bool) (Agrees : Reading → (ℕ → Bool) → Type 0) : Type 0 where
  pub exact : (m : Reading) (inputs : ℕ → Bool) → IsOf p kinds m → Agrees m inputs → gate_true inputs ≡ f m
  pub told : (inputs : ℕ → Bool) → gate_true inputs ≡ true → (m : Reading) × IsOf p kinds m × Agrees m inputs × Within m
  pub shown : (m : Reading) → IsOf p kinds m → Within m → (inputs : ℕ → Bool) × Agrees m inputs

-- the clauses of a circuit; the values of the nodes, of which `values_of inputs` are right
pub record IsWritten (Satisfies : (ℕ → Bool) → Type 0) (gate_true : (ℕ → Bool) → Bool) (values_of : (ℕ → Bool) → ℕ → Bool) : Type 0 where
  pub roots_true : (values : ℕ → Bool) → Satisfies values → gate_true values ≡ true
  pub satisfied : (inputs : ℕ → Bool) → gate_true inputs ≡ true → Satisfies (values_of inputs)

-- what satisfies the clauses belongs to a start of the sort, with exactly the tuples that its variables tell, and each
-- such start within the bound has values
pub record Describes (Is : Start → Type 0) (Satisfies : (ℕ → Bool) → Type 0) (Tells : (ℕ → Bool) → Start → Type 0) (Bounded : Start → Type 0) : Type 0 where
  pub told : (values : ℕ → Bool) → Satisfies values → (s : Start) × Is s × Tells values s
  pub shown : (s : Start) → Is s → Bounded s → (values : ℕ → Bool) × Satisfies values × Tells values s

pub describes : (p : Posed) (kinds : Kinds) (at : Indices) (Is : Start → Type 0) (f : Reading → Bool) (Within : Reading → Type 0) (gate_true : (ℕ → Bool) → Bool) (Agrees : Reading → (ℕ → Bool) → Type 0)
    (Satisfies : (ℕ → Bool) → Type 0) (values_of : (ℕ → Bool) → ℕ → Bool) (Tells : (ℕ → Bool) → Start → Type 0) (Bounded : Start → Type 0)
    → SaysOf p kinds at Is f → IsBuilt p kinds f Within gate_true Agrees → IsWritten Satisfies gate_true values_of
    → ((m : Reading) (inputs : ℕ → Bool) (s : Start) → Agrees m inputs → ShowsStart p m at s → Tells inputs s × Tells (values_of inputs) s)
    → ((m : Reading) (s : Start) → ShowsStart p m at s → Bounded s → Within m)
    → Describes Is Satisfies Tells Bounded
describes p kinds at Is f Within gate_true Agrees Satisfies values_of Tells Bounded says b w tells bounded = record {
  told = λ values holds_all.
      let there = b.told values (w.roots_true values holds_all) in
      let m = there.0 in
      let is = says.told m there.1 (sym (b.exact m values there.1 there.2) ∙ w.roots_true values holds_all) in
      (start_of p m at, is.1, (tells m values (start_of p m at) there.2 is.0).0);
  shown = λ s is within.
      let there = says.shown s is in
      let m = there.0 in
      let by = b.shown m there.1 (bounded m s there.2 within) in
      (values_of by.0, w.satisfied by.0 (b.exact m by.0 there.1 by.1 ∙ there.3), (tells m by.0 s by.1 there.2).1);
}
