-- The program of a method follows it: what opens and closes it, and both halves of the law.
use Rattle.std.proofs.Common.{◌≡◌, ℕ, zero, suc, ◌+◌, ◌<◌, ◌≤◌, Bool, true, false, List, [], ◌∷◌, ◌++◌, length, Option, Some, None, refl, sym, ◌∙◌, ap, subst, arith}
use Rattle.std.specs.Prelude.{◌-◌, ◌^◌, ◌==◌, ◌||◌, nat_lt, pos, if◌then◌else◌, option_and_then, map, slice_get, Contains}
use Rattle.std.specs.List.{range_with_len}
use Rattle.std.proofs.lemmas.Bool.{false≢true, lt-ltb, eq-eqb}
use Rattle.std.proofs.Math.Pow.{pow_mono}
use Rattle.taco_unit.specs.declared.kind.Kind.{Kind}
use Rattle.taco_unit.specs.declared.kind.Kind.TheVariants.{Int, Flag, Ref}
use Rattle.taco_unit.specs.declared.unit.MethodDef.{MethodDef}
use Rattle.heap_core.specs.declared.value.Value.{Value}
use Rattle.heap_core.specs.declared.value.Value.TheVariants as v
use Rattle.heap_core.specs.declared.value.Seen.TheVariants.{Is, Out}
use Rattle.heap_core.specs.declared.start.Start.{Start}
use Rattle.heap_core.specs.Posed.{Posed}
use Rattle.heap_core.specs.Outcomes.{zero_of}
use Rattle.heap_core.specs.Start.{method_of}
use Rattle.heap_core.specs.Exec.{Memory, memory_of, Ends, Gives, Throws, Leaves, run_body, calls}
use Rattle.heap_core.specs.Judge.{run_of}
use Rattle.heap_core.proofs.FieldLaws.{none_some, some_same}
use Rattle.dyn_core.specs.declared.prog.Act.TheVariants.{Copy, Const}
use Rattle.dyn_core.specs.declared.state.DynState.{DynState}
use Rattle.dyn_core.specs.States.{var_at}
use Rattle.dyn_core.specs.Actions.{with_given, constant}
use Rattle.dyn_core.proofs.Vars.{var_set, var_apart}
use Rattle.dyn_core.proofs.Members.{contains_option}
use Rattle.dyn_plan.specs.declared.plan.Plan.{Plan}
use Rattle.dyn_plan.specs.declared.plan.Plan.TheVariants as l
use Rattle.dyn_plan.specs.Plans.{go}
use Rattle.dyn_plan.specs.Places.{Ground, Spots, width, flag_of}
use Rattle.dyn_plan.specs.Guards.{Lowered}
use Rattle.dyn_plan.specs.Frames.{result_of, inline_body, inlined}
use Rattle.dyn_plan.specs.Whole.{Whole, ground, receiver_in, outer_frame, row_kinds, rows_up_to, greatest, zeros, ones, zeros_but, opening, run_inside, whole}
use Rattle.dyn_plan.specs.Follows.{with_loops, HasReceiver, Suits, StartsIn, EndsAs, IsIn}
use Rattle.dyn_plan.specs.Laws.{PlansDoAsCode}
use Rattle.dyn_plan.proofs.Bridge.{plans_run_as_programs}
use Rattle.dyn_plan.proofs.Shown.{set, IsKept, kept_set, kept_same, kept_then, moving, Remembers, ThisIs, HasFlags, IsOpen, Each, Shows, go_append}
use Rattle.dyn_plan.proofs.Operations.{go_do}
use Rattle.dyn_plan.proofs.ExprShown.{slot_below}
use Rattle.dyn_plan.proofs.CallShown.{InlineResult}
use Rattle.dyn_plan.proofs.FrameRows.{go_zero, go_flag}
use Rattle.dyn_plan.proofs.FrameShown.{body_shows, inlines}

-- ## what stands still

-- a row of first values
record Zeroed (p : Posed) (n x : ℕ) (ks : List Kind) (s : DynState) : Type 0 where
  pub state : DynState
  pub leads : go p n (zeros x ks) s ≡ Some state
  pub memory : state.objects ≡ s.objects
  pub kept : IsKept x s state
  pub values : (i : ℕ) (k : Kind) → slice_get ks i ≡ Some k → var_at state.vars (x + i) ≡ zero_of k

zeroed : (p : Posed) (n x : ℕ) (ks : List Kind) (s : DynState) → Zeroed p n x ks s
zeroed p n x [] s = record { state = s; leads = refl; memory = refl; kept = kept_same x s; values = λ i k at. absurd (none_some at) }
zeroed p n x (k ∷ ks) s =
    let next : DynState = set x (zero_of k) s in
    let rest = zeroed p n (x + 1) ks next in
    record {
      state = rest.state;
      leads = go_zero p n x k (zeros (x + 1) ks) s ∙ rest.leads;
      memory = rest.memory;
      kept = kept_then x x (x + 1) s next rest.state (omega arith) (omega arith) (kept_set x x (zero_of k) s (omega arith)) rest.kept;
      values = values_of rest.state next refl rest.kept rest.values;
    }
  where
    values_of : (u next : DynState) → next ≡ set x (zero_of k) s → IsKept (x + 1) next u → ((i : ℕ) (k : Kind) → slice_get ks i ≡ Some k → var_at u.vars (x + 1 + i) ≡ zero_of k)
        → (i : ℕ) (j : Kind) → slice_get (k ∷ ks) i ≡ Some j → var_at u.vars (x + i) ≡ zero_of j
    values_of u next is kept later zero j at =
        let here : x + 0 ≡ x = omega arith in
        ap (var_at u.vars) here ∙ kept x (omega arith) ∙ ap (λ (q : DynState). var_at q.vars x) is ∙ var_set s.vars x (zero_of k) ∙ ap zero_of (some_same at)
    values_of u next is kept later (suc i) j at =
        let there : x + suc i ≡ x + 1 + i = omega arith in
        ap (var_at u.vars) there ∙ later i j at

class_at : (a n c : ℕ) → c < n → (e : ℕ) × (slice_get (map (λ c. Ref c) (range_with_len a n)) c ≡ Some (Ref e))
class_at a zero c few = absurd (omega arith)
class_at a (suc n) zero few = (a, refl)
class_at a (suc n) (suc c) few = class_at (a + 1) n c (omega arith)

no_ones : (x : ℕ) (cs : List ℕ) → ones x (map (λ c. Ref c) cs) ≡ []
no_ones x [] = refl
no_ones x (c ∷ cs) = no_ones (x + 1) cs

one_fits : (w : ℕ) → 2 ≤ w → constant w (v.Num (pos 1)) ≡ Is (v.Num (pos 1))
one_fits w wide = fits (2 ^ (w - 1)) (large (w - 1) (omega arith))
  where
    large : (k : ℕ) → 1 ≤ k → 1 < 2 ^ k
    large k some = let more : 2 ^ 1 ≤ 2 ^ k = pow_mono some in omega arith

    fits : (n : ℕ) → 1 < n → (if nat_lt 1 n then Is (v.Num (pos 1)) else Out) ≡ Is (v.Num (pos 1))
    fits n more = rw (lt-ltb 1 n more) refl

-- the state behind the opening
record Opened (p : Posed) (n : ℕ) (g : Ground) (f : Spots) (m : Memory) (s : DynState) : Type 0 where
  pub state : DynState
  pub leads : go p n (opening g f) s ≡ Some state
  pub begun : IsOpen g f m state
  pub kept : IsKept g.first s state

opened : (p : Posed) (n : ℕ) (g : Ground) (f : Spots) (m : Memory) (s : DynState) → 2 ≤ p.scope.ints → HasFlags g (moving g) f → Remembers m s → Opened p n g f m s
opened p n g f m s wide flags memory =
    let classes : List Kind = map (λ c. Ref c) (range_with_len 0 (length g.unit.classes)) in
    let x : ℕ = g.first in
    let y : ℕ = g.first + width g in
    let first = zeroed p n x (row_kinds g) s in
    let one : DynState = set y (v.Num (pos 1)) first.state in
    let two : DynState = set (y + 1) (v.Flag true) one in
    let three : DynState = set f.done (v.Flag false) two in
    let last : DynState = set f.thrown (v.Flag false) three in
    let ending : List Plan = l.Do (Const f.done (v.Flag false)) ∷ l.Do (Const f.thrown (v.Flag false)) ∷ [] in
    let done_above = flags.done_above in
    let thrown_above = flags.thrown_above in
    let kept_one : IsKept y first.state one = kept_set y y (v.Num (pos 1)) first.state (omega arith) in
    let kept_two : IsKept (y + 1) one two = kept_set (y + 1) (y + 1) (v.Flag true) one (omega arith) in
    let kept_three : IsKept (moving g) two three = kept_set (moving g) f.done (v.Flag false) two flags.done_above in
    let kept_last : IsKept (moving g) three last = kept_set (moving g) f.thrown (v.Flag false) three flags.thrown_above in
    let from_two : IsKept (moving g) two last = λ z low. kept_last z low ∙ kept_three z low in
    let from_first : IsKept y first.state last = λ z low. from_two z (omega arith) ∙ kept_two z (omega arith) ∙ kept_one z low in
    record {
      state = last;
      leads =
          go_append p n (zeros x (row_kinds g)) (ones y (row_kinds g) ++ ending) s
          ∙ ap (option_and_then (go p n (ones y (row_kinds g) ++ ending))) first.leads
          ∙ ap (λ (rest : List Plan). go p n (l.Do (Const y (v.Num (pos 1))) ∷ l.Do (Const (y + 1) (v.Flag true)) ∷ (rest ++ ending)) first.state)
          (no_ones (y + 1 + 1) (range_with_len 0 (length g.unit.classes)))
          ∙ go_do p n (Const y (v.Num (pos 1))) (l.Do (Const (y + 1) (v.Flag true)) ∷ ending) first.state
          ∙ ap (λ z. option_and_then (go p n (l.Do (Const (y + 1) (v.Flag true)) ∷ ending)) (with_given y first.state z)) (one_fits p.scope.ints wide)
          ∙ go_flag p n (y + 1) true ending one
          ∙ go_flag p n f.done false (l.Do (Const f.thrown (v.Flag false)) ∷ []) two
          ∙ go_flag p n f.thrown false [] three;
      begun = record {
        memory = first.memory ∙ memory;
        done = var_apart three.vars f.thrown (v.Flag false) f.done flags.apart ∙ var_set two.vars f.done (v.Flag false);
        thrown = var_set three.vars f.thrown (v.Flag false);
        still = record {
          zero = from_first x (omega arith) ∙ at_start first.state first.values;
          one = from_two y (omega arith) ∙ kept_two y (omega arith) ∙ var_set first.state.vars y (v.Num (pos 1));
          flags = flags_are last first.state one two (λ z low. from_first z low) first.values from_two (var_set one.vars (y + 1) (v.Flag true));
          nulls = λ c few.
              let e = class_at 0 (length g.unit.classes) c few in
              let there : x + (2 + c) ≡ x + suc (suc c) = omega arith in
              from_first (x + (2 + c)) (omega arith) ∙ ap (var_at first.state.vars) there ∙ first.values (suc (suc c)) (Ref e.0) e.1;
        };
      };
      kept = λ z low. from_first z (omega arith) ∙ first.kept z low;
    }
  where
    at_start : (q : DynState) → ((i : ℕ) (k : Kind) → slice_get (row_kinds g) i ≡ Some k → var_at q.vars (g.first + i) ≡ zero_of k) → var_at q.vars g.first ≡ v.Num (pos 0)
    at_start q values = let here : g.first ≡ g.first + 0 = omega arith in ap (var_at q.vars) here ∙ values 0 Int refl

    flags_are : (last first one two : DynState) → IsKept (g.first + width g) first last
        → ((i : ℕ) (k : Kind) → slice_get (row_kinds g) i ≡ Some k → var_at first.vars (g.first + i) ≡ zero_of k) → IsKept (moving g) two last
        → var_at two.vars (g.first + width g + 1) ≡ v.Flag true → (b : Bool) → var_at last.vars (flag_of g b) ≡ v.Flag b
    flags_are last first one two kept values later set_there false = kept (g.first + 1) (omega arith) ∙ values 1 Flag refl
    flags_are last first one two kept values later set_there true = later (g.first + width g + 1) (omega arith) ∙ set_there

-- ## the close

record Closed (p : Posed) (n y z x : ℕ) (ks : List Kind) (s : DynState) : Type 0 where
  pub state : DynState
  pub leads : go p n (zeros_but y z x ks) s ≡ Some state
  pub memory : state.objects ≡ s.objects
  pub first : var_at state.vars y ≡ var_at s.vars y
  pub second : var_at state.vars z ≡ var_at s.vars z

closing : (p : Posed) (n y z x : ℕ) (ks : List Kind) (s : DynState) → Closed p n y z x ks s
closing p n y z x [] s = record { state = s; leads = refl; memory = refl; first = refl; second = refl }
closing p n y z x (k ∷ ks) s = by (x == y) (x == z) refl refl (λ s. closing p n y z (x + 1) ks s)
  where
    by : (b c : Bool) → (x == y) ≡ b → (x == z) ≡ c → ((s : DynState) → Closed p n y z (x + 1) ks s) → Closed p n y z x (k ∷ ks) s
    by true c one two later = from (λ q. ap (λ (w : Bool). go p n ((if w || x == z then [] else l.Do (Const x (zero_of k)) ∷ []) ++ zeros_but y z (x + 1) ks) q) one) (later s)
      where
        from : ((q : DynState) → go p n (zeros_but y z x (k ∷ ks)) q ≡ go p n (zeros_but y z (x + 1) ks) q) → Closed p n y z (x + 1) ks s → Closed p n y z x (k ∷ ks) s
        from same rest = record { state = rest.state; leads = same s ∙ rest.leads; memory = rest.memory; first = rest.first; second = rest.second }
    by false true one two later = from (λ q. ap (λ (w : Bool). go p n ((if w || x == z then [] else l.Do (Const x (zero_of k)) ∷ []) ++ zeros_but y z (x + 1) ks) q) one
        ∙ ap (λ (w : Bool). go p n ((if w then [] else l.Do (Const x (zero_of k)) ∷ []) ++ zeros_but y z (x + 1) ks) q) two) (later s)
      where
        from : ((q : DynState) → go p n (zeros_but y z x (k ∷ ks)) q ≡ go p n (zeros_but y z (x + 1) ks) q) → Closed p n y z (x + 1) ks s → Closed p n y z x (k ∷ ks) s
        from same rest = record { state = rest.state; leads = same s ∙ rest.leads; memory = rest.memory; first = rest.first; second = rest.second }
    by false false one two later =
        let next : DynState = set x (zero_of k) s in
        let rest = later next in
        record {
          state = rest.state;
          leads =
              ap (λ (w : Bool). go p n ((if w || x == z then [] else l.Do (Const x (zero_of k)) ∷ []) ++ zeros_but y z (x + 1) ks) s) one
              ∙ ap (λ (w : Bool). go p n ((if w then [] else l.Do (Const x (zero_of k)) ∷ []) ++ zeros_but y z (x + 1) ks) s) two
              ∙ go_zero p n x k (zeros_but y z (x + 1) ks) s ∙ rest.leads;
          memory = rest.memory;
          first = rest.first ∙ var_apart s.vars x (zero_of k) y (λ same. false≢true (sym one ∙ eq-eqb x y (sym same)));
          second = rest.second ∙ var_apart s.vars x (zero_of k) z (λ same. false≢true (sym two ∙ eq-eqb x z (sym same)));
        }

-- ## the whole

-- the state, or none, is as the execution ends
abbrev Told : Whole → Ends (Option Value) → Option DynState → Type 0
Told w (Gives a m) (Some u) = EndsAs w (Gives a m) u
Told w (Gives a m) None = ⊥
Told w (Throws m) (Some u) = EndsAs w (Throws m) u
Told w (Throws m) None = ⊥
Told w Leaves (Some u) = ⊥
Told w Leaves None = Unit {0}

outer_flags : (g : Ground) (d : MethodDef) → HasFlags g (moving g) (outer_frame g d)
outer_flags g d = record {
  still = omega arith;
  done_above = omega arith;
  done_below = omega arith;
  thrown_above = omega arith;
  thrown_below = omega arith;
  apart = λ same. omega arith;
  ordered = omega arith;
}

-- what the method is followed by
abbrev rest_of : Ground → MethodDef → Lowered → List Kind → List Plan
rest_of g d x rows = (x.steps ++ (l.Do (Copy (outer_frame g d).result x.place) ∷ [])) ++ zeros_but (outer_frame g d).result (outer_frame g d).thrown g.first rows

-- the method's result is copied, and all else begins anew
finished : (p : Posed) (n : ℕ) (g : Ground) (d : MethodDef) (t : Bool) (x : Lowered) (rows : List Kind) (w : Whole) (m : Memory) (r : DynState) (e : Ends (Option Value))
    (o : Option DynState)
    → w.result ≡ (outer_frame g d).result → w.thrown ≡ (outer_frame g d).thrown → IsOpen g (outer_frame g d) m r
    → Shows t (moving g) (outer_frame g d) r (InlineResult false (outer_frame g d).base x.place r) e o
    → Told w e (option_and_then (go p n (zeros_but (outer_frame g d).result (outer_frame g d).thrown g.first rows))
    (option_and_then (go p n (l.Do (Copy (outer_frame g d).result x.place) ∷ [])) o))
finished p n g d t x rows w m r e o result_is thrown_is begun = by e o
  where
    f : Spots
    f = outer_frame g d

    y : ℕ
    y = (outer_frame g d).result

    z : ℕ
    z = (outer_frame g d).thrown

    apart : (outer_frame g d).thrown ≡ (outer_frame g d).result → ⊥
    apart same = let below = slot_below g (result_of d) in omega arith

    last : (u : DynState) → Closed p n y z g.first rows (set y (var_at u.vars x.place) u)
    last u = closing p n y z g.first rows (set y (var_at u.vars x.place) u)

    leads : (u : DynState) → option_and_then (go p n (zeros_but (outer_frame g d).result (outer_frame g d).thrown g.first rows))
        (go p n (l.Do (Copy (outer_frame g d).result x.place) ∷ []) u) ≡ Some (last u).state
    leads u = ap (option_and_then (go p n (zeros_but y z g.first rows))) (go_do p n (Copy y x.place) [] u) ∙ (last u).leads

    flag_at : (u : DynState) (c : Bool) → var_at u.vars z ≡ v.Flag c → var_at (last u).state.vars w.thrown ≡ v.Flag c
    flag_at u c is = ap (var_at (last u).state.vars) thrown_is ∙ (last u).second ∙ var_apart u.vars y (var_at u.vars x.place) z apart ∙ is

    by : (e : Ends (Option Value)) (o : Option DynState) → Shows t (moving g) f r (InlineResult false f.base x.place r) e o
        → Told w e (option_and_then (go p n (zeros_but y z g.first rows)) (option_and_then (go p n (l.Do (Copy y x.place) ∷ [])) o))
    by (Gives (Some a) h) (Some u) has = subst (Told w (Gives (Some a) h)) (sym (leads u)) (
      (last u).memory ∙ has.memory,
      flag_at u false (has.kept z (omega arith) ∙ begun.thrown),
      ap (var_at (last u).state.vars) result_is ∙ (last u).first ∙ var_set u.vars y (var_at u.vars x.place) ∙ has.value,
    )
    by (Gives (Some a) h) None has = absurd has
    by (Gives None h) (Some u) has = subst (Told w (Gives None h)) (sym (leads u)) ((last u).memory ∙ has.1, flag_at u false (has.2 z (omega arith) ∙ begun.thrown), tt)
    by (Gives None h) None has = absurd has
    by (Throws h) (Some u) has = subst (Told w (Throws h)) (sym (leads u)) ((last u).memory ∙ has.1.memory, flag_at u true has.1.thrown)
    by (Throws h) None has = absurd has
    by Leaves (Some u) has = absurd has
    by Leaves None has = tt

-- ## the start

each_below : (a n b : ℕ) → a + n ≤ b → Each (λ x. x < b) (range_with_len a n)
each_below a zero b low = tt
each_below a (suc n) b low = (omega arith, each_below (a + 1) n b (omega arith))

arguments_are : (a : ℕ) (s t : DynState) (vs : List Value) (n : ℕ) → length vs ≡ n → ((i : ℕ) (u : Value) → slice_get vs i ≡ Some u → var_at t.vars (a + i) ≡ u)
    → map (var_at t.vars) (range_with_len a n) ≡ vs
arguments_are a s t [] zero long at = refl
arguments_are a s t [] (suc n) long at = absurd (omega arith)
arguments_are a s t (u ∷ us) zero long at = absurd (omega arith)
arguments_are a s t (u ∷ us) (suc n) long at =
    let here : a ≡ a + 0 = omega arith in
    rw (
      ap (var_at t.vars) here ∙ at 0 u refl,
      arguments_are (a + 1) s t us n (omega arith) (λ i w is. let there : a + 1 + i ≡ a + suc i = omega arith in ap (var_at t.vars) there
          ∙ at (suc i) w is),
    ) refl

receiver_is : (fixed : Bool) (x : ℕ) (this : Value) (t : DynState) → HasReceiver fixed this → (fixed ≡ false → var_at t.vars x ≡ this) → ThisIs (receiver_in fixed x) this t
receiver_is true x this t has at = has
receiver_is false x this t has at = (at refl, has)

receiver_below : (fixed : Bool) (x b y : ℕ) → x < b → receiver_in fixed x ≡ Some y → y < b
receiver_below true x b y low is = absurd (none_some is)
receiver_below false x b y low is = subst (λ z. z < b) (some_same is) low

-- what all steps lead to
told : (p : Posed) (turnless : Bool) (d : MethodDef) (s : Start) (t : DynState) → 2 ≤ p.scope.ints → method_of p ≡ Some d → (turnless ≡ true → p.scope.loops ≡ 0) → Suits d s → StartsIn d s t
    → Told (whole p.unit turnless p.scope.calls d) (run_of p s) (go p p.scope.loops (whole p.unit turnless p.scope.calls d).steps t)
told p turnless d s t wide is none suits starts =
    let g : Ground = ground p.unit turnless d in
    let f : Spots = outer_frame g d in
    let n : ℕ = p.scope.loops in
    let x : Lowered = inline_body g (inlined g p.scope.calls) (Some d) f.this f.locals false f f.base in
    let rows : List Kind = rows_up_to (greatest (run_inside g f x) + 1) g g.first (greatest (run_inside g f x)) in
    let w : Whole = whole p.unit turnless p.scope.calls d in
    let flags = outer_flags g d in
    let open_ = opened p n g f (memory_of s.objects) t wide flags starts.objects in
    let r : DynState = open_.state in
    let copy : List Plan = l.Do (Copy f.result x.place) ∷ [] in
    let close : List Plan = zeros_but f.result f.thrown g.first rows in
    let shown = body_shows p g (calls p p.scope.calls) (inlined g p.scope.calls) d f.this f.locals false f f.base (moving g) r (memory_of s.objects) s.this s.args none
    (inlines p g refl none p.scope.calls) flags (omega arith) open_.begun
    (receiver_is d.fixed (length d.params) s.this r suits.receiver (λ fixed. open_.kept (length d.params) (omega arith) ∙ starts.receiver fixed))
    (λ y at. receiver_below d.fixed (length d.params) f.base y (omega arith) at)
    (each_below 0 (length d.params) f.base (omega arith))
    (arguments_are 0 t r s.args (length d.params) suits.arguments (λ i u at. arg_at r open_.kept i u at)) in
    subst (λ m. Told w (run_body p (calls p p.scope.calls) m s.this s.args (memory_of s.objects)) (go p n w.steps t)) (sym is)
    (subst (Told w (run_body p (calls p p.scope.calls) (Some d) s.this s.args (memory_of s.objects)))
    (sym (go_append p n (opening g f ++ (x.steps ++ copy)) close t
    ∙ ap (option_and_then (go p n close)) (go_append p n (opening g f) (x.steps ++ copy) t ∙ ap (option_and_then (go p n (x.steps ++ copy))) open_.leads ∙ go_append p n x.steps copy r)))
    (finished p n g d x.throws x rows w (memory_of s.objects) r (run_body p (calls p p.scope.calls) (Some d) s.this s.args (memory_of s.objects)) (go p n x.steps r) refl refl
    open_.begun shown))
  where
    within : (vs : List Value) (i : ℕ) (u : Value) → slice_get vs i ≡ Some u → i < length vs
    within [] i u at = absurd (none_some at)
    within (x ∷ vs) zero u at = omega arith
    within (x ∷ vs) (suc i) u at = let low = within vs i u at in omega arith

    arg_at : (r : DynState) → IsKept (length d.params + 1) t r → (i : ℕ) (u : Value) → slice_get s.args i ≡ Some u → var_at r.vars (0 + i) ≡ u
    arg_at r kept i u at =
        let low = within s.args i u at in
        let long = suits.arguments in
        let here : 0 + i ≡ i = omega arith in
        ap (var_at r.vars) here ∙ kept i (omega arith) ∙ starts.arguments i u at

-- ## both halves

told_only : (w : Whole) (e : Ends (Option Value)) (o : Option DynState) (u : DynState) → o ≡ Some u → Told w e o → EndsAs w e u
told_only w (Gives a m) (Some q) u is shown = subst (EndsAs w (Gives a m)) (some_same is) shown
told_only w (Gives a m) None u is shown = absurd (none_some is)
told_only w (Throws m) (Some q) u is shown = subst (EndsAs w (Throws m)) (some_same is) shown
told_only w (Throws m) None u is shown = absurd (none_some is)
told_only w Leaves (Some q) u is shown = absurd shown
told_only w Leaves None u is shown = absurd (none_some is)

told_some : (w : Whole) (e : Ends (Option Value)) (o : Option DynState) → IsIn e → Told w e o → (u : DynState) × (o ≡ Some u)
told_some w (Gives a m) (Some u) inside shown = (u, refl)
told_some w (Gives a m) None inside shown = absurd shown
told_some w (Throws m) (Some u) inside shown = (u, refl)
told_some w (Throws m) None inside shown = absurd shown
told_some w Leaves o inside shown = absurd inside

pub plans_do_as_code : PlansDoAsCode
plans_do_as_code p turnless d n wide is none =
    let q : Posed = with_loops p n in
    let w : Whole = whole p.unit turnless p.scope.calls d in
    record {
      only = λ s t u suits starts run.
          let leads : go q n w.steps t ≡ Some u = (contains_option (go q n w.steps t) u).0 (subst (λ xs. Contains xs u) (plans_run_as_programs q n w.steps t) run) in
          told_only w (run_of q s) (go q n w.steps t) u leads (told q turnless d s t wide is none suits starts);
      some = λ s t suits starts inside.
          let found = told_some w (run_of q s) (go q n w.steps t) inside (told q turnless d s t wide is none suits starts) in
          (found.0, subst (λ xs. Contains xs found.0) (sym (plans_run_as_programs q n w.steps t)) ((contains_option (go q n w.steps t) found.0).1 found.1));
    }
