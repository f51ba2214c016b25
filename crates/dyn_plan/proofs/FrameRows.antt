-- The frame of an inlined method: where its variables stand, and what its beginning does.
use Rattle.std.proofs.Common.{◌≡◌, ℕ, ◌+◌, ◌<◌, ◌≤◌, Bool, true, false, List, [], ◌∷◌, ◌++◌, Option, Some, refl, sym, ◌∙◌, ap, arith}
use Rattle.std.specs.Prelude.{◌==◌, ◌-◌, ◌^◌, nat_lt, pos, if◌then◌else◌, option_and_then, map}
use Rattle.std.proofs.lemmas.Bool.{false≢true, lt-ltb, eqb-true, eq-eqb}
use Rattle.std.proofs.lemmas.Nat.{pow_pos}
use Rattle.taco_unit.specs.declared.kind.Kind.{Kind}
use Rattle.taco_unit.specs.declared.kind.Kind.TheVariants as kind
use Rattle.taco_unit.specs.declared.unit.MethodDef.{MethodDef}
use Rattle.taco_unit.specs.Well.{param_kinds}
use Rattle.heap_core.specs.declared.value.Value.{Value}
use Rattle.heap_core.specs.declared.value.Value.TheVariants.{Num, Flag}
use Rattle.heap_core.specs.declared.value.Seen.TheVariants.{Is, Out}
use Rattle.heap_core.specs.Posed.{Posed}
use Rattle.heap_core.specs.Outcomes.{zero_of}
use Rattle.heap_core.specs.Exec.{Memory, Frame}
use Rattle.dyn_core.specs.declared.prog.Act.TheVariants.{Copy, Const}
use Rattle.dyn_core.specs.declared.state.DynState.{DynState}
use Rattle.dyn_core.specs.States.{var_at, with_var}
use Rattle.dyn_core.specs.Actions.{with_given, constant}
use Rattle.dyn_core.proofs.Vars.{var_set, var_apart}
use Rattle.dyn_plan.specs.declared.plan.Plan.{Plan}
use Rattle.dyn_plan.specs.declared.plan.Plan.TheVariants as l
use Rattle.dyn_plan.specs.Plans.{go}
use Rattle.dyn_plan.specs.Places.{Ground, Spots, width, slot, in_rows, past_rows, first_kind, later_kinds, for_each_argument}
use Rattle.dyn_plan.specs.Frames.{result_of, local_kinds, frame_of, fill, prologue}
use Rattle.dyn_plan.proofs.Shown.{set, IsKept, kept_set, kept_same, kept_then, Stands, stands_on, moving, Remembers, ThisIs, IsFrame, IsReady, Each, Rising, this_on, go_append}
use Rattle.dyn_plan.proofs.Operations.{go_do}
use Rattle.dyn_plan.proofs.ExprShown.{slot_below}

-- ## rows

past_above : (g : Ground) (b : ℕ) (ks : List Kind) → b ≤ past_rows g b ks
past_above g b [] = omega arith
past_above g b (k ∷ ks) = let far = past_above g (b + width g) ks in omega arith

rows_within : (g : Ground) (b c : ℕ) (ks : List Kind) → c ≤ b → Each (λ y. (c ≤ y) × (y < past_rows g b ks)) (in_rows g b ks)
rows_within g b c [] low = tt
rows_within g b c (k ∷ ks) low =
    let below = slot_below g k in
    let far = past_above g (b + width g) ks in
    ((omega arith, omega arith), rows_within g (b + width g) c ks (omega arith))

each_map : (P Q : ℕ → Type 0) (xs : List ℕ) → ((x : ℕ) → P x → Q x) → Each P xs → Each Q xs
each_map P Q [] holds each = tt
each_map P Q (x ∷ xs) holds each = (holds x each.0, each_map P Q xs holds each.1)

rows_rise : (g : Ground) (b : ℕ) (ks : List Kind) → Rising (in_rows g b ks)
rows_rise g b [] = tt
rows_rise g b (k ∷ ks) =
    let below = slot_below g k in (
      each_map (λ y. (b + width g ≤ y) × (y < past_rows g (b + width g) ks)) (λ y. b + slot g k < y) (in_rows g (b + width g) ks) (λ y far. let above = far.0 in omega arith)
          (rows_within g (b + width g) (b + width g) ks (omega arith)),
      rows_rise g (b + width g) ks,
    )

pub frame_is : (g : Ground) (d : MethodDef) (this : Option ℕ) (args : List ℕ) (w : Bool) (b : ℕ) → moving g ≤ b → ((x : ℕ) → this ≡ Some x → x < b) → IsFrame g b (frame_of g d this args w b)
frame_is g d this args w b still below =
    let ks : List Kind = local_kinds d args in
    let e : ℕ = past_rows g b ks in
    let far = past_above g b ks in
    let slot_low = slot_below g (result_of d) in
    record {
      flags = record {
        still = still;
        done_above = omega arith;
        done_below = omega arith;
        thrown_above = omega arith;
        thrown_below = omega arith;
        apart = λ same. omega arith;
        ordered = omega arith;
      };
      this_below = below;
      result_above = omega arith;
      result_below = omega arith;
      result_apart = λ same. omega arith;
      result_apart_thrown = λ same. omega arith;
      locals = each_map (λ y. (b ≤ y) × (y < e)) (λ y. (b ≤ y) × (y < e + width g + width g + width g) × (y ≡ e + 1 → ⊥) × (y ≡ e + width g + 1 → ⊥) ×
          (y ≡ e + width g + width g + slot g (result_of d) → ⊥)) (in_rows g b ks)
          (λ y within. let above = within.0 in let low = within.1 in (omega arith, omega arith, (λ same. omega arith), (λ same. omega arith), (λ same. omega arith)))
          (rows_within g b b ks (omega arith));
      rising = rows_rise g b ks;
    }

-- ## first values

pub constant_zero : (w : ℕ) (k : Kind) → constant w (zero_of k) ≡ Is (zero_of k)
constant_zero w kind.Int = positive (2 ^ (w - 1)) (pow_pos (w - 1))
  where
    positive : (n : ℕ) → 0 < n → (if nat_lt 0 n then Is (Num (pos 0)) else Out) ≡ Is (Num (pos 0))
    positive n some = rw (lt-ltb 0 n some) refl
constant_zero w kind.Flag = refl
constant_zero w (kind.Ref c) = refl

pub go_zero : (p : Posed) (n y : ℕ) (k : Kind) (rest : List Plan) (s : DynState) → go p n (l.Do (Const y (zero_of k)) ∷ rest) s ≡ go p n rest (set y (zero_of k) s)
go_zero p n y k rest s = go_do p n (Const y (zero_of k)) rest s ∙ ap (λ z. option_and_then (go p n rest) (with_given y s z)) (constant_zero p.scope.ints k)

go_copy : (p : Posed) (n y x : ℕ) (rest : List Plan) (s : DynState) → go p n (l.Do (Copy y x) ∷ rest) s ≡ go p n rest (set y (var_at s.vars x) s)
go_copy p n y x rest s = go_do p n (Copy y x) rest s

pub go_flag : (p : Posed) (n y : ℕ) (c : Bool) (rest : List Plan) (s : DynState) → go p n (l.Do (Const y (Flag c)) ∷ rest) s ≡ go p n rest (set y (Flag c) s)
go_flag p n y c rest s = go_do p n (Const y (Flag c)) rest s

-- the state behind the locals' first values
record Filled (p : Posed) (n : ℕ) (b : ℕ) (s : DynState) (steps : List Plan) (ys : List ℕ) (vs : List Value) : Type 0 where
  pub state : DynState
  pub leads : go p n steps s ≡ Some state
  pub memory : state.objects ≡ s.objects
  pub kept : IsKept b s state
  pub values : map (var_at state.vars) ys ≡ vs

keep_each : (b : ℕ) (s t : DynState) (xs : List ℕ) → Each (λ x. x < b) xs → IsKept b s t → map (var_at t.vars) xs ≡ map (var_at s.vars) xs
keep_each b s t [] each kept = refl
keep_each b s t (x ∷ xs) each kept = rw (kept x each.0, keep_each b s t xs each.1 kept) refl

fill_zeros : (p : Posed) (n : ℕ) (g : Ground) (b : ℕ) (ks : List Kind) (s : DynState) → Filled p n b s (fill (in_rows g b ks) [] ks) (in_rows g b ks) (map zero_of ks)
fill_zeros p n g b [] s = record { state = s; leads = refl; memory = refl; kept = kept_same b s; values = refl }
fill_zeros p n g b (k ∷ ks) s =
    let y : ℕ = b + slot g k in
    let next : DynState = set y (zero_of k) s in
    let rest = fill_zeros p n g (b + width g) ks next in
    let below = slot_below g k in
    let first : IsKept b s next = kept_set b y (zero_of k) s (omega arith) in
    record {
      state = rest.state;
      leads = go_zero p n y k (fill (in_rows g (b + width g) ks) [] ks) s ∙ rest.leads;
      memory = rest.memory;
      kept = kept_then b b (b + width g) s next rest.state (omega arith) (omega arith) first rest.kept;
      values = rw (rest.kept y (omega arith) ∙ var_set s.vars y (zero_of k), rest.values) refl;
    }

fill_all : (p : Posed) (n : ℕ) (g : Ground) (c b : ℕ) (ps ls : List Kind) (xs : List ℕ) (s : DynState) → c ≤ b → Each (λ x. x < c) xs
    → Filled p n b s (fill (in_rows g b (for_each_argument ps xs ++ ls)) xs (for_each_argument ps xs ++ ls)) (in_rows g b (for_each_argument ps xs ++ ls))
    (map (var_at s.vars) xs ++ map zero_of ls)
fill_all p n g c b ps ls [] s low each = fill_zeros p n g b ls s
fill_all p n g c b ps ls (x ∷ xs) s low each =
    let k : Kind = first_kind ps in
    let ks : List Kind = for_each_argument (later_kinds ps) xs ++ ls in
    let y : ℕ = b + slot g k in
    let next : DynState = set y (var_at s.vars x) s in
    let first : IsKept b s next = kept_set b y (var_at s.vars x) s (omega arith) in
    let below = slot_below g k in
    let rest = fill_all p n g c (b + width g) (later_kinds ps) ls xs next (omega arith) each.1 in
    record {
      state = rest.state;
      leads = go_copy p n y x (fill (in_rows g (b + width g) ks) xs ks) s ∙ rest.leads;
      memory = rest.memory;
      kept = kept_then b b (b + width g) s next rest.state (omega arith) (omega arith) first rest.kept;
      values = rw (rest.kept y (omega arith) ∙ var_set s.vars y (var_at s.vars x), rest.values, keep_each c s next xs each.1 (λ z small. first z (omega arith))) refl;
    }

-- ## the beginning

-- the state in which the body begins
pub record Begun (p : Posed) (n : ℕ) (g : Ground) (b : ℕ) (f : Spots) (fr : Frame) (m : Memory) (s : DynState) (steps : List Plan) : Type 0 where
  pub state : DynState
  pub leads : go p n steps s ≡ Some state
  pub ready : IsReady g f fr m state
  pub kept : IsKept b s state

pub begins : (p : Posed) (n : ℕ) (g : Ground) (d : MethodDef) (this : Option ℕ) (args : List ℕ) (w : Bool) (b : ℕ) (m : Memory) (s : DynState) (v : Value) (vs : List Value)
    → moving g ≤ b → Stands g s → Remembers m s → ThisIs this v s → ((x : ℕ) → this ≡ Some x → x < b) → Each (λ x. x < b) args → map (var_at s.vars) args ≡ vs
    → Begun p n g b (frame_of g d this args w b) (record { this = v; locals = vs ++ map zero_of d.locals }) m s (prologue (frame_of g d this args w b) args)
begins p n g d this args w b m s v vs still stands memory this_is below each values =
    let f : Spots = frame_of g d this args w b in
    let frame = frame_is g d this args w b still below in
    let filled = fill_all p n g b b (param_kinds d) d.locals args s (omega arith) each in
    let one : DynState = set f.done (Flag false) filled.state in
    let two : DynState = set f.thrown (Flag false) one in
    let last : DynState = set f.result (zero_of f.gives) two in
    let kept_one : IsKept b filled.state one = kept_set b f.done (Flag false) filled.state frame.flags.done_above in
    let kept_two : IsKept b one two = kept_set b f.thrown (Flag false) one frame.flags.thrown_above in
    let kept_last : IsKept b two last = kept_set b f.result (zero_of f.gives) two frame.result_above in
    let kept : IsKept b s last = λ z low. kept_last z low ∙ kept_two z low ∙ kept_one z low ∙ filled.kept z low in
    record {
      state = last;
      leads =
          go_append p n (fill f.locals args f.kinds) (l.Do (Const f.done (Flag false)) ∷ l.Do (Const f.thrown (Flag false)) ∷ l.Do (Const f.result (zero_of f.gives)) ∷ []) s
          ∙ ap (option_and_then (go p n (l.Do (Const f.done (Flag false)) ∷ l.Do (Const f.thrown (Flag false)) ∷ l.Do (Const f.result (zero_of f.gives)) ∷ []))) filled.leads
          ∙ go_flag p n f.done false (l.Do (Const f.thrown (Flag false)) ∷ l.Do (Const f.result (zero_of f.gives)) ∷ []) filled.state
          ∙ go_flag p n f.thrown false (l.Do (Const f.result (zero_of f.gives)) ∷ []) one
          ∙ go_zero p n f.result f.gives [] two;
      ready = record {
        opened = record {
          memory = filled.memory ∙ memory;
          done = var_apart two.vars f.result (zero_of f.gives) f.done (λ same. frame.result_apart (sym same)) ∙ var_apart one.vars f.thrown (Flag false) f.done frame.flags.apart
              ∙ var_set filled.state.vars f.done (Flag false);
          thrown = var_apart two.vars f.result (zero_of f.gives) f.thrown (λ same. frame.result_apart_thrown (sym same)) ∙ var_set one.vars f.thrown (Flag false);
          still = stands_on g b s last still kept stands;
        };
        this = this_on b s last this v below kept this_is;
        locals = keep_locals f.done f.thrown f.result (zero_of f.gives) f.base filled.state f.locals frame.locals ∙ filled.values ∙ ap (λ us. us ++ map zero_of d.locals) values;
        result = var_set two.vars f.result (zero_of f.gives);
      };
      kept = kept;
    }
  where
    keep_locals : (x y z : ℕ) (w : Value) (base : ℕ) (q : DynState) (ys : List ℕ) → Each (λ i. (b ≤ i) × (i < base) × (i ≡ x → ⊥) × (i ≡ y → ⊥) × (i ≡ z → ⊥)) ys
        → map (var_at (set z w (set y (Flag false) (set x (Flag false) q))).vars) ys ≡ map (var_at q.vars) ys
    keep_locals x y z w base q [] each = refl
    keep_locals x y z w base q (i ∷ is) each =
        rw (
          var_apart (with_var (with_var q.vars x (Flag false)) y (Flag false)) z w i each.0.4 ∙ var_apart (with_var q.vars x (Flag false)) y (Flag false) i each.0.3
              ∙ var_apart q.vars x (Flag false) i each.0.2,
          keep_locals x y z w base q is each.1,
        ) refl

-- a variable set to the value that it has
pub set_same : (s : DynState) (x : ℕ) (v : Value) → var_at s.vars x ≡ v → (y : ℕ) → var_at (set x v s).vars y ≡ var_at s.vars y
set_same s x v is y = by (y == x) refl
  where
    by : (c : Bool) → (y == x) ≡ c → var_at (with_var s.vars x v) y ≡ var_at s.vars y
    by true same =
        let equal : y ≡ x = eqb-true y x same in
        ap (var_at (with_var s.vars x v)) equal ∙ var_set s.vars x v ∙ sym is ∙ ap (var_at s.vars) (sym equal)
    by false other = var_apart s.vars x v y (λ same. false≢true (sym other ∙ eq-eqb y x same))
