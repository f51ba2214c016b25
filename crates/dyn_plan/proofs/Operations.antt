-- What single actions, operators and tests for null show.
use Rattle.std.proofs.Common.{◌≡◌, ℕ, ◌+◌, ◌<◌, ◌≤◌, Bool, true, false, not, List, [], ◌∷◌, Option, Some, refl, sym, ◌∙◌, ap, subst, arith}
use Rattle.std.specs.Prelude.{nat_lt, nat_le, if◌then◌else◌, ℤ, pos, negsuc, neg_ℤ, int_lt, int_le, length, option_and_then}
use Rattle.std.proofs.lemmas.Bool.Decides.{nat_tests}
use Rattle.taco_unit.specs.declared.kind.Kind.{Kind}
use Rattle.taco_unit.specs.declared.kind.Kind.TheVariants as kind
use Rattle.taco_unit.specs.declared.expr.Op.{Op}
use Rattle.taco_unit.specs.declared.expr.Op.TheVariants as op
use Rattle.heap_core.specs.declared.value.Value.{Value}
use Rattle.heap_core.specs.declared.value.Value.TheVariants.{Null, Obj, Num, Flag}
use Rattle.heap_core.specs.declared.value.Seen.{Seen}
use Rattle.heap_core.specs.declared.value.Seen.TheVariants.{Is, Bad, Out}
use Rattle.heap_core.specs.Posed.{Posed}
use Rattle.heap_core.specs.Outcomes.{in_bits, number, flag, with_value, on_numbers, same, opposite, negative, equivalent, operated}
use Rattle.heap_core.specs.Exec.{Memory, Leaves, ends_as}
use Rattle.dyn_core.specs.declared.prog.Act.{Act}
use Rattle.dyn_core.specs.declared.prog.Act.TheVariants.{Const, Sum, Diff, Product, Same, Below}
use Rattle.dyn_core.specs.declared.state.DynState.{DynState}
use Rattle.dyn_core.specs.States.{var_at, with_var}
use Rattle.dyn_core.specs.Actions.{with_given, acted}
use Rattle.dyn_core.proofs.Vars.{var_set, var_apart}
use Rattle.dyn_plan.specs.declared.plan.Plan.{Plan}
use Rattle.dyn_plan.specs.declared.plan.Plan.TheVariants as l
use Rattle.dyn_plan.specs.Plans.{go}
use Rattle.dyn_plan.specs.Places.{Ground, Spots, width, flag_of}
use Rattle.dyn_plan.specs.Guards.{Lowered, null_at}
use Rattle.dyn_plan.specs.Expressions.{operation}
use Rattle.dyn_plan.proofs.PlanForms.{next_do, next_fail}
use Rattle.dyn_plan.proofs.Shown.{set, kept_set, kept_same, kept_then, Stands, stands_on, moving, Remembers, HasGiven, Shows, go_one}

-- ## one action

-- not undefined
abbrev pub IsDefined : Seen → Type 0
IsDefined Bad = ⊥
IsDefined (Is v) = Unit {0}
IsDefined Out = Unit {0}

if_defined : (b : Bool) (v : Value) → IsDefined (if b then Is v else Out)
if_defined true v = tt
if_defined false v = tt

pub number_defined : (w : ℕ) (z : ℤ) → IsDefined (number w z)
number_defined w z = if_defined (in_bits w z) (Num z)

pub numbers_defined : (k : ℤ → ℤ → Seen) → ((x y : ℤ) → IsDefined (k x y)) → (x y : Value) → IsDefined (on_numbers k x y)
numbers_defined k each (Num x) (Num y) = each x y
numbers_defined k each (Num x) Null = tt
numbers_defined k each (Num x) (Obj o) = tt
numbers_defined k each (Num x) (Flag b) = tt
numbers_defined k each Null y = tt
numbers_defined k each (Obj o) y = tt
numbers_defined k each (Flag b) y = tt

pub same_defined : (x y : Value) → IsDefined (same x y)
same_defined Null Null = tt
same_defined Null (Obj o) = tt
same_defined Null (Num z) = tt
same_defined Null (Flag b) = tt
same_defined (Obj o) Null = tt
same_defined (Obj o) (Obj q) = tt
same_defined (Obj o) (Num z) = tt
same_defined (Obj o) (Flag b) = tt
same_defined (Num x) Null = tt
same_defined (Num x) (Obj o) = tt
same_defined (Num x) (Num z) = tt
same_defined (Num x) (Flag b) = tt
same_defined (Flag a) Null = tt
same_defined (Flag a) (Obj o) = tt
same_defined (Flag a) (Num z) = tt
same_defined (Flag a) (Flag b) = tt

pub opposite_defined : (v : Value) → IsDefined (opposite v)
opposite_defined Null = tt
opposite_defined (Obj o) = tt
opposite_defined (Num z) = tt
opposite_defined (Flag b) = tt

pub negative_defined : (w : ℕ) (v : Value) → IsDefined (negative w v)
negative_defined w Null = tt
negative_defined w (Obj o) = tt
negative_defined w (Num z) = number_defined w (neg_ℤ z)
negative_defined w (Flag b) = tt

pub go_do : (p : Posed) (n : ℕ) (a : Act) (rest : List Plan) (s : DynState) → go p n (l.Do a ∷ rest) s ≡ option_and_then (go p n rest) (acted p a s)
go_do p n a rest s = ap (option_and_then (go p n rest)) (next_do p n a s)

given_shows : (t : Bool) (start b x : ℕ) (f : Spots) (m : Memory) (s : DynState) (seen : Seen) → IsDefined seen → b ≤ x → Remembers m s
    → Shows t start f s (HasGiven b x s) (ends_as m seen) (with_given x s seen)
given_shows t start b x f m s (Is v) defined above memory = record { memory = memory; value = var_set s.vars x v; kept = kept_set b x v s above }
given_shows t start b x f m s Bad defined above memory = absurd defined
given_shows t start b x f m s Out defined above memory = tt

-- an action that sets a variable
pub did : (p : Posed) (n : ℕ) (t : Bool) (start b x : ℕ) (f : Spots) (m : Memory) (s : DynState) (a : Act) (seen : Seen)
    → acted p a s ≡ with_given x s seen → IsDefined seen → b ≤ x → Remembers m s → Shows t start f s (HasGiven b x s) (ends_as m seen) (go p n (l.Do a ∷ []) s)
did p n t start b x f m s a seen is defined above memory =
    subst (Shows t start f s (HasGiven b x s) (ends_as m seen)) (sym (go_one p n (l.Do a) s ∙ next_do p n a s ∙ is)) (given_shows t start b x f m s seen defined above memory)

-- two actions, of which the second goes on from what the first gives at y
pub did_both : (p : Posed) (n : ℕ) (t : Bool) (start b y x : ℕ) (f : Spots) (m : Memory) (s : DynState) (a c : Act) (seen : Seen) (k : Value → Seen)
    → acted p a s ≡ with_given y s seen → ((v : Value) → acted p c (set y v s) ≡ with_given x (set y v s) (k v))
    → IsDefined seen → ((v : Value) → IsDefined (k v)) → b ≤ y → b ≤ x → Remembers m s
    → Shows t start f s (HasGiven b x s) (ends_as m (with_value seen k)) (go p n (l.Do a ∷ l.Do c ∷ []) s)
did_both p n t start b y x f m s a c seen k one two defined all first second memory =
    subst (Shows t start f s (HasGiven b x s) (ends_as m (with_value seen k))) (sym (go_do p n a (l.Do c ∷ []) s ∙ ap (option_and_then (go p n (l.Do c ∷ []))) one)) (on seen defined)
  where
    further : (v : Value) (o : Option DynState) (u : Seen) → o ≡ with_given x (set y v s) u → IsDefined u → Shows t start f s (HasGiven b x s) (ends_as m u) o
    further v o u is fine = subst (Shows t start f s (HasGiven b x s) (ends_as m u)) (sym is) (at u fine)
      where
        at : (u : Seen) → IsDefined u → Shows t start f s (HasGiven b x s) (ends_as m u) (with_given x (set y v s) u)
        at (Is w) fine = record {
          memory = memory;
          value = var_set (with_var s.vars y v) x w;
          kept = kept_then b b b s (set y v s) (set x w (set y v s)) (omega arith) (omega arith) (kept_set b y v s first) (kept_set b x w (set y v s) second);
        }
        at Bad fine = absurd fine
        at Out fine = tt

    on : (seen : Seen) → IsDefined seen → Shows t start f s (HasGiven b x s) (ends_as m (with_value seen k)) (option_and_then (go p n (l.Do c ∷ [])) (with_given y s seen))
    on (Is v) fine = further v (go p n (l.Do c ∷ []) (set y v s)) (k v) (go_one p n (l.Do c) (set y v s) ∙ next_do p n c (set y v s) ∙ two v) (all v)
    on Bad fine = absurd fine
    on Out fine = tt

-- ## operators

pub same_false : (v : Value) → same v (Flag false) ≡ opposite v
same_false Null = refl
same_false (Obj o) = refl
same_false (Num z) = refl
same_false (Flag true) = refl
same_false (Flag false) = refl

not_less : (a b : ℕ) → not (nat_lt a b) ≡ nat_le b a
not_less a b = grind (arith, nat_tests)

not_below : (x y : ℤ) → not (int_lt x y) ≡ int_le y x
not_below (pos a) (pos b) = not_less a b
not_below (pos a) (negsuc b) = refl
not_below (negsuc a) (pos b) = refl
not_below (negsuc a) (negsuc b) = not_less b a

on_other : (k h : ℤ → ℤ → Seen) (j : Value → Seen) → ((x y : ℤ) → with_value (k y x) j ≡ h x y) → (x y : Value) → with_value (on_numbers k y x) j ≡ on_numbers h x y
on_other k h j each (Num x) (Num y) = each x y
on_other k h j each (Num x) Null = refl
on_other k h j each (Num x) (Obj o) = refl
on_other k h j each (Num x) (Flag b) = refl
on_other k h j each Null Null = refl
on_other k h j each Null (Obj o) = refl
on_other k h j each Null (Num z) = refl
on_other k h j each Null (Flag b) = refl
on_other k h j each (Obj a) Null = refl
on_other k h j each (Obj a) (Obj o) = refl
on_other k h j each (Obj a) (Num z) = refl
on_other k h j each (Obj a) (Flag b) = refl
on_other k h j each (Flag a) Null = refl
on_other k h j each (Flag a) (Obj o) = refl
on_other k h j each (Flag a) (Num z) = refl
on_other k h j each (Flag a) (Flag b) = refl

with_is : (s : Seen) → with_value s (λ v. Is v) ≡ s
with_is (Is v) = refl
with_is Bad = refl
with_is Out = refl

gt_is : (w : ℕ) (x y : Value) → operated op.Lt w y x ≡ operated op.Gt w x y
gt_is w x y = sym (with_is (operated op.Lt w y x)) ∙ on_other (λ x y. flag (int_lt x y)) (λ x y. flag (int_lt y x)) (λ v. Is v) (λ x y. refl) x y

le_is : (w : ℕ) (x y : Value) → with_value (operated op.Lt w y x) opposite ≡ operated op.Le w x y
le_is w x y = on_other (λ x y. flag (int_lt x y)) (λ x y. flag (int_le x y)) opposite (λ x y. ap flag (not_below y x)) x y

ge_is : (w : ℕ) (x y : Value) → with_value (operated op.Lt w x y) opposite ≡ operated op.Ge w x y
ge_is w x y = le_is w y x ∙ turned x y
  where
    turned : (x y : Value) → operated op.Le w y x ≡ operated op.Ge w x y
    turned x y = sym (with_is (operated op.Le w y x)) ∙ on_other (λ x y. flag (int_le x y)) (λ x y. flag (int_le y x)) (λ v. Is v) (λ x y. refl) x y

iff_is : (x y : Value) → with_value (same x (Flag true)) (λ v. same v y) ≡ equivalent x y
iff_is Null y = refl
iff_is (Obj o) y = refl
iff_is (Num z) y = refl
iff_is (Flag a) Null = refl
iff_is (Flag a) (Obj o) = refl
iff_is (Flag a) (Num z) = refl
iff_is (Flag true) (Flag b) = refl
iff_is (Flag false) (Flag b) = refl

-- a flag that stands still, after a variable was set
flag_after : (g : Ground) (b r : ℕ) (v : Value) (s : DynState) (c : Bool) → moving g ≤ b → b ≤ r → Stands g s → var_at (set r v s).vars (flag_of g c) ≡ Flag c
flag_after g b r v s c low above still = (stands_on g b s (set r v s) low (kept_set b r v s above) still).flags c

-- the opposite of what an action gives at r
opposed : (p : Posed) (n : ℕ) (g : Ground) (t : Bool) (start b r : ℕ) (f : Spots) (m : Memory) (s : DynState) (a : Act) (seen : Seen)
    → acted p a s ≡ with_given r s seen → IsDefined seen → moving g ≤ b → b ≤ r → Stands g s → Remembers m s
    → Shows t start f s (HasGiven b r s) (ends_as m (with_value seen opposite)) (go p n (l.Do a ∷ l.Do (Same r r (flag_of g false)) ∷ []) s)
opposed p n g t start b r f m s a seen is defined low above still memory =
    did_both p n t start b r r f m s a (Same r r (flag_of g false)) seen opposite is then_not defined opposite_defined above above memory
  where
    then_not : (v : Value) → acted p (Same r r (flag_of g false)) (set r v s) ≡ with_given r (set r v s) (opposite v)
    then_not v = rw (var_set s.vars r v, flag_after g b r v s false low above still) (ap (with_given r (set r v s)) (same_false v))

pub operation_shows : (p : Posed) (n : ℕ) (g : Ground) (t : Bool) (start b r e x y : ℕ) (f : Spots) (m : Memory) (s : DynState) (o : Op)
    → moving g ≤ b → b ≤ r → b ≤ e → (y ≡ e → ⊥) → Stands g s → Remembers m s
    → Shows t start f s (HasGiven b r s) (ends_as m (operated o p.scope.ints (var_at s.vars x) (var_at s.vars y))) (go p n (operation g o r e x y) s)
operation_shows p n g t start b r e x y f m s op.Add low above spare apart still memory = did p n t start b r f m s (Sum r x y)
    (operated op.Add p.scope.ints (var_at s.vars x) (var_at s.vars y)) refl (numbers_defined _ (λ z w. number_defined p.scope.ints _) (var_at s.vars x) (var_at s.vars y)) above memory
operation_shows p n g t start b r e x y f m s op.Sub low above spare apart still memory = did p n t start b r f m s (Diff r x y)
    (operated op.Sub p.scope.ints (var_at s.vars x) (var_at s.vars y)) refl (numbers_defined _ (λ z w. number_defined p.scope.ints _) (var_at s.vars x) (var_at s.vars y)) above memory
operation_shows p n g t start b r e x y f m s op.Mul low above spare apart still memory = did p n t start b r f m s (Product r x y)
    (operated op.Mul p.scope.ints (var_at s.vars x) (var_at s.vars y)) refl (numbers_defined _ (λ z w. number_defined p.scope.ints _) (var_at s.vars x) (var_at s.vars y)) above memory
operation_shows p n g t start b r e x y f m s op.Eq low above spare apart still memory = did p n t start b r f m s (Same r x y) (same (var_at s.vars x) (var_at s.vars y)) refl
    (same_defined (var_at s.vars x) (var_at s.vars y)) above memory
operation_shows p n g t start b r e x y f m s op.Ne low above spare apart still memory = opposed p n g t start b r f m s (Same r x y) (same (var_at s.vars x) (var_at s.vars y))
    refl (same_defined (var_at s.vars x) (var_at s.vars y)) low above still memory
operation_shows p n g t start b r e x y f m s op.Lt low above spare apart still memory = did p n t start b r f m s (Below r x y)
    (operated op.Lt p.scope.ints (var_at s.vars x) (var_at s.vars y)) refl (numbers_defined _ (λ z w. tt) (var_at s.vars x) (var_at s.vars y)) above memory
operation_shows p n g t start b r e x y f m s op.Le low above spare apart still memory =
    subst (λ u. Shows t start f s (HasGiven b r s) (ends_as m u) (go p n (operation g op.Le r e x y) s)) (le_is p.scope.ints (var_at s.vars x) (var_at s.vars y))
    (opposed p n g t start b r f m s (Below r y x) (operated op.Lt p.scope.ints (var_at s.vars y) (var_at s.vars x)) refl
    (numbers_defined _ (λ z w. tt) (var_at s.vars y) (var_at s.vars x)) low above still memory)
operation_shows p n g t start b r e x y f m s op.Gt low above spare apart still memory =
    subst (λ u. Shows t start f s (HasGiven b r s) (ends_as m u) (go p n (operation g op.Gt r e x y) s)) (gt_is p.scope.ints (var_at s.vars x) (var_at s.vars y))
    (did p n t start b r f m s (Below r y x) (operated op.Lt p.scope.ints (var_at s.vars y) (var_at s.vars x)) refl
    (numbers_defined _ (λ z w. tt) (var_at s.vars y) (var_at s.vars x)) above memory)
operation_shows p n g t start b r e x y f m s op.Ge low above spare apart still memory =
    subst (λ u. Shows t start f s (HasGiven b r s) (ends_as m u) (go p n (operation g op.Ge r e x y) s)) (ge_is p.scope.ints (var_at s.vars x) (var_at s.vars y))
    (opposed p n g t start b r f m s (Below r x y) (operated op.Lt p.scope.ints (var_at s.vars x) (var_at s.vars y)) refl
    (numbers_defined _ (λ z w. tt) (var_at s.vars x) (var_at s.vars y)) low above still memory)
operation_shows p n g t start b r e x y f m s op.Iff low above spare apart still memory =
    subst (λ u. Shows t start f s (HasGiven b r s) (ends_as m u) (go p n (operation g op.Iff r e x y) s)) (iff_is (var_at s.vars x) (var_at s.vars y))
    (did_both p n t start b e r f m s (Same e x (flag_of g true)) (Same r e y) (same (var_at s.vars x) (Flag true)) (λ v. same v (var_at s.vars y)) first second
    (same_defined (var_at s.vars x) (Flag true)) (λ v. same_defined v (var_at s.vars y)) spare above memory)
  where
    first : acted p (Same e x (flag_of g true)) s ≡ with_given e s (same (var_at s.vars x) (Flag true))
    first = rw (still.flags true) refl

    second : (v : Value) → acted p (Same r e y) (set e v s) ≡ with_given r (set e v s) (same v (var_at s.vars y))
    second v = rw (var_set s.vars e v, var_apart s.vars e v y apart) refl
operation_shows p n g t start b r e x y f m s op.And low above spare apart still memory = subst (Shows t start f s (HasGiven b r s) Leaves) (sym (go_one p n l.Fail s ∙ next_fail p n s)) tt
operation_shows p n g t start b r e x y f m s op.Or low above spare apart still memory = subst (Shows t start f s (HasGiven b r s) Leaves) (sym (go_one p n l.Fail s ∙ next_fail p n s)) tt
operation_shows p n g t start b r e x y f m s op.Implies low above spare apart still memory = subst (Shows t start f s (HasGiven b r s) Leaves)
    (sym (go_one p n l.Fail s ∙ next_fail p n s)) tt

-- ## null

-- null stands in the first row, or is set
pub record NullThere (p : Posed) (n : ℕ) (g : Ground) (b : ℕ) (m : Memory) (s : DynState) (x : Lowered) : Type 0 where
  pub state : DynState
  pub leads : go p n x.steps s ≡ Some state
  pub has : HasGiven b x.place s Null m state
  pub near : x.place < b + width g
  pub calm : x.throws ≡ false

pub null_there : (p : Posed) (n : ℕ) (g : Ground) (b : ℕ) (m : Memory) (s : DynState) (k : Kind) → moving g ≤ b → Stands g s → Remembers m s → NullThere p n g b m s (null_at g b k)
null_there p n g b m s k low still memory = by k
  where
    made : NullThere p n g b m s (record { place = b; steps = l.Do (Const b Null) ∷ []; throws = false })
    made = record {
      state = set b Null s;
      leads = go_one p n (l.Do (Const b Null)) s ∙ next_do p n (Const b Null) s;
      has = record { memory = memory; value = var_set s.vars b Null; kept = kept_set b b Null s (omega arith) };
      near = omega arith;
      calm = refl;
    }

    found : (c : ℕ) → c < length g.unit.classes → NullThere p n g b m s (record { place = g.first + (2 + c); steps = []; throws = false })
    found c few = record {
      state = s;
      leads = refl;
      has = record { memory = memory; value = still.nulls c few; kept = kept_same b s };
      near = omega arith;
      calm = refl;
    }

    on_class : (c : ℕ) (t : Bool) → nat_lt c (length g.unit.classes) ≡ t
        → NullThere p n g b m s (if t then record { place = g.first + (2 + c); steps = []; throws = false } else record { place = b; steps = l.Do (Const b Null) ∷ []; throws = false })
    on_class c true is = found c (grind (arith, nat_tests, is))
    on_class c false is = made

    by : (k : Kind) → NullThere p n g b m s (null_at g b k)
    by kind.Int = made
    by kind.Flag = made
    by (kind.Ref c) = on_class c (nat_lt c (length g.unit.classes)) refl
