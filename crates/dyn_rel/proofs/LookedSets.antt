-- Sets of variables as lists, and what is looked at from before each form of a program on.
use Rattle.std.proofs.Common.{◌≡◌, ℕ, zero, suc, ◌+◌, ◌-◌, ◌<◌, ◌≤◌, Bool, true, false, not, ◌&&◌, ◌||◌}
use Rattle.std.proofs.Common.{List, [], ◌∷◌, ◌++◌, length, map, take, drop, inl, inr, refl, sym, ◌∙◌, ap, subst, arith, get_or, replicate}
use Rattle.std.specs.Prelude.{slice_set}
use Rattle.std.proofs.lemmas.Bool.{cases_eq, eq-eqb, ne_eqb, or_left, or_right, false≢true}
use Rattle.std.proofs.lemmas.List.{length-set, get_or-set_same, get_or-set_other, get_or-replicate, length-replicate, take_more, take_all}
use Rattle.std.proofs.lemmas.List.FromFn.{length-map-range_with_len, get_or-map-range_with_len, map-range_with_len_more}
use Rattle.heap_core.specs.declared.value.Value.{Value}
use Rattle.rel_core.specs.Reading.{numbers_below}
use Rattle.dyn_core.specs.declared.prog.Act.{Act}
use Rattle.dyn_core.specs.declared.prog.Act.TheVariants.{Copy, Const, Read, Write, Make}
use Rattle.dyn_core.specs.declared.prog.Prog.{Prog, fold_out-Prog}
use Rattle.dyn_core.specs.declared.prog.Prog.TheVariants as q
use Rattle.dyn_steps.specs.Looked.{Vars, all_vars, with_one, without, looked_at}
use Rattle.dyn_rel.specs.Looking.{looked_in_turn, looked_by_any, looked_step, looked_from, IsList, all_united, single_step, is_single, IsBehind, AreBehind}

-- ## forms

pub looked_act : (a : Act) (vars : Vars) → looked_from (q.Act a) vars ≡ looked_at a vars
looked_act a vars = rw (fold_out-Prog (Vars → Vars) looked_step (q.Act a), q.outs-Act a) refl

pub looked_test : (x : ℕ) (b : Bool) (vars : Vars) → looked_from (q.Test x b) vars ≡ with_one x vars
looked_test x b vars = rw (fold_out-Prog (Vars → Vars) looked_step (q.Test x b), q.outs-Test x b) refl

pub looked_seq : (parts : List Prog) (vars : Vars) → looked_from (q.Seq parts) vars ≡ looked_in_turn (map looked_from parts) vars
looked_seq parts vars = rw (fold_out-Prog (Vars → Vars) looked_step (q.Seq parts), q.outs-Seq parts) refl

pub looked_choice : (parts : List Prog) (vars : Vars) → looked_from (q.Choice parts) vars ≡ looked_by_any (map looked_from parts) vars
looked_choice parts vars = rw (fold_out-Prog (Vars → Vars) looked_step (q.Choice parts), q.outs-Choice parts) refl

pub looked_star : (body : Prog) (vars : Vars) → looked_from (q.Star body) vars ≡ vars
looked_star body vars = rw (fold_out-Prog (Vars → Vars) looked_step (q.Star body), q.outs-Star body) refl

pub single_act : (a : Act) → is_single (q.Act a) ≡ true
single_act a = rw (fold_out-Prog Bool single_step (q.Act a), q.outs-Act a) refl

pub single_test : (x : ℕ) (b : Bool) → is_single (q.Test x b) ≡ true
single_test x b = rw (fold_out-Prog Bool single_step (q.Test x b), q.outs-Test x b) refl

pub single_seq : (parts : List Prog) → is_single (q.Seq parts) ≡ false
single_seq parts = rw (fold_out-Prog Bool single_step (q.Seq parts), q.outs-Seq parts) refl

pub single_choice : (parts : List Prog) → is_single (q.Choice parts) ≡ false
single_choice parts = rw (fold_out-Prog Bool single_step (q.Choice parts), q.outs-Choice parts) refl

pub single_star : (body : Prog) → is_single (q.Star body) ≡ false
single_star body = rw (fold_out-Prog Bool single_step (q.Star body), q.outs-Star body) refl

pub ruleset single_forms = (single_act, single_test, single_seq, single_choice, single_star)

-- ## lists

list_in : (n x : ℕ) (vars : Vars) (set : List Bool) → IsList n vars set → IsList n (with_one x vars) (slice_set set x true)
list_in n x vars set is = record {
  long = length-set set x true ∙ is.long;
  same = λ y low. elim (cases_eq y x) [
    | inl here ↦
        ap (λ z. get_or (slice_set set x true) z false) here ∙ get_or-set_same set x true false (let long = is.long in omega (arith, low, here, long))
        ∙ sym (ap (λ b. b || vars y) (eq-eqb y x here))
    | inr apart ↦ get_or-set_other set x y true false apart ∙ is.same y low ∙ sym (ap (λ b. b || vars y) (ne_eqb y x apart))
  ];
}

list_out : (n x : ℕ) (vars : Vars) (set : List Bool) → IsList n vars set → IsList n (without x vars) (slice_set set x false)
list_out n x vars set is = record {
  long = length-set set x false ∙ is.long;
  same = λ y low. elim (cases_eq y x) [
    | inl here ↦
        ap (λ z. get_or (slice_set set x false) z false) here ∙ get_or-set_same set x false false (let long = is.long in omega (arith, low, here, long))
        ∙ sym (ap (λ b. not b && vars y) (eq-eqb y x here))
    | inr apart ↦ get_or-set_other set x y false false apart ∙ is.same y low ∙ sym (ap (λ b. not b && vars y) (ne_eqb y x apart))
  ];
}

-- of the set that an action or a test was found from
pub list_test : (n x : ℕ) (vars : Vars) (set r : List Bool) → r ≡ slice_set set x true → IsList n vars set → IsList n (with_one x vars) r
list_test n x vars set r is before = subst (λ z. IsList n (with_one x vars) z) (sym is) (list_in n x vars set before)

pub list_const : (n x : ℕ) (vars : Vars) (set r : List Bool) → r ≡ slice_set set x false → IsList n vars set → IsList n (without x vars) r
list_const n x vars set r is before = subst (λ z. IsList n (without x vars) z) (sym is) (list_out n x vars set before)

pub list_copy : (n x y : ℕ) (vars : Vars) (set r : List Bool) → r ≡ slice_set (slice_set set x false) y true → IsList n vars set → IsList n (with_one y (without x vars)) r
list_copy n x y vars set r is before =
    subst (λ z. IsList n (with_one y (without x vars)) z) (sym is) (list_in n y (without x vars) (slice_set set x false) (list_out n x vars set before))

pub list_operator :
    (n x y z : ℕ) (vars : Vars) (set r : List Bool) → r ≡ slice_set (slice_set (slice_set set x false) z true) y true → IsList n vars set
    → IsList n (with_one y (with_one z (without x vars))) r
list_operator n x y z vars set r is before =
    subst (λ w. IsList n (with_one y (with_one z (without x vars))) w) (sym is)
    (list_in n y (with_one z (without x vars)) (slice_set (slice_set set x false) z true) (list_in n z (without x vars) (slice_set set x false) (list_out n x vars set before)))

pub list_write : (n x y : ℕ) (vars : Vars) (set r : List Bool) → r ≡ slice_set (slice_set set y true) x true → IsList n vars set → IsList n (with_one x (with_one y vars)) r
list_write n x y vars set r is before =
    subst (λ z. IsList n (with_one x (with_one y vars)) z) (sym is) (list_in n x (with_one y vars) (slice_set set y true) (list_in n y vars set before))

pub list_all_vars : (n : ℕ) (set : List Bool) → set ≡ replicate n true → IsList n all_vars set
list_all_vars n set is = subst (λ z. IsList n all_vars z) (sym is) (record {
  long = length-replicate n true;
  same = λ x low. get_or-replicate n x true false low;
})

-- the same set, said otherwise
pub list_same : (n : ℕ) (vars also : Vars) (set : List Bool) → also ≡ vars → IsList n vars set → IsList n also set
list_same n vars also set same is = subst (λ v. IsList n v set) (sym same) is

-- ## unions

pub united_more :
    (first second both ys : List Bool) (x : ℕ) (b : Bool)
    → ys ≡ both ++ b ∷ []
    → b ≡ (get_or first x false || get_or second x false)
    → both ≡ map (λ z. get_or first z false || get_or second z false) (numbers_below x)
    → ys ≡ map (λ z. get_or first z false || get_or second z false) (numbers_below (x + 1))
united_more first second both ys x b is_ys is_b before =
    is_ys ∙ ap (λ zs. zs ++ b ∷ []) before ∙ ap (λ z. map (λ z. get_or first z false || get_or second z false) (numbers_below x) ++ z ∷ []) is_b
    ∙ sym (map-range_with_len_more (λ z. get_or first z false || get_or second z false) 0 x x (omega arith))

list_united : (n : ℕ) (a b : Vars) (first second : List Bool) → IsList n a first → IsList n b second → IsList n (λ x. a x || b x) (all_united first second)
list_united n a b first second one other = record {
  long = length-map-range_with_len (λ z. get_or first z false || get_or second z false) 0 (length first) ∙ one.long;
  same = λ x low.
      get_or-map-range_with_len (λ z. get_or first z false || get_or second z false) 0 (length first) x x false (let long = one.long in omega (arith, low, long)) (omega arith)
      ∙ ap (λ z. z || get_or second x false) (one.same x low) ∙ ap (λ z. a x || z) (other.same x low);
}

or_false : (b : Bool) → (b || false) ≡ b
or_false true = refl
or_false false = refl

any_more : (fs : List (Vars → Vars)) (f : Vars → Vars) (vars : Vars) (x : ℕ) → looked_by_any (fs ++ f ∷ []) vars x ≡ (looked_by_any fs vars x || f vars x)
any_more [] f vars x = or_false (f vars x)
any_more (g ∷ fs) f vars x = ap (λ b. g vars x || b) (any_more fs f vars x) ∙ sym (or_assoc (g vars x) (looked_by_any fs vars x) (f vars x))
  where
    or_assoc : (a b d : Bool) → ((a || b) || d) ≡ (a || (b || d))
    or_assoc true b d = refl
    or_assoc false b d = refl

map_last : (f : Prog → Vars → Vars) (xs : List Prog) (x : Prog) → map f (xs ++ x ∷ []) ≡ map f xs ++ f x ∷ []
map_last f [] x = refl
map_last f (y ∷ xs) x = ap (λ zs. f y ∷ zs) (map_last f xs x)

pub any_none : (n : ℕ) (vars : Vars) (set all : List Bool) → all ≡ replicate (length set) false → IsList n vars set → IsList n (looked_by_any [] vars) all
any_none n vars set all is before = subst (λ z. IsList n (looked_by_any [] vars) z) (sym is) (record {
  long = length-replicate (length set) false ∙ before.long;
  same = λ x low. get_or-replicate (length set) x false false (let long = before.long in omega (arith, low, long));
})

pub any_step :
    (n : ℕ) (vars : Vars) (parts : List Prog) (i : ℕ) (x : Prog) (all looked ys first second : List Bool)
    → i < length parts
    → x ≡ get_or parts i x
    → ys ≡ all_united first second
    → first ≡ all
    → second ≡ looked
    → IsList n (looked_by_any (map looked_from (take i parts)) vars) all
    → IsList n (looked_from x vars) looked
    → IsList n (looked_by_any (map looked_from (take (i + 1) parts)) vars) ys
any_step n vars parts i x all looked ys first second low is ys_is first_is second_is before one =
    subst (λ z. IsList n (looked_by_any (map looked_from (take (i + 1) parts)) vars) z) (sym (ys_is ∙ ap (λ z. all_united z second) first_is ∙ ap (λ z. all_united all z) second_is))
    (record { long = both.long; same = λ y under. both.same y under ∙ sym (split y) })
  where
    both : IsList n (λ y. looked_by_any (map looked_from (take i parts)) vars y || looked_from x vars y) (all_united all looked)
    both = list_united n (looked_by_any (map looked_from (take i parts)) vars) (looked_from x vars) all looked before one

    split : (y : ℕ) → looked_by_any (map looked_from (take (i + 1) parts)) vars y ≡ (looked_by_any (map looked_from (take i parts)) vars y || looked_from x vars y)
    split y =
        ap (λ z. looked_by_any (map looked_from z) vars y) (take_more parts i x low ∙ ap (λ z. take i parts ++ z ∷ []) (sym is))
        ∙ ap (λ z. looked_by_any z vars y) (map_last looked_from (take i parts) x) ∙ any_more (map looked_from (take i parts)) (looked_from x) vars y

-- what is looked at from before a branch on is so from before all
pub any_looked : (parts : List Prog) (i : ℕ) (x : Prog) (vars : Vars) (y : ℕ) → i < length parts → x ≡ get_or parts i x → looked_from x vars y ≡ true
    → looked_by_any (map looked_from parts) vars y ≡ true
any_looked [] i x vars y low is inside = absurd (omega (arith, low))
any_looked (z ∷ parts) zero x vars y low is inside = or_left (looked_from z vars y) (looked_by_any (map looked_from parts) vars y) (ap (λ w. looked_from w vars y) (sym is) ∙ inside)
any_looked (z ∷ parts) (suc i) x vars y low is inside =
    or_right (looked_from z vars y) (looked_by_any (map looked_from parts) vars y) (any_looked parts i x vars y (omega (arith, low)) is inside)

pub any_all : (n : ℕ) (vars : Vars) (parts : List Prog) (i : ℕ) (all : List Bool) → length parts ≤ i
    → IsList n (looked_by_any (map looked_from (take i parts)) vars) all → IsList n (looked_by_any (map looked_from parts) vars) all
any_all n vars parts i all high is = subst (λ z. IsList n (looked_by_any (map looked_from z) vars) all) (take_all i parts high) is

-- ## sequences

-- the parts from a place on
pub dropped : (parts : List Prog) (i : ℕ) (x : Prog) → i < length parts → x ≡ get_or parts i x → drop i parts ≡ x ∷ drop (i + 1) parts
dropped [] i x low is = absurd (omega (arith, low))
dropped (y ∷ parts) zero x low is = ap (λ z. z ∷ parts) (sym is)
dropped (y ∷ parts) (suc i) x low is = dropped parts i x (omega (arith, low)) is ∙ ap (λ z. x ∷ z) (let next : suc i + 1 ≡ suc (i + 1) = omega arith in sym (ap (λ z. drop z (y ∷ parts)) next))

-- a pass from the end has come to the part of this number
pub at_end : (parts : List Prog) (n done : ℕ) → done < n → n ≡ length parts → (x : Prog) → x ≡ get_or parts (n - 1 - done) x
    → drop (n - (done + 1)) parts ≡ x ∷ drop (n - done) parts
at_end parts n done low long x is =
    let place : n - (done + 1) ≡ n - 1 - done = omega (arith, low) in
    let next : n - 1 - done + 1 ≡ n - done = omega (arith, low) in
    ap (λ i. drop i parts) place ∙ dropped parts (n - 1 - done) x (omega (arith, low, long)) is ∙ ap (λ i. x ∷ drop i parts) next

pub turn_none : (n : ℕ) (vars : Vars) (parts : List Prog) (set looked : List Bool) → looked ≡ set → IsList n vars set
    → IsList n (looked_in_turn (map looked_from (drop (length parts - 0) parts)) vars) looked
turn_none n vars parts set looked same is =
    subst (λ xs. IsList n (looked_in_turn (map looked_from xs) vars) looked) (sym (nothing parts)) (subst (λ z. IsList n vars z) (sym same) is)
  where
    all_dropped : (xs : List Prog) → drop (length xs) xs ≡ []
    all_dropped [] = refl
    all_dropped (x ∷ xs) = all_dropped xs

    nothing : (xs : List Prog) → drop (length xs - 0) xs ≡ []
    nothing xs = ap (λ i. drop i xs) (let same : length xs - 0 ≡ length xs = omega arith in same) ∙ all_dropped xs

pub turn_step :
    (n : ℕ) (vars : Vars) (parts : List Prog) (done : ℕ) (x : Prog) (looked r : List Bool)
    → drop (length parts - (done + 1)) parts ≡ x ∷ drop (length parts - done) parts
    → IsList n (looked_in_turn (map looked_from (drop (length parts - done) parts)) vars) looked
    → (IsList n (looked_in_turn (map looked_from (drop (length parts - done) parts)) vars) looked
    → IsList n (looked_from x (looked_in_turn (map looked_from (drop (length parts - done) parts)) vars)) r)
    → IsList n (looked_in_turn (map looked_from (drop (length parts - (done + 1)) parts)) vars) r
turn_step n vars parts done x looked r is before one = subst (λ xs. IsList n (looked_in_turn (map looked_from xs) vars) r) (sym is) (one before)

pub turn_all : (n : ℕ) (vars : Vars) (parts : List Prog) (done : ℕ) (looked : List Bool) → length parts ≤ done
    → IsList n (looked_in_turn (map looked_from (drop (length parts - done) parts)) vars) looked → IsList n (looked_in_turn (map looked_from parts) vars) looked
turn_all n vars parts done looked high is =
    subst (λ i. IsList n (looked_in_turn (map looked_from (drop i parts)) vars) looked) (let none : length parts - done ≡ 0 = omega (arith, high) in none) is

-- ## what is kept of sequences

pub behind_none : (n : ℕ) (vars : Vars) (parts : List Prog) (sets : List (List Bool)) → sets ≡ [] → AreBehind n vars (drop (length parts - 0) parts) sets
behind_none n vars parts sets is = subst (λ xs. AreBehind n vars xs sets) (sym (nothing parts)) is
  where
    all_dropped : (xs : List Prog) → drop (length xs) xs ≡ []
    all_dropped [] = refl
    all_dropped (x ∷ xs) = all_dropped xs

    nothing : (xs : List Prog) → drop (length xs - 0) xs ≡ []
    nothing xs = ap (λ i. drop i xs) (let same : length xs - 0 ≡ length xs = omega arith in same) ∙ all_dropped xs

pub behind_step :
    (n : ℕ) (vars : Vars) (parts : List Prog) (done : ℕ) (x : Prog) (sets ys : List (List Bool)) (set : List Bool)
    → drop (length parts - (done + 1)) parts ≡ x ∷ drop (length parts - done) parts
    → ys ≡ sets ++ set ∷ []
    → IsBehind x n (looked_in_turn (map looked_from (drop (length parts - done) parts)) vars) set
    → AreBehind n vars (drop (length parts - done) parts) sets
    → AreBehind n vars (drop (length parts - (done + 1)) parts) ys
behind_step n vars parts done x sets ys set is ys_is one before = subst (λ xs. AreBehind n vars xs ys) (sym is) (sets, set, ys_is, one, before)

pub behind_all : (n : ℕ) (vars : Vars) (parts : List Prog) (done : ℕ) (sets : List (List Bool)) → length parts ≤ done
    → AreBehind n vars (drop (length parts - done) parts) sets → AreBehind n vars parts sets
behind_all n vars parts done sets high is = subst (λ i. AreBehind n vars (drop i parts) sets) (let none : length parts - done ≡ 0 = omega (arith, high) in none) is

-- the variables that are looked at behind the first i parts
abbrev pub behind : Vars → List Prog → ℕ → Vars
behind vars parts i = looked_in_turn (map looked_from (drop i parts)) vars

-- the set that was kept for the next part
pub seq_taken :
    (n : ℕ) (vars : Vars) (parts : List Prog) (i : ℕ) (x : Prog) (sets now : List (List Bool)) (set : List Bool)
    → i < length parts
    → x ≡ get_or parts i x
    → AreBehind n vars (drop i parts) sets
    → ((rest : List (List Bool)) (one : List Bool) → sets ≡ rest ++ one ∷ [] → (set ≡ one) × (now ≡ rest))
    → IsBehind x n (behind vars parts (i + 1)) set × AreBehind n vars (drop (i + 1) parts) now
seq_taken n vars parts i x sets now set low is are taken =
    let kept : AreBehind n vars (x ∷ drop (i + 1) parts) sets = subst (λ xs. AreBehind n vars xs sets) (dropped parts i x low is) are in
    let both = taken kept.0 kept.1 kept.2 in
    (subst (λ z. IsBehind x n (behind vars parts (i + 1)) z) (sym both.0) kept.3, subst (λ z. AreBehind n vars (drop (i + 1) parts) z) (sym both.1) kept.4)

-- a program in which something is joined has its set
pub list_behind : (prog : Prog) (n : ℕ) (vars : Vars) (set : List Bool) → is_single prog ≡ false → IsBehind prog n vars set → IsList n vars set
list_behind prog n vars set joins (inl single) = absurd (false≢true (sym joins ∙ single))
list_behind prog n vars set joins (inr is) = is

-- ## actions, by the calls that go through them

pub act_const : (n : ℕ) (a : Act) (x : ℕ) (v : Value) (vars : Vars) (set r : List Bool) → a ≡ Const x v → r ≡ slice_set set x false → IsList n vars set → IsList n (looked_at a vars) r
act_const n a x v vars set r is r_is before = subst (λ z. IsList n (looked_at z vars) r) (sym is) (list_const n x vars set r r_is before)

pub act_make : (n : ℕ) (a : Act) (x c : ℕ) (vars : Vars) (set r : List Bool) → a ≡ Make x c → r ≡ slice_set set x false → IsList n vars set → IsList n (looked_at a vars) r
act_make n a x c vars set r is r_is before = subst (λ z. IsList n (looked_at z vars) r) (sym is) (list_const n x vars set r r_is before)

pub act_copy :
    (n : ℕ) (a : Act) (x y : ℕ) (vars : Vars) (set r : List Bool) → a ≡ Copy x y → r ≡ slice_set (slice_set set x false) y true → IsList n vars set → IsList n (looked_at a vars) r
act_copy n a x y vars set r is r_is before = subst (λ z. IsList n (looked_at z vars) r) (sym is) (list_copy n x y vars set r r_is before)

pub act_read :
    (n : ℕ) (a : Act) (x y f : ℕ) (vars : Vars) (set r : List Bool) → a ≡ Read x y f → r ≡ slice_set (slice_set set x false) y true → IsList n vars set → IsList n (looked_at a vars) r
act_read n a x y f vars set r is r_is before = subst (λ z. IsList n (looked_at z vars) r) (sym is) (list_copy n x y vars set r r_is before)

pub act_write :
    (n : ℕ) (a : Act) (x f y : ℕ) (vars : Vars) (set r : List Bool) → a ≡ Write x f y → r ≡ slice_set (slice_set set y true) x true → IsList n vars set → IsList n (looked_at a vars) r
act_write n a x f y vars set r is r_is before = subst (λ z. IsList n (looked_at z vars) r) (sym is) (list_write n x y vars set r r_is before)

-- those with two operands
pub act_operator :
    (n : ℕ) (a : Act) (x y z : ℕ) (vars : Vars) (set r : List Bool)
    → looked_at a vars ≡ with_one y (with_one z (without x vars))
    → r ≡ slice_set (slice_set (slice_set set x false) z true) y true
    → IsList n vars set
    → IsList n (looked_at a vars) r
act_operator n a x y z vars set r is r_is before = list_same n (with_one y (with_one z (without x vars))) (looked_at a vars) r is (list_operator n x y z vars set r r_is before)

-- ## programs, by the calls that go through them

pub before_is_act : (n : ℕ) (vars : Vars) (prog : Prog) (a : Act) (r : List Bool) → prog ≡ q.Act a → IsList n (looked_at a vars) r → IsList n (looked_from prog vars) r
before_is_act n vars prog a r is list = list_same n (looked_at a vars) (looked_from prog vars) r (ap (λ z. looked_from z vars) is ∙ looked_act a vars) list

pub before_is_seq :
    (n : ℕ) (vars : Vars) (prog : Prog) (parts ps : List Prog) (r : List Bool) → prog ≡ q.Seq parts → ps ≡ parts → IsList n (looked_in_turn (map looked_from ps) vars) r
    → IsList n (looked_from prog vars) r
before_is_seq n vars prog parts ps r is same list =
    list_same n (looked_in_turn (map looked_from ps) vars) (looked_from prog vars) r
    (ap (λ z. looked_from z vars) is ∙ looked_seq parts vars ∙ ap (λ xs. looked_in_turn (map looked_from xs) vars) (sym same)) list

pub before_is_choice :
    (n : ℕ) (vars : Vars) (prog : Prog) (parts ps : List Prog) (set slice r : List Bool) → prog ≡ q.Choice parts → ps ≡ parts → slice ≡ set
    → (IsList n vars slice → IsList n (looked_by_any (map looked_from ps) vars) r)
    → IsList n vars set
    → IsList n (looked_from prog vars) r
before_is_choice n vars prog parts ps set slice r is same set_is list before =
    list_same n (looked_by_any (map looked_from ps) vars) (looked_from prog vars) r
    (ap (λ z. looked_from z vars) is ∙ looked_choice parts vars ∙ ap (λ xs. looked_by_any (map looked_from xs) vars) (sym same))
    (list (subst (λ z. IsList n vars z) (sym set_is) before))
