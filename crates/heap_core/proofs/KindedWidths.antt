-- Evaluations that settle: values, numbers, one operand after another, quantifiers.
use Rattle.std.proofs.Common.{◌≡◌, ◌⊎◌, ℕ, zero, suc, ◌+◌, ◌-◌, ◌^◌, ◌<◌, ◌≤◌, Bool, true, false, not, ◌&&◌, ◌||◌, cond, List, [], ◌∷◌, refl, sym, ◌∙◌, ap, inl, inr, arith}
use Rattle.std.specs.Prelude.{ℤ, pos, negsuc, nat_lt}
use Rattle.std.specs.List.{list_any, list_all, range_with_len}
use Rattle.std.proofs.Math.Nat.{two-pow-succ, pow-le-pow_right}
use Rattle.std.proofs.lemmas.Bool.{false≢true, cases_Bool, cases_eq, and_from, lt-ltb}
use Rattle.taco_unit.specs.declared.kind.Kind.TheVariants.{Int, Flag}
use Rattle.taco_unit.specs.Kinds.{Sort, Of}
use Rattle.heap_core.specs.declared.value.Value.{Value}
use Rattle.heap_core.specs.declared.value.Value.TheVariants as v
use Rattle.heap_core.specs.declared.value.Seen.{Seen}
use Rattle.heap_core.specs.declared.value.Seen.TheVariants.{Is, Bad, Out}
use Rattle.heap_core.specs.Outcomes.{in_bits, number, flag, with_value, is_out, is_bad, is_true}
use Rattle.heap_core.specs.Heap.{Heap}
use Rattle.heap_core.specs.Eval.{over}
use Rattle.heap_core.specs.Kinded.{is_of_sort, Settles}
use Rattle.heap_core.proofs.Closure.{any_below, any_alike}

-- ## values and numbers

-- one outcome at every width
pub always : {all : Heap} {t : Sort} (s : Seen) → is_of_sort all t s ≡ true → Settles all t (λ bits. s)
always s is = record { outcome = s; of_sort = is; enough = 0; with_enough = λ bits few. refl; with_any = λ bits. inr refl }

-- the same evaluation, written in another way
pub settles_as : {all : Heap} {t : Sort} {f g : ℕ → Seen} → ((bits : ℕ) → f bits ≡ g bits) → Settles all t g → Settles all t f
settles_as {all} {t} {f} {g} same s = record {
  outcome = s.outcome;
  of_sort = s.of_sort;
  enough = s.enough;
  with_enough = λ bits few. same bits ∙ s.with_enough bits few;
  with_any = λ bits. elim (s.with_any bits) [ inl out ↦ inl (same bits ∙ out) | inr is ↦ inr (same bits ∙ is) ];
}

below_power : (n : ℕ) → n < 2 ^ n
below_power zero = omega arith
below_power (suc n) =
    let rest : n < 2 ^ n = below_power n in
    omega (arith, rest, two-pow-succ n)

-- so many bits are enough for the number
abbrev bits_of : ℤ → ℕ
bits_of (pos n) = n + 1
bits_of (negsuc n) = n + 1

fits_in : (n bits : ℕ) → n + 1 ≤ bits → nat_lt n (2 ^ (bits - 1)) ≡ true
fits_in n bits few =
    let wider : 2 ^ n ≤ 2 ^ (bits - 1) = pow-le-pow_right (omega arith) (omega (arith, few)) in
    lt-ltb n (2 ^ (bits - 1)) (omega (arith, below_power n, wider))

in_enough : (z : ℤ) (bits : ℕ) → bits_of z ≤ bits → in_bits bits z ≡ true
in_enough (pos n) bits few = fits_in n bits few
in_enough (negsuc n) bits few = fits_in n bits few

-- a number is Out where its bits are too few
pub number_settles : (all : Heap) (z : ℤ) → Settles all (Of Int) (λ bits. number bits z)
number_settles all z = record {
  outcome = Is (v.Num z);
  of_sort = refl;
  enough = bits_of z;
  with_enough = λ bits few. rw (in_enough z bits few) refl;
  with_any = λ bits. elim (cases_Bool (in_bits bits z)) [ inl fine ↦ inr (rw fine refl) | inr past ↦ inl (rw past refl) ];
}

-- ## one operand after another

pub then_settles :
    {all : Heap} (t : Sort) {u : Sort} {f : ℕ → Seen} (next : ℕ → Value → Seen) → Settles all t f
    → ((x : Value) → is_of_sort all t (Is x) ≡ true → Settles all u (λ bits. next bits x)) → Settles all u (λ bits. with_value (f bits) (next bits))
then_settles {all} t {u} {f} next s h = go s.outcome s.of_sort s.with_enough s.with_any
  where
    go : (o : Seen) → is_of_sort all t o ≡ true → ((bits : ℕ) → s.enough ≤ bits → f bits ≡ o) → ((bits : ℕ) → (f bits ≡ Out) ⊎ (f bits ≡ o)) → Settles all u (λ bits. with_value (f bits) (next bits))
    go Out is wide any = absurd (false≢true is)
    go Bad is wide any = record {
      outcome = Bad;
      of_sort = refl;
      enough = s.enough;
      with_enough = λ bits few. rw (wide bits few) refl;
      with_any = λ bits. elim (any bits) [ inl out ↦ inl (rw out refl) | inr bad ↦ inr (rw bad refl) ];
    }
    go (Is x) is wide any =
        let m = h x is in
        record {
          outcome = m.outcome;
          of_sort = m.of_sort;
          enough = s.enough + m.enough;
          with_enough = λ bits few. rw (wide bits (omega (arith, few))) (m.with_enough bits (omega (arith, few)));
          with_any = λ bits. elim (any bits) [
            | inl out ↦ inl (rw out refl)
            | inr is ↦ elim (m.with_any bits) [ inl out ↦ inl (rw (is, out) refl) | inr gives ↦ inr (rw (is, gives) refl) ]
          ];
        }

-- two operands
pub both_settle :
    {all : Heap} (t : Sort) {u : Sort} {f g : ℕ → Seen} (next : ℕ → Value → Value → Seen) → Settles all t f → Settles all t g
    → ((x y : Value) → is_of_sort all t (Is x) ≡ true → is_of_sort all t (Is y) ≡ true → Settles all u (λ bits. next bits x y))
    → Settles all u (λ bits. with_value (f bits) (λ x. with_value (g bits) (next bits x)))
both_settle {all} t {u} {f} {g} next s r h =
    then_settles t (λ bits x. with_value (g bits) (next bits x)) s (λ x is. then_settles t (λ bits. next bits x) r (λ y also. h x y is also))

-- ## quantifiers

-- a number that is at least each of those below n
abbrev most : (ℕ → ℕ) → ℕ → ℕ
most f zero = 0
most f (suc n) = most f n + f n

most_at : (f : ℕ → ℕ) (n o : ℕ) → o < n → f o ≤ most f n
most_at f zero o low = absurd (omega (arith, low))
most_at f (suc n) o low =
    elim (cases_eq o n) [
      | inl is ↦ omega (arith, ap f is)
      | inr apart ↦
          let rest : f o ≤ most f n = most_at f n o (omega (arith, low, apart)) in
          omega (arith, rest)
    ]

-- tests that are alike at the numbers of a range
all_alike : (p q : ℕ → Bool) (a n : ℕ) → ((o : ℕ) → o < a + n → p o ≡ q o) → list_all p (range_with_len a n) ≡ list_all q (range_with_len a n)
all_alike p q a zero same = refl
all_alike p q a (suc n) same =
    rw (same a (omega arith), all_alike p q (a + 1) n (λ o low. same o (omega (arith, low)))) refl

nothing : (xs : List ℕ) → list_any (λ (o : ℕ). false) xs ≡ false
nothing [] = refl
nothing (x ∷ xs) = nothing xs

none_below : (p : ℕ → Bool) (n o : ℕ) → list_any p (range_with_len 0 n) ≡ false → o < n → p o ≡ false
none_below p n o none low =
    elim (cases_Bool (p o)) [
      | inl is ↦ absurd (false≢true (sym none ∙ any_below p n o low is))
      | inr is_not ↦ is_not
    ]

-- what is looked at in the domain alone
where_true : (b x y : Bool) → (b ≡ true → x ≡ y) → (b && x) ≡ (b && y)
where_true true x y same = same refl
where_true false x y same = refl

unless_true : (b x y : Bool) → (b ≡ true → x ≡ y) → (not b || x) ≡ (not b || y)
unless_true true x y same = same refl
unless_true false x y same = refl

-- tests that are alike in the domain
any_there :
    (domain p q : ℕ → Bool) (n : ℕ) → ((o : ℕ) → o < n → domain o ≡ true → p o ≡ q o)
    → list_any (λ o. domain o && p o) (range_with_len 0 n) ≡ list_any (λ o. domain o && q o) (range_with_len 0 n)
any_there domain p q n same =
    any_alike (λ o. domain o && p o) (λ o. domain o && q o) 0 n (λ o low. where_true (domain o) (p o) (q o) (same o (omega (arith, low))))

all_there :
    (domain p q : ℕ → Bool) (n : ℕ) → ((o : ℕ) → o < n → domain o ≡ true → p o ≡ q o)
    → list_all (λ o. not (domain o) || p o) (range_with_len 0 n) ≡ list_all (λ o. not (domain o) || q o) (range_with_len 0 n)
all_there domain p q n same =
    all_alike (λ o. not (domain o) || p o) (λ o. not (domain o) || q o) 0 n (λ o low. unless_true (domain o) (p o) (q o) (same o (omega (arith, low))))

-- instances that are alike in the domain
over_alike : (every : Bool) (domain : ℕ → Bool) (f g : ℕ → Seen) (n : ℕ) → ((o : ℕ) → o < n → domain o ≡ true → f o ≡ g o) → over every domain f n ≡ over every domain g n
over_alike every domain f g n same =
    let outs = any_there domain (λ o. is_out (f o)) (λ o. is_out (g o)) n (λ o low is. ap is_out (same o low is)) in
    let bads = any_there domain (λ o. is_bad (f o)) (λ o. is_bad (g o)) n (λ o low is. ap is_bad (same o low is)) in
    let alls = all_there domain (λ o. is_true (f o)) (λ o. is_true (g o)) n (λ o low is. ap is_true (same o low is)) in
    let anys = any_there domain (λ o. is_true (f o)) (λ o. is_true (g o)) n (λ o low is. ap is_true (same o low is)) in
    rw (outs, bads, alls, anys) refl

-- Bad takes the place of an instance outside the domain, which is not looked at
guarded : {all : Heap} {t : Sort} {f : ℕ → Seen} (b : Bool) → (b ≡ true → Settles all t f) → Settles all t (λ bits. cond b (f bits) Bad)
guarded true h = h refl
guarded false h = always Bad refl

in_domain : (b : Bool) (s : Seen) → b ≡ true → cond b s Bad ≡ s
in_domain true s is = refl
in_domain false s is = absurd (false≢true is)

not_out : (all : Heap) (t : Sort) (s : Seen) → is_of_sort all t s ≡ true → is_out s ≡ false
not_out all t (Is x) is = refl
not_out all t Bad is = refl
not_out all t Out is = absurd (false≢true is)

-- what is over instances none of which is Out
over_fits : (all : Heap) (every : Bool) (domain : ℕ → Bool) (f : ℕ → Seen) (n : ℕ) → ((o : ℕ) → is_out (f o) ≡ false) → is_of_sort all (Of Flag) (over every domain f n) ≡ true
over_fits all every domain f n none =
    let bads = list_any (λ o. domain o && is_bad (f o)) (range_with_len 0 n) in
    let alls = list_all (λ o. not (domain o) || is_true (f o)) (range_with_len 0 n) in
    let anys = list_any (λ o. domain o && is_true (f o)) (range_with_len 0 n) in
    chosen (list_any (λ o. domain o && is_out (f o)) (range_with_len 0 n)) bads every alls anys outs
  where
    nowhere : (b : Bool) → (b && false) ≡ false
    nowhere true = refl
    nowhere false = refl

    outs : list_any (λ o. domain o && is_out (f o)) (range_with_len 0 n) ≡ false
    outs =
        any_alike (λ o. domain o && is_out (f o)) (λ o. false) 0 n (λ o low. ap (λ b. domain o && b) (none o) ∙ nowhere (domain o)) ∙ nothing (range_with_len 0 n)

    chosen : (outs bads every d e : Bool) → outs ≡ false → is_of_sort all (Of Flag) (cond outs Out (cond bads Bad (cond every (flag d) (flag e)))) ≡ true
    chosen true bads every d e is = absurd (false≢true (sym is))
    chosen false true every d e is = refl
    chosen false false true d e is = refl
    chosen false false false d e is = refl

pub over_settles :
    {all : Heap} (every : Bool) (domain : ℕ → Bool) (instance : ℕ → ℕ → Seen) (n : ℕ)
    → ((o : ℕ) → domain o ≡ true → Settles all (Of Flag) (λ bits. instance bits o))
    → Settles all (Of Flag) (λ bits. over every domain (instance bits) n)
over_settles {all} every domain instance n h = record {
  outcome = over every domain (λ o. (each o).outcome) n;
  of_sort = over_fits all every domain (λ o. (each o).outcome) n (λ o. not_out all (Of Flag) (each o).outcome (each o).of_sort);
  enough = most (λ o. (each o).enough) n;
  with_enough = λ bits few. over_alike every domain (instance bits) (λ o. (each o).outcome) n (wide bits few);
  with_any = λ bits. elim (cases_Bool (list_any (λ o. domain o && is_out (instance bits o)) (range_with_len 0 n))) [
    | inl some ↦ inl (rw some refl)
    | inr none ↦ inr (over_alike every domain (instance bits) (λ o. (each o).outcome) n (narrow bits none))
  ];
}
  where
    each : (o : ℕ) → Settles all (Of Flag) (λ bits. cond (domain o) (instance bits o) Bad)
    each o = guarded (domain o) (h o)

    wide : (bits : ℕ) → most (λ o. (each o).enough) n ≤ bits → (o : ℕ) → o < n → domain o ≡ true → instance bits o ≡ (each o).outcome
    wide bits few o low is =
        let enough : (each o).enough ≤ bits = omega (arith, few, most_at (λ o. (each o).enough) n o low) in
        sym (in_domain (domain o) (instance bits o) is) ∙ (each o).with_enough bits enough

    narrow : (bits : ℕ) → list_any (λ o. domain o && is_out (instance bits o)) (range_with_len 0 n) ≡ false → (o : ℕ) → o < n → domain o ≡ true → instance bits o ≡ (each o).outcome
    narrow bits none o low is =
        elim ((each o).with_any bits) [
          | inl out ↦
              let gives : instance bits o ≡ Out = sym (in_domain (domain o) (instance bits o) is) ∙ out in
              let found = and_from (domain o) (is_out (instance bits o)) is (ap is_out gives) in
              absurd (false≢true (sym (none_below (λ o. domain o && is_out (instance bits o)) n o none low) ∙ found))
          | inr gives ↦ sym (in_domain (domain o) (instance bits o) is) ∙ gives
        ]
