-- The runs by cases on the form of a program.
use Rattle.std.proofs.Common.{◌≡◌, ◌↔◌, ℕ, zero, suc, ◌≤◌, Bool, true, false, List, [], ◌∷◌, refl, ap, ◌∙◌, subst, inl, inr, arith}
use Rattle.std.specs.Prelude.{if◌then◌else◌, map, flat_map, Contains, Any, replicate}
use Rattle.std.proofs.lemmas.Bool.{false≢true}
use Rattle.heap_core.specs.declared.value.Value.{Value}
use Rattle.heap_core.specs.declared.value.Value.TheVariants.{Null, Obj, Num, Flag}
use Rattle.heap_core.specs.Posed.{Posed}
use Rattle.heap_core.specs.Outcomes.{is_value}
use Rattle.dyn_core.specs.declared.prog.Prog.{Prog}
use Rattle.dyn_core.specs.declared.state.DynState.{DynState}
use Rattle.dyn_core.specs.States.{var_at}
use Rattle.dyn_core.specs.Actions.{acted}
use Rattle.dyn_core.specs.Runs.{passes, one_by_one, up_to, ends, RunUpTo}
use Rattle.dyn_core.specs.Laws.{Chain, ByCases}
use Rattle.dyn_core.proofs.Forms.{ends_act, ends_test, ends_seq, ends_choice, ends_star}
use Rattle.dyn_core.proofs.Members.{contains_none, contains_first, contains_later, contains_cases, contains_one, contains_option, contains_flat, flat_contains}

-- ## a test

-- a value is the flag exactly where it is equal to it
flag_is : (b : Bool) (v : Value) → is_value (Flag b) v ≡ true → v ≡ Flag b
flag_is true (Flag true) is = refl
flag_is true (Flag false) is = absurd (false≢true is)
flag_is false (Flag true) is = absurd (false≢true is)
flag_is false (Flag false) is = refl
flag_is b Null is = absurd (false≢true is)
flag_is b (Obj o) is = absurd (false≢true is)
flag_is b (Num z) is = absurd (false≢true is)

is_flag : (b : Bool) → is_value (Flag b) (Flag b) ≡ true
is_flag true = refl
is_flag false = refl

if_contains : (b : Bool) (s t : DynState) → Contains (if b then s ∷ [] else []) t ↔ ((b ≡ true) × (s ≡ t))
if_contains true s t = (λ c. (refl, (contains_one s t).0 c), λ is. (contains_one s t).1 is.1)
if_contains false s t = (λ c. absurd (contains_none c), λ is. absurd (false≢true is.0))

-- ## chains

chain_ends : (p : Posed) (n : ℕ) (parts : List Prog) (s t : DynState) → Contains (one_by_one (map (ends p n) parts) s) t → Chain (RunUpTo p n) parts s t
chain_ends p n [] s t c = (contains_one s t).0 c
chain_ends p n (x ∷ parts) s t c =
    let r = contains_flat (one_by_one (map (ends p n) parts)) (ends p n x s) t c in
    (r.from, r.there, chain_ends p n parts r.from t r.to)

ends_chain : (p : Posed) (n : ℕ) (parts : List Prog) (s t : DynState) → Chain (RunUpTo p n) parts s t → Contains (one_by_one (map (ends p n) parts) s) t
ends_chain p n [] s t is = (contains_one s t).1 is
ends_chain p n (x ∷ parts) s t c =
    flat_contains (one_by_one (map (ends p n) parts)) (ends p n x s) c.0 t c.1 (ends_chain p n parts c.0 t c.2)

-- ## iterations

turns_ends : (p : Posed) (n : ℕ) (body : Prog) (m : ℕ) (s t : DynState) → Contains (up_to m (ends p n body) s) t → (k : ℕ) × (k ≤ m) × Chain (RunUpTo p n) (replicate k body) s t
turns_ends p n body zero s t c = (0, omega arith, (contains_one s t).0 c)
turns_ends p n body (suc m) s t c = elim (contains_cases s (flat_map (up_to m (ends p n body)) (ends p n body s)) t c) [
  | inl is ↦ (0, omega arith, is)
  | inr later ↦
      let r = contains_flat (up_to m (ends p n body)) (ends p n body s) t later in
      let more = turns_ends p n body m r.from t r.to in
      let few = more.1 in
      (suc more.0, omega arith, (r.from, r.there, more.2))
]

ends_turns : (p : Posed) (n : ℕ) (body : Prog) (m k : ℕ) (s t : DynState) → k ≤ m → Chain (RunUpTo p n) (replicate k body) s t → Contains (up_to m (ends p n body) s) t
ends_turns p n body zero zero s t few is = (contains_one s t).1 is
ends_turns p n body zero (suc k) s t few c = absurd (omega arith)
ends_turns p n body (suc m) zero s t few is =
    let later = flat_map (up_to m (ends p n body)) (ends p n body s) in
    subst (λ x. Contains (s ∷ later) x) is (contains_first s later)
ends_turns p n body (suc m) (suc k) s t few c =
    contains_later s (flat_map (up_to m (ends p n body)) (ends p n body s)) t
    (flat_contains (up_to m (ends p n body)) (ends p n body s) c.0 t c.1 (ends_turns p n body m k c.0 t (omega arith) c.2))

-- ## all cases

pub cases_up_to : (p : Posed) (n : ℕ) → ByCases p (λ k. k ≤ n) (RunUpTo p n)
cases_up_to p n = record {
  act = λ a s t. rw (ends_act p n a s) (contains_option (acted p a s) t);
  test = λ x b s t. rw (ends_test p n x b s) (tested x b s t);
  seq = λ parts s t. rw (ends_seq p n parts s) (chain_ends p n parts s t, ends_chain p n parts s t);
  choice = λ parts s t. rw (ends_choice p n parts s) (chosen parts s t);
  star = λ body s t. rw (ends_star p n body s) (turns_ends p n body n s t, λ r. ends_turns p n body n r.0 s t r.1 r.2);
}
  where
    tested : (x : ℕ) (b : Bool) (s t : DynState) → Contains (if passes x b s then s ∷ [] else []) t ↔ ((var_at s.vars x ≡ Flag b) × (s ≡ t))
    tested x b s t =
        let both = if_contains (passes x b s) s t in
        (λ c. (flag_is b (var_at s.vars x) (both.0 c).0, (both.0 c).1), λ is. both.1 (ap (is_value (Flag b)) is.0 ∙ is_flag b, is.1))

    chosen : (parts : List Prog) (s t : DynState) → Contains (flat_map (λ x. ends p n x s) parts) t ↔ Any (λ x. RunUpTo p n x s t) parts
    chosen parts s t = (
      λ c. let r = contains_flat (λ x. ends p n x s) parts t c in (r.there.0, r.from, r.there.1, r.there.2, r.to),
      λ a. flat_contains (λ x. ends p n x s) parts a.1 t (a.0, a.2, a.3) a.4,
    )
