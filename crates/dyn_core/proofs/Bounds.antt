-- What the bound on turns changes: more turns allow every run that fewer allow.
use Rattle.std.proofs.Common.{ℕ, ◌+◌, ◌≤◌, List, [], ◌∷◌, arith}
use Rattle.std.specs.Prelude.{Any, replicate}
use Rattle.std.specs.List.{AllByRecursion}
use Rattle.heap_core.specs.Posed.{Posed}
use Rattle.dyn_core.specs.declared.prog.Prog.{Prog}
use Rattle.dyn_core.specs.declared.prog.Prog.TheVariants as q
use Rattle.dyn_core.specs.declared.state.DynState.{DynState}
use Rattle.dyn_core.specs.Runs.{RunUpTo, Run}
use Rattle.dyn_core.specs.Laws.{Chain, ByCases, RunsByCases}
use Rattle.dyn_core.proofs.Induction.{by_form, all_each, all_copies, at_any}
use Rattle.dyn_core.proofs.Cases.{cases_up_to}

-- every run under a bound is one under each greater bound
abbrev pub Grows : Posed → Prog → Type 0
Grows p x = (m n : ℕ) (s t : DynState) → m ≤ n → RunUpTo p m x s t → RunUpTo p n x s t

chain_more : (p : Posed) (m n : ℕ) → m ≤ n → (parts : List Prog) → AllByRecursion (Grows p) parts → (s t : DynState) → Chain (RunUpTo p m) parts s t → Chain (RunUpTo p n) parts s t
chain_more p m n few [] all s t is = is
chain_more p m n few (x ∷ parts) all s t c = (c.0, all.0 m n s c.0 few c.1, chain_more p m n few parts all.1 c.0 t c.2)

branch_more : (p : Posed) (m n : ℕ) → m ≤ n → (parts : List Prog) → AllByRecursion (Grows p) parts → (s t : DynState) → Any (λ x. RunUpTo p m x s t) parts → Any (λ x. RunUpTo p n x s t) parts
branch_more p m n few parts all s t a =
    (a.0, a.1, a.2, a.3, at_any (Grows p) parts all a m n s t few a.4)

pub more_turns : (p : Posed) (x : Prog) → Grows p x
more_turns p = by_form (Grows p) (record {
  act = λ a m n s t few r. ((cases_up_to p n).act a s t).1 (((cases_up_to p m).act a s t).0 r);
  test = λ x b m n s t few r. ((cases_up_to p n).test x b s t).1 (((cases_up_to p m).test x b s t).0 r);
  seq = λ parts all m n s t few r. ((cases_up_to p n).seq parts s t).1 (chain_more p m n few parts all s t (((cases_up_to p m).seq parts s t).0 r));
  choice = λ parts all m n s t few r. ((cases_up_to p n).choice parts s t).1 (branch_more p m n few parts all s t (((cases_up_to p m).choice parts s t).0 r));
  star = λ body grows m n s t few r.
      let c = ((cases_up_to p m).star body s t).0 r in
      ((cases_up_to p n).star body s t).1 (c.0, at_most c.0 m n c.1 few, chain_more p m n few (replicate c.0 body) (all_copies (Grows p) body grows c.0) s t c.2);
})
  where
    at_most : (k m n : ℕ) → k ≤ m → m ≤ n → k ≤ n
    at_most k m n few more = omega arith

-- ## runs without a bound

-- a chain of runs under one bound is a chain of runs, and a chain of runs is one under some bound
chain_runs : (p : Posed) (n : ℕ) (parts : List Prog) (s t : DynState) → Chain (RunUpTo p n) parts s t → Chain (Run p) parts s t
chain_runs p n [] s t is = is
chain_runs p n (x ∷ parts) s t c = (c.0, (n, c.1), chain_runs p n parts c.0 t c.2)

chain_within : (p : Posed) (m n : ℕ) → m ≤ n → (parts : List Prog) (s t : DynState) → Chain (RunUpTo p m) parts s t → Chain (RunUpTo p n) parts s t
chain_within p m n few parts = chain_more p m n few parts (all_each (Grows p) (more_turns p) parts)

runs_chain : (p : Posed) (parts : List Prog) (s t : DynState) → Chain (Run p) parts s t → (n : ℕ) × Chain (RunUpTo p n) parts s t
runs_chain p [] s t is = (0, is)
runs_chain p (x ∷ parts) s t c =
    let first = c.1.0 in
    let rest = runs_chain p parts c.0 t c.2 in
    let more = rest.0 in
    (first + more, (c.0, more_turns p x first (first + more) s c.0 (omega arith) c.1.1, chain_within p more (first + more) (omega arith) parts c.0 t rest.1))

pub cases_of_run : (p : Posed) → ByCases p (λ k. Unit {0}) (Run p)
cases_of_run p = record {
  act = λ a s t. (λ r. ((cases_up_to p r.0).act a s t).0 r.1, λ is. (0, ((cases_up_to p 0).act a s t).1 is));
  test = λ x b s t. (λ r. ((cases_up_to p r.0).test x b s t).0 r.1, λ is. (0, ((cases_up_to p 0).test x b s t).1 is));
  seq = λ parts s t. (λ r. chain_runs p r.0 parts s t (((cases_up_to p r.0).seq parts s t).0 r.1), λ c. ordered parts s t c);
  choice = λ parts s t. (λ r. branch parts s t r.0 r.1, λ a. (a.4.0, ((cases_up_to p a.4.0).choice parts s t).1 (a.0, a.1, a.2, a.3, a.4.1)));
  star = λ body s t. (λ r. turns body s t r.0 r.1, λ c. turned body s t c.0 c.2);
}
  where
    ordered : (parts : List Prog) (s t : DynState) → Chain (Run p) parts s t → Run p (q.Seq parts) s t
    ordered parts s t c =
        let d = runs_chain p parts s t c in
        (d.0, ((cases_up_to p d.0).seq parts s t).1 d.1)

    branch : (parts : List Prog) (s t : DynState) (n : ℕ) → RunUpTo p n (q.Choice parts) s t → Any (λ x. Run p x s t) parts
    branch parts s t n run =
        let a = ((cases_up_to p n).choice parts s t).0 run in
        (a.0, a.1, a.2, a.3, (n, a.4))

    turns : (body : Prog) (s t : DynState) (n : ℕ) → RunUpTo p n (q.Star body) s t → (k : ℕ) × Unit {0} × Chain (Run p) (replicate k body) s t
    turns body s t n run =
        let c = ((cases_up_to p n).star body s t).0 run in
        (c.0, tt, chain_runs p n (replicate c.0 body) s t c.2)

    turned : (body : Prog) (s t : DynState) (k : ℕ) → Chain (Run p) (replicate k body) s t → Run p (q.Star body) s t
    turned body s t k c =
        let d = runs_chain p (replicate k body) s t c in
        let n = d.0 in
        (n + k, ((cases_up_to p (n + k)).star body s t).1 (k, omega arith, chain_within p n (n + k) (omega arith) (replicate k body) s t d.1))

pub runs_by_cases : RunsByCases
runs_by_cases p = (cases_up_to p, cases_of_run p)
