-- What holds of each program: by its form, where it holds of the parts.
use Rattle.std.proofs.Common.{◌≡◌, ℕ, zero, suc, Bool, true, List, [], ◌∷◌, subst}
use Rattle.std.specs.Prelude.{map, replicate, Any}
use Rattle.std.specs.List.{list_all, AllByRecursion}
use Rattle.std.proofs.lemmas.Bool.{and_parts}
use Rattle.std.proofs.lemmas.List.Elements.{All-from_recursion}
use Rattle.dyn_core.specs.declared.prog.Act.{Act}
use Rattle.dyn_core.specs.declared.prog.Prog.{Prog, ind-Prog, roll-Prog, map-Prog}
use Rattle.dyn_core.specs.declared.prog.Prog.TheOpen.{Prog-F}
use Rattle.dyn_core.specs.declared.prog.Prog.TheVariants as q

-- what is to be shown of each form, by what holds of its parts
pub record Forms (P : Prog → Type 0) : Type 0 where
  pub act : (a : Act) → P (q.Act a)
  pub test : (x : ℕ) (b : Bool) → P (q.Test x b)
  pub seq : (parts : List Prog) → AllByRecursion P parts → P (q.Seq parts)
  pub choice : (parts : List Prog) → AllByRecursion P parts → P (q.Choice parts)
  pub star : (body : Prog) → P body → P (q.Star body)

-- the parts, of each of which it holds
all_of : (P : Prog → Type 0) (xs : List ((x : Prog) × P x)) → AllByRecursion P (map (λ x. x.0) xs)
all_of P [] = tt
all_of P (x ∷ xs) = (x.1, all_of P xs)

layer : (P : Prog → Type 0) → Forms P → (y : Prog-F ((x : Prog) × P x)) → P (roll-Prog (map-Prog ((x : Prog) × P x) Prog (λ x. x.0) y))
layer P f (Prog-F.Act a) = rw (q.rolls-Act a) (f.act a)
layer P f (Prog-F.Test x b) = rw (q.rolls-Test x b) (f.test x b)
layer P f (Prog-F.Seq xs) = rw (q.rolls-Seq (map (λ x. x.0) xs)) (f.seq (map (λ x. x.0) xs) (all_of P xs))
layer P f (Prog-F.Choice xs) = rw (q.rolls-Choice (map (λ x. x.0) xs)) (f.choice (map (λ x. x.0) xs) (all_of P xs))
layer P f (Prog-F.Star x) = rw (q.rolls-Star x.0) (f.star x.0 x.1)

-- it holds of each program
pub by_form : (P : Prog → Type 0) → Forms P → (x : Prog) → P x
by_form P f = ind-Prog P (λ x y is. subst (λ z. P (roll-Prog z)) is (layer P f y))

-- ## lists of programs

-- what holds of each program holds of all of a list
pub all_each : (P : Prog → Type 0) → ((x : Prog) → P x) → (xs : List Prog) → AllByRecursion P xs
all_each P each [] = tt
all_each P each (x ∷ xs) = (each x, all_each P each xs)

-- and of all copies of one
pub all_copies : (P : Prog → Type 0) (x : Prog) → P x → (k : ℕ) → AllByRecursion P (replicate k x)
all_copies P x is zero = tt
all_copies P x is (suc k) = (is, all_copies P x is k)

-- what holds of each of them that passes a test, where all pass
pub all_passing : (test : Prog → Bool) (P : Prog → Type 0) (xs : List Prog) → AllByRecursion (λ x. test x ≡ true → P x) xs → list_all test xs ≡ true → AllByRecursion P xs
all_passing test P [] all pass = tt
all_passing test P (x ∷ xs) all pass =
    let both = and_parts (test x) (list_all test xs) pass in
    (all.0 both.0, all_passing test P xs all.1 both.1)

-- what holds of all holds of the one of which something else does
pub at_any : (P : Prog → Type 0) {Q : Prog → Type 0} (xs : List Prog) → AllByRecursion P xs → (a : Any Q xs) → P a.1
at_any P xs all a = subst P a.3 (All-from_recursion P xs all a.0 a.1 a.2)
