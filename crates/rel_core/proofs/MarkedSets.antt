-- Sets by marks of the objects below a number.
use Rattle.std.proofs.Common.{◌≡◌, ℕ, suc, ◌+◌, ◌-◌, ◌<◌, Bool, ◌&&◌, cond, List, ◌∷◌, Option, Some, None, refl, ap, ◌∙◌, arith}
use Rattle.std.specs.Prelude.{count_by}
use Rattle.std.specs.List.{list_any, list_all, range_with_len}
use Rattle.std.proofs.lemmas.List.Folds.{list_all-map}
use Rattle.std.proofs.lemmas.List.Sums.{sum_by-cons}
use Rattle.heap_core.specs.declared.value.Value.{Value}
use Rattle.heap_core.specs.declared.value.Value.TheVariants.{Null, Obj}
use Rattle.heap_core.specs.Closure.{Graph, widened, rounds}
use Rattle.heap_core.proofs.Closure.{any_alike, rounds_agree_below}
use Rattle.rel_core.specs.declared.relation.RelVar.{RelVar}
use Rattle.rel_core.specs.Reading.{Reading, numbers_below, references}
use Rattle.rel_core.specs.Meaning.{ValueSet, has_object, joined, only}
use Rattle.rel_core.specs.Views.{is_marked}

-- a range, its first number apart
pub range_step : (o n : ℕ) → o < n → range_with_len o (n - o) ≡ o ∷ range_with_len (o + 1) (n - (o + 1))
range_step o n within =
    let one : n - o ≡ suc (n - (o + 1)) = omega arith in
    rw one refl

-- how many numbers of a range are in a set, its first number apart
pub count_step : (test : ℕ → Bool) (o n : ℕ) → o < n → count_by test (range_with_len o (n - o)) ≡ cond (test o) 1 0 + count_by test (range_with_len (o + 1) (n - (o + 1)))
count_step test o n within = rw (range_step o n within) (sum_by-cons (λ p. cond (test p) 1 0) o (range_with_len (o + 1) (n - (o + 1))))

-- null, then the objects
pub all_references : (test : Value → Bool) (n : ℕ) → list_all test (references n) ≡ (test Null && list_all (λ o. test (Obj o)) (numbers_below n))
all_references test n = ap (λ b. test Null && b) (list_all-map test Obj (numbers_below n))

-- what a relation has at the marked objects
pub joined_alike : (m : Reading) (s : ValueSet) (marks : List Bool) (r : RelVar) (v : Value) → ((o : ℕ) → o < m.objects → is_marked marks o ≡ has_object s o)
    → list_any (λ o. is_marked marks o && m.refs r o v) (numbers_below m.objects) ≡ joined m s r v
joined_alike m s marks r v same =
    any_alike (λ o. is_marked marks o && m.refs r o v) (λ o. has_object s o && m.refs r o v) 0 m.objects (λ o below. ap (λ b. b && m.refs r o v) (same o (omega arith)))

-- one round more, from what so many rounds hold below the bound
pub rounds_more : (n : ℕ) (edge : Graph) (bound : ℕ) (begin now wider : ℕ → Bool) → ((o : ℕ) → o < bound → now o ≡ rounds n edge bound begin o)
    → ((o : ℕ) → o < bound → wider o ≡ widened edge bound now o) → (o : ℕ) → o < bound → wider o ≡ rounds (n + 1) edge bound begin o
rounds_more n edge bound begin now wider before more o below =
    let next : suc n ≡ n + 1 = omega arith in
    more o below ∙ rounds_agree_below 1 edge edge bound now (rounds n edge bound begin) (λ p q one two. refl) before o below ∙ ap (λ k. rounds k edge bound begin o) next

-- the only one of numbers, behind one that was found before them
abbrev pub only_behind : Option ℕ → List ℕ → Option ℕ
only_behind None os = only os
only_behind (Some p) os = only (p ∷ os)
