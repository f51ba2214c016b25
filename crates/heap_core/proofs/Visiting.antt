-- A visit along the edges of a graph: what coming upon values changes, and what is done at its end.
use Rattle.std.proofs.Common.{◌≡◌, ◌⊎◌, ℕ, ◌+◌, ◌<◌, Bool, true, false, not, ◌||◌, List, [], ◌∷◌, length, refl, sym, ◌∙◌, subst, ap, inl, inr, arith}
use Rattle.std.specs.Prelude.{slice_set, sum_by, fold}
use Rattle.std.specs.List.{list_any}
use Rattle.std.proofs.lemmas.Grind.{common_steps}
use Rattle.std.proofs.lemmas.Bool.{false≢true, eqb-true, not-true, not_from_false, or_cases, or_left, or_right}
use Rattle.std.proofs.lemmas.Bool.Decides.{same_from_decides}
use Rattle.std.proofs.lemmas.List.Sums.{sum_by-set}
use Rattle.heap_core.specs.declared.value.Value.{Value}
use Rattle.heap_core.specs.declared.value.Value.TheVariants.{Obj}
use Rattle.heap_core.specs.declared.visit.Stage.{Stage}
use Rattle.heap_core.specs.declared.visit.Stage.TheVariants.{Unseen, Waiting, Done}
use Rattle.heap_core.specs.Outcomes.{is_object}
use Rattle.heap_core.specs.Closure.{Graph, Within, BeginsBelow, IsClosed, IsLeastClosed}
use Rattle.heap_core.specs.Stages.{is_unseen, is_waiting, is_done, stage_of, found, found_all}

-- an object that is not done counts one
abbrev weight : Stage → ℕ
weight Done = 0
weight _ = 1

-- how many objects are not done
abbrev pub left : List Stage → ℕ
left = sum_by weight

-- ## stages

unseen_within : (ss : List Stage) (o : ℕ) → is_unseen (stage_of ss o) ≡ true → o < length ss
unseen_within ss o is = grind (arith, common_steps)

waiting_within : (ss : List Stage) (p : ℕ) → is_waiting (stage_of ss p) ≡ true → p < length ss
waiting_within ss p is = grind (arith, common_steps)

waiting_seen : (s : Stage) → is_waiting s ≡ true → is_unseen s ≡ false
waiting_seen Waiting is = refl
waiting_seen Unseen is = absurd (false≢true is)
waiting_seen Done is = refl

done_seen : (s : Stage) → is_done s ≡ true → is_unseen s ≡ false
done_seen Done is = refl
done_seen Waiting is = refl
done_seen Unseen is = absurd (false≢true is)

seen_done : (s : Stage) → is_waiting s ≡ false → is_unseen s ≡ false → is_done s ≡ true
seen_done Done w u = refl
seen_done Waiting w u = absurd (false≢true (sym w))
seen_done Unseen w u = absurd (false≢true (sym u))

-- ## objects are come upon

-- the stages after the objects of a set were come upon
pub record Upon (set : ℕ → Bool) (before after : List Stage) : Type 0 where
  pub sized : length after ≡ length before
  pub come_upon : (o : ℕ) → set o ≡ true → is_unseen (stage_of after o) ≡ false
  pub kept : (o : ℕ) → is_unseen (stage_of before o) ≡ false → is_unseen (stage_of after o) ≡ false
  pub only : (o : ℕ) → is_unseen (stage_of after o) ≡ false → (is_unseen (stage_of before o) ≡ false) ⊎ (set o ≡ true)
  pub done_before : (o : ℕ) → is_done (stage_of after o) ≡ true → is_done (stage_of before o) ≡ true
  pub as_many_left : left after ≡ left before

pub upon_none : (ss : List Stage) → Upon (λ o. false) ss ss
upon_none ss = record {
  sized = refl;
  come_upon = λ o is. absurd (false≢true is);
  kept = λ o is. is;
  only = λ o is. inl is;
  done_before = λ o is. is;
  as_many_left = refl;
}

found_seen : (ss : List Stage) (o : ℕ) → is_unseen (stage_of (found ss (Obj o)) o) ≡ false
found_seen ss o = grind (arith, common_steps, unseen_within)

pub upon_value : (ss : List Stage) (v : Value) → Upon (λ o. is_object o v) ss (found ss v)
upon_value ss (Obj p) = record {
  sized = grind (arith, common_steps);
  come_upon = λ o is. subst (λ q. is_unseen (stage_of (found ss (Obj q)) o) ≡ false) (eqb-true o p is) (found_seen ss o);
  kept = λ o is. grind (arith, common_steps);
  only = λ o is. grind (arith, common_steps);
  done_before = λ o is. grind (arith, common_steps);
  as_many_left = grind (arith, common_steps, unseen_within, sum_by-set);
}
upon_value ss _ = upon_none ss

-- of one set and then of another
upon_both : (a b : ℕ → Bool) (ss ts us : List Stage) → Upon a ss ts → Upon b ts us → Upon (λ o. a o || b o) ss us
upon_both a b ss ts us first second = record {
  sized = second.sized ∙ first.sized;
  come_upon = λ o is. elim (or_cases (a o) (b o) is) [ inl early ↦ second.kept o (first.come_upon o early) | inr late ↦ second.come_upon o late ];
  kept = λ o is. second.kept o (first.kept o is);
  only = λ o is.
      elim (second.only o is) [
        | inr late ↦ inr (or_right (a o) (b o) late)
        | inl before ↦ elim (first.only o before) [ inl old ↦ inl old | inr early ↦ inr (or_left (a o) (b o) early) ]
      ];
  done_before = λ o is. first.done_before o (second.done_before o is);
  as_many_left = second.as_many_left ∙ first.as_many_left;
}

-- one after the other of a list
pub upon_all : {A : Type 0} (set : A → ℕ → Bool) (put : List Stage → A → List Stage)
    → ((ss : List Stage) (x : A) → Upon (set x) ss (put ss x)) → (xs : List A) (ss : List Stage) → Upon (λ o. list_any (λ x. set x o) xs) ss (fold put ss xs)
upon_all set put each [] ss = upon_none ss
upon_all set put each (x ∷ xs) ss =
    upon_both (set x) (λ o. list_any (λ y. set y o) xs) ss (put ss x) (fold put (put ss x) xs) (each ss x) (upon_all set put each xs (put ss x))

pub upon_values : (vs : List Value) (ss : List Stage) → Upon (λ o. list_any (is_object o) vs) ss (found_all ss vs)
upon_values = upon_all (λ v o. is_object o v) found upon_value

-- ## the visit

-- a visit from these roots along these edges of the objects below a number, which are to be those of a set:
-- what was come upon is in the set, the roots were come upon, and so was what an edge leads to from an object
-- that is done
pub record Visits (size : ℕ) (edge : Graph) (roots set : ℕ → Bool) (stages : List Stage) : Type 0 where
  pub sized : length stages ≡ size
  pub sound : (o : ℕ) → o < size → is_unseen (stage_of stages o) ≡ false → set o ≡ true
  pub rooted : (o : ℕ) → roots o ≡ true → is_unseen (stage_of stages o) ≡ false
  pub closed : (p o : ℕ) → is_done (stage_of stages p) ≡ true → edge p o ≡ true → is_unseen (stage_of stages o) ≡ false

-- after the roots were come upon, where no object was
pub begun : (edge : Graph) (roots set : ℕ → Bool) (ss ts : List Stage)
    → BeginsBelow (length ss) edge → Within roots set → ((o : ℕ) → o < length ss → is_unseen (stage_of ss o) ≡ true) → Upon roots ss ts → Visits (length ss) edge roots set ts
begun edge roots set ss ts begins holds fresh upon = record {
  sized = upon.sized;
  sound = λ o within is.
      elim (upon.only o is) [ inl old ↦ absurd (false≢true (sym old ∙ fresh o within)) | inr root ↦ holds o root ];
  rooted = upon.come_upon;
  closed = λ p o is to. absurd (false≢true (sym (done_seen (stage_of ss p) (upon.done_before p is)) ∙ fresh p (begins p o to)));
}

set_kept : (ss : List Stage) (p o : ℕ) → is_unseen (stage_of ss o) ≡ false → is_unseen (stage_of (slice_set ss p Done) o) ≡ false
set_kept ss p o is = grind (arith, common_steps)

set_before : (ss : List Stage) (p o : ℕ) → is_waiting (stage_of ss p) ≡ true → is_unseen (stage_of (slice_set ss p Done) o) ≡ false → is_unseen (stage_of ss o) ≡ false
set_before ss p o waits is = grind (arith, common_steps, waiting_seen)

set_done_before : (ss : List Stage) (p o : ℕ) → is_done (stage_of (slice_set ss p Done) o) ≡ true → (o ≡ p) ⊎ (is_done (stage_of ss o) ≡ true)
set_done_before ss p o is = grind (arith, common_steps)

length-done : (ss : List Stage) (p : ℕ) → length (slice_set ss p Done) ≡ length ss
length-done ss p = grind (arith, common_steps)

left-done : (ss : List Stage) (p : ℕ) → is_waiting (stage_of ss p) ≡ true → left (slice_set ss p Done) + 1 ≡ left ss
left-done ss p waits = grind (arith, common_steps, waiting_within, sum_by-set)

-- after what the edges lead to from an object that waited was come upon
pub turned : (size : ℕ) (edge : Graph) (roots set : ℕ → Bool) (ss ts : List Stage) (p : ℕ)
    → IsClosed edge set → Visits size edge roots set ss → is_waiting (stage_of ss p) ≡ true → Upon (edge p) (slice_set ss p Done) ts → Visits size edge roots set ts
turned size edge roots set ss ts p closed visits waits upon = record {
  sized = upon.sized ∙ length-done ss p ∙ visits.sized;
  sound = λ o within is.
      elim (upon.only o is) [
        | inl before ↦ visits.sound o within (set_before ss p o waits before)
        | inr to ↦ closed p o (visits.sound p (omega (arith, waiting_within ss p waits, visits.sized)) (waiting_seen (stage_of ss p) waits)) to
      ];
  rooted = λ o root. upon.kept o (set_kept ss p o (visits.rooted o root));
  closed = λ q o is to.
      elim (set_done_before ss p q (upon.done_before q is)) [
        | inl here ↦ upon.come_upon o (subst (λ r. edge r o ≡ true) here to)
        | inr old ↦ upon.kept o (set_kept ss p o (visits.closed q o old to))
      ];
}

-- then one object less is left
pub left_turned : (set : ℕ → Bool) (ss ts : List Stage) (p : ℕ) → is_waiting (stage_of ss p) ≡ true → Upon set (slice_set ss p Done) ts → left ts + 1 ≡ left ss
left_turned set ss ts p waits upon = ap (λ n. n + 1) upon.as_many_left ∙ left-done ss p waits

-- where none waits, exactly the objects of the set are done
pub ended : (size : ℕ) (edge : Graph) (roots set : ℕ → Bool) (ss : List Stage)
    → IsLeastClosed edge roots set → Visits size edge roots set ss → ((o : ℕ) → is_waiting (stage_of ss o) ≡ false) → (o : ℕ) → o < size → is_done (stage_of ss o) ≡ set o
ended size edge roots set ss least visits none o within =
    same_from_decides (is_done (stage_of ss o)) (set o)
    (λ is. visits.sound o within (done_seen (stage_of ss o) is), λ is. done o (least.least (λ q. not (is_unseen (stage_of ss q))) rooted closed o is)) (λ is. is, λ is. is)
  where
    done : (q : ℕ) → not (is_unseen (stage_of ss q)) ≡ true → is_done (stage_of ss q) ≡ true
    done q is = seen_done (stage_of ss q) (none q) (not-true (is_unseen (stage_of ss q)) is)

    rooted : (q : ℕ) → roots q ≡ true → not (is_unseen (stage_of ss q)) ≡ true
    rooted q root = not_from_false (is_unseen (stage_of ss q)) (visits.rooted q root)

    closed : (p q : ℕ) → not (is_unseen (stage_of ss p)) ≡ true → edge p q ≡ true → not (is_unseen (stage_of ss q)) ≡ true
    closed p q is to = not_from_false (is_unseen (stage_of ss q)) (visits.closed p q (done p is) to)
