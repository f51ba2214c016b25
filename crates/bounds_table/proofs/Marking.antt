-- The mark of a tuple, and what the marks of a sound state say.
use Rattle.std.proofs.Common.{◌≡◌, ℕ, ◌<◌, ◌⊎◌, inl, inr, ⊎_elim, arith, ◌∙◌, refl, sym, ap}
use Rattle.std.specs.Prelude.{IsTrue, false, ◌==◌, if◌then◌else◌}
use Rattle.tuple_sets.specs.Words.{has}
use Rattle.tuple_sets.proofs.Sets.{has_cases}
use Rattle.bounds_table.specs.declared.marks.Marks.{Marks}
use Rattle.bounds_table.specs.declared.marks.Mark.TheVariants.{Cleared, Kept, Open}
use Rattle.bounds_table.specs.declared.marks.Mark.{Mark}
use Rattle.bounds_table.specs.Marks.{mark_of, ExactMarksAgree}

pub cleared_is : (m : Marks) (t : ℕ) → ¬ (has m.table t ≡ 1) → Cleared ≡ mark_of m t
cleared_is m t none = ⊎_elim (λ e. ap (λ n. if n == 0 then Cleared else (if has m.kept t == 1 then Kept else Open)) (sym e)) (λ e. absurd (none e)) (has_cases m.table t)

pub not_false : IsTrue false → ⊥
not_false h = cc

-- a mark is one of three
mark_cases : (x : Mark) → (x ≡ Cleared) ⊎ ((x ≡ Kept) ⊎ (x ≡ Open))
mark_cases Cleared = inl refl
mark_cases Kept = inr (inl refl)
mark_cases Open = inr (inr refl)

pub exact_marks_agree : ExactMarksAgree
exact_marks_agree p m n of_m of_n x y t within =
    let in_n : t < n.tuples = let a = of_m.tuples in let b = of_n.tuples in omega arith in
    ⊎_elim
    (λ cleared. ⊎_elim
    (λ e. cleared ∙ sym e)
    (λ r. ⊎_elim (λ e. absurd (x.sound.cleared t within cleared (y.sound.kept t in_n e))) (λ e. absurd (y.decided t in_n e)) r)
    (mark_cases (mark_of n t)))
    (λ r. ⊎_elim
    (λ kept. ⊎_elim
    (λ e. absurd (y.sound.cleared t in_n e (x.sound.kept t within kept)))
    (λ q. ⊎_elim (λ e. kept ∙ sym e) (λ e. absurd (y.decided t in_n e)) q)
    (mark_cases (mark_of n t)))
    (λ open'. absurd (x.decided t within open'))
    r)
    (mark_cases (mark_of m t))
