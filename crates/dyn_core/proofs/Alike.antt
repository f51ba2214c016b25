-- Meanings that give the same last states, and programs without iterations: they run alike under every bound.
use Rattle.std.proofs.Common.{◌≡◌, ℕ, true, List, [], ◌∷◌, refl, sym, ◌∙◌, ap}
use Rattle.std.specs.Prelude.{map, flat_map}
use Rattle.std.specs.List.{AllByRecursion}
use Rattle.std.proofs.lemmas.Bool.{false≢true}
use Rattle.std.proofs.lemmas.List.{append-nil}
use Rattle.heap_core.specs.Posed.{Posed}
use Rattle.dyn_core.specs.declared.prog.Prog.{Prog}
use Rattle.dyn_core.specs.declared.prog.Prog.TheVariants as q
use Rattle.dyn_core.specs.declared.state.DynState.{DynState}
use Rattle.dyn_core.specs.Runs.{LastStates, one_by_one, ends}
use Rattle.dyn_core.specs.Unrolled.{starless, turn_or_none}
use Rattle.dyn_core.specs.Laws.{StarlessRunsAlike}
use Rattle.dyn_core.proofs.Forms.{ends_act, ends_test, ends_seq, ends_choice, starless_seq, starless_choice, starless_star}
use Rattle.dyn_core.proofs.Induction.{by_form, all_passing}

pub flat_alike : {A B : Type 0} (f g : A → List B) → ((x : A) → f x ≡ g x) → (xs : List A) → flat_map f xs ≡ flat_map g xs
flat_alike f g same [] = refl
flat_alike f g same (x ∷ xs) = rw (same x, flat_alike f g same xs) refl

flat_single : {A : Type 0} (xs : List A) → flat_map (λ x. x ∷ []) xs ≡ xs
flat_single [] = refl
flat_single (x ∷ xs) = ap (λ ys. x ∷ ys) (flat_single xs)

-- two meanings give the same last states
abbrev pub Same : (Prog → LastStates) → (Prog → LastStates) → Prog → Type 0
Same f g x = (s : DynState) → f x s ≡ g x s

pub all_alike : (f g : Prog → LastStates) (xs : List Prog) → AllByRecursion (Same f g) xs → (s : DynState) → one_by_one (map f xs) s ≡ one_by_one (map g xs) s
all_alike f g [] all s = refl
all_alike f g (x ∷ xs) all s =
    let rest = flat_alike (one_by_one (map f xs)) (one_by_one (map g xs)) (all_alike f g xs all.1) (g x s) in
    ap (flat_map (one_by_one (map f xs))) (all.0 s) ∙ rest

pub some_alike : (f g : Prog → LastStates) (xs : List Prog) → AllByRecursion (Same f g) xs → (s : DynState) → flat_map (λ x. f x s) xs ≡ flat_map (λ x. g x s) xs
some_alike f g [] all s = refl
some_alike f g (x ∷ xs) all s = rw (all.0 s, some_alike f g xs all.1 s) refl

-- a sequence of two
pub ends_both : (p : Posed) (n : ℕ) (first then : Prog) (s : DynState) → ends p n (q.Seq (first ∷ then ∷ [])) s ≡ flat_map (ends p n then) (ends p n first s)
ends_both p n first then s =
    let only = flat_alike (one_by_one (ends p n then ∷ [])) (ends p n then) (λ t. flat_single (ends p n then t)) (ends p n first s) in
    ends_seq p n (first ∷ then ∷ []) s ∙ only

-- nothing, or one turn and then more
pub ends_turn : (p : Posed) (n : ℕ) (body more : Prog) (s : DynState) → ends p n (turn_or_none body more) s ≡ s ∷ flat_map (ends p n more) (ends p n body s)
ends_turn p n body more s =
    rw (ends_choice p n (q.Seq [] ∷ q.Seq (body ∷ more ∷ []) ∷ []) s, ends_seq p n [] s, ends_both p n body more s, append-nil) refl

pub starless_runs_alike : StarlessRunsAlike
starless_runs_alike p m n x s none = by_form (λ x. starless x ≡ true → Same before after x) (record {
  act = λ a none s. ends_act p m a s ∙ sym (ends_act p n a s);
  test = λ x b none s. ends_test p m x b s ∙ sym (ends_test p n x b s);
  seq = λ parts all none s.
      let each = all_passing starless (Same before after) parts all (sym (starless_seq parts) ∙ none) in
      ends_seq p m parts s ∙ all_alike before after parts each s ∙ sym (ends_seq p n parts s);
  choice = λ parts all none s.
      let each = all_passing starless (Same before after) parts all (sym (starless_choice parts) ∙ none) in
      ends_choice p m parts s ∙ some_alike before after parts each s ∙ sym (ends_choice p n parts s);
  star = λ body same none s. absurd (false≢true (sym (starless_star body) ∙ none));
}) x none s
  where
    before : Prog → LastStates
    before = ends p m

    after : Prog → LastStates
    after = ends p n
