-- A program whose iterations are written out runs as the program does under their bound, and keeps its kinds.
use Rattle.std.proofs.Common.{◌≡◌, ℕ, zero, suc, Bool, true, List, [], ◌∷◌, refl, sym, ◌∙◌, ap, subst}
use Rattle.std.specs.Prelude.{map, flat_map, Contains}
use Rattle.std.specs.List.{list_all, AllByRecursion}
use Rattle.std.proofs.lemmas.Bool.{and_from}
use Rattle.std.proofs.lemmas.List.Folds.{flat_map-map}
use Rattle.std.proofs.lemmas.Simd.{map-map}
use Rattle.taco_unit.specs.declared.kind.Kind.{Kind}
use Rattle.heap_core.specs.Posed.{Posed}
use Rattle.dyn_core.specs.declared.prog.Prog.{Prog}
use Rattle.dyn_core.specs.declared.prog.Prog.TheVariants as q
use Rattle.dyn_core.specs.declared.state.DynState.{DynState}
use Rattle.dyn_core.specs.Runs.{LastStates, one_by_one, up_to, ends}
use Rattle.dyn_core.specs.Kinds.{is_kinded}
use Rattle.dyn_core.specs.Unrolled.{starless, repeated, unrolled, IsUnrolled}
use Rattle.dyn_core.proofs.Forms as f
use Rattle.dyn_core.proofs.Induction.{by_form, all_passing}
use Rattle.dyn_core.proofs.Alike.{flat_alike, Same, all_alike, some_alike, ends_turn}

-- ## runs

-- turns written out are turns, whatever bound the body is run under
repeated_ends : (p : Posed) (m : ℕ) (e : LastStates) (body : Prog) → ((s : DynState) → ends p m body s ≡ e s) → (k : ℕ) (s : DynState) → ends p m (repeated k body) s ≡ up_to k e s
repeated_ends p m e body same zero s = f.ends_seq p m [] s
repeated_ends p m e body same (suc k) s =
    let first = ap (λ ts. s ∷ flat_map (ends p m (repeated k body)) ts) (same s) in
    let more = flat_alike (ends p m (repeated k body)) (up_to k e) (repeated_ends p m e body same k) (e s) in
    ends_turn p m body (repeated k body) s ∙ first ∙ ap (λ ts. s ∷ ts) more

pub unrolled_ends : (p : Posed) (m n : ℕ) (x : Prog) (s : DynState) → ends p m (unrolled n x) s ≡ ends p n x s
unrolled_ends p m n = by_form (Same written (ends p n)) (record {
  act = λ a s. rw (f.unrolled_act n a) (f.ends_act p m a s ∙ sym (f.ends_act p n a s));
  test = λ x b s. rw (f.unrolled_test n x b) (f.ends_test p m x b s ∙ sym (f.ends_test p n x b s));
  seq = λ parts all s.
      let each = ap (λ es. one_by_one es s) (map-map (ends p m) (unrolled n) parts) ∙ all_alike written (ends p n) parts all s in
      rw (f.unrolled_seq n parts) (f.ends_seq p m (map (unrolled n) parts) s ∙ each ∙ sym (f.ends_seq p n parts s));
  choice = λ parts all s.
      let each = flat_map-map (λ x. ends p m x s) (unrolled n) parts ∙ some_alike written (ends p n) parts all s in
      rw (f.unrolled_choice n parts) (f.ends_choice p m (map (unrolled n) parts) s ∙ each ∙ sym (f.ends_choice p n parts s));
  star = λ body same s.
      rw (f.unrolled_star n body) (repeated_ends p m (ends p n body) (unrolled n body) same n s ∙ sym (f.ends_star p n body s));
})
  where
    written : Prog → LastStates
    written x = ends p m (unrolled n x)

-- ## tests of all parts

-- a test that passes of each part, changed, passes of all of them
parts_pass : (test : Prog → Bool) (change : Prog → Prog) (xs : List Prog) → AllByRecursion (λ x. test (change x) ≡ true) xs → list_all test (map change xs) ≡ true
parts_pass test change [] all = refl
parts_pass test change (x ∷ xs) all = and_from (test (change x)) (list_all test (map change xs)) all.0 (parts_pass test change xs all.1)

-- the parts of a turn
abbrev turn : Prog → Prog → List Prog
turn body more = q.Seq [] ∷ q.Seq (body ∷ more ∷ []) ∷ []

repeated_starless : (body : Prog) → starless body ≡ true → (k : ℕ) → starless (repeated k body) ≡ true
repeated_starless body none zero = f.starless_seq []
repeated_starless body none (suc k) =
    f.starless_choice (turn body (repeated k body))
    ∙ rw (f.starless_seq [], f.starless_seq (body ∷ repeated k body ∷ []), none, repeated_starless body none k) refl

pub unrolled_starless : (n : ℕ) (x : Prog) → starless (unrolled n x) ≡ true
unrolled_starless n = by_form (λ x. starless (unrolled n x) ≡ true) (record {
  act = λ a. rw (f.unrolled_act n a) (f.starless_act a);
  test = λ x b. rw (f.unrolled_test n x b) (f.starless_test x b);
  seq = λ parts all. rw (f.unrolled_seq n parts, f.starless_seq (map (unrolled n) parts)) (parts_pass starless (unrolled n) parts all);
  choice = λ parts all. rw (f.unrolled_choice n parts, f.starless_choice (map (unrolled n) parts)) (parts_pass starless (unrolled n) parts all);
  star = λ body none. rw (f.unrolled_star n body) (repeated_starless (unrolled n body) none n);
})

module _ (p : Posed) (kinds : List Kind) where
  repeated_kinded : (body : Prog) → is_kinded p kinds body ≡ true → (k : ℕ) → is_kinded p kinds (repeated k body) ≡ true
  repeated_kinded body fits zero = f.kinded_seq p kinds []
  repeated_kinded body fits (suc k) =
      f.kinded_choice p kinds (turn body (repeated k body))
      ∙ rw (f.kinded_seq p kinds [], f.kinded_seq p kinds (body ∷ repeated k body ∷ []), fits, repeated_kinded body fits k) refl

  -- the kinds of the program, written out, fit
  abbrev Fitting : ℕ → Prog → Type 0
  Fitting n x = is_kinded p kinds (unrolled n x) ≡ true

  pub unrolled_kinded : (n : ℕ) (x : Prog) → is_kinded p kinds x ≡ true → is_kinded p kinds (unrolled n x) ≡ true
  unrolled_kinded n = by_form (λ x. is_kinded p kinds x ≡ true → Fitting n x) (record {
    act = λ a fits. rw (f.unrolled_act n a) fits;
    test = λ x b fits. rw (f.unrolled_test n x b) fits;
    seq = λ parts all fits.
        let each = all_passing (is_kinded p kinds) (Fitting n) parts all (sym (f.kinded_seq p kinds parts) ∙ fits) in
        rw (f.unrolled_seq n parts, f.kinded_seq p kinds (map (unrolled n) parts)) (parts_pass (is_kinded p kinds) (unrolled n) parts each);
    choice = λ parts all fits.
        let each = all_passing (is_kinded p kinds) (Fitting n) parts all (sym (f.kinded_choice p kinds parts) ∙ fits) in
        rw (f.unrolled_choice n parts, f.kinded_choice p kinds (map (unrolled n) parts)) (parts_pass (is_kinded p kinds) (unrolled n) parts each);
    star = λ body same fits. rw (f.unrolled_star n body) (repeated_kinded (unrolled n body) (same (sym (f.kinded_star p kinds body) ∙ fits)) n);
  })

-- ## the four facts

pub is_unrolled : (n : ℕ) (x : Prog) → IsUnrolled n x (unrolled n x)
is_unrolled n x = record {
  starless = unrolled_starless n x;
  runs = λ p m s t.
      let same = unrolled_ends p m n x s in
      (subst (λ ts. Contains ts t) same, subst (λ ts. Contains ts t) (sym same));
  kinds = λ p kinds fits. unrolled_kinded p kinds n x fits;
  value = refl;
}
