-- The gates of formulas that are made of formulas.
use Rattle.std.proofs.Common.{◌≡◌, ℕ, suc, ◌+◌, Bool, true, false, not, ◌&&◌, ◌||◌, List, [], ◌∷◌, ◌++◌, length, get_or, refl, sym, subst, ap, ◌∙◌, arith, inl, inr, Some, length-append}
use Rattle.std.specs.Prelude.{slice_get}
use Rattle.std.specs.List.{list_all, list_any}
use Rattle.std.proofs.lemmas.Bool.{cases_lt, and_parts}
use Rattle.std.proofs.lemmas.List.{get_or_append_left, get_or_at}
use Rattle.std.proofs.lemmas.List.Elements.{All-append, All-cons}
use Rattle.std.proofs.lemmas.Option.{slice_get_within}
use Rattle.gate_core.specs.declared.circuit.Node.{Node}
use Rattle.gate_core.specs.Circuit.{value, IsOf, Keeps}
use Rattle.gate_core.proofs.Values.{of_more, all_more}
use Rattle.gate_arith.specs.Numbers.{differ}
use Rattle.gate_arith.specs.Operations.{IsTruth}
use Rattle.heap_core.specs.Posed.{Posed}
use Rattle.heap_core.specs.Outcomes.{same_flag}
use Rattle.heap_core.proofs.Lists.{slice_get-append_left, slice_get-append_right, all_at}
use Rattle.rel_core.specs.declared.formula.Formula.{Formula}
use Rattle.rel_core.specs.declared.formula.Formula.TheVariants as f
use Rattle.rel_core.specs.Meaning.{holds}
use Rattle.rel_core.specs.Uses.{is_sorted}
use Rattle.rel_core.proofs.Forms.{holds_const, holds_not, holds_and, holds_or, holds_same, sorted_not, sorted_and, sorted_or, sorted_same}
use Rattle.rel_gates.specs.Shown.{Named}
use Rattle.rel_gates.specs.Meant.{Stand, IsTruthOf}
use Rattle.rel_gates.specs.Parts.{AreTruthsOf}
use Rattle.rel_gates.proofs.OfSets.{seen_before}

pub truth_of_kept : (p : Posed) (es : Named) (old new : List Node) (a : Formula) (gate : ℕ) → Keeps old new → IsOf old 0 → Stand old es → IsTruthOf p es old a gate → IsTruthOf p es new a gate
truth_of_kept p es old new a gate keeps some stand is = record {
  of = of_more old new gate keeps is.of;
  truth = λ kinds m inputs sorted seen. keeps.values inputs gate is.of ∙ is.truth kinds m inputs sorted (seen_before p kinds old new es inputs m keeps some stand seen);
}

pub constant_truth : (p : Posed) (es : Named) (nodes : List Node) (b : Bool) (gate : ℕ) → IsOf nodes gate → ((inputs : ℕ → Bool) → value inputs nodes gate ≡ b) → IsTruthOf p es nodes (f.Const b) gate
constant_truth p es nodes b gate of is = record { of = of; truth = λ kinds m inputs sorted seen. is inputs ∙ sym (holds_const b m) }

pub not_truth : (p : Posed) (es : Named) (nodes : List Node) (a : Formula) (gate opposite : ℕ) → IsTruthOf p es nodes a gate → IsOf nodes opposite
    → ((inputs : ℕ → Bool) → value inputs nodes opposite ≡ not (value inputs nodes gate)) → IsTruthOf p es nodes (f.Not a) opposite
not_truth p es nodes a gate opposite is of other = record {
  of = of;
  truth = λ kinds m inputs sorted seen. other inputs ∙ ap not (is.truth kinds m inputs (sym (sorted_not p kinds a) ∙ sorted) seen) ∙ sym (holds_not a m);
}

same_as : (b c : Bool) → not (differ b c) ≡ same_flag b c
same_as true true = refl
same_as true false = refl
same_as false true = refl
same_as false false = refl

pub same_truth : (p : Posed) (es : Named) (old new : List Node) (a b : Formula) (x y apart gate : ℕ) → Keeps old new → IsOf old 0 → Stand old es → IsTruthOf p es old a x → IsTruthOf p es old b y
    → IsTruth new (λ inputs. differ (value inputs old x) (value inputs old y)) apart → IsOf new gate → ((inputs : ℕ → Bool) → value inputs new gate ≡ not (value inputs new apart))
    → IsTruthOf p es new (f.Same a b) gate
same_truth p es old new a b x y apart gate keeps some stand first second truth of other = record {
  of = of;
  truth = λ kinds m inputs sorted seen.
      let before = seen_before p kinds old new es inputs m keeps some stand seen in
      let parts = and_parts (is_sorted p kinds a) (is_sorted p kinds b) (sym (sorted_same p kinds a b) ∙ sorted) in
      other inputs
      ∙ ap not (truth.value_is inputs
      ∙ ap (λ t. differ t (value inputs old y)) (first.truth kinds m inputs parts.0 before) ∙ ap (differ (holds a m)) (second.truth kinds m inputs parts.1 before))
      ∙ same_as (holds a m) (holds b m) ∙ sym (holds_same a b m);
}

-- ## parts

pub no_parts : (p : Posed) (es : Named) (nodes : List Node) → AreTruthsOf p es nodes [] []
no_parts p es nodes = record { of = λ k d within. absurd (omega (arith, within)); wide = refl; truths = λ i a at. absurd (cc) }

pub parts_more : (p : Posed) (es : Named) (old new : List Node) (fs : List Formula) (a : Formula) (gates : List ℕ) (gate : ℕ) → Keeps old new → IsOf old 0 → Stand old es
    → AreTruthsOf p es old fs gates → IsTruthOf p es new a gate → AreTruthsOf p es new (fs ++ a ∷ []) (gates ++ gate ∷ [])
parts_more p es old new fs a gates gate keeps some stand are last = record {
  of = All-append (IsOf new) gates (gate ∷ []) (all_more old new gates keeps are.of) (All-cons (IsOf new) gate [] last.of (λ k d within. absurd (omega (arith, within))));
  wide = omega (arith, are.wide, length-append gates (gate ∷ []), length-append fs (a ∷ []));
  truths = λ i b at.
      elim (cases_lt i (length fs)) [
        | inl below ↦
            subst (IsTruthOf p es new b) (sym (get_or_append_left gates (gate ∷ []) 0 i (omega (arith, below, are.wide))))
            (truth_of_kept p es old new b (get_or gates i 0) keeps some stand (are.truths i b (sym (slice_get-append_left fs (a ∷ []) i below) ∙ at)))
        | inr past ↦
            let within = slice_get_within (fs ++ a ∷ []) i b at in
            let same : length fs + 0 ≡ i = omega (arith, past, within, length-append fs (a ∷ [])) in
            let here : Some a ≡ Some b = sym (slice_get-append_right fs (a ∷ []) 0) ∙ ap (slice_get (fs ++ a ∷ [])) same ∙ at in
            let equal : a ≡ b = cc in
            let place : length gates ≡ i = omega (arith, same, are.wide) in
            subst (IsTruthOf p es new b) (sym (get_or_at gates gate [] 0 i place)) (subst (λ g. IsTruthOf p es new g gate) equal last)
      ];
}

-- tests of gates and of formulas that agree at each place
all_agree : (gate_test : ℕ → Bool) (test : Formula → Bool) (gates : List ℕ) (fs : List Formula) → length gates ≡ length fs
    → ((i : ℕ) (a : Formula) → slice_get fs i ≡ Some a → gate_test (get_or gates i 0) ≡ test a) → list_all gate_test gates ≡ list_all test fs
all_agree gate_test test [] [] wide same = refl
all_agree gate_test test [] (a ∷ fs) wide same = absurd (omega (arith, wide))
all_agree gate_test test (g ∷ gates) [] wide same = absurd (omega (arith, wide))
all_agree gate_test test (g ∷ gates) (a ∷ fs) wide same =
    ap (λ b. b && list_all gate_test gates) (same 0 a refl) ∙ ap (λ b. test a && b) (all_agree gate_test test gates fs (omega (arith, wide)) (λ i b at. same (suc i) b at))

any_agree : (gate_test : ℕ → Bool) (test : Formula → Bool) (gates : List ℕ) (fs : List Formula) → length gates ≡ length fs
    → ((i : ℕ) (a : Formula) → slice_get fs i ≡ Some a → gate_test (get_or gates i 0) ≡ test a) → list_any gate_test gates ≡ list_any test fs
any_agree gate_test test [] [] wide same = refl
any_agree gate_test test [] (a ∷ fs) wide same = absurd (omega (arith, wide))
any_agree gate_test test (g ∷ gates) [] wide same = absurd (omega (arith, wide))
any_agree gate_test test (g ∷ gates) (a ∷ fs) wide same =
    ap (λ b. b || list_any gate_test gates) (same 0 a refl) ∙ ap (λ b. test a || b) (any_agree gate_test test gates fs (omega (arith, wide)) (λ i b at. same (suc i) b at))

pub and_truth : (p : Posed) (es : Named) (old new : List Node) (fs : List Formula) (gates : List ℕ) (gate : ℕ) → Keeps old new → IsOf old 0 → Stand old es → AreTruthsOf p es old fs gates
    → IsTruth new (λ inputs. list_all (value inputs old) gates) gate → IsTruthOf p es new (f.And fs) gate
and_truth p es old new fs gates gate keeps some stand are truth = record {
  of = truth.of;
  truth = λ kinds m inputs sorted seen.
      let before = seen_before p kinds old new es inputs m keeps some stand seen in
      let all : list_all (is_sorted p kinds) fs ≡ true = sym (sorted_and p kinds fs) ∙ sorted in
      truth.value_is inputs
      ∙ all_agree (value inputs old) (λ a. holds a m) gates fs are.wide (λ i a at. (are.truths i a at).truth kinds m inputs (all_at (is_sorted p kinds) fs i a all at) before)
      ∙ sym (holds_and fs m);
}

pub or_truth : (p : Posed) (es : Named) (old new : List Node) (fs : List Formula) (gates : List ℕ) (gate : ℕ) → Keeps old new → IsOf old 0 → Stand old es → AreTruthsOf p es old fs gates
    → IsTruth new (λ inputs. list_any (value inputs old) gates) gate → IsTruthOf p es new (f.Or fs) gate
or_truth p es old new fs gates gate keeps some stand are truth = record {
  of = truth.of;
  truth = λ kinds m inputs sorted seen.
      let before = seen_before p kinds old new es inputs m keeps some stand seen in
      let all : list_all (is_sorted p kinds) fs ≡ true = sym (sorted_or p kinds fs) ∙ sorted in
      truth.value_is inputs
      ∙ any_agree (value inputs old) (λ a. holds a m) gates fs are.wide (λ i a at. (are.truths i a at).truth kinds m inputs (all_at (is_sorted p kinds) fs i a all at) before)
      ∙ sym (holds_or fs m);
}
