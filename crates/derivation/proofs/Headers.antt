-- The header of a formula's text: what its first words can be.
use Rattle.std.proofs.Common.{◌≡◌, ℕ, ◌≤◌, true, false, ◌&&◌, All, List, [], ◌∷◌, ◌++◌, length, codes, refl, sym, ap, inl, inr, ◌∙◌, lit≤}
use Rattle.std.specs.List.{list_all}
use Rattle.std.specs.Fmt.{decimal}
use Rattle.std.proofs.lemmas.Bool.{and_parts, and_from}
use Rattle.std.proofs.lemmas.List.{append-nil}
use Rattle.std.proofs.lemmas.List.Elements.{All-nil}
use Rattle.cnf_core.specs.Clauses.{Clauses}
use Rattle.cnf_core.specs.Literal.{IsOver}
use Rattle.derivation.specs.declared.fault.TextFault.{TextFault}
use Rattle.derivation.specs.declared.fault.TextFault.TheVariants.{BadText, NoMemory}
use Rattle.derivation.specs.CnfText.{IsSmall, cnf_words, Spell, Begin, BlamesWords}
use Rattle.derivation.specs.Runs.{Run, is_blank}
use Rattle.derivation.specs.Slots.{IsNamed, IsCount, Misses}

-- Words that some formula's begin with, but that spell none; and what each word is like with which it goes on.
pub record HeadAt (front : List Run) (P : Run → Type 0) : Type 0 where
  pub before : Begin front
  pub next : (word : Run) → Begin (front ++ word ∷ []) → P word
  pub longer : (v : Clauses) → Spell front v → ⊥

-- so where such a word is missed, it is the fault
pub missed : (P : Run → Type 0) (front words whole : List Run) (end : ℕ) (fault : TextFault) → HeadAt front P → whole ≡ front ++ words → Misses P words end fault
    → BlamesWords whole end fault
missed P front words whole end NoMemory head parts misses = tt
missed P front words whole end (BadText at) head parts misses =
    elim misses.why [
      | inl none ↦
          let all : whole ≡ front = parts ∙ ap (λ ws. front ++ ws) none.0 ∙ append-nil front in
          inr (record { place = none.1; before = rw all head.before; unfinished = λ v spell. head.longer v (rw all at spell) })
      | inr (word, rest, is, place, other) ↦
          inl (record {
            front = front;
            word = word;
            rest = rest;
            parts = parts ∙ ap (λ ws. front ++ ws) is;
            place = place;
            before = head.before;
            with_it = λ begin. other (head.next word begin);
            reading = λ v spell _. head.longer v spell;
          })
    ]

-- a formula with no variable and no clause
abbrev none : Clauses
none = record { vars = 0; clauses = [] }

-- one with some variables and no clause
abbrev over : ℕ → Clauses
over vars = record { vars = vars; clauses = [] }

small_over : (vars : ℕ) → vars ≤ 1000000 → IsSmall (over vars)
small_over vars few = record { vars = few; count = lit≤ tt; over = All-nil (λ (clause : List ℕ). All (IsOver vars) clause) }

pub head_first : HeadAt [] (IsNamed (codes "p") true)
head_first = record {
  before = record { formula = none; more = cnf_words none; small = small_over 0 (lit≤ tt); same = refl; header = refl };
  next = λ word begin.
      let same : cnf_words begin.formula ≡ word.bytes ∷ begin.more = begin.same in
      let here : word.bytes ≡ codes "p" = cc in
      (here, refl);
  longer = λ v spell. let same : [] ≡ cnf_words v = spell.same in cc;
}

pub head_second : (p : Run) → p.bytes ≡ codes "p" → HeadAt (p ∷ []) (IsNamed (codes "cnf") false)
head_second p p_is = record {
  before = record {
    formula = none;
    more = codes "cnf" ∷ decimal 0 ∷ decimal 0 ∷ [];
    small = small_over 0 (lit≤ tt);
    same = ap (λ b. b ∷ codes "cnf" ∷ decimal 0 ∷ decimal 0 ∷ []) (sym p_is);
    header = refl;
  };
  next = λ word begin.
      let same : cnf_words begin.formula ≡ p.bytes ∷ word.bytes ∷ begin.more = begin.same in
      let here : word.bytes ≡ codes "cnf" = cc in
      (here, (and_parts (list_all is_blank word.gap) true begin.header).0);
  longer = λ v spell. let same : p.bytes ∷ [] ≡ cnf_words v = spell.same in cc;
}

pub head_third : (p cnf : Run) → p.bytes ≡ codes "p" → cnf.bytes ≡ codes "cnf" → list_all is_blank cnf.gap ≡ true → HeadAt (p ∷ cnf ∷ []) IsCount
head_third p cnf p_is cnf_is blank = record {
  before = record {
    formula = none;
    more = decimal 0 ∷ decimal 0 ∷ [];
    small = small_over 0 (lit≤ tt);
    same = ap (λ b. b ∷ codes "cnf" ∷ decimal 0 ∷ decimal 0 ∷ []) (sym p_is) ∙ ap (λ b. p.bytes ∷ b ∷ decimal 0 ∷ decimal 0 ∷ []) (sym cnf_is);
    header = and_from (list_all is_blank cnf.gap) true blank refl;
  };
  next = λ word begin.
      let same : cnf_words begin.formula ≡ p.bytes ∷ cnf.bytes ∷ word.bytes ∷ begin.more = begin.same in
      let here : word.bytes ≡ decimal begin.formula.vars = cc in (
        begin.formula.vars,
        begin.small.vars,
        here,
        (and_parts (list_all is_blank word.gap) true (and_parts (list_all is_blank cnf.gap) (list_all is_blank word.gap && true) begin.header).1).0,
      );
  longer = λ v spell. let same : p.bytes ∷ cnf.bytes ∷ [] ≡ cnf_words v = spell.same in cc;
}

pub head_fourth : (p cnf first : Run) (vars : ℕ) → p.bytes ≡ codes "p" → cnf.bytes ≡ codes "cnf" → list_all is_blank cnf.gap ≡ true → first.bytes ≡ decimal vars
    → list_all is_blank first.gap ≡ true → vars ≤ 1000000 → HeadAt (p ∷ cnf ∷ first ∷ []) IsCount
head_fourth p cnf first vars p_is cnf_is blank first_is blank_first few = record {
  before = record {
    formula = over vars;
    more = decimal 0 ∷ [];
    small = small_over vars few;
    same =
        ap (λ b. b ∷ codes "cnf" ∷ decimal vars ∷ decimal 0 ∷ []) (sym p_is)
        ∙ ap (λ b. p.bytes ∷ b ∷ decimal vars ∷ decimal 0 ∷ []) (sym cnf_is)
        ∙ ap (λ b. p.bytes ∷ cnf.bytes ∷ b ∷ decimal 0 ∷ []) (sym first_is);
    header = and_from (list_all is_blank cnf.gap) (list_all is_blank first.gap && true) blank (and_from (list_all is_blank first.gap) true blank_first refl);
  };
  next = λ word begin.
      let same : cnf_words begin.formula ≡ p.bytes ∷ cnf.bytes ∷ first.bytes ∷ word.bytes ∷ begin.more = begin.same in
      let here : word.bytes ≡ decimal (length begin.formula.clauses) = cc in
      let gaps : (list_all is_blank cnf.gap ≡ true) × ((list_all is_blank first.gap && (list_all is_blank word.gap && true)) ≡ true) =
      and_parts (list_all is_blank cnf.gap) (list_all is_blank first.gap && (list_all is_blank word.gap && true)) begin.header in (
        length begin.formula.clauses,
        begin.small.count,
        here,
        (and_parts (list_all is_blank word.gap) true (and_parts (list_all is_blank first.gap) (list_all is_blank word.gap && true) gaps.1).1).0,
      );
  longer = λ v spell. let same : p.bytes ∷ cnf.bytes ∷ first.bytes ∷ [] ≡ cnf_words v = spell.same in cc;
}
