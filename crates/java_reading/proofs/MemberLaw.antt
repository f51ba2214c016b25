-- The law of members.
use Rattle.std.proofs.Common.{◌≡◌, ◌⊎◌, ℕ, ◌+◌, Bool, true, false, List, [], ◌∷◌, ◌++◌, Option, Some, None, refl, sym, ap, ◌∙◌, subst, inl, inr}
use Rattle.std.specs.List.{list_all}
use Rattle.java_lex.specs.declared.spelling.Terminal.{Terminal}
use Rattle.java_lex.specs.declared.spelling.Terminal.TheVariants as terminal
use Rattle.java_lex.specs.declared.token.Token.{Token}
use Rattle.java_lex.specs.Terminals.{terminal_of}
use Rattle.java_tree.specs.declared.names.TypeTree.{TypeTree}
use Rattle.java_tree.specs.declared.names.TypeTree.TheVariants.{Int, Flag, Class as class_type}
use Rattle.java_tree.specs.Trees.{Expr, Exprs, Clause, needs, gives, invariant}
use Rattle.java_tree.specs.Phrases.{Limit, Letter, letter, one, one_at}
use Rattle.java_tree.specs.Members.{is_method_modifier, visibility, clause, member, result_of, Written, empty, one_part}
use Rattle.reading_core.specs.Read.{Got, on}
use Rattle.java_reading.specs.declared.marks.Fixed.TheVariants.{Semicolon, Invariant, NormalBehavior}
use Rattle.java_reading.specs.declared.part_form.PartForm.{PartForm}
use Rattle.java_reading.specs.declared.part_form.PartForm.TheVariants as form
use Rattle.java_reading.specs.Readers.{Reader, head, and_then}
use Rattle.java_reading.specs.Tokens.{is_fixed, fixed, fixed_at, at_head, next_is}
use Rattle.java_reading.specs.PartForms.{part_form_of, is_part, head_part, begins_part}
use Rattle.java_reading.specs.MemberReading.{is_clause, clauses_in, declared_part_in, normal_in, specified_in, visible_in, invariant_in, part_by_form, member_in}
use Rattle.java_reading.proofs.Law.{Family, Extends, never, any, Sample, Exact, Law}
use Rattle.java_reading.proofs.Seq.{seq, seq_law}
use Rattle.java_reading.proofs.Parts.{give_law, give_sample, bind_law, recast_at, behind, behind_law, tails}
use Rattle.java_reading.proofs.TokenLaws.{fixed_is, fixed_law, fixed_sample, fixed_at_law, one_head, one_at_head}
use Rattle.java_reading.proofs.Shapes.{then_it}
use Rattle.java_reading.proofs.DeclarationLaws.{EF, EX}
use Rattle.java_reading.proofs.Tails.{ArgsF}
use Rattle.java_reading.proofs.Beginnings.{and_left}
use Rattle.java_reading.proofs.PartLaws.{PF, PX, ended_law, ended_sample, begins_clause, ClausesF, ClausesX, clauses_law}
use Rattle.java_reading.proofs.MemberForms.{decl_member, DeclF, decl_law, decl_sample, InvF, SpecF, NormF, VisF, MemF, Parted, semicolon, visible, condition, behavior, with_clauses, without, parted_of, parted_to}

one_part_form : (side : Bool) (x : Terminal) (l : ℕ) (us : List Token) (k : ℕ) (r : List Token) → one (side, x) l us k r → head_part (head us) ≡ part_form_of (side, x)
one_part_form side x l us k r (t, is, parts, up) = ap (λ v. head_part (head v)) parts ∙ ap part_form_of is

inv_form : (May : Limit) (w : Written) (l : ℕ) (us : List Token) (k : ℕ) (r : List Token) → InvF May w l us k r → head_part (head us) ≡ form.Invariant
inv_form May w l us k r (at, e, w_is, (m, us1, (t, is, parts, up), h)) = ap (λ v. head_part (head v)) parts ∙ ap part_form_of is.0

norm_form : (May : Limit) (w : Written) (l : ℕ) (us : List Token) (k : ℕ) (r : List Token) → NormF May w l us k r → head_part (head us) ≡ form.Normal
norm_form May w l us k r (m, us1, h, h') = one_part_form true terminal.NormalBehavior l us m us1 h

visibility_form : (l : ℕ) (us : List Token) (k : ℕ) (r : List Token) → visibility l us k r → head_part (head us) ≡ form.Visible
visibility_form l us k r (inl h) = one_part_form true terminal.Public l us k r h
visibility_form l us k r (inr (inl h)) = one_part_form true terminal.Protected l us k r h
visibility_form l us k r (inr (inr h)) = one_part_form true terminal.Private l us k r h

clauses_form : (May : Limit) (c : Clause) (l : ℕ) (us : List Token) (k : ℕ) (r : List Token) → clause May c l us k r → head_part (head us) ≡ form.Clause
clauses_form May (needs at e) l us k r (m, us1, (t, is, parts, up), h) = ap (λ v. head_part (head v)) parts ∙ ap part_form_of is.0
clauses_form May (gives at e) l us k r (m, us1, (t, is, parts, up), h) = ap (λ v. head_part (head v)) parts ∙ ap part_form_of is.0

modifier_form : (z : Letter) → is_method_modifier z ≡ true → part_form_of z ≡ form.Plain
modifier_form (false, terminal.Public) e = refl
modifier_form (false, terminal.Protected) e = refl
modifier_form (false, terminal.Private) e = refl
modifier_form (false, terminal.Final) e = refl
modifier_form (false, terminal.Static) e = refl
modifier_form (true, terminal.SpecPublic) e = refl
modifier_form (true, terminal.SpecProtected) e = refl
modifier_form (true, terminal.Nullable) e = refl
modifier_form (true, terminal.NonNull) e = refl
modifier_form z e = absurd (cc)

result_form : (o : Option TypeTree) (l : ℕ) (us : List Token) (k : ℕ) (r : List Token) → result_of o l us k r → head_part (head us) ≡ form.Plain
result_form None l us k r h = one_part_form false terminal.Void l us k r h
result_form (Some Int) l us k r h = one_part_form false terminal.Int l us k r h
result_form (Some Flag) l us k r h = one_part_form false terminal.Boolean l us k r h
result_form (Some (class_type i)) l us k r (t, is, parts, up) = ap (λ v. head_part (head v)) parts ∙ ap part_form_of is.0

decl_form : (specified : Bool) (spec : List Clause) (May : Limit) (w : Written) (l : ℕ) (us : List Token) (k : ℕ) (r : List Token) → DeclF specified spec May w l us k r → head_part (head us) ≡ form.Plain
decl_form specified spec May w l us k r (mods, result, i, (m, us1, (front, parts, all, mods_is, up), (m1, us2, h, h'))) = by front parts all
  where
    by : (front : List Token) → us ≡ front ++ us1 → list_all (λ t. is_method_modifier (letter t)) front ≡ true → head_part (head us) ≡ form.Plain
    by [] parts all = ap (λ v. head_part (head v)) parts ∙ result_form result m us1 m1 us2 h
    by (t ∷ front) parts all = ap (λ v. head_part (head v)) parts ∙ modifier_form (letter t) (and_left (is_method_modifier (letter t)) _ all)

abbrev index_of : (May : Limit) (w : Written) (l : ℕ) (us : List Token) (k : ℕ) (r : List Token) → Parted May w l us k r → PartForm
index_of May w l us k r (semicolon is h) = form.Empty
index_of May w l us k r (visible h) = form.Visible
index_of May w l us k r (condition h) = form.Invariant
index_of May w l us k r (behavior h) = form.Normal
index_of May w l us k r (with_clauses c cs h) = form.Clause
index_of May w l us k r (without h) = form.Plain

parted_form : (May : Limit) (w : Written) (l : ℕ) (us : List Token) (k : ℕ) (r : List Token) (p : Parted May w l us k r) → head_part (head us) ≡ index_of May w l us k r p
parted_form May w l us k r (semicolon is h) = one_part_form false terminal.Semicolon l us k r h
parted_form May w l us k r (visible (m, us1, h, h')) = visibility_form l us m us1 h
parted_form May w l us k r (condition h) = inv_form May w l us k r h
parted_form May w l us k r (behavior h) = norm_form May w l us k r h
parted_form May w l us k r (with_clauses c cs (m, us1, (m1, us2, h, h'), d)) = clauses_form May c l us m1 us2 h
parted_form May w l us k r (without d) = decl_form false [] May w l us k r d

part_some : (May : Limit) (w : Written) (l : ℕ) (us : List Token) (k : ℕ) (r : List Token) (p : Parted May w l us k r) → is_part (index_of May w l us k r p) ≡ true
part_some May w l us k r (semicolon is h) = refl
part_some May w l us k r (visible h) = refl
part_some May w l us k r (condition h) = refl
part_some May w l us k r (behavior h) = refl
part_some May w l us k r (with_clauses c cs h) = refl
part_some May w l us k r (without d) = refl

pub member_first : (May : Limit) (w : Written) (l : ℕ) (us : List Token) (k : ℕ) (r : List Token) → MemF May w l us k r → begins_part (head us) ≡ true
member_first May w l us k r h = let p = parted_of May w l us k r h in ap is_part (parted_form May w l us k r p) ∙ part_some May w l us k r p

pub member_sample : (m : ℕ) → Sample Written MemF m
member_sample m = give_sample (Unit {0}) Written (λ May u. one (false, terminal.Semicolon)) MemF (λ u. empty) m (λ May u us k r h. h) (fixed_sample false Semicolon refl (λ e. cc) m)

no_java_visible : (x : Terminal) → part_form_of (false, x) ≡ form.Visible → ⊥
no_java_visible terminal.Semicolon e = cc
no_java_visible x e = cc

visible_letter : (z : Letter) → part_form_of z ≡ form.Visible → (z ≡ (true, terminal.Public)) ⊎ ((z ≡ (true, terminal.Protected)) ⊎ (z ≡ (true, terminal.Private)))
visible_letter (false, x) e = absurd (no_java_visible x e)
visible_letter (true, terminal.Public) e = inl refl
visible_letter (true, terminal.Protected) e = inr (inl refl)
visible_letter (true, terminal.Private) e = inr (inr refl)
visible_letter (true, x) e = absurd (cc)

seen_at : (t : Token) → part_form_of (letter t) ≡ form.Visible → (l : ℕ) (us : List Token) → visibility l (t ∷ us) l us
seen_at t is l us = elim (visible_letter (letter t) is) [ inl e ↦ inl (t, e, refl, refl) | inr (inl e) ↦ inr (inl (t, e, refl, refl)) | inr (inr e) ↦ inr (inr (t, e, refl, refl)) ]

seen_tail : (t : Token) (l : ℕ) (us : List Token) (m : ℕ) (us1 : List Token) → visibility l (t ∷ us) m us1 → (us1 ≡ us) × (m ≡ l)
seen_tail t l us m us1 (inl (t', is, parts, up)) = (tails t t' us us1 parts, up)
seen_tail t l us m us1 (inr (inl (t', is, parts, up))) = (tails t t' us us1 parts, up)
seen_tail t l us m us1 (inr (inr (t', is, parts, up))) = (tails t t' us us1 parts, up)

seen_plain : (t : Token) → part_form_of (letter t) ≡ form.Visible → terminal_of t ≡ terminal.End → ⊥
seen_plain t is end = elim (visible_letter (letter t) is) [
  | inl e ↦ (let f : terminal.Public ≡ terminal.End = sym (ap (λ (z : Letter). z.1) e) ∙ end in cc)
  | inr (inl e) ↦ (let f : terminal.Protected ≡ terminal.End = sym (ap (λ (z : Letter). z.1) e) ∙ end in cc)
  | inr (inr e) ↦ (let f : terminal.Private ≡ terminal.End = sym (ap (λ (z : Letter). z.1) e) ∙ end in cc)
]

no_jml_empty : (x : Terminal) → part_form_of (true, x) ≡ form.Empty → ⊥
no_jml_empty terminal.Public e = cc
no_jml_empty x e = cc

empty_letter : (z : Letter) → part_form_of z ≡ form.Empty → z ≡ (false, terminal.Semicolon)
empty_letter (true, x) e = absurd (no_jml_empty x e)
empty_letter (false, terminal.Semicolon) e = refl
empty_letter (false, x) e = absurd (cc)

module _ (expression : ℕ → Reader Expr) (arguments : ℕ → Reader Exprs) (predicate_in : ℕ → Reader Expr)
    (expression_law : (left l : ℕ) → l + left ≡ 64 → Exact Expr EF EX any l (expression left))
    (arguments_law : (left l : ℕ) → l + left ≡ 64 → Exact Exprs ArgsF never any l (arguments left)) (arguments_sample : (l : ℕ) → Sample Exprs ArgsF l)
    (predicate_law : (left l : ℕ) → l + left ≡ 64 → Exact Expr PF PX any l (predicate_in left)) (predicate_sample : (l : ℕ) → Sample Expr PF l)
    (left l : ℕ) (sum : l + left ≡ 64) where
  abbrev CF : Family (List Clause)
  CF = ClausesF expression arguments predicate_in predicate_law predicate_sample left l sum

  abbrev CX : Extends (List Clause)
  CX = ClausesX expression arguments predicate_in predicate_law predicate_sample left l sum

  decl : (specified : Bool) (spec : List Clause) → Exact Written (DeclF specified spec) never any l (declared_part_in expression arguments predicate_in left specified spec)
  decl = decl_law expression arguments predicate_in expression_law arguments_law arguments_sample left l sum

  decl_some : (specified : Bool) (spec : List Clause) (m : ℕ) → Sample Written (DeclF specified spec) m
  decl_some = decl_sample expression arguments predicate_in expression_law arguments_law arguments_sample left l sum

  spec_sample : (m : ℕ) → Sample Written SpecF m
  spec_sample m = give_sample Written Written (DeclF true []) SpecF (λ w. w) m (λ May w us k r h. ([], (m, us, (refl, refl), h))) (decl_some true [] m)

  -- a declaration begins with no clause
  clause_apart : (spec : List Clause) (May : Limit) (w : Written) (m : ℕ) (us : List Token) (k : ℕ) (r : List Token) → DeclF true spec May w m us k r → CX spec (head us) → ⊥
  clause_apart spec May w m us k r h (inl e) = by (head us) e (decl_form true spec May w m us k r h)
    where
      by : (h : Option Token) → begins_clause h ≡ true → head_part h ≡ form.Plain → ⊥
      by None e f = cc
      by (Some t) e f = by_letter (letter t) e f
        where
          by_letter : (z : Letter) → is_clause (on true z) ≡ true → part_form_of z ≡ form.Plain → ⊥
          by_letter (false, x) e f = cc
          by_letter (true, terminal.Requires) e f = cc
          by_letter (true, terminal.Ensures) e f = cc
          by_letter (true, x) e f = cc
  clause_apart spec May w m us k r h (inr none) = none

  spec_law : Exact Written SpecF never any l (specified_in expression arguments predicate_in left)
  spec_law ts =
      bind_law (List Clause) Written CF CX any (λ spec. DeclF true spec) (λ spec. never) (λ spec. any) (λ spec. decl_some true spec) clause_apart SpecF never any (λ May x m us k r h. (x.0, h)) (λ x h none. none) (λ x h s. tt) l ts
      (clauses_in expression arguments predicate_in left ts) (clauses_law expression arguments predicate_in predicate_law predicate_sample left l sum ts) (λ spec. declared_part_in expression arguments predicate_in left true spec) (λ spec mid got. decl true spec mid)
      (λ May w us k r same h. inl ((h.0, w), refl, h.1))

  norm_law : Exact Written NormF never any l (normal_in expression arguments predicate_in left)
  norm_law ts =
      bind_law (Unit {0}) Written (λ May u. one (true, terminal.NormalBehavior)) never any (λ u. SpecF) (λ u. never) (λ u. any) (λ u. spec_sample) (λ u May w m us k r h none. none) NormF never any (λ May x m us k r h. h) (λ x h none. none) (λ x h s. tt) l ts
      (fixed true NormalBehavior ts) (fixed_law true NormalBehavior refl (λ e. cc) l ts) (λ u. specified_in expression arguments predicate_in left) (λ u mid got. spec_law mid) (λ May w us k r same h. inl ((tt, w), refl, h))

  abbrev AtF : Family (ℕ × (Expr × Unit {0}))
  AtF = seq (λ May at. one_at (true, terminal.Invariant) at) (λ at. then_it true Semicolon refl (λ e. cc) PF)

  inv_law : Exact Written InvF never any l (invariant_in expression arguments predicate_in left)
  inv_law ts =
      give_law (ℕ × (Expr × Unit {0})) Written AtF never any InvF never any (λ x. one_part (invariant x.0 x.1.0)) (λ May x m us k r h. (x.0, x.1.0, refl, h)) (λ x h none. none) (λ x h s. tt) l ts
      (and_then (fixed_at true Invariant ts) (λ at ts. and_then (predicate_in left ts) (λ e. fixed true Semicolon))) (λ May w us k r same h. inl ((h.0, (h.1, tt)), h.2, h.3))
      (seq_law ℕ (Expr × Unit {0}) (λ May at. one_at (true, terminal.Invariant) at) never any (λ at. then_it true Semicolon refl (λ e. cc) PF) (λ at. never) (λ at. any) (λ at. ended_sample expression arguments predicate_in predicate_law predicate_sample left l sum)
      (λ at May x m us k r h none. none) l ts (fixed_at true Invariant ts) (fixed_at_law true Invariant refl (λ e. cc) l ts) (λ at ts. and_then (predicate_in left ts) (λ e. fixed true Semicolon))
      (λ at mid got. ended_law expression arguments predicate_in predicate_law predicate_sample left l sum mid))

  vis_by : (ts : List Token) (b : Bool) → next_is true Invariant (head ts) ≡ b → Law Written VisF never any l ts (elim b [ true ↦ invariant_in expression arguments predicate_in left ts | false ↦ normal_in expression arguments predicate_in left ts ])
  vis_by ts true is =
      recast_at Written InvF VisF never never any any l (λ May w us k r h. inl h) (λ w h none. none) (λ w h s. s) ts (invariant_in expression arguments predicate_in left ts) back (inv_law ts)
    where
      back : (May : Limit) (w : Written) (us : List Token) (k : ℕ) (r : List Token) → head us ≡ head ts → VisF May w l us k r → InvF May w l us k r ⊎ ⊥
      back May w us k r same (inl h) = inl h
      back May w us k r same (inr (m, us1, h, h')) =
          let e : terminal.Invariant ≡ terminal.NormalBehavior = sym (fixed_is Invariant (at_head true (head ts)) is) ∙ ap (at_head true) (sym same) ∙ one_head true terminal.NormalBehavior l us m us1 h in absurd (cc)
  vis_by ts false is =
      recast_at Written NormF VisF never never any any l (λ May w us k r h. inr h) (λ w h none. none) (λ w h s. s) ts (normal_in expression arguments predicate_in left ts) back (norm_law ts)
    where
      back : (May : Limit) (w : Written) (us : List Token) (k : ℕ) (r : List Token) → head us ≡ head ts → VisF May w l us k r → NormF May w l us k r ⊎ ⊥
      back May w us k r same (inr h) = inl h
      back May w us k r same (inl (at, e, w_is, (m, us1, h, h'))) =
          let f : next_is true Invariant (head us) ≡ true = ap (is_fixed Invariant) (one_at_head true terminal.Invariant at l us m us1 h) in
          let g : next_is true Invariant (head us) ≡ false = ap (next_is true Invariant) same ∙ is in
          let c : true ≡ false = sym f ∙ g in absurd (cc)

  -- EACH FORM

  module _ (t : Token) (ts : List Token) where
    here : (f : PartForm) → part_form_of (letter t) ≡ f → (May : Limit) (w : Written) (us : List Token) (k : ℕ) (r : List Token) → head us ≡ Some t → (p : Parted May w l us k r) → index_of May w l us k r p ≡ f
    here f is May w us k r same p = sym (parted_form May w l us k r p) ∙ ap head_part same ∙ is

    empty_back : (May : Limit) (w : Written) (us : List Token) (k : ℕ) (r : List Token) (p : Parted May w l (t ∷ us) k r) → index_of May w l (t ∷ us) k r p ≡ form.Empty → (w ≡ empty) × (k ≡ l) × (r ≡ us)
    empty_back May w us k r (semicolon is (t', its, parts, up)) e = (is, up, tails t t' us r parts)
    empty_back May w us k r (visible h) e = absurd (cc)
    empty_back May w us k r (condition h) e = absurd (cc)
    empty_back May w us k r (behavior h) e = absurd (cc)
    empty_back May w us k r (with_clauses c cs h) e = absurd (cc)
    empty_back May w us k r (without d) e = absurd (cc)

    empty_law : part_form_of (letter t) ≡ form.Empty → Law Written MemF never any l (t ∷ ts) (Got empty ts)
    empty_law is = record {
      front = t ∷ [];
      parts = refl;
      plain = (λ end. let g : terminal.Semicolon ≡ terminal.End = sym (ap (λ (z : Letter). z.1) (empty_letter (letter t) is)) ∙ end in cc, tt);
      sound = λ May allows c. (t, empty_letter (letter t) is, refl, refl);
      stop = tt;
      only = λ May c h w k r parse. inl (let p = parted_of May w l (t ∷ c) k r parse in empty_back May w c k r p (here form.Empty is May w (t ∷ c) k r refl p));
    }

    inv_back : (May : Limit) (w : Written) (us : List Token) (k : ℕ) (r : List Token) (p : Parted May w l us k r) → index_of May w l us k r p ≡ form.Invariant → InvF May w l us k r
    inv_back May w us k r (condition h) e = h
    inv_back May w us k r (semicolon is h) e = absurd (cc)
    inv_back May w us k r (visible h) e = absurd (cc)
    inv_back May w us k r (behavior h) e = absurd (cc)
    inv_back May w us k r (with_clauses c cs h) e = absurd (cc)
    inv_back May w us k r (without d) e = absurd (cc)

    norm_back : (May : Limit) (w : Written) (us : List Token) (k : ℕ) (r : List Token) (p : Parted May w l us k r) → index_of May w l us k r p ≡ form.Normal → NormF May w l us k r
    norm_back May w us k r (behavior h) e = h
    norm_back May w us k r (semicolon is h) e = absurd (cc)
    norm_back May w us k r (visible h) e = absurd (cc)
    norm_back May w us k r (condition h) e = absurd (cc)
    norm_back May w us k r (with_clauses c cs h) e = absurd (cc)
    norm_back May w us k r (without d) e = absurd (cc)

    spec_back : (May : Limit) (w : Written) (us : List Token) (k : ℕ) (r : List Token) (p : Parted May w l us k r) → index_of May w l us k r p ≡ form.Clause → SpecF May w l us k r
    spec_back May w us k r (with_clauses c cs h) e = (c ∷ cs, h)
    spec_back May w us k r (semicolon is h) e = absurd (cc)
    spec_back May w us k r (visible h) e = absurd (cc)
    spec_back May w us k r (condition h) e = absurd (cc)
    spec_back May w us k r (behavior h) e = absurd (cc)
    spec_back May w us k r (without d) e = absurd (cc)

    plain_back : (May : Limit) (w : Written) (us : List Token) (k : ℕ) (r : List Token) (p : Parted May w l us k r) → index_of May w l us k r p ≡ form.Plain → DeclF false [] May w l us k r
    plain_back May w us k r (without d) e = d
    plain_back May w us k r (semicolon is h) e = absurd (cc)
    plain_back May w us k r (visible h) e = absurd (cc)
    plain_back May w us k r (condition h) e = absurd (cc)
    plain_back May w us k r (behavior h) e = absurd (cc)
    plain_back May w us k r (with_clauses c cs h) e = absurd (cc)

    vis_back : (May : Limit) (w : Written) (us : List Token) (k : ℕ) (r : List Token) (p : Parted May w l (t ∷ us) k r) → index_of May w l (t ∷ us) k r p ≡ form.Visible → VisF May w l us k r
    vis_back May w us k r (visible (m, us1, seen, h)) e =
        let at = seen_tail t l us m us1 seen in subst (λ (v : List Token). VisF May w l v k r) at.0 (subst (λ (n : ℕ). VisF May w n us1 k r) at.1 h)
    vis_back May w us k r (semicolon is h) e = absurd (cc)
    vis_back May w us k r (condition h) e = absurd (cc)
    vis_back May w us k r (behavior h) e = absurd (cc)
    vis_back May w us k r (with_clauses c cs h) e = absurd (cc)
    vis_back May w us k r (without d) e = absurd (cc)

    spec_member : (May : Limit) (w : Written) (us : List Token) (k : ℕ) (r : List Token) → SpecF May w l us k r → member May w l us k r
    spec_member May w us k r ([], (m, vs, (up, same), d)) = decl_member May [] w l us m vs k r (inl (refl, (up, same))) d
    spec_member May w us k r (c ∷ cs, h) = parted_to May w l us k r (with_clauses c cs h)

    by_form : (f : PartForm) → part_form_of (letter t) ≡ f → Law Written MemF never any l (t ∷ ts) (part_by_form expression arguments predicate_in left f t ts)
    by_form form.Empty is = empty_law is
    by_form form.Visible is =
        behind_law Written MemF never any l t (seen_plain t is) ts (visible_in expression arguments predicate_in left ts)
        (recast_at Written VisF (behind t MemF) never never any any l (λ May w us k r h. parted_to May w l (t ∷ us) k r (visible (l, us, seen_at t is l us, h))) (λ w h none. none) (λ w h s. s) ts (visible_in expression arguments predicate_in left ts)
        (λ May w us k r same h. inl (let p = parted_of May w l (t ∷ us) k r h in vis_back May w us k r p (here form.Visible is May w (t ∷ us) k r refl p))) (vis_by ts (next_is true Invariant (head ts)) refl))
    by_form form.Invariant is =
        recast_at Written InvF MemF never never any any l (λ May w us k r h. parted_to May w l us k r (condition h)) (λ w h none. none) (λ w h s. s) (t ∷ ts) (invariant_in expression arguments predicate_in left (t ∷ ts))
        (λ May w us k r same h. inl (let p = parted_of May w l us k r h in inv_back May w us k r p (here form.Invariant is May w us k r same p))) (inv_law (t ∷ ts))
    by_form form.Normal is =
        recast_at Written NormF MemF never never any any l (λ May w us k r h. parted_to May w l us k r (behavior h)) (λ w h none. none) (λ w h s. s) (t ∷ ts) (normal_in expression arguments predicate_in left (t ∷ ts))
        (λ May w us k r same h. inl (let p = parted_of May w l us k r h in norm_back May w us k r p (here form.Normal is May w us k r same p))) (norm_law (t ∷ ts))
    by_form form.Clause is =
        recast_at Written SpecF MemF never never any any l (λ May w us k r h. spec_member May w us k r h) (λ w h none. none) (λ w h s. s) (t ∷ ts) (specified_in expression arguments predicate_in left (t ∷ ts))
        (λ May w us k r same h. inl (let p = parted_of May w l us k r h in spec_back May w us k r p (here form.Clause is May w us k r same p))) (spec_law (t ∷ ts))
    by_form form.Plain is =
        recast_at Written (DeclF false []) MemF never never any any l (λ May w us k r h. parted_to May w l us k r (without h)) (λ w h none. none) (λ w h s. s) (t ∷ ts) (declared_part_in expression arguments predicate_in left false [] (t ∷ ts))
        (λ May w us k r same h. inl (let p = parted_of May w l us k r h in plain_back May w us k r p (here form.Plain is May w us k r same p))) (decl false [] (t ∷ ts))
    by_form form.None is = record {
      front = [];
      parts = refl;
      plain = tt;
      before = record { more = (member_sample l).tokens; tree = (member_sample l).tree; is = λ May c allows. (member_sample l).is May c (λ k r lt. allows k r (inr lt)) };
      only = λ May c h w k r parse. let e : begins_part (head c) ≡ true = member_first May w l c k r parse in let f : begins_part (head c) ≡ false = ap begins_part (sym h) ∙ ap is_part is in let g : true ≡ false = sym e ∙ f in absurd (cc);
    }

  pub member_law : Exact Written MemF never any l (member_in expression arguments predicate_in left)
  member_law [] = record {
    front = [];
    parts = refl;
    plain = tt;
    before = record { more = (member_sample l).tokens; tree = (member_sample l).tree; is = λ May c allows. (member_sample l).is May c (λ k r lt. allows k r (inr lt)) };
    only = λ May c h w k r parse. let e : begins_part (head c) ≡ true = member_first May w l c k r parse in let f : begins_part (head c) ≡ false = ap begins_part (sym h) in let g : true ≡ false = sym e ∙ f in absurd (cc);
  }
  member_law (t ∷ ts) = by_form t ts (part_form_of (letter t)) refl
