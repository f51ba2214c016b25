-- The law of statements, at each level.
use Rattle.std.proofs.Common.{◌≡◌, ℕ, zero, suc, ◌+◌, Bool, true, false, List, [], ◌∷◌, ◌++◌, Option, Some, None, refl, sym, ap, ◌∙◌, subst, inl, inr, arith}
use Rattle.std.specs.List.{list_all, filter_map}
use Rattle.java_lex.specs.declared.spelling.Terminal.{Terminal}
use Rattle.java_lex.specs.declared.spelling.Terminal.TheVariants as terminal
use Rattle.java_lex.specs.declared.token.Token.{Token}
use Rattle.java_lex.specs.Terminals.{terminal_of}
use Rattle.java_tree.specs.declared.names.Modifier.{Modifier}
use Rattle.java_tree.specs.declared.names.TypeTree.{TypeTree}
use Rattle.java_tree.specs.declared.names.TypeTree.TheVariants.{Int, Flag, Class as class_type}
use Rattle.java_tree.specs.Trees.{Expr, this, named, call, Exprs, Decl, Stmt, block, local, set, step, run}
use Rattle.java_tree.specs.Phrases.{Limit, Letter, letter, ident_of}
use Rattle.java_tree.specs.Statements.{statement, takes_else, is_local_modifier, in_order, kept, type_of}
use Rattle.java_reading.specs.declared.form.Reached.{Reached}
use Rattle.java_reading.specs.declared.form.Reached.TheVariants.{Bare}
use Rattle.java_reading.specs.declared.form.Form.{Form}
use Rattle.java_reading.specs.declared.form.Form.TheVariants as form
use Rattle.java_reading.specs.Readers.{Reader, head, give}
use Rattle.java_reading.specs.Tokens.{at_head, next_is_name, is_name}
use Rattle.java_reading.specs.Forms.{form_of}
use Rattle.java_reading.specs.StatementReading.{reached_in, named_in, further_in, declared_in, behind_name_in, statement_by, statement_in, statement_at}
use Rattle.java_reading.proofs.Law.{Family, Extends, never, any, Sample, Exact, Law}
use Rattle.java_reading.proofs.Parts.{give_at, behind, behind_law, recast_at, settle_law, heads, tails}
use Rattle.java_tree.specs.Reading.{any_level}
use Rattle.java_reading.proofs.TokenLaws.{name_head}
use Rattle.java_reading.proofs.Starts.{arguments_start}
use Rattle.java_reading.proofs.DeclarationLaws.{EF, EX, SF, declared_law}
use Rattle.java_reading.proofs.Tails.{matches_target, ArgsF, Tail, sets, steps, runs, reads, calls, TailF, NamedF, Matches, TailHead, tail_head}
use Rattle.java_reading.proofs.PlaceLaws.{reached_law, named_law, further_below}
use Rattle.java_reading.proofs.SimpleStatements.{tail_statement, StartF, Start, arguments_level, is_simple, simple_start}
use Rattle.java_reading.proofs.Beginnings.{and_left, head_form, fits, statement_fits}
use Rattle.java_reading.proofs.StatementForms.{StF, SX, SS, Under, at_top, below, statement_sample, name_letter, this_letter, block_law, while_law, choice_law, return_law, local_law, blank_law, none_law}

-- a tail keeps the level
tail_level : (May : Limit) (l0 : ℕ) (e : Expr) (s : Stmt) (l : ℕ) (ts : List Token) (k : ℕ) (r : List Token) → Tail May l0 e s l ts k r → k ≡ l
tail_level May l0 e s l ts k r (sets v is h up) = up
tail_level May l0 e s l ts k r (steps b is h up) = up
tail_level May l0 e s l ts k r (runs is h up) = up
tail_level May l0 e s l ts k r (reads i h1 h2 tail up) = up
tail_level May l0 e s l ts k r (calls i args h1 h2 h3 tail up) = up

-- a statement that takes no `else`
abbrev Closed : Extends Stmt
Closed s h = takes_else s ≡ false

tail_closed : (May : Limit) (l0 : ℕ) (e : Expr) (s : Stmt) (l : ℕ) (ts : List Token) (k : ℕ) (r : List Token) → Tail May l0 e s l ts k r → takes_else s ≡ false
tail_closed May l0 e s l ts k r (sets v is h up) = refl
tail_closed May l0 e s l ts k r (steps b is h up) = refl
tail_closed May l0 e s l ts k r (runs is h up) = refl
tail_closed May l0 e s l ts k r (reads i h1 h2 tail up) = tail_closed May l0 _ s _ _ _ r tail
tail_closed May l0 e s l ts k r (calls i args h1 h2 h3 tail up) = tail_closed May l0 _ s _ _ _ r tail

-- what stands behind a name, and what behind `this`
abbrev NameF : ℕ → Token → Family Stmt
NameF l0 t = NamedF l0 (named t.from (ident_of t)) (call t.from (ident_of t))

named_level : (May : Limit) (l0 : ℕ) (t : Token) (s : Stmt) (l : ℕ) (ts : List Token) (k : ℕ) (r : List Token) → NameF l0 t May s l ts k r → k ≡ l
named_level May l0 t s l ts k r (inl tail) = tail_level May l0 (named t.from (ident_of t)) s l ts k r tail
named_level May l0 t s l ts k r (inr (args, (m, mid, h, tail))) = tail_level May l0 (call t.from (ident_of t) args) s m mid k r tail ∙ arguments_level May args l ts m mid h

named_closed : (May : Limit) (l0 : ℕ) (t : Token) (s : Stmt) (l : ℕ) (ts : List Token) (k : ℕ) (r : List Token) → NameF l0 t May s l ts k r → takes_else s ≡ false
named_closed May l0 t s l ts k r (inl tail) = tail_closed May l0 (named t.from (ident_of t)) s l ts k r tail
named_closed May l0 t s l ts k r (inr (args, (m, mid, h, tail))) = tail_closed May l0 (call t.from (ident_of t) args) s m mid k r tail

named_statement : (May : Limit) (l : ℕ) (t : Token) → letter t ≡ (false, terminal.Name) → (s : Stmt) (us : List Token) (k : ℕ) (r : List Token) → NameF l t May s l us k r → statement May s l (t ∷ us) k r
named_statement May l t is s us k r h = subst (λ (n : ℕ). statement May s l (t ∷ us) n r) (sym (named_level May l t s l us k r h)) (by h)
  where
    by : NameF l t May s l us k r → statement May s l (t ∷ us) l r
    by (inl tail) = tail_statement May l (named t.from (ident_of t)) s l us k r tail (t ∷ us) refl (l, (refl, (t, (is, refl), refl, refl)), refl)
    by (inr (args, (m, mid, h, tail))) = tail_statement May l (call t.from (ident_of t) args) s m mid k r tail (t ∷ us) refl (m, (refl, (refl, (l, us, (t, (is, refl), refl, refl), h))), arguments_level May args l us m mid h)

this_statement : (May : Limit) (l : ℕ) (t : Token) → letter t ≡ (false, terminal.This) → (s : Stmt) (us : List Token) (k : ℕ) (r : List Token) → Tail May l (this t.from) s l us k r → statement May s l (t ∷ us) k r
this_statement May l t is s us k r tail =
    subst (λ (n : ℕ). statement May s l (t ∷ us) n r) (sym (tail_level May l (this t.from) s l us k r tail)) (tail_statement May l (this t.from) s l us k r tail (t ∷ us) refl (l, (t, (is, refl), refl, refl), refl))

-- an assignment or a call that begins with this token
start_at : (May : Limit) (l : ℕ) (t : Token) (s : Stmt) (us r : List Token) → Start May l s (t ∷ us) r → StartF May l t s us r
start_at May l t s us r (t', ts, parts, h) = subst (λ (v : List Token). StartF May l t s v r) (tails t t' us ts parts) (subst (λ (v : Token). StartF May l v s ts r) (sym (heads t t' us ts parts)) h)

module _ (expression : ℕ → Reader Expr) (arguments : ℕ → Reader Exprs) (expression_law : (left l : ℕ) → l + left ≡ 64 → Exact Expr EF EX any l (expression left))
    (arguments_law : (left l : ℕ) → l + left ≡ 64 → Exact Exprs ArgsF never any l (arguments left)) (arguments_sample : (l : ℕ) → Sample Exprs ArgsF l) where
  module _ (left l : ℕ) (sum : l + left ≡ 64) (t : Token) (ts : List Token) where
    -- BEHIND A NAME

    -- a declaration whose type is the name
    class_back : (is : letter t ≡ (false, terminal.Name)) (May : Limit) (mods : List Modifier) (kind : TypeTree) (ds : List Decl) (us : List Token) (k : ℕ) (r : List Token)
        → statement May (local mods kind ds) l (t ∷ us) k r → (local mods kind ds ≡ local [] (class_type (ident_of t)) ds) × SF expression arguments expression_law left l sum May ds l us k r
    class_back is May mods kind ds us k r (m, mid, (front, parts, all, mods_is, up), (m1, mid1, h, h')) = by front parts all mods_is
      where
        by_kind : (kind : TypeTree) → mods ≡ [] → mid ≡ t ∷ us → type_of kind m mid m1 mid1 → (local mods kind ds ≡ local [] (class_type (ident_of t)) ds) × SF expression arguments expression_law left l sum May ds l us k r
        by_kind Int none_kept here (t', its, p, up') = let e : t ≡ t' = cc in let f : ◌≡◌ {A = Letter} (false, terminal.Name) (false, terminal.Int) = sym is ∙ ap letter e ∙ its in let g : terminal.Name ≡ terminal.Int = ap (λ (z : Letter). z.1) f in absurd (cc)
        by_kind Flag none_kept here (t', its, p, up') = let e : t ≡ t' = cc in let f : ◌≡◌ {A = Letter} (false, terminal.Name) (false, terminal.Boolean) = sym is ∙ ap letter e ∙ its in let g : terminal.Name ≡ terminal.Boolean = ap (λ (z : Letter). z.1) f in absurd (cc)
        by_kind (class_type i) none_kept here (t', its, p, up') =
            let e : t ≡ t' = cc in
            let e' : us ≡ mid1 = cc in
            let i_is : i ≡ ident_of t = sym its.1 ∙ ap ident_of (sym e) in (
              ap (λ v. local v (class_type i) ds) none_kept ∙ ap (λ v. local [] (class_type v) ds) i_is,
              subst (λ (v : List Token). SF expression arguments expression_law left l sum May ds l v k r) (sym e') (subst (λ (n : ℕ). SF expression arguments expression_law left l sum May ds n mid1 k r) (up' ∙ up) h'),
            )

        by : (front : List Token) → t ∷ us ≡ front ++ mid → list_all (λ t. is_local_modifier (letter t)) front ≡ true → mods ≡ in_order (filter_map kept front) → (local mods kind ds ≡ local [] (class_type (ident_of t)) ds) × SF expression arguments expression_law left l sum May ds l us k r
        by [] parts all mods_is = by_kind kind mods_is (sym parts) h
        by (v ∷ front) parts all mods_is =
            let e : t ≡ v = heads t v us (front ++ mid) parts in
            let f : is_local_modifier (letter v) ≡ true = and_left (is_local_modifier (letter v)) _ all in
            let g : is_local_modifier (letter v) ≡ false = ap (λ z. is_local_modifier (letter z)) (sym e) ∙ ap is_local_modifier is in
            absurd (cc)

    -- a name follows, so it is no assignment and no call
    name_clash : (May : Limit) (s : Stmt) (us : List Token) (k : ℕ) (r : List Token) → next_is_name (head us) ≡ true → NameF l t May s l us k r → ⊥
    name_clash May s us k r follows (inl tail) = by (at_head false (head us)) follows (tail_head May l (named t.from (ident_of t)) s l us k r tail)
      where
        by : (x : Terminal) → is_name x ≡ true → TailHead (named t.from (ident_of t)) x → ⊥
        by x e (inl y) = let f : is_name terminal.Assign ≡ true = ap is_name (sym y.0) ∙ e in cc
        by x e (inr (inl y)) = let f : is_name terminal.Increment ≡ true = ap is_name (sym y.0) ∙ e in cc
        by x e (inr (inr (inl y))) = let f : is_name terminal.Decrement ≡ true = ap is_name (sym y.0) ∙ e in cc
        by x e (inr (inr (inr (inl y)))) = let f : is_name terminal.Semicolon ≡ true = ap is_name (sym y.0) ∙ e in cc
        by x e (inr (inr (inr (inr y)))) = let f : is_name terminal.Dot ≡ true = ap is_name (sym y) ∙ e in cc
    name_clash May s us k r follows (inr (args, (m, mid, h, tail))) = let f : is_name terminal.OpenParen ≡ true = ap is_name (sym (arguments_start May args l us m mid h)) ∙ follows in cc

    -- what an assignment or a call is behind its first token
    behind_name : (is : letter t ≡ (false, terminal.Name)) (May : Limit) (s : Stmt) (us : List Token) (k : ℕ) (r : List Token) → is_simple s ≡ true → statement May s l (t ∷ us) k r → NameF l t May s l us k r
    behind_name is May s us k r simple h = by (start_at May l t s us r (simple_start May s l (t ∷ us) k r simple h).0)
      where
        k_is : k ≡ l
        k_is = (simple_start May s l (t ∷ us) k r simple h).1

        by : StartF May l t s us r → NameF l t May s l us k r
        by (inl (its, rest)) = let e : ◌≡◌ {A = Letter} (false, terminal.Name) (false, terminal.This) = sym is ∙ its in let e' : terminal.Name ≡ terminal.This = ap (λ (z : Letter). z.1) e in absurd (cc)
        by (inr (its, (k', h'))) = subst (λ (n : ℕ). NameF l t May s l us n r) (named_level May l t s l us k' r h' ∙ sym k_is) h'

    behind_this : (is : letter t ≡ (false, terminal.This)) (May : Limit) (s : Stmt) (us : List Token) (k : ℕ) (r : List Token) → is_simple s ≡ true → statement May s l (t ∷ us) k r → Tail May l (this t.from) s l us k r
    behind_this is May s us k r simple h = by (start_at May l t s us r (simple_start May s l (t ∷ us) k r simple h).0)
      where
        k_is : k ≡ l
        k_is = (simple_start May s l (t ∷ us) k r simple h).1

        by : StartF May l t s us r → Tail May l (this t.from) s l us k r
        by (inl (its, (k', tail))) = subst (λ (n : ℕ). Tail May l (this t.from) s l us n r) (tail_level May l (this t.from) s l us k' r tail ∙ sym k_is) tail
        by (inr (its, rest)) = let e : ◌≡◌ {A = Letter} (false, terminal.This) (false, terminal.Name) = sym is ∙ its in let e' : terminal.This ≡ terminal.Name = ap (λ (z : Letter). z.1) e in absurd (cc)

    fits_token : (f : Form) → form_of (letter t) ≡ f → (May : Limit) (s : Stmt) (us : List Token) (k : ℕ) (r : List Token) → statement May s l (t ∷ us) k r → fits s f ≡ true
    fits_token f is May s us k r h = subst (λ (v : Form). fits s v ≡ true) is (statement_fits May s l (t ∷ us) k r h)

    reached_exact : (r : Reached) (e : Expr) → Matches r e → Exact Stmt (TailF l e) never any l (reached_in expression arguments left (further_in expression arguments left left) r e)
    reached_exact r e m =
        reached_law expression arguments expression_law arguments_law arguments_sample left l sum r e m l (further_in expression arguments left left)
        (further_below expression arguments expression_law arguments_law arguments_sample left l sum left l sum e (matches_target r e m))

    plain_token : (x : Terminal) → letter t ≡ (false, x) → (x ≡ terminal.End → ⊥) → terminal_of t ≡ terminal.End → ⊥
    plain_token x is not_end end = not_end (sym (ap (λ (z : Letter). z.1) is) ∙ end)

    name_by : (is : letter t ≡ (false, terminal.Name)) (b : Bool) → next_is_name (head ts) ≡ b
        → Law Stmt (behind t StF) SX SS l ts
        (elim b [ true ↦ give (local [] (class_type (ident_of t))) (declared_in expression arguments left ts) | false ↦ named_in expression arguments left (further_in expression arguments left left) left (named t.from (ident_of t)) (call t.from (ident_of t)) ts ])
    name_by is true follows =
        give_at (List Decl) Stmt (SF expression arguments expression_law left l sum) never any (behind t StF) SX SS (local [] (class_type (ident_of t))) l
        (λ May ds us k r h. (l, t ∷ us, ([], refl, refl, refl, refl), (l, us, (t, (is, refl), refl, refl), h))) (λ ds h none. absurd none) (λ ds h s takes. cc) ts (declared_in expression arguments left ts) (λ May s us k r same h. inl (back s May us k r same (fits_token form.Name (ap form_of is) May s us k r h) h)) (declared_law expression arguments expression_law left l sum ts)
      where
        back : (s : Stmt) (May : Limit) (us : List Token) (k : ℕ) (r : List Token) → head us ≡ head ts → fits s form.Name ≡ true → statement May s l (t ∷ us) k r
            → (ds : List Decl) × (s ≡ local [] (class_type (ident_of t)) ds) × SF expression arguments expression_law left l sum May ds l us k r
        back (local mods kind ds) May us k r same fit h = let got = class_back is May mods kind ds us k r h in (ds, got.0, got.1)
        back (set a e) May us k r same fit h = absurd (name_clash May (set a e) us k r (ap next_is_name same ∙ follows) (behind_name is May (set a e) us k r refl h))
        back (step a up) May us k r same fit h = absurd (name_clash May (step a up) us k r (ap next_is_name same ∙ follows) (behind_name is May (step a up) us k r refl h))
        back (run e) May us k r same fit h = absurd (name_clash May (run e) us k r (ap next_is_name same ∙ follows) (behind_name is May (run e) us k r refl h))
        back s May us k r same fit h = absurd (cc)
    name_by is false follows =
        recast_at Stmt (NameF l t) (behind t StF) never SX Closed SS l (named_statement_at) (λ s h none. absurd none) (λ s h closed_is takes. let f : true ≡ false = sym takes ∙ closed_is in cc) ts
        (named_in expression arguments left (further_in expression arguments left left) left (named t.from (ident_of t)) (call t.from (ident_of t)) ts) (λ May s us k r same h. inl (back s May us k r same (fits_token form.Name (ap form_of is) May s us k r h) h))
        (settle_law Stmt (NameF l t) never any Closed l (λ s us h _. named_closed any_level l t s l us l [] h) ts (named_in expression arguments left (further_in expression arguments left left) left (named t.from (ident_of t)) (call t.from (ident_of t)) ts)
        (named_law expression arguments expression_law arguments_law arguments_sample left l sum left l sum (further_in expression arguments left left) reached_exact (named t.from (ident_of t)) (call t.from (ident_of t)) (refl, refl, refl) (λ es. (refl, refl, refl)) ts))
      where
        named_statement_at : (May : Limit) (s : Stmt) (us : List Token) (k : ℕ) (r : List Token) → NameF l t May s l us k r → statement May s l (t ∷ us) k r
        named_statement_at May s us k r h = named_statement May l t is s us k r h

        back : (s : Stmt) (May : Limit) (us : List Token) (k : ℕ) (r : List Token) → head us ≡ head ts → fits s form.Name ≡ true → statement May s l (t ∷ us) k r → NameF l t May s l us k r
        back (local mods kind ds) May us k r same fit h = absurd (no_decl ds (class_back is May mods kind ds us k r h).1)
          where
            no_decl : (ds : List Decl) → SF expression arguments expression_law left l sum May ds l us k r → ⊥
            no_decl [] (m, mid, g, g') = g.0
            no_decl (d ∷ ds) (m, mid, (m1, mid1, (m2, mid2, hn, hv), hm), g') =
                let e : next_is_name (head us) ≡ true = ap is_name (name_head false d.name l us m2 mid2 hn) in let e' : next_is_name (head us) ≡ false = ap next_is_name same ∙ follows in cc
        back (set a e) May us k r same fit h = behind_name is May (set a e) us k r refl h
        back (step a up) May us k r same fit h = behind_name is May (step a up) us k r refl h
        back (run e) May us k r same fit h = behind_name is May (run e) us k r refl h
        back s May us k r same fit h = absurd (cc)

    name_law_at : form_of (letter t) ≡ form.Name → Law Stmt StF SX SS l (t ∷ ts) (behind_name_in expression arguments left None t ts)
    name_law_at is =
        behind_law Stmt StF SX SS l t (plain_token terminal.Name (name_letter (letter t) is) (λ f. cc)) ts (behind_name_in expression arguments left None t ts) (name_by (name_letter (letter t) is) (next_is_name (head ts)) refl)

    this_law_at : form_of (letter t) ≡ form.This → Law Stmt StF SX SS l (t ∷ ts) (reached_in expression arguments left (further_in expression arguments left left) Bare (this t.from) ts)
    this_law_at is =
        behind_law Stmt StF SX SS l t (plain_token terminal.This this_is (λ f. cc)) ts (reached_in expression arguments left (further_in expression arguments left left) Bare (this t.from) ts)
        (recast_at Stmt (TailF l (this t.from)) (behind t StF) never SX Closed SS l (λ May s us k r h. this_statement May l t this_is s us k r h) (λ s h none. absurd none) (λ s h closed_is takes. let f : true ≡ false = sym takes ∙ closed_is in cc) ts
        (reached_in expression arguments left (further_in expression arguments left left) Bare (this t.from) ts) (λ May s us k r same h. inl (back s May us k r (fits_token form.This is May s us k r h) h))
        (settle_law Stmt (TailF l (this t.from)) never any Closed l (λ s us h _. tail_closed any_level l (this t.from) s l us l [] h) ts (reached_in expression arguments left (further_in expression arguments left left) Bare (this t.from) ts)
        (reached_exact Bare (this t.from) (refl, refl, refl) ts)))
      where
        this_is : letter t ≡ (false, terminal.This)
        this_is = this_letter (letter t) is

        back : (s : Stmt) (May : Limit) (us : List Token) (k : ℕ) (r : List Token) → fits s form.This ≡ true → statement May s l (t ∷ us) k r → Tail May l (this t.from) s l us k r
        back (set a e) May us k r fit h = behind_this this_is May (set a e) us k r refl h
        back (step a up) May us k r fit h = behind_this this_is May (step a up) us k r refl h
        back (run e) May us k r fit h = behind_this this_is May (run e) us k r refl h
        back s May us k r fit h = absurd (cc)

  -- ALL FORMS

  module _ (left l : ℕ) (sum : l + left ≡ 64) (under : Option (Reader Stmt)) (u : Under expression arguments l left under) where
    by_form : (t : Token) (ts : List Token) (f : Form) → form_of (letter t) ≡ f → Law Stmt StF SX SS l (t ∷ ts) (statement_by expression arguments left under f t ts)
    by_form t ts form.Block is = block_law expression arguments expression_law left l sum under u t ts is
    by_form t ts form.Blank is = blank_law expression arguments expression_law left l sum under u t ts is
    by_form t ts form.If is = choice_law expression arguments expression_law left l sum under u t ts is
    by_form t ts form.While is = while_law expression arguments expression_law left l sum under u t ts is
    by_form t ts form.Return is = return_law expression arguments expression_law left l sum under u t ts is
    by_form t ts form.Local is = local_law expression arguments expression_law left l sum under u t ts is
    by_form t ts form.Name is = name_law_at left l sum t ts is
    by_form t ts form.This is = this_law_at left l sum t ts is
    by_form t ts form.None is = none_law expression arguments expression_law left l sum under u t ts is

    statement_in_law : Exact Stmt StF SX SS l (statement_in expression arguments left under)
    statement_in_law [] = record {
      front = [];
      parts = refl;
      plain = tt;
      before = record { more = (statement_sample l).tokens; tree = (statement_sample l).tree; is = λ May c allows. (statement_sample l).is May c (λ k r lt. allows k r (inr lt)) };
      only = λ May c h s k r parse. absurd (back s (subst (λ (v : Option Token). fits s (head_form v) ≡ true) (sym h) (statement_fits May s l c k r parse)));
    }
      where
        back : (s : Stmt) → fits s form.None ≡ true → ⊥
        back (block ss) fit = cc
        back s fit = cc
    statement_in_law (t ∷ ts) = by_form t ts (form_of (letter t)) refl

  -- at each level
  pub statement_law : (left l : ℕ) → l + left ≡ 64 → Exact Stmt StF SX SS l (statement_at expression arguments left)
  unfolding statement_at
  statement_law zero l sum = statement_in_law zero l sum None (at_top (omega arith))
  statement_law (suc left) l sum = statement_in_law (suc left) l sum (Some (statement_at expression arguments left)) (below left (statement_at expression arguments left) (omega arith) (statement_law left (suc l) (omega arith)))
