-- The laws of assignments and calls: what stands before each `.` is read before what stands behind it.
use Rattle.std.proofs.Common.{◌≡◌, ◌⊎◌, ℕ, zero, suc, ◌+◌, Bool, true, false, List, [], ◌∷◌, Option, Some, None, refl, sym, ap, ◌∙◌, subst, inl, inr, arith}
use Rattle.java_lex.specs.declared.spelling.Terminal.{Terminal}
use Rattle.java_lex.specs.declared.spelling.Terminal.TheVariants as terminal
use Rattle.java_lex.specs.declared.token.Token.{Token}
use Rattle.java_lex.specs.Terminals.{terminal_of}
use Rattle.java_tree.specs.declared.names.Ident.{Ident}
use Rattle.java_tree.specs.Trees.{Expr, read, call_on, Exprs, Stmt, set, step, run}
use Rattle.java_tree.specs.Phrases.{Limit, Letter, ◌▸◌, letter, one, name}
use Rattle.java_tree.specs.Expressions.{place}
use Rattle.java_tree.specs.Statements.{is_target, stepped}
use Rattle.reading_core.specs.Read.{Read, Got, Bad, at_side, ◌>>=◌}
use Rattle.java_reading.specs.declared.form.Reached.{Reached}
use Rattle.java_reading.specs.declared.form.Reached.TheVariants.{Place, Call}
use Rattle.java_reading.specs.declared.form.Turn.{Turn}
use Rattle.java_reading.specs.declared.form.Turn.TheVariants.{Assigns, Up, Down, Ends, Goes, Fails}
use Rattle.java_reading.specs.declared.marks.Fixed.TheVariants.{OpenParen, Semicolon, Dot}
use Rattle.java_reading.specs.Readers.{Reader, head, give, and_then, deeper_by}
use Rattle.java_reading.specs.Tokens.{is_fixed, stands, fixed, name_in, at_head, next_is}
use Rattle.java_reading.specs.StatementReading.{turn_of, assigned_in, turn_in, reached_in, named_in, further_in}
use Rattle.java_reading.proofs.Law.{Family, never, any, Sample, Exact, Law}
use Rattle.java_reading.proofs.Seq.{seq, seq_sample}
use Rattle.java_reading.proofs.Parts.{give_law, give_sample, behind, behind_law, bind_law, recast_law, second_with, tails}
use Rattle.java_reading.proofs.Levels.{Below, full, room, opened, by_level}
use Rattle.java_reading.proofs.TokenLaws.{fixed_is, fixed_law, fixed_decided, name_law, name_sample, one_head, on_is}
use Rattle.java_reading.proofs.Shapes.{then_it, then_fixed}
use Rattle.java_reading.proofs.Starts.{arguments_start}
use Rattle.java_reading.proofs.DeclarationLaws.{EF, EX, no_extension}
use Rattle.java_reading.proofs.Tails.{from_level, level_law, ArgsF, Tail, sets, steps, runs, reads, calls, TailF, NamedF, one_tail, TurnFact, turn_fact, Matches, matches_place, matches_run, matches_target, place_matches, call_matches, tail_sample, named_sample, TailHead, tail_head}

-- LAWS

module _ (expression : ℕ → Reader Expr) (arguments : ℕ → Reader Exprs)
    (expression_law : (left l : ℕ) → l + left ≡ 64 → Exact Expr EF EX any l (expression left))
    (arguments_law : (left l : ℕ) → l + left ≡ 64 → Exact Exprs ArgsF never any l (arguments left))
    (arguments_sample : (l : ℕ) → Sample Exprs ArgsF l)
    (base l0 : ℕ) (base_sum : l0 + base ≡ 64) where
  -- behind the first token of a tail
  module _ (r : Reached) (e : Expr) (matches : Matches r e) (l : ℕ) (further : Option (Expr → Reader Stmt)) (t : Token) (ts : List Token) where
    abbrev BF : Family Stmt
    BF = behind t (TailF l0 e)

    sets_law : at_side false t ≡ terminal.Assign → r ≡ Place → Law Stmt BF never any l ts (assigned_in expression arguments base further e ts)
    sets_law is place_is =
        give_law (Expr × Unit {0}) Stmt (from_level l0 (then_it false Semicolon refl (λ e. cc) EF)) never any BF never any (λ x. set e x.0)
        (λ May x m us k rest h. sets x.0 (place_matches r e matches place_is) (l0, us, (t, on_is false (letter t) terminal.Assign is (λ f. cc), refl, refl), h.0) h.1)
        (λ x h none. none) (λ x h s. tt) l ts (and_then (expression base ts) (λ v. fixed false Semicolon)) (λ May s us k rest same h. inl (back May s us k rest h))
        (level_law (Expr × Unit {0}) (then_it false Semicolon refl (λ e. cc) EF) never any l0 l ts (and_then (expression base ts) (λ v. fixed false Semicolon))
        (then_fixed false Semicolon refl (λ e. cc) Expr EF EX any (λ v h x at. no_extension Semicolon refl h at x) l0 (expression base) (expression_law base l0 base_sum) ts))
      where
        back : (May : Limit) (s : Stmt) (us : List Token) (k : ℕ) (rest : List Token) → Tail May l0 e s l (t ∷ us) k rest → (x : Expr × Unit {0}) × (s ≡ set e x.0) × from_level l0 (then_it false Semicolon refl (λ e. cc) EF) May x l us k rest
        back May s us k rest (sets v is' h up) = ((v, tt), refl, ((one_tail terminal.Assign (then_it false Semicolon refl (λ e. cc) EF May (v, tt)) t l0 us l0 rest h).1, up))
        back May s us k rest (steps true is' (m, mid, h, h') up) = let f : terminal.Assign ≡ terminal.Increment = sym is ∙ one_head false terminal.Increment l0 (t ∷ us) m mid h in cc
        back May s us k rest (steps false is' (m, mid, h, h') up) = let f : terminal.Assign ≡ terminal.Decrement = sym is ∙ one_head false terminal.Decrement l0 (t ∷ us) m mid h in cc
        back May s us k rest (runs is' h up) = let f : terminal.Assign ≡ terminal.Semicolon = sym is ∙ one_head false terminal.Semicolon l0 (t ∷ us) l0 rest h in cc
        back May s us k rest (reads i (m, mid, h, h') h2 h3 up) = let f : terminal.Assign ≡ terminal.Dot = sym is ∙ one_head false terminal.Dot l (t ∷ us) m mid h in cc
        back May s us k rest (calls i args (m, mid, h, h') h2 h3 h4 up) = let f : terminal.Assign ≡ terminal.Dot = sym is ∙ one_head false terminal.Dot l (t ∷ us) m mid h in cc

    stepped_law : (up : Bool) → at_side false t ≡ stepped up → r ≡ Place → Law Stmt BF never any l ts (give (λ (u : Unit {0}). step e up) (fixed false Semicolon ts))
    stepped_law up is place_is =
        give_law (Unit {0}) Stmt (from_level l0 (λ May u. one (false, terminal.Semicolon))) never any BF never any (λ u. step e up)
        (λ May x m us k rest h. steps up (place_matches r e matches place_is) (l0, us, (t, on_is false (letter t) (stepped up) is (real up), refl, refl), h.0) h.1)
        (λ x h none. none) (λ x h s. tt) l ts (fixed false Semicolon ts) (λ May s us k rest same h. inl (by up is May s us k rest h))
        (level_law (Unit {0}) (λ May u. one (false, terminal.Semicolon)) never any l0 l ts (fixed false Semicolon ts) (fixed_law false Semicolon refl (λ e. cc) l0 ts))
      where
        real : (up : Bool) → stepped up ≡ terminal.Reserved → ⊥
        real true f = cc
        real false f = cc

        by : (up : Bool) → at_side false t ≡ stepped up → (May : Limit) (s : Stmt) (us : List Token) (k : ℕ) (rest : List Token) → Tail May l0 e s l (t ∷ us) k rest → (x : Unit {0}) × (s ≡ step e up) × from_level l0 (λ May u. one (false, terminal.Semicolon)) May x l us k rest
        by true is = back
          where
            back : (May : Limit) (s : Stmt) (us : List Token) (k : ℕ) (rest : List Token) → Tail May l0 e s l (t ∷ us) k rest → (x : Unit {0}) × (s ≡ step e true) × from_level l0 (λ May u. one (false, terminal.Semicolon)) May x l us k rest
            back May s us k rest (sets v is' (m, mid, h, h') up) = let f : terminal.Increment ≡ terminal.Assign = sym is ∙ one_head false terminal.Assign l0 (t ∷ us) m mid h in cc
            back May s us k rest (steps true is' h up) = (tt, refl, ((one_tail terminal.Increment (one (false, terminal.Semicolon)) t l0 us l0 rest h).1, up))
            back May s us k rest (steps false is' (m, mid, h, h') up) = let f : terminal.Increment ≡ terminal.Decrement = sym is ∙ one_head false terminal.Decrement l0 (t ∷ us) m mid h in cc
            back May s us k rest (runs is' h up) = let f : terminal.Increment ≡ terminal.Semicolon = sym is ∙ one_head false terminal.Semicolon l0 (t ∷ us) l0 rest h in cc
            back May s us k rest (reads i (m, mid, h, h') h2 h3 up) = let f : terminal.Increment ≡ terminal.Dot = sym is ∙ one_head false terminal.Dot l (t ∷ us) m mid h in cc
            back May s us k rest (calls i args (m, mid, h, h') h2 h3 h4 up) = let f : terminal.Increment ≡ terminal.Dot = sym is ∙ one_head false terminal.Dot l (t ∷ us) m mid h in cc
        by false is = back
          where
            back : (May : Limit) (s : Stmt) (us : List Token) (k : ℕ) (rest : List Token) → Tail May l0 e s l (t ∷ us) k rest → (x : Unit {0}) × (s ≡ step e false) × from_level l0 (λ May u. one (false, terminal.Semicolon)) May x l us k rest
            back May s us k rest (sets v is' (m, mid, h, h') up) = let f : terminal.Decrement ≡ terminal.Assign = sym is ∙ one_head false terminal.Assign l0 (t ∷ us) m mid h in cc
            back May s us k rest (steps true is' (m, mid, h, h') up) = let f : terminal.Decrement ≡ terminal.Increment = sym is ∙ one_head false terminal.Increment l0 (t ∷ us) m mid h in cc
            back May s us k rest (steps false is' h up) = (tt, refl, ((one_tail terminal.Decrement (one (false, terminal.Semicolon)) t l0 us l0 rest h).1, up))
            back May s us k rest (runs is' h up) = let f : terminal.Decrement ≡ terminal.Semicolon = sym is ∙ one_head false terminal.Semicolon l0 (t ∷ us) l0 rest h in cc
            back May s us k rest (reads i (m, mid, h, h') h2 h3 up) = let f : terminal.Decrement ≡ terminal.Dot = sym is ∙ one_head false terminal.Dot l (t ∷ us) m mid h in cc
            back May s us k rest (calls i args (m, mid, h, h') h2 h3 h4 up) = let f : terminal.Decrement ≡ terminal.Dot = sym is ∙ one_head false terminal.Dot l (t ∷ us) m mid h in cc

    -- the `;` behind a call
    ends_law : at_side false t ≡ terminal.Semicolon → r ≡ Call → Law Stmt BF never any l ts (Got (run e) ts)
    ends_law is call_is = record {
      front = [];
      parts = refl;
      plain = tt;
      sound = λ May allows c. runs (call_matches r e matches call_is) (t, on_is false (letter t) terminal.Semicolon is (λ f. cc), refl, refl) refl;
      stop = tt;
      only = λ May c h s k rest parse. inl (back May s c k rest parse);
    }
      where
        back : (May : Limit) (s : Stmt) (us : List Token) (k : ℕ) (rest : List Token) → Tail May l0 e s l (t ∷ us) k rest → (s ≡ run e) × (k ≡ l) × (rest ≡ us)
        back May s us k rest (sets v is' (m, mid, h, h') up) = let f : terminal.Semicolon ≡ terminal.Assign = sym is ∙ one_head false terminal.Assign l0 (t ∷ us) m mid h in cc
        back May s us k rest (steps true is' (m, mid, h, h') up) = let f : terminal.Semicolon ≡ terminal.Increment = sym is ∙ one_head false terminal.Increment l0 (t ∷ us) m mid h in cc
        back May s us k rest (steps false is' (m, mid, h, h') up) = let f : terminal.Semicolon ≡ terminal.Decrement = sym is ∙ one_head false terminal.Decrement l0 (t ∷ us) m mid h in cc
        back May s us k rest (runs is' (t', its, parts, same) up) = (refl, up, tails t t' us rest parts)
        back May s us k rest (reads i (m, mid, h, h') h2 h3 up) = let f : terminal.Semicolon ≡ terminal.Dot = sym is ∙ one_head false terminal.Dot l (t ∷ us) m mid h in cc
        back May s us k rest (calls i args (m, mid, h, h') h2 h3 h4 up) = let f : terminal.Semicolon ≡ terminal.Dot = sym is ∙ one_head false terminal.Dot l (t ∷ us) m mid h in cc

    -- a token that makes nothing of it
    fails_law : TurnFact r (at_side false t) Fails → Law Stmt (TailF l0 e) never any l (t ∷ ts) (Bad (t ∷ ts))
    fails_law fact = record {
      front = [];
      parts = refl;
      plain = tt;
      before = record { more = s.tokens; tree = s.tree; is = λ May c allows. s.is May c (λ k rest lt. allows k rest (inr lt)) };
      only = λ May c h b k rest parse. no_tail (at_head false (head c)) (subst (λ (x : Terminal). TurnFact r x Fails) (ap (at_head false) h) fact) (tail_head May l0 e b l c k rest parse);
    }
      where
        s : Sample Stmt (TailF l0 e) l
        s = tail_sample l0 e (matches_target r e matches) l

        no_tail : (x : Terminal) → TurnFact r x Fails → TailHead e x → ⊥
        no_tail x fact (inl (is, place_is)) = fact.1 is (matches_place r e matches place_is)
        no_tail x fact (inr (inl (is, place_is))) = fact.2 is (matches_place r e matches place_is)
        no_tail x fact (inr (inr (inl (is, place_is)))) = fact.3 is (matches_place r e matches place_is)
        no_tail x fact (inr (inr (inr (inl (is, call_is))))) = fact.4 is (matches_run r e matches call_is)
        no_tail x fact (inr (inr (inr (inr is)))) = fact.0 is

  -- NAME [ Args ] and so on, behind a `.`
  abbrev pub NextF : Expr → Family Stmt
  NextF e May s m us k rest = (i : Ident) × (name false i ▸ NamedF l0 (read (place e) e i) (call_on (place e) e i) May s) m us k rest

  pub next_sample : (e : Expr) → is_target e ≡ true → (l : ℕ) → Sample Stmt (NextF e) l
  next_sample e target l =
      give_sample (Ident × Stmt) Stmt (seq (λ May i. name false i) (λ i. NamedF l0 (read (place e) e i) (call_on (place e) e i))) (NextF e) (λ x. x.1) l (λ May x us k r h. (x.0, h))
      (seq_sample Ident Stmt (λ May i. name false i) (λ i. NamedF l0 (read (place e) e i) (call_on (place e) e i)) l (name_sample false l) (λ i. named_sample l0 (read (place e) e i) (call_on (place e) e i) target l))

  abbrev pub further_of : Option (Expr → Reader Stmt) → Expr → Option (Reader Stmt)
  further_of None e = None
  further_of (Some go) e = Some (go e)

  module _ (r : Reached) (e : Expr) (matches : Matches r e) (l : ℕ) (further : Option (Expr → Reader Stmt)) where
    -- a `.`
    goes_law : (t : Token) (ts : List Token) → Below Stmt (NextF e) never any l (further_of further e) → at_side false t ≡ terminal.Dot
        → Law Stmt (TailF l0 e) never any l (t ∷ ts) (turn_in expression arguments base further e t ts Goes)
    goes_law t ts below is =
        subst (λ (o : Read Stmt). Law Stmt (TailF l0 e) never any l (t ∷ ts) o) (same further)
        (give_law (Unit {0} × Stmt) Stmt (opened (λ u v. letter v ≡ (false, terminal.Dot)) (NextF e)) never any (TailF l0 e) never any (λ x. x.1) to (λ x h none. none) (λ x h s. tt) l (t ∷ ts) (deeper_by (further_of further e) (t ∷ ts) tt ts) back
        (by_level (Unit {0}) Stmt (λ u v. letter v ≡ (false, terminal.Dot)) (stands false Dot) (λ v. tt) (fixed_decided false Dot refl (λ e. cc)) (NextF e) never any (next_sample e (matches_target r e matches)) l t ts (ap (is_fixed Dot) is) (further_of further e) below))
      where
        same : (f : Option (Expr → Reader Stmt)) → give (λ (x : Unit {0} × Stmt). x.1) (deeper_by (further_of f e) (t ∷ ts) tt ts) ≡ turn_in expression arguments base f e t ts Goes
        same None = refl
        same (Some go) = second_with tt (go e ts)

        to : (May : Limit) (x : Unit {0} × Stmt) (m : ℕ) (us : List Token) (k : ℕ) (rest : List Token) → opened (λ u v. letter v ≡ (false, terminal.Dot)) (NextF e) May x m us k rest → TailF l0 e May x.1 m us k rest
        to May x m us k rest (n, (l1, us1, h1, (j, us2, h2, (i, (m3, us3, h3, inl tail)))), up) = reads i (l1, us1, h1, h2) h3 tail up
        to May x m us k rest (n, (l1, us1, h1, (j, us2, h2, (i, (m3, us3, h3, inr (args, (m4, us4, h4, tail)))))), up) = calls i args (l1, us1, h1, h2) h3 h4 tail up

        back : (May : Limit) (s : Stmt) (us : List Token) (k : ℕ) (rest : List Token) → head us ≡ Some t → TailF l0 e May s l us k rest
            → ((x : Unit {0} × Stmt) × (s ≡ x.1) × opened (λ u v. letter v ≡ (false, terminal.Dot)) (NextF e) May x l us k rest) ⊎ ⊥
        back May s us k rest h (reads i (l1, us1, h1, h2) h3 tail up) = inl ((tt, s), refl, (_, (l1, us1, h1, (_, _, h2, (i, (_, _, h3, inl tail)))), up))
        back May s us k rest h (calls i args (l1, us1, h1, h2) h3 h4 tail up) = inl ((tt, s), refl, (_, (l1, us1, h1, (_, _, h2, (i, (_, _, h3, inr (args, (_, _, h4, tail)))))), up))
        back May s us k rest h (sets v is' (m, mid, g, g') up) = let f : terminal.Dot ≡ terminal.Assign = sym is ∙ ap (at_head false) (sym h) ∙ one_head false terminal.Assign l0 us m mid g in cc
        back May s us k rest h (steps true is' (m, mid, g, g') up) = let f : terminal.Dot ≡ terminal.Increment = sym is ∙ ap (at_head false) (sym h) ∙ one_head false terminal.Increment l0 us m mid g in cc
        back May s us k rest h (steps false is' (m, mid, g, g') up) = let f : terminal.Dot ≡ terminal.Decrement = sym is ∙ ap (at_head false) (sym h) ∙ one_head false terminal.Decrement l0 us m mid g in cc
        back May s us k rest h (runs is' g up) = let f : terminal.Dot ≡ terminal.Semicolon = sym is ∙ ap (at_head false) (sym h) ∙ one_head false terminal.Semicolon l0 us l0 rest g in cc

    plain_of : (t : Token) (x : Terminal) → at_side false t ≡ x → (x ≡ terminal.Reserved → ⊥) → (x ≡ terminal.End → ⊥) → terminal_of t ≡ terminal.End → ⊥
    plain_of t x is real not_end end = let f : letter t ≡ (false, x) = on_is false (letter t) x is real in not_end (sym (ap (λ (z : Letter). z.1) f) ∙ end)

    reached_by : (t : Token) (ts : List Token) → Below Stmt (NextF e) never any l (further_of further e) → (w : Turn) → TurnFact r (at_side false t) w → Law Stmt (TailF l0 e) never any l (t ∷ ts) (turn_in expression arguments base further e t ts w)
    reached_by t ts below Assigns is = behind_law Stmt (TailF l0 e) never any l t (plain_of t terminal.Assign is.0 (λ f. cc) (λ f. cc)) ts (assigned_in expression arguments base further e ts) (sets_law r e matches l further t ts is.0 is.1)
    reached_by t ts below Up is = behind_law Stmt (TailF l0 e) never any l t (plain_of t terminal.Increment is.0 (λ f. cc) (λ f. cc)) ts (give (λ (u : Unit {0}). step e true) (fixed false Semicolon ts)) (stepped_law r e matches l further t ts true is.0 is.1)
    reached_by t ts below Down is = behind_law Stmt (TailF l0 e) never any l t (plain_of t terminal.Decrement is.0 (λ f. cc) (λ f. cc)) ts (give (λ (u : Unit {0}). step e false) (fixed false Semicolon ts)) (stepped_law r e matches l further t ts false is.0 is.1)
    reached_by t ts below Ends is = behind_law Stmt (TailF l0 e) never any l t (plain_of t terminal.Semicolon is.0 (λ f. cc) (λ f. cc)) ts (Got (run e) ts) (ends_law r e matches l further t ts is.0 is.1)
    reached_by t ts below Goes is = goes_law t ts below is
    reached_by t ts below Fails is = fails_law r e matches l further t ts is

    pub reached_law : Below Stmt (NextF e) never any l (further_of further e) → Exact Stmt (TailF l0 e) never any l (reached_in expression arguments base further r e)
    reached_law below [] = record {
      front = [];
      parts = refl;
      plain = tt;
      before = record { more = s.tokens; tree = s.tree; is = λ May c allows. s.is May c (λ k rest lt. allows k rest (inr lt)) };
      only = λ May c h b k rest parse. no_tail (at_head false (head c)) (ap (at_head false) (sym h)) (tail_head May l0 e b l c k rest parse);
    }
      where
        s : Sample Stmt (TailF l0 e) l
        s = tail_sample l0 e (matches_target r e matches) l

        no_tail : (x : Terminal) → x ≡ terminal.Reserved → TailHead e x → ⊥
        no_tail x res (inl (is, place_is)) = cc
        no_tail x res (inr (inl (is, place_is))) = cc
        no_tail x res (inr (inr (inl (is, place_is)))) = cc
        no_tail x res (inr (inr (inr (inl (is, call_is))))) = cc
        no_tail x res (inr (inr (inr (inr is)))) = cc
    reached_law below (t ∷ ts) = reached_by t ts below (turn_of r (at_side false t)) (turn_fact r (at_side false t))

  module _ (left l : ℕ) (sum : l + left ≡ 64) (further : Option (Expr → Reader Stmt)) (reached : (r : Reached) (e : Expr) → Matches r e → Exact Stmt (TailF l0 e) never any l (reached_in expression arguments base further r e))
      (plain : Expr) (with_ : Exprs → Expr) (plain_is : Matches Place plain) (with_is : (es : Exprs) → Matches Call (with_ es)) where
    named_by : (ts : List Token) (b : Bool) → next_is false OpenParen (head ts) ≡ b → Law Stmt (NamedF l0 plain with_) never any l ts
        (elim b [ true ↦ arguments left ts >>= (λ es rest. reached_in expression arguments base further Call (with_ es) rest) | false ↦ reached_in expression arguments base further Place plain ts ])
    named_by ts true is =
        bind_law Exprs Stmt ArgsF never any (λ es. TailF l0 (with_ es)) (λ es. never) (λ es. any) (λ es m. tail_sample l0 (with_ es) (matches_target Call (with_ es) (with_is es)) m) (λ es May s m us k r h none. absurd none)
        (NamedF l0 plain with_) never any (λ May x m us k r h. inr (x.0, h)) (λ x h none. none) (λ x h s. tt) l ts (arguments left ts) (arguments_law left l sum ts) (λ es. reached_in expression arguments base further Call (with_ es))
        (λ es mid got. reached Call (with_ es) (with_is es) mid) back
      where
        back : (May : Limit) (s : Stmt) (us : List Token) (k : ℕ) (r : List Token) → head us ≡ head ts → NamedF l0 plain with_ May s l us k r → ((x : Exprs × Stmt) × (s ≡ x.1) × seq ArgsF (λ es. TailF l0 (with_ es)) May x l us k r) ⊎ ⊥
        back May s us k r h (inr (es, parse)) = inl ((es, s), refl, parse)
        back May s us k r h (inl tail) = absurd (none (at_head false (head us)) (fixed_is OpenParen (at_head false (head us)) (ap (next_is false OpenParen) h ∙ is)) (tail_head May l0 plain s l us k r tail))
          where
            none : (x : Terminal) → x ≡ terminal.OpenParen → TailHead plain x → ⊥
            none x open_is (inl e) = let f : terminal.OpenParen ≡ terminal.Assign = sym open_is ∙ e.0 in cc
            none x open_is (inr (inl e)) = let f : terminal.OpenParen ≡ terminal.Increment = sym open_is ∙ e.0 in cc
            none x open_is (inr (inr (inl e))) = let f : terminal.OpenParen ≡ terminal.Decrement = sym open_is ∙ e.0 in cc
            none x open_is (inr (inr (inr (inl e)))) = let f : terminal.OpenParen ≡ terminal.Semicolon = sym open_is ∙ e.0 in cc
            none x open_is (inr (inr (inr (inr e)))) = let f : terminal.OpenParen ≡ terminal.Dot = sym open_is ∙ e in cc
    named_by ts false is =
        recast_law Stmt (TailF l0 plain) (NamedF l0 plain with_) never never any (λ May s m us k r h. inl h) (λ s h none. none) l ts (reached_in expression arguments base further Place plain ts) back (reached Place plain plain_is ts)
      where
        back : (May : Limit) (s : Stmt) (us : List Token) (k : ℕ) (r : List Token) → head us ≡ head ts → NamedF l0 plain with_ May s l us k r → TailF l0 plain May s l us k r ⊎ ⊥
        back May s us k r h (inl tail) = inl tail
        back May s us k r h (inr (es, (m, mid, args, rest))) =
            let e : next_is false OpenParen (head us) ≡ true = ap (is_fixed OpenParen) (arguments_start May es l us m mid args) in
            let e' : next_is false OpenParen (head us) ≡ false = ap (next_is false OpenParen) h ∙ is in
            cc

    pub named_law : Exact Stmt (NamedF l0 plain with_) never any l (named_in expression arguments base further left plain with_)
    named_law ts = named_by ts (next_is false OpenParen (head ts)) refl

  next_exact : (left l : ℕ) → l + left ≡ 64 → ((e : Expr) → is_target e ≡ true → Below Stmt (NextF e) never any l (further_of (further_in expression arguments base left) e)) → (e : Expr) → is_target e ≡ true
      → Exact Stmt (NextF e) never any l (λ ts. name_in false ts >>= (λ i rest. named_in expression arguments base (further_in expression arguments base left) left (read (place e) e i) (call_on (place e) e i) rest))
  next_exact left l sum below e target ts =
      bind_law Ident Stmt (λ May i. name false i) never any (λ i. NamedF l0 (read (place e) e i) (call_on (place e) e i)) (λ i. never) (λ i. any) (λ i m. named_sample l0 (read (place e) e i) (call_on (place e) e i) target m) (λ i May s m us k r h none. absurd none)
      (NextF e) never any (λ May x m us k r h. (x.0, h)) (λ x h none. none) (λ x h s. tt) l ts (name_in false ts) (name_law false l ts)
      (λ i. named_in expression arguments base (further_in expression arguments base left) left (read (place e) e i) (call_on (place e) e i))
      (λ i mid got. named_law left l sum (further_in expression arguments base left) (λ r e' m. reached_law r e' m l (further_in expression arguments base left) (below e' (matches_target r e' m)))
      (read (place e) e i) (call_on (place e) e i) (target, target, refl) (λ es. (target, refl, target)) mid)
      (λ May s us k r h parse. inl ((parse.0, s), refl, parse.1))

  -- the readers behind a `.` are exact
  pub further_below : (left l : ℕ) → l + left ≡ 64 → (e : Expr) → is_target e ≡ true → Below Stmt (NextF e) never any l (further_of (further_in expression arguments base left) e)
  further_below zero l sum e target = full (omega arith)
  further_below (suc left) l sum e target = room _ (omega arith) (next_exact left (suc l) (omega arith) (further_below left (suc l) (omega arith)) e target)
