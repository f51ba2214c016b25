-- The laws of statements that begin with a word or a symbol.
use Rattle.std.proofs.Common.{◌≡◌, ◌⊎◌, ℕ, zero, suc, ◌+◌, ◌≤◌, Bool, true, false, List, [], ◌∷◌, Option, Some, None, refl, sym, ap, ◌∙◌, subst, inl, inr, arith}
use Rattle.java_lex.specs.declared.spelling.Terminal.{Terminal}
use Rattle.java_lex.specs.declared.spelling.Terminal.TheVariants as terminal
use Rattle.java_lex.specs.declared.token.Token.{Token}
use Rattle.java_tree.specs.declared.names.Modifier.{Modifier}
use Rattle.java_tree.specs.declared.names.TypeTree.{TypeTree}
use Rattle.java_tree.specs.Trees.{Expr, Exprs, Decl, Stmt, block, blank, if_only, if_else, loops, gives_back, local, Stmts, done, next}
use Rattle.java_tree.specs.Phrases.{Limit, Letter, ◌▸◌, letter, one, one_at, closed, opens, where_, nothing}
use Rattle.java_tree.specs.Statements.{statement, statements, takes_else, condition, returned, is_local_modifier}
use Rattle.reading_core.specs.Read.{Got, Bad}
use Rattle.java_reading.specs.declared.form.Form.{Form}
use Rattle.java_reading.specs.declared.form.Form.TheVariants as form
use Rattle.java_reading.specs.declared.marks.Fixed.TheVariants.{OpenBrace, CloseBrace, OpenParen, CloseParen, Semicolon, If, Else, While, Return}
use Rattle.java_reading.specs.Readers.{Reader, head, give, and_then, opening, optional, repeat, lower}
use Rattle.java_reading.specs.Tokens.{is_fixed, stands, fixed, fixed_at, at_head, next_is}
use Rattle.java_reading.specs.Forms.{form_of, begins_statement}
use Rattle.java_reading.specs.Expressions.{starts}
use Rattle.java_reading.specs.StatementReading.{declared_in, local_in, modifiers_in, type_in, condition_in, returned_in, block_in, while_in, else_in, if_in, choice_of, headed_in, deeper_in, stmts_of}
use Rattle.java_reading.proofs.Law.{Family, Extends, never, any, Sample, Exact, Law}
use Rattle.java_reading.proofs.Seq.{seq, seq_law, seq_sample}
use Rattle.java_reading.proofs.Parts.{give_law, give_at, give_sample, tails}
use Rattle.java_reading.proofs.Levels.{Below, full, room, opened, opening_law, opened_sample}
use Rattle.java_reading.proofs.Many.{each, many_law, optional_of, optional_law, optional_sample, May_be, Rest}
use Rattle.java_reading.proofs.TokenLaws.{fixed_sample, fixed_decided, fixed_at_law, fixed_at_decided, one_head}
use Rattle.java_reading.proofs.Shapes.{then_it, then_fixed, then_fixed_sample}
use Rattle.java_reading.proofs.Starts.{expression_starts}
use Rattle.java_reading.proofs.DeclarationLaws.{EF, EX, ModsF, expression_sample, no_extension, next_at, mods_law}
use Rattle.java_reading.proofs.Beginnings.{head_form, fits, statement_fits, statement_begins, no_statement}

abbrev pub StF : Family Stmt
StF May s = statement May s

-- an `else` behind a statement that would take it
abbrev pub SX : Extends Stmt
SX s h = (next_is false Else h ≡ true) × (takes_else s ≡ true)

-- no `else` is left behind such a statement
abbrev pub SS : Extends Stmt
SS s h = takes_else s ≡ true → next_is false Else h ≡ false

pub statement_sample : (l : ℕ) → Sample Stmt StF l
statement_sample l = give_sample (Unit {0}) Stmt (λ May u. one (false, terminal.Semicolon)) StF (λ u. blank) l (λ May u us k r h. h) (fixed_sample false Semicolon refl (λ e. cc) l)

-- the reader of statements one level deeper, exactly below 64 levels
pub data Under (expression : ℕ → Reader Expr) (arguments : ℕ → Reader Exprs) (l : ℕ) : ℕ → Option (Reader Stmt) → Type 1 where
  at_top : 64 ≤ l → Under expression arguments l zero None
  below : (n : ℕ) (s : Reader Stmt) → suc l + n ≡ 64 → Exact Stmt StF SX SS (suc l) s → Under expression arguments l (suc n) (Some s)

jml_blank : (x : Terminal) → form_of (true, x) ≡ form.Blank → ⊥
jml_blank terminal.Nullable e = cc
jml_blank x e = cc

blank_letter : (z : Letter) → form_of z ≡ form.Blank → z ≡ (false, terminal.Semicolon)
blank_letter (true, x) e = absurd (jml_blank x e)
blank_letter (false, terminal.Semicolon) e = refl
blank_letter (false, x) e = absurd (cc)

jml_name : (x : Terminal) → form_of (true, x) ≡ form.Name → ⊥
jml_name terminal.Nullable e = cc
jml_name x e = cc

pub name_letter : (z : Letter) → form_of z ≡ form.Name → z ≡ (false, terminal.Name)
name_letter (true, x) e = absurd (jml_name x e)
name_letter (false, terminal.Name) e = refl
name_letter (false, x) e = absurd (cc)

jml_this : (x : Terminal) → form_of (true, x) ≡ form.This → ⊥
jml_this terminal.Nullable e = cc
jml_this x e = cc

pub this_letter : (z : Letter) → form_of z ≡ form.This → z ≡ (false, terminal.This)
this_letter (true, x) e = absurd (jml_this x e)
this_letter (false, terminal.This) e = refl
this_letter (false, x) e = absurd (cc)

module _ (expression : ℕ → Reader Expr) (arguments : ℕ → Reader Exprs) (expression_law : (left l : ℕ) → l + left ≡ 64 → Exact Expr EF EX any l (expression left)) where
  -- A CONDITION

  abbrev pub CF : Family Expr
  CF May c = condition May c

  abbrev pub InF : Family (Expr × Unit {0})
  InF = then_it false CloseParen refl (λ e. cc) EF

  in_sample : (m : ℕ) → Sample (Expr × Unit {0}) InF m
  in_sample m = then_fixed_sample false CloseParen refl (λ e. cc) Expr EF m (expression_sample m)

  in_below : (left l : ℕ) → l + left ≡ 64 → Below (Expr × Unit {0}) InF never any l (lower left (λ n ts. and_then (expression n ts) (λ e. fixed false CloseParen)))
  in_below zero l sum = full (omega arith)
  in_below (suc left) l sum = room _ (omega arith) (then_fixed false CloseParen refl (λ e. cc) Expr EF EX any (λ v h x at. no_extension CloseParen refl h at x) (suc l) (expression left) (expression_law left (suc l) (omega arith)))

  abbrev ParenF : Family (Unit {0} × (Expr × Unit {0}))
  ParenF = opened (λ u t. letter t ≡ (false, terminal.OpenParen)) InF

  pub condition_law : (left l : ℕ) → l + left ≡ 64 → Exact Expr CF never any l (condition_in expression arguments left)
  condition_law left l sum ts =
      give_law (Unit {0} × (Expr × Unit {0})) Expr ParenF never any CF never any (λ x. x.1.0) (λ May x m us k r h. h) (λ x h none. none) (λ x h s. tt) l ts
      (opening (stands false OpenParen) (λ t. tt) (lower left (λ n ts. and_then (expression n ts) (λ e. fixed false CloseParen))) ts) (λ May c us k r same h. inl ((tt, (c, tt)), refl, h))
      (opening_law (Unit {0}) (Expr × Unit {0}) (λ u t. letter t ≡ (false, terminal.OpenParen)) (stands false OpenParen) (λ t. tt) (fixed_decided false OpenParen refl (λ e. cc)) InF never any in_sample l
      (lower left (λ n ts. and_then (expression n ts) (λ e. fixed false CloseParen))) (in_below left l sum) ts)

  pub condition_sample : (l : ℕ) → Sample Expr CF l
  condition_sample l =
      give_sample (Unit {0} × (Expr × Unit {0})) Expr ParenF CF (λ x. x.1.0) l (λ May x us k r h. h)
      (opened_sample (Unit {0}) (Expr × Unit {0}) (λ u t. letter t ≡ (false, terminal.OpenParen)) (stands false OpenParen) (λ t. tt) (fixed_decided false OpenParen refl (λ e. cc)) InF never any in_sample l)

  -- WHAT STANDS ONE LEVEL DEEPER

  pub deeper_below : (B : Type 0) (body : Family B) (X S : Extends B) (go : ℕ → Reader Stmt → Reader B) (l : ℕ)
      → ((n : ℕ) (s : Reader Stmt) → suc l + n ≡ 64 → Exact Stmt StF SX SS (suc l) s → Exact B body X S (suc l) (go n s))
      → (left : ℕ) (under : Option (Reader Stmt)) → Under expression arguments l left under → Below B body X S l (deeper_in expression arguments left under go)
  deeper_below B body X S go l exact zero None (at_top many) = full many
  deeper_below B body X S go l exact zero (Some s) u = elim u [ ]
  deeper_below B body X S go l exact (suc n) None u = elim u [ ]
  deeper_below B body X S go l exact (suc n) (Some s) (below _ _ sum law) = room _ (omega arith) (exact n s sum law)

  -- a condition and a statement
  abbrev pub HF : Family (Expr × Stmt)
  HF = seq CF (λ c. StF)

  head_exact : (l n : ℕ) (s : Reader Stmt) → suc l + n ≡ 64 → Exact Stmt StF SX SS (suc l) s → Exact (Expr × Stmt) HF (λ x. SX x.1) (λ x. SS x.1) (suc l) (λ ts. and_then (condition_in expression arguments n ts) (λ c. s))
  head_exact l n s sum law ts =
      seq_law Expr Stmt CF never any (λ c. StF) (λ c. SX) (λ c. SS) (λ c. statement_sample) (λ c May b m us k r h none. absurd none) (suc l) ts (condition_in expression arguments n ts) (condition_law n (suc l) sum ts) (λ c. s) (λ c mid got. law mid)

  pub headed_sample : (m : ℕ) → Sample (Expr × Stmt) HF m
  headed_sample m = seq_sample Expr Stmt CF (λ c. StF) m (condition_sample m) (λ c. statement_sample m)

  pub headed_below : (left l : ℕ) (under : Option (Reader Stmt)) → Under expression arguments l left under → Below (Expr × Stmt) HF (λ x. SX x.1) (λ x. SS x.1) l (headed_in expression arguments left under)
  headed_below left l under u = deeper_below (Expr × Stmt) HF (λ x. SX x.1) (λ x. SS x.1) (λ n s ts. and_then (condition_in expression arguments n ts) (λ c. s)) l (head_exact l) left under u

  -- STATEMENTS OF A BLOCK

  abbrev pub ManyF : Family (List Stmt)
  ManyF = each StF

  abbrev pub EndX : Extends (List Stmt)
  EndX ss h = (begins_statement h ≡ true) ⊎ (next_is false Else h ≡ true)

  else_apart : (h : Option Token) → next_is false Else h ≡ true → begins_statement h ≡ true → ⊥
  else_apart h e b = no_statement terminal.Else (λ f. cc) refl h (next_at false Else h e) b

  pub statements_law : (l : ℕ) (s : Reader Stmt) → Exact Stmt StF SX SS l s → Exact (List Stmt) ManyF EndX any l (repeat begins_statement s)
  statements_law l s law = many_law Stmt StF SX SS begins_statement (λ h. next_is false Else h ≡ true) statement_begins (λ a h x. x.0) else_apart refl l s law

  pub brace_closes : (ss : List Stmt) (h : Option Token) → EndX ss h → at_head false h ≡ terminal.CloseBrace → ⊥
  brace_closes ss h (inl b) is = no_statement terminal.CloseBrace (λ f. cc) refl h is b
  brace_closes ss h (inr e) is = let f : terminal.Else ≡ terminal.CloseBrace = sym (next_at false Else h e) ∙ is in cc

  abbrev pub BodyF : Family (List Stmt × Unit {0})
  BodyF = then_it false CloseBrace refl (λ e. cc) ManyF

  pub body_law : (l : ℕ) (s : Reader Stmt) → Exact Stmt StF SX SS l s → Exact (List Stmt × Unit {0}) BodyF never any l (λ ts. and_then (repeat begins_statement s ts) (λ ss. fixed false CloseBrace))
  body_law l s law = then_fixed false CloseBrace refl (λ e. cc) (List Stmt) ManyF EndX any brace_closes l (repeat begins_statement s) (statements_law l s law)

  pub body_sample : (m : ℕ) → Sample (List Stmt × Unit {0}) BodyF m
  body_sample m = then_fixed_sample false CloseBrace refl (λ e. cc) (List Stmt) ManyF m (record { tokens = []; tree = []; is = λ May c frees. (refl, refl) })

  pub body_to : (May : Limit) (ss : List Stmt) (m : ℕ) (us : List Token) (k : ℕ) (r : List Token) → ManyF May ss m us k r → statements May (stmts_of ss) m us k r
  body_to May [] m us k r h = h
  body_to May (s ∷ ss) m us k r (m1, us1, h, h') = (m1, us1, h, body_to May ss m1 us1 k r h')

  pub body_from : (May : Limit) (ss : Stmts) (m : ℕ) (us : List Token) (k : ℕ) (r : List Token) → statements May ss m us k r → (list : List Stmt) × (ss ≡ stmts_of list) × ManyF May list m us k r
  body_from May done m us k r h = ([], refl, h)
  body_from May (next s ss) m us k r (m1, us1, h, h') = let more = body_from May ss m1 us1 k r h' in (s ∷ more.0, ap (next s) more.1, (m1, us1, h, more.2))

  block_below : (left l : ℕ) (under : Option (Reader Stmt)) → Under expression arguments l left under
      → Below (List Stmt × Unit {0}) BodyF never any l (deeper_in expression arguments left under (λ n s ts. and_then (repeat begins_statement s ts) (λ ss. fixed false CloseBrace)))
  block_below left l under u = deeper_below (List Stmt × Unit {0}) BodyF never any (λ n s ts. and_then (repeat begins_statement s ts) (λ ss. fixed false CloseBrace)) l (λ n s sum law. body_law (suc l) s law) left under u

  -- EACH FORM OF A STATEMENT, WHERE IT BEGINS SO

  module _ (left l : ℕ) (sum : l + left ≡ 64) (under : Option (Reader Stmt)) (u : Under expression arguments l left under) (t : Token) (ts : List Token) where
    -- a statement that begins with a token of this form
    fits_here : (f : Form) → form_of (letter t) ≡ f → (May : Limit) (s : Stmt) (us : List Token) (k : ℕ) (r : List Token) → head us ≡ Some t → statement May s l us k r → fits s f ≡ true
    fits_here f is May s us k r same h = subst (λ (v : Form). fits s v ≡ true) (ap head_form same ∙ is) (statement_fits May s l us k r h)

    abbrev BlockF : Family (Unit {0} × (List Stmt × Unit {0}))
    BlockF = opened (λ u t. letter t ≡ (false, terminal.OpenBrace)) BodyF

    pub block_law : form_of (letter t) ≡ form.Block → Law Stmt StF SX SS l (t ∷ ts) (block_in expression arguments left under (t ∷ ts))
    block_law is =
        give_law (Unit {0} × (List Stmt × Unit {0})) Stmt BlockF never any StF SX SS (λ x. block (stmts_of x.1.0)) to (λ x h none. absurd none) (λ x h s takes. cc) l (t ∷ ts)
        (opening (stands false OpenBrace) (λ t. tt) (deeper_in expression arguments left under (λ n s ts. and_then (repeat begins_statement s ts) (λ ss. fixed false CloseBrace))) (t ∷ ts))
        (λ May s us k r same h. inl (back May s us k r (fits_here form.Block is May s us k r same h) h))
        (opening_law (Unit {0}) (List Stmt × Unit {0}) (λ u t. letter t ≡ (false, terminal.OpenBrace)) (stands false OpenBrace) (λ t. tt) (fixed_decided false OpenBrace refl (λ e. cc)) BodyF never any body_sample l
        (deeper_in expression arguments left under (λ n s ts. and_then (repeat begins_statement s ts) (λ ss. fixed false CloseBrace))) (block_below left l under u) (t ∷ ts))
      where
        to : (May : Limit) (x : Unit {0} × (List Stmt × Unit {0})) (m : ℕ) (us : List Token) (k : ℕ) (r : List Token) → BlockF May x m us k r → statement May (block (stmts_of x.1.0)) m us k r
        to May x m us k r (n, (m1, us1, h1, (m2, us2, h2, (m3, us3, h3, h4))), up) = (n, (m1, us1, h1, (m2, us2, h2, (m3, us3, body_to May x.1.0 m2 us2 m3 us3 h3, h4))), up)

        back : (May : Limit) (s : Stmt) (us : List Token) (k : ℕ) (r : List Token) → fits s form.Block ≡ true → statement May s l us k r → (x : Unit {0} × (List Stmt × Unit {0})) × (s ≡ block (stmts_of x.1.0)) × BlockF May x l us k r
        back May (block ss) us k r fit (n, (m1, us1, h1, (m2, us2, h2, (m3, us3, h3, h4))), up) =
            let list = body_from May ss m2 us2 m3 us3 h3 in ((tt, (list.0, tt)), ap block list.1, (n, (m1, us1, h1, (m2, us2, h2, (m3, us3, list.2, h4))), up))
        back May s us k r fit h = absurd (cc)

    abbrev LoopF : Family (ℕ × (Expr × Stmt))
    LoopF = opened (λ at t. (letter t ≡ (false, terminal.While)) × (t.from ≡ at)) HF

    pub while_law : form_of (letter t) ≡ form.While → Law Stmt StF SX SS l (t ∷ ts) (while_in expression arguments left under (t ∷ ts))
    while_law is =
        give_law (ℕ × (Expr × Stmt)) Stmt LoopF (λ x. SX x.1.1) (λ x. SS x.1.1) StF SX SS (λ x. loops x.0 x.1.0 x.1.1) (λ May x m us k r h. h) (λ x h e. e) (λ x h e. e) l (t ∷ ts)
        (opening (stands false While) (λ t. t.from) (headed_in expression arguments left under) (t ∷ ts)) (λ May s us k r same h. inl (back May s us k r (fits_here form.While is May s us k r same h) h))
        (opening_law ℕ (Expr × Stmt) (λ at t. (letter t ≡ (false, terminal.While)) × (t.from ≡ at)) (stands false While) (λ t. t.from) (fixed_at_decided false While refl (λ e. cc)) HF (λ x. SX x.1) (λ x. SS x.1) headed_sample l
        (headed_in expression arguments left under) (headed_below left l under u) (t ∷ ts))
      where
        back : (May : Limit) (s : Stmt) (us : List Token) (k : ℕ) (r : List Token) → fits s form.While ≡ true → statement May s l us k r → (x : ℕ × (Expr × Stmt)) × (s ≡ loops x.0 x.1.0 x.1.1) × LoopF May x l us k r
        back May (loops at c a) us k r fit h = ((at, (c, a)), refl, h)
        back May s us k r fit h = absurd (cc)

    -- IF

    abbrev IfF : Family (Unit {0} × (Expr × Stmt))
    IfF = opened (λ u t. letter t ≡ (false, terminal.If)) HF

    if_law : Exact (Unit {0} × (Expr × Stmt)) IfF (λ x. SX x.1.1) (λ x. SS x.1.1) l (opening (stands false If) (λ t. tt) (headed_in expression arguments left under))
    if_law =
        opening_law (Unit {0}) (Expr × Stmt) (λ u t. letter t ≡ (false, terminal.If)) (stands false If) (λ t. tt) (fixed_decided false If refl (λ e. cc)) HF (λ x. SX x.1) (λ x. SS x.1) headed_sample l
        (headed_in expression arguments left under) (headed_below left l under u)

    abbrev ElseF : Family Stmt
    ElseF May b = closed (one (false, terminal.Else) ▸ opens May ▸ statement May b)

    abbrev OpenedElse : Family (Unit {0} × Stmt)
    OpenedElse = opened (λ u t. letter t ≡ (false, terminal.Else)) StF

    else_law : Exact Stmt ElseF SX SS l (else_in expression arguments left under)
    else_law us =
        give_law (Unit {0} × Stmt) Stmt OpenedElse (λ x. SX x.1) (λ x. SS x.1) ElseF SX SS (λ x. x.1) (λ May x m vs k r h. h) (λ x h e. e) (λ x h e. e) l us
        (opening (stands false Else) (λ t. tt) (deeper_in expression arguments left under (λ n s. s)) us) (λ May b vs k r same h. inl ((tt, b), refl, h))
        (opening_law (Unit {0}) Stmt (λ u t. letter t ≡ (false, terminal.Else)) (stands false Else) (λ t. tt) (fixed_decided false Else refl (λ e. cc)) StF SX SS statement_sample l
        (deeper_in expression arguments left under (λ n s. s)) (deeper_below Stmt StF SX SS (λ n s. s) l (λ n s sum law. law) left under u) us)

    else_first : (May : Limit) (b : Stmt) (m : ℕ) (us : List Token) (k : ℕ) (r : List Token) → ElseF May b m us k r → next_is false Else (head us) ≡ true
    else_first May b m us k r (n, (m1, mid, h, h'), up) = ap (is_fixed Else) (one_head false terminal.Else m us m1 mid h)

    -- the `else` belongs to a statement that leaves none open
    abbrev QF : Unit {0} × (Expr × Stmt) → Family (Option Stmt)
    QF x May None = nothing
    QF x May (Some b) = where_ (takes_else x.1.1 ≡ false) (ElseF May b)

    abbrev QX : Extends (Option Stmt)
    QX = May_be Stmt ElseF SX SS (next_is false Else) else_first l

    abbrev QS : Extends (Option Stmt)
    QS = Rest Stmt ElseF SX SS (next_is false Else) else_first l

    q_sample : (x : Unit {0} × (Expr × Stmt)) (m : ℕ) → Sample (Option Stmt) (QF x) m
    q_sample x m = record { tokens = []; tree = None; is = λ May c frees. (refl, refl) }

    q_apart : (x : Unit {0} × (Expr × Stmt)) (May : Limit) (o : Option Stmt) (m : ℕ) (us : List Token) (k : ℕ) (r : List Token) → QF x May o m us k r → SX x.1.1 (head us) → QX o (head r)
    q_apart x May None m us k r (up, is) e = subst (λ (v : List Token). next_is false Else (head v) ≡ true) (sym is) e.0
    q_apart x May (Some b) m us k r (ends, h) e = let f : true ≡ false = sym e.1 ∙ ends in absurd (cc)

    q_by : (x : Unit {0} × (Expr × Stmt)) (mid : List Token) → SS x.1.1 (head mid) → (b : Bool) → next_is false Else (head mid) ≡ b
        → Law (Option Stmt) (QF x) QX QS l mid (elim b [ true ↦ give Some (else_in expression arguments left under mid) | false ↦ Got None mid ])
    q_by x mid settled true is =
        give_at Stmt (Option Stmt) ElseF SX SS (QF x) QX QS Some l (λ May b us k r h. (ends (takes_else x.1.1) refl, h)) (λ b h e. e) (λ b h e. e) mid (else_in expression arguments left under mid) back (else_law mid)
      where
        ends : (v : Bool) → takes_else x.1.1 ≡ v → takes_else x.1.1 ≡ false
        ends true takes = let f : true ≡ false = sym is ∙ settled takes in cc
        ends false takes = takes

        back : (May : Limit) (o : Option Stmt) (us : List Token) (k : ℕ) (r : List Token) → head us ≡ head mid → QF x May o l us k r → ((b : Stmt) × (o ≡ Some b) × ElseF May b l us k r) ⊎ QX o (head r)
        back May None us k r same (up, e) = inr (ap (next_is false Else) (ap head e ∙ same) ∙ is)
        back May (Some b) us k r same (e, h) = inl (b, refl, h)
    q_by x mid settled false is = record {
      front = [];
      parts = refl;
      plain = tt;
      sound = λ May allows c. (refl, refl);
      stop = is;
      only = only_none;
    }
      where
        only_none : (May : Limit) (c : List Token) → head mid ≡ head c → (o : Option Stmt) (k : ℕ) (r : List Token) → QF x May o l c k r → ((o ≡ None) × (k ≡ l) × (r ≡ c)) ⊎ QX o (head r)
        only_none May c same None k r (up, e) = inl (refl, up, e)
        only_none May c same (Some b) k r (e, h) = let f : true ≡ false = sym (else_first May b l c k r h) ∙ ap (next_is false Else) (sym same) ∙ is in cc

    abbrev IfElseF : Family ((Unit {0} × (Expr × Stmt)) × Option Stmt)
    IfElseF = seq IfF QF

    if_grows : (x : (Unit {0} × (Expr × Stmt)) × Option Stmt) (h : Option Token) → QX x.1 h → SX (choice_of expression arguments left under x) h
    if_grows x h = by x.0 x.1
      where
        by : (y : Unit {0} × (Expr × Stmt)) (o : Option Stmt) → QX o h → SX (choice_of expression arguments left under (y, o)) h
        by y None e = (e, refl)
        by y (Some b) e = e

    if_stops : (x : (Unit {0} × (Expr × Stmt)) × Option Stmt) (h : Option Token) → QS x.1 h → SS (choice_of expression arguments left under x) h
    if_stops x h = by x.0 x.1
      where
        by : (y : Unit {0} × (Expr × Stmt)) (o : Option Stmt) → QS o h → SS (choice_of expression arguments left under (y, o)) h
        by y None e = λ takes. e
        by y (Some b) e = e

    if_to : (May : Limit) (x : (Unit {0} × (Expr × Stmt)) × Option Stmt) (m : ℕ) (us : List Token) (k : ℕ) (r : List Token) → IfElseF May x m us k r → statement May (choice_of expression arguments left under x) m us k r
    if_to May x m us k r (m1, mid, h, h') = by x.0 x.1 h h'
      where
        by : (y : Unit {0} × (Expr × Stmt)) (o : Option Stmt) → IfF May y m us m1 mid → QF y May o m1 mid k r → statement May (choice_of expression arguments left under (y, o)) m us k r
        by y None h (up, is) = subst (λ (v : List Token). closed (one (false, terminal.If) ▸ opens May ▸ condition May y.1.0 ▸ statement May y.1.1) m us k v) (sym is)
            (subst (λ (n : ℕ). closed (one (false, terminal.If) ▸ opens May ▸ condition May y.1.0 ▸ statement May y.1.1) m us n mid) (sym up) h)
        by y (Some b) h (ends, h') = (ends, (m1, mid, h, h'))

    if_back : (May : Limit) (s : Stmt) (us : List Token) (k : ℕ) (r : List Token) → fits s form.If ≡ true → statement May s l us k r
        → (x : (Unit {0} × (Expr × Stmt)) × Option Stmt) × (s ≡ choice_of expression arguments left under x) × IfElseF May x l us k r
    if_back May (if_only c a) us k r fit h = (((tt, (c, a)), None), refl, (k, r, h, (refl, refl)))
    if_back May (if_else c a b) us k r fit (ends, (m, mid, h, h')) = (((tt, (c, a)), Some b), refl, (m, mid, h, (ends, h')))
    if_back May s us k r fit h = absurd (cc)

    pub choice_law : form_of (letter t) ≡ form.If → Law Stmt StF SX SS l (t ∷ ts) (if_in expression arguments left under (t ∷ ts))
    choice_law is =
        give_law ((Unit {0} × (Expr × Stmt)) × Option Stmt) Stmt IfElseF (λ x. QX x.1) (λ x. QS x.1) StF SX SS (choice_of expression arguments left under) if_to if_grows if_stops l (t ∷ ts)
        (and_then (opening (stands false If) (λ t. tt) (headed_in expression arguments left under) (t ∷ ts)) (λ x. optional (next_is false Else) (else_in expression arguments left under)))
        (λ May s us k r same h. inl (if_back May s us k r (fits_here form.If is May s us k r same h) h))
        (seq_law (Unit {0} × (Expr × Stmt)) (Option Stmt) IfF (λ x. SX x.1.1) (λ x. SS x.1.1) QF (λ x. QX) (λ x. QS) q_sample q_apart l (t ∷ ts)
        (opening (stands false If) (λ t. tt) (headed_in expression arguments left under) (t ∷ ts)) (if_law (t ∷ ts)) (λ x. optional (next_is false Else) (else_in expression arguments left under))
        (λ x mid got. q_by x mid got.stop (next_is false Else (head mid)) refl))

    -- RETURN

    abbrev not_semicolon : Option Token → Bool
    not_semicolon h = elim (next_is false Semicolon h) [ true ↦ false | false ↦ true ]

    starts_not : (h : Option Token) → starts (at_head false h) ≡ true → not_semicolon h ≡ true
    starts_not h is = by (next_is false Semicolon h) refl
      where
        by : (b : Bool) → next_is false Semicolon h ≡ b → (elim b as (λ _. Bool) [ true ↦ false | false ↦ true ]) ≡ true
        by true e = let f : starts terminal.Semicolon ≡ true = ap starts (sym (next_at false Semicolon h e)) ∙ is in cc
        by false e = refl

    value_first : (May : Limit) (e : Expr) (m : ℕ) (us : List Token) (k : ℕ) (r : List Token) → EF May e m us k r → not_semicolon (head us) ≡ true
    value_first May e m us k r h = starts_not (head us) (expression_starts May e m us k r h)

    abbrev VX : Extends (Option Expr)
    VX = May_be Expr EF EX any not_semicolon value_first l

    abbrev VF : Family (Option Expr)
    VF = optional_of EF

    value_closes : (o : Option Expr) (h : Option Token) → VX o h → at_head false h ≡ terminal.Semicolon → ⊥
    value_closes None h e is = let f : false ≡ true = sym (ap (λ y. elim (is_fixed Semicolon y) as (λ _. Bool) [ true ↦ false | false ↦ true ]) is) ∙ e in cc
    value_closes (Some v) h e is = no_extension Semicolon refl h is e

    abbrev ReturnF : Family (ℕ × (Option Expr × Unit {0}))
    ReturnF = seq (λ May at. one_at (false, terminal.Return) at) (λ at. then_it false Semicolon refl (λ e. cc) VF)

    value_to : (May : Limit) (o : Option Expr) (m : ℕ) (us : List Token) (k : ℕ) (r : List Token) → VF May o m us k r → returned May o m us k r
    value_to May None m us k r h = h
    value_to May (Some e) m us k r h = h

    value_from : (May : Limit) (o : Option Expr) (m : ℕ) (us : List Token) (k : ℕ) (r : List Token) → returned May o m us k r → VF May o m us k r
    value_from May None m us k r h = h
    value_from May (Some e) m us k r h = h

    return_back : (May : Limit) (s : Stmt) (us : List Token) (k : ℕ) (r : List Token) → fits s form.Return ≡ true → statement May s l us k r → (x : ℕ × (Option Expr × Unit {0})) × (s ≡ gives_back x.0 x.1.0) × ReturnF May x l us k r
    return_back May (gives_back at o) us k r fit (m, mid, h, (m1, mid1, h1, h2)) = ((at, (o, tt)), refl, (m, mid, h, (m1, mid1, value_from May o m mid m1 mid1 h1, h2)))
    return_back May s us k r fit h = absurd (cc)

    pub return_law : form_of (letter t) ≡ form.Return → Law Stmt StF SX SS l (t ∷ ts) (returned_in expression arguments left (t ∷ ts))
    return_law is =
        give_law (ℕ × (Option Expr × Unit {0})) Stmt ReturnF never any StF SX SS (λ x. gives_back x.0 x.1.0) (λ May x m us k r h. (h.0, h.1, h.2, (h.3.0, h.3.1, value_to May x.1.0 h.0 h.1 h.3.0 h.3.1 h.3.2, h.3.3))) (λ x h none. absurd none) (λ x h s takes. cc) l (t ∷ ts)
        (and_then (fixed_at false Return (t ∷ ts)) (λ at us. and_then (optional not_semicolon (expression left) us) (λ e. fixed false Semicolon)))
        (λ May s us k r same h. inl (return_back May s us k r (fits_here form.Return is May s us k r same h) h))
        (seq_law ℕ (Option Expr × Unit {0}) (λ May at. one_at (false, terminal.Return) at) never any (λ at. then_it false Semicolon refl (λ e. cc) VF) (λ at. never) (λ at. any)
        (λ at m. then_fixed_sample false Semicolon refl (λ e. cc) (Option Expr) VF m (optional_sample Expr EF EX any not_semicolon value_first m)) (λ at May x m us k r h none. none) l (t ∷ ts) (fixed_at false Return (t ∷ ts)) (fixed_at_law false Return refl (λ e. cc) l (t ∷ ts))
        (λ at us. and_then (optional not_semicolon (expression left) us) (λ e. fixed false Semicolon))
        (λ at mid got. then_fixed false Semicolon refl (λ e. cc) (Option Expr) VF VX any value_closes l (optional not_semicolon (expression left))
        (optional_law Expr EF EX any not_semicolon value_first l (expression left) (expression_law left l sum)) mid))

    -- DECLARATIONS

    local_back : (May : Limit) (s : Stmt) (us : List Token) (k : ℕ) (r : List Token) → fits s form.Local ≡ true → statement May s l us k r → (x : List Modifier × (TypeTree × List Decl)) × (s ≡ local x.0 x.1.0 x.1.1) × ModsF expression arguments expression_law left l sum May x l us k r
    local_back May (local mods kind ds) us k r fit h = ((mods, (kind, ds)), refl, h)
    local_back May s us k r fit h = absurd (cc)

    pub local_law : form_of (letter t) ≡ form.Local → Law Stmt StF SX SS l (t ∷ ts) (local_in expression arguments left (t ∷ ts))
    local_law is =
        give_law (List Modifier × (TypeTree × List Decl)) Stmt (ModsF expression arguments expression_law left l sum) never any StF SX SS (λ x. local x.0 x.1.0 x.1.1) (λ May x m us k r h. h) (λ x h none. absurd none) (λ x h s takes. cc) l (t ∷ ts)
        (and_then (modifiers_in is_local_modifier (t ∷ ts)) (λ mods us. and_then (type_in us) (λ kind. declared_in expression arguments left)))
        (λ May s us k r same h. inl (local_back May s us k r (fits_here form.Local is May s us k r same h) h)) (mods_law expression arguments expression_law left l sum (t ∷ ts))

    -- `;`

    pub blank_law : form_of (letter t) ≡ form.Blank → Law Stmt StF SX SS l (t ∷ ts) (Got blank ts)
    blank_law is = record {
      front = t ∷ [];
      parts = refl;
      plain = (λ end. let f : letter t ≡ (false, terminal.Semicolon) = blank_letter (letter t) is in let g : terminal.Semicolon ≡ terminal.End = sym (ap (λ (z : Letter). z.1) f) ∙ end in cc, tt);
      sound = λ May allows c. (t, blank_letter (letter t) is, refl, refl);
      stop = λ takes. cc;
      only = λ May c h s k r parse. inl (back May s c k r (fits_here form.Blank is May s (t ∷ c) k r refl parse) parse);
    }
      where
        back : (May : Limit) (s : Stmt) (us : List Token) (k : ℕ) (r : List Token) → fits s form.Blank ≡ true → statement May s l (t ∷ us) k r → (s ≡ blank) × (k ≡ l) × (r ≡ us)
        back May blank us k r fit (t', its, parts, up) = (refl, up, tails t t' us r parts)
        back May s us k r fit h = absurd (cc)

    -- a token that begins no statement
    pub none_law : form_of (letter t) ≡ form.None → Law Stmt StF SX SS l (t ∷ ts) (Bad (t ∷ ts))
    none_law is = record {
      front = [];
      parts = refl;
      plain = tt;
      before = record { more = (statement_sample l).tokens; tree = (statement_sample l).tree; is = λ May c allows. (statement_sample l).is May c (λ k r lt. allows k r (inr lt)) };
      only = λ May c h s k r parse. absurd (back s (fits_here form.None is May s c k r (sym h) parse));
    }
      where
        back : (s : Stmt) → fits s form.None ≡ true → ⊥
        back (block ss) fit = cc
        back s fit = cc
