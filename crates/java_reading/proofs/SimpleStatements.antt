-- A statement that begins with a name or with `this`: each step of its expression is one of the tail behind its first token.
use Rattle.std.proofs.Common.{◌≡◌, ◌⊎◌, ℕ, Bool, true, false, List, ◌∷◌, refl, sym, ap, ◌∙◌, subst, inl, inr}
use Rattle.java_lex.specs.declared.spelling.Terminal.TheVariants as terminal
use Rattle.java_lex.specs.declared.token.Token.{Token}
use Rattle.java_tree.specs.declared.names.Ident.{Ident}
use Rattle.java_tree.specs.Trees.{Expr, this, named, call, read, call_on, Exprs, none, also, Stmt, set, step, run}
use Rattle.java_tree.specs.Phrases.{Limit, Phrase, ◌▸◌, letter, ident_of, one, closed}
use Rattle.java_tree.specs.Expressions.{phrase, expression, arguments, chained, is_steps, post, or, place}
use Rattle.java_tree.specs.Statements.{is_target, is_place, is_run, stepped, statement}
use Rattle.java_reading.proofs.Tails.{Tail, sets, steps, runs, reads, calls, NamedF}

-- A STATEMENT THAT BEGINS WITH A NAME OR WITH `this`

-- an expression that was reached so: the levels of its `.` stay open
abbrev pub Prefix : Limit → Expr → Phrase
Prefix May e = chained (is_steps e) (phrase May e false post)

-- a target and a call stand in every tier
retier : (May : Limit) (e : Expr) (is : is_target e ≡ true) (l : ℕ) (us : List Token) (m : ℕ) (ts : List Token) → phrase May e false post l us m ts → phrase May e false or l us m ts
retier May (this at) is l us m ts h = h
retier May (named at i) is l us m ts h = h
retier May (call at i args) is l us m ts h = h
retier May (read at a i) is l us m ts h = h
retier May (call_on at a i args) is l us m ts h = h
retier May e is l us m ts h = absurd (cc)

lower_tier : (May : Limit) (e : Expr) (is : is_target e ≡ true) (l : ℕ) (us : List Token) (m : ℕ) (ts : List Token) → phrase May e false or l us m ts → phrase May e false post l us m ts
lower_tier May (this at) is l us m ts h = h
lower_tier May (named at i) is l us m ts h = h
lower_tier May (call at i args) is l us m ts h = h
lower_tier May (read at a i) is l us m ts h = h
lower_tier May (call_on at a i args) is l us m ts h = h
lower_tier May e is l us m ts h = absurd (cc)

-- places and runs are targets
place_target : (e : Expr) → is_place e ≡ true → is_target e ≡ true
place_target (named at i) is = refl
place_target (read at a i) is = is
place_target e is = absurd (cc)

run_target : (e : Expr) → is_run e ≡ true → is_target e ≡ true
run_target (call at i args) is = refl
run_target (call_on at a i args) is = is
run_target e is = absurd (cc)

by_chain : (b : Bool) (May : Limit) (e : Expr) (is : is_target e ≡ true) (l : ℕ) (us : List Token) (m : ℕ) (ts : List Token) → chained b (phrase May e false post) l us m ts → closed (phrase May e false or) l us l ts
by_chain true May e is l us m ts h = (m, retier May e is l us m ts h, refl)
by_chain false May e is l us m ts (n, h, up) = (n, retier May e is l us n ts h, refl)

-- a prefix, and what makes a statement of it
pub tail_statement : (May : Limit) (l0 : ℕ) (e : Expr) (s : Stmt) (m : ℕ) (ts : List Token) (k : ℕ) (r : List Token) → Tail May l0 e s m ts k r → (us : List Token) → is_target e ≡ true → Prefix May e l0 us m ts → statement May s l0 us l0 r
tail_statement May l0 e s m ts k r (sets v is h up) us target p = (is, (l0, ts, by_chain (is_steps e) May e target l0 us m ts p, h))
tail_statement May l0 e s m ts k r (steps b is h up) us target p = (is, (l0, ts, by_chain (is_steps e) May e target l0 us m ts p, h))
tail_statement May l0 e s m ts k r (runs is h up) us target p = (is, (l0, ts, by_chain (is_steps e) May e target l0 us m ts p, h))
tail_statement May l0 e s m ts k r (reads i (m1, us1, h1, h2) h3 tail up) us target p = tail_statement May l0 (read (place e) e i) s _ _ _ r tail us target (refl, (m, ts, p, (m1, us1, h1, (_, _, h2, h3))))
tail_statement May l0 e s m ts k r (calls i args (m1, us1, h1, h2) h3 h4 tail up) us target p =
    tail_statement May l0 (call_on (place e) e i args) s _ _ _ r tail us target (refl, (refl, (m, ts, p, (m1, us1, h1, (_, _, h2, (_, _, h3, h4))))))

-- what stands behind the first token of a statement: a tail of `this`, or of a name
abbrev pub StartF : Limit → ℕ → Token → Stmt → List Token → List Token → Type 0
StartF May l0 t s ts r =
    ((letter t ≡ (false, terminal.This)) × ((k : ℕ) × Tail May l0 (this t.from) s l0 ts k r))
    ⊎ ((letter t ≡ (false, terminal.Name)) × ((k : ℕ) × NamedF l0 (named t.from (ident_of t)) (call t.from (ident_of t)) May s l0 ts k r))

abbrev pub Start : Limit → ℕ → Stmt → List Token → List Token → Type 0
Start May l0 s us r = (t : Token) × (ts : List Token) × (us ≡ t ∷ ts) × StartF May l0 t s ts r

pub arguments_level : (May : Limit) (args : Exprs) (l : ℕ) (us : List Token) (k : ℕ) (r : List Token) → arguments May args l us k r → k ≡ l
arguments_level May none l us k r (m, h, up) = up
arguments_level May (also e es) l us k r (m, h, up) = up

at_level : (May : Limit) (l0 : ℕ) (e : Expr) (s : Stmt) (m n : ℕ) (ts : List Token) (k : ℕ) (r : List Token) → m ≡ n → Tail May l0 e s m ts k r → Tail May l0 e s n ts k r
at_level May l0 e s m n ts k r is tail = subst (λ (v : ℕ). Tail May l0 e s v ts k r) is tail

with_expr : (May : Limit) (l0 : ℕ) (e e' : Expr) (s : Stmt) (m : ℕ) (ts : List Token) (k : ℕ) (r : List Token) → e ≡ e' → Tail May l0 e s m ts k r → Tail May l0 e' s m ts k r
with_expr May l0 e e' s m ts k r is tail = subst (λ (v : Expr). Tail May l0 v s m ts k r) is tail

-- each step of the prefix is one of the tail of what stands before it
unroll : (May : Limit) (l0 : ℕ) (e : Expr) → is_target e ≡ true → (s : Stmt) (us : List Token) (m : ℕ) (ts : List Token) (k : ℕ) (r : List Token) → Prefix May e l0 us m ts → Tail May l0 e s m ts k r → Start May l0 s us r
unroll May l0 (this at) target s us m ts k r (n, (t, (is, at_is), parts, up), up2) tail =
    (t, ts, parts, inl (is, (k, with_expr May l0 (this at) (this t.from) s l0 ts k r (ap this (sym at_is)) (at_level May l0 (this at) s m l0 ts k r up2 tail))))
unroll May l0 (named at i) target s us m ts k r (n, (at_is, (t, (is, i_is), parts, up)), up2) tail =
    (t, ts, parts, inr (is, (k, inl (with_expr May l0 (named at i) (named t.from (ident_of t)) s l0 ts k r (names at i t at_is i_is) (at_level May l0 (named at i) s m l0 ts k r up2 tail)))))
  where
    names : (at : ℕ) (i : Ident) (t : Token) → at ≡ i.at → ident_of t ≡ i → named at i ≡ named t.from (ident_of t)
    names at i t at_is i_is = let e : at ≡ t.from = at_is ∙ ap (λ (v : Ident). v.at) (sym i_is) in let e' : i ≡ ident_of t = sym i_is in cc
unroll May l0 (call at i args) target s us m ts k r (n, (side_is, (at_is, (m1, ts1, (t, (is, i_is), parts, up), h))), up2) tail = (
  t,
  ts1,
  parts,
  inr (
    is,
    (
      k,
      inr (
        args,
        (
          l0,
          ts,
          subst (λ (v : ℕ). arguments May args l0 ts1 v ts) (arguments_level May args m1 ts1 n ts h ∙ up) (subst (λ (v : ℕ). arguments May args v ts1 n ts) up h),
          with_expr May l0 (call at i args) (call t.from (ident_of t) args) s l0 ts k r (names at i t at_is i_is) (at_level May l0 (call at i args) s m l0 ts k r up2 tail),
        ),
      ),
    ),
  ),
)
  where
    names : (at : ℕ) (i : Ident) (t : Token) → at ≡ i.at → ident_of t ≡ i → call at i args ≡ call t.from (ident_of t) args
    names at i t at_is i_is = let e : at ≡ t.from = at_is ∙ ap (λ (v : Ident). v.at) (sym i_is) in let e' : i ≡ ident_of t = sym i_is in cc
unroll May l0 (read at a i) target s us m ts k r (at_is, (m1, ts1, p, (m2, ts2, hd, (m3, ts3, ho, hn)))) tail =
    unroll May l0 a target s us m1 ts1 _ r p (reads i (m2, ts2, hd, ho) hn (with_expr May l0 (read at a i) (read (place a) a i) s m ts k r (ap (λ v. read v a i) at_is) tail) refl)
unroll May l0 (call_on at a i args) target s us m ts k r (side_is, (at_is, (m1, ts1, p, (m2, ts2, hd, (m3, ts3, ho, (m4, ts4, hn, ha)))))) tail =
    unroll May l0 a target s us m1 ts1 _ r p (calls i args (m2, ts2, hd, ho) hn ha (with_expr May l0 (call_on at a i args) (call_on (place a) a i args) s m ts k r (ap (λ v. call_on v a i args) at_is) tail) refl)
unroll May l0 e target s us m ts k r p tail = absurd (cc)

-- an assignment, a step or a call
abbrev pub is_simple : Stmt → Bool
is_simple (set a e) = true
is_simple (step a up) = true
is_simple (run e) = true
is_simple s = false

by_prefix : (May : Limit) (l0 : ℕ) (e : Expr) → is_target e ≡ true → (s : Stmt) (us ts : List Token) (n k : ℕ) (r : List Token) → phrase May e false or l0 us n ts → ((m : ℕ) → Tail May l0 e s m ts m r) → Start May l0 s us r
by_prefix May l0 e target s us ts n k r h tail = by (is_steps e) refl
  where
    by : (b : Bool) → is_steps e ≡ b → Start May l0 s us r
    by true is = unroll May l0 e target s us n ts n r (subst (λ (v : Bool). chained v (phrase May e false post) l0 us n ts) (sym is) (lower_tier May e target l0 us n ts h)) (tail n)
    by false is = unroll May l0 e target s us l0 ts l0 r (subst (λ (v : Bool). chained v (phrase May e false post) l0 us l0 ts) (sym is) (n, lower_tier May e target l0 us n ts h, refl)) (tail l0)

pub simple_start : (May : Limit) (s : Stmt) (l0 : ℕ) (us : List Token) (k : ℕ) (r : List Token) → is_simple s ≡ true → statement May s l0 us k r → Start May l0 s us r × (k ≡ l0)
simple_start May (set a e) l0 us k r simple (is, (m, mid, (n, h, up), (m1, mid1, (t1, is1, p1, up1), (m2, mid2, (n2, h2, up2), (t3, is3, p3, up3))))) =
    let k_is : k ≡ l0 = up3 ∙ up2 ∙ up1 ∙ up in (
      by_prefix May l0 a (place_target a is) (set a e) us mid n k r h
          (λ v. sets e is (subst (λ (z : ℕ). (one (false, terminal.Assign) ▸ expression May e ▸ one (false, terminal.Semicolon)) l0 mid z r) k_is
          (subst (λ (z : ℕ). (one (false, terminal.Assign) ▸ expression May e ▸ one (false, terminal.Semicolon)) z mid k r) up (m1, mid1, (t1, is1, p1, up1), (m2, mid2, (n2, h2, up2), (t3, is3, p3, up3))))) refl),
      k_is,
    )
simple_start May (step a b) l0 us k r simple (is, (m, mid, (n, h, up), (m1, mid1, (t1, is1, p1, up1), (t3, is3, p3, up3)))) =
    let k_is : k ≡ l0 = up3 ∙ up1 ∙ up in (
      by_prefix May l0 a (place_target a is) (step a b) us mid n k r h
          (λ v. steps b is (subst (λ (z : ℕ). (one (false, stepped b) ▸ one (false, terminal.Semicolon)) l0 mid z r) k_is
          (subst (λ (z : ℕ). (one (false, stepped b) ▸ one (false, terminal.Semicolon)) z mid k r) up (m1, mid1, (t1, is1, p1, up1), (t3, is3, p3, up3)))) refl),
      k_is,
    )
simple_start May (run e) l0 us k r simple (is, (m, mid, (n, h, up), (t3, is3, p3, up3))) =
    let k_is : k ≡ l0 = up3 ∙ up in
    (by_prefix May l0 e (run_target e is) (run e) us mid n k r h (λ v. runs is (t3, is3, p3, refl) refl), k_is)
simple_start May s l0 us k r simple h = absurd (cc)
