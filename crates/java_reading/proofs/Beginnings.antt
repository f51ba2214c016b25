-- With what a statement begins.
use Rattle.std.proofs.Common.{◌≡◌, ℕ, Bool, true, false, ◌&&◌, List, [], ◌∷◌, ◌++◌, Option, Some, None, refl, sym, ap, ◌∙◌, subst, inl, inr}
use Rattle.std.specs.List.{list_all}
use Rattle.java_lex.specs.declared.spelling.Terminal.{Terminal}
use Rattle.java_lex.specs.declared.spelling.Terminal.TheVariants as terminal
use Rattle.java_lex.specs.declared.token.Token.{Token}
use Rattle.java_tree.specs.declared.names.Modifier.{Modifier}
use Rattle.java_tree.specs.declared.names.TypeTree.{TypeTree}
use Rattle.java_tree.specs.declared.names.TypeTree.TheVariants.{Int, Flag, Class as class_type}
use Rattle.java_tree.specs.Trees.{Decl, Stmt, block, blank, if_only, if_else, loops, gives_back, local, set, step, run}
use Rattle.java_tree.specs.Phrases.{Limit, Letter, letter, one, one_at}
use Rattle.java_tree.specs.Statements.{statement, is_local_modifier, type_of}
use Rattle.java_reading.specs.declared.form.Form.{Form}
use Rattle.java_reading.specs.declared.form.Form.TheVariants as form
use Rattle.java_reading.specs.Readers.{head}
use Rattle.java_reading.specs.Tokens.{at_head}
use Rattle.java_reading.specs.Forms.{form_of, is_some_form, begins_statement}
use Rattle.java_reading.proofs.TokenLaws.{on_is}
use Rattle.java_reading.proofs.SimpleStatements.{Start, is_simple, simple_start}

-- WITH WHAT A STATEMENT BEGINS

abbrev pub head_form : Option Token → Form
head_form None = form.None
head_form (Some t) = form_of (letter t)

abbrev pub fits : Stmt → Form → Bool
fits (block ss) form.Block = true
fits blank form.Blank = true
fits (if_only c a) form.If = true
fits (if_else c a b) form.If = true
fits (loops at c a) form.While = true
fits (gives_back at e) form.Return = true
fits (local mods kind ds) form.Local = true
fits (local mods kind ds) form.Name = true
fits (set a e) form.Name = true
fits (set a e) form.This = true
fits (step a up) form.Name = true
fits (step a up) form.This = true
fits (run e) form.Name = true
fits (run e) form.This = true
fits s f = false

one_form : (x : Terminal) (l : ℕ) (us : List Token) (k : ℕ) (r : List Token) → one (false, x) l us k r → head_form (head us) ≡ form_of (false, x)
one_form x l us k r (t, is, parts, up) = ap (λ v. head_form (head v)) parts ∙ ap form_of is

one_at_form : (x : Terminal) (at l : ℕ) (us : List Token) (k : ℕ) (r : List Token) → one_at (false, x) at l us k r → head_form (head us) ≡ form_of (false, x)
one_at_form x at l us k r (t, is, parts, up) = ap (λ v. head_form (head v)) parts ∙ ap form_of is.0

local_form : (z : Letter) → is_local_modifier z ≡ true → form_of z ≡ form.Local
local_form (false, terminal.Final) e = refl
local_form (true, terminal.Nullable) e = refl
local_form (true, terminal.NonNull) e = refl
local_form z e = absurd (cc)

start_fits : (May : Limit) (s : Stmt) (l : ℕ) (us r : List Token) → is_simple s ≡ true → Start May l s us r → fits s (head_form (head us)) ≡ true
start_fits May s l us r simple (t, ts, parts, inl (is, h)) = by s simple
  where
    form_is : head_form (head us) ≡ form.This
    form_is = ap (λ v. head_form (head v)) parts ∙ ap form_of is

    by : (s : Stmt) → is_simple s ≡ true → fits s (head_form (head us)) ≡ true
    by (set a e) simple = ap (fits (set a e)) form_is
    by (step a up) simple = ap (fits (step a up)) form_is
    by (run e) simple = ap (fits (run e)) form_is
    by s simple = absurd (cc)
start_fits May s l us r simple (t, ts, parts, inr (is, h)) = by s simple
  where
    form_is : head_form (head us) ≡ form.Name
    form_is = ap (λ v. head_form (head v)) parts ∙ ap form_of is

    by : (s : Stmt) → is_simple s ≡ true → fits s (head_form (head us)) ≡ true
    by (set a e) simple = ap (fits (set a e)) form_is
    by (step a up) simple = ap (fits (step a up)) form_is
    by (run e) simple = ap (fits (run e)) form_is
    by s simple = absurd (cc)

type_fits : (mods : List Modifier) (kind : TypeTree) (ds : List Decl) (l : ℕ) (us : List Token) (k : ℕ) (r : List Token) → type_of kind l us k r → fits (local mods kind ds) (head_form (head us)) ≡ true
type_fits mods Int ds l us k r h = ap (fits (local mods Int ds)) (one_form terminal.Int l us k r h)
type_fits mods Flag ds l us k r h = ap (fits (local mods Flag ds)) (one_form terminal.Boolean l us k r h)
type_fits mods (class_type i) ds l us k r (t, is, parts, up) = ap (fits (local mods (class_type i) ds)) (ap (λ v. head_form (head v)) parts ∙ ap form_of is.0)

pub and_left : (a b : Bool) → (a && b) ≡ true → a ≡ true
and_left true b e = refl
and_left false b e = e

pub local_fits : (May : Limit) (mods mods' : List Modifier) (kind : TypeTree) (ds : List Decl) (l : ℕ) (us : List Token) (k : ℕ) (r : List Token) (front mid : List Token) → us ≡ front ++ mid → list_all (λ t. is_local_modifier (letter t)) front ≡ true
    → type_of kind l mid k r → fits (local mods kind ds) (head_form (head us)) ≡ true
local_fits May mods mods' kind ds l us k r [] mid parts all h = subst (λ (v : List Token). fits (local mods kind ds) (head_form (head v)) ≡ true) (sym parts) (type_fits mods kind ds l mid k r h)
local_fits May mods mods' kind ds l us k r (t ∷ front) mid parts all h = ap (λ v. fits (local mods kind ds) (head_form (head v))) parts ∙ ap (fits (local mods kind ds)) (local_form (letter t) (and_left (is_local_modifier (letter t)) _ all))

pub statement_fits : (May : Limit) (s : Stmt) (l : ℕ) (us : List Token) (k : ℕ) (r : List Token) → statement May s l us k r → fits s (head_form (head us)) ≡ true
statement_fits May (block ss) l us k r (m, (m1, mid, h, h'), up) = ap (fits (block ss)) (one_form terminal.OpenBrace l us m1 mid h)
statement_fits May blank l us k r h = ap (fits blank) (one_form terminal.Semicolon l us k r h)
statement_fits May (if_only c a) l us k r (m, (m1, mid, h, h'), up) = ap (fits (if_only c a)) (one_form terminal.If l us m1 mid h)
statement_fits May (if_else c a b) l us k r (is, (m0, mid0, (m, (m1, mid, h, h'), up), g)) = ap (fits (if_else c a b)) (one_form terminal.If l us m1 mid h)
statement_fits May (loops at c a) l us k r (m, (m1, mid, h, h'), up) = ap (fits (loops at c a)) (one_at_form terminal.While at l us m1 mid h)
statement_fits May (gives_back at e) l us k r (m, mid, h, h') = ap (fits (gives_back at e)) (one_at_form terminal.Return at l us m mid h)
statement_fits May (local mods kind ds) l us k r (m, mid, (front, parts, all, mods_is, up), (m1, mid1, h, h')) = local_fits May mods mods kind ds m us m1 mid1 front mid parts all h
statement_fits May (set a e) l us k r h = start_fits May (set a e) l us r refl (simple_start May (set a e) l us k r refl h).0
statement_fits May (step a up) l us k r h = start_fits May (step a up) l us r refl (simple_start May (step a up) l us k r refl h).0
statement_fits May (run e) l us k r h = start_fits May (run e) l us r refl (simple_start May (run e) l us k r refl h).0

pub fits_some : (s : Stmt) (f : Form) → fits s f ≡ true → is_some_form f ≡ true
fits_some s form.None e = by s e
  where
    by : (s : Stmt) → fits s form.None ≡ true → is_some_form form.None ≡ true
    by (block ss) e = e
    by s e = e
fits_some s f e = refl

pub some_begins : (h : Option Token) → is_some_form (head_form h) ≡ true → begins_statement h ≡ true
some_begins None e = e
some_begins (Some t) e = e

pub statement_begins : (May : Limit) (s : Stmt) (l : ℕ) (us : List Token) (k : ℕ) (r : List Token) → statement May s l us k r → begins_statement (head us) ≡ true
statement_begins May s l us k r h = some_begins (head us) (fits_some s (head_form (head us)) (statement_fits May s l us k r h))

-- a token that begins no statement
pub no_statement : (x : Terminal) → (x ≡ terminal.Reserved → ⊥) → is_some_form (form_of (false, x)) ≡ false → (h : Option Token) → at_head false h ≡ x → begins_statement h ≡ true → ⊥
no_statement x real ends None is e = cc
no_statement x real ends (Some t) is e = let f : is_some_form (form_of (letter t)) ≡ false = ap (λ v. is_some_form (form_of v)) (on_is false (letter t) x is real) ∙ ends in cc
