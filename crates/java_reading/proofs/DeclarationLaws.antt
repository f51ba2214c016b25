-- The laws of declarations.
use Rattle.std.proofs.Common.{◌≡◌, ◌⊎◌, ℕ, ◌+◌, Bool, true, false, List, [], ◌∷◌, Option, Some, None, refl, sym, ap, ◌∙◌, subst, inl, inr, codes}
use Rattle.java_lex.specs.declared.spelling.Terminal.{Terminal}
use Rattle.java_lex.specs.declared.spelling.Terminal.TheVariants as terminal
use Rattle.java_lex.specs.declared.token.Token.{Token}
use Rattle.java_tree.specs.declared.names.Ident.{Ident}
use Rattle.java_tree.specs.Trees.{Expr, named, Exprs, Decl}
use Rattle.java_tree.specs.declared.names.Modifier.{Modifier}
use Rattle.java_tree.specs.declared.names.TypeTree.{TypeTree}
use Rattle.java_tree.specs.declared.names.TypeTree.TheVariants.{Int, Flag, Class as class_type}
use Rattle.java_tree.specs.Phrases.{Limit, Letter, ◌▸◌, ident_of, one, name}
use Rattle.java_tree.specs.Expressions.{expression}
use Rattle.java_tree.specs.Statements.{value_of, declaration, more_declarations, declarations, is_local_modifier}
use Rattle.java_reading.specs.declared.marks.Fixed.{Fixed}
use Rattle.java_reading.specs.declared.marks.Fixed.TheVariants.{Semicolon, Comma, Assign}
use Rattle.java_reading.specs.Readers.{Reader, head, second, and_then, optional}
use Rattle.java_reading.specs.Tokens.{is_fixed, terminal_of_fixed, fixed, name_in, at_head, next_is}
use Rattle.java_reading.specs.Expressions.{goes_on, extends}
use Rattle.java_reading.specs.StatementReading.{value_in, declaration_in, more_declarations_in, declarations_in, declared_in, modifiers_in, type_in}
use Rattle.java_reading.proofs.Law.{Family, Extends, never, any, Sample, Exact}
use Rattle.java_reading.proofs.Seq.{seq, seq_law, seq_sample}
use Rattle.java_reading.proofs.Parts.{give_law, give_sample, same_law}
use Rattle.java_reading.proofs.Many.{each, many_law, optional_of, optional_law, optional_sample, May_be}
use Rattle.java_reading.proofs.ModifierLaws.{MF, MX, TF, TypeToken, allowed_head, modifiers_law, type_law, type_sample, type_head}
use Rattle.java_reading.proofs.TokenLaws.{fixed_is, name_law, name_sample, one_head, word_at}
use Rattle.java_reading.proofs.Shapes.{then_it, it_then, then_fixed, fixed_then, then_fixed_sample}

abbrev pub EF : Family Expr
EF May e = expression May e

abbrev pub EX : Extends Expr
EX e h = extends false h ≡ true

-- a name is an expression
pub expression_sample : (l : ℕ) → Sample Expr EF l
expression_sample l = record {
  tokens = word_at false (codes "a") ∷ [];
  tree = named 0 (ident_of (word_at false (codes "a")));
  is = λ May c frees. (l, (refl, (word_at false (codes "a"), (refl, refl), refl, refl)), refl);
}

-- a token that is this one does not go on with an expression
pub no_extension : (x : Fixed) → goes_on (terminal_of_fixed x) ≡ false → (h : Option Token) → at_head false h ≡ terminal_of_fixed x → extends false h ≡ true → ⊥
no_extension x ends h is so = let e : goes_on (terminal_of_fixed x) ≡ true = ap goes_on (sym is) ∙ so in cc

pub next_at : (side : Bool) (x : Fixed) (h : Option Token) → next_is side x h ≡ true → at_head side h ≡ terminal_of_fixed x
next_at side x h e = fixed_is x (at_head side h) e

pub local_plain : (z : Letter) → is_local_modifier z ≡ true → z.1 ≡ terminal.End → ⊥
local_plain (jml, x) e is = let e1 : is_local_modifier (jml, terminal.End) ≡ true = subst (λ (v : Terminal). is_local_modifier (jml, v) ≡ true) is e in by jml e1
  where
    by : (jml : Bool) → is_local_modifier (jml, terminal.End) ≡ true → ⊥
    by true e = cc
    by false e = cc

module _ (expression : ℕ → Reader Expr) (arguments : ℕ → Reader Exprs) (expression_law : (left l : ℕ) → l + left ≡ 64 → Exact Expr EF EX any l (expression left)) (left l : ℕ) (sum : l + left ≡ 64) where
  abbrev pub VF : Family Expr
  VF May e = one (false, terminal.Assign) ▸ EF May e

  pub value_law : Exact Expr VF EX any l (value_in expression arguments left)
  value_law ts =
      give_law (Unit {0} × Expr) Expr (it_then false Assign refl (λ e. cc) EF) (λ y. EX y.1) (λ y. any y.1) VF EX any (λ x. x.1) (λ May x m us k r h. h) (λ x h e. e) (λ x h e. tt) l ts
      (and_then (fixed false Assign ts) (λ u. expression left)) (λ May e us k r same h. inl ((tt, e), refl, h))
      (fixed_then false Assign refl (λ e. cc) Expr EF EX any expression_sample l (expression left) (expression_law left l sum) ts)

  abbrev pub DF : Family Decl
  DF May d = declaration May d

  abbrev pub DX : Extends Decl
  DX d h = (next_is false Assign h ≡ true) ⊎ (extends false h ≡ true)

  value_to : (May : Limit) (v : Option Expr) (m : ℕ) (us : List Token) (k : ℕ) (r : List Token) → optional_of VF May v m us k r → value_of May v m us k r
  value_to May None m us k r h = h
  value_to May (Some e) m us k r h = h

  value_from : (May : Limit) (v : Option Expr) (m : ℕ) (us : List Token) (k : ℕ) (r : List Token) → value_of May v m us k r → optional_of VF May v m us k r
  value_from May None m us k r h = h
  value_from May (Some e) m us k r h = h

  assigns : (May : Limit) (e : Expr) (m : ℕ) (us : List Token) (k : ℕ) (r : List Token) → VF May e m us k r → next_is false Assign (head us) ≡ true
  assigns May e m us k r (m', mid, h, h') = ap (is_fixed Assign) (one_head false terminal.Assign m us m' mid h)

  abbrev OX : Extends (Option Expr)
  OX = May_be Expr VF EX any (next_is false Assign) assigns l

  abbrev OF : Family (Option Expr)
  OF = optional_of VF

  abbrev NV : Family (Ident × Option Expr)
  NV = seq (λ May i. name false i) (λ i. OF)

  abbrev decl_of : Ident × Option Expr → Decl
  decl_of x = record { name = x.0; value = x.1 }

  grows : (x : Ident × Option Expr) (h : Option Token) → OX x.1 h → DX (decl_of x) h
  grows x h = by x.1
    where
      by : (v : Option Expr) → OX v h → (next_is false Assign h ≡ true) ⊎ (extends false h ≡ true)
      by None e = inl e
      by (Some v) e = inr e

  pub declaration_law : Exact Decl DF DX any l (declaration_in expression arguments left)
  declaration_law ts =
      give_law (Ident × Option Expr) Decl NV (λ x. OX x.1) (λ x h. Unit {0}) DF DX any decl_of (λ May x m us k r h. (h.0, h.1, h.2, value_to May x.1 h.0 h.1 k r h.3)) grows (λ x h e. tt) l ts
      (and_then (name_in false ts) (λ i. optional (next_is false Assign) (value_in expression arguments left)))
      (λ May d us k r same h. inl ((d.name, d.value), refl, (h.0, h.1, h.2, value_from May d.value h.0 h.1 k r h.3)))
      (seq_law Ident (Option Expr) (λ May i. name false i) never any (λ i. OF) (λ i. OX) (λ i. any) (λ i m. optional_sample Expr VF EX any (next_is false Assign) assigns m) (λ i May v m us k r h none. absurd none)
      l ts (name_in false ts) (name_law false l ts) (λ i. optional (next_is false Assign) (value_in expression arguments left))
      (λ i mid got. optional_law Expr VF EX any (next_is false Assign) assigns l (value_in expression arguments left) value_law mid))

  pub declaration_sample : (m : ℕ) → Sample Decl DF m
  declaration_sample m = give_sample Ident Decl (λ May i. name false i) DF (λ i. record { name = i; value = None }) m (λ May i us k r h. (k, r, h, (refl, refl))) (name_sample false m)

  -- { "," Decl }
  abbrev CD : Family Decl
  CD May d = one (false, terminal.Comma) ▸ declaration May d

  abbrev item : Reader Decl
  item ts = second (and_then (fixed false Comma ts) (λ x. declaration_in expression arguments left))

  item_law : Exact Decl CD DX any l item
  item_law ts =
      give_law (Unit {0} × Decl) Decl (it_then false Comma refl (λ e. cc) DF) (λ y. DX y.1) (λ y. any y.1) CD DX any (λ x. x.1) (λ May x m us k r h. h) (λ x h e. e) (λ x h e. tt) l ts
      (and_then (fixed false Comma ts) (λ u. declaration_in expression arguments left)) (λ May d us k r same h. inl ((tt, d), refl, h))
      (fixed_then false Comma refl (λ e. cc) Decl DF DX any declaration_sample l (declaration_in expression arguments left) declaration_law ts)

  more_to : (May : Limit) (ds : List Decl) (m : ℕ) (us : List Token) (k : ℕ) (r : List Token) → each CD May ds m us k r → more_declarations May ds m us k r
  more_to May [] m us k r h = h
  more_to May (d ∷ ds) m us k r (m1, us1, (m2, us2, h, h'), rest) = (m2, us2, h, (m1, us1, h', more_to May ds m1 us1 k r rest))

  more_from : (May : Limit) (ds : List Decl) (m : ℕ) (us : List Token) (k : ℕ) (r : List Token) → more_declarations May ds m us k r → each CD May ds m us k r
  more_from May [] m us k r h = h
  more_from May (d ∷ ds) m us k r (m2, us2, h, (m1, us1, h', rest)) = (m1, us1, (m2, us2, h, h'), more_from May ds m1 us1 k r rest)

  abbrev EH : Option Token → Type 0
  EH h = (next_is false Assign h ≡ true) ⊎ (extends false h ≡ true)

  comma_first : (May : Limit) (d : Decl) (m : ℕ) (us : List Token) (k : ℕ) (r : List Token) → CD May d m us k r → next_is false Comma (head us) ≡ true
  comma_first May d m us k r (m', mid, h, h') = ap (is_fixed Comma) (one_head false terminal.Comma m us m' mid h)

  comma_apart : (h : Option Token) → EH h → next_is false Comma h ≡ true → ⊥
  comma_apart h (inl e) comma = let e1 : at_head false h ≡ terminal.Assign = next_at false Assign h e in let e2 : at_head false h ≡ terminal.Comma = next_at false Comma h comma in let e3 : terminal.Assign ≡ terminal.Comma = sym e1 ∙ e2 in cc
  comma_apart h (inr e) comma = no_extension Comma refl h (next_at false Comma h comma) e

  abbrev pub LX : Extends (List Decl)
  LX ds h = (next_is false Comma h ≡ true) ⊎ EH h

  abbrev MD : Family (List Decl)
  MD May ds = more_declarations May ds

  more_law : Exact (List Decl) MD LX any l (more_declarations_in expression arguments left)
  more_law ts =
      same_law (List Decl) (each CD) MD LX any more_to more_from l ts (more_declarations_in expression arguments left ts)
      (many_law Decl CD DX any (next_is false Comma) EH comma_first (λ d h e. e) comma_apart refl l item item_law ts)

  abbrev pub LF : Family (List Decl)
  LF May ds = declarations May ds

  declarations_back : (May : Limit) (ds : List Decl) (us : List Token) (k : ℕ) (r : List Token) → LF May ds l us k r → (x : Decl × List Decl) × (ds ≡ x.0 ∷ x.1) × seq DF (λ d. MD) May x l us k r
  declarations_back May [] us k r h = absurd h.0
  declarations_back May (d ∷ ds) us k r h = ((d, ds), refl, h)

  more_apart : (d : Decl) (May : Limit) (ds : List Decl) (m : ℕ) (us : List Token) (k : ℕ) (r : List Token) → MD May ds m us k r → DX d (head us) → LX ds (head r)
  more_apart d May [] m us k r (up, is) x = inr (subst (λ (v : List Token). EH (head v)) (sym is) x)
  more_apart d May (d' ∷ ds) m us k r (m2, us2, h, rest) x = absurd (comma_apart (head us) x (ap (is_fixed Comma) (one_head false terminal.Comma m us m2 us2 h)))

  declarations_law : Exact (List Decl) LF LX any l (declarations_in expression arguments left)
  declarations_law ts =
      give_law (Decl × List Decl) (List Decl) (seq DF (λ d. MD)) (λ x. LX x.1) (λ x h. Unit {0}) LF LX any (λ x. x.0 ∷ x.1) (λ May x m us k r h. h) (λ x h e. e) (λ x h e. tt) l ts
      (and_then (declaration_in expression arguments left ts) (λ d. more_declarations_in expression arguments left)) (λ May ds us k r same h. inl (declarations_back May ds us k r h))
      (seq_law Decl (List Decl) DF DX any (λ d. MD) (λ d. LX) (λ d. any) (λ d m. record { tokens = []; tree = []; is = λ May c frees. (refl, refl) }) more_apart
      l ts (declaration_in expression arguments left ts) (declaration_law ts) (λ d. more_declarations_in expression arguments left) (λ d mid got. more_law mid))

  -- Decl { "," Decl } ";"
  abbrev pub SF : Family (List Decl)
  SF May ds = declarations May ds ▸ one (false, terminal.Semicolon)

  semicolon_apart : (ds : List Decl) (h : Option Token) → LX ds h → at_head false h ≡ terminal.Semicolon → ⊥
  semicolon_apart ds h (inl e) is = let e1 : terminal.Comma ≡ terminal.Semicolon = sym (next_at false Comma h e) ∙ is in cc
  semicolon_apart ds h (inr (inl e)) is = let e1 : terminal.Assign ≡ terminal.Semicolon = sym (next_at false Assign h e) ∙ is in cc
  semicolon_apart ds h (inr (inr e)) is = no_extension Semicolon refl h is e

  pub declared_law : Exact (List Decl) SF never any l (declared_in expression arguments left)
  declared_law ts =
      give_law (List Decl × Unit {0}) (List Decl) (then_it false Semicolon refl (λ e. cc) LF) never any SF never any (λ x. x.0) (λ May x m us k r h. h) (λ x h none. none) (λ x h e. tt) l ts
      (and_then (declarations_in expression arguments left ts) (λ ds. fixed false Semicolon)) (λ May ds us k r same h. inl ((ds, tt), refl, h))
      (then_fixed false Semicolon refl (λ e. cc) (List Decl) LF LX any semicolon_apart l (declarations_in expression arguments left) declarations_law ts)

  pub declared_sample : (m : ℕ) → Sample (List Decl) SF m
  declared_sample m =
      give_sample (Decl × Unit {0}) (List Decl) (then_it false Semicolon refl (λ e. cc) DF) SF (λ x. x.0 ∷ []) m (λ May x us k r h. (h.0, h.1, (h.0, h.1, h.2, (refl, refl)), h.3)) (then_fixed_sample false Semicolon refl (λ e. cc) Decl DF m (declaration_sample m))

  -- { "final" | Null } Type Decl { "," Decl } ";"
  abbrev pub KF : Family (TypeTree × List Decl)
  KF = seq TF (λ kind. SF)

  abbrev pub ModsF : Family (List Modifier × (TypeTree × List Decl))
  ModsF = seq (MF is_local_modifier) (λ mods. KF)

  type_apart : (mods : List Modifier) (May : Limit) (x : TypeTree × List Decl) (m : ℕ) (us : List Token) (k : ℕ) (r : List Token) → KF May x m us k r → allowed_head is_local_modifier (head us) ≡ true → ⊥
  type_apart mods May x m us k r (m', mid, h, h') e = by x.0 (type_head x.0 m us m' mid h)
    where
      by : (kind : TypeTree) → (t : Token) × (head us ≡ Some t) × TypeToken kind t → ⊥
      by Int (t, is, its) = let e1 : true ≡ false = sym e ∙ ap (allowed_head is_local_modifier) is ∙ ap is_local_modifier its in cc
      by Flag (t, is, its) = let e1 : true ≡ false = sym e ∙ ap (allowed_head is_local_modifier) is ∙ ap is_local_modifier its in cc
      by (class_type i) (t, is, its) = let e1 : true ≡ false = sym e ∙ ap (allowed_head is_local_modifier) is ∙ ap is_local_modifier its.0 in cc

  pub mods_law : Exact (List Modifier × (TypeTree × List Decl)) ModsF never any l (λ ts. and_then (modifiers_in is_local_modifier ts) (λ mods ts. and_then (type_in ts) (λ kind. declared_in expression arguments left)))
  mods_law ts =
      seq_law (List Modifier) (TypeTree × List Decl) (MF is_local_modifier) (MX is_local_modifier) any (λ mods. KF) (λ mods. never) (λ mods. any) (λ mods m. seq_sample TypeTree (List Decl) TF (λ kind. SF) m (type_sample m) (λ kind. declared_sample m)) type_apart
      l ts (modifiers_in is_local_modifier ts) (modifiers_law is_local_modifier local_plain l ts) (λ mods ts. and_then (type_in ts) (λ kind. declared_in expression arguments left))
      (λ mods mid got. seq_law TypeTree (List Decl) TF never any (λ kind. SF) (λ kind. never) (λ kind. any) (λ kind m. declared_sample m) (λ kind May ds m us k r h none. none) l mid (type_in mid) (type_law l mid)
      (λ kind. declared_in expression arguments left) (λ kind mid' got'. declared_law mid'))
