-- The laws of classes and texts.
use Rattle.std.proofs.Common.{◌≡◌, ◌⊎◌, ℕ, zero, suc, ◌+◌, Bool, true, false, ◌||◌, List, [], ◌∷◌, ◌++◌, Option, Some, None, refl, sym, ap, ◌∙◌, subst, inl, inr}
use Rattle.std.specs.List.{list_all, flat_map}
use Rattle.java_lex.specs.declared.spelling.Terminal.{Terminal}
use Rattle.java_lex.specs.declared.spelling.Terminal.TheVariants as terminal
use Rattle.java_lex.specs.declared.token.Token.{Token}
use Rattle.java_tree.specs.declared.names.Ident.{Ident}
use Rattle.java_tree.specs.declared.names.Modifier.{Modifier}
use Rattle.java_tree.specs.Trees.{Expr, Exprs, Class, Classes}
use Rattle.java_tree.specs.Phrases.{Limit, Letter, ◌▸◌, letter, name, nothing, where_, many, times}
use Rattle.java_tree.specs.Members.{is_class_modifier, import_line, Written, parts_of, members, class, classes, unit}
use Rattle.reading_core.specs.Read.{◌>>=◌, at_side}
use Rattle.java_reading.specs.declared.marks.Fixed.TheVariants.{OpenBrace, CloseBrace, Class as ClassWord, Package, Import}
use Rattle.java_reading.specs.Readers.{Reader, head, and_then, optional, repeat}
use Rattle.java_reading.specs.Tokens.{is_fixed, stands, fixed, name_in, at_head, next_is}
use Rattle.java_reading.specs.PartForms.{part_form_of, is_part, begins_part}
use Rattle.java_reading.specs.StatementReading.{modifiers_in}
use Rattle.java_reading.specs.MemberReading.{package_in, import_in, member_in, members_in, class_in, begins_class, classes_in, unit_in}
use Rattle.java_reading.proofs.Law.{Family, Extends, never, any, Sample, Exact}
use Rattle.java_reading.proofs.Seq.{seq, seq_law, seq_sample}
use Rattle.java_reading.proofs.Parts.{give_law, give_sample, same_law, bind_law}
use Rattle.java_reading.proofs.Many.{each, many_law, optional_of, optional_law, May_be}
use Rattle.java_reading.proofs.TokenLaws.{name_law, name_sample, one_head, on_is}
use Rattle.java_reading.proofs.Shapes.{then_it, it_then, then_fixed, fixed_then, fixed_then_sample, then_fixed_sample}
use Rattle.java_reading.proofs.ModifierLaws.{MF, MX, allowed_head, modifiers_law, modifiers_sample}
use Rattle.java_reading.proofs.DeclarationLaws.{EF, EX, next_at}
use Rattle.java_reading.proofs.Tails.{ArgsF}
use Rattle.java_reading.proofs.Beginnings.{and_left}
use Rattle.java_reading.proofs.PartLaws.{PF, PX}
use Rattle.java_reading.proofs.Imports.{PackageF, package_law, package_first, ImportF, import_law, import_first}
use Rattle.java_reading.proofs.MemberForms.{MemF}
use Rattle.java_reading.proofs.MemberLaw.{member_first, member_law}

class_plain : (z : Letter) → is_class_modifier z ≡ true → z.1 ≡ terminal.End → ⊥
class_plain (jml, x) e is = let e1 : is_class_modifier (jml, terminal.End) ≡ true = subst (λ (v : Terminal). is_class_modifier (jml, v) ≡ true) is e in by jml e1
  where
    by : (jml : Bool) → is_class_modifier (jml, terminal.End) ≡ true → ⊥
    by true e = cc
    by false e = cc

-- a token that begins no member
no_part : (x : Terminal) → (x ≡ terminal.Reserved → ⊥) → is_part (part_form_of (false, x)) ≡ false → (h : Option Token) → at_head false h ≡ x → begins_part h ≡ true → ⊥
no_part x real ends None is e = cc
no_part x real ends (Some t) is e = let f : is_part (part_form_of (letter t)) ≡ false = ap (λ v. is_part (part_form_of v)) (on_is false (letter t) x is real) ∙ ends in cc

-- CLASSES

abbrev MembersF : Family (List Written)
MembersF = each MemF

abbrev MembersX : Extends (List Written)
MembersX ws h = (begins_part h ≡ true) ⊎ ⊥

members_close : (ws : List Written) (h : Option Token) → MembersX ws h → at_head false h ≡ terminal.CloseBrace → ⊥
members_close ws h (inl e) is = no_part terminal.CloseBrace (λ f. cc) refl h is e
members_close ws h (inr none) is = none

members_to : (May : Limit) (ws : List Written) (m : ℕ) (us : List Token) (k : ℕ) (r : List Token) → each MemF May ws m us k r → members May ws m us k r
members_to May [] m us k r h = h
members_to May (w ∷ ws) m us k r (m1, us1, h, h') = (m1, us1, h, members_to May ws m1 us1 k r h')

members_from : (May : Limit) (ws : List Written) (m : ℕ) (us : List Token) (k : ℕ) (r : List Token) → members May ws m us k r → each MemF May ws m us k r
members_from May [] m us k r h = h
members_from May (w ∷ ws) m us k r (m1, us1, h, h') = (m1, us1, h, members_from May ws m1 us1 k r h')

abbrev G1 : Family (List Written × Unit {0})
G1 = then_it false CloseBrace refl (λ e. cc) MembersF

abbrev G2 : Family (Unit {0} × (List Written × Unit {0}))
G2 = it_then false OpenBrace refl (λ e. cc) G1

abbrev G3 : Family (Ident × (Unit {0} × (List Written × Unit {0})))
G3 = seq (λ May i. name false i) (λ i. G2)

abbrev G4 : Family (Unit {0} × (Ident × (Unit {0} × (List Written × Unit {0}))))
G4 = it_then false ClassWord refl (λ e. cc) G3

abbrev G5 : Family (List Modifier × (Unit {0} × (Ident × (Unit {0} × (List Written × Unit {0})))))
G5 = seq (MF is_class_modifier) (λ mods. G4)

g1 : (m : ℕ) → Sample (List Written × Unit {0}) G1 m
g1 m = then_fixed_sample false CloseBrace refl (λ e. cc) (List Written) MembersF m (record { tokens = []; tree = []; is = λ May c frees. (refl, refl) })

g2 : (m : ℕ) → Sample (Unit {0} × (List Written × Unit {0})) G2 m
g2 m = fixed_then_sample false OpenBrace refl (λ e. cc) (List Written × Unit {0}) G1 m (g1 m)

g3 : (m : ℕ) → Sample (Ident × (Unit {0} × (List Written × Unit {0}))) G3 m
g3 m = seq_sample Ident (Unit {0} × (List Written × Unit {0})) (λ May i. name false i) (λ i. G2) m (name_sample false m) (λ i. g2 m)

g4 : (m : ℕ) → Sample (Unit {0} × (Ident × (Unit {0} × (List Written × Unit {0})))) G4 m
g4 m = fixed_then_sample false ClassWord refl (λ e. cc) (Ident × (Unit {0} × (List Written × Unit {0}))) G3 m (g3 m)

abbrev pub ClassF : Family Class
ClassF May c = class May c

abbrev class_of : List Modifier × (Unit {0} × (Ident × (Unit {0} × (List Written × Unit {0})))) → Class
class_of x = record { mods = x.0; name = x.1.1.0; members = flat_map parts_of x.1.1.1.1.0 }

class_to : (May : Limit) (x : List Modifier × (Unit {0} × (Ident × (Unit {0} × (List Written × Unit {0}))))) (m : ℕ) (us : List Token) (k : ℕ) (r : List Token) → G5 May x m us k r → class May (class_of x) m us k r
class_to May x m us k r (m1, us1, h1, (m2, us2, h2, (m3, us3, h3, (m4, us4, h4, (m5, us5, h5, h6))))) =
    (m1, us1, h1, (m2, us2, h2, (m3, us3, h3, (m4, us4, h4, (m5, us5, (x.1.1.1.1.0, refl, members_to May x.1.1.1.1.0 m4 us4 m5 us5 h5), h6)))))

class_from : (May : Limit) (c : Class) (m : ℕ) (us : List Token) (k : ℕ) (r : List Token) → class May c m us k r → (x : List Modifier × (Unit {0} × (Ident × (Unit {0} × (List Written × Unit {0}))))) × (c ≡ class_of x) × G5 May x m us k r
class_from May c m us k r (m1, us1, h1, (m2, us2, h2, (m3, us3, h3, (m4, us4, h4, (m5, us5, (ws, is, h5), h6))))) =
    ((c.mods, (tt, (c.name, (tt, (ws, tt))))), ap (λ ps. record { mods = c.mods; name = c.name; members = ps }) is, (m1, us1, h1, (m2, us2, h2, (m3, us3, h3, (m4, us4, h4, (m5, us5, members_from May ws m4 us4 m5 us5 h5, h6))))))

pub class_sample : (m : ℕ) → Sample Class ClassF m
class_sample m = give_sample (List Modifier × (Unit {0} × (Ident × (Unit {0} × (List Written × Unit {0}))))) Class G5 ClassF class_of m (λ May x us k r h. class_to May x m us k r h)
    (seq_sample (List Modifier) (Unit {0} × (Ident × (Unit {0} × (List Written × Unit {0})))) (MF is_class_modifier) (λ mods. G4) m (modifiers_sample is_class_modifier m) (λ mods. g4 m))

or_true_left : (a b : Bool) → a ≡ true → (a || b) ≡ true
or_true_left true b e = refl
or_true_left false b e = absurd (cc)

or_true_right : (a b : Bool) → b ≡ true → (a || b) ≡ true
or_true_right true b e = refl
or_true_right false b e = e

class_word_apart : (mods : List Modifier) (May : Limit) (x : Unit {0} × (Ident × (Unit {0} × (List Written × Unit {0})))) (m : ℕ) (us : List Token) (k : ℕ) (r : List Token) → G4 May x m us k r → MX is_class_modifier mods (head us) → ⊥
class_word_apart mods May x m us k r (m1, us1, (t, is, parts, up), h) e = let f : true ≡ false = sym e ∙ ap (λ v. allowed_head is_class_modifier (head v)) parts ∙ ap is_class_modifier is in cc

-- the first token of a class, where the readers of expressions do not matter
abbrev starts_class : Option Token → Bool
starts_class None = false
starts_class (Some t) = is_class_modifier (letter t) || stands false ClassWord t

class_first : (May : Limit) (c : Class) (m : ℕ) (us : List Token) (k : ℕ) (r : List Token) → ClassF May c m us k r → starts_class (head us) ≡ true
class_first May c m us k r (m1, us1, (front, parts, all, mods_is, up), (m2, us2, h, h')) = by front parts all
  where
    at_word : (h : Option Token) → at_head false h ≡ terminal.Class → starts_class h ≡ true
    at_word None e = cc
    at_word (Some t) e = or_true_right (is_class_modifier (letter t)) (stands false ClassWord t) (ap (is_fixed ClassWord) e)

    by : (front : List Token) → us ≡ front ++ us1 → list_all (λ t. is_class_modifier (letter t)) front ≡ true → starts_class (head us) ≡ true
    by [] parts all = at_word (head us) (ap (λ v. at_head false (head v)) parts ∙ one_head false terminal.Class m1 us1 m2 us2 h)
    by (t ∷ front) parts all = ap (λ v. starts_class (head v)) parts ∙ or_true_left (is_class_modifier (letter t)) (stands false ClassWord t) (and_left (is_class_modifier (letter t)) _ all)

-- a token that begins no class
pub no_class : (x : Terminal) → (x ≡ terminal.Reserved → ⊥) → is_class_modifier (false, x) ≡ false → is_fixed ClassWord x ≡ false → (h : Option Token) → at_head false h ≡ x → starts_class h ≡ true → ⊥
no_class x real no_modifier no_word None is e = cc
no_class x real no_modifier no_word (Some t) is e = let f : (is_class_modifier (letter t) || is_fixed ClassWord (at_side false t)) ≡ false = or_both (ap is_class_modifier (on_is false (letter t) x is real) ∙ no_modifier) (ap (is_fixed ClassWord) is ∙ no_word) in cc
  where
    or_both : {a b : Bool} → a ≡ false → b ≡ false → (a || b) ≡ false
    or_both {a} {b} e f = subst (λ (v : Bool). (v || b) ≡ false) (sym e) f

abbrev pub ClassesF : Family Classes
ClassesF May [] = where_ ⊥ nothing
ClassesF May (c ∷ cs) = class May c ▸ classes May cs

abbrev pub ClassesX : Extends Classes
ClassesX cs h = (starts_class h ≡ true) ⊎ ⊥

classes_to : (May : Limit) (cs : Classes) (m : ℕ) (us : List Token) (k : ℕ) (r : List Token) → each ClassF May cs m us k r → classes May cs m us k r
classes_to May [] m us k r h = h
classes_to May (c ∷ cs) m us k r (m1, us1, h, h') = (m1, us1, h, classes_to May cs m1 us1 k r h')

classes_from : (May : Limit) (cs : Classes) (m : ℕ) (us : List Token) (k : ℕ) (r : List Token) → classes May cs m us k r → each ClassF May cs m us k r
classes_from May [] m us k r h = h
classes_from May (c ∷ cs) m us k r (m1, us1, h, h') = (m1, us1, h, classes_from May cs m1 us1 k r h')

classes_head : (May : Limit) (cs : Classes) (m : ℕ) (us : List Token) (k : ℕ) (r : List Token) → ClassesF May cs m us k r → starts_class (head us) ≡ true
classes_head May [] m us k r h = absurd h.0
classes_head May (c ∷ cs) m us k r (m1, us1, h, h') = class_first May c m us m1 us1 h

classes_sample : (m : ℕ) → Sample Classes ClassesF m
classes_sample m = give_sample Class Classes ClassF ClassesF (λ c. c ∷ []) m (λ May c us k r h. (k, r, h, (refl, refl))) (class_sample m)

-- UNITS

abbrev pub UF : Family Classes
UF May cs = unit May cs

-- imports and classes
abbrev RestF : Family Classes
RestF May cs = many import_line ▸ ClassesF May cs

imports_to : (May : Limit) (l : ℕ) (os : List (Unit {0})) (m : ℕ) (us : List Token) (k : ℕ) (r : List Token) → each (ImportF l) May os m us k r → many import_line m us k r
imports_to May l [] m us k r h = (0, h)
imports_to May l (o ∷ os) m us k r (m1, us1, h, h') = let more = imports_to May l os m1 us1 k r h' in (suc more.0, (m1, us1, h, more.1))

imports_from : (May : Limit) (l n m : ℕ) (us : List Token) (k : ℕ) (r : List Token) → times n import_line m us k r → (os : List (Unit {0})) × each (ImportF l) May os m us k r
imports_from May l zero m us k r h = ([], h)
imports_from May l (suc n) m us k r (m1, us1, h, h') = let more = imports_from May l n m1 us1 k r h' in (tt ∷ more.0, (m1, us1, h, more.1))

abbrev ImportsX : Extends (List (Unit {0}))
ImportsX os h = (next_is false Import h ≡ true) ⊎ ⊥

imports_apart : (os : List (Unit {0})) (May : Limit) (cs : Classes) (m : ℕ) (us : List Token) (k : ℕ) (r : List Token) → ClassesF May cs m us k r → ImportsX os (head us) → ClassesX cs (head r)
imports_apart os May cs m us k r h (inl e) = absurd (no_class terminal.Import (λ f. cc) refl refl (head us) (next_at false Import (head us) e) (classes_head May cs m us k r h))
imports_apart os May cs m us k r h (inr none) = absurd none

rest_head : (May : Limit) (cs : Classes) (m : ℕ) (us : List Token) (k : ℕ) (r : List Token) → RestF May cs m us k r → at_head false (head us) ≡ terminal.Package → ⊥
rest_head May cs m us k r (m1, us1, (zero, (up, same)), h) is = no_class terminal.Package (λ f. cc) refl refl (head us1) (ap (λ v. at_head false (head v)) same ∙ is) (classes_head May cs m1 us1 k r h)
rest_head May cs m us k r (m1, us1, (suc n, (m2, us2, (m3, us3, h1, h2), h3)), h) is = let e : terminal.Import ≡ terminal.Package = sym (one_head false terminal.Import m us m3 us3 h1) ∙ is in cc

rest_sample : (m : ℕ) → Sample Classes RestF m
rest_sample m = give_sample Classes Classes ClassesF RestF (λ cs. cs) m (λ May cs us k r h. (m, us, (0, (refl, refl)), h)) (classes_sample m)

module _ (expression : ℕ → Reader Expr) (arguments : ℕ → Reader Exprs) (predicate_in : ℕ → Reader Expr)
    (expression_law : (left l : ℕ) → l + left ≡ 64 → Exact Expr EF EX any l (expression left))
    (arguments_law : (left l : ℕ) → l + left ≡ 64 → Exact Exprs ArgsF never any l (arguments left)) (arguments_sample : (l : ℕ) → Sample Exprs ArgsF l)
    (predicate_law : (left l : ℕ) → l + left ≡ 64 → Exact Expr PF PX any l (predicate_in left)) (predicate_sample : (l : ℕ) → Sample Expr PF l)
    (left l : ℕ) (sum : l + left ≡ 64) where
  members_law : Exact (List Written) MembersF MembersX any l (members_in expression arguments predicate_in left)
  members_law =
      many_law Written MemF never any begins_part (λ h. ⊥) member_first (λ w h none. none) (λ h none e. none) refl l (member_in expression arguments predicate_in left)
      (member_law expression arguments predicate_in expression_law arguments_law arguments_sample predicate_law predicate_sample left l sum)

  pub class_law : Exact Class ClassF never any l (class_in expression arguments predicate_in left)
  class_law ts =
      give_law (List Modifier × (Unit {0} × (Ident × (Unit {0} × (List Written × Unit {0}))))) Class G5 never any ClassF never any class_of class_to (λ x h none. none) (λ x h s. tt) l ts
      (and_then (modifiers_in is_class_modifier ts) (λ mods ts. and_then (fixed false ClassWord ts) (λ u ts. and_then (name_in false ts) (λ i ts. and_then (fixed false OpenBrace ts) (λ u ts. and_then (members_in expression arguments predicate_in left ts) (λ ws. fixed false CloseBrace))))))
      (λ May c us k r same h. inl (class_from May c l us k r h))
      (seq_law (List Modifier) (Unit {0} × (Ident × (Unit {0} × (List Written × Unit {0})))) (MF is_class_modifier) (MX is_class_modifier) any (λ mods. G4) (λ mods. never) (λ mods. any) (λ mods. g4) class_word_apart l ts (modifiers_in is_class_modifier ts)
      (modifiers_law is_class_modifier class_plain l ts) (λ mods ts. and_then (fixed false ClassWord ts) (λ u ts. and_then (name_in false ts) (λ i ts. and_then (fixed false OpenBrace ts) (λ u ts. and_then (members_in expression arguments predicate_in left ts) (λ ws. fixed false CloseBrace)))))
      (λ mods mid got. fixed_then false ClassWord refl (λ e. cc) (Ident × (Unit {0} × (List Written × Unit {0}))) G3 never any g3 l (λ ts. and_then (name_in false ts) (λ i ts. and_then (fixed false OpenBrace ts) (λ u ts. and_then (members_in expression arguments predicate_in left ts) (λ ws. fixed false CloseBrace))))
      (λ ts. seq_law Ident (Unit {0} × (List Written × Unit {0})) (λ May i. name false i) never any (λ i. G2) (λ i. never) (λ i. any) (λ i. g2) (λ i May x m us k r h none. none) l ts (name_in false ts) (name_law false l ts)
      (λ i ts. and_then (fixed false OpenBrace ts) (λ u ts. and_then (members_in expression arguments predicate_in left ts) (λ ws. fixed false CloseBrace)))
      (λ i mid got. fixed_then false OpenBrace refl (λ e. cc) (List Written × Unit {0}) G1 never any g1 l (λ ts. and_then (members_in expression arguments predicate_in left ts) (λ ws. fixed false CloseBrace))
      (then_fixed false CloseBrace refl (λ e. cc) (List Written) MembersF MembersX any members_close l (members_in expression arguments predicate_in left) members_law) mid)) mid))

  abbrev CsF : Family Classes
  CsF May cs = classes May cs

  more_law : Exact Classes CsF ClassesX any l (repeat (begins_class expression arguments predicate_in left) (class_in expression arguments predicate_in left))
  more_law ts =
      same_law Classes (each ClassF) CsF ClassesX any classes_to classes_from l ts (repeat (begins_class expression arguments predicate_in left) (class_in expression arguments predicate_in left) ts)
      (many_law Class ClassF never any starts_class (λ h. ⊥) class_first (λ c h none. none) (λ h none e. none) refl l (class_in expression arguments predicate_in left) class_law ts)

  classes_back : (May : Limit) (cs : Classes) (us : List Token) (k : ℕ) (r : List Token) → ClassesF May cs l us k r → (x : Class × Classes) × (cs ≡ x.0 ∷ x.1) × seq ClassF (λ c. CsF) May x l us k r
  classes_back May [] us k r h = absurd h.0
  classes_back May (c ∷ cs) us k r h = ((c, cs), refl, h)

  classes_law : Exact Classes ClassesF ClassesX any l (classes_in expression arguments predicate_in left)
  classes_law ts =
      give_law (Class × Classes) Classes (seq ClassF (λ c. CsF)) (λ x. ClassesX x.1) (λ x h. Unit {0}) ClassesF ClassesX any (λ x. x.0 ∷ x.1) (λ May x m us k r h. h) (λ x h e. e) (λ x h s. tt) l ts
      (and_then (class_in expression arguments predicate_in left ts) (λ c. repeat (begins_class expression arguments predicate_in left) (class_in expression arguments predicate_in left))) (λ May cs us k r same h. inl (classes_back May cs us k r h))
      (seq_law Class Classes ClassF never any (λ c. CsF) (λ c. ClassesX) (λ c. any) (λ c m. record { tokens = []; tree = []; is = λ May c frees. (refl, refl) }) (λ c May cs m us k r h none. absurd none) l ts (class_in expression arguments predicate_in left ts) (class_law ts)
      (λ c. repeat (begins_class expression arguments predicate_in left) (class_in expression arguments predicate_in left)) (λ c mid got. more_law mid))

  rest_law : Exact Classes RestF ClassesX any l (λ ts. repeat (next_is false Import) import_in ts >>= (λ us rest. classes_in expression arguments predicate_in left rest))
  rest_law ts =
      bind_law (List (Unit {0})) Classes (each (ImportF l)) ImportsX any (λ os. ClassesF) (λ os. ClassesX) (λ os. any) (λ os. classes_sample) imports_apart RestF ClassesX any (λ May x m us k r h. (h.0, h.1, imports_to May l x.0 m us h.0 h.1 h.2, h.3))
      (λ x h e. e) (λ x h s. tt) l ts (repeat (next_is false Import) import_in ts)
      (many_law (Unit {0}) (ImportF l) never any (next_is false Import) (λ h. ⊥) (import_first l) (λ o h none. none) (λ h none e. none) refl l import_in (import_law l) ts) (λ os rest. classes_in expression arguments predicate_in left rest)
      (λ os mid got. classes_law mid) (λ May cs us k r same h. inl (let os = imports_from May l h.2.0 l us h.0 h.1 h.2.1 in ((os.0, cs), refl, (h.0, h.1, os.1, h.3))))

  abbrev PackX : Extends (Option (Unit {0}))
  PackX = May_be (Unit {0}) PackageF never any (next_is false Package) package_first l

  pack_apart : (o : Option (Unit {0})) (May : Limit) (cs : Classes) (m : ℕ) (us : List Token) (k : ℕ) (r : List Token) → RestF May cs m us k r → PackX o (head us) → ClassesX cs (head r)
  pack_apart None May cs m us k r h e = absurd (rest_head May cs m us k r h (next_at false Package (head us) e))
  pack_apart (Some u) May cs m us k r h e = absurd e

  unit_to : (May : Limit) (o : Option (Unit {0})) (cs : Classes) (m : ℕ) (us : List Token) (k : ℕ) (r : List Token) → seq (optional_of PackageF) (λ o. RestF) May (o, cs) m us k r → unit May cs m us k r
  unit_to May o [] m us k r (m1, us1, h, (m2, us2, h', none)) = absurd none.0
  unit_to May None (c ∷ cs) m us k r (m1, us1, h, rest) = (m1, us1, inl h, rest)
  unit_to May (Some u) (c ∷ cs) m us k r (m1, us1, h, rest) = (m1, us1, inr h, rest)

  unit_from : (May : Limit) (cs : Classes) (m : ℕ) (us : List Token) (k : ℕ) (r : List Token) → unit May cs m us k r → (x : Option (Unit {0}) × Classes) × (cs ≡ x.1) × seq (optional_of PackageF) (λ o. RestF) May x m us k r
  unit_from May [] m us k r h = absurd h.0
  unit_from May (c ∷ cs) m us k r (m1, us1, inl h, rest) = ((None, c ∷ cs), refl, (m1, us1, h, rest))
  unit_from May (c ∷ cs) m us k r (m1, us1, inr h, rest) = ((Some tt, c ∷ cs), refl, (m1, us1, h, rest))

  pub unit_law : Exact Classes UF ClassesX any l (unit_in expression arguments predicate_in left)
  unit_law ts =
      bind_law (Option (Unit {0})) Classes (optional_of PackageF) PackX any (λ o. RestF) (λ o. ClassesX) (λ o. any) (λ o. rest_sample) pack_apart UF ClassesX any (λ May x m us k r h. unit_to May x.0 x.1 m us k r h) (λ x h e. e) (λ x h s. tt) l ts
      (optional (next_is false Package) package_in ts) (optional_law (Unit {0}) PackageF never any (next_is false Package) package_first l package_in (package_law l) ts)
      (λ o rest. repeat (next_is false Import) import_in rest >>= (λ us rest. classes_in expression arguments predicate_in left rest)) (λ o mid got. rest_law mid) (λ May cs us k r same h. inl (unit_from May cs l us k r h))
