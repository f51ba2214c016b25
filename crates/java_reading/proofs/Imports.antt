-- The laws of packages and imports.
use Rattle.std.proofs.Common.{◌≡◌, ◌⊎◌, ℕ, zero, suc, ◌<◌, Bool, true, false, List, [], ◌∷◌, ◌++◌, length, Option, Some, None, refl, sym, ap, ◌∙◌, subst, inl, inr, arith, length-append}
use Rattle.java_lex.specs.declared.spelling.Terminal.{Terminal}
use Rattle.java_lex.specs.declared.spelling.Terminal.TheVariants as terminal
use Rattle.java_lex.specs.declared.token.Token.{Token}
use Rattle.java_tree.specs.declared.names.Ident.{Ident}
use Rattle.java_tree.specs.Phrases.{Limit, ◌▸◌, ident_of, one, name, any_name, maybe, either, many, times}
use Rattle.java_tree.specs.Reading.{any_level}
use Rattle.java_tree.specs.Members.{dotted, package_line, import_line}
use Rattle.reading_core.specs.Read.{◌>>=◌}
use Rattle.java_reading.specs.declared.marks.Fixed.TheVariants.{Semicolon, Dot, Package, Import, Static, Times}
use Rattle.java_reading.specs.Readers.{Reader, head, second, and_then, optional, repeat}
use Rattle.java_reading.specs.Tokens.{is_fixed, fixed, name_in, at_head, next_is}
use Rattle.java_reading.specs.MemberReading.{dotted_in, package_in, import_tail_by, import_in}
use Rattle.java_reading.proofs.Law.{Family, Extends, never, any, Sample, Exact, Law, IsGot}
use Rattle.java_reading.proofs.Seq.{seq, seq_law, seq_sample}
use Rattle.java_reading.proofs.Parts.{give_law, give_sample, bind_law, recast_at}
use Rattle.java_reading.proofs.Many.{each, many_law, optional_of, optional_law, May_be}
use Rattle.java_reading.proofs.TokenLaws.{fixed_law, fixed_sample, name_law, name_sample, one_head}
use Rattle.java_reading.proofs.Shapes.{then_it, it_then, then_fixed, fixed_then, fixed_then_sample, then_fixed_sample}
use Rattle.java_reading.proofs.DeclarationLaws.{next_at}

-- DOTTED NAMES

abbrev DotNameF : Family Ident
DotNameF May i = one (false, terminal.Dot) ▸ name false i

abbrev pub DotF : Family (Unit {0})
DotF May u = dotted

abbrev pub DX : Extends (Unit {0})
DX u h = next_is false Dot h ≡ true

-- names behind a dot each
names_to : (May : Limit) (is : List Ident) (l : ℕ) (us : List Token) (k : ℕ) (r : List Token) → each DotNameF May is l us k r → many (one (false, terminal.Dot) ▸ any_name false) l us k r
names_to May [] l us k r h = (0, h)
names_to May (i ∷ is) l us k r (m, mid, (m1, mid1, d, (t, its, parts, up)), h) = let more = names_to May is m mid k r h in (suc more.0, (m, mid, (m1, mid1, d, (t, its.0, parts, up)), more.1))

names_from : (May : Limit) (n : ℕ) (l : ℕ) (us : List Token) (k : ℕ) (r : List Token) → times n (one (false, terminal.Dot) ▸ any_name false) l us k r → (is : List Ident) × each DotNameF May is l us k r
names_from May zero l us k r h = ([], h)
names_from May (suc n) l us k r (m, mid, (m1, mid1, d, (t, its, parts, up)), h) = let more = names_from May n m mid k r h in (ident_of t ∷ more.0, (m, mid, (m1, mid1, d, (t, (its, refl), parts, up)), more.1))

dot_first : (May : Limit) (i : Ident) (l : ℕ) (us : List Token) (k : ℕ) (r : List Token) → DotNameF May i l us k r → next_is false Dot (head us) ≡ true
dot_first May i l us k r (m, mid, h, h') = ap (is_fixed Dot) (one_head false terminal.Dot l us m mid h)

abbrev dot_name_in : Reader Ident
dot_name_in ts = second (and_then (fixed false Dot ts) (λ u. name_in false))

dot_name_law : (l : ℕ) → Exact Ident DotNameF never any l dot_name_in
dot_name_law l ts =
    give_law (Unit {0} × Ident) Ident (it_then false Dot refl (λ e. cc) (λ May i. name false i)) never any DotNameF never any (λ x. x.1) (λ May x m us k r h. h) (λ x h none. none) (λ x h s. tt) l ts
    (and_then (fixed false Dot ts) (λ u. name_in false)) (λ May i us k r same h. inl ((tt, i), refl, h)) (fixed_then false Dot refl (λ e. cc) Ident (λ May i. name false i) never any (name_sample false) l (name_in false) (name_law false l) ts)

abbrev NamesX : Extends (List Ident)
NamesX is h = (next_is false Dot h ≡ true) ⊎ ⊥

names_law : (l : ℕ) → Exact (List Ident) (each DotNameF) NamesX any l (repeat (next_is false Dot) dot_name_in)
names_law l = many_law Ident DotNameF never any (next_is false Dot) (λ h. ⊥) dot_first (λ i h none. none) (λ h none e. none) refl l dot_name_in (dot_name_law l)

abbrev DottedF : Family (Ident × List Ident)
DottedF = seq (λ May i. name false i) (λ i. each DotNameF)

pub dotted_law : (l : ℕ) → Exact (Unit {0}) DotF DX any l dotted_in
dotted_law l ts =
    give_law (Ident × List Ident) (Unit {0}) DottedF (λ x. NamesX x.1) (λ x h. Unit {0}) DotF DX any (λ x. tt) to grows (λ x h s. tt) l ts (and_then (name_in false ts) (λ i. repeat (next_is false Dot) dot_name_in)) (λ May u us k r same h. inl (back May us k r h))
    (seq_law Ident (List Ident) (λ May i. name false i) never any (λ i. each DotNameF) (λ i. NamesX) (λ i. any) (λ i m. record { tokens = []; tree = []; is = λ May c frees. (refl, refl) }) (λ i May is m us k r h none. absurd none)
    l ts (name_in false ts) (name_law false l ts) (λ i. repeat (next_is false Dot) dot_name_in) (λ i mid got. names_law l mid))
  where
    to : (May : Limit) (x : Ident × List Ident) (m : ℕ) (us : List Token) (k : ℕ) (r : List Token) → DottedF May x m us k r → dotted m us k r
    to May x m us k r (m1, mid, (t, its, parts, up), h) = (m1, mid, (t, its.0, parts, up), names_to May x.1 m1 mid k r h)

    grows : (x : Ident × List Ident) (h : Option Token) → NamesX x.1 h → next_is false Dot h ≡ true
    grows x h (inl e) = e
    grows x h (inr none) = absurd none

    back : (May : Limit) (us : List Token) (k : ℕ) (r : List Token) → dotted l us k r → (x : Ident × List Ident) × (◌≡◌ {A = Unit {0}} tt tt) × DottedF May x l us k r
    back May us k r (m, mid, (t, its, parts, up), (n, h)) = let is = names_from May n m mid k r h in ((ident_of t, is.0), refl, (m, mid, (t, (its, refl), parts, up), is.1))

pub dotted_sample : (l : ℕ) → Sample (Unit {0}) DotF l
dotted_sample l = give_sample Ident (Unit {0}) (λ May i. name false i) DotF (λ i. tt) l (λ May i us k r h. (k, r, (h.0, h.1.0, h.2, h.3), (0, (refl, refl)))) (name_sample false l)

-- PACKAGES

abbrev pub PackageF : Family (Unit {0})
PackageF May u = package_line

dot_closes : (u : Unit {0}) (h : Option Token) → DX u h → at_head false h ≡ terminal.Semicolon → ⊥
dot_closes u h e is = let f : terminal.Dot ≡ terminal.Semicolon = sym (next_at false Dot h e) ∙ is in cc

abbrev LineF : Family (Unit {0} × Unit {0})
LineF = then_it false Semicolon refl (λ e. cc) DotF

pub package_law : (l : ℕ) → Exact (Unit {0}) PackageF never any l package_in
package_law l ts =
    give_law (Unit {0} × (Unit {0} × Unit {0})) (Unit {0}) (it_then false Package refl (λ e. cc) LineF) never any PackageF never any (λ x. tt) (λ May x m us k r h. h) (λ x h none. none) (λ x h s. tt) l ts
    (and_then (fixed false Package ts) (λ u ts. and_then (dotted_in ts) (λ u. fixed false Semicolon))) (λ May u us k r same h. inl ((tt, (tt, tt)), refl, h))
    (fixed_then false Package refl (λ e. cc) (Unit {0} × Unit {0}) LineF never any (λ m. then_fixed_sample false Semicolon refl (λ e. cc) (Unit {0}) DotF m (dotted_sample m)) l (λ ts. and_then (dotted_in ts) (λ u. fixed false Semicolon))
    (then_fixed false Semicolon refl (λ e. cc) (Unit {0}) DotF DX any dot_closes l dotted_in (dotted_law l)) ts)

pub package_first : (May : Limit) (u : Unit {0}) (l : ℕ) (us : List Token) (k : ℕ) (r : List Token) → PackageF May u l us k r → next_is false Package (head us) ≡ true
package_first May u l us k r (m, mid, h, h') = ap (is_fixed Package) (one_head false terminal.Package l us m mid h)

-- IMPORTS

-- what stands behind the first name of an import
abbrev TailF : Family (Unit {0})
TailF May u = many (one (false, terminal.Dot) ▸ any_name false) ▸ maybe (one (false, terminal.Dot) ▸ one (false, terminal.Times)) ▸ one (false, terminal.Semicolon)

-- what stands behind a `.` there
abbrev BehindDotF : Family (Unit {0})
BehindDotF May u = either (one (false, terminal.Times) ▸ one (false, terminal.Semicolon)) (any_name false ▸ TailF May u)

tail_sample : (u : Unit {0}) (l : ℕ) → Sample (Unit {0}) TailF l
tail_sample u l = give_sample (Unit {0}) (Unit {0}) (λ May u. one (false, terminal.Semicolon)) TailF (λ u. tt) l (λ May u us k r h. (l, us, (0, (refl, refl)), (l, us, inl (refl, refl), h))) (fixed_sample false Semicolon refl (λ e. cc) l)

star_sample : (u : Unit {0}) (l : ℕ) → Sample (Unit {0}) BehindDotF l
star_sample u l =
    give_sample (Unit {0} × Unit {0}) (Unit {0}) (it_then false Times refl (λ e. cc) (λ May u. one (false, terminal.Semicolon))) BehindDotF (λ x. tt) l (λ May x us k r h. inl h)
    (fixed_then_sample false Times refl (λ e. cc) (Unit {0}) (λ May u. one (false, terminal.Semicolon)) l (fixed_sample false Semicolon refl (λ e. cc) l))

-- a part that has a token leaves fewer
got_less : (A : Type 0) (p : Family A) (X S : Extends A) (l : ℕ) (ts : List Token) (a : A) (mid : List Token) → ((k : ℕ) (r : List Token) → p any_level a l [] k r → ⊥) → IsGot A p X S l ts a mid → length mid < length ts
got_less A p X S l ts a mid some got = by got.front got.parts (got.sound any_level (λ k r _. tt) [])
  where
    by : (front : List Token) → ts ≡ front ++ mid → p any_level a l (front ++ []) l [] → length mid < length ts
    by [] parts h = absurd (some l [] h)
    by (t ∷ front) parts h = omega (arith, ap length parts, length-append front mid)

one_some : (x : Terminal) (l k : ℕ) (r : List Token) → one (false, x) l [] k r → ⊥
one_some x l k r (t, is, parts, up) = cc

name_some : (i : Ident) (l k : ℕ) (r : List Token) → name false i l [] k r → ⊥
name_some i l k r (t, is, parts, up) = cc

module _ (l : ℕ) where
  star_or_name : (n : ℕ) → ((us : List Token) → length us < n → Law (Unit {0}) TailF never any l us (import_tail_by n us)) → (mid : List Token) → length mid < suc n → (b : Bool) → next_is false Times (head mid) ≡ b
      → Law (Unit {0}) BehindDotF never any l mid (elim b [ true ↦ fixed false Times mid >>= (λ v. fixed false Semicolon) | false ↦ name_in false mid >>= (λ i. import_tail_by n) ])
  star_or_name n ih mid few true is =
      bind_law (Unit {0}) (Unit {0}) (λ May u. one (false, terminal.Times)) never any (λ u May v. one (false, terminal.Semicolon)) (λ u. never) (λ u. any) (λ u m. fixed_sample false Semicolon refl (λ e. cc) m) (λ u May v m us k r h none. none)
      BehindDotF never any (λ May x m us k r h. inl h) (λ x h none. none) (λ x h s. tt) l mid (fixed false Times mid) (fixed_law false Times refl (λ e. cc) l mid) (λ v. fixed false Semicolon) (λ v more got. fixed_law false Semicolon refl (λ e. cc) l more) back
    where
      back : (May : Limit) (u : Unit {0}) (us : List Token) (k : ℕ) (r : List Token) → head us ≡ head mid → BehindDotF May u l us k r → ((x : Unit {0} × Unit {0}) × (u ≡ x.1) × seq (λ May u. one (false, terminal.Times)) (λ u May v. one (false, terminal.Semicolon)) May x l us k r) ⊎ ⊥
      back May u us k r same (inl h) = inl ((tt, tt), refl, h)
      back May u us k r same (inr (m, us1, h, h')) = let e : terminal.Times ≡ terminal.Name = sym (next_at false Times (head mid) is) ∙ ap (at_head false) (sym same) ∙ one_head false terminal.Name l us m us1 h in cc
  star_or_name n ih mid few false is =
      bind_law Ident (Unit {0}) (λ May i. name false i) never any (λ i. TailF) (λ i. never) (λ i. any) (λ i. tail_sample tt) (λ i May v m us k r h none. none)
      BehindDotF never any (λ May x m us k r h. inr (h.0, h.1, (h.2.0, h.2.1.0, h.2.2, h.2.3), h.3)) (λ x h none. none) (λ x h s. tt) l mid (name_in false mid) (name_law false l mid) (λ i. import_tail_by n)
      (λ i more got. ih more (omega (arith, got_less Ident (λ May i. name false i) never any l mid i more (λ k r. name_some i l k r) got))) back
    where
      back : (May : Limit) (u : Unit {0}) (us : List Token) (k : ℕ) (r : List Token) → head us ≡ head mid → BehindDotF May u l us k r → ((x : Ident × Unit {0}) × (u ≡ x.1) × seq (λ May i. name false i) (λ i. TailF) May x l us k r) ⊎ ⊥
      back May u us k r same (inl (m, us1, h, h')) = let e : true ≡ false = sym (ap (is_fixed Times) (one_head false terminal.Times l us m us1 h)) ∙ ap (next_is false Times) same ∙ is in cc
      back May u us k r same (inr (m, us1, (t, its, parts, up), h')) = inl ((ident_of t, tt), refl, (m, us1, (t, (its, refl), parts, up), h'))

  tail_by : (n : ℕ) → ((us : List Token) → length us < n → Law (Unit {0}) TailF never any l us (import_tail_by n us)) → (ts : List Token) → length ts < suc n → (b : Bool) → next_is false Dot (head ts) ≡ b
      → Law (Unit {0}) TailF never any l ts
      (elim b [
        | true ↦ fixed false Dot ts >>= (λ u mid. elim (next_is false Times (head mid)) [ true ↦ fixed false Times mid >>= (λ v. fixed false Semicolon) | false ↦ name_in false mid >>= (λ i. import_tail_by n) ])
        | false ↦ fixed false Semicolon ts
      ])
  tail_by n ih ts few true is =
      bind_law (Unit {0}) (Unit {0}) (λ May u. one (false, terminal.Dot)) never any (λ u. BehindDotF) (λ u. never) (λ u. any) star_sample (λ u May v m us k r h none. none) TailF never any to (λ x h none. none) (λ x h s. tt) l ts (fixed false Dot ts)
      (fixed_law false Dot refl (λ e. cc) l ts) (λ u mid. elim (next_is false Times (head mid)) [ true ↦ fixed false Times mid >>= (λ v. fixed false Semicolon) | false ↦ name_in false mid >>= (λ i. import_tail_by n) ])
      (λ u mid got. star_or_name n ih mid (omega (arith, got_less (Unit {0}) (λ May u. one (false, terminal.Dot)) never any l ts u mid (λ k r. one_some terminal.Dot l k r) got)) (next_is false Times (head mid)) refl) back
    where
      to : (May : Limit) (x : Unit {0} × Unit {0}) (m : ℕ) (us : List Token) (k : ℕ) (r : List Token) → seq (λ May u. one (false, terminal.Dot)) (λ u. BehindDotF) May x m us k r → TailF May x.1 m us k r
      to May x m us k r (m1, us1, d, inl (m2, us2, star, end)) = (m, us, (0, (refl, refl)), (m2, us2, inr (m1, us1, d, star), end))
      to May x m us k r (m1, us1, d, inr (m2, us2, nm, (m3, us3, (n, h), end))) = (m3, us3, (suc n, (m2, us2, (m1, us1, d, nm), h)), end)

      back : (May : Limit) (u : Unit {0}) (us : List Token) (k : ℕ) (r : List Token) → head us ≡ head ts → TailF May u l us k r → ((x : Unit {0} × Unit {0}) × (u ≡ x.1) × seq (λ May u. one (false, terminal.Dot)) (λ u. BehindDotF) May x l us k r) ⊎ ⊥
      back May u us k r same (m, us1, (zero, (up, here)), (m2, us2, inl (up2, here2), end)) =
          let at : head us2 ≡ head us = ap head (here2 ∙ here) in
          let e : terminal.Dot ≡ terminal.Semicolon = sym (next_at false Dot (head ts) is) ∙ ap (at_head false) (sym same ∙ sym at) ∙ one_head false terminal.Semicolon m2 us2 k r end in
          cc
      back May u us k r same (m, us1, (zero, (up, here)), (m2, us2, inr (m3, us3, d, star), end)) =
          inl ((tt, tt), refl, subst (λ (v : List Token). seq (λ May u. one (false, terminal.Dot)) (λ u. BehindDotF) May (tt {0}, tt {0}) l v k r) here (subst (λ (n : ℕ). seq (λ May u. one (false, terminal.Dot)) (λ u. BehindDotF) May (tt {0}, tt {0}) n us1 k r) up (m3, us3, d, inl (m2, us2, star, end))))
      back May u us k r same (m, us1, (suc n, (m1, us2, (m3, us3, d, nm), h)), end) = inl ((tt, tt), refl, (m3, us3, d, inr (m1, us2, nm, (m, us1, (n, h), end))))
  tail_by n ih ts few false is =
      recast_at (Unit {0}) (λ May u. one (false, terminal.Semicolon)) TailF never never any any l (λ May u us k r h. (l, us, (0, (refl, refl)), (l, us, inl (refl, refl), h))) (λ u h none. none) (λ u h s. tt) ts (fixed false Semicolon ts) back
      (fixed_law false Semicolon refl (λ e. cc) l ts)
    where
      no_dot : (us : List Token) (m : ℕ) (k : ℕ) (r : List Token) → head us ≡ head ts → one (false, terminal.Dot) m us k r → ⊥
      no_dot us m k r same d = let e : true ≡ false = sym (ap (is_fixed Dot) (one_head false terminal.Dot m us k r d)) ∙ ap (next_is false Dot) same ∙ is in cc

      back : (May : Limit) (u : Unit {0}) (us : List Token) (k : ℕ) (r : List Token) → head us ≡ head ts → TailF May u l us k r → one (false, terminal.Semicolon) l us k r ⊎ ⊥
      back May u us k r same (m, us1, (zero, (up, here)), (m2, us2, inl (up2, here2), end)) =
          inl (subst (λ (v : List Token). one (false, terminal.Semicolon) l v k r) (here2 ∙ here) (subst (λ (n : ℕ). one (false, terminal.Semicolon) n us2 k r) (up2 ∙ up) end))
      back May u us k r same (m, us1, (zero, (up, here)), (m2, us2, inr (m3, us3, d, star), end)) = absurd (no_dot us1 m m3 us3 (ap head here ∙ same) d)
      back May u us k r same (m, us1, (suc n, (m1, us2, (m3, us3, d, nm), h)), end) = absurd (no_dot us l m3 us3 same d)

  tail_law : (n : ℕ) (ts : List Token) → length ts < n → Law (Unit {0}) TailF never any l ts (import_tail_by n ts)
  tail_law zero ts few = absurd (omega arith)
  tail_law (suc n) ts few = tail_by n (tail_law n) ts few (next_is false Dot (head ts)) refl

  abbrev pub ImportF : Family (Unit {0})
  ImportF May u = import_line

  abbrev StaticF : Family (Unit {0})
  StaticF May u = one (false, terminal.Static)

  static_first : (May : Limit) (u : Unit {0}) (m : ℕ) (us : List Token) (k : ℕ) (r : List Token) → StaticF May u m us k r → next_is false Static (head us) ≡ true
  static_first May u m us k r h = ap (is_fixed Static) (one_head false terminal.Static m us k r h)

  -- a name and what stands behind it
  abbrev NamedTailF : Family (Unit {0})
  NamedTailF May u = any_name false ▸ TailF May u

  -- `static` or not, and that
  abbrev MaybeStaticF : Family (Unit {0})
  MaybeStaticF May u = maybe (one (false, terminal.Static)) ▸ NamedTailF May u

  named_tail_sample : (m : ℕ) → Sample (Unit {0}) NamedTailF m
  named_tail_sample m =
      give_sample (Ident × Unit {0}) (Unit {0}) (seq (λ May i. name false i) (λ i. TailF)) NamedTailF (λ x. tt) m (λ May x us k r h. (h.0, h.1, (h.2.0, h.2.1.0, h.2.2, h.2.3), h.3)) (seq_sample Ident (Unit {0}) (λ May i. name false i) (λ i. TailF) m (name_sample false m) (λ i. tail_sample tt m))

  named_tail_law : Exact (Unit {0}) NamedTailF never any l (λ ts. name_in false ts >>= (λ i rest. import_tail_by (suc (length rest)) rest))
  named_tail_law ts =
      bind_law Ident (Unit {0}) (λ May i. name false i) never any (λ i. TailF) (λ i. never) (λ i. any) (λ i. tail_sample tt) (λ i May v m us k r h none. none) NamedTailF never any (λ May x m us k r h. (h.0, h.1, (h.2.0, h.2.1.0, h.2.2, h.2.3), h.3))
      (λ x h none. none) (λ x h s. tt) l ts (name_in false ts) (name_law false l ts) (λ i rest. import_tail_by (suc (length rest)) rest) (λ i more got. tail_law (suc (length more)) more (omega arith))
      (λ May u us k r same h. inl ((ident_of h.2.0, tt), refl, (h.0, h.1, (h.2.0, (h.2.1, refl), h.2.2, h.2.3), h.3)))

  abbrev OSX : Extends (Option (Unit {0}))
  OSX = May_be (Unit {0}) StaticF never any (next_is false Static) static_first l

  static_apart : (o : Option (Unit {0})) (h : Option Token) → OSX o h → at_head false h ≡ terminal.Name → ⊥
  static_apart None h e is = let f : terminal.Static ≡ terminal.Name = sym (next_at false Static h e) ∙ is in cc
  static_apart (Some u) h e is = e

  maybe_static_law : Exact (Unit {0}) MaybeStaticF never any l (λ ts. optional (next_is false Static) (fixed false Static) ts >>= (λ o rest. name_in false rest >>= (λ i rest. import_tail_by (suc (length rest)) rest)))
  maybe_static_law ts =
      bind_law (Option (Unit {0})) (Unit {0}) (optional_of StaticF) OSX any (λ o. NamedTailF) (λ o. never) (λ o. any) (λ o. named_tail_sample) (λ o May v m us k r h x. static_apart o (head us) x (one_head false terminal.Name m us h.0 h.1 h.2)) MaybeStaticF never any to
      (λ x h none. none) (λ x h s. tt) l ts (optional (next_is false Static) (fixed false Static) ts)
      (optional_law (Unit {0}) StaticF never any (next_is false Static) static_first l (fixed false Static) (fixed_law false Static refl (λ e. cc) l) ts) (λ o rest. name_in false rest >>= (λ i rest. import_tail_by (suc (length rest)) rest))
      (λ o mid got. named_tail_law mid) (λ May u us k r same h. inl (back May u us k r h))
    where
      to_maybe : (May : Limit) (o : Option (Unit {0})) (m : ℕ) (us : List Token) (k : ℕ) (r : List Token) → optional_of StaticF May o m us k r → maybe (one (false, terminal.Static)) m us k r
      to_maybe May None m us k r h = inl h
      to_maybe May (Some u) m us k r h = inr h

      to : (May : Limit) (x : Option (Unit {0}) × Unit {0}) (m : ℕ) (us : List Token) (k : ℕ) (r : List Token) → seq (optional_of StaticF) (λ o. NamedTailF) May x m us k r → MaybeStaticF May x.1 m us k r
      to May x m us k r (m1, us1, h, h') = (m1, us1, to_maybe May x.0 m us m1 us1 h, h')

      back : (May : Limit) (u : Unit {0}) (us : List Token) (k : ℕ) (r : List Token) → MaybeStaticF May u l us k r → (x : Option (Unit {0}) × Unit {0}) × (u ≡ x.1) × seq (optional_of StaticF) (λ o. NamedTailF) May x l us k r
      back May u us k r (m1, us1, inl h, h') = ((None, tt), refl, (m1, us1, h, h'))
      back May u us k r (m1, us1, inr h, h') = ((Some tt, tt), refl, (m1, us1, h, h'))

  maybe_static_sample : (m : ℕ) → Sample (Unit {0}) MaybeStaticF m
  maybe_static_sample m = give_sample (Unit {0}) (Unit {0}) NamedTailF MaybeStaticF (λ u. tt) m (λ May u us k r h. (m, us, inl (refl, refl), h)) (named_tail_sample m)

  -- the grammar has the same with its names put together
  import_to : (May : Limit) (x : Unit {0} × Unit {0}) (m : ℕ) (us : List Token) (k : ℕ) (r : List Token) → seq (λ May u. one (false, terminal.Import)) (λ u. MaybeStaticF) May x m us k r → import_line m us k r
  import_to May x m us k r (m1, us1, h1, (m2, us2, h2, (m3, us3, h3, (m4, us4, h4, h5)))) = (m1, us1, h1, (m2, us2, h2, (m4, us4, (m3, us3, h3, h4), h5)))

  import_from : (May : Limit) (m : ℕ) (us : List Token) (k : ℕ) (r : List Token) → import_line m us k r → seq (λ May (u : Unit {0}). one (false, terminal.Import)) (λ u. MaybeStaticF) May (tt, tt) m us k r
  import_from May m us k r (m1, us1, h1, (m2, us2, h2, (m4, us4, (m3, us3, h3, h4), h5))) = (m1, us1, h1, (m2, us2, h2, (m3, us3, h3, (m4, us4, h4, h5))))

  pub import_law : Exact (Unit {0}) ImportF never any l import_in
  import_law ts =
      bind_law (Unit {0}) (Unit {0}) (λ May u. one (false, terminal.Import)) never any (λ u. MaybeStaticF) (λ u. never) (λ u. any) (λ u. maybe_static_sample) (λ u May v m us k r h none. none) ImportF never any import_to (λ x h none. none) (λ x h s. tt) l ts (fixed false Import ts)
      (fixed_law false Import refl (λ e. cc) l ts) (λ u rest. optional (next_is false Static) (fixed false Static) rest >>= (λ o rest. name_in false rest >>= (λ i rest. import_tail_by (suc (length rest)) rest))) (λ u mid got. maybe_static_law mid)
      (λ May u us k r same h. inl ((tt, tt), refl, import_from May l us k r h))

  pub import_first : (May : Limit) (u : Unit {0}) (m : ℕ) (us : List Token) (k : ℕ) (r : List Token) → ImportF May u m us k r → next_is false Import (head us) ≡ true
  import_first May u m us k r (m1, us1, h, h') = ap (is_fixed Import) (one_head false terminal.Import m us m1 us1 h)
