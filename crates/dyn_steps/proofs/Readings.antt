-- Readings that go on from others.
use Rattle.std.proofs.Common.{◌≡◌, ◌⊎◌, ℕ, ◌≤◌, Bool, true, false, not, ◌&&◌, ◌||◌, inl, inr, refl, sym, ap, subst, arith}
use Rattle.std.specs.Prelude.{◌==◌, nat_lt, ℤ, pos, if◌then◌else◌}
use Rattle.std.specs.Ordering.{int_eq}
use Rattle.std.proofs.lemmas.Bool.{eq-eqb, ne_eqb, eqb-true, lt-ltb, le-ltb, and_parts, and_from, or_left, or_right}
use Rattle.heap_core.specs.Posed.{Posed}
use Rattle.heap_core.specs.Outcomes.{in_bits}
use Rattle.rel_core.specs.declared.relation.RelVar.{RelVar}
use Rattle.rel_core.specs.declared.relation.What.{What}
use Rattle.rel_core.specs.Reading.{Reading, is_reference}
use Rattle.rel_core.specs.Uses.{Kinds, Use, AsSet, AsNumber, AsFlag, AsClass, has_use, is_slot, has_place, can_have, is_class_number, IsOf}
use Rattle.dyn_steps.specs.Agreeing.{IsAlike, Agree}

-- at index n what another reading has there
abbrev pub renewed : ℕ → Reading → Reading → Reading
renewed n c m = record {
  objects = m.objects;
  ints = m.ints;
  refs = λ r o v. if r.index == n then c.refs r o v else m.refs r o v;
  number = λ r o. if r.index == n then c.number r o else m.number r o;
  flag = λ r o. if r.index == n then c.flag r o else m.flag r o;
}

-- at every index what the reading has at one of them
abbrev pub moved : (What → ℕ) → Reading → Reading
moved at m = record {
  objects = m.objects;
  ints = m.ints;
  refs = λ r o v. m.refs (record { what = r.what; index = at r.what }) o v;
  number = λ r o. m.number (record { what = r.what; index = at r.what }) o;
  flag = λ r o. m.flag (record { what = r.what; index = at r.what }) o;
}

-- at some places what one reading has, and else what the other has
abbrev pub spliced : (RelVar → ℕ → Bool) → Reading → Reading → Reading
spliced test c m = record {
  objects = m.objects;
  ints = m.ints;
  refs = λ r o v. if test r o then c.refs r o v else m.refs r o v;
  number = λ r o. if test r o then c.number r o else m.number r o;
  flag = λ r o. if test r o then c.flag r o else m.flag r o;
}

either_of : (b x y : Bool) (A : Type 0) → (x ≡ true → A) → (y ≡ true → A) → (if b then x else y) ≡ true → A
either_of true x y A first second is = first is
either_of false x y A first second is = second is

either_has : (P : ℤ → Type 0) (b : Bool) (x y : ℤ) → P x → P y → P (if b then x else y)
either_has P true x y first second = first
either_has P false x y first second = second

pub spliced_of : (p : Posed) (kinds : Kinds) (test : RelVar → ℕ → Bool) (c m : Reading) → IsOf p kinds c → IsOf p kinds m → IsOf p kinds (spliced test c m)
spliced_of p kinds test c m one other = record {
  objects = other.objects;
  ints = other.ints;
  refs = λ r o v. either_of (test r o) (c.refs r o v) (m.refs r o v) ((has_place p kinds AsSet r o && is_reference p.scope.objects v) ≡ true) (one.refs r o v) (other.refs r o v);
  numbers = λ r o. either_has (λ z. can_have p kinds r o z ≡ true) (test r o) (c.number r o) (m.number r o) (one.numbers r o) (other.numbers r o);
  flags = λ r o. either_of (test r o) (c.flag r o) (m.flag r o) (has_place p kinds AsFlag r o ≡ true) (one.flags r o) (other.flags r o);
}

pub renewed_of : (p : Posed) (kinds : Kinds) (n : ℕ) (c m : Reading) → IsOf p kinds c → IsOf p kinds m → IsOf p kinds (renewed n c m)
renewed_of p kinds n c m one other =
    let is = spliced_of p kinds (λ r o. r.index == n) c m one other in
    record { objects = is.objects; ints = is.ints; refs = is.refs; numbers = is.numbers; flags = is.flags }

pub moved_of : (p : Posed) (kinds : Kinds) (at : What → ℕ) (m : Reading) → IsOf p kinds m → IsOf p kinds (moved at m)
moved_of p kinds at m is = record {
  objects = is.objects;
  ints = is.ints;
  refs = λ r o v. is.refs (record { what = r.what; index = at r.what }) o v;
  numbers = λ r o. is.numbers (record { what = r.what; index = at r.what }) o;
  flags = λ r o. is.flags (record { what = r.what; index = at r.what }) o;
}

-- at index n, and at every other
pub renewed_new : (n : ℕ) (c m : Reading) (r : RelVar) → r.index ≡ n → IsAlike c r (renewed n c m) r
renewed_new n c m r is = record {
  refs = λ o v. ap (λ b. if b then c.refs r o v else m.refs r o v) (eq-eqb r.index n is);
  number = λ o. ap (λ b. if b then c.number r o else m.number r o) (eq-eqb r.index n is);
  flag = λ o. ap (λ b. if b then c.flag r o else m.flag r o) (eq-eqb r.index n is);
}

pub renewed_old : (n : ℕ) (c m : Reading) → Agree n m (renewed n c m)
renewed_old n c m r below = record {
  refs = λ o v. ap (λ b. if b then c.refs r o v else m.refs r o v) other;
  number = λ o. ap (λ b. if b then c.number r o else m.number r o) other;
  flag = λ o. ap (λ b. if b then c.flag r o else m.flag r o) other;
}
  where
    other : (r.index == n) ≡ false
    other = ne_eqb r.index n (λ same. absurd (omega (arith, below, same)))

-- a relation of what was moved
pub moved_alike : (at : What → ℕ) (m : Reading) (r : RelVar) → IsAlike m (record { what = r.what; index = at r.what }) (moved at m) r
moved_alike at m r = record { refs = λ o v. refl; number = λ o. refl; flag = λ o. refl }

-- ## what a reading has from an index on

-- from index n on what the reading has at other indices
abbrev pub held : ℕ → (What → ℕ) → Reading → Reading
held n at m = spliced (λ r o. nat_lt r.index n) m (moved at m)

pub held_of : (p : Posed) (kinds : Kinds) (n : ℕ) (at : What → ℕ) (m : Reading) → IsOf p kinds m → IsOf p kinds (held n at m)
held_of p kinds n at m is = spliced_of p kinds (λ r o. nat_lt r.index n) m (moved at m) is (moved_of p kinds at m is)

pub held_old : (n : ℕ) (at : What → ℕ) (m : Reading) → Agree n m (held n at m)
held_old n at m r below = record {
  refs = λ o v. ap (λ b. if b then m.refs r o v else (moved at m).refs r o v) low;
  number = λ o. ap (λ b. if b then m.number r o else (moved at m).number r o) low;
  flag = λ o. ap (λ b. if b then m.flag r o else (moved at m).flag r o) low;
}
  where
    low : nat_lt r.index n ≡ true
    low = lt-ltb r.index n below

pub held_new : (n : ℕ) (at : What → ℕ) (m : Reading) (r : RelVar) → n ≤ r.index → IsAlike m (record { what = r.what; index = at r.what }) (held n at m) r
held_new n at m r above = record {
  refs = λ o v. ap (λ b. if b then m.refs r o v else (moved at m).refs r o v) high;
  number = λ o. ap (λ b. if b then m.number r o else (moved at m).number r o) high;
  flag = λ o. ap (λ b. if b then m.flag r o else (moved at m).flag r o) high;
}
  where
    high : nat_lt r.index n ≡ false
    high = le-ltb r.index n above

-- ## the place of an object, at place 0

-- at place 0 what the reading has at another place
abbrev pub shifted : ℕ → Reading → Reading
shifted h c = record {
  objects = c.objects;
  ints = c.ints;
  refs = λ r o v. c.refs r (if o == 0 then h else o) v;
  number = λ r o. c.number r (if o == 0 then h else o);
  flag = λ r o. c.flag r (if o == 0 then h else o);
}

module _ (p : Posed) (kinds : Kinds) (some : nat_lt 0 p.scope.objects ≡ true) (h : ℕ) (r : RelVar) where
  -- what can stand at a place of a relation can stand at place 0
  first_place : (u : Use) → has_place p kinds u r h ≡ true → has_place p kinds u r 0 ≡ true
  first_place u is =
      let front = and_parts (has_use p kinds u r.what && nat_lt h p.scope.objects) (not (is_slot r.what) || h == 0) is in
      let used_here = and_parts (has_use p kinds u r.what) (nat_lt h p.scope.objects) front.0 in
      and_from (has_use p kinds u r.what && nat_lt 0 p.scope.objects) (not (is_slot r.what) || 0 == 0)
      (and_from (has_use p kinds u r.what) (nat_lt 0 p.scope.objects) used_here.0 some)
      (or_right (not (is_slot r.what)) (0 == 0) refl)

  place_from : (u : Use) (o : ℕ) (b : Bool) → (o == 0) ≡ b → has_place p kinds u r (if b then h else o) ≡ true → has_place p kinds u r o ≡ true
  place_from u o true is placed = let zero : o ≡ 0 = eqb-true o 0 is in subst (λ i. has_place p kinds u r i ≡ true) (sym zero) (first_place u placed)
  place_from u o false is placed = placed

  pub shifted_place : (u : Use) (o : ℕ) → has_place p kinds u r (if o == 0 then h else o) ≡ true → has_place p kinds u r o ≡ true
  shifted_place u o = place_from u o (o == 0) refl

  pub shifted_number : (o : ℕ) (z : ℤ) → can_have p kinds r (if o == 0 then h else o) z ≡ true → can_have p kinds r o z ≡ true
  shifted_number o z has = elim (or_cases (int_eq z (pos 0) || (has_place p kinds AsNumber r i && in_bits p.scope.ints z)) (has_place p kinds AsClass r i && is_class_number p z) has) [
    | inl first ↦ elim (or_cases (int_eq z (pos 0)) (has_place p kinds AsNumber r i && in_bits p.scope.ints z) first) [
      | inl zero ↦ or_left (int_eq z (pos 0) || (has_place p kinds AsNumber r o && in_bits p.scope.ints z)) (has_place p kinds AsClass r o && is_class_number p z)
          (or_left (int_eq z (pos 0)) (has_place p kinds AsNumber r o && in_bits p.scope.ints z) zero)
      | inr number ↦
          let both = and_parts (has_place p kinds AsNumber r i) (in_bits p.scope.ints z) number in
          or_left (int_eq z (pos 0) || (has_place p kinds AsNumber r o && in_bits p.scope.ints z)) (has_place p kinds AsClass r o && is_class_number p z)
          (or_right (int_eq z (pos 0)) (has_place p kinds AsNumber r o && in_bits p.scope.ints z)
          (and_from (has_place p kinds AsNumber r o) (in_bits p.scope.ints z) (shifted_place AsNumber o both.0) both.1))
    ]
    | inr class ↦
        let both = and_parts (has_place p kinds AsClass r i) (is_class_number p z) class in
        or_right (int_eq z (pos 0) || (has_place p kinds AsNumber r o && in_bits p.scope.ints z)) (has_place p kinds AsClass r o && is_class_number p z)
        (and_from (has_place p kinds AsClass r o) (is_class_number p z) (shifted_place AsClass o both.0) both.1)
  ]
    where
      i : ℕ
      i = if o == 0 then h else o

      or_cases : (x y : Bool) → (x || y) ≡ true → (x ≡ true) ⊎ (y ≡ true)
      or_cases true y is = inl refl
      or_cases false y is = inr is

pub shifted_of : (p : Posed) (kinds : Kinds) → nat_lt 0 p.scope.objects ≡ true → (h : ℕ) (c : Reading) → IsOf p kinds c → IsOf p kinds (shifted h c)
shifted_of p kinds some h c is = record {
  objects = is.objects;
  ints = is.ints;
  refs = λ r o v has.
      let both = and_parts (has_place p kinds AsSet r (if o == 0 then h else o)) (is_reference p.scope.objects v) (is.refs r (if o == 0 then h else o) v has) in
      and_from (has_place p kinds AsSet r o) (is_reference p.scope.objects v) (shifted_place p kinds some h r AsSet o both.0) both.1;
  numbers = λ r o. shifted_number p kinds some h r o (c.number r (if o == 0 then h else o)) (is.numbers r (if o == 0 then h else o));
  flags = λ r o has. shifted_place p kinds some h r AsFlag o (is.flags r (if o == 0 then h else o) has);
}
