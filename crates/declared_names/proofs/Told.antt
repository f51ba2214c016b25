-- What is reported of a whole follows from what is reported of its parts.
use Rattle.std.proofs.Common.{◌≡◌, ℕ, Bool, true, false, List, [], ◌∷◌, ◌++◌, Option, None, Some, Ok, Err, refl, ap, sym, ◌∙◌, arith}
use Rattle.std.specs.Prelude.{nat_lt, if◌then◌else◌}
use Rattle.std.proofs.lemmas.Bool.Decides.{nat_tests}
use Rattle.declared_names.specs.declared.fault.Cause.{Cause}
use Rattle.declared_names.specs.declared.fault.Fault.{Fault}
use Rattle.declared_names.specs.Faults.{key, sooner, least, soonest, earlier, check, fault_of}
use Rattle.declared_names.specs.Seen.{Seen, Stands, Faulty, over, over_two, unless, beside, told, on, on_two, reported, with_fault}

sooner_key : (f g : Fault) → key (sooner f g) ≡ (if nat_lt (key g) (key f) then key g else key f)
sooner_key f g = by_test (nat_lt (key g) (key f))
  where
    by_test : (b : Bool) → key (if b then g else f) ≡ (if b then key g else key f)
    by_test true = refl
    by_test false = refl

assoc_by : (F : Type 0) (a b c : ℕ) (f g h : F) → (if nat_lt (if nat_lt c b then c else b) a then (if nat_lt c b then h else g) else f) ≡ (if nat_lt c (if nat_lt b a then b else a) then h else (if nat_lt b a then g else f))
assoc_by F a b c f g h = grind (arith, nat_tests)

-- the first of the least ones, however three are grouped
pub sooner_assoc : (f g h : Fault) → sooner f (sooner g h) ≡ sooner (sooner f g) h
sooner_assoc f g h = rw (sooner_key g h, sooner_key f g) (assoc_by Fault (key f) (key g) (key h) f g h)

least-append : (f : Fault) (fs : List Fault) (g : Fault) (gs : List Fault) → least f (fs ++ g ∷ gs) ≡ sooner (least f fs) (least g gs)
unfolding least
least-append f [] g gs = refl
least-append f (h ∷ hs) g gs = ap (sooner f) (least-append h hs g gs) ∙ sooner_assoc f (least h hs) (least g gs)

least-append_none : (f : Fault) (fs : List Fault) → least f (fs ++ []) ≡ least f fs
unfolding least
least-append_none f [] = refl
least-append_none f (h ∷ hs) = ap (sooner f) (least-append_none h hs)

pub soonest-append : (xs ys : List Fault) → soonest (xs ++ ys) ≡ earlier (soonest xs) (soonest ys)
unfolding soonest earlier
soonest-append [] ys = refl
soonest-append (f ∷ fs) [] = ap Some (least-append_none f fs)
soonest-append (f ∷ fs) (g ∷ gs) = ap Some (least-append f fs g gs)

pub soonest-check : (b : Bool) (at : ℕ) (cause : Cause) → soonest (check b at cause) ≡ fault_of b at cause
unfolding soonest least
soonest-check true at cause = refl
soonest-check false at cause = refl

pub soonest-none : soonest [] ≡ None
unfolding soonest
soonest-none = refl

pub soonest-one : (f : Fault) → soonest (f ∷ []) ≡ Some f
unfolding soonest least
soonest-one f = refl

pub told-stands : {A : Type 0} (x : A) → told (Stands x) ≡ Ok x
unfolding told
told-stands x = refl

pub told-faulty : {A : Type 0} (f : Fault) → told {A = A} (Faulty f []) ≡ Err f
unfolding told least
told-faulty f = refl

pub told-unless : {A : Type 0} (fs : List Fault) (x : A) → told (unless fs x) ≡ reported (soonest fs) x
unfolding told unless soonest
told-unless [] x = refl
told-unless (f ∷ fs) x = refl

pub told-over : {A B : Type 0} (s : Seen A) (go : A → Seen B) → told (over s go) ≡ on (told s) (λ x. told (go x))
unfolding told over
told-over (Stands x) go = refl
told-over (Faulty f fs) go = refl

pub told-over_two : {A B C : Type 0} (s : Seen A) (t : Seen B) (go : A → B → Seen C) → told (over_two s t go) ≡ on_two (told s) (told t) (λ x y. told (go x y))
unfolding told over_two
told-over_two (Stands x) (Stands y) go = refl
told-over_two (Stands x) (Faulty g gs) go = refl
told-over_two (Faulty f fs) (Stands y) go = refl
told-over_two (Faulty f fs) (Faulty g gs) go = ap Err (least-append f fs g gs)

pub told-beside : {A : Type 0} (fs : List Fault) (s : Seen A) → told (beside fs s) ≡ with_fault (soonest fs) (told s)
unfolding told beside soonest
told-beside [] s = refl
told-beside (f ∷ fs) (Stands x) = refl
told-beside (f ∷ fs) (Faulty g gs) = ap Err (least-append f fs g gs)

pub earlier-none : (a : Option Fault) → earlier a None ≡ a
unfolding earlier
earlier-none None = refl
earlier-none (Some f) = refl

pub none-earlier : (a : Option Fault) → earlier None a ≡ a
unfolding earlier
none-earlier a = refl

pub earlier_assoc : (a b c : Option Fault) → earlier (earlier a b) c ≡ earlier a (earlier b c)
unfolding earlier
earlier_assoc None b c = refl
earlier_assoc (Some f) None c = refl
earlier_assoc (Some f) (Some g) None = refl
earlier_assoc (Some f) (Some g) (Some h) = ap Some (sym (sooner_assoc f g h))

-- what a form itself has
pub ruleset told_leaves = (soonest-append, soonest-check, soonest-none, soonest-one, told-stands, told-faulty, told-unless)

-- what its parts have
pub ruleset wholes = (told-over, told-over_two, told-beside, told-stands, told-faulty)

-- lists of faults, gone through from the front
pub next_fault : (found next : Option Fault) (fs rest : List Fault) → next ≡ soonest fs → earlier (earlier found next) (soonest rest) ≡ earlier found (soonest (fs ++ rest))
next_fault found next fs rest is = earlier_assoc found next (soonest rest) ∙ ap (earlier found) (ap (λ x. earlier x (soonest rest)) is ∙ sym (soonest-append fs rest))

pub last_fault : (found : Option Fault) → earlier found (soonest []) ≡ found
last_fault found = ap (earlier found) soonest-none ∙ earlier-none found
