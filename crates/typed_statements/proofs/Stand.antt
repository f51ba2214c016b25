-- What holds of a meaning that stands.
use Rattle.std.proofs.Common.{◌≡◌, ℕ, Bool, true, false, List, [], ◌∷◌, ◌++◌, refl, subst}
use Rattle.declared_names.specs.declared.fault.Fault.{Fault}
use Rattle.declared_names.specs.declared.fault.Cause.{Cause}
use Rattle.declared_names.specs.Faults.{check}
use Rattle.declared_names.specs.Seen.{Seen, Stands, Faulty, over, over_two, unless, beside}

abbrev pub OnStands : {A : Type 0} → Seen A → (A → Type 0) → Type 0
OnStands (Stands x) P = P x
OnStands (Faulty f fs) P = Unit {0}

pub on_over : {A B : Type 0} (P : A → Type 0) (Q : B → Type 0) (s : Seen A) (go : A → Seen B) → OnStands s P → ((x : A) → P x → OnStands (go x) Q) → OnStands (over s go) Q
unfolding over
on_over P Q (Stands x) go h step = step x h
on_over P Q (Faulty f fs) go h step = tt

-- where the part is known only once the whole stands
pub on_over_late : {A B : Type 0} (Q : B → Type 0) (s : Seen A) (go : A → Seen B) → ((x : A) → s ≡ Stands x → OnStands (go x) Q) → OnStands (over s go) Q
unfolding over
on_over_late Q (Stands x) go step = step x refl
on_over_late Q (Faulty f fs) go step = tt

pub on_over_two : {A B C : Type 0} (P : A → Type 0) (R : B → Type 0) (Q : C → Type 0) (s : Seen A) (t : Seen B) (go : A → B → Seen C) → OnStands s P → OnStands t R
    → ((x : A) (y : B) → P x → R y → OnStands (go x y) Q) → OnStands (over_two s t go) Q
unfolding over_two
on_over_two P R Q (Stands x) (Stands y) go h i step = step x y h i
on_over_two P R Q (Stands x) (Faulty g gs) go h i step = tt
on_over_two P R Q (Faulty f fs) (Stands y) go h i step = tt
on_over_two P R Q (Faulty f fs) (Faulty g gs) go h i step = tt

pub on_over_two_late : {A B C : Type 0} (Q : C → Type 0) (s : Seen A) (t : Seen B) (go : A → B → Seen C) → ((x : A) (y : B) → s ≡ Stands x → t ≡ Stands y → OnStands (go x y) Q) → OnStands (over_two s t go) Q
unfolding over_two
on_over_two_late Q (Stands x) (Stands y) go step = step x y refl refl
on_over_two_late Q (Stands x) (Faulty g gs) go step = tt
on_over_two_late Q (Faulty f fs) (Stands y) go step = tt
on_over_two_late Q (Faulty f fs) (Faulty g gs) go step = tt

pub on_unless : {A : Type 0} (P : A → Type 0) (fs : List Fault) (x : A) → (fs ≡ [] → P x) → OnStands (unless fs x) P
unfolding unless
on_unless P [] x h = h refl
on_unless P (f ∷ fs) x h = tt

pub on_beside : {A : Type 0} (P : A → Type 0) (fs : List Fault) (s : Seen A) → (fs ≡ [] → OnStands s P) → OnStands (beside fs s) P
unfolding beside
on_beside P [] s h = h refl
on_beside P (f ∷ fs) (Stands x) h = tt
on_beside P (f ∷ fs) (Faulty g gs) h = tt

pub nothing_left : (xs ys : List Fault) → xs ++ ys ≡ [] → xs ≡ []
nothing_left [] ys is = refl
nothing_left (x ∷ xs) ys is = absurd (cc)

pub nothing_right : (xs ys : List Fault) → xs ++ ys ≡ [] → ys ≡ []
nothing_right [] ys is = is
nothing_right (x ∷ xs) ys is = absurd (cc)

pub passes : (b : Bool) (at : ℕ) (cause : Cause) → check b at cause ≡ [] → b ≡ true
passes true at cause is = refl
passes false at cause is = absurd (cc)

-- of a value that a meaning is
pub stands : {A : Type 0} (P : A → Type 0) (s : Seen A) (x : A) → s ≡ Stands x → OnStands s P → P x
stands P s x is h = let Q : Seen _ → Type 0 = λ t. OnStands t P in subst Q is h

-- what follows from it
pub weaker : {A : Type 0} (P Q : A → Type 0) (s : Seen A) → OnStands s P → ((x : A) → P x → Q x) → OnStands s Q
weaker P Q (Stands x) h step = step x h
weaker P Q (Faulty f fs) h step = tt

-- where the second part is looked at only where the first stands
pub on_then : {A B C : Type 0} (P : A → Type 0) (R : B → Type 0) (Q : C → Type 0) (s : Seen A) (t : Seen B) (go : A → B → Seen C) → OnStands s P → ((x : A) → P x → OnStands t R)
    → ((x : A) (y : B) → P x → R y → OnStands (go x y) Q) → OnStands (over_two s t go) Q
unfolding over_two
on_then P R Q (Stands x) (Stands y) go h i step = step x y h (i x h)
on_then P R Q (Stands x) (Faulty g gs) go h i step = tt
on_then P R Q (Faulty f fs) (Stands y) go h i step = tt
on_then P R Q (Faulty f fs) (Faulty g gs) go h i step = tt
