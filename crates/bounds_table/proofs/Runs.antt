-- Lists of lawful events.
use Rattle.std.proofs.Common.{◌≡◌, ℕ, zero, suc, ◌+◌, ◌*◌, ◌/◌, ◌%◌, ◌<◌, ◌≤◌, Bool, true, false, ◌&&◌, List, [], ◌∷◌, ◌++◌, length, get_or, set, length-set, length-append, refl, sym, ap, subst, ◌∙◌, arith, suc-mul}
use Rattle.std.specs.Prelude.{Option, Some, None, IsSome, ◌==◌, if◌then◌else◌}
use Rattle.std.proofs.Math.Nat.{mul-le-mul_right}
use Rattle.std.proofs.lemmas.List.{length-replicate, get_or_append_left}
use Rattle.std.proofs.lemmas.Option.{slice_get_within}
use Rattle.std.proofs.lemmas.Bool.{eqb-true, and_parts}
use native.Mathlib.Decide.{ℕ_discrete}
use mathlib.Core.Logic.{dite}
use Rattle.heap_core.specs.Posed.{Posed}
use Rattle.tuple_sets.specs.Words.{has, gain, lose, with_bits}
use Rattle.tuple_sets.specs.Numbered.{word_count}
use Rattle.tuple_sets.proofs.Sets.{has-le, has-none_of, has-all_below, length-all_below, gain_here}
use Rattle.bounds_table.specs.declared.known.Known.{Known}
use Rattle.bounds_table.specs.declared.event.Event.{Event}
use Rattle.bounds_table.specs.declared.event.Event.TheVariants.{Claim, CopyWord, Clear, KeepWord, SeeKept, Split, Join}
use Rattle.bounds_table.specs.State.{State, pair, IsLive, known_of, IsSafe, HasWords, IsSized, IsSeen, IsLater, IsSound}
use Rattle.bounds_table.specs.Core.{tuple_count, first, opening, IsLawful, AreLawful, StaysSafe, NeverGoesBack, IsClaimedOnce, is_free, claiming, seeing, seeing_kept, without_claims, joined, knowing, is_claim, is_won, reply, after, run, wins}
use Rattle.canonical_order.specs.Tuples.{tuples}
use Rattle.bounds_table.proofs.Workers.{live_within, known, live_other}
use Rattle.bounds_table.proofs.Steps.{Goes, moved, same_later}
use Rattle.bounds_table.proofs.Events.{gains_one, copies, sees_kept_word, clears, keeps, claims_moves}
use Rattle.bounds_table.proofs.Turnover.{each_less, splits, joins}

-- the words of a round lie within those of the claims
pub pair_within : (p : Posed) (r t : ℕ) → r < 8 → t < tuple_count p → pair p r t / 64 < 8 * word_count p
pair_within p r t few small =
    let n : ℕ = word_count p in
    let m : suc r * n ≤ 8 * n = mul-le-mul_right n few in
    let x : ℕ = r * n in
    let e : suc r * n ≡ x + n = suc-mul r n in
    let l : t / 64 < n = omega arith in
    omega arith

pub stepped : (s : State) (e : Event) → IsSized s → IsSafe s → IsLawful s e → Goes s (after s e)
stepped s (Claim w r t) sized safe ok = moved s w _ _ _ _ sized safe ok.0 (claims_moves s w sized safe ok.0 (pair s.problem r t) (pair_within s.problem r t ok.1 ok.2))
stepped s (CopyWord w i) sized safe ok = moved s w _ _ _ _ sized safe ok.0 (copies s w sized safe ok.0 i)
stepped s (Clear w t) sized safe ok = moved s w _ _ _ _ sized safe ok.0 (clears s w sized safe ok.0 t ok.2)
stepped s (KeepWord w i bits) sized safe ok = moved s w _ _ _ _ sized safe ok.0 (keeps s w sized safe ok.0 i bits ok.2)
stepped s (SeeKept w i) sized safe ok = moved s w _ _ _ _ sized safe ok.0 (sees_kept_word s w sized safe ok.0 i)
stepped s (Split w) sized safe ok = splits s w sized safe ok
stepped s (Join w v) sized safe ok = joins s w sized safe ok.0 v ok.1 ok.2

-- a sound state stays sound
pub sound_after : (s : State) (e : Event) → IsSound s → IsLawful s e → IsSound (after s e)
sound_after s e sound ok = let g = stepped s e sound.sized sound.safe ok in record { sized = g.sized; safe = g.safe }

-- the opening state
not_blank : (ws : List ℕ) (w : ℕ) (A : Type 0) → false ≡ true → A
not_blank ws w A h = cc

opened : (P : ℕ → Known → Type 0) (x : Known) → P 0 x → (w : ℕ) → IsSome (get_or (Some x ∷ []) w None) → P w (known (Some x ∷ []) w)
opened P x here zero live = here
opened P x here (suc w) live = not_blank [] w _ live

pub opening-sized : (p : Posed) → IsSized (opening p)
opening-sized p = record {
  table = length-all_below (tuple_count p);
  kept = length-replicate (word_count p) 0;
  claimed = length-replicate (8 * word_count p) 0;
  workers = opened (λ w k. HasWords p k) (first p) (record { seen = length-all_below (tuple_count p); kept = length-replicate (word_count p) 0; claimed = length-replicate (8 * word_count p) 0; claims = length-replicate (8 * word_count p) 0 });
}

pub opening-safe : (p : Posed) → IsSafe (opening p)
opening-safe p = record {
  lacked = λ t none possible. absurd (let a = has-all_below (tuple_count p) t (slice_get_within (tuples p) t possible.0 possible.1) in omega arith);
  kept = λ t one. absurd (let a = has-none_of (word_count p) t in omega arith);
  seen = opened (λ w k. IsSeen (opening p) k) (first p) (record { seen = λ t. omega arith; kept = λ t. omega arith; claimed = λ t. omega arith });
  claims = λ c. let a = has-none_of (8 * word_count p) c in omega arith;
}

pub opening-sound : (p : Posed) → IsSound (opening p)
opening-sound p = record { sized = opening-sized p; safe = opening-safe p }

pub run-safe : (s : State) (es : List Event) → IsSized s → IsSafe s → AreLawful s es → IsSized (run s es) × IsSafe (run s es)
run-safe s [] sized safe ok = (sized, safe)
run-safe s (e ∷ es) sized safe ok = let g = stepped s e sized safe ok.0 in run-safe (after s e) es g.sized g.safe ok.1

-- nobody comes back
back_with : (s : State) (w u : ℕ) (x : Known) → IsLive s w → IsSome (get_or (knowing s w x) u None) → IsLive s u
back_with s w u x live h = dite (ℕ_discrete u w) (λ e. subst (λ v. IsLive s v) (sym e) live) (λ ne. live_other s.workers w u (Some x) ne h)

none_live : (o : Option Known) → o ≡ None → IsSome o → ⊥
none_live o e h = cc

back_less : (ws : List (Option Known)) (v u : ℕ) → IsSome (get_or (set ws v None) u None) → IsSome (get_or ws u None)
back_less ws v u h = each_less (λ n k. IsSome (get_or ws n None)) ws v (λ n l. l) u h

live_before : (s : State) (e : Event) (u : ℕ) → IsLawful s e → u < length s.workers → IsLive (after s e) u → IsLive s u
live_before s (Claim w r t) u ok within live = back_with s w u _ ok.0 live
live_before s (CopyWord w i) u ok within live = back_with s w u _ ok.0 live
live_before s (Clear w t) u ok within live = back_with s w u _ ok.0 live
live_before s (KeepWord w i bits) u ok within live = back_with s w u _ ok.0 live
live_before s (SeeKept w i) u ok within live = back_with s w u _ ok.0 live
live_before s (Split w) u ok within live = subst (λ o. IsSome o) (get_or_append_left s.workers (Some (without_claims (known_of s w)) ∷ []) None u within) live
live_before s (Join w v) u ok within live = back_with s w u _ ok.0 (back_less (knowing s w (joined (known_of s w) (known_of s v))) v u live)

longer : (s : State) (e : Event) → length s.workers ≤ length (after s e).workers
longer s (Claim w r t) = omega (arith, length-set s.workers w (Some (claiming (is_free s.claimed (pair s.problem r t)) (pair s.problem r t) (known_of s w))))
longer s (CopyWord w i) = omega (arith, length-set s.workers w (Some (seeing s.table i (known_of s w))))
longer s (Clear w t) = omega (arith, length-set s.workers w (Some (seeing (lose s.table t) (t / 64) (known_of s w))))
longer s (KeepWord w i bits) = omega (arith, length-set s.workers w (Some (seeing_kept (with_bits s.kept i bits) i (known_of s w))))
longer s (SeeKept w i) = omega (arith, length-set s.workers w (Some (seeing_kept s.kept i (known_of s w))))
longer s (Split w) = omega (arith, length-append s.workers (Some (without_claims (known_of s w)) ∷ []))
longer s (Join w v) =
    let x = joined (known_of s w) (known_of s v) in
    omega (arith, length-set s.workers w (Some x), length-set (knowing s w x) v None)

live_back : (s : State) (es : List Event) (u : ℕ) → AreLawful s es → u < length s.workers → IsLive (run s es) u → IsLive s u
live_back s [] u ok within live = live
live_back s (e ∷ es) u ok within live =
    live_before s e u ok.0 within (live_back (after s e) es u ok.1 (let l = longer s e in omega arith) live)

pub later_later : (a b c : Known) → IsLater a b → IsLater b c → IsLater a c
later_later a b c x y = record {
  seen = λ t. let i = x.seen t in let j = y.seen t in omega arith;
  kept = λ t. let i = x.kept t in let j = y.kept t in omega arith;
  claimed = λ t. let i = x.claimed t in let j = y.claimed t in omega arith;
  claims = λ t. let i = x.claims t in let j = y.claims t in omega arith;
}

run-later : (s : State) (es : List Event) (u : ℕ) → IsSized s → IsSafe s → AreLawful s es → IsLive (run s es) u → IsLive s u → IsLater (known_of s u) (known_of (run s es) u)
run-later s [] u sized safe ok live was = same_later (known_of s u)
run-later s (e ∷ es) u sized safe ok live was =
    let g = stepped s e sized safe ok.0 in
    let within : u < length (after s e).workers = let l = longer s e in let i = live_within s.workers u was in omega arith in
    let mid = live_back (after s e) es u ok.1 within live in
    later_later (known_of s u) (known_of (after s e) u) (known_of (run (after s e) es) u) (g.later u was mid) (run-later (after s e) es u g.sized g.safe ok.1 live mid)

-- a list in two parts
run-append : (s : State) (es fs : List Event) → run s (es ++ fs) ≡ run (run s es) fs
run-append s [] fs = refl
run-append s (e ∷ es) fs = run-append (after s e) es fs

lawful-append : (s : State) (es fs : List Event) → AreLawful s (es ++ fs) → AreLawful s es × AreLawful (run s es) fs
lawful-append s [] fs ok = (tt, ok)
lawful-append s (e ∷ es) fs ok = let r = lawful-append (after s e) es fs ok.1 in ((ok.0, r.0), r.1)

pub stays_safe : StaysSafe
stays_safe p es ok = (run-safe (opening p) es (opening-sized p) (opening-safe p) ok).1

pub never_goes_back : NeverGoesBack
never_goes_back p es fs w ok =
    let parts = lawful-append (opening p) es fs ok in
    let mid = run-safe (opening p) es (opening-sized p) (opening-safe p) parts.0 in
    subst (λ n. IsLive n w → IsLive (run (opening p) es) w → IsLater (known_of (run (opening p) es) w) (known_of n w)) (sym (run-append (opening p) es fs)) (run-later (run (opening p) es) fs w mid.0 mid.1 parts.1)

-- a claim that is answered true comes once
won : (b : Bool) (x c : ℕ) (claimed : List ℕ) → x / 64 < length claimed → (b ≡ true → (x ≡ c) × (has claimed x ≡ 0)) → (if b then 1 else 0) + has claimed c ≤ has (gain claimed x) c
won true x c claimed within h =
    let f = h refl in
    subst (λ n. 1 + has claimed n ≤ has (gain claimed x) n) f.0 (let a = gain_here claimed x within in let z = f.1 in omega arith)
won false x c claimed within h = let a = gains_one claimed x within c in omega arith

won_here : (s : State) (e : Event) (r t : ℕ) → IsSized s → IsLawful s e → (if is_claim r t e && is_won (reply s e) then 1 else 0) + has s.claimed (pair s.problem r t) ≤ has (after s e).claimed (pair (after s e).problem r t)
won_here s (Claim w r' t') r t sized ok =
    let x = pair s.problem r' t' in
    won (((r' == r) && (t' == t)) && is_free s.claimed x) x (pair s.problem r t) s.claimed
    (let l = pair_within s.problem r' t' ok.1 ok.2 in let e = sized.claimed in omega arith)
    (λ h.
    let a = and_parts _ _ h in
    let b = and_parts _ _ a.0 in
    (ap (λ n. pair s.problem n t') (eqb-true r' r b.0) ∙ ap (λ n. pair s.problem r n) (eqb-true t' t b.1), eqb-true (has s.claimed x) 0 a.1))
won_here s (CopyWord w i) r t sized ok = omega arith
won_here s (Clear w x) r t sized ok = omega arith
won_here s (KeepWord w i bits) r t sized ok = omega arith
won_here s (SeeKept w i) r t sized ok = omega arith
won_here s (Split w) r t sized ok = omega arith
won_here s (Join w v) r t sized ok = omega arith

wins-le : (s : State) (es : List Event) (r t : ℕ) → IsSized s → IsSafe s → AreLawful s es → wins r t s es + has s.claimed (pair s.problem r t) ≤ 1
wins-le s [] r t sized safe ok = let l = has-le s.claimed (pair s.problem r t) in omega arith
wins-le s (e ∷ es) r t sized safe ok =
    let g = stepped s e sized safe ok.0 in
    let i = wins-le (after s e) es r t g.sized g.safe ok.1 in
    let h = won_here s e r t sized ok.0 in
    omega arith

pub claimed_once : IsClaimedOnce
claimed_once p es r t ok = let a = wins-le (opening p) es r t (opening-sized p) (opening-safe p) ok in omega arith

-- the word and the bit of a pair
pub pair_word : (p : Posed) (r t : ℕ) → pair p r t / 64 ≡ r * word_count p + t / 64
pair_word p r t = let x : ℕ = r * word_count p in omega arith

pub pair_bit : (p : Posed) (r t : ℕ) → pair p r t % 64 ≡ t % 64
pair_bit p r t = let x : ℕ = r * word_count p in omega arith
