-- Each step on a shared word is an event of the state that words and views show.
use Rattle.std.proofs.Common.{◌≡◌, ℕ, ◌+◌, ◌-◌, ◌*◌, ◌/◌, ◌%◌, ◌<◌, Bool, List, [], ◌∷◌, ◌++◌, length, get_or, set, map, take, drop, bit_and, bit_or, refl, sym, ap, subst, ◌∙◌, arith, eqb, get_or-set_same}
use Rattle.std.specs.Prelude.{Option, Some, None, is_some, IsSome, IfSome, option_map, unwrap_or}
use Rattle.std.specs.Int.{bit_not, w64}
use mathlib.Core.Option.{some, none}
use lib.ListN.{get_elem?}
use Rattle.atomic_table.specs.Table.{Me, step, keeps, Allows, Splits, Joins}
use Rattle.atomic_table.proofs.Lists.{set_here, set_else, set_again}
use Rattle.std.proofs.lemmas.List.{set-get_or, map-set, map-append}
use Rattle.std.proofs.lemmas.Bool.{eqb-true}
use Rattle.heap_core.specs.Posed.{Posed}
use Rattle.tuple_sets.specs.Words.{has, one_bit, with_bits, lose}
use Rattle.tuple_sets.specs.Numbered.{word_count, IsRefuted}
use Rattle.tuple_sets.proofs.Sets.{has-le, free_bit}
use Rattle.bounds_table.specs.declared.known.Known.{Known}
use Rattle.bounds_table.specs.declared.rule.View.{View}
use Rattle.bounds_table.specs.declared.event.Event.{Event}
use Rattle.bounds_table.specs.declared.event.Event.TheVariants.{Claim, CopyWord, Clear, KeepWord, SeeKept, Split, Join}
use Rattle.bounds_table.specs.State.{State, pair, blank, IsLive, known_of, IsSound, IsLater}
use Rattle.bounds_table.specs.Core.{tuple_count, ArePossible, IsLawful, is_free, seeing, seeing_kept, without_claims, joined, after}
use Rattle.bounds_table.specs.Rule.{worker_of, shown, Stands, newcomer, both_views, spent}
use Rattle.bounds_table.specs.Plays.{IsRight, Tells, told, IsNews}
use Rattle.bounds_table.specs.Plays as play
use Rattle.bounds_table.proofs.Steps.{Goes}
use Rattle.bounds_table.proofs.Events.{unclaimed}
use Rattle.bounds_table.proofs.Claiming.{within, free_is, claimed_is}
use Rattle.bounds_table.proofs.Runs.{stepped, sound_after}
use Rattle.bounds_table.proofs.Showing.{worker_at, there_within, shown_same, shown_table, shown_kept, shown_claimed, table_word, part_word}

-- what a live worker of a sound state knows is right
pub right_of : (s : State) (w : ℕ) → IsSound s → IsLive s w → IsRight s.problem (known_of s w)
right_of s w sound live = record {
  words = sound.sized.workers w live;
  lacked = λ t none. sound.safe.lacked t (let a = (sound.safe.seen w live).seen t in omega arith);
  kept = λ t one. sound.safe.kept t (let a = (sound.safe.seen w live).kept t in let b = has-le s.kept t in omega arith);
}

pub some_live : (o : Option Known) (k : Known) → o ≡ Some k → IsSome o
some_live o k e = ap is_some e

-- the event of a view whose step it is, where the state that is shown afterwards is the one after the event
module _ (p : Posed) (ws us : List ℕ) (vs : List View) (id : ℕ) (v : View) (k : Known) (e : Event) (sound : IsSound (shown p ws vs)) (at : get_elem? vs id ≡ some v) (of : v.problem ≡ Some p) (ok : IsLawful (shown p ws vs) e) (same : after (shown p ws vs) e ≡ shown p us (set vs id (record v { known = k }))) where
  before : get_or (map worker_of vs) id None ≡ Some v.known
  before = worker_at vs id v p None at of

  now : get_or (map worker_of (set vs id (record v { known = k }))) id None ≡ Some k
  now = worker_at (set vs id (record v { known = k })) id (record v { known = k }) p None (set_here vs id (record v { known = k }) (there_within vs id v at)) of

  goes : Goes (shown p ws vs) (shown p us (set vs id (record v { known = k })))
  goes = subst (λ (n : State). Goes (shown p ws vs) n) same (stepped (shown p ws vs) e sound.sized sound.safe ok)

  pub stands_after : IsSound (shown p us (set vs id (record v { known = k })))
  stands_after = record { sized = goes.sized; safe = goes.safe }

  pub tells : Tells p v.known k
  tells =
      let s = shown p ws vs in
      let n = shown p us (set vs id (record v { known = k })) in
      let live = some_live _ _ before in
      let live' = some_live _ _ now in
      let old : known_of s id ≡ v.known = ap (λ o. unwrap_or o blank) before in
      let new : known_of n id ≡ k = ap (λ o. unwrap_or o blank) now in
      record {
        later = subst (λ x. IsLater x k) old (subst (λ y. IsLater (known_of s id) y) new (goes.later id live live'));
        right = subst (λ y. IsRight p y) new (right_of n id stands_after live');
      }

-- what the step of a view of a problem tells, said of the problem that it has
pub of_problem : (F : Posed → Type 0) (o : Option Posed) (p : Posed) → o ≡ Some p → F p → IfSome o F
of_problem F o p e h = subst (λ x. IfSome x F) (sym e) h

-- a load of a table word is CopyWord
pub copy_allowed : (p : Posed) (slots id : ℕ) (me : Me (Unit {0}) View) (i : ℕ) → me.0.problem ≡ Some p → i < word_count p → Allows (Stands p) slots id me i (λ n. n) (play.copies (step slots i 0 0 none) me)
copy_allowed p slots id me i of within s safe homes at small =
    let ws = s.words in
    let vs = s.views in
    let v = me.0 in
    let found : ℕ = get_or ws i 0 in
    let k : Known = record v.known { seen = set v.known.seen i found } in
    let e : Event = CopyWord id i in
    let st : State = shown p ws vs in
    let old : known_of st id ≡ v.known = ap (λ o. unwrap_or o blank) (worker_at vs id v p None at of) in
    let live : IsLive st id = some_live _ _ (worker_at vs id v p None at of) in
    let now : seeing (take (word_count p) ws) i (known_of st id) ≡ k =
    ap {A = Known} {B = Known} (λ q. seeing (take (word_count p) ws) i q) old ∙ ap {A = ℕ} {B = Known} (λ x. record v.known { seen = set v.known.seen i x }) (table_word (word_count p) ws i within)
    in
    let same : after st e ≡ shown p (set ws i found) (set vs id (record v { known = k })) =
    ap {A = Known} {B = State} (λ q. record st { workers = set (map worker_of vs) id (Some q) }) now
    ∙ shown_same p ws vs id v k of
    ∙ ap {A = List ℕ} {B = State} (λ u. shown p u (set vs id (record v { known = k }))) (sym (set-get_or ws i 0))
    in
    let ok : IsLawful st e = (live, within) in
    (record v { known = k }, keeps, tt, stands_after p ws (set ws i found) vs id v k e safe at of ok same, (refl, refl, of_problem _ v.problem p of (refl, tells p ws (set ws i found) vs id v k e safe at of ok same)))

-- a load of a kept word is SeeKept
pub see_allowed : (p : Posed) (slots id : ℕ) (me : Me (Unit {0}) View) (i : ℕ) → me.0.problem ≡ Some p → i < word_count p → Allows (Stands p) slots id me (word_count p + i) (λ n. n) (play.sees (step slots (word_count p + i) 0 0 none) me)
see_allowed p slots id me i of within s safe homes at small =
    let ws = s.words in
    let vs = s.views in
    let v = me.0 in
    let found : ℕ = get_or ws (word_count p + i) 0 in
    let k : Known = record v.known { kept = set v.known.kept i found } in
    let e : Event = SeeKept id i in
    let st : State = shown p ws vs in
    let old : known_of st id ≡ v.known = ap (λ o. unwrap_or o blank) (worker_at vs id v p None at of) in
    let live : IsLive st id = some_live _ _ (worker_at vs id v p None at of) in
    let now : seeing_kept (take (word_count p) (drop (word_count p) ws)) i (known_of st id) ≡ k =
    ap {A = Known} {B = Known} (λ q. seeing_kept (take (word_count p) (drop (word_count p) ws)) i q) old ∙ ap {A = ℕ} {B = Known} (λ x. record v.known { kept = set v.known.kept i x }) (part_word (word_count p) (word_count p) ws i within)
    in
    let same : after st e ≡ shown p (set ws (word_count p + i) found) (set vs id (record v { known = k })) =
    ap {A = Known} {B = State} (λ q. record st { workers = set (map worker_of vs) id (Some q) }) now
    ∙ shown_same p ws vs id v k of
    ∙ ap {A = List ℕ} {B = State} (λ u. shown p u (set vs id (record v { known = k }))) (sym (set-get_or ws (word_count p + i) 0))
    in
    let ok : IsLawful st e = (live, within) in
    let place : i ≡ word_count p + i - word_count p = omega arith in
    let told' : k ≡ record v.known { kept = set v.known.kept (word_count p + i - word_count p) found } = ap {A = ℕ} {B = Known} (λ j. record v.known { kept = set v.known.kept j found }) place in
    (record v { known = k }, keeps, tt, stands_after p ws (set ws (word_count p + i) found) vs id v k e safe at of ok same, (refl, refl, of_problem _ v.problem p of (told', tells p ws (set ws (word_count p + i) found) vs id v k e safe at of ok same)))

-- a fetch_and on a table word, by the mask of one tuple, is Clear
pub clear_allowed : (p : Posed) (slots id : ℕ) (me : Me (Unit {0}) View) (t : ℕ) → me.0.problem ≡ Some p → t < tuple_count p → IsRefuted p me.0.known.seen t
    → Allows (Stands p) slots id me (t / 64) (λ n. bit_and n (bit_not w64 (one_bit (t % 64)))) (play.clears (step slots (t / 64) (bit_not w64 (one_bit (t % 64))) 0 none) me)
clear_allowed p slots id me t of small refutes s safe homes at fits =
    let ws = s.words in
    let vs = s.views in
    let v = me.0 in
    let i : ℕ = t / 64 in
    let mask : ℕ = bit_not w64 (one_bit (t % 64)) in
    let x : ℕ = bit_and (get_or ws i 0) mask in
    let k : Known = record v.known { seen = set v.known.seen i x } in
    let e : Event = Clear id t in
    let st : State = shown p ws vs in
    let within : i < word_count p = omega arith in
    let old : known_of st id ≡ v.known = ap (λ o. unwrap_or o blank) (worker_at vs id v p None at of) in
    let live : IsLive st id = some_live _ _ (worker_at vs id v p None at of) in
    let lost : lose (take (word_count p) ws) t ≡ set (take (word_count p) ws) i x = ap (λ y. set (take (word_count p) ws) i (bit_and y mask)) (table_word (word_count p) ws i within) in
    let left : get_or (set (take (word_count p) ws) i x) i 0 ≡ x = get_or-set_same (take (word_count p) ws) i x 0 (let l = safe.sized.table in omega arith) in
    let same : after st e ≡ shown p (set ws i x) (set vs id (record v { known = k })) =
    ap {A = List ℕ} {B = State} (λ l. record st { table = l; workers = set (map worker_of vs) id (Some (seeing l i (known_of st id))) }) lost
    ∙ ap {A = Known} {B = State} (λ q. record st { table = set (take (word_count p) ws) i x; workers = set (map worker_of vs) id (Some (seeing (set (take (word_count p) ws) i x) i q)) }) old
    ∙ ap {A = ℕ} {B = State} (λ y. record st { table = set (take (word_count p) ws) i x; workers = set (map worker_of vs) id (Some (record v.known { seen = set v.known.seen i y })) }) left
    ∙ shown_table p ws vs id v k of i x within
    in
    let ok : IsLawful st e = (live, small, subst (λ (q : Known). IsRefuted p q.seen t) (sym old) refutes) in
    (record v { known = k }, keeps, tt, stands_after p ws (set ws i x) vs id v k e safe at of ok same, (refl, refl, of_problem _ v.problem p of (refl, tells p ws (set ws i x) vs id v k e safe at of ok same)))

-- a fetch_or on a kept word is KeepWord
pub keep_allowed : (p : Posed) (slots id : ℕ) (me : Me (Unit {0}) View) (i bits : ℕ) → me.0.problem ≡ Some p → i < word_count p → ArePossible p i bits
    → Allows (Stands p) slots id me (word_count p + i) (λ n. bit_or n bits) (play.keeps (step slots (word_count p + i) bits 0 none) me)
keep_allowed p slots id me i bits of within are s safe homes at fits =
    let ws = s.words in
    let vs = s.views in
    let v = me.0 in
    let x : ℕ = bit_or (get_or ws (word_count p + i) 0) bits in
    let k : Known = record v.known { kept = set v.known.kept i x } in
    let e : Event = KeepWord id i bits in
    let st : State = shown p ws vs in
    let old : known_of st id ≡ v.known = ap (λ o. unwrap_or o blank) (worker_at vs id v p None at of) in
    let live : IsLive st id = some_live _ _ (worker_at vs id v p None at of) in
    let part : List ℕ = take (word_count p) (drop (word_count p) ws) in
    let added : with_bits part i bits ≡ set part i x = ap (λ y. set part i (bit_or y bits)) (part_word (word_count p) (word_count p) ws i within) in
    let left : get_or (set part i x) i 0 ≡ x = get_or-set_same part i x 0 (let l = safe.sized.kept in omega arith) in
    let same : after st e ≡ shown p (set ws (word_count p + i) x) (set vs id (record v { known = k })) =
    ap {A = List ℕ} {B = State} (λ l. record st { kept = l; workers = set (map worker_of vs) id (Some (seeing_kept l i (known_of st id))) }) added
    ∙ ap {A = Known} {B = State} (λ q. record st { kept = set part i x; workers = set (map worker_of vs) id (Some (seeing_kept (set part i x) i q)) }) old
    ∙ ap {A = ℕ} {B = State} (λ y. record st { kept = set part i x; workers = set (map worker_of vs) id (Some (record v.known { kept = set v.known.kept i y })) }) left
    ∙ shown_kept p ws vs id v k of i x within
    in
    let ok : IsLawful st e = (live, within, are) in
    let place : i ≡ word_count p + i - word_count p = omega arith in
    let told' : k ≡ record v.known { kept = set v.known.kept (word_count p + i - word_count p) x } = ap {A = ℕ} {B = Known} (λ j. record v.known { kept = set v.known.kept j x }) place in
    (record v { known = k }, keeps, tt, stands_after p ws (set ws (word_count p + i) x) vs id v k e safe at of ok same, (refl, refl, of_problem _ v.problem p of (told', tells p ws (set ws (word_count p + i) x) vs id v k e safe at of ok same)))

-- a fetch_or on a claim word, by the mask of one pair, is Claim
module _ (p : Posed) (slots id : ℕ) (me : Me (Unit {0}) View) (r t words at mask : ℕ) (of : me.0.problem ≡ Some p) (few : r < 8) (small : t < tuple_count p) (as_many : words ≡ word_count p) (at_is : at ≡ (64 * (r * words) + t) / 64) (mask_is : mask ≡ one_bit (t % 64)) where
  pub claim_allowed : Allows (Stands p) slots id me (2 * word_count p + at) (λ n. bit_or n mask) (play.claims (step slots (2 * word_count p + at) mask 0 none) me)
  claim_allowed s safe homes there fits =
      let ws = s.words in
      let vs = s.views in
      let v = me.0 in
      let found : ℕ = get_or ws (2 * word_count p + at) 0 in
      let free : Bool = eqb (bit_and found mask) 0 in
      let k : Known = told free at mask v.known in
      let e : Event = Claim id r t in
      let st : State = shown p ws vs in
      let c : ℕ = pair p r t in
      let before : get_or (map worker_of vs) id None ≡ Some v.known = worker_at vs id v p None there of in
      let old : known_of st id ≡ v.known = ap (λ o. unwrap_or o blank) before in
      let live : IsLive st id = some_live _ _ before in
      let ok : IsLawful st e = (live, few, small) in
      let entry : Some v.known ≡ get_or (map worker_of vs) id (Some v.known) = sym (worker_at vs id v p (Some v.known) there of) in
      let part : List ℕ = take (8 * word_count p) (drop (2 * word_count p) ws) in
      let as_many' : words ≡ length st.table = as_many ∙ sym safe.sized.table in
      let within' : at < 8 * word_count p = within st id r t at mask words (Some v.known) safe ok as_many' at_is mask_is entry in
      let word : get_or part at 0 ≡ found = part_word (8 * word_count p) (2 * word_count p) ws at within' in
      let free' : free ≡ is_free part c = ap (λ n. eqb (bit_and n mask) 0) (sym word) ∙ free_is st id r t at mask words (Some v.known) safe ok as_many' at_is mask_is entry in
      let same : after st e ≡ shown p (set ws (2 * word_count p + at) (bit_or found mask)) (set vs id (record v { known = k })) =
      claimed_is st id r t at mask words (Some v.known) safe ok as_many' at_is mask_is entry free (with_bits part at mask) (Some k) free' refl refl
      ∙ ap {A = ℕ} {B = State} (λ n. record st { claimed = set part at (bit_or n mask); workers = set (map worker_of vs) id (Some k) }) word
      ∙ shown_claimed p ws vs id v k of at (bit_or found mask) within'
      in
      let place : at ≡ 2 * word_count p + at - 2 * word_count p = let n : ℕ = word_count p in omega arith in
      let told' : k ≡ told free (2 * word_count p + at - 2 * word_count p) mask v.known = ap {A = ℕ} {B = Known} (λ j. told free j mask v.known) place in
      let news : IsNews free at mask v.known = λ yes d on by.
      let none' : has part d ≡ 0 = eqb-true (has part d) 0 (sym (ap (λ n. eqb (bit_and n mask) 0) (sym word) ∙ free_bit part at mask d on by) ∙ yes) in
      subst (λ (q : Known). has q.claims d ≡ 0) old (unclaimed st id safe.sized safe.safe live d none')
      in
      let news' : IsNews free (2 * word_count p + at - 2 * word_count p) mask v.known = subst (λ j. IsNews free j mask v.known) place news in
      (record v { known = k }, keeps, tt, stands_after p ws (set ws (2 * word_count p + at) (bit_or found mask)) vs id v k e safe there of ok same, ((refl, refl, of_problem _ v.problem p of (told', tells p ws (set ws (2 * word_count p + at) (bit_or found mask)) vs id v k e safe there of ok same)), of_problem _ v.problem p of news'))

-- a split is Split, and a join is Join
pub split_allowed : (p : Posed) (id : ℕ) (v : View) → v.problem ≡ Some p → Splits (Stands p) id v v (newcomer v)
split_allowed p id v of s safe at =
    let ws = s.words in
    let vs = s.views in
    let st : State = shown p ws vs in
    let before : get_or (map worker_of vs) id None ≡ Some v.known = worker_at vs id v p None at of in
    let old : known_of st id ≡ v.known = ap (λ o. unwrap_or o blank) before in
    let live : IsLive st id = some_live _ _ before in
    let more : map worker_of (set vs id v ++ newcomer v ∷ []) ≡ map worker_of vs ++ Some (without_claims v.known) ∷ [] =
    map-append worker_of (set vs id v) (newcomer v ∷ [])
    ∙ ap (λ l. map worker_of l ++ worker_of (newcomer v) ∷ []) (set_again vs id v at)
    ∙ ap {A = Option Posed} {B = List (Option Known)} (λ o. map worker_of vs ++ option_map (λ q. without_claims v.known) o ∷ []) of
    in
    let same : after st (Split id) ≡ shown p ws (set vs id v ++ newcomer v ∷ []) =
    ap {A = Known} {B = State} (λ q. record st { workers = map worker_of vs ++ Some (without_claims q) ∷ [] }) old
    ∙ ap {A = List (Option Known)} {B = State} (λ l. record st { workers = l }) (sym more)
    in
    subst IsSound same (sound_after st (Split id) safe live)

pub join_allowed : (p : Posed) (id : ℕ) (v : View) (other : ℕ) (w : View) → v.problem ≡ Some p → w.problem ≡ Some p → Joins (Stands p) id v other w (both_views v w) spent
join_allowed p id v other w of of' s safe at apart at' =
    let ws = s.words in
    let vs = s.views in
    let st : State = shown p ws vs in
    let before : get_or (map worker_of vs) id None ≡ Some v.known = worker_at vs id v p None at of in
    let theirs : get_or (map worker_of vs) other None ≡ Some w.known = worker_at vs other w p None (sym (set_else vs id other (both_views v w) apart) ∙ at') of' in
    let old : known_of st id ≡ v.known = ap (λ o. unwrap_or o blank) before in
    let old' : known_of st other ≡ w.known = ap (λ o. unwrap_or o blank) theirs in
    let live : IsLive st id = some_live _ _ before in
    let live' : IsLive st other = some_live _ _ theirs in
    let left : map worker_of (set (set vs id (both_views v w)) other spent) ≡ set (set (map worker_of vs) id (Some (joined v.known w.known))) other None =
    map-set worker_of (set vs id (both_views v w)) other spent
    ∙ ap (λ l. set l other None) (map-set worker_of vs id (both_views v w))
    ∙ ap {A = Option Posed} {B = List (Option Known)} (λ o. set (set (map worker_of vs) id (option_map (λ q. joined v.known w.known) o)) other None) of
    in
    let same : after st (Join id other) ≡ shown p ws (set (set vs id (both_views v w)) other spent) =
    ap {A = Known} {B = State} (λ q. record st { workers = set (set (map worker_of vs) id (Some (joined q (known_of st other)))) other None }) old
    ∙ ap {A = Known} {B = State} (λ q. record st { workers = set (set (map worker_of vs) id (Some (joined v.known q))) other None }) old'
    ∙ ap {A = List (Option Known)} {B = State} (λ l. record st { workers = l }) (sym left)
    in
    subst IsSound same (sound_after st (Join id other) safe (live, live', apart))
