-- An index of keys tells where each stands first.
use Rattle.std.proofs.Common.{◌≡◌, ℕ, ◌==◌, ◌&&◌, Bool, true, false, cond, List, [], ◌∷◌, ◌++◌, length, map, Option, None, Some, is_some, position, bytes_eq, refl, sym, ◌∙◌, ap, true≢false}
use Rattle.std.specs.HashMap.{HashMap, get, get_by, Updates}
use Rattle.std.specs.Option.{option_or}
use Rattle.std.proofs.lemmas.Bool.{and_parts}
use Rattle.std.proofs.lemmas.Bool.Decides.{Decides-eqb, Decides-like, same_from_decides}
use Rattle.std.proofs.lemmas.Slice.Eq.{bytes_eq-Decides}
use Rattle.declared_names.specs.declared.names.Key.{Key}
use Rattle.declared_names.specs.Firsts.{same_key, TellsFirsts, NotesFirst}
use Rattle.declared_names.specs.Lookups.{place_in}
use Rattle.declared_names.proofs.Positions.{position-map, position-push}

-- keys that are the same are the same as the same keys
alike : (k l : Key) → same_key k l ≡ true → same_key k ≡ same_key l
alike k l e =
    let parts = and_parts (k.owner == l.owner) (bytes_eq k.name.now l.name.now) e in
    let owners = (Decides-eqb k.owner l.owner).0 parts.0 in
    let names = (bytes_eq-Decides k.name.now l.name.now).0 parts.1 in
    (λ j x. owners j == x.owner && bytes_eq (names j) x.name.now)

turned : (k l : Key) → same_key k l ≡ same_key l k
turned k l =
    let owners = same_from_decides (k.owner == l.owner) (l.owner == k.owner) (Decides-eqb k.owner l.owner) (Decides-like (l.owner == k.owner) sym sym (Decides-eqb l.owner k.owner)) in
    let names = same_from_decides (bytes_eq k.name.now l.name.now) (bytes_eq l.name.now k.name.now) (bytes_eq-Decides k.name.now l.name.now) (Decides-like (bytes_eq l.name.now k.name.now) sym sym (bytes_eq-Decides l.name.now k.name.now)) in
    (λ j. owners j && names j)

first_counts : (o p : Option ℕ) → is_some o ≡ true → o ≡ option_or o p
first_counts None p e = absurd (true≢false (sym e))
first_counts (Some n) p e = refl

or_none : (o : Option ℕ) → o ≡ option_or o None
or_none None = refl
or_none (Some n) = refl

module _ {S : Type 0} (m : HashMap Key ℕ S) where
  get_alike : (k l : Key) → same_key k l ≡ true → get same_key m k ≡ get same_key m l
  get_alike k l e = ap (λ t. get_by t m) (alike k l e)

  -- of a key that has a place there is nothing to note
  pub notes_there : (key : Key) (place : ℕ) → is_some (get same_key m key) ≡ true → NotesFirst (get same_key m) (get same_key m) key place
  notes_there key place there k = by (same_key k key) refl
    where
      by : (b : Bool) → same_key k key ≡ b → get same_key m k ≡ option_or (get same_key m k) (cond b (Some place) None)
      by true e = first_counts (get same_key m k) (Some place) (ap is_some (get_alike k key e) ∙ there)
      by false e = or_none (get same_key m k)

-- a key that has none gets its own
pub notes_new : {S : Type 0} (m n : HashMap Key ℕ S) (key : Key) (place : ℕ) → get same_key m key ≡ None → Updates same_key m n key (Some place) → NotesFirst (get same_key m) (get same_key n) key place
notes_new m n key place new updates k = by (same_key k key) refl
  where
    by : (b : Bool) → same_key k key ≡ b → get same_key n k ≡ option_or (get same_key m k) (cond b (Some place) None)
    by true e = get_alike n k key e ∙ updates.1 ∙ ap (λ o. option_or o (Some place)) (sym (get_alike m k key e ∙ new))
    by false e = updates.2 k (turned key k ∙ e) ∙ or_none (get same_key m k)

-- so the index tells the first places of a list that grew
pub tells_pushed : (before after : Key → Option ℕ) (keys grown : List Key) (key : Key) (place : ℕ) → TellsFirsts before keys → NotesFirst before after key place → place ≡ length keys → grown ≡ keys ++ key ∷ [] → TellsFirsts after grown
tells_pushed before after keys grown key place tells notes at is k =
    notes k
    ∙ (λ j. option_or (tells k j) (cond (same_key k key) (Some (at j)) None))
    ∙ sym (position-push (same_key k) keys key)
    ∙ ap (position (same_key k)) (sym is)

-- where the index tells that a key stands first, there the name means it
pub tells_place : (first : Key → Option ℕ) (keys : List Key) (key : Key) → TellsFirsts first keys → first key ≡ place_in (map (λ k. (k.owner, k.name.now)) keys) key.owner key.name.now
tells_place first keys key tells = tells key ∙ (λ j. position (λ k. turned key k j) keys) ∙ sym (position-map (λ k. k.0 == key.owner && bytes_eq k.1 key.name.now) (λ k. (k.owner, k.name.now)) keys)

pub ruleset firsts = (notes_there, notes_new)
