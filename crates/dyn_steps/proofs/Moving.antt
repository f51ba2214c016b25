-- What a reading shows, by what its relations have: it moves where another relation has the same.
use Rattle.std.proofs.Common.{◌≡◌, ℕ, zero, suc, ◌+◌, ◌<◌, ◌≤◌, Bool, true, false, List, [], ◌∷◌, length, Some, None, refl, sym, ◌∙◌, ap, subst, arith, get_or}
use Rattle.std.specs.Prelude.{slice_get, if◌then◌else◌}
use Rattle.std.proofs.lemmas.Bool.{eq-eqb, ne_eqb}
use Rattle.taco_unit.specs.declared.kind.Kind.{Kind}
use Rattle.taco_unit.specs.declared.kind.Kind.TheVariants as kind
use Rattle.taco_unit.specs.Parts.{Parts}
use Rattle.heap_core.specs.declared.value.Value.{Value}
use Rattle.heap_core.specs.declared.value.Value.TheVariants.{Num, Flag}
use Rattle.heap_core.specs.Posed.{Posed}
use Rattle.heap_core.specs.Heap.{Heap}
use Rattle.heap_core.proofs.FieldLaws.{none_some}
use Rattle.rel_core.specs.declared.relation.RelVar.{RelVar}
use Rattle.rel_core.specs.declared.relation.What.{What}
use Rattle.rel_core.specs.declared.relation.What.TheVariants as what
use Rattle.rel_core.specs.Reading.{Reading, is_reference}
use Rattle.rel_core.specs.Uses.{is_slot}
use Rattle.rel_core.specs.Shown.{ShowsValue, ShowsHeap, slot_index, slot_relation}
use Rattle.dyn_core.specs.declared.state.DynState.{DynState}
use Rattle.dyn_core.specs.States.{var_at}
use Rattle.dyn_steps.specs.declared.point.Point.{Point}
use Rattle.dyn_steps.specs.Points.{index_of, relation_at, numbered, indices_of, IsPoint}
use Rattle.dyn_steps.specs.Agreeing.{IsAlike, Agree}
use Rattle.dyn_steps.specs.Looked.{Vars, IsLooked}
use Rattle.dyn_steps.specs.Paths.{Shows}

-- ## the indices of variables

slot_numbered : (indices : List ℕ) (a x y : ℕ) → y ≡ a + x → slot_index (numbered a indices) y ≡ get_or indices x 0
slot_numbered [] a x y is = refl
slot_numbered (i ∷ indices) a zero y is = ap (λ b. if b then i else slot_index (numbered (suc a) indices) y) (eq-eqb a y (omega (arith, is)))
slot_numbered (i ∷ indices) a (suc x) y is =
    ap (λ b. if b then i else slot_index (numbered (suc a) indices) y) (ne_eqb a y (λ same. absurd (omega (arith, is, same))))
    ∙ slot_numbered indices (suc a) x y (omega (arith, is))

pub slot_is : (at : Point) (x : ℕ) → slot_relation (indices_of at) x ≡ relation_at at (what.Slot x)
slot_is at x = ap (λ (i : ℕ). record { what = what.Slot x; index = i }) (slot_numbered at.vars 0 x x (omega arith))

-- ## relations that are alike

pub alike_self : (m : Reading) (r : RelVar) → IsAlike m r m r
alike_self m r = record { refs = λ o v. refl; number = λ o. refl; flag = λ o. refl }

pub alike_back : {m : Reading} {r : RelVar} {u : Reading} {q : RelVar} → IsAlike m r u q → IsAlike u q m r
alike_back a = record { refs = λ o v. sym (a.refs o v); number = λ o. sym (a.number o); flag = λ o. sym (a.flag o) }

pub alike_on : {m : Reading} {r : RelVar} {u : Reading} {q : RelVar} {n : Reading} {s : RelVar} → IsAlike m r u q → IsAlike u q n s → IsAlike m r n s
alike_on a b = record { refs = λ o v. b.refs o v ∙ a.refs o v; number = λ o. b.number o ∙ a.number o; flag = λ o. b.flag o ∙ a.flag o }

pub agree_back : (n : ℕ) (m u : Reading) → Agree n m u → Agree n u m
agree_back n m u agree r below = alike_back (agree r below)

pub agree_less : (k n : ℕ) (m u : Reading) → k ≤ n → Agree n m u → Agree k m u
agree_less k n m u few agree r below = agree r (omega (arith, few, below))

pub agree_on : (n : ℕ) (m u v : Reading) → Agree n m u → Agree n u v → Agree n m v
agree_on n m u v first second r below = alike_on (first r below) (second r below)

-- the relations of a point below n
pub agree_at : (p : Posed) (kinds : List Kind) (n : ℕ) (at : Point) (m u : Reading) → IsPoint p kinds n at → Agree n m u → (w : What) → IsAlike m (relation_at at w) u (relation_at at w)
agree_at p kinds n at m u point agree w = agree (relation_at at w) (point.below w)

pub point_more : (p : Posed) (kinds : List Kind) (k n : ℕ) (at : Point) → k ≤ n → IsPoint p kinds k at → IsPoint p kinds n at
point_more p kinds k n at few point = record { fields = point.fields; vars = point.vars; below = λ w. let low : index_of at w < k = point.below w in omega (arith, few, low) }

-- ## what is shown

pub value_moves : (m : Reading) (r : RelVar) (u : Reading) (q : RelVar) (k : Kind) (o : ℕ) (v : Value) → u.objects ≡ m.objects → IsAlike m r u q → ShowsValue m k r o v → ShowsValue u k q o v
value_moves m r u q kind.Int o v same alike shown = shown ∙ sym (ap Num (alike.number o))
value_moves m r u q kind.Flag o v same alike shown = shown ∙ sym (ap Flag (alike.flag o))
value_moves m r u q (kind.Ref c) o v same alike shown = (ap (λ k. is_reference k v) same ∙ shown.0, λ w. alike.refs o w ∙ shown.1 w)

pub heap_moves : (p : Parts) (m u : Reading) (at to : Point) (heap : Heap) → u.objects ≡ m.objects → ((w : What) → is_slot w ≡ false → IsAlike m (relation_at at w) u (relation_at to w))
    → ShowsHeap p m (indices_of at) heap → ShowsHeap p u (indices_of to) heap
heap_moves p m u at to heap same alike shown = record {
  few = subst (λ k. length heap ≤ k) (sym same) shown.few;
  live = λ o. (alike what.Live refl).flag o ∙ shown.live o;
  classes = λ o x there. (alike what.ClassOf refl).number o ∙ shown.classes o x there;
  cells = λ f d o there of.
      let cell = shown.cells f d o there of in
      record {
        value = cell.value;
        is = cell.is;
        shown = value_moves m (relation_at at (what.Field f)) u (relation_at to (what.Field f)) d.kind o cell.value same
            (alike (what.Field f) refl) cell.shown;
      };
  links = λ f d o v there of. (alike (what.Field f) refl).refs o v ∙ shown.links f d o v there of;
}

-- the values of the variables of a set
abbrev pub ShowsVars : List Kind → Vars → Reading → Point → DynState → Type 0
ShowsVars kinds vars m at s = (x : ℕ) (k : Kind) → vars x ≡ true → slice_get kinds x ≡ Some k → ShowsValue m k (relation_at at (what.Slot x)) 0 (var_at s.vars x)

pub shows_both : (p : Posed) (kinds : List Kind) (vars : Vars) (m : Reading) (at : Point) (s : DynState) → ShowsHeap p.unit m (indices_of at) s.objects → ShowsVars kinds vars m at s
    → Shows p kinds vars m at s
shows_both p kinds vars m at s heap values = record {
  heap = heap;
  values = λ x k is. subst (λ r. ShowsValue m k r 0 (var_at s.vars x)) (sym (slot_is at x)) (one x k (vars x) refl is);
}
  where
    one : (x : ℕ) (k : Kind) (b : Bool) → vars x ≡ b → (if b then slice_get kinds x else None) ≡ Some k → ShowsValue m k (relation_at at (what.Slot x)) 0 (var_at s.vars x)
    one x k true inside is = values x k inside is
    one x k false inside is = absurd (none_some is)

pub vars_shown : (p : Posed) (kinds : List Kind) (vars : Vars) (m : Reading) (at : Point) (s : DynState) → Shows p kinds vars m at s → ShowsVars kinds vars m at s
vars_shown p kinds vars m at s shown x k inside is =
    subst (λ r. ShowsValue m k r 0 (var_at s.vars x)) (slot_is at x)
    (shown.values x k (ap (λ b. if b then slice_get kinds x else None) inside ∙ is))

pub shows_move : (p : Posed) (kinds : List Kind) (vars : Vars) (m u : Reading) (at to : Point) (s : DynState)
    → u.objects ≡ m.objects
    → ((w : What) → IsLooked vars w → IsAlike m (relation_at at w) u (relation_at to w))
    → Shows p kinds vars m at s
    → Shows p kinds vars u to s
shows_move p kinds vars m u at to s same alike shown =
    shows_both p kinds vars u to s (heap_moves p.unit m u at to s.objects same heap_alike shown.heap)
    (λ x k inside is. value_moves m (relation_at at (what.Slot x)) u (relation_at to (what.Slot x)) k 0 (var_at s.vars x) same (alike (what.Slot x) inside)
    (vars_shown p kinds vars m at s shown x k inside is))
  where
    heap_alike : (w : What) → is_slot w ≡ false → IsAlike m (relation_at at w) u (relation_at to w)
    heap_alike what.Live is = alike what.Live tt
    heap_alike what.ClassOf is = alike what.ClassOf tt
    heap_alike (what.Field f) is = alike (what.Field f) tt
    heap_alike (what.Slot x) is = absurd (cc)
