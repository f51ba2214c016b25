-- Values and their texts: each value of a kind has a word of its own.
use Rattle.std.proofs.Common.{◌≡◌, ℕ, suc, w32, FitsSigned, ◌^◌, ◌<◌, ◌≤◌, Bool, true, false, List, [], ◌∷◌, ◌++◌, length, get_or, drop, refl, sym, ap, arith}
use Rattle.std.specs.Prelude.{ℤ, pos, negsuc, codes}
use Rattle.std.specs.Fmt.{decimal, signed_decimal}
use Rattle.std.specs.Int.{IsInRange}
use lib.Signed.{mag}
use Rattle.std.specs.List.{list_all}
use Rattle.std.specs.Str.Parse.{AllDigits, digits_value}
use Rattle.std.proofs.lemmas.Bool.{and_from, ltb-true, false≢true}
use Rattle.std.proofs.lemmas.Fmt.{digits_decimal, decimal_injective, signed_decimal_injective}
use Rattle.std.proofs.lemmas.Str.Parse.{IsNumeralModel, numerals_by_value, tells_digits, digit_at}
use Rattle.taco_unit.specs.declared.kind.Kind.{Kind}
use Rattle.taco_unit.specs.declared.kind.Kind.TheVariants as kind
use Rattle.heap_core.specs.declared.value.Value.{Value}
use Rattle.heap_core.specs.declared.value.Value.TheVariants.{Null, Obj, Num, Flag}
use Rattle.heap_core.specs.Outcomes.{in_bits}
use Rattle.taco_report.specs.Texts.{object_text, this_value, value_text}
use Rattle.taco_report.specs.States.{ends, is_inner, is_named, is_value}
use Rattle.taco_report.proofs.Cuts.{SameCut, inner_from, same_cut}

own : IsNumeralModel (AllDigits 10) (digits_value 10)
own = numerals_by_value (AllDigits 10) tells_digits

high_inner : (bytes : List ℕ) → ((i : ℕ) → i < length bytes → 33 ≤ get_or bytes i 0) → list_all is_inner bytes ≡ true
high_inner [] high = refl
high_inner (b ∷ bs) high =
    let here : 33 ≤ b = high 0 (omega arith) in
    and_from (is_inner b) _ (inner_from b (λ e. absurd (omega arith)) (λ e. absurd (omega arith))) (high_inner bs (λ i within. high (suc i) (omega arith)))

pub decimal_inner : (n : ℕ) → n < 2 ^ 64 → list_all is_inner (decimal n) ≡ true
decimal_inner n small =
    high_inner (decimal n) (λ i within. let digit : IsInRange 48 57 (get_or (decimal n) i 0) = digit_at (decimal n) i (digits_decimal own n small) within in omega (arith, digit.0))

pub value_inner : (n : ℕ) (k : Kind) (v : Value) → n < 2 ^ 64 → is_value n k v ≡ true → list_all is_inner (value_text v) ≡ true
value_inner n kind.Int Null small is = refl
value_inner n kind.Int (Obj o) small is = absurd (false≢true is)
value_inner n kind.Int (Num (pos m)) small is = decimal_inner m (omega (arith, ltb-true m (2 ^ 31) is))
value_inner n kind.Int (Num (negsuc m)) small is = decimal_inner (suc m) (omega (arith, ltb-true m (2 ^ 31) is))
value_inner n kind.Int (Flag true) small is = refl
value_inner n kind.Int (Flag false) small is = refl
value_inner n kind.Flag Null small is = refl
value_inner n kind.Flag (Obj o) small is = absurd (false≢true is)
value_inner n kind.Flag (Num z) small is = absurd (false≢true is)
value_inner n kind.Flag (Flag true) small is = refl
value_inner n kind.Flag (Flag false) small is = refl
value_inner n (kind.Ref c) Null small is = refl
value_inner n (kind.Ref c) (Obj o) small is = decimal_inner o (omega (arith, ltb-true o n is))
value_inner n (kind.Ref c) (Num z) small is = absurd (false≢true is)
value_inner n (kind.Ref c) (Flag true) small is = refl
value_inner n (kind.Ref c) (Flag false) small is = refl

heads_apart : (a b : ℕ) (xs ys : List ℕ) → a < b → a ∷ xs ≡ b ∷ ys → ⊥
heads_apart a b xs ys less same = let h : a ≡ b = cc in absurd (omega arith)

pub flag_once : (b c : Bool) → value_text (Flag b) ≡ value_text (Flag c) → b ≡ c
flag_once true true same = refl
flag_once false false same = refl
flag_once true false same = absurd (heads_apart 102 116 (codes "alse") (codes "rue") (omega arith) (sym same))
flag_once false true same = absurd (heads_apart 102 116 (codes "alse") (codes "rue") (omega arith) same)

pub null_apart : (o : ℕ) → value_text Null ≡ object_text o → ⊥
null_apart o same = heads_apart 64 110 (decimal o) (codes "ull") (omega arith) (sym same)

pub object_once : (o p : ℕ) → o < 2 ^ 64 → p < 2 ^ 64 → object_text o ≡ object_text p → o ≡ p
object_once o p small_o small_p same = decimal_injective o p small_o small_p (ap (drop 1) same)

pub mag_small : (z : ℤ) → in_bits 32 z ≡ true → mag z < 2 ^ 63
mag_small (pos m) is = omega (arith, ltb-true m (2 ^ 31) is)
mag_small (negsuc m) is = omega (arith, ltb-true m (2 ^ 31) is)

pub number_once : (y z : ℤ) → in_bits 32 y ≡ true → in_bits 32 z ≡ true → signed_decimal y ≡ signed_decimal z → y ≡ z
number_once y z in_y in_z same = signed_decimal_injective y z (mag_small y in_y) (mag_small z in_z) same

pub value_once : (n : ℕ) (k : Kind) (v w : Value) → n < 2 ^ 64 → is_value n k v ≡ true → is_value n k w ≡ true → value_text v ≡ value_text w → v ≡ w
value_once n kind.Int (Num y) (Num z) small is_v is_w same = ap Num (number_once y z is_v is_w same)
value_once n kind.Int (Num y) Null small is_v is_w same = absurd (false≢true is_w)
value_once n kind.Int (Num y) (Obj p) small is_v is_w same = absurd (false≢true is_w)
value_once n kind.Int (Num y) (Flag c) small is_v is_w same = absurd (false≢true is_w)
value_once n kind.Int Null w small is_v is_w same = absurd (false≢true is_v)
value_once n kind.Int (Obj o) w small is_v is_w same = absurd (false≢true is_v)
value_once n kind.Int (Flag b) w small is_v is_w same = absurd (false≢true is_v)
value_once n kind.Flag (Flag b) (Flag c) small is_v is_w same = ap Flag (flag_once b c same)
value_once n kind.Flag (Flag b) Null small is_v is_w same = absurd (false≢true is_w)
value_once n kind.Flag (Flag b) (Obj p) small is_v is_w same = absurd (false≢true is_w)
value_once n kind.Flag (Flag b) (Num z) small is_v is_w same = absurd (false≢true is_w)
value_once n kind.Flag Null w small is_v is_w same = absurd (false≢true is_v)
value_once n kind.Flag (Obj o) w small is_v is_w same = absurd (false≢true is_v)
value_once n kind.Flag (Num y) w small is_v is_w same = absurd (false≢true is_v)
value_once n (kind.Ref c) Null Null small is_v is_w same = refl
value_once n (kind.Ref c) Null (Obj p) small is_v is_w same = absurd (null_apart p same)
value_once n (kind.Ref c) Null (Num z) small is_v is_w same = absurd (false≢true is_w)
value_once n (kind.Ref c) Null (Flag b) small is_v is_w same = absurd (false≢true is_w)
value_once n (kind.Ref c) (Obj o) Null small is_v is_w same = absurd (null_apart o (sym same))
value_once n (kind.Ref c) (Obj o) (Obj p) small is_v is_w same = ap Obj (object_once o p (omega (arith, ltb-true o n is_v)) (omega (arith, ltb-true p n is_w)) same)
value_once n (kind.Ref c) (Obj o) (Num z) small is_v is_w same = absurd (false≢true is_w)
value_once n (kind.Ref c) (Obj o) (Flag b) small is_v is_w same = absurd (false≢true is_w)
value_once n (kind.Ref c) (Num y) w small is_v is_w same = absurd (false≢true is_v)
value_once n (kind.Ref c) (Flag b) w small is_v is_w same = absurd (false≢true is_v)

-- a value that stands in front, up to a space or a line feed, is the only one
pub record SameValue (v w : Value) (more more' : List ℕ) : Type 0 where
  pub value : v ≡ w
  pub rest : more ≡ more'

pub same_value : (n : ℕ) (k : Kind) (v w : Value) (more more' : List ℕ) → n < 2 ^ 64 → is_value n k v ≡ true → is_value n k w ≡ true → ends more ≡ true → ends more' ≡ true
    → value_text v ++ more ≡ value_text w ++ more' → SameValue v w more more'
same_value n k v w more more' small is_v is_w end end' same =
    let h : SameCut (value_text v) (value_text w) more more' =
    same_cut (value_text v) (value_text w) more more' (value_inner n k v small is_v) (value_inner n k w small is_w) end end' same in
    record { value = value_once n k v w small is_v is_w h.word; rest = h.rest }

pub fits_signed : (z : ℤ) → in_bits 32 z ≡ true → FitsSigned w32 z
fits_signed (pos m) is = record { sfits = ltb-true m (2 ^ 31) is }
fits_signed (negsuc m) is = record { sfits = ltb-true m (2 ^ 31) is }

pub receiver_inner : (n : ℕ) (fixed : Bool) (v : Value) → n < 2 ^ 64 → is_named n fixed v ≡ true → list_all is_inner (this_value v) ≡ true
receiver_inner n fixed Null small is = refl
receiver_inner n fixed (Num z) small is = refl
receiver_inner n fixed (Flag b) small is = refl
receiver_inner n true (Obj o) small is = absurd (false≢true is)
receiver_inner n false (Obj o) small is = decimal_inner o (omega (arith, ltb-true o n is))

pub receiver_once : (n : ℕ) (fixed : Bool) (v w : Value) → n < 2 ^ 64 → is_named n fixed v ≡ true → is_named n fixed w ≡ true → this_value v ≡ this_value w → v ≡ w
receiver_once n true Null Null small is_v is_w same = refl
receiver_once n true Null (Obj p) small is_v is_w same = absurd (false≢true is_w)
receiver_once n true Null (Num z) small is_v is_w same = absurd (false≢true is_w)
receiver_once n true Null (Flag b) small is_v is_w same = absurd (false≢true is_w)
receiver_once n true (Obj o) w small is_v is_w same = absurd (false≢true is_v)
receiver_once n true (Num z) w small is_v is_w same = absurd (false≢true is_v)
receiver_once n true (Flag b) w small is_v is_w same = absurd (false≢true is_v)
receiver_once n false (Obj o) (Obj p) small is_v is_w same = ap Obj (object_once o p (omega (arith, ltb-true o n is_v)) (omega (arith, ltb-true p n is_w)) same)
receiver_once n false (Obj o) Null small is_v is_w same = absurd (false≢true is_w)
receiver_once n false (Obj o) (Num z) small is_v is_w same = absurd (false≢true is_w)
receiver_once n false (Obj o) (Flag b) small is_v is_w same = absurd (false≢true is_w)
receiver_once n false Null w small is_v is_w same = absurd (false≢true is_v)
receiver_once n false (Num z) w small is_v is_w same = absurd (false≢true is_v)
receiver_once n false (Flag b) w small is_v is_w same = absurd (false≢true is_v)
