-- As many bits as so many classes need.
use Rattle.std.proofs.Common.{◌≡◌, ◌<◌, ◌≤◌, true, false, length, refl, arith}
use Rattle.std.specs.Prelude.{nat_lt}
use Rattle.std.proofs.lemmas.Bool.{lt-ltb, le-ltb}
use Rattle.heap_core.specs.Posed.{Posed}
use Rattle.rel_gates.specs.Shown.{class_bits}

pub bits_four : (p : Posed) → 8 < length p.unit.classes → class_bits p ≡ 4
bits_four p more =
    let n = length p.unit.classes in
    let one : nat_lt 1 n ≡ true = lt-ltb 1 n (omega (arith, more)) in
    let two : nat_lt 2 n ≡ true = lt-ltb 2 n (omega (arith, more)) in
    let four : nat_lt 4 n ≡ true = lt-ltb 4 n (omega (arith, more)) in
    let eight : nat_lt 8 n ≡ true = lt-ltb 8 n more in
    rw (one, two, four, eight) refl

pub bits_three : (p : Posed) → 4 < length p.unit.classes → length p.unit.classes ≤ 8 → class_bits p ≡ 3
bits_three p more less =
    let n = length p.unit.classes in
    let one : nat_lt 1 n ≡ true = lt-ltb 1 n (omega (arith, more)) in
    let two : nat_lt 2 n ≡ true = lt-ltb 2 n (omega (arith, more)) in
    let four : nat_lt 4 n ≡ true = lt-ltb 4 n more in
    let eight : nat_lt 8 n ≡ false = le-ltb 8 n less in
    rw (one, two, four, eight) refl

pub bits_two : (p : Posed) → 2 < length p.unit.classes → length p.unit.classes ≤ 4 → class_bits p ≡ 2
bits_two p more less =
    let n = length p.unit.classes in
    let one : nat_lt 1 n ≡ true = lt-ltb 1 n (omega (arith, more)) in
    let two : nat_lt 2 n ≡ true = lt-ltb 2 n more in
    let four : nat_lt 4 n ≡ false = le-ltb 4 n less in
    let eight : nat_lt 8 n ≡ false = le-ltb 8 n (omega (arith, less)) in
    rw (one, two, four, eight) refl

pub bits_one : (p : Posed) → 1 < length p.unit.classes → length p.unit.classes ≤ 2 → class_bits p ≡ 1
bits_one p more less =
    let n = length p.unit.classes in
    let one : nat_lt 1 n ≡ true = lt-ltb 1 n more in
    let two : nat_lt 2 n ≡ false = le-ltb 2 n less in
    let four : nat_lt 4 n ≡ false = le-ltb 4 n (omega (arith, less)) in
    let eight : nat_lt 8 n ≡ false = le-ltb 8 n (omega (arith, less)) in
    rw (one, two, four, eight) refl

pub bits_none : (p : Posed) → length p.unit.classes ≤ 1 → class_bits p ≡ 0
bits_none p less =
    let n = length p.unit.classes in
    let one : nat_lt 1 n ≡ false = le-ltb 1 n less in
    let two : nat_lt 2 n ≡ false = le-ltb 2 n (omega (arith, less)) in
    let four : nat_lt 4 n ≡ false = le-ltb 4 n (omega (arith, less)) in
    let eight : nat_lt 8 n ≡ false = le-ltb 8 n (omega (arith, less)) in
    rw (one, two, four, eight) refl

pub ruleset class_widths = (bits_four, bits_three, bits_two, bits_one, bits_none)
