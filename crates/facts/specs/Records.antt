-- Facts and their record. Assumes nothing.
use Rattle.std.specs.Prelude.{◌≡◌, ℕ, ◌+◌, ◌-◌, ◌*◌, ◌/◌, ◌%◌, ◌^◌, ◌<◌, ◌≤◌, true, List, [], ◌∷◌, ◌++◌, length, take, drop, Some, None, Option, count_ones, nat_le, nat_lt, ◌==◌, refl}
use Rattle.std.proofs.Common.{sym, ap, ◌∙◌, subst, arith, ltb-true, lt-ltb}
use Rattle.std.specs.Int.Count.{ones, ones_in}
use Rattle.std.proofs.lemmas.Nat.{ones-le, be_bytes_2, be_bytes_4, from_be_bytes-to_be_bytes_2, from_be_bytes-to_be_bytes_4}
use Rattle.std.proofs.lemmas.List.{append-nil, length-append, length-drop, length-take-le, nil_from_length, take_at, take-append-drop}
use Rattle.std.proofs.lemmas.Bool.Decides.{nat_tests}
use Rattle.std.proofs.lemmas.List.{get_or-take}
use Rattle.facts.specs.Facts.{Facts}
use Rattle.facts.specs.Packing.{Bytes, map_of, packed, unpacked}
use Rattle.facts.specs.Record.{two, two_of, four, four_of, encode, decode, whole, OneForEach, WorkedExample}
use Rattle.facts.specs.Maps.{map_below, ones_map}
use Rattle.facts.specs.Packings.{IsFormat, length-unpacked, map-unpacked, bytes_drop, bytes_take, unpacked_packed, packed_unpacked, good_unpacked}

-- ---- numbers in two and in four bytes

pub four-reads : (v : ℕ) (t : List ℕ) → nat_lt v 4294967296 ≡ true → four_of (four v ++ t) ≡ v
four-reads v t h = from_be_bytes-to_be_bytes_4 v (ltb-true v 4294967296 h)

four_of-take : (n : ℕ) (bs : List ℕ) → 4 ≤ n → four_of (take n bs) ≡ four_of bs
four_of-take n bs h = grind (arith, get_or-take)

two_of-take : (n : ℕ) (bs : List ℕ) → 2 ≤ n → two_of (take n bs) ≡ two_of bs
two_of-take n bs h = grind (arith, get_or-take)

pub four_writes : (bs : List ℕ) → Bytes bs → 4 ≤ length bs → four (four_of bs) ≡ take 4 bs
four_writes bs b h = be_bytes_4 (take 4 bs) (four_of bs) (length-take-le 4 bs h) (bytes_take 4 bs b) (sym (four_of-take 4 bs (omega arith)))

pub four-fits : (bs : List ℕ) → Bytes bs → nat_lt (four_of bs) 4294967296 ≡ true
four-fits bs b = lt-ltb _ _ (omega (arith, b 0, b 1, b 2, b 3))

pub four_format : IsFormat 4 four four_of (λ v. nat_lt v 4294967296)
four_format = record { long = λ v. refl; reads = four-reads; writes = four_writes; fits = four-fits }

-- ---- facts, and the bytes of a record with others behind it

pub decode-encode : (fs : List (Option ℕ)) (rest : List ℕ) → Facts fs → decode (encode fs ++ rest) ≡ fs
unfolding decode encode
decode-encode fs rest f =
    let low : map_of fs < 2 ^ 16 = subst (λ n. map_of fs < 2 ^ n) f.0 (map_below fs) in
    ap (λ m. unpacked 4 four_of 16 m (packed four fs ++ rest)) (from_be_bytes-to_be_bytes_2 (map_of fs) low)
    ∙ ap (λ n. unpacked 4 four_of n (map_of fs) (packed four fs ++ rest)) (sym f.0)
    ∙ unpacked_packed _ _ _ _ four_format fs rest f.1

pub decode-facts : (bs : List ℕ) → Bytes bs → Facts (decode bs)
unfolding decode
decode-facts bs b = (
  length-unpacked 4 four_of 16 (two_of bs) (drop 2 bs),
  good_unpacked _ _ _ _ four_format 16 (two_of bs) (drop 2 bs) (bytes_drop 2 bs b),
)

pub map-decode : (bs : List ℕ) → Bytes bs → map_of (decode bs) ≡ two_of bs
unfolding decode
map-decode bs b = map-unpacked 4 four_of 16 (two_of bs) (drop 2 bs) (omega (arith, b 0, b 1))

pub length-packed : (fs : List (Option ℕ)) → length (packed four fs) ≡ 4 * ones (map_of fs)
length-packed [] = omega (arith, ones-le 0 0 (omega arith))
length-packed (None ∷ fs) = omega (arith, ones_map None fs, length-packed fs)
length-packed (Some v ∷ fs) = omega (arith, ones_map (Some v) fs, length-packed fs)

pub length-encode : (fs : List (Option ℕ)) → length (encode fs) ≡ 2 + 4 * ones (map_of fs)
unfolding encode
length-encode fs = omega (arith, length-packed fs)

-- a map of two bytes, and the fields that it asks for
pub joined_up : (x y : ℕ) (t : List ℕ) (fs : List (Option ℕ)) (rest : List ℕ) → x < 256 → y < 256 → map_of fs ≡ x * 256 + y
    → t ≡ packed four fs ++ rest → x ∷ y ∷ t ≡ encode fs ++ rest
unfolding encode
joined_up x y t fs rest h k e p =
    let high : map_of fs / 256 % 256 ≡ x = omega arith in
    let low : map_of fs % 256 ≡ y = omega arith in
    grind (arith, high, low)

pub packed-within : (fs : List (Option ℕ)) (m n : ℕ) → map_of fs ≡ m → 4 * ones m ≤ n → length (packed four fs) ≤ n
packed-within fs m n e h = omega (arith, length-packed fs, ap ones e)

pub encode-decode : (bs : List ℕ) → Bytes bs → 2 + 4 * ones (two_of bs) ≤ length bs → (rest : List ℕ) × (bs ≡ encode (decode bs) ++ rest)
unfolding decode encode
encode-decode bs b h =
    let same = map-decode bs b in
    let front : two (map_of (decode bs)) ≡ take 2 bs = be_bytes_2 (take 2 bs) _ (length-take-le 2 bs (omega arith)) (bytes_take 2 bs b) (same ∙ sym (two_of-take 2 bs (omega arith))) in
    let room : length (packed four (decode bs)) ≤ length (drop 2 bs) = omega (arith, length-drop 2 bs, packed-within (decode bs) (two_of bs) (length bs - 2) same (omega arith)) in
    let rest = packed_unpacked _ _ _ _ four_format 16 (two_of bs) (drop 2 bs) (bytes_drop 2 bs b) room in
    (rest.0, sym (take-append-drop 2 bs) ∙ ap (λ l. l ++ drop 2 bs) (sym front) ∙ ap (λ l. two (map_of (decode bs)) ++ l) rest.1)

-- ---- one for each

pub whole_parts : (bs : List ℕ) → whole bs ≡ true → (2 ≤ length bs) × (length bs ≡ 2 + 4 * ones (two_of bs))
whole_parts bs h = (grind (arith, nat_tests), grind (arith, nat_tests))

pub bytes_back : (bs : List ℕ) → Bytes bs → whole bs ≡ true → encode (decode bs) ≡ bs
bytes_back bs b h =
    let long = (whole_parts bs h).1 in
    let parts = encode-decode bs b (omega arith) in
    let none : parts.0 ≡ [] = nil_from_length parts.0
    (omega (arith, ap length parts.1, length-append (encode (decode bs)) parts.0, length-encode (decode bs), ap ones (map-decode bs b))) in
    sym (parts.1 ∙ ap (λ l. encode (decode bs) ++ l) none ∙ append-nil _)

-- ---- a record in front of other bytes

pub whole_long : (bs : List ℕ) (n : ℕ) → 2 ≤ length bs → n ≡ 2 + 4 * ones (two_of bs) → (length bs == n) ≡ whole bs
whole_long bs n h e = grind (arith, nat_tests)

pub whole-cut : (bs : List ℕ) → length bs < 2 → nat_le 2 (length bs) ≡ whole bs
whole-cut bs h = grind (arith, nat_tests)

pub whole-short : (bs : List ℕ) → Bytes bs → whole bs ≡ true → length bs ≤ 66
whole-short bs b h = omega (arith, (whole_parts bs h).1, ones-le 16 (two_of bs) (omega (arith, b 0, b 1)))

pub decode-front : (bs rest z : List ℕ) → Bytes bs → whole bs ≡ true → z ≡ bs ++ rest → decode z ≡ decode bs
decode-front bs rest z b h e =
    ap decode (e ∙ ap (λ l. l ++ rest) (sym (bytes_back bs b h))) ∙ decode-encode (decode bs) rest (decode-facts bs b)

-- the same under a name that functions can cite
pub taken_over : (bs rest z : List ℕ) → Bytes bs → whole bs ≡ true → z ≡ bs ++ rest → decode z ≡ decode bs
taken_over bs rest z b h e = decode-front bs rest z b h e

pub given_back : (bs rest z : List ℕ) → Bytes bs → whole bs ≡ true → z ≡ bs ++ rest → bs ≡ encode (decode z)
given_back bs rest z b h e = sym (ap encode (decode-front bs rest z b h e) ∙ bytes_back bs b h)

pub record_front : (bs : List ℕ) (n : ℕ) → Bytes bs → n ≡ 2 + 4 * ones (two_of bs) → n ≤ length bs → take n bs ≡ encode (decode bs)
record_front bs n b e h =
    let parts = encode-decode bs b (omega arith) in
    ap (take n) parts.1
    ∙ take_at (encode (decode bs)) parts.0 n (length-encode (decode bs) ∙ ap (λ m. 2 + 4 * ones m) (map-decode bs b) ∙ sym e)

-- ---- every record is one of facts

pub encoded_whole : (fs : List (Option ℕ)) → Facts fs → whole (encode fs) ≡ true
unfolding encode
encoded_whole fs f =
    let low : map_of fs < 2 ^ 16 = subst (λ n. map_of fs < 2 ^ n) f.0 (map_below fs) in
    let same : count_ones (two_of (two (map_of fs))) ≡ count_ones (map_of fs) = ap count_ones (from_be_bytes-to_be_bytes_2 (map_of fs) low) in
    grind (arith, nat_tests, length-packed fs, same)

pub one_for_each : OneForEach
one_for_each = record {
  facts_back = λ fs f. (encoded_whole fs f, ap decode (sym (append-nil (encode fs))) ∙ decode-encode fs [] f);
  bytes_back = bytes_back;
  alike = λ bs cs b c v w e. sym (bytes_back bs b v) ∙ ap encode e ∙ bytes_back cs c w;
  only = λ bs b w. (decode bs, decode-facts bs b, sym (bytes_back bs b w));
  every = λ bs fs f e. ap whole e ∙ encoded_whole fs f;
}

-- ---- the worked example

pub worked_example : WorkedExample
unfolding decode encode ones ones_in
worked_example = record { record_of = refl; facts_of = refl; accepted = refl }
