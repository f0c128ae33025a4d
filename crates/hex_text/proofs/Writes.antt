-- Bytes written as hexadecimal text, and read back.
use Rattle.std.proofs.Common.{◌≡◌, ℕ, zero, suc, ◌+◌, ◌*◌, ◌/◌, ◌%◌, ◌<◌, ◌==◌, ◌&&◌, Bool, true, List, [], ◌∷◌, get_or, slice_index, inl, inr, Ok, Fits, w8, refl, ap, ◌∙◌, arith}
use Rattle.std.proofs.lemmas.Bool.{and_parts, cases_lt, eqb-true}
use Rattle.std.proofs.lemmas.Bool.Decides.{nat_tests}
use Rattle.hex_text.specs.declared.reader.Sign.{Sign}
use Rattle.hex_text.specs.declared.reader.Sign.TheVariants.{Digit}
use Rattle.hex_text.specs.declared.reader.State.TheVariants.{Between, Half}
use Rattle.hex_text.specs.Reader.{Reader, sign, here, past, step_by}
use Rattle.hex_text.specs.Meaning.{onward, scan, before, said, meaning}
use Rattle.hex_text.specs.Laws.{digit_char, hex_of}
use Rattle.hex.specs.Hex.{upper_digits, encode_with, encode_upper}

-- the crate hex takes its digits from a table: the test of its first n digits computes
abbrev same_below : ℕ → Bool
same_below zero = true
same_below (suc n) = slice_index upper_digits n == digit_char n && same_below n

same_at : (n d : ℕ) → same_below n ≡ true → d < n → slice_index upper_digits d ≡ digit_char d
same_at zero d h lt = absurd (omega arith)
same_at (suc n) d h lt =
    let parts = and_parts (slice_index upper_digits n == digit_char n) (same_below n) h in
    elim (cases_lt d n) [
      | inl below ↦ same_at n d parts.1 below
      | inr top ↦
          let e : d ≡ n = omega arith in
          rw e (eqb-true _ _ parts.0)
    ]

pub encodes : (bs : List ℕ) → ((k : ℕ) → Fits w8 (get_or bs k 0)) → encode_upper bs ≡ hex_of bs
unfolding encode_with
encodes [] h = refl
encodes (b ∷ bs) h =
    let small : b < 256 = (h 0).fits in
    rw (same_at 16 (b / 16) refl (omega arith), same_at 16 (b % 16) refl (omega arith), encodes bs (λ k. h (suc k))) refl

digit_sign : (d : ℕ) → d < 16 → sign (digit_char d) ≡ Digit d
digit_sign d h = grind (arith, nat_tests)

back : (bs : List ℕ) (l n : ℕ) → ((k : ℕ) → get_or bs k 0 < 256) → said (scan (record { lines = l; columns = n; state = Between }) (hex_of bs)) ≡ Ok bs
back [] l n h = refl
back (b ∷ bs) l n h =
    let small : b < 256 = h 0 in
    let high : b / 16 < 16 = omega arith in
    let low : b % 16 < 16 = omega arith in
    let r : Reader = record { lines = l; columns = n; state = Between } in
    let q : Reader = past r (digit_char (b / 16)) (Half (b / 16) (here r)) in
    let p : Reader = past q (digit_char (b % 16)) Between in
    let value : b / 16 * 16 + b % 16 ≡ b = omega arith in
    ap (λ (s : Sign). said (onward (step_by Between (digit_char (b / 16)) (here r) s) (λ z. scan (past r (digit_char (b / 16)) z) (digit_char (b % 16) ∷ hex_of bs)))) (digit_sign (b / 16) high)
    ∙ (ap (λ (s : Sign). said (onward (step_by (Half (b / 16) (here r)) (digit_char (b % 16)) (here q) s) (λ z. scan (past q (digit_char (b % 16)) z) (hex_of bs)))) (digit_sign (b % 16) low)
    ∙ (ap (before ((b / 16 * 16 + b % 16) ∷ [])) (back bs p.lines p.columns (λ k. h (suc k)))
    ∙ ap (λ (x : ℕ). Ok (x ∷ bs)) value))

pub reads_back : (bs : List ℕ) → ((k : ℕ) → Fits w8 (get_or bs k 0)) → meaning (hex_of bs) ≡ Ok bs
reads_back bs h = back bs 0 0 (λ k. (h k).fits)
