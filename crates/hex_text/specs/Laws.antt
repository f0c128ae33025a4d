-- What holds of every hexadecimal text.
use Rattle.std.specs.Prelude.{◌≡◌, ℕ, zero, suc, ◌+◌, ◌*◌, ◌/◌, ◌%◌, Bool, true, false, cond, not, ◌&&◌, ◌⊎◌, List, [], ◌∷◌, ◌++◌, length, drop, is_some, IfSome, Some, Ok, Err, Option, ◌==◌, nat_lt}
use Rattle.std.specs.Result.{result_ok}
use Rattle.hex_text.specs.declared.text.Position.{Position}
use Rattle.hex_text.specs.declared.reader.Sign.TheVariants.{Digit}
use Rattle.hex_text.specs.declared.reader.State.{State}
use Rattle.hex_text.specs.declared.reader.State.TheVariants.{Between, Half, Comment}
use Rattle.hex_text.specs.declared.reader.Mark.{Mark}
use Rattle.hex_text.specs.Reader.{Reader, Step, step, here, past, sign}
use Rattle.hex_text.specs.Meaning.{scan, start, meaning, nth}

-- bytes as hexadecimal text, two digits each, the higher first
abbrev pub digit_char : ℕ → ℕ
digit_char d = cond (nat_lt d 10) (48 + d) (55 + d)

abbrev pub hex_of : List ℕ → List ℕ
hex_of [] = []
hex_of (b ∷ bs) = digit_char (b / 16) ∷ digit_char (b % 16) ∷ hex_of bs

-- whether a text ends between two bytes, outside comments
abbrev pub idle : State → Bool
idle Between = true
idle (Half d p) = false
idle Comment = false

abbrev pub ahead : Step → (State → Bool) → Bool
ahead (Ok (s, m)) rest = rest s
ahead (Err e) rest = false

abbrev pub settled : Reader → List ℕ → Bool
settled r [] = idle r.state
settled r (c ∷ cs) = ahead (step r.state c (here r)) (λ s. settled (past r c s) cs)

-- whether no character ends the line
abbrev pub one_line : List ℕ → Bool
one_line [] = true
one_line (c ∷ cs) = not (c == 10) && one_line cs

-- a white space, or a comment with the end of its line
abbrev pub Gap : List ℕ → Type 0
Gap g = ((c : ℕ) × ((c ≡ 32) ⊎ ((c ≡ 9) ⊎ ((c ≡ 13) ⊎ (c ≡ 10)))) × (g ≡ c ∷ [])) ⊎ ((cs : List ℕ) × (one_line cs ≡ true) × (g ≡ 35 ∷ (cs ++ (10 ∷ []))))

-- a gap between two bytes of the text may be left out
abbrev pub Loose : List ℕ → Type 0
Loose text = (front gap rest : List ℕ) → text ≡ front ++ (gap ++ rest) → settled start front ≡ true → Gap gap → result_ok (meaning text) ≡ result_ok (meaning (front ++ rest))

-- where character number i of a text stands, after so many lines and columns
abbrev pub placed : ℕ → ℕ → List ℕ → ℕ → Position
placed l c xs zero = record { line = l + 1; column = c + 1 }
placed l c [] (suc i) = record { line = l + 1; column = c + 1 }
placed l c (x ∷ xs) (suc i) = cond (x == 10) (placed (l + 1) 0 xs i) (placed l (c + 1) xs i)

-- two digits at the front make the byte
abbrev pub Pair : List ℕ → ℕ → Type 0
Pair [] v = ⊥
Pair (c ∷ []) v = ⊥
Pair (c ∷ (e ∷ cs)) v = (a : ℕ) × (b : ℕ) × (sign c ≡ Digit a) × (sign e ≡ Digit b) × (v ≡ a * 16 + b)

-- the two digits of the byte stand in the text, the first at the byte's position
pub record Stands (l c : ℕ) (text : List ℕ) (m : Mark) : Type 0 where
  pub at : ℕ
  pub there : placed l c text at ≡ m.position
  pub digits : Pair (drop at text) m.value

-- byte number k was found at the position
pub record Found (text : List ℕ) (k : ℕ) (p : Position) : Type 0 where
  pub mark : Mark
  pub which : nth k (scan start text) ≡ Some mark
  pub position : mark.position ≡ p
  pub stands : Stands 0 0 text mark

-- a position is found exactly of the bytes that the text says
abbrev pub Finds : List ℕ → ℕ → Option Position → Type 0
Finds text k r = IfSome r (λ p. Found text k p) × ((bs : List ℕ) → meaning text ≡ Ok bs → is_some r ≡ nat_lt k (length bs))
