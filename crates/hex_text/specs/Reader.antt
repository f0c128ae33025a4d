-- What each character of a hexadecimal text brings.
use Rattle.std.specs.Prelude.{ℕ, ◌+◌, ◌-◌, ◌*◌, ◌<◌, Bool, cond, ◌&&◌, ◌||◌, ◌==◌, nat_le, Some, None, Ok, Err, Option, Result}
use Rattle.hex_text.specs.declared.text.Position.{Position}
use Rattle.hex_text.specs.declared.text.TextError.{TextError}
use Rattle.hex_text.specs.declared.text.TextError.TheVariants.{Stray, Lone}
use Rattle.hex_text.specs.declared.reader.Mark.{Mark}
use Rattle.hex_text.specs.declared.reader.Sign.{Sign}
use Rattle.hex_text.specs.declared.reader.Sign.TheVariants.{Digit, Space, Hash, Other}
use Rattle.hex_text.specs.declared.reader.State.{State}
use Rattle.hex_text.specs.declared.reader.State.TheVariants.{Between, Half, Comment}

abbrev pub within : ℕ → ℕ → ℕ → Bool
within low high c = nat_le low c && nat_le c high

-- what a character is, by its code: 0 to 9, A to F, a to f; space, tab, carriage return, line feed; #
abbrev pub sign : ℕ → Sign
sign c =
    cond (within 48 57 c) (Digit (c - 48))
    (cond (within 65 70 c) (Digit (c - 65 + 10))
    (cond (within 97 102 c) (Digit (c - 97 + 10))
    (cond (c == 32 || (c == 9 || (c == 13 || c == 10))) Space
    (cond (c == 35) Hash Other))))

-- how many lines have ended, how many characters of this line have passed, and what came last
pub record Reader : Type 0 where
  pub lines : ℕ
  pub columns : ℕ
  pub state : State

-- the position of the next character
abbrev pub here : Reader → Position
here r = record { line = r.lines + 1; column = r.columns + 1 }

-- past the next character, which is c: a line feed ends the line
abbrev pub past : Reader → ℕ → State → Reader
past r c s = record { lines = cond (c == 10) (r.lines + 1) r.lines; columns = cond (c == 10) 0 (r.columns + 1); state = s }

-- what comes after a character, and the byte that it completes, if it completes one
abbrev pub Step : Type 0
Step = Result (State × Option Mark) TextError

-- between bytes a digit begins a byte, and # a comment; the second digit of a byte stands right after the first; a line
-- feed ends a comment
abbrev pub step_by : State → ℕ → Position → Sign → Step
step_by Between c h (Digit d) = Ok (Half d h, None)
step_by Between c h Space = Ok (Between, None)
step_by Between c h Hash = Ok (Comment, None)
step_by Between c h Other = Err (Stray h)
step_by (Half d p) c h (Digit e) = Ok (Between, Some (record { value = d * 16 + e; position = p }))
step_by (Half d p) c h Space = Err (Lone p)
step_by (Half d p) c h Hash = Err (Lone p)
step_by (Half d p) c h Other = Err (Stray h)
step_by Comment c h s = Ok (cond (c == 10) Between Comment, None)

-- what character c brings, which stands at h
abbrev pub step : State → ℕ → Position → Step
step s c h = step_by s c h (sign c)

-- a digit's value is below 16
abbrev pub Small : Sign → Type 0
Small (Digit d) = d < 16
Small Space = Unit {0}
Small Hash = Unit {0}
Small Other = Unit {0}

-- the digit that a byte began with, and 0 between bytes
abbrev pub first_digit : State → ℕ
first_digit Between = 0
first_digit (Half d p) = d
first_digit Comment = 0
