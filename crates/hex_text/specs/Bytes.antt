-- The bytes of a text that are still to come.
use Rattle.std.specs.Prelude.{◌≡◌, ℕ, [], ◌∷◌, Some, None, Ok, Err, Option, Result}
use Rattle.hex_text.specs.declared.text.Position.{Position}
use Rattle.hex_text.specs.declared.text.TextError.{TextError}
use Rattle.hex_text.specs.declared.reader.Mark.{Mark}
use Rattle.hex_text.specs.declared.reader.Bytes.{Bytes}
use Rattle.hex_text.specs.Reader.{Reader, here, past}
use Rattle.hex_text.specs.Meaning.{Scan, scan}

abbrev pub reader_of : Bytes → Reader
reader_of b = record { lines = b.lines; columns = b.columns; state = b.state }

-- what is left for a reader
abbrev pub left : Bytes → Scan
left b = scan (reader_of b) b.rest.now

-- the first character is taken, and its position told; the state stays
abbrev pub TakesFirst : Bytes → Option (ℕ × Position) → Bytes → Type 0
TakesFirst old None new = (old.rest.now ≡ []) × (new ≡ old)
TakesFirst old (Some x) new = (old.rest.now ≡ x.0 ∷ new.rest.now) × (x.1 ≡ here (reader_of old)) × (reader_of new ≡ past (reader_of old) x.0 old.state)

-- the first byte is taken, or the error that stands before it is told
abbrev pub TakesByte : Bytes → Result (Option Mark) TextError → Bytes → Type 0
TakesByte old (Ok None) new = (left old ≡ []) × (left new ≡ [])
TakesByte old (Ok (Some m)) new = left old ≡ Ok m ∷ left new
TakesByte old (Err e) new = left old ≡ Err e ∷ []
