-- What a hexadecimal text says.
use Rattle.std.specs.Prelude.{◌≡◌, ℕ, List, [], ◌∷◌, ◌++◌, Some, None, Ok, Err, vec_items, Option, Result, Vec, slice_get}
use Rattle.std.specs.Option.{option_map, option_and_then}
use Rattle.std.specs.Result.{result_ok}
use Rattle.std.specs.declared.alloc.Global.{Global}
use Rattle.hex_text.specs.declared.text.Position.{Position}
use Rattle.hex_text.specs.declared.text.TextError.{TextError}
use Rattle.hex_text.specs.declared.text.TextError.TheVariants.{Stray, Lone, Memory}
use Rattle.hex_text.specs.declared.reader.Mark.{Mark}
use Rattle.hex_text.specs.declared.reader.State.{State}
use Rattle.hex_text.specs.declared.reader.State.TheVariants.{Between, Half, Comment}
use Rattle.hex_text.specs.Reader.{Reader, Step, step, here, past}

-- the bytes of a text, up to its end or its first error, which then comes last
abbrev pub Scan : Type 0
Scan = List (Result Mark TextError)

abbrev pub finish : State → Scan
finish Between = []
finish (Half d p) = Err (Lone p) ∷ []
finish Comment = []

abbrev pub onward : Step → (State → Scan) → Scan
onward (Ok (s, None)) rest = rest s
onward (Ok (s, Some m)) rest = Ok m ∷ rest s
onward (Err e) rest = Err e ∷ []

-- what a text says to a reader
abbrev pub scan : Reader → List ℕ → Scan
scan r [] = finish r.state
scan r (c ∷ cs) = onward (step r.state c (here r)) (λ s. scan (past r c s) cs)

abbrev pub start : Reader
start = record { lines = 0; columns = 0; state = Between }

abbrev pub before : List ℕ → Result (List ℕ) TextError → Result (List ℕ) TextError
before bs (Ok cs) = Ok (bs ++ cs)
before bs (Err e) = Err e

-- the bytes, or the first error
abbrev pub said : Scan → Result (List ℕ) TextError
said [] = Ok []
said (Err e ∷ s) = Err e
said (Ok m ∷ s) = before (m.value ∷ []) (said s)

abbrev pub meaning : List ℕ → Result (List ℕ) TextError
meaning text = said (scan start text)

-- what reading a text answers
abbrev pub Reads : List ℕ → Result (Vec ℕ Global) TextError → Type 0
Reads text (Ok v) = meaning text ≡ Ok (vec_items v)
Reads text (Err (Stray p)) = meaning text ≡ Err (Stray p)
Reads text (Err (Lone p)) = meaning text ≡ Err (Lone p)
Reads text (Err Memory) = Unit {0}

-- byte number k of those before the end or the first error
abbrev pub nth : ℕ → Scan → Option Mark
nth k s = option_and_then result_ok (slice_get s k)

-- where its first digit stands
abbrev pub position_of : List ℕ → ℕ → Option Position
position_of text k = option_map (λ m. m.position) (nth k (scan start text))
