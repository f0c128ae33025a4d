-- What the program answers.
use Rattle.std.specs.Prelude.{◌≡◌, ℕ, ◌⊎◌, List, ◌++◌, Ok, Err, vec_items, string_bytes, codes, Result, String, ◌≢◌}
use Rattle.std.specs.declared.alloc.Global.{Global}
use Rattle.chart.specs.declared.chart.Chart.{Chart}
use Rattle.chart.specs.declared.refusal.Refusal.{Refusal}
use Rattle.chart.specs.Law.{parts_of, verdict, accepted, refused}
use Rattle.chart.specs.Refusals.{place_of}
use Rattle.hex_text.specs.declared.text.TextError.{TextError}
use Rattle.hex_text.specs.declared.text.TextError.TheVariants.{Stray, Lone, Memory}
use Rattle.hex_text.specs.Meaning.{meaning, position_of}
use Rattle.chart_text.specs.Words.{description, refusal_words, position_words}
use Rattle.casework.specs.declared.command.Command.{Command}
use Rattle.casework.specs.declared.command.Command.TheVariants.{Check, Help}
use Rattle.casework.specs.declared.command.Misuse.{Misuse}
use Rattle.casework.specs.declared.command.Misuse.TheVariants.{NotOneFile, NotAlone, Unknown}

-- the names of the commands, and how many words follow each
abbrev pub Names : List ℕ → ℕ → Result Command Misuse → Type 0
Names word n (Ok Check) = (word ≡ codes "check") × (n ≡ 1)
Names word n (Ok Help) = (word ≡ codes "help") × (n ≡ 0)
Names word n (Err NotOneFile) = (word ≡ codes "check") × (n ≢ 1)
Names word n (Err NotAlone) = (word ≡ codes "help") × (n ≢ 0)
Names word n (Err Unknown) = (word ≢ codes "check") × (word ≢ codes "help")

abbrev pub advice_words : Misuse → List ℕ
advice_words NotOneFile = codes "check wants one file: casework check FILE"
advice_words NotAlone = codes "help wants no other word: casework help"
advice_words Unknown = codes "no such command: see casework help"

-- why a chart is refused, and where in the file
abbrev pub refused_words : List ℕ → Refusal → List ℕ
refused_words text e = refusal_words e ++ (codes "\nat " ++ (position_words (position_of text (place_of e)) ++ codes "\n"))

-- the answer to the bytes of a chart file: the chart that they are, in words, or their refusal
abbrev pub Told : List ℕ → List ℕ → List ℕ → Type 0
Told text bs words =
    ((c : Chart) × (verdict bs ≡ accepted (parts_of c)) × (words ≡ description (vec_items c.nodes) (vec_items c.edges)))
    ⊎ ((e : Refusal) × (verdict bs ≡ refused e) × (words ≡ refused_words text e))

-- the answer to a chart file: to the bytes that the text says, or what is wrong with the text first
abbrev pub Answers : List ℕ → Result (String Global) TextError → Type 0
Answers text (Ok s) = (bs : List ℕ) × (meaning text ≡ Ok bs) × Told text bs (string_bytes s)
Answers text (Err (Stray p)) = meaning text ≡ Err (Stray p)
Answers text (Err (Lone p)) = meaning text ≡ Err (Lone p)
Answers text (Err Memory) = Unit {0}
