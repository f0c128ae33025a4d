-- A record as a part of the chart's bytes.
use Rattle.std.specs.Prelude.{ℕ, ◌+◌, List, [], ◌∷◌, length}
use Rattle.layout.specs.declared.record.Record.{Record}
use Rattle.layout.specs.declared.record.Record.TheVariants as record_of

-- what a record is: its kind, its place and its bytes
pub data Piece : Type 0 where
  node_piece : ℕ → List ℕ → Piece
  edge_piece : ℕ → List ℕ → Piece

abbrev pub piece : Record → Piece
piece (record_of.Node bs i) = node_piece i bs.now
piece (record_of.Edge bs i) = edge_piece i bs.now

abbrev pub place_of : Record → ℕ
place_of (record_of.Node bs i) = i
place_of (record_of.Edge bs i) = i

abbrev pub bytes_of : Record → List ℕ
bytes_of (record_of.Node bs i) = bs.now
bytes_of (record_of.Edge bs i) = bs.now

-- the records of values that are written one after the other from place i on
abbrev pub pieces : {A : Type 0} → (ℕ → List ℕ → Piece) → (A → List ℕ) → ℕ → List A → List Piece
pieces make enc i [] = []
pieces make enc i (x ∷ xs) = make i (enc x) ∷ pieces make enc (i + length (enc x)) xs
