-- What reading says of the bytes.
use Rattle.std.specs.Prelude.{◌≡◌, ℕ, ◌+◌, List, map, length, Ok, Err, vec_items, Result, ◌≢◌}
use Rattle.std.specs.List.{flat_map}
use Rattle.layout.specs.declared.refusal.ReadError.{ReadError}
use Rattle.layout.specs.declared.refusal.ReadError.TheVariants.{Invalid, Memory}
use Rattle.layout.specs.declared.chart.RawChart.{RawChart}
use Rattle.layout.specs.Reader.{Parts, got, bad, chart}
use Rattle.layout.specs.Records.{piece, pieces, node_piece, edge_piece}
use Rattle.layout.specs.Layout.{InRange, encode, node_bytes, edge_bytes}

abbrev pub parts_of : RawChart → Parts
parts_of c = record { nodes = map (λ p. p.value) (vec_items c.nodes); edges = map (λ p. p.value) (vec_items c.edges) }

-- which parts came, or which refusal at which place
abbrev pub Exactly : List ℕ → Result RawChart ReadError → Type 0
Exactly bs (Ok c) = chart bs 0 ≡ got (parts_of c) (length bs)
Exactly bs (Err (Invalid e)) = chart bs 0 ≡ bad e
Exactly bs (Err Memory) = Unit {0}

-- the bytes are those of a chart in range; or no chart in range has these bytes
abbrev pub Lawful : List ℕ → Result RawChart ReadError → Type 0
Lawful bs (Ok c) = InRange (parts_of c) × (bs ≡ encode (parts_of c))
Lawful bs (Err (Invalid e)) = (c : Parts) → InRange c → bs ≢ encode c
Lawful bs (Err Memory) = Unit {0}

-- each record is the part of the bytes that its node or edge is written as, at its place
abbrev pub Parted : Result RawChart ReadError → Type 0
Parted (Ok c) =
    (map (λ p. piece p.record) (vec_items c.nodes) ≡ pieces node_piece node_bytes 2 (parts_of c).nodes)
    × (map (λ p. piece p.record) (vec_items c.edges) ≡ pieces edge_piece edge_bytes (2 + length (flat_map node_bytes (parts_of c).nodes)) (parts_of c).edges)
Parted (Err e) = Unit {0}
