-- What the walk over the bytes does.
use Rattle.std.specs.Prelude.{◌≡◌, ℕ, ◌≤◌, List, [], ◌∷◌, map, length, Ok, Err, vec_items, Result, Vec}
use Rattle.std.specs.List.{between}
use Rattle.std.specs.declared.alloc.Global.{Global}
use Rattle.layout.specs.declared.chart.RawChart.{RawChart}
use Rattle.layout.specs.declared.record.Parsed.{Parsed}
use Rattle.layout.specs.declared.refusal.Refusal.{Refusal}
use Rattle.layout.specs.declared.refusal.ReadError.{ReadError}
use Rattle.layout.specs.declared.refusal.ReadError.TheVariants.{Invalid, Memory}
use Rattle.layout.specs.Reader.{Out, got, bad, many, node, edge, chart}
use Rattle.layout.specs.Records.{Piece, piece, node_piece, edge_piece}
use Rattle.layout.specs.Law.{parts_of}
use Rattle.reader.specs.declared.cursor.Cursor.{Cursor}

-- what a read returned, with the cursor's place at the return
abbrev pub outcome : {A : Type 0} → Result A Refusal → ℕ → Out A
outcome (Ok v) j = got v j
outcome (Err e) j = bad e

-- what a read did: it read by p from c's place, and left the cursor as d
pub record Reads {A : Type 0} (p : List ℕ → ℕ → Out A) (c d : Cursor) (r : Result A Refusal) : Type 0 where
  pub same : d.bytes.now ≡ c.bytes.now
  pub value : p c.bytes.now c.place ≡ outcome r d.place
  pub ahead : c.place ≤ d.place

-- a refusal, where memory can fail too
abbrev pub Failed : {A : Type 0} → Out A → ReadError → Type 0
Failed o (Invalid e) = o ≡ bad e
Failed o Memory = Unit {0}

-- the values were read one after the other from place i to place j, each from the bytes of its record
abbrev pub Cut : {A : Type 0} → (List ℕ → ℕ → Out A) → (ℕ → List ℕ → Piece) → List ℕ → ℕ → List (Parsed A) → ℕ → Type 0
Cut p make bs i [] j = i ≡ j
Cut p make bs i (v ∷ vs) j = (k : ℕ) × (p bs i ≡ got v.value k) × (k ≤ length bs) × (piece v.record ≡ make i (between i k bs)) × Cut p make bs k vs j

-- the cursor went from c to d, and read the value of v from the bytes of the record that it handed on with it
pub record Handed {A : Type 0} (p : List ℕ → ℕ → Out A) (make : ℕ → List ℕ → Piece) (c d : Cursor) (v : Parsed A) : Type 0 where
  pub same : d.bytes.now ≡ c.bytes.now
  pub value : p c.bytes.now c.place ≡ got v.value d.place
  pub part : piece v.record ≡ make c.place (between c.place d.place c.bytes.now)

abbrev pub Hands : {A : Type 0} → (List ℕ → ℕ → Out A) → (ℕ → List ℕ → Piece) → Cursor → Cursor → Result (Parsed A) Refusal → Type 0
Hands p make c d (Ok v) = Handed p make c d v
Hands p make c d (Err e) = p c.bytes.now c.place ≡ bad e

-- the same of n values
pub record HandedAll {A : Type 0} (p : List ℕ → ℕ → Out A) (make : ℕ → List ℕ → Piece) (n : ℕ) (c d : Cursor) (vs : List (Parsed A)) : Type 0 where
  pub same : d.bytes.now ≡ c.bytes.now
  pub all : length vs ≡ n
  pub value : many p n c.bytes.now c.place ≡ got (map (λ v. v.value) vs) d.place
  pub parts : Cut p make c.bytes.now c.place vs d.place

abbrev pub HandsAll : {A : Type 0} → (List ℕ → ℕ → Out A) → (ℕ → List ℕ → Piece) → ℕ → Cursor → Cursor → Result (Vec (Parsed A) Global) ReadError → Type 0
HandsAll p make n c d (Ok vs) = HandedAll p make n c d (vec_items vs)
HandsAll p make n c d (Err e) = Failed (many p n c.bytes.now c.place) e

-- the whole walk: which parts came, each with the record that it was read from
pub record Walked (bs : List ℕ) (c : RawChart) : Type 0 where
  pub value : chart bs 0 ≡ got (parts_of c) (length bs)
  pub split : ℕ
  pub node_parts : Cut node node_piece bs 2 (vec_items c.nodes) split
  pub edge_parts : Cut (edge (length (parts_of c).nodes)) edge_piece bs split (vec_items c.edges) (length bs)

-- what the walk over the bytes keeps in hand of this
abbrev pub Walks : List ℕ → Result RawChart ReadError → Type 0
Walks bs (Ok c) = Walked bs c
Walks bs (Err (Invalid e)) = chart bs 0 ≡ bad e
Walks bs (Err Memory) = Unit {0}
