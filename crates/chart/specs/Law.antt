-- What making and reading a chart say.
use Rattle.std.specs.Prelude.{◌≡◌, ℕ, ◌+◌, true, false, cond, List, map, length, take, Ok, Err, vec_items, Vec, Option, Result}
use Rattle.std.specs.declared.option.Option.TheVariants as option-of
use Rattle.std.specs.List.{flat_map}
use Rattle.std.specs.declared.alloc.Global.{Global}
use Rattle.layout.specs.Reader.{Out, got, bad, Parts}
use Rattle.layout.specs.Reader as reader
use Rattle.layout.specs.Layout.{InRange, encode, node_bytes, edge_bytes}
use Rattle.layout.specs.First.{FirstFault}
use Rattle.layout.specs.Law.{Parted}
use Rattle.layout.specs.Law as LayoutLaw
use Rattle.layout.specs.declared.chart.RawChart.{RawChart}
use Rattle.layout.specs.declared.parts.Node.{Node}
use Rattle.layout.specs.declared.parts.RawEdge.{RawEdge}
use Rattle.chart.specs.declared.chart.Chart.{Chart}
use Rattle.chart.specs.declared.edge.Edge.{Edge}
use Rattle.chart.specs.declared.rules.Rule.{Rule}
use Rattle.chart.specs.declared.rules.Breach.{Breach}
use Rattle.chart.specs.declared.refusal.Refusal.{Refusal}
use Rattle.chart.specs.declared.refusal.Refusal.TheVariants.{Malformed, Broken}
use Rattle.chart.specs.declared.refusal.ReadError.{ReadError}
use Rattle.chart.specs.declared.refusal.ReadError.TheVariants.{Refused, Memory}
use Rattle.chart.specs.declared.refusal.Unfit.{Unfit}
use Rattle.chart.specs.declared.refusal.Unfit.TheVariants as unfit-of
use Rattle.chart.specs.Edges.{raw_of}
use Rattle.chart.specs.Range.{fits}
use Rattle.chart.specs.Rules.{of_nodes, Keeps, Lowest}
use Rattle.chart.specs.Judge.{first_breach}

-- the parts of a chart as they stand in its bytes
abbrev pub parts_of : Chart → Parts
parts_of c = record { nodes = vec_items c.nodes; edges = map raw_of (vec_items c.edges) }

-- the parts of records that were read
abbrev pub raw_parts : RawChart → Parts
raw_parts raw = LayoutLaw.parts_of raw

-- what making a chart of these nodes and edges says: it has just these; or they are not in range; or the lowest rule that they
-- break is told, at its first record; or there was no memory
abbrev pub Made : List Node → List RawEdge → Result Chart Unfit → Type 0
Made ns es (Ok c) = (parts_of c ≡ record { nodes = ns; edges = es }) × (first_breach ns es ≡ option-of.None) × Keeps ns es
Made ns es (Err unfit-of.OutOfRange) = fits ns es ≡ false
Made ns es (Err (unfit-of.Broken b)) = (first_breach ns es ≡ option-of.Some b) × Lowest ns es b
Made ns es (Err unfit-of.Memory) = Unit {0}

-- what is said of their edges then: these, or why there is no chart
abbrev pub Kept : List Node → List RawEdge → Result (Vec Edge Global) Unfit → Type 0
Kept ns es (Ok v) = (map raw_of (vec_items v) ≡ es) × (fits ns es ≡ true) × (first_breach ns es ≡ option-of.None) × Keeps ns es
Kept ns es (Err u) = Made ns es (Err u)

-- where a record begins: behind the two counts and the records before it
abbrev pub node_place : List Node → ℕ → ℕ
node_place ns k = 2 + length (flat_map node_bytes (take k ns))

abbrev pub edge_place : List Node → List RawEdge → ℕ → ℕ
edge_place ns es k = (2 + length (flat_map node_bytes ns)) + length (flat_map edge_bytes (take k es))

abbrev pub record_place : Rule → List Node → List RawEdge → ℕ → ℕ
record_place r ns es k = cond (of_nodes r) (node_place ns k) (edge_place ns es k)

-- The answer to some bytes. No Result: the laws speak of parts that are accepted and bytes that are refused by these words.
pub data Verdict : Type 0 where
  accepted : Parts → Verdict
  refused : Refusal → Verdict

abbrev pub ruled : Parts → Option Breach → Verdict
ruled c option-of.None = accepted c
ruled c (option-of.Some b) = refused (Broken b.rule (record_place b.rule c.nodes c.edges b.index))

abbrev pub judged : Out Parts → Verdict
judged (bad e) = refused (Malformed e)
judged (got c j) = ruled c (first_breach c.nodes c.edges)

-- the bytes are read by the layout first, and what they say is judged by the rules then
abbrev pub verdict : List ℕ → Verdict
verdict bs = judged (reader.chart bs 0)

abbrev pub Exactly : List ℕ → Result Chart ReadError → Type 0
Exactly bs (Ok c) = verdict bs ≡ accepted (parts_of c)
Exactly bs (Err (Refused e)) = verdict bs ≡ refused e
Exactly bs (Err Memory) = Unit {0}

-- what is known of records that were read: they are in range, and each was handed on as the part of the bytes that it is
pub record Ready (raw : RawChart) : Type 0 where
  pub in_range : InRange (raw_parts raw)
  pub parted : Parted (Ok raw)

-- why they make no chart
abbrev pub Misfits : RawChart → Unfit → Type 0
Misfits raw u = Made (raw_parts raw).nodes (raw_parts raw).edges (Err u)

-- how it is told that they make none
abbrev pub told : Unfit → Parts → ReadError
told unfit-of.OutOfRange c = Memory
told (unfit-of.Broken b) c = Refused (Broken b.rule (record_place b.rule c.nodes c.edges b.index))
told unfit-of.Memory c = Memory

-- what judging them by the rules says
abbrev pub Judges : RawChart → Result Chart ReadError → Type 0
Judges raw (Ok c) = (parts_of c ≡ raw_parts raw) × (first_breach (raw_parts raw).nodes (raw_parts raw).edges ≡ option-of.None)
Judges raw (Err (Refused (Malformed e))) = ⊥
Judges raw (Err (Refused (Broken r i))) = (k : ℕ) × (first_breach (raw_parts raw).nodes (raw_parts raw).edges ≡ option-of.Some (record { rule = r; index = k })) × (i ≡ record_place r (raw_parts raw).nodes (raw_parts raw).edges k)
Judges raw (Err Memory) = Unit {0}

-- the bytes are written so for some parts in range
abbrev pub Written : List ℕ → Parts → Type 0
Written bs c = InRange c × (bs ≡ encode c)

-- Bytes are accepted exactly if they are those of parts that are in range and keep the rules. A refusal for the layout is the
-- first fault in byte order, and no parts in range have these bytes; one for a rule is told of the parts that have these bytes,
-- for the lowest rule that they break, at the place of the first record that breaks it.
abbrev pub Lawful : List ℕ → Result Chart ReadError → Type 0
Lawful bs (Ok c) = Written bs (parts_of c) × Keeps (parts_of c).nodes (parts_of c).edges
Lawful bs (Err (Refused (Malformed e))) = ((c : Parts) → Written bs c → ⊥) × FirstFault bs e
Lawful bs (Err (Refused (Broken r i))) = (c : Parts) × Written bs c × (k : ℕ) × Lowest c.nodes c.edges (record { rule = r; index = k }) × (i ≡ record_place r c.nodes c.edges k)
Lawful bs (Err Memory) = Unit {0}

-- no bytes are those of two different parts
abbrev pub Unambiguous : Type 0
Unambiguous = (c d : Parts) → InRange c → InRange d → encode c ≡ encode d → c ≡ d
