-- What a refusal says: the first fault in byte order.
use Rattle.std.specs.Prelude.{◌≡◌, ℕ, ◌+◌, ◌<◌, ◌≤◌, ◌⊎◌, List, [], ◌∷◌, ◌++◌, length, take, drop, Ok, Err, Result}
use Rattle.layout.specs.declared.chart.RawChart.{RawChart}
use Rattle.layout.specs.declared.refusal.Fault.TheVariants.{Short, Left}
use Rattle.layout.specs.declared.refusal.Refusal.{Refusal}
use Rattle.layout.specs.declared.refusal.ReadError.{ReadError}
use Rattle.layout.specs.declared.refusal.ReadError.TheVariants.{Invalid, Memory}
use Rattle.layout.specs.Reader.{Parts}
use Rattle.layout.specs.Layout.{InRange, encode}
use Rattle.layout.specs.Items.{Item, items, flat, width, Fit, fault_of}

-- The bytes in `rest` stand from place i on, where the items in the list are expected, and the first of these is wrong:
-- it is not whole, or it is whole and none that may stand there; or no item is expected and bytes are left over.
abbrev pub Wrong : List Item → ℕ → List ℕ → Refusal → Type 0
Wrong [] i rest e = (0 < length rest) × (e ≡ record { fault = Left; place = i })
Wrong (x ∷ xs) i rest e =
    ((length rest < width x.0) × (e ≡ record { fault = Short; place = i + length rest }))
    ⊎ ((width x.0 ≤ length rest) × (Fit x.0 (take (width x.0) rest) → ⊥) × (e ≡ record { fault = fault_of x.0; place = i }))

-- The front of the bytes is well formed, for it is made of the first items of a chart in range; and what follows it is wrong.
pub record FirstFault (bs : List ℕ) (e : Refusal) : Type 0 where
  pub chart : Parts
  pub in_range : InRange chart
  pub count : ℕ
  pub rest : List ℕ
  pub front : bs ≡ flat (take count (items chart)) ++ rest
  pub fault : Wrong (drop count (items chart)) (length (flat (take count (items chart)))) rest e

-- a chart's bytes are its items, one after the other
abbrev pub Itemized : Type 0
Itemized = (c : Parts) → encode c ≡ flat (items c)

abbrev pub First : List ℕ → Result RawChart ReadError → Type 0
First bs (Ok c) = Itemized
First bs (Err (Invalid e)) = FirstFault bs e × Itemized
First bs (Err Memory) = Itemized
