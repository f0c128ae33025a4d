-- What the walk over the bytes says of them.
use Rattle.std.proofs.Common.{◌≡◌, ℕ, List, length, Ok, Err, Result, arith}
use Rattle.layout.specs.declared.refusal.ReadError.{ReadError}
use Rattle.layout.specs.declared.refusal.ReadError.TheVariants.{Invalid, Memory}
use Rattle.layout.specs.declared.refusal.Refusal.{Refusal}
use Rattle.layout.specs.declared.chart.RawChart.{RawChart}
use Rattle.layout.specs.Reader.{Out, got, bad}
use Rattle.layout.specs.Layout.{Bytes}
use Rattle.layout.specs.Law.{Exactly, Lawful, Parted, parts_of}
use Rattle.layout.proofs.Exact.{accepts}
use Rattle.layout.specs.First.{First}
use Rattle.reader.specs.Walk.{Walks}
use Rattle.reader.proofs.Walks as walks
use Rattle.layout.proofs.Completions.{itemized, first-fault}

never : {A : Type 0} (o : Out A) (v : A) (j : ℕ) (e : Refusal) → o ≡ got v j → o ≡ bad e → ⊥
never o v j e p q = let z : ◌≡◌ {A = ℕ} 0 1 = cc in omega arith

module _ (bs : List ℕ) (b : Bytes bs) where
  pub exactly : (r : Result RawChart ReadError) → Walks bs r → Exactly bs r
  exactly (Ok c) w = w.value
  exactly (Err (Invalid x)) w = w
  exactly (Err Memory) w = tt

  pub lawful : (r : Result RawChart ReadError) → Walks bs r → Lawful bs r
  lawful (Ok c) w = (accepts bs b (parts_of c)).0 w.value
  lawful (Err (Invalid x)) w = λ c h k. never _ c (length bs) x ((accepts bs b c).1 (h, k)) w
  lawful (Err Memory) w = tt

  pub parted : (r : Result RawChart ReadError) → Walks bs r → Parted r
  parted (Ok c) w = walks.parted bs c b w
  parted (Err e) w = tt

  pub first : (r : Result RawChart ReadError) → Walks bs r → First bs r
  first (Ok c) w = itemized
  first (Err (Invalid x)) w = (first-fault bs x b w, itemized)
  first (Err Memory) w = itemized
