-- What writing does.
use Rattle.std.specs.Prelude.{◌≡◌, ℕ, ◌<◌, ◌⊎◌, List, length, Ok, Err, vec_items, Result, Vec}
use Rattle.std.specs.declared.alloc.Global.{Global}
use Rattle.layout.specs.declared.parts.Node.{Node}
use Rattle.layout.specs.declared.parts.RawEdge.{RawEdge}
use Rattle.encoder.specs.declared.WriteError.{WriteError}
use Rattle.encoder.specs.declared.WriteError.TheVariants.{TooMany, Memory}
use Rattle.layout.specs.Layout.{encode}

-- the bytes are the chart's; or a byte does not count its nodes or its edges; or there was no memory
abbrev pub Writes : List Node → List RawEdge → Result (Vec ℕ Global) WriteError → Type 0
Writes ns es (Ok v) = vec_items v ≡ encode (record { nodes = ns; edges = es })
Writes ns es (Err TooMany) = (255 < length ns) ⊎ (255 < length es)
Writes ns es (Err Memory) = Unit {0}
