-- Which parts are in range, as a test.
use Rattle.std.specs.Prelude.{ℕ, Bool, true, ◌&&◌, List, length, Option, nat_le}
use Rattle.std.specs.List.{list_all}
use Rattle.std.specs.Option.{option_map_or}
use Rattle.layout.specs.declared.parts.Node.{Node}
use Rattle.layout.specs.declared.parts.RawEdge.{RawEdge}
use Rattle.layout.specs.declared.parts.Guard.{Guard}
use Rattle.layout.specs.Layout.{conditions}
use Rattle.layout.specs.Fits.{set_fits, condition_fits}

-- absent, or it passes the test
abbrev pub absent_or : {A : Type 0} → (A → Bool) → Option A → Bool
absent_or test o = option_map_or test o true

abbrev pub guard_fits : ℕ → Guard → Bool
guard_fits n g = list_all (condition_fits n) (conditions g)

-- absent, or from `low` to `high`
abbrev pub within : ℕ → ℕ → Option ℕ → Bool
within low high o = absent_or (λ v. nat_le low v && nat_le v high) o

abbrev pub edge_fits : ℕ → RawEdge → Bool
edge_fits n e =
    within 0 31 e.trigger && (within 1 100000000 e.after && (within 0 4000000000 e.when && (absent_or (guard_fits n) e.guard && (within 0 31 e.send && (set_fits n e.sources && set_fits n e.targets)))))

abbrev pub node_fits : Node → Bool
node_fits n = within 0 63 n.activity

abbrev pub counted : List Node → List RawEdge → Bool
counted ns es = (nat_le 2 (length ns) && nat_le (length ns) 32) && (nat_le 1 (length es) && nat_le (length es) 64)

abbrev pub fits : List Node → List RawEdge → Bool
fits ns es = counted ns es && (list_all node_fits ns && list_all (edge_fits (length ns)) es)
