-- The items of which the bytes of a chart are made, in their order.
use Rattle.std.specs.Prelude.{◌≡◌, ℕ, ◌≤◌, List, [], ◌∷◌, ◌++◌, length}
use Rattle.std.specs.List.{flat_map}
use Rattle.layout.specs.declared.parts.Node.{Node}
use Rattle.layout.specs.declared.parts.NodeSet.{NodeSet}
use Rattle.layout.specs.declared.parts.RawEdge.{RawEdge}
use Rattle.layout.specs.declared.parts.Condition.{Condition}
use Rattle.layout.specs.declared.parts.Guard.{Guard}
use Rattle.layout.specs.declared.refusal.Fault.{Fault}
use Rattle.layout.specs.declared.refusal.Fault.TheVariants.{Count, Map, Field}
use Rattle.layout.specs.Reader.{Parts}
use Rattle.layout.specs.Layout.{one, wide, flag, optional, conditions, condition_bytes, edge_map_of, ConditionIn, SetIn}

-- the sorts of items; a condition and a set of nodes are judged by the number of nodes
pub data Sort : Type 0 where
  node_count : Sort
  edge_count : Sort
  node_map : Sort
  activity : Sort
  edge_map : Sort
  event : Sort
  after : Sort
  when : Sort
  guard_count : Sort
  condition : ℕ → Sort
  node_set : ℕ → Sort

-- how many bytes an item has
abbrev pub width : Sort → ℕ
width node_count = 1
width edge_count = 1
width node_map = 1
width activity = 1
width edge_map = 1
width event = 1
width after = 4
width when = 4
width guard_count = 1
width (condition n) = 6
width (node_set n) = 4

-- which bytes an item may be
abbrev pub Fit : Sort → List ℕ → Type 0
Fit node_count bs = (v : ℕ) × (2 ≤ v) × (v ≤ 32) × (bs ≡ one v)
Fit edge_count bs = (v : ℕ) × (1 ≤ v) × (v ≤ 64) × (bs ≡ one v)
Fit node_map bs = (v : ℕ) × (v ≤ 1) × (bs ≡ one v)
Fit activity bs = (v : ℕ) × (v ≤ 63) × (bs ≡ one v)
Fit edge_map bs = (v : ℕ) × (0b0110_0000 ≤ v) × (v ≤ 0b0111_1111) × (bs ≡ one v)
Fit event bs = (v : ℕ) × (v ≤ 31) × (bs ≡ one v)
Fit after bs = (v : ℕ) × (1 ≤ v) × (v ≤ 100_000_000) × (bs ≡ wide v)
Fit when bs = (v : ℕ) × (v ≤ 4_000_000_000) × (bs ≡ wide v)
Fit guard_count bs = (v : ℕ) × (1 ≤ v) × (v ≤ 4) × (bs ≡ one v)
Fit (condition n) bs = (c : Condition) × ConditionIn n c × (bs ≡ condition_bytes c)
Fit (node_set n) bs = (s : NodeSet) × SetIn n s × (bs ≡ wide s.bits)

-- how an item that is none of these is called
abbrev pub fault_of : Sort → Fault
fault_of node_count = Count
fault_of edge_count = Count
fault_of node_map = Map
fault_of activity = Field
fault_of edge_map = Map
fault_of event = Field
fault_of after = Field
fault_of when = Field
fault_of guard_count = Field
fault_of (condition n) = Field
fault_of (node_set n) = Field

abbrev pub Item : Type 0
Item = Sort × List ℕ

abbrev pub item : {A : Type 0} → Sort → (A → List ℕ) → A → List Item
item s enc v = (s, enc v) ∷ []

abbrev pub node_items : Node → List Item
node_items n = (node_map, one (flag n.activity)) ∷ optional (item activity one) n.activity

abbrev pub guard_items : ℕ → Guard → List Item
guard_items n g = (guard_count, one (length (conditions g))) ∷ flat_map (item (condition n) condition_bytes) (conditions g)

abbrev pub edge_items : ℕ → RawEdge → List Item
edge_items n e =
    (edge_map, one (edge_map_of e))
    ∷ (optional (item event one) e.trigger ++ (optional (item after wide) e.after ++ (optional (item when wide) e.when ++ (optional (guard_items n) e.guard ++ (optional (item event one) e.send ++ (item (node_set n) wide e.sources.bits ++ item (node_set n) wide e.targets.bits))))))

abbrev pub items : Parts → List Item
items c = (node_count, one (length c.nodes)) ∷ (edge_count, one (length c.edges)) ∷ (flat_map node_items c.nodes ++ flat_map (edge_items (length c.nodes)) c.edges)

-- the bytes of items that stand one after the other
abbrev pub flat : List Item → List ℕ
flat xs = flat_map (λ x. x.1) xs
