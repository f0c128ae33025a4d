-- The layout: which bytes a chart is written as, and which charts are in range.
use Rattle.std.specs.Prelude.{◌≡◌, ℕ, ◌+◌, ◌*◌, ◌/◌, ◌%◌, ◌^◌, ◌<◌, ◌≤◌, List, [], ◌∷◌, ◌++◌, length, Some, None, Option, count_ones, slice_index}
use Rattle.std.specs.List.{flat_map, AllByRecursion}
use Rattle.layout.specs.declared.parts.Node.{Node}
use Rattle.layout.specs.declared.parts.NodeSet.{NodeSet}
use Rattle.layout.specs.declared.parts.RawEdge.{RawEdge}
use Rattle.layout.specs.declared.parts.Condition.{Condition}
use Rattle.layout.specs.declared.parts.Condition.TheVariants.{Equal, AtLeast, LessThan, Absent, HoldsToken}
use Rattle.layout.specs.declared.parts.Guard.{Guard}
use Rattle.layout.specs.declared.parts.Guard.TheVariants.{One, Two, Three, Four}
use Rattle.layout.specs.Reader.{Parts, got, chart}

-- four bytes, the highest first
abbrev pub wide : ℕ → List ℕ
wide v = v / 16777216 ∷ v / 65536 % 256 ∷ v / 256 % 256 ∷ v % 256 ∷ []

abbrev pub one : ℕ → List ℕ
one v = v ∷ []

-- what a value is written as, if it stands
abbrev pub optional : {A B : Type 0} → (A → List B) → Option A → List B
optional enc None = []
optional enc (Some v) = enc v

-- a map's bit for a field
abbrev pub flag : {A : Type 0} → Option A → ℕ
flag None = 0
flag (Some v) = 1

abbrev pub node_bytes : Node → List ℕ
node_bytes n = flag n.activity ∷ optional one n.activity

abbrev pub condition_bytes : Condition → List ℕ
condition_bytes (Equal a c) = 0 ∷ a ∷ wide c
condition_bytes (AtLeast a c) = 1 ∷ a ∷ wide c
condition_bytes (LessThan a c) = 2 ∷ a ∷ wide c
condition_bytes (Absent a) = 3 ∷ a ∷ wide 0
condition_bytes (HoldsToken n) = 4 ∷ n ∷ wide 0

abbrev pub conditions : Guard → List Condition
conditions (One a) = a ∷ []
conditions (Two a b) = a ∷ b ∷ []
conditions (Three a b c) = a ∷ b ∷ c ∷ []
conditions (Four a b c d) = a ∷ b ∷ c ∷ d ∷ []

abbrev pub guard_bytes : Guard → List ℕ
guard_bytes g = length (conditions g) ∷ flat_map condition_bytes (conditions g)

-- the map byte of an edge: sources and targets always stand
abbrev pub edge_map_of : RawEdge → ℕ
edge_map_of e = flag e.trigger + 2 * flag e.after + 4 * flag e.when + 8 * flag e.guard + 16 * flag e.send + 32 + 64

abbrev pub edge_bytes : RawEdge → List ℕ
edge_bytes e =
    edge_map_of e
    ∷ (optional one e.trigger ++ (optional wide e.after ++ (optional wide e.when ++ (optional guard_bytes e.guard ++ (optional one e.send ++ (wide e.sources.bits ++ wide e.targets.bits))))))

abbrev pub encode : Parts → List ℕ
encode c = length c.nodes ∷ length c.edges ∷ (flat_map node_bytes c.nodes ++ flat_map edge_bytes c.edges)

-- ---- which are in range

-- a value, if it stands, is in range
abbrev pub OptIn : {A : Type 0} → (A → Type 0) → Option A → Type 0
OptIn P None = Unit {0}
OptIn P (Some v) = P v

abbrev pub NodeIn : Node → Type 0
NodeIn n = OptIn (λ v. v ≤ 63) n.activity

-- one to four of the n nodes
pub record SetIn (n : ℕ) (s : NodeSet) : Type 0 where
  pub some : 0 < count_ones s.bits
  pub few : count_ones s.bits ≤ 4
  pub below : s.bits < 2 ^ n

abbrev pub ConditionIn : ℕ → Condition → Type 0
ConditionIn n (Equal a c) = (a ≤ 15) × (c < 2 ^ 32)
ConditionIn n (AtLeast a c) = (a ≤ 15) × (c < 2 ^ 32)
ConditionIn n (LessThan a c) = (a ≤ 15) × (c < 2 ^ 32)
ConditionIn n (Absent a) = a ≤ 15
ConditionIn n (HoldsToken k) = k < n

abbrev pub GuardIn : ℕ → Guard → Type 0
GuardIn n g = AllByRecursion (ConditionIn n) (conditions g)

pub record EdgeIn (n : ℕ) (e : RawEdge) : Type 0 where
  pub trigger : OptIn (λ v. v ≤ 31) e.trigger
  pub after : OptIn (λ v. (1 ≤ v) × (v ≤ 100000000)) e.after
  pub when : OptIn (λ v. v ≤ 4000000000) e.when
  pub guard : OptIn (GuardIn n) e.guard
  pub send : OptIn (λ v. v ≤ 31) e.send
  pub sources : SetIn n e.sources
  pub targets : SetIn n e.targets

pub record InRange (c : Parts) : Type 0 where
  pub nodes_low : 2 ≤ length c.nodes
  pub nodes_high : length c.nodes ≤ 32
  pub edges_low : 1 ≤ length c.edges
  pub edges_high : length c.edges ≤ 64
  pub nodes : AllByRecursion NodeIn c.nodes
  pub edges : AllByRecursion (EdgeIn (length c.nodes)) c.edges

-- each is a byte
abbrev pub Bytes : List ℕ → Type 0
Bytes bs = (k : ℕ) → slice_index bs k < 256

-- the reader accepts exactly the encodings of charts in range
abbrev pub Accepts : Type 0
Accepts = (bs : List ℕ) → Bytes bs → (c : Parts) → (chart bs 0 ≡ got c (length bs) → InRange c × (bs ≡ encode c)) × (InRange c × (bs ≡ encode c) → chart bs 0 ≡ got c (length bs))
