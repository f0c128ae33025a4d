-- A chart by its meaning: what stands at each node and each edge. Assumes nothing.
use Rattle.std.specs.Prelude.{◌≡◌, ℕ, zero, suc, ◌<◌, ◌≤◌, Bool, true, false, cond, not, ◌&&◌, ◌||◌, List, [], ◌∷◌, ◌++◌, length, is_some, Some, None, Option, ◌==◌, slice_index_or}
use Rattle.std.specs.List.{list_any, flat_map}
use Rattle.layout.specs.Sets.{member}
use Rattle.layout.specs.declared.parts.Node.{Node}
use Rattle.layout.specs.declared.parts.Condition.{Condition}
use Rattle.layout.specs.declared.parts.Condition.TheVariants.{Equal, AtLeast, LessThan, Absent, HoldsToken}
use Rattle.layout.specs.declared.parts.Guard.{Guard}
use Rattle.layout.specs.declared.parts.Guard.TheVariants.{One, Two, Three, Four}
use Rattle.chart.specs.declared.edge.Cause.{Cause}
use Rattle.chart.specs.declared.edge.Cause.TheVariants.{Plain, Event, After, At}
use Rattle.chart.specs.declared.edge.Edge.{Edge}
use Rattle.model.specs.Choice.{total, least}

pub record Graph : Type 0 where
  pub nodes : ℕ
  pub edges : ℕ
  pub activity : ℕ → Option ℕ
  pub cause : ℕ → Cause
  pub guard : ℕ → Option Guard
  pub send : ℕ → Option ℕ
  pub source : ℕ → ℕ → Bool
  pub target : ℕ → ℕ → Bool

-- node n and edge e of a chart; past the last, one with nothing
abbrev pub node_at : List Node → ℕ → Node
node_at ns n = slice_index_or ns n (record { activity = None })

abbrev pub edge_at : List Edge → ℕ → Edge
edge_at es e = slice_index_or es e (record { cause = Plain; guard = None; send = None; sources = record { bits = 0 }; targets = record { bits = 0 } })

abbrev pub graph_of : List Node → List Edge → Graph
graph_of ns es = record {
  nodes = length ns;
  edges = length es;
  activity = λ n. (node_at ns n).activity;
  cause = λ e. (edge_at es e).cause;
  guard = λ e. (edge_at es e).guard;
  send = λ e. (edge_at es e).send;
  source = λ e n. member (edge_at es e).sources.bits n;
  target = λ e n. member (edge_at es e).targets.bits n;
}

-- whether some number below k passes
abbrev pub any_below : (ℕ → Bool) → ℕ → Bool
any_below p zero = false
any_below p (suc k) = p k || any_below p k

-- THE KINDS OF NODES

-- a node with an activity is an action node
abbrev pub action : Graph → ℕ → Bool
action c n = is_some (c.activity n)

-- any other is a wait node if it is some edge's source, else a final node
abbrev pub leaves : Graph → ℕ → Bool
leaves c n = any_below (λ e. c.source e n) c.edges

abbrev pub waits : Graph → ℕ → Bool
waits c n = not (action c n) && leaves c n

abbrev pub final : Graph → ℕ → Bool
final c n = not (action c n) && not (leaves c n)

-- THE KINDS OF EDGES

abbrev pub is_plain : Cause → Bool
is_plain Plain = true
is_plain (Event v) = false
is_plain (After t) = false
is_plain (At m) = false

abbrev pub is_clocked : Cause → Bool
is_clocked Plain = false
is_clocked (Event v) = false
is_clocked (After t) = true
is_clocked (At m) = true

-- a timed edge, by its number, and when its clocks are due
pub data Timing : Type 0 where
  after : ℕ → Timing
  fixed : ℕ → Timing

pub record Timed : Type 0 where
  pub edge : ℕ
  pub timing : Timing

-- an edge before the timed edges behind it
abbrev pub timed_first : ℕ → Cause → List Timed → List Timed
timed_first e Plain xs = xs
timed_first e (Event v) xs = xs
timed_first e (After t) xs = record { edge = e; timing = after t } ∷ xs
timed_first e (At m) xs = record { edge = e; timing = fixed m } ∷ xs

-- the timed edges among the k edges from e on, rising
abbrev pub timed_from : (ℕ → Cause) → ℕ → ℕ → List Timed
timed_from cause zero e = []
timed_from cause (suc k) e = timed_first e (cause e) (timed_from cause k (suc e))

abbrev pub timed : Graph → List Timed
timed c = timed_from c.cause c.edges 0

-- GUARDS

abbrev pub conditions : Guard → List Condition
conditions (One a) = a ∷ []
conditions (Two a b) = a ∷ b ∷ []
conditions (Three a b c) = a ∷ b ∷ c ∷ []
conditions (Four a b c d) = a ∷ b ∷ c ∷ d ∷ []

-- a guard's conditions; an edge without guard has none
abbrev pub asked : Option Guard → List Condition
asked None = []
asked (Some g) = conditions g

-- whether some condition passes
abbrev pub any_of : (Condition → Bool) → List Condition → Bool
any_of p xs = list_any p xs

abbrev pub names_attribute : ℕ → Condition → Bool
names_attribute a (Equal b v) = b == a
names_attribute a (AtLeast b v) = b == a
names_attribute a (LessThan b v) = b == a
names_attribute a (Absent b) = b == a
names_attribute a (HoldsToken n) = false

abbrev pub names_node : ℕ → Condition → Bool
names_node n (Equal a v) = false
names_node n (AtLeast a v) = false
names_node n (LessThan a v) = false
names_node n (Absent a) = false
names_node n (HoldsToken m) = m == n

-- whether a plain edge's guard asks if the node holds a token
abbrev pub watched : Graph → ℕ → Bool
watched c n = any_below (λ e. is_plain (c.cause e) && any_of (names_node n) (asked (c.guard e))) c.edges

-- TARGETS AND RELEVANCE

-- the members below a number, rising
abbrev pub members : (ℕ → Bool) → ℕ → List ℕ
members p zero = []
members p (suc n) = members p n ++ cond (p n) (n ∷ []) []

-- the nodes that are entered, in order: by each edge, rising
abbrev pub entered : Graph → List ℕ → List ℕ
entered c xs = flat_map (λ x. members (c.target x) c.nodes) xs

-- the least over the sources of an edge; no case has more than 64 tokens
abbrev pub relevance : Graph → (ℕ → ℕ) → ℕ → ℕ
relevance c f e = least (c.source e) f 64 c.nodes

-- what is used here of the ranges and rules that a chart keeps
pub record Rules (c : Graph) : Type 0 where
  pub small : (c.nodes ≤ 32) × (c.edges ≤ 64)
  pub starts : 0 < c.nodes
  pub sourced : (e : ℕ) → e < c.edges → 1 ≤ total (λ n. cond (c.source e n) 1 0) c.nodes
  -- the first node has no activity, and its edges are plain
  pub waits_first : action c 0 ≡ false
  pub plain_first : (e : ℕ) → e < c.edges → c.source e 0 ≡ true → c.cause e ≡ Plain
  -- the edges of an action node are plain
  pub plain : (e n : ℕ) → e < c.edges → n < c.nodes → c.source e n ≡ true → action c n ≡ true → c.cause e ≡ Plain
  pub few : length (timed c) ≤ 16
