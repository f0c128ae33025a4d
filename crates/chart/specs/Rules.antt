-- The rules of charts, over the nodes and edges as they stand in the bytes.
use Rattle.std.specs.Prelude.{◌≡◌, ℕ, ◌<◌, Bool, true, false, cond, not, ◌&&◌, ◌||◌, List, length, get_or, take, is_some, None, ◌==◌, slice_index_or, count_by}
use Rattle.std.specs.List.{list_any, enumerate_from}
use Rattle.layout.specs.Sets.{member}
use Rattle.layout.specs.declared.parts.Node.{Node}
use Rattle.layout.specs.declared.parts.RawEdge.{RawEdge}
use Rattle.chart.specs.declared.rules.Rule.{Rule}
use Rattle.chart.specs.declared.rules.Rule.TheVariants.{StartNoAction, StartNoTarget, StartPlain, ActionPlain, OneCause, FewTimed, Leaves}
use Rattle.chart.specs.declared.rules.Breach.{Breach}
use Rattle.chart.specs.Edges.{plain, timed, several}

abbrev pub rule_number : Rule → ℕ
rule_number StartNoAction = 1
rule_number StartNoTarget = 2
rule_number StartPlain = 3
rule_number ActionPlain = 4
rule_number OneCause = 5
rule_number FewTimed = 6
rule_number Leaves = 7

-- whether node k is an action node
abbrev pub action : List Node → ℕ → Bool
action ns k = is_some (get_or ns k (record { activity = None })).activity

-- whether an action node is in the set
abbrev pub action_in : List Node → ℕ → Bool
action_in ns bits = list_any (λ n. is_some n.1.activity && member bits n.0) (enumerate_from 0 ns)

-- whether node k is a source of some edge
abbrev pub sourced : List RawEdge → ℕ → Bool
sourced es k = list_any (λ e. member e.sources.bits k) es

-- how many edges are timed
abbrev pub timed_count : List RawEdge → ℕ
timed_count es = count_by timed es

-- an edge with nothing
abbrev pub no_edge : RawEdge
no_edge = record { trigger = None; after = None; when = None; guard = None; send = None; sources = record { bits = 0 }; targets = record { bits = 0 } }

-- edge k, and past the last an edge with nothing
abbrev pub edge_at : List RawEdge → ℕ → RawEdge
edge_at es k = slice_index_or es k no_edge

-- whether a record breaks a rule: node k or edge k, whichever the rule speaks of
abbrev pub breaks : Rule → List Node → List RawEdge → ℕ → Bool
breaks StartNoAction ns es k = k == 0 && action ns k
breaks StartNoTarget ns es k = member (edge_at es k).targets.bits 0
breaks StartPlain ns es k = member (edge_at es k).sources.bits 0 && not (plain (edge_at es k) && (edge_at es k).sources.bits == 1)
breaks ActionPlain ns es k = action_in ns (edge_at es k).sources.bits && not (plain (edge_at es k))
breaks OneCause ns es k = several (edge_at es k)
breaks FewTimed ns es k = timed (edge_at es k) && timed_count (take k es) == 16
breaks Leaves ns es k = (k == 0 || action ns k) && not (sourced es k)

-- whether a rule speaks of nodes, and not of edges
abbrev pub of_nodes : Rule → Bool
of_nodes StartNoAction = true
of_nodes StartNoTarget = false
of_nodes StartPlain = false
of_nodes ActionPlain = false
of_nodes OneCause = false
of_nodes FewTimed = false
of_nodes Leaves = true

-- how many records a rule speaks of
abbrev pub records : Rule → List Node → List RawEdge → ℕ
records r ns es = cond (of_nodes r) (length ns) (length es)

-- every record keeps every rule
abbrev pub Keeps : List Node → List RawEdge → Type 0
Keeps ns es = (r : Rule) (k : ℕ) → k < records r ns es → breaks r ns es k ≡ false

-- the lowest rule that is broken, with the first record that breaks it
pub record Lowest (ns : List Node) (es : List RawEdge) (b : Breach) : Type 0 where
  pub within : b.index < records b.rule ns es
  pub here : breaks b.rule ns es b.index ≡ true
  pub first : (k : ℕ) → k < b.index → breaks b.rule ns es k ≡ false
  pub lowest : (r : Rule) → rule_number r < rule_number b.rule → (k : ℕ) → k < records r ns es → breaks r ns es k ≡ false
