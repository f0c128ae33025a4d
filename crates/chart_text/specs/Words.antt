-- The words for the parts of a chart.
use Rattle.std.specs.Prelude.{ℕ, Bool, true, false, ◌&&◌, List, [], ◌++◌, map, length, Some, None, codes, decimal, Option, nat_lt}
use Rattle.std.specs.List.{filter, flat_map, join_by, enumerate_from, range_with_len}
use Rattle.layout.specs.Sets.{member}
use Rattle.layout.specs.declared.parts.Node.{Node}
use Rattle.layout.specs.declared.parts.Condition.{Condition}
use Rattle.layout.specs.declared.parts.Condition.TheVariants.{Equal, AtLeast, LessThan, Absent, HoldsToken}
use Rattle.layout.specs.declared.parts.Guard.{Guard}
use Rattle.layout.specs.declared.parts.Guard.TheVariants.{One, Two, Three, Four}
use Rattle.chart.specs.declared.edge.Cause.{Cause}
use Rattle.chart.specs.declared.edge.Cause.TheVariants.{Plain, Event, After, At}
use Rattle.chart.specs.declared.edge.Edge.{Edge}
use Rattle.chart.specs.declared.refusal.Refusal.{Refusal}
use Rattle.chart.specs.declared.rules.Rule.{Rule}
use Rattle.chart.specs.Edges.{raw_of}
use Rattle.chart.specs.Rules.{rule_number, sourced}
use Rattle.chart.specs.Refusals.{number_of, place_of, rule_of}
use Rattle.hex_text.specs.declared.text.Position.{Position}
use Rattle.hex_text.specs.declared.text.TextError.{TextError}
use Rattle.hex_text.specs.declared.text.TextError.TheVariants.{Stray, Lone, Memory}
use Rattle.chart_text.specs.declared.kinds.Kind.{Kind}
use Rattle.chart_text.specs.declared.kinds.Kind.TheVariants.{Action, Wait, Final}

abbrev pub condition_words : Condition → List ℕ
condition_words (Equal a c) = codes "attribute " ++ (decimal a ++ (codes " is " ++ decimal c))
condition_words (AtLeast a c) = codes "attribute " ++ (decimal a ++ (codes " is at least " ++ decimal c))
condition_words (LessThan a c) = codes "attribute " ++ (decimal a ++ (codes " is below " ++ decimal c))
condition_words (Absent a) = codes "attribute " ++ (decimal a ++ codes " is absent")
condition_words (HoldsToken n) = codes "node " ++ (decimal n ++ codes " holds a token")

-- the words so far, and one more condition that must hold
abbrev pub and_words : List ℕ → Condition → List ℕ
and_words front c = front ++ (codes " and " ++ condition_words c)

abbrev pub guard_words : Guard → List ℕ
guard_words (One a) = condition_words a
guard_words (Two a b) = and_words (condition_words a) b
guard_words (Three a b c) = and_words (and_words (condition_words a) b) c
guard_words (Four a b c d) = and_words (and_words (and_words (condition_words a) b) c) d

-- whether node k is a source of some edge; no set has a node above 31
abbrev pub leaves : List Edge → ℕ → Bool
leaves es k = nat_lt k 32 && sourced (map raw_of es) k

-- a node with an activity is an action node; any other is a wait node if it is a source of some edge, else a final node
abbrev pub kind_by : Option ℕ → Bool → Kind
kind_by (Some a) s = Action a
kind_by None true = Wait
kind_by None false = Final

abbrev pub kind_at : Node → ℕ → List Edge → Kind
kind_at n k es = kind_by n.activity (leaves es k)

abbrev pub kind_words : Kind → List ℕ
kind_words (Action a) = codes "action, activity " ++ decimal a
kind_words Wait = codes "wait"
kind_words Final = codes "final"

abbrev pub node_line : ℕ → Node → List Edge → List ℕ
node_line k n es = codes "node " ++ (decimal k ++ (codes ": " ++ (kind_words (kind_at n k es) ++ codes "\n")))

abbrev pub cause_words : Cause → List ℕ
cause_words Plain = codes "plain"
cause_words (Event e) = codes "on event " ++ decimal e
cause_words (After t) = decimal t ++ codes " after it became relevant"
cause_words (At m) = codes "at moment " ++ decimal m

abbrev pub guard_part : Option Guard → List ℕ
guard_part None = []
guard_part (Some g) = codes "; if " ++ guard_words g

abbrev pub send_part : Option ℕ → List ℕ
send_part None = []
send_part (Some e) = codes "; sends event " ++ decimal e

-- the nodes of a set that are below a number, in rising order
unfoldable pub members_below : ℕ → ℕ → List ℕ
members_below bits n = filter (λ k. member bits k) (range_with_len 0 n)

-- the nodes of a set
abbrev pub set_words : ℕ → List ℕ
set_words bits = join_by decimal (codes ", ") (members_below bits 32)

abbrev pub edge_line : ℕ → Edge → List ℕ
edge_line k e =
    codes "edge " ++ (decimal k ++ (codes ": " ++ (cause_words e.cause ++ (guard_part e.guard ++ (codes "; from " ++ (set_words e.sources.bits
    ++ (codes "; to " ++ (set_words e.targets.bits ++ (send_part e.send ++ codes "\n")))))))))

-- a line for each, in order, numbered from k on
abbrev pub lines : {A : Type 0} → (ℕ × A → List ℕ) → ℕ → List A → List ℕ
lines line k xs = flat_map line (enumerate_from k xs)

-- the lines of the nodes, and of the edges
abbrev pub node_lines : List Edge → List Node → List ℕ
node_lines es ns = lines (λ n. node_line n.0 n.1 es) 0 ns

abbrev pub edge_lines : List Edge → List ℕ
edge_lines es = lines (λ e. edge_line e.0 e.1) 0 es

abbrev pub description : List Node → List Edge → List ℕ
description ns es = codes "chart: " ++ (decimal (length ns) ++ (codes " nodes, " ++ (decimal (length es) ++ (codes " edges\n" ++ (node_lines es ns ++ edge_lines es)))))

-- why bytes are refused as a chart
abbrev pub rule_part : Option Rule → List ℕ
rule_part (Some r) = codes " rule " ++ decimal (rule_number r)
rule_part None = []

abbrev pub refused_words : ℕ → Option Rule → ℕ → List ℕ
refused_words number rule place = codes "refused " ++ (decimal number ++ (rule_part rule ++ (codes " at " ++ decimal place)))

abbrev pub refusal_words : Refusal → List ℕ
refusal_words r = refused_words (number_of r) (rule_of r) (place_of r)

abbrev pub position_words : Option Position → List ℕ
position_words (Some p) = codes "line " ++ (decimal p.line ++ (codes ", column " ++ decimal p.column))
position_words None = codes "the end of the file"

abbrev pub wrong_at : Position → List ℕ → List ℕ
wrong_at p words = position_words (Some p) ++ (codes ": " ++ words)

abbrev pub error_words : TextError → List ℕ
error_words (Stray p) = wrong_at p (codes "no hexadecimal digit, white space or comment")
error_words (Lone p) = wrong_at p (codes "a digit without a second one right after it")
error_words Memory = codes "out of memory"
