-- How a chart's parts are judged: rule by rule, record by record.
use Rattle.std.specs.Prelude.{ℕ, List, [], ◌∷◌, Option, slice_get}
use Rattle.std.specs.List.{find, filter_map, range_with_len}
use Rattle.std.specs.Option.{option_map}
use Rattle.layout.specs.declared.parts.Node.{Node}
use Rattle.layout.specs.declared.parts.RawEdge.{RawEdge}
use Rattle.chart.specs.declared.rules.Rule.{Rule}
use Rattle.chart.specs.declared.rules.Rule.TheVariants.{StartNoAction, StartNoTarget, StartPlain, ActionPlain, OneCause, FewTimed, Leaves}
use Rattle.chart.specs.declared.rules.Breach.{Breach}
use Rattle.chart.specs.Rules.{breaks, records}

-- the first record that breaks the rule
abbrev pub first_record : Rule → List Node → List RawEdge → Option ℕ
first_record r ns es = find (breaks r ns es) (range_with_len 0 (records r ns es))

-- how the parts break the rule, if they do
abbrev pub breach : List Node → List RawEdge → Rule → Option Breach
breach ns es r = option_map (λ k. record { rule = r; index = k }) (first_record r ns es)

abbrev pub rules : List Rule
rules = StartNoAction ∷ StartNoTarget ∷ StartPlain ∷ ActionPlain ∷ OneCause ∷ FewTimed ∷ Leaves ∷ []

-- the first rule that they break
abbrev pub first_breach : List Node → List RawEdge → Option Breach
first_breach ns es = slice_get (filter_map (breach ns es) rules) 0
