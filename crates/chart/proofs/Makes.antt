-- What is known of parts that keep the rules.
use Rattle.std.proofs.Common.{◌≡◌, false, List, None, Some}
use Rattle.std.specs.List.{All}
use Rattle.std.proofs.lemmas.List.Elements.{All-from_get_or}
use Rattle.layout.specs.declared.parts.Node.{Node}
use Rattle.layout.specs.declared.parts.RawEdge.{RawEdge}
use Rattle.chart.specs.declared.rules.Rule.TheVariants.{OneCause}
use Rattle.chart.specs.declared.rules.Breach.{Breach}
use Rattle.chart.specs.Edges.{several}
use Rattle.chart.specs.Rules.{no_edge, Lowest}
use Rattle.chart.specs.Judge.{first_breach}
use Rattle.chart.proofs.Lowest.{keeps, lowest}

pub one_cause : (ns : List Node) (es : List RawEdge) → first_breach ns es ≡ None → All (λ e. several e ≡ false) es
one_cause ns es e = All-from_get_or (λ e. several e ≡ false) es no_edge (keeps ns es e OneCause)

-- what a breach says that was found in equal parts, as in slices of these
pub broken : (ns ms : List Node) (es ls : List RawEdge) (b : Breach) → Some b ≡ first_breach ms ls → ms ≡ ns → ls ≡ es → (first_breach ns es ≡ Some b) × Lowest ns es b
broken ns ms es ls b e p q = let f : first_breach ns es ≡ Some b = cc in (f, lowest ns es b f)
