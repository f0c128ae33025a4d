-- Parts that are in range pass the test for it.
use Rattle.std.proofs.Common.{◌≡◌, ℕ, ◌≤◌, Bool, true, List, [], ◌∷◌, length, Some, None, Option, refl, le-leb, zero-le, arith}
use Rattle.std.specs.List.{list_all, AllByRecursion}
use Rattle.std.proofs.lemmas.Bool.{and_from}
use Rattle.std.proofs.lemmas.Bool.Decides.{nat_tests}
use Rattle.layout.specs.Reader.{Parts}
use Rattle.layout.specs.Layout.{OptIn, EdgeIn, InRange, conditions}
use Rattle.layout.specs.declared.parts.Node.{Node}
use Rattle.layout.specs.declared.parts.RawEdge.{RawEdge}
use Rattle.layout.specs.Fits.{condition_fits}
use Rattle.layout.proofs.Fits.{set-fits, condition-fits}
use Rattle.chart.specs.Range.{absent_or, within, guard_fits, edge_fits, node_fits, fits}

absent-or : {A : Type 0} {In : A → Type 0} (f : A → Bool) → ((x : A) → In x → f x ≡ true) → (o : Option A) → OptIn In o → absent_or f o ≡ true
absent-or f each None h = refl
absent-or f each (Some x) h = each x h

all-fit : {A : Type 0} {In : A → Type 0} (f : A → Bool) → ((x : A) → In x → f x ≡ true) → (xs : List A) → AllByRecursion In xs → list_all f xs ≡ true
all-fit f each [] h = refl
all-fit f each (x ∷ xs) h = and_from _ _ (each x h.0) (all-fit f each xs h.1)

ranged : (low high : ℕ) (o : Option ℕ) → OptIn (λ v. (low ≤ v) × (v ≤ high)) o → within low high o ≡ true
ranged low high = absent-or _ (λ v h. and_from _ _ (le-leb low v h.0) (le-leb v high h.1))

upto : (high : ℕ) (o : Option ℕ) → OptIn (λ v. v ≤ high) o → within 0 high o ≡ true
upto high = absent-or _ (λ v h. and_from _ _ (le-leb 0 v zero-le) (le-leb v high h))

edge-fits : (n : ℕ) (e : RawEdge) → EdgeIn n e → edge_fits n e ≡ true
edge-fits n e h =
    and_from _ _ (upto 31 e.trigger h.trigger)
    (and_from _ _ (ranged 1 100000000 e.after h.after)
    (and_from _ _ (upto 4000000000 e.when h.when)
    (and_from _ _ (absent-or (guard_fits n) (λ g. all-fit (condition_fits n) (condition-fits n) (conditions g)) e.guard h.guard)
    (and_from _ _ (upto 31 e.send h.send) (and_from _ _ (set-fits n e.sources h.sources) (set-fits n e.targets h.targets))))))

pub in_range_fits : (c : Parts) → InRange c → fits c.nodes c.edges ≡ true
in_range_fits c h =
    and_from _ _ (and_from _ _ (and_from _ _ (le-leb 2 (length c.nodes) h.nodes_low) (le-leb (length c.nodes) 32 h.nodes_high)) (and_from _ _ (le-leb 1 (length c.edges) h.edges_low) (le-leb (length c.edges) 64 h.edges_high)))
    (and_from _ _ (all-fit node_fits (λ x. upto 63 x.activity) c.nodes h.nodes) (all-fit (edge_fits (length c.nodes)) (edge-fits (length c.nodes)) c.edges h.edges))

-- a chart has at most 32 nodes and 64 edges
pub counts-low : (ns : List Node) (es : List RawEdge) → fits ns es ≡ true → (length ns ≤ 32) × (length es ≤ 64)
counts-low ns es e = (grind (arith, nat_tests), grind (arith, nat_tests))
