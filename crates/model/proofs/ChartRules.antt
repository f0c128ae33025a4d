-- Every chart that exists keeps what the law of runs uses. Assumes nothing.
use Rattle.std.proofs.Common.{◌≡◌, ℕ, zero, suc, ◌+◌, ◌/◌, ◌%◌, ◌^◌, ◌<◌, ◌≤◌, Bool, true, false, cond, not, ◌&&◌, ◌||◌, List, [], ◌∷◌, length, take, map, is_some, None, ◌==◌, nat_lt, nat_le, count_ones, refl, sym, ap, ◌∙◌, subst, ⊎_elim, arith}
use Rattle.std.proofs.Math.ListN.{get_or-map}
use Rattle.std.proofs.Math.Seq.{take-length}
use Rattle.std.proofs.Math.Nat.{div-one, div-div-eq-div-mul, pow-suc}
use Rattle.std.specs.List.{list_all, enumerate_from}
use Rattle.std.proofs.lemmas.Bool.{and_parts, eqb-true, ltb-true, true_from_ne_false, cases_lt}
use Rattle.std.proofs.lemmas.Bool.Decides.{nat_tests}
use Rattle.std.proofs.lemmas.List.{length-map}
use Rattle.std.proofs.lemmas.List.Folds.{list_all_at, list_any_at}
use Rattle.std.proofs.lemmas.List.FromFn.{length-enumerate_from, get_or-enumerate_from}
use Rattle.std.proofs.lemmas.List.Sums.{sum_by-cons, sum_by_more}
use Rattle.std.proofs.lemmas.Nat.{ones_le_self}
use Rattle.layout.specs.Sets.{member}
use Rattle.layout.specs.Fits.{set_fits}
use Rattle.layout.specs.declared.parts.Node.{Node}
use Rattle.layout.specs.declared.parts.NodeSet.{NodeSet}
use Rattle.layout.specs.declared.parts.RawEdge.{RawEdge}
use Rattle.chart.specs.declared.edge.Cause.{Cause}
use Rattle.chart.specs.declared.edge.Cause.TheVariants.{Plain, Event, After, At}
use Rattle.chart.specs.declared.edge.Edge.{Edge}
use Rattle.chart.specs.declared.rules.Rule.TheVariants.{StartNoAction, StartPlain, ActionPlain, FewTimed}
use Rattle.chart.specs.Edges.{trigger_of, after_of, when_of, raw_of, plain as plain_raw, timed as timed_raw}
use Rattle.chart.specs.Range.{absent_or, guard_fits, within, counted, node_fits, edge_fits, fits}
use Rattle.chart.specs.Rules.{action_in, timed_count, no_edge, Keeps}
use Rattle.chart.specs.Rules as rules
use Rattle.model.specs.Choice.{total}
use Rattle.model.specs.Graph.{Rules, Timed, action, edge_at, graph_of, timed_first, timed_from, timed}

-- SETS OF NODES

halved : (q r : ℕ) → cond (q % 2 == 1) 1 0 + r ≡ 0 → q / 2 ≡ 0 → (q ≡ 0) × (r ≡ 0)
halved q r h d = grind (arith, nat_tests)

no_member : (bits k : ℕ) → total (λ n. cond (member bits n) 1 0) k ≡ 0 → bits / 2 ^ k ≡ 0 → bits ≡ 0
unfolding total
no_member bits zero t h = sym (div-one bits) ∙ h
no_member bits (suc k) t h =
    let low : bits / 2 ^ k / 2 ≡ 0 = div-div-eq-div-mul bits (2 ^ k) 2 ∙ ap (λ v. bits / v) (sym (pow-suc 2 k)) ∙ h in
    let both = halved (bits / 2 ^ k) (total (λ n. cond (member bits n) 1 0) k) t low in
    no_member bits k both.1 both.0

-- a set in range of k nodes has one of them
some_member : (k : ℕ) (s : NodeSet) → set_fits k s ≡ true → 1 ≤ total (λ n. cond (member s.bits n) 1 0) k
some_member k s h =
    let one = and_parts (nat_lt 0 (count_ones s.bits)) (nat_le (count_ones s.bits) 4 && s.bits / 2 ^ k == 0) h in
    let two = and_parts (nat_le (count_ones s.bits) 4) (s.bits / 2 ^ k == 0) one.1 in
    ⊎_elim
    (λ lt. let none : s.bits ≡ 0 = no_member s.bits k (omega arith) (eqb-true _ _ two.1) in absurd (omega (arith, none, ones_le_self s.bits, ltb-true _ _ one.0)))
    (λ ge. ge)
    (cases_lt (total (λ n. cond (member s.bits n) 1 0) k) 1)

sixth : (a b c d e f g : Bool) → (a && (b && (c && (d && (e && (f && g)))))) ≡ true → f ≡ true
sixth a b c d e f g h =
    let one = and_parts a (b && (c && (d && (e && (f && g))))) h in
    let two = and_parts b (c && (d && (e && (f && g)))) one.1 in
    let three = and_parts c (d && (e && (f && g))) two.1 in
    let four = and_parts d (e && (f && g)) three.1 in
    let five = and_parts e (f && g) four.1 in
    (and_parts f g five.1).0

sources_in : (k : ℕ) (x : RawEdge) → edge_fits k x ≡ true → set_fits k x.sources ≡ true
sources_in k x h =
    sixth (within 0 31 x.trigger) (within 1 100000000 x.after) (within 0 4000000000 x.when) (absent_or (guard_fits k) x.guard) (within 0 31 x.send) (set_fits k x.sources) (set_fits k x.targets) h

-- CAUSES

plain_cause : (x : Cause) → (not (is_some (trigger_of x)) && (not (is_some (after_of x)) && not (is_some (when_of x)))) ≡ true → x ≡ Plain
plain_cause Plain h = refl
plain_cause (Event v) h = absurd cc
plain_cause (After t) h = absurd cc
plain_cause (At m) h = absurd cc

kept_both : (p a b : Bool) → (p && not (a && b)) ≡ false → p ≡ true → a ≡ true
kept_both true true b h k = refl
kept_both true false b h k = absurd cc
kept_both false a b h k = absurd cc

kept_one : (p a : Bool) → (p && not a) ≡ false → p ≡ true → a ≡ true
kept_one true true h k = refl
kept_one true false h k = absurd cc
kept_one false a h k = absurd cc

-- TIMED EDGES

one_more : (t : Bool) (n m : ℕ) → m ≡ n + cond t 1 0 → (t && n == 16) ≡ false → n ≤ 16 → m ≤ 16
one_more t n m e h l = grind (arith, nat_tests)

capped : (es : List RawEdge) → ((k : ℕ) → k < length es → (timed_raw (rules.edge_at es k) && timed_count (take k es) == 16) ≡ false) → (k : ℕ) → k ≤ length es → timed_count (take k es) ≤ 16
capped es h zero l = omega arith
capped es h (suc k) l =
    let next : suc k ≡ k + 1 = omega arith in
    one_more (timed_raw (rules.edge_at es k)) (timed_count (take k es)) (timed_count (take (suc k) es))
    (ap (λ j. timed_count (take j es)) next ∙ sum_by_more (λ e. cond (timed_raw e) 1 0) es k no_edge (omega arith))
    (h k (omega arith))
    (capped es h k (omega arith))

timed_one : (e : ℕ) (x : Cause) (ts : List Timed) → length (timed_first e x ts) ≡ cond (is_some (after_of x) || is_some (when_of x)) 1 0 + length ts
timed_one e Plain ts = omega arith
timed_one e (Event v) ts = omega arith
timed_one e (After t) ts = omega arith
timed_one e (At m) ts = omega arith

timed_length : (f : ℕ → Cause) (es : List Edge) (j : ℕ) → ((i : ℕ) → i < length es → f (j + i) ≡ (edge_at es i).cause) → length (timed_from f (length es) j) ≡ timed_count (map raw_of es)
timed_length f [] j h = refl
timed_length f (x ∷ xs) j h =
    let here : f j ≡ x.cause = ap f (let e : j ≡ j + 0 = omega arith in e) ∙ h 0 (omega arith) in
    let rest = timed_length f xs (suc j) (λ i l. ap f (let e : suc j + i ≡ j + suc i = omega arith in e) ∙ h (suc i) (omega arith)) in
    omega (
      arith,
      ap (λ k. length (timed_first j k (timed_from f (length xs) (suc j)))) here,
      timed_one j x.cause (timed_from f (length xs) (suc j)),
      sum_by-cons (λ e. cond (timed_raw e) 1 0) (raw_of x) (map raw_of xs),
      rest,
    )

-- A CHART

module _ (ns : List Node) (es : List Edge) (in_range : fits ns (map raw_of es) ≡ true) (keeps : Keeps ns (map raw_of es)) where
  many : length (map raw_of es) ≡ length es
  many = length-map es raw_of

  among : (e : ℕ) → e < length es → e < length (map raw_of es)
  among e l = omega (arith, many)

  raw_at : (e : ℕ) → rules.edge_at (map raw_of es) e ≡ raw_of (edge_at es e)
  raw_at e = get_or-map raw_of es e _

  ranges : (counted ns (map raw_of es) ≡ true) × ((list_all node_fits ns && list_all (edge_fits (length ns)) (map raw_of es)) ≡ true)
  ranges = and_parts _ _ in_range

  edges_fit : list_all (edge_fits (length ns)) (map raw_of es) ≡ true
  edges_fit = (and_parts _ _ ranges.1).1

  edge_fit : (e : ℕ) → e < length es → edge_fits (length ns) (raw_of (edge_at es e)) ≡ true
  edge_fit e l =
      true_from_ne_false _
      (λ no.
      let out : list_all (edge_fits (length ns)) (map raw_of es) ≡ false = list_all_at (edge_fits (length ns)) (map raw_of es) e no_edge (among e l) (ap (edge_fits (length ns)) (raw_at e) ∙ no) in
      let all = edges_fit in
      let h : true ≡ false = sym all ∙ out in
      absurd cc)

  sources_fit : (e : ℕ) → e < length es → set_fits (length ns) (edge_at es e).sources ≡ true
  sources_fit e l = sources_in (length ns) (raw_of (edge_at es e)) (edge_fit e l)

  start_plain : (e : ℕ) → e < length es → member (edge_at es e).sources.bits 0 ≡ true → (edge_at es e).cause ≡ Plain
  start_plain e l h =
      let kept = subst (λ (x : RawEdge). (member x.sources.bits 0 && not (plain_raw x && x.sources.bits == 1)) ≡ false) (raw_at e) (keeps StartPlain e (among e l)) in
      plain_cause (edge_at es e).cause (kept_both _ _ _ kept h)

  action_among : (bits n : ℕ) → n < length ns → action (graph_of ns es) n ≡ true → member bits n ≡ true → action_in ns bits ≡ true
  action_among bits n l a h =
      let d : Node = record { activity = None } in
      let at = get_or-enumerate_from 0 ns n (0, d) l in
      let zero_more : 0 + n ≡ n = omega arith in
      list_any_at (λ m. is_some m.1.activity && member bits m.0) (enumerate_from 0 ns) n (0, d) (omega (arith, length-enumerate_from 0 ns))
      (ap (λ (m : ℕ × Node). is_some m.1.activity && member bits m.0) at ∙ grind (arith, a, h, zero_more))

  action_plain : (e n : ℕ) → e < length es → n < length ns → member (edge_at es e).sources.bits n ≡ true → action (graph_of ns es) n ≡ true → (edge_at es e).cause ≡ Plain
  action_plain e n l m h a =
      let kept = subst (λ (x : RawEdge). (action_in ns x.sources.bits && not (plain_raw x)) ≡ false) (raw_at e) (keeps ActionPlain e (among e l)) in
      plain_cause (edge_at es e).cause (kept_one _ _ kept (action_among (edge_at es e).sources.bits n m a h))

  few_timed : length (timed (graph_of ns es)) ≤ 16
  few_timed =
      let cap = capped (map raw_of es) (keeps FewTimed) (length (map raw_of es)) (omega arith) in
      let all = ap timed_count (take-length (map raw_of es)) in
      omega (arith, cap, all, timed_length (λ e. (edge_at es e).cause) es 0 (λ i l. ap (λ k. (edge_at es k).cause) (let e : 0 + i ≡ i = omega arith in e)))

  pub rules_of_chart : Rules (graph_of ns es)
  rules_of_chart = record {
    small = (grind (arith, nat_tests, ranges.0, many), grind (arith, nat_tests, ranges.0, many));
    starts = grind (arith, nat_tests, ranges.0);
    sourced = λ e l. some_member (length ns) (edge_at es e).sources (sources_fit e l);
    waits_first = keeps StartNoAction 0 (grind (arith, nat_tests, ranges.0));
    plain_first = start_plain;
    plain = action_plain;
    few = few_timed;
  }
