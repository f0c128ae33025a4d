-- The timed edges of a chart, and relevance. Assumes nothing.
use Rattle.std.proofs.Common.{◌≡◌, ℕ, zero, suc, ◌+◌, ◌<◌, ◌≤◌, Bool, true, false, cond, List, ◌≢◌, ◌⊎◌, inr, refl, subst, ⊎_elim, arith}
use Rattle.std.proofs.lemmas.Bool.Decides.{nat_tests}
use Rattle.chart.specs.declared.edge.Cause.{Cause}
use Rattle.chart.specs.declared.edge.Cause.TheVariants.{Plain, Event, After, At}
use Rattle.model.specs.declared.clock.Clock.{Clock}
use Rattle.model.specs.Choice.{total}
use Rattle.model.specs.Graph.{Graph, Rules, Timed, action, is_clocked, timed_first, timed_from, timed, relevance}
use Rattle.model.specs.Clocks.{above, rising, is_timed}
use Rattle.model.specs.ClockLaws.{Counted}
use Rattle.model.proofs.Relevance.{relevant}

-- an edge before the timed edges behind it
above_first : (v : Cause) (e j : ℕ) (xs : List Timed) → j < e → above j xs ≡ true → above j (timed_first e v xs) ≡ true
above_first Plain e j xs h a = a
above_first (Event w) e j xs h a = a
above_first (After t) e j xs h a = grind (arith, nat_tests)
above_first (At m) e j xs h a = grind (arith, nat_tests)

rising_first : (v : Cause) (e : ℕ) (xs : List Timed) → above e xs ≡ true → rising xs ≡ true → rising (timed_first e v xs) ≡ true
rising_first Plain e xs a r = r
rising_first (Event w) e xs a r = r
rising_first (After t) e xs a r = grind arith
rising_first (At m) e xs a r = grind arith

first_or_behind : (v : Cause) (e n : ℕ) (xs : List Timed) → is_timed (timed_first e v xs) n ≡ true → ((e ≡ n) × (is_clocked v ≡ true)) ⊎ (is_timed xs n ≡ true)
first_or_behind Plain e n xs t = inr t
first_or_behind (Event w) e n xs t = inr t
first_or_behind (After d) e n xs t = grind (arith, nat_tests)
first_or_behind (At m) e n xs t = grind (arith, nat_tests)

timed_above : (cause : ℕ → Cause) (k e j : ℕ) → j < e → above j (timed_from cause k e) ≡ true
timed_above cause zero e j h = refl
timed_above cause (suc k) e j h = above_first (cause e) e j (timed_from cause k (suc e)) h (timed_above cause k (suc e) j (omega arith))

pub timed_rising : (cause : ℕ → Cause) (k e : ℕ) → rising (timed_from cause k e) ≡ true
timed_rising cause zero e = refl
timed_rising cause (suc k) e = rising_first (cause e) e (timed_from cause k (suc e)) (timed_above cause k (suc e) e (omega arith)) (timed_rising cause k (suc e))

timed_cause : (cause : ℕ → Cause) (k e n : ℕ) → is_timed (timed_from cause k e) n ≡ true → (is_clocked (cause n) ≡ true) × (n < e + k)
timed_cause cause zero e n h = absurd (grind arith)
timed_cause cause (suc k) e n h =
    ⊎_elim
    (λ f. (subst (λ i. is_clocked (cause i) ≡ true) f.0 f.1, omega (arith, f.0)))
    (λ t. let r = timed_cause cause k (suc e) n t in (r.0, omega (arith, r.1)))
    (first_or_behind (cause e) e n (timed_from cause k (suc e)) h)

-- no edge that is timed is plain
not_plain : (v : Cause) → is_clocked v ≡ true → v ≡ Plain → ⊥
not_plain v h e = grind arith

module _ (c : Graph) (rules : Rules c) where
  -- a timed edge leaves no action node, nor the first node
  pub timed_waits : (e n : ℕ) → is_timed (timed c) e ≡ true → n < c.nodes → c.source e n ≡ true → action c n ≡ false
  timed_waits e n t l s = let k = timed_cause c.cause c.edges 0 e t in grind (arith, rules.plain e n, not_plain (c.cause e) k.0)

  timed_not_first : (e : ℕ) → is_timed (timed c) e ≡ true → c.source e 0 ≡ false
  timed_not_first e t = let k = timed_cause c.cause c.edges 0 e t in grind (arith, rules.plain_first e, not_plain (c.cause e) k.0)

-- RELEVANCE

module _ (c : Graph) where
  pub relevance_le : (f g : ℕ → ℕ) (e : ℕ) → ((n : ℕ) → n < c.nodes → c.source e n ≡ true → f n ≤ g n) → relevance c f e ≤ relevance c g e
  relevance_le f g e h =
      let a = relevant (c.source e) f 64 c.nodes in
      let b = relevant (c.source e) g 64 c.nodes in
      b.2 (relevance c f e) a.0 (λ n l s. omega (arith, a.1 n l s, h n l s))

  pub relevance_same : (f g : ℕ → ℕ) (e : ℕ) → ((n : ℕ) → n < c.nodes → c.source e n ≡ true → f n ≡ g n) → relevance c f e ≡ relevance c g e
  relevance_same f g e h = omega (arith, relevance_le f g e (λ n l s. omega (arith, h n l s)), relevance_le g f e (λ n l s. omega (arith, h n l s)))

  pub relevance_top : (f : ℕ → ℕ) (e : ℕ) → relevance c f e ≤ 64
  relevance_top f e = (relevant (c.source e) f 64 c.nodes).0

  pub relevance_at : (f : ℕ → ℕ) (e n : ℕ) → n < c.nodes → c.source e n ≡ true → relevance c f e ≤ f n
  relevance_at f e n = (relevant (c.source e) f 64 c.nodes).1 n

-- two relevances that agree on the timed edges
pub counted_as : (xs : List Timed) (b d : ℕ → ℕ) (cs : List Clock) → ((n : ℕ) → is_timed xs n ≡ true → b n ≡ d n) → Counted xs b cs → Counted xs d cs
counted_as xs b d cs h k n = grind (arith, k n, h n)

-- some number has a term
some_term : (s : ℕ → Bool) (m : ℕ) → 1 ≤ total (λ n. cond (s n) 1 0) m → (n : ℕ) × (n < m) × (s n ≡ true)
unfolding total
some_term s zero h = absurd (omega arith)
some_term s (suc m) h = grind (arith, some_term s m)

-- at first no timed edge is relevant, since no token is at a source of one
pub none_relevant : (c : Graph) → Rules c → (f : ℕ → ℕ) → ((n : ℕ) → n ≢ 0 → f n ≡ 0) → (e : ℕ) → is_timed (timed c) e ≡ true → relevance c f e ≡ 0
none_relevant c rules f h e t =
    let k = timed_cause c.cause c.edges 0 e t in
    let s = some_term (c.source e) c.nodes (rules.sourced e (omega arith)) in
    let other : s.0 ≢ 0 = λ z. (let q = timed_not_first c rules e t in let r : c.source e 0 ≡ true = rw z at s.2 in grind arith) in
    omega (arith, relevance_at c f e s.0 s.1 s.2, h s.0 other)
