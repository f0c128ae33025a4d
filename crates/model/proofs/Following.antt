-- How the clocks of all the timed edges follow their relevance. Assumes nothing.
use Rattle.std.proofs.Common.{◌≡◌, ℕ, zero, suc, ◌+◌, ◌-◌, ◌*◌, ◌<◌, ◌≤◌, Bool, true, false, cond, not, ◌&&◌, List, [], ◌∷◌, ◌++◌, length, take, get_or, filter, eqb, ltb, refl, ap, ◌∙◌, arith}
use Rattle.std.specs.List.{AllByRecursion}
use Rattle.std.proofs.lemmas.List.{take_more, nil_from_length}
use Rattle.std.proofs.lemmas.List.Filters.{length-filter_both}
use Rattle.std.proofs.lemmas.Bool.{and_parts, and_from, and_right, eq-eqb, eqb-true}
use Rattle.std.proofs.lemmas.Bool.Decides.{nat_tests}
use Rattle.bag.specs.Records.{in_order}
use Rattle.model.specs.Ranks.{clock_before, clock_tagged, same_state}
use Rattle.model.specs.Clocks.{of_edge, spent_of, running_of, count_of, fewer, more, started, edge_followed, followed, above, rising, is_timed, expected}
use Rattle.model.specs.ClockLaws.{Counted, FallThenRise, EdgeFollowed, Followed, ByDeadline, LawsOfFollowing, by_deadline}
use Rattle.model.specs.Graph.{Timed}
use Rattle.model.specs.declared.clock.Clock.{Clock}
use Rattle.model.specs.declared.clock.ClockState.{ClockState}
use Rattle.model.specs.declared.clock.ClockState.TheVariants.{Running, Spent}
use Rattle.model.proofs.Filters.{in_order_filter}
use Rattle.model.proofs.Falls.{count_fewer, filter_fewer, spent_fewer, running_fewer, order_fewer, fallen}
use Rattle.model.proofs.Rises.{length_filter_more, length_more, filter_more_no, filter_rise, order_more}

-- THE ORDER OF THE EDGES

-- an edge below all of the list is not in it
above_not_timed : (n : ℕ) (xs : List Timed) → above n xs ≡ true → is_timed xs n ≡ false
above_not_timed n [] a = refl
above_not_timed n (x ∷ xs) a = grind (arith, nat_tests, above_not_timed n xs)

-- the first edges of a list that rises rise, and have no edge that the list lacks
above_take : (i n : ℕ) (xs : List Timed) → above n xs ≡ true → above n (take i xs) ≡ true
above_take zero n xs a = refl
above_take (suc i) n [] a = refl
above_take (suc i) n (x ∷ xs) a = grind (arith, above_take i n xs)

rising_take : (i : ℕ) (xs : List Timed) → rising xs ≡ true → rising (take i xs) ≡ true
rising_take zero xs r = refl
rising_take (suc i) [] r = refl
rising_take (suc i) (x ∷ xs) r = grind (arith, above_take i x.edge xs, rising_take i xs)

timed_take : (i n : ℕ) (xs : List Timed) → is_timed xs n ≡ false → is_timed (take i xs) n ≡ false
timed_take zero n xs h = refl
timed_take (suc i) n [] h = refl
timed_take (suc i) n (x ∷ xs) h = grind (arith, timed_take i n xs)

-- no clock is of two edges
edges_apart : (k n : ℕ) → eqb k n ≡ false → (c : Clock) → of_edge k c ≡ true → of_edge n c ≡ false
edges_apart k n h c e = grind (arith, nat_tests)

-- no clock of another edge passes the test
abbrev Only : ℕ → (Clock → Bool) → Type 0
Only n p = (c : Clock) → of_edge n c ≡ false → p c ≡ false

part_only : (n : ℕ) (q : Clock → Bool) → Only n (λ c. of_edge n c && q c)
part_only n q c h = grind arith

-- an edge has the same clocks in both lists, also of those that pass a test
abbrev Same : ℕ → List Clock → List Clock → Type 0
Same n cs ds = (q : Clock → Bool) → filter (λ c. of_edge n c && q c) cs ≡ filter (λ c. of_edge n c && q c) ds

-- an edge below all of the list is none of them
all_above : (n : ℕ) (P Q : Timed → Type 0) → ((x : Timed) → eqb n x.edge ≡ false → P x → Q x) → (xs : List Timed) → above n xs ≡ true → AllByRecursion P xs → AllByRecursion Q xs
all_above n P Q f [] a h = tt
all_above n P Q f (x ∷ xs) a h =
    let parts = and_parts (ltb n x.edge) (above n xs) a in
    let apart : eqb n x.edge ≡ false = grind (arith, nat_tests) in
    (f x apart h.0, all_above n P Q f xs parts.1 h.1)

-- ONE EDGE

module _ (moment : ℕ) (b m e : ℕ → ℕ) where
  -- an edge has as many clocks again as it is relevant
  count_edge : (x : Timed) (n : ℕ) (cs : List Clock) → m n ≤ b n → m n ≤ e n → eqb x.edge n ≡ true → count_of n cs ≡ b n → count_of n (edge_followed moment b m e x cs) ≡ e n
  count_edge x n cs f r q h =
      let k = x.edge in
      let same : k ≡ n = eqb-true k n q in
      let more_by = rw same at (length_filter_more (started moment x) (of_edge n) q (e n - m n) (fewer n (b n - m n) cs)) in
      rw same (omega (arith, count_fewer n (b n - m n) cs))

  -- and the clocks of another edge stay
  other_edge : (x : Timed) (n : ℕ) (p : Clock → Bool) → Only n p → eqb x.edge n ≡ false → (cs : List Clock) → filter p (edge_followed moment b m e x cs) ≡ filter p cs
  other_edge x n p only h cs =
      let k = x.edge in
      let apart : (c : Clock) → of_edge k c ≡ true → p c ≡ false = λ c g. only c (edges_apart k n h c g) in
      filter_more_no (started moment x) p (apart (started moment x) (eq-eqb k k refl)) (e k - m k) (fewer k (b k - m k) cs) ∙ filter_fewer k p apart (b k - m k) cs

  order_edge : (x : Timed) (cs : List Clock) → in_order clock_before cs ≡ true → in_order clock_before (edge_followed moment b m e x cs) ≡ true
  order_edge x cs o =
      let n = x.edge in
      order_more (started moment x) (e n - m n) (fewer n (b n - m n) cs) (order_fewer n (b n - m n) cs o)

  edge_alone : (x : Timed) (cs : List Clock) → in_order clock_before cs ≡ true → EdgeFollowed moment b m e cs (edge_followed moment b m e x cs) x
  edge_alone x cs o =
      let n = x.edge in
      let mid = fewer n (b n - m n) cs in
      record {
        spent = filter_more_no (started moment x) (spent_of n) (and_right (eqb n n) false refl) (e n - m n) mid ∙ spent_fewer n (b n - m n) cs;
        running = filter_rise (started moment x) (running_of n) (and_from (eqb n n) true (eq-eqb n n refl) refl) (e n - m n) mid (order_fewer n (b n - m n) cs o)
            ∙ ap (more (started moment x) (e n - m n)) (running_fewer n (b n - m n) cs);
      }

  -- ALL EDGES

  -- the last edge follows last
  followed_push : (xs : List Timed) (x : Timed) (cs : List Clock) → followed moment b m e (xs ++ (x ∷ [])) cs ≡ edge_followed moment b m e x (followed moment b m e xs cs)
  followed_push [] x cs = refl
  followed_push (y ∷ ys) x cs = followed_push ys x (edge_followed moment b m e y cs)

  order_followed : (xs : List Timed) (cs : List Clock) → in_order clock_before cs ≡ true → in_order clock_before (followed moment b m e xs cs) ≡ true
  order_followed [] cs o = o
  order_followed (x ∷ xs) cs o = order_followed xs (edge_followed moment b m e x cs) (order_edge x cs o)

  other_edges : (n : ℕ) (p : Clock → Bool) → Only n p → (xs : List Timed) (cs : List Clock) → is_timed xs n ≡ false → filter p (followed moment b m e xs cs) ≡ filter p cs
  other_edges n p only [] cs h = refl
  other_edges n p only (x ∷ xs) cs h = grind (arith, other_edges n p only xs (edge_followed moment b m e x cs), other_edge x n p only)

  -- what the edges before it and behind it leave of an edge's clocks is what was there
  edge_among : (x : Timed) (bs cs ds es : List Clock) → Same x.edge cs bs → Same x.edge es ds → EdgeFollowed moment b m e cs ds x → EdgeFollowed moment b m e bs es x
  edge_among x bs cs ds es earlier later f =
      let spent : filter (spent_of x.edge) cs ≡ filter (spent_of x.edge) bs = earlier (λ c. same_state c.state Spent) in
      let running : filter (running_of x.edge) cs ≡ filter (running_of x.edge) bs = earlier (λ c. same_state c.state Running) in
      record {
        spent = later (λ c. same_state c.state Spent) ∙ f.spent ∙ rw spent;
        running = later (λ c. same_state c.state Running) ∙ f.running ∙ rw (spent, running);
      }

  each_edge : (xs : List Timed) (cs : List Clock) → rising xs ≡ true → in_order clock_before cs ≡ true → AllByRecursion (EdgeFollowed moment b m e cs (followed moment b m e xs cs)) xs
  each_edge [] cs r o = tt
  each_edge (x ∷ xs) cs r o =
      let parts = and_parts (above x.edge xs) (rising xs) r in
      let one = edge_followed moment b m e x cs in
      let end = followed moment b m e xs one in
      let not_again = above_not_timed x.edge xs parts.0 in
      let rest = each_edge xs one parts.1 (order_edge x cs o) in (
        edge_among x cs cs one end (λ q. refl) (λ q. other_edges x.edge _ (part_only x.edge q) xs one not_again) (edge_alone x cs o),
        all_above x.edge (EdgeFollowed moment b m e one end) (EdgeFollowed moment b m e cs end)
            (λ y apart f. edge_among y cs one end end (λ q. other_edge x y.edge _ (part_only y.edge q) apart cs) (λ q. refl) f) xs parts.0 rest,
      )

  -- each edge has as many clocks again as it is relevant, and one that is not timed as many as before
  module _ (falls : (n : ℕ) → m n ≤ b n) (rises : (n : ℕ) → m n ≤ e n) where
    count_followed : (xs : List Timed) (cs : List Clock) (n : ℕ) → rising xs ≡ true → (is_timed xs n ≡ true → count_of n cs ≡ b n)
        → count_of n (followed moment b m e xs cs) ≡ cond (is_timed xs n) (e n) (count_of n cs)
    count_followed [] cs n r h = refl
    count_followed (x ∷ xs) cs n r h =
        let one = edge_followed moment b m e x cs in
        grind (
          arith,
          nat_tests,
          count_followed xs one n,
          count_edge x n cs (falls n) (rises n),
          other_edge x n (of_edge n) (λ c g. g),
          above_not_timed n xs,
        )

    counted : (xs : List Timed) (cs : List Clock) → rising xs ≡ true → Counted xs b cs → Counted xs e (followed moment b m e xs cs)
    counted xs cs r h n = grind (arith, h n, count_followed xs cs n r)

    -- where only the first edges have followed, an edge has no more clocks than it was relevant before or is after
    within : (xs : List Timed) (cs : List Clock) (i : ℕ) → rising xs ≡ true → Counted xs b cs → ((n : ℕ) → b n ≤ 64) → ((n : ℕ) → e n ≤ 64)
        → (n : ℕ) → count_of n (followed moment b m e (take i xs) cs) ≤ expected xs (λ _. 64) n
    within xs cs i r h low high n = grind (arith, h n, low n, high n, timed_take i n xs, count_followed (take i xs) cs n (rising_take i xs r))

-- HOW MANY CLOCKS THERE ARE AT MOST

-- without the clocks of one edge
count_without : (n k : ℕ) (cs : List Clock) → count_of k (filter (λ c. not (of_edge n c)) cs) ≡ cond (eqb n k) 0 (count_of k cs)
count_without n k [] = grind arith
count_without n k (c ∷ cs) = grind (arith, nat_tests, count_without n k cs)

-- at most 64 of each edge, and none of another
length_within : (xs : List Timed) (cs : List Clock) → ((n : ℕ) → count_of n cs ≤ expected xs (λ _. 64) n) → length cs ≤ length xs * 64
length_within [] [] h = omega arith
length_within [] (c ∷ cs) h = grind (arith, h c.edge, eq-eqb c.edge c.edge refl)
length_within (x ∷ xs) cs h =
    let n = x.edge in
    let rest = filter (λ c. not (of_edge n c)) cs in
    let left : (k : ℕ) → count_of k rest ≤ expected xs (λ _. 64) k = λ k. grind (arith, count_without n k cs, h k) in
    grind (arith, h n, eq-eqb n n refl, length_within xs rest left, length-filter_both (of_edge n) (λ c. not (of_edge n c)) (λ _. refl) cs)

module _ (moment : ℕ) (b m e : ℕ → ℕ) (xs : List Timed) (cs : List Clock) (turn : FallThenRise xs b m e) (agree : Counted xs b cs) where
  fits : (i : ℕ) → length (followed moment b m e (take i xs) cs) ≤ 1024
  fits i =
      let few = turn.few in
      let most = within moment b m e turn.falls turn.rises xs cs i turn.rise agree turn.low turn.high in
      omega (arith, length_within xs (followed moment b m e (take i xs) cs) most)

  -- a rise ends within what fits once the edge has followed
  rises_fit : (k j : ℕ) (d : Timed) → k < length xs → j ≤ e (get_or xs k d).edge - m (get_or xs k d).edge
      → length (more (started moment (get_or xs k d)) j (fewer (get_or xs k d).edge (b (get_or xs k d).edge - m (get_or xs k d).edge) (followed moment b m e (take k xs) cs))) ≤ 1024
  rises_fit k j d l r =
      let x = get_or xs k d in
      let n = x.edge in
      let mid = fewer n (b n - m n) (followed moment b m e (take k xs) cs) in
      let next : followed moment b m e (take (k + 1) xs) cs ≡ edge_followed moment b m e x (followed moment b m e (take k xs) cs) =
      ap (λ ys. followed moment b m e ys cs) (take_more xs k d l) ∙ followed_push moment b m e (take k xs) x cs in
      omega (arith, length_more (started moment x) j mid, length_more (started moment x) (e n - m n) mid, ap length next, fits (k + 1))

  none_expected : (ds : List Clock) → Counted xs e ds → (n : ℕ) → e n ≡ 0 → filter (of_edge n) ds ≡ []
  none_expected ds h n z = nil_from_length (filter (of_edge n) ds) (grind (arith, h n))

  follows : in_order clock_before cs ≡ true → Followed moment b m e xs cs
  follows o =
      let now = counted moment b m e turn.falls turn.rises xs cs turn.rise agree in
      record {
        counted = now;
        none = none_expected (followed moment b m e xs cs) now;
        each = each_edge moment b m e xs cs turn.rise o;
        others = λ n. other_edges moment b m e n (of_edge n) (λ c g. g) xs cs;
        fits = fits;
        rises = rises_fit;
        ordered = order_followed moment b m e xs cs o;
      }

-- two clocks of one state rank by deadline
by_deadlines : (n : ℕ) (s : ClockState) (x y : Clock) → clock_tagged (record { edge = n; state = s }) x ≡ true → clock_tagged (record { edge = n; state = s }) y ≡ true
    → clock_before y x ≡ false → by_deadline y x ≡ false
by_deadlines n s x y h k a = grind (arith, nat_tests)

sorted : (n : ℕ) (cs : List Clock) → in_order clock_before cs ≡ true → ByDeadline n cs
sorted n cs o = record {
  spent = in_order_filter (spent_of n) clock_before by_deadline (by_deadlines n Spent) cs o;
  running = in_order_filter (running_of n) clock_before by_deadline (by_deadlines n Running) cs o;
}

pub following : LawsOfFollowing
following = record { follows = λ moment b m e xs cs turn o agree. follows moment b m e xs cs turn agree o; falls = fallen; sorted = sorted }
