-- What holds of clocks that ring and follow. Assumes nothing.
use Rattle.std.specs.Prelude.{◌≡◌, ℕ, ◌-◌, ◌<◌, ◌≤◌, Bool, true, false, not, List, [], ◌∷◌, ◌++◌, length, get_or, take, drop, Some, None, filter, Option, nat_lt, slice_index_or}
use Rattle.std.specs.List.{AllByRecursion}
use Rattle.bag.specs.Records.{in_order}
use Rattle.model.specs.Ranks.{clock_before}
use Rattle.model.specs.Clocks.{of_edge, spent_of, running_of, count_of, spent, rung, after_ring, fewer, more, started, followed, rising, is_timed, expected, in_turn}
use Rattle.model.specs.declared.clock.ClockState.TheVariants.{Running}
use Rattle.model.specs.declared.clock.Clock.{Clock}
use Rattle.model.specs.Graph.{Timed}

-- each timed edge has as many clocks, running and spent together, as it is relevant, and no other edge has any
abbrev pub Counted : List Timed → (ℕ → ℕ) → List Clock → Type 0
Counted xs b cs = (n : ℕ) → count_of n cs ≡ expected xs b n

-- the earlier deadline stands first
abbrev pub by_deadline : Clock → Clock → Bool
by_deadline x y = nat_lt x.deadline y.deadline

-- what the relevance may be of: at most 64 before and after, and the middle is the lowest
pub record FallThenRise (xs : List Timed) (b m e : ℕ → ℕ) : Type 0 where
  pub falls : (n : ℕ) → m n ≤ b n
  pub rises : (n : ℕ) → m n ≤ e n
  pub low : (n : ℕ) → b n ≤ 64
  pub high : (n : ℕ) → e n ≤ 64
  pub rise : rising xs ≡ true
  pub few : length xs ≤ 16

-- the clocks of one timed edge: so many of the spent ones as it falls by are gone from the front, and of the running ones what is left of the fall;
-- to the running ones that stay so many are put as it rises by
pub record EdgeFollowed (moment : ℕ) (b m e : ℕ → ℕ) (cs ds : List Clock) (x : Timed) : Type 0 where
  pub spent : filter (spent_of x.edge) ds ≡ drop (b x.edge - m x.edge) (filter (spent_of x.edge) cs)
  pub running : filter (running_of x.edge) ds ≡ more (started moment x) (e x.edge - m x.edge)
      (drop (b x.edge - m x.edge - length (filter (spent_of x.edge) cs)) (filter (running_of x.edge) cs))

pub record Followed (moment : ℕ) (b m e : ℕ → ℕ) (xs : List Timed) (cs : List Clock) : Type 0 where
  -- the clocks agree with the relevance again
  pub counted : Counted xs e (followed moment b m e xs cs)
  -- no clock of an edge that is not relevant
  pub none : (n : ℕ) → e n ≡ 0 → filter (of_edge n) (followed moment b m e xs cs) ≡ []
  -- which clocks of each timed edge are there
  pub each : AllByRecursion (EdgeFollowed moment b m e cs (followed moment b m e xs cs)) xs
  -- the clocks of an edge that is not timed stay, in their order
  pub others : (n : ℕ) → is_timed xs n ≡ false → filter (of_edge n) (followed moment b m e xs cs) ≡ filter (of_edge n) cs
  -- no more clocks than slots, also where only some of the edges have been followed, and the next one rises
  pub fits : (k : ℕ) → length (followed moment b m e (take k xs) cs) ≤ 1024
  pub rises : (k j : ℕ) (d : Timed) → k < length xs → j ≤ e (get_or xs k d).edge - m (get_or xs k d).edge
      → length (more (started moment (slice_index_or xs k d)) j (fewer (get_or xs k d).edge (b (get_or xs k d).edge - m (get_or xs k d).edge) (followed moment b m e (take k xs) cs))) ≤ 1024
  -- the order stays
  pub ordered : in_order clock_before (followed moment b m e xs cs) ≡ true

-- a fall: what leaves is a front of the edge's clocks, the spent ones before the running ones; the clocks of the other edges stay
pub record Fallen (n k : ℕ) (cs : List Clock) : Type 0 where
  pub front : in_turn n (fewer n k cs) ≡ drop k (in_turn n cs)
  pub others : filter (λ c. not (of_edge n c)) (fewer n k cs) ≡ filter (λ c. not (of_edge n c)) cs

-- in each state the bag has an edge's clocks by deadline
pub record ByDeadline (n : ℕ) (cs : List Clock) : Type 0 where
  pub spent : in_order by_deadline (filter (spent_of n) cs) ≡ true
  pub running : in_order by_deadline (filter (running_of n) cs) ≡ true

pub record LawsOfFollowing : Type 0 where
  pub follows : (moment : ℕ) (b m e : ℕ → ℕ) (xs : List Timed) (cs : List Clock) → FallThenRise xs b m e → in_order clock_before cs ≡ true → Counted xs b cs → Followed moment b m e xs cs
  pub falls : (n k : ℕ) (cs : List Clock) → Fallen n k cs
  pub sorted : (n : ℕ) (cs : List Clock) → in_order clock_before cs ≡ true → ByDeadline n cs

-- the clock `c` rang: it ran, and was due; no running clock has an earlier deadline; it is spent now, and the others are as they were
pub record Rang (moment : ℕ) (cs : List Clock) (c : Clock) : Type 0 where
  pub running : c.state ≡ Running
  pub due : c.deadline ≤ moment
  pub earliest : AllByRecursion (λ d. d.state ≡ Running → c.deadline ≤ d.deadline) cs
  pub rest : List Clock
  pub was : cs ≡ c ∷ rest
  pub is : after_ring moment cs ≡ filter (λ y. not (clock_before (spent c) y)) rest ++ (spent c ∷ filter (clock_before (spent c)) rest)

-- nothing rang: no running clock is due
pub record NoneDue (moment : ℕ) (cs : List Clock) : Type 0 where
  pub none : AllByRecursion (λ d. d.state ≡ Running → moment < d.deadline) cs
  pub same : after_ring moment cs ≡ cs

abbrev pub RangOrNoneDue : ℕ → List Clock → Option Clock → Type 0
RangOrNoneDue moment cs None = NoneDue moment cs
RangOrNoneDue moment cs (Some c) = Rang moment cs c

pub record Ringing (moment : ℕ) (cs : List Clock) : Type 0 where
  pub rang : RangOrNoneDue moment cs (rung moment cs)
  pub counts : (n : ℕ) → count_of n (after_ring moment cs) ≡ count_of n cs
  pub length : lib.ListN.length (after_ring moment cs) ≡ lib.ListN.length cs
  pub ordered : in_order clock_before (after_ring moment cs) ≡ true
  -- the clocks agree with a relevance as they did
  pub counted : (xs : List Timed) (b : ℕ → ℕ) → Counted xs b cs → Counted xs b (after_ring moment cs)

abbrev pub RingsOnce : Type 0
RingsOnce = (moment : ℕ) (cs : List Clock) → in_order clock_before cs ≡ true → Ringing moment cs
