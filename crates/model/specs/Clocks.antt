-- How the clocks ring, and how they follow the relevance of the timed edges. Assumes nothing.
use Rattle.std.specs.Prelude.{ℕ, zero, suc, ◌+◌, ◌-◌, Bool, true, false, cond, ◌&&◌, List, [], ◌∷◌, ◌++◌, length, is_some, Some, None, filter, Option, ◌==◌, nat_le, nat_lt}
use Rattle.std.specs.List.{list_all, list_any}
use Rattle.bag.specs.Records.{put_in, first_with, without_first}
use Rattle.model.specs.Ranks.{clock_before, clock_tagged}
use Rattle.model.specs.declared.clock.ClockState.{ClockState}
use Rattle.model.specs.declared.clock.ClockState.TheVariants.{Running, Spent}
use Rattle.model.specs.declared.clock.Clock.{Clock}
use Rattle.model.specs.Graph.{Timing, Timed}
use Rattle.model.specs.Graph.Timing.{after, fixed}

-- the clocks of an edge, those of them that are spent, and those that run
abbrev pub of_edge : ℕ → Clock → Bool
of_edge n c = c.edge == n

abbrev pub spent_of : ℕ → Clock → Bool
spent_of n = clock_tagged (record { edge = n; state = Spent })

abbrev pub running_of : ℕ → Clock → Bool
running_of n = clock_tagged (record { edge = n; state = Running })

abbrev pub count_of : ℕ → List Clock → ℕ
count_of n cs = length (filter (of_edge n) cs)

-- A RING

abbrev pub due_by : ℕ → Clock → Bool
due_by moment c = nat_le c.deadline moment

-- running and due becomes spent, spent stays
abbrev pub rings : ClockState → Bool → Bool
rings Running due = due
rings Spent due = false

abbrev pub spent : Clock → Clock
spent c = record c { state = Spent }

-- the clock that rings, and the clocks after it has
abbrev pub rung : ℕ → List Clock → Option Clock
rung moment [] = None
rung moment (c ∷ cs) = cond (rings c.state (due_by moment c)) (Some c) None

abbrev pub after_ring : ℕ → List Clock → List Clock
after_ring moment [] = []
after_ring moment (c ∷ cs) = cond (rings c.state (due_by moment c)) (put_in clock_before (spent c) cs) (c ∷ cs)

-- THE RELEVANCE

-- one clock less of an edge: the first of its spent ones, or, where it has none, of its running ones
abbrev pub one_less : ℕ → List Clock → List Clock
one_less n cs = cond (is_some (first_with (spent_of n) cs)) (without_first (spent_of n) cs) (without_first (running_of n) cs)

abbrev pub fewer : ℕ → ℕ → List Clock → List Clock
fewer n zero cs = cs
fewer n (suc k) cs = one_less n (fewer n k cs)

abbrev pub more : Clock → ℕ → List Clock → List Clock
more c zero cs = cs
more c (suc k) cs = put_in clock_before c (more c k cs)

abbrev pub deadline_of : ℕ → Timing → ℕ
deadline_of moment (after t) = moment + t
deadline_of moment (fixed m) = m

abbrev pub started : ℕ → Timed → Clock
started moment x = record { edge = x.edge; state = Running; deadline = deadline_of moment x.timing }

-- the clocks of one edge follow its relevance, which falls from b to m and rises to e
abbrev pub edge_followed : ℕ → (ℕ → ℕ) → (ℕ → ℕ) → (ℕ → ℕ) → Timed → List Clock → List Clock
edge_followed moment b m e x cs = more (started moment x) (e x.edge - m x.edge) (fewer x.edge (b x.edge - m x.edge) cs)

abbrev pub followed : ℕ → (ℕ → ℕ) → (ℕ → ℕ) → (ℕ → ℕ) → List Timed → List Clock → List Clock
followed moment b m e [] cs = cs
followed moment b m e (x ∷ xs) cs = followed moment b m e xs (edge_followed moment b m e x cs)

-- the edges rise, and an edge is among them
abbrev pub above : ℕ → List Timed → Bool
above n xs = list_all (λ x. nat_lt n x.edge) xs

abbrev pub rising : List Timed → Bool
rising [] = true
rising (x ∷ xs) = above x.edge xs && rising xs

abbrev pub is_timed : List Timed → ℕ → Bool
is_timed xs n = list_any (λ x. x.edge == n) xs

-- the clocks that an edge has by a relevance: as many as that if it is timed, else none
abbrev pub expected : List Timed → (ℕ → ℕ) → ℕ → ℕ
expected xs b n = cond (is_timed xs n) (b n) 0

-- the order in which an edge's clocks leave: the spent ones, then the running ones, each as the bag has them
abbrev pub in_turn : ℕ → List Clock → List Clock
in_turn n cs = filter (spent_of n) cs ++ filter (running_of n) cs
