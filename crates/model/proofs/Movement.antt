-- A case stays sound as an event leaves and as edges are taken. Assumes nothing.
use Rattle.std.proofs.Common.{◌≡◌, ℕ, ◌+◌, ◌<◌, ◌≤◌, true, false, cond, List, [], ◌∷◌, length, Some, None, Option, refl, sym, ap, ◌∙◌, arith}
use Rattle.std.proofs.lemmas.Bool.Decides.{nat_tests}
use Rattle.bag.specs.Records.{tail_of, in_order}
use Rattle.model.specs.declared.event.Event.{Event}
use Rattle.model.specs.declared.event.Event.TheVariants.{Ring}
use Rattle.model.specs.declared.clock.Clock.{Clock}
use Rattle.model.specs.Choice.{total}
use Rattle.model.specs.Ranks.{clock_before}
use Rattle.model.specs.Graph.{Graph, Rules, Timed, entered, timed, relevance}
use Rattle.model.specs.Clocks.{is_timed}
use Rattle.model.specs.ClockLaws.{Counted, FallThenRise, Followed}
use Rattle.model.specs.State.{State, Sound, can_wait, terminates, reports_at, free, available, relevant_to}
use Rattle.model.specs.Steps.{ring_of, event_in, event_of, clocks_routed, routed, leaving, entering, tokens_moved, finished_moved, between, moved, overflow}
use Rattle.model.proofs.Waiting.{reports_cons, all_tail, queued_tail, kept_moved}
use Rattle.model.proofs.Places.{entered_count}
use Rattle.model.proofs.GivenOut.{opens}
use Rattle.model.proofs.TimedEdges.{timed_rising, timed_waits, relevance_le, relevance_same, relevance_top, counted_as}
use Rattle.model.proofs.Following.{following}
use Rattle.model.proofs.Rings.{ringing}

-- AN EVENT LEAVES

ring_no_report : (o : Option Clock) (ev : Event) (n : ℕ) → ring_of o ≡ Some ev → terminates ev n ≡ false
ring_no_report None ev n h = absurd (grind arith)
ring_no_report (Some k) ev n h = let e : Ring k.edge ≡ ev = cc in ap (λ v. terminates v n) (sym e)

-- the reports that waited, and what is routed of them
pub reports_routed : (m : ℕ) (ks : List Clock) (es : List Event) (ev : Event) (n : ℕ) → event_in m ks es ≡ Some ev → reports_at n es ≡ cond (terminates ev n) 1 0 + reports_at n (tail_of es)
reports_routed m ks [] ev n h = rw (ring_no_report _ ev n h) refl
reports_routed m ks (x ∷ xs) ev n h = let e : x ≡ ev = cc in rw (← e) (reports_cons n x xs)

tail_short : (es : List Event) → length (tail_of es) ≤ length es
tail_short [] = omega arith
tail_short (x ∷ xs) = omega arith

ordered_routed : (m : ℕ) (ks : List Clock) (es : List Event) → in_order clock_before ks ≡ true → in_order clock_before (clocks_routed m ks es) ≡ true
ordered_routed m ks [] o = (ringing m ks o).ordered
ordered_routed m ks (x ∷ xs) o = o

counted_routed : (m : ℕ) (ks : List Clock) (es : List Event) (ts : List Timed) (b : ℕ → ℕ) → in_order clock_before ks ≡ true → Counted ts b ks → Counted ts b (clocks_routed m ks es)
counted_routed m ks [] ts b o h = (ringing m ks o).counted ts b h
counted_routed m ks (x ∷ xs) ts b o h = h

module _ (c : Graph) (rules : Rules c) where
  -- the relevance of a timed edge is as it was
  same_relevance : (s : State) (ev : Event) (e : ℕ) → is_timed (timed c) e ≡ true → relevant_to c s e ≡ relevant_to c (routed ev s) e
  same_relevance s ev e t =
      relevance_same c (available c s) (available c (routed ev s)) e (λ n l q. let w = timed_waits c rules e n t l q in rw w refl)

  pub routed_sound : (s : State) (ev : Event) → event_of s ≡ Some ev → Sound c s → Sound c (routed ev s)
  routed_sound s ev h k =
      let r = λ (n : ℕ). reports_routed s.moment s.clocks s.events ev n h in
      record {
        balance = λ n l a. omega (arith, k.balance n l a, r n);
        idle = λ n a. let i = k.idle n a in (i.0, omega (arith, i.1, r n), omega (arith, i.1, i.2, r n));
        clocks = counted_as (timed c) (relevant_to c s) (relevant_to c (routed ev s)) (clocks_routed s.moment s.clocks s.events) (same_relevance s ev)
            (counted_routed s.moment s.clocks s.events (timed c) (relevant_to c s) k.ordered k.clocks);
        ordered = ordered_routed s.moment s.clocks s.events k.ordered;
        queued = queued_tail s.events k.queued;
        all_can_wait = all_tail (λ x. can_wait x ≡ true) s.events k.all_can_wait;
        given = k.given;
        active = k.active;
        rising = k.rising;
        tokens = k.tokens;
        events = omega (arith, tail_short s.events, k.events);
        next = k.next;
        moment = k.moment;
      }

-- EDGES ARE TAKEN

-- there are tokens for the edges
abbrev pub Enough : Graph → List ℕ → State → Type 0
Enough c xs s = (n : ℕ) → n < c.nodes → leaving c xs n ≤ available c s n

pub record Fits (c : Graph) (s : State) : Type 0 where
  pub tokens : total s.tokens c.nodes ≤ 64
  pub events : length s.events ≤ 256
  pub next : s.next ≤ 65536

pub fits_all : (c : Graph) (s : State) → overflow c s ≡ None → Fits c s
fits_all c s f = record { tokens = grind (arith, nat_tests); events = grind (arith, nat_tests); next = grind (arith, nat_tests) }

module _ (c : Graph) where
  -- no more is available than there are tokens
  pub available_le : (s : State) → Sound c s → (n : ℕ) → n < c.nodes → available c s n ≤ s.tokens n
  available_le s k n l = grind (arith, k.balance n l)

  -- tokens are neither lost nor made
  pub conserved : (s : State) (xs : List ℕ) → Sound c s → Enough c xs s → (n : ℕ) → n < c.nodes → tokens_moved c xs s n + leaving c xs n ≡ s.tokens n + entering c xs n
  conserved s xs k enough n l = omega (arith, enough n l, available_le s k n l)

  module _ (rules : Rules c) (s : State) (xs : List ℕ) where
    -- relevance falls as tokens leave, and rises as they enter
    moved_turn : FallThenRise (timed c) (relevant_to c s) (relevance c (between c xs s)) (relevance c (free c (tokens_moved c xs s) (finished_moved c xs s)))
    moved_turn = record {
      falls = λ e. relevance_le c (between c xs s) (available c s) e (λ n l q. omega arith);
      rises = λ e. relevance_le c (between c xs s) (free c (tokens_moved c xs s) (finished_moved c xs s)) e (λ n l q. grind arith);
      low = λ e. relevance_top c (available c s) e;
      high = λ e. relevance_top c (free c (tokens_moved c xs s) (finished_moved c xs s)) e;
      rise = timed_rising c.cause c.edges 0;
      few = rules.few;
    }

    module _ (k : Sound c s) (enough : Enough c xs s) where
      clocks_follow : Followed s.moment (relevant_to c s) (relevance c (between c xs s)) (relevant_to c (moved c xs s)) (timed c) s.clocks
      clocks_follow = following.follows s.moment (relevant_to c s) (relevance c (between c xs s)) (relevant_to c (moved c xs s)) (timed c) s.clocks moved_turn k.ordered k.clocks

      pub moved_sound : overflow c (moved c xs s) ≡ None → Sound c (moved c xs s)
      moved_sound f =
          let fit = fits_all c (moved c xs s) f in
          let given = opens c s.next (entered c xs) s.orders k.given k.active k.rising in
          let events = kept_moved c xs (entered c xs) s.events in
          record {
            balance = λ n l a. grind (arith, k.balance n l a, enough n l, given.at n, events.reports n, entered_count c n xs l);
            idle = λ n a. let i = k.idle n a in (grind (arith, i.0, given.at n), events.reports n ∙ i.1, omega (arith, i.2));
            clocks = clocks_follow.counted;
            ordered = clocks_follow.ordered;
            queued = events.queued k.queued;
            all_can_wait = events.all_can_wait k.all_can_wait;
            given = given.under;
            active = given.active;
            rising = given.rising;
            tokens = fit.tokens;
            events = fit.events;
            next = fit.next;
            moment = k.moment;
          }
