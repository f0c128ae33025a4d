-- What putting events into a bag keeps. Assumes nothing.
use Rattle.std.proofs.Common.{◌≡◌, ℕ, suc, ◌+◌, Bool, true, false, cond, List, [], ◌∷◌, length, Some, None, Option, refl, ◌∙◌, arith}
use Rattle.std.specs.List.{AllByRecursion}
use Rattle.std.proofs.lemmas.Bool.Decides.{nat_tests}
use Rattle.std.proofs.lemmas.List.Sums.{sum_by-cons}
use Rattle.bag.specs.Records.{put_in, tail_of, in_order}
use Rattle.bag.proofs.Records.{order_put_in}
use Rattle.model.specs.declared.event.Event.{Event}
use Rattle.model.specs.declared.event.Event.TheVariants.{Completion, Node, Named}
use Rattle.model.specs.Ranks.{event_before}
use Rattle.model.specs.Graph.{Graph, waits, watched}
use Rattle.model.specs.State.{terminates, can_wait, reports_at}
use Rattle.model.specs.Steps.{put_if, put_send, sent, arrived}

pub before_asymmetric : (x y : Event) → event_before x y ≡ true → event_before y x ≡ false
before_asymmetric x y h = grind (arith, nat_tests)

pub before_transitive : (x y z : Event) → event_before y x ≡ false → event_before z y ≡ false → event_before z x ≡ false
before_transitive x y z h k = grind (arith, nat_tests)

pub reports_cons : (n : ℕ) (ev : Event) (es : List Event) → reports_at n (ev ∷ es) ≡ cond (terminates ev n) 1 0 + reports_at n es
reports_cons n ev es = sum_by-cons (λ x. cond (terminates x n) 1 0) ev es

pub length_put_event : (ev : Event) (es : List Event) → length (put_in event_before ev es) ≡ suc (length es)
length_put_event ev [] = refl
length_put_event ev (x ∷ xs) = grind (arith, length_put_event ev xs)

pub all_put : (P : Event → Type 0) (ev : Event) (es : List Event) → P ev → AllByRecursion P es → AllByRecursion P (put_in event_before ev es)
all_put P ev [] h a = (h, tt)
all_put P ev (x ∷ xs) h a = grind (arith, all_put P ev xs)

pub reports_put : (n : ℕ) (ev : Event) (es : List Event) → reports_at n (put_in event_before ev es) ≡ cond (terminates ev n) 1 0 + reports_at n es
reports_put n ev [] = reports_cons n ev []
reports_put n ev (x ∷ xs) = grind (arith, reports_put n ev xs, reports_cons n ev (x ∷ xs), reports_cons n x xs, reports_cons n x (put_in event_before ev xs))

pub queued_put : (ev : Event) (es : List Event) → in_order event_before es ≡ true → in_order event_before (put_in event_before ev es) ≡ true
queued_put ev es o = order_put_in event_before before_asymmetric before_transitive ev es o

-- from one bag of events to the next as many reports wait at each node, and no ring does
pub record Kept (es fs : List Event) : Type 0 where
  pub reports : (n : ℕ) → reports_at n fs ≡ reports_at n es
  pub all_can_wait : AllByRecursion (λ x. can_wait x ≡ true) es → AllByRecursion (λ x. can_wait x ≡ true) fs
  pub queued : in_order event_before es ≡ true → in_order event_before fs ≡ true

pub kept_same : (es : List Event) → Kept es es
kept_same es = record { reports = λ n. refl; all_can_wait = λ a. a; queued = λ o. o }

pub kept_then : (es fs gs : List Event) → Kept es fs → Kept fs gs → Kept es gs
kept_then es fs gs k l = record { reports = λ n. l.reports n ∙ k.reports n; all_can_wait = λ a. l.all_can_wait (k.all_can_wait a); queued = λ o. l.queued (k.queued o) }

pub kept_put : (ev : Event) (es : List Event) → can_wait ev ≡ true → ((n : ℕ) → terminates ev n ≡ false) → Kept es (put_in event_before ev es)
kept_put ev es w h = record {
  reports = λ n. grind (arith, reports_put n ev es, h n);
  all_can_wait = all_put (λ x. can_wait x ≡ true) ev es w;
  queued = queued_put ev es;
}

kept_if : (b : Bool) (ev : Event) (es : List Event) → can_wait ev ≡ true → ((n : ℕ) → terminates ev n ≡ false) → Kept es (put_if b ev es)
kept_if true ev es w h = kept_put ev es w h
kept_if false ev es w h = kept_same es

kept_send : (v : Option ℕ) (es : List Event) → Kept es (put_send v es)
kept_send None es = kept_same es
kept_send (Some v) es = kept_put (Named v) es refl (λ n. refl)

module _ (c : Graph) where
  kept_sent : (xs : List ℕ) (es : List Event) → Kept es (sent c xs es)
  kept_sent [] es = kept_same es
  kept_sent (x ∷ xs) es = let fs = put_send (c.send x) es in kept_then es fs (sent c xs fs) (kept_send (c.send x) es) (kept_sent xs fs)

  kept_arrived : (ns : List ℕ) (es : List Event) → Kept es (arrived c ns es)
  kept_arrived [] es = kept_same es
  kept_arrived (n ∷ ns) es =
      let fs = put_if (waits c n) (Completion n) es in
      let gs = put_if (watched c n) (Node n) fs in
      kept_then es gs (arrived c ns gs) (kept_then es fs gs (kept_if (waits c n) (Completion n) es refl (λ m. refl)) (kept_if (watched c n) (Node n) fs refl (λ m. refl)))
      (kept_arrived ns gs)

  pub kept_moved : (xs ns : List ℕ) (es : List Event) → Kept es (arrived c ns (sent c xs es))
  kept_moved xs ns es = kept_then es (sent c xs es) (arrived c ns (sent c xs es)) (kept_sent xs es) (kept_arrived ns (sent c xs es))

-- the first event leaves
pub all_tail : (P : Event → Type 0) (es : List Event) → AllByRecursion P es → AllByRecursion P (tail_of es)
all_tail P [] a = tt
all_tail P (x ∷ xs) a = a.1

pub queued_tail : (es : List Event) → in_order event_before es ≡ true → in_order event_before (tail_of es) ≡ true
queued_tail [] o = refl
queued_tail (x ∷ xs) o = grind arith
