-- The worked examples compute. Assumes nothing.
use Rattle.std.proofs.Common.{◌≡◌, ℕ, zero, suc, ◌<◌, Bool, true, cond, not, ◌&&◌, ◌||◌, nat_le, nat_lt, List, ◌∷◌, length, refl, arith}
use Rattle.std.proofs.lemmas.Bool.Decides.{nat_tests}
use Rattle.policy.specs.Told.{Told}
use Rattle.chart.specs.declared.edge.Cause.{Cause}
use Rattle.chart.specs.declared.edge.Cause.TheVariants.{Plain, Event, After, At}
use Rattle.model.specs.declared.call.Entry.{Entry}
use Rattle.model.specs.Choice.{total, least, room}
use Rattle.model.specs.Graph.{Graph, Rules, action, is_plain, timed}
use Rattle.model.specs.State.{State}
use Rattle.model.specs.Calls.{opening, recorded, Answers, Run}
use Rattle.model.specs.Calls.Run.{done as ended, next as further}
use Rattle.model.specs.Entries.{taken_by}
use Rattle.model.specs.Accounts.{account}
use Rattle.model.specs.Limits.{Limits}
use Rattle.model.specs.Samples.{Samples, alike, unmoved, no_facts, bill, bill_log, billed, circle, circle_log, circled, guarded, guarded_log, guarded_after, early_log, early_after, dated, dated_log, dated_after, sending, sending_log, kinds_log}

-- RULES

all_below : (ℕ → Bool) → ℕ → Bool
all_below p zero = true
all_below p (suc k) = p k && all_below p k

below : (p : ℕ → Bool) (k n : ℕ) → n < k → all_below p k ≡ true → p n ≡ true
unfolding all_below
below p zero n l h = absurd (omega arith)
below p (suc k) n l h = grind (arith, nat_tests, below p k n)

plain_is : (v : Cause) → is_plain v ≡ true → v ≡ Plain
plain_is Plain h = refl
plain_is (Event w) h = absurd (grind arith)
plain_is (After t) h = absurd (grind arith)
plain_is (At m) h = absurd (grind arith)

-- a chart keeps the rules if each of its edges passes
rules_by : (c : Graph) → nat_le c.nodes 32 && nat_le c.edges 64 && nat_lt 0 c.nodes && not (action c 0) && nat_le (length (timed c)) 16 ≡ true
    → all_below (λ e. nat_le 1 (total (λ n. cond (c.source e n) 1 0) c.nodes)) c.edges ≡ true
    → all_below (λ e. not (c.source e 0) || is_plain (c.cause e)) c.edges ≡ true
    → all_below (λ e. all_below (λ n. not (c.source e n && action c n) || is_plain (c.cause e)) c.nodes) c.edges ≡ true → Rules c
rules_by c h sourced first plain = record {
  small = (grind (arith, nat_tests), grind (arith, nat_tests));
  starts = grind (arith, nat_tests);
  sourced = λ e l. let p = below (λ e. nat_le 1 (total (λ n. cond (c.source e n) 1 0) c.nodes)) c.edges e l sourced in grind (arith, nat_tests);
  waits_first = grind arith;
  plain_first = λ e l q. let p = below (λ e. not (c.source e 0) || is_plain (c.cause e)) c.edges e l first in plain_is (c.cause e) (grind arith);
  plain = λ e n l m q a.
      let p = below (λ e. all_below (λ n. not (c.source e n && action c n) || is_plain (c.cause e)) c.nodes) c.edges e l plain in
      let r = below (λ n. not (c.source e n && action c n) || is_plain (c.cause e)) c.nodes n m p in
      plain_is (c.cause e) (grind arith);
  few = grind (arith, nat_tests);
}

-- RUNS

pub call : (c : Graph) (s : State) (x : Entry) (xs : List Entry) (u : State) → Answers c (alike tt) s x → Told unmoved tt (taken_by x) tt
    → Run c alike unmoved (recorded c s x) tt xs u tt → Run c alike unmoved s tt (x ∷ xs) u tt
call c s x xs u answer told rest = further (record { answer = answer; after = refl; told = told }) rest

bill_rules : Rules bill
unfolding total all_below
bill_rules = rules_by bill refl refl refl refl

circle_rules : Rules circle
unfolding total all_below
circle_rules = rules_by circle refl refl refl refl

guarded_rules : Rules guarded
unfolding total all_below
guarded_rules = rules_by guarded refl refl refl refl

bills : Run bill alike unmoved (opening 100 no_facts) tt bill_log (billed 10) tt
unfolding total least room
bills =
    call bill _ _ _ _ (refl, refl) (tt, refl, refl)
    (call bill _ _ _ _ (refl, tt) refl
    (call bill _ _ _ _ refl refl
    (call bill _ _ _ _ (refl, refl) (tt, refl, refl)
    (call bill _ _ _ _ (refl, refl) refl
    (call bill _ _ _ _ refl refl
    (call bill _ _ _ _ refl refl
    (call bill _ _ _ _ (refl, refl) (tt, refl, refl)
    (call bill _ _ _ _ (refl, tt) refl
    (call bill _ _ _ _ refl refl ended)))))))))

circles : Run circle alike unmoved (opening 100 no_facts) tt circle_log (circled 7) tt
unfolding total least room
circles =
    call circle _ _ _ _ (refl, refl) (tt, refl, refl)
    (call circle _ _ _ _ (refl, refl) refl
    (call circle _ _ _ _ (refl, tt) refl
    (call circle _ _ _ _ refl refl
    (call circle _ _ _ _ (refl, refl) (tt, refl, refl)
    (call circle _ _ _ _ (refl, refl) refl
    (call circle _ _ _ _ (refl, tt) refl ended))))))

guards : Run guarded alike unmoved (opening 100 no_facts) tt guarded_log (guarded_after 8) tt
unfolding total least room
guards =
    call guarded _ _ _ _ (refl, refl) (tt, refl, refl)
    (call guarded _ _ _ _ (refl, refl) refl
    (call guarded _ _ _ _ refl refl
    (call guarded _ _ _ _ (refl, refl) refl
    (call guarded _ _ _ _ refl refl
    (call guarded _ _ _ _ refl refl
    (call guarded _ _ _ _ (refl, refl) (tt, refl, refl)
    (call guarded _ _ _ _ (refl, tt) refl ended)))))))

early : Run guarded alike unmoved (opening 100 no_facts) tt early_log (early_after 4) tt
unfolding total least room
early =
    call guarded _ _ _ _ refl refl
    (call guarded _ _ _ _ (refl, refl) (tt, refl, refl)
    (call guarded _ _ _ _ (refl, refl) (tt, refl, refl)
    (call guarded _ _ _ _ (refl, refl) refl ended)))

dated_rules : Rules dated
unfolding total all_below
dated_rules = rules_by dated refl refl refl refl

dates : Run dated alike unmoved (opening 100 no_facts) tt dated_log (dated_after 9) tt
unfolding total least room
dates =
    call dated _ _ _ _ (refl, refl) (tt, refl, refl)
    (call dated _ _ _ _ (refl, refl) refl
    (call dated _ _ _ _ refl refl
    (call dated _ _ _ _ refl refl
    (call dated _ _ _ _ (refl, tt) refl
    (call dated _ _ _ _ refl refl
    (call dated _ _ _ _ refl refl
    (call dated _ _ _ _ (refl, refl) (tt, refl, refl)
    (call dated _ _ _ _ (refl, tt) refl ended))))))))

sending_rules : Rules sending
unfolding total all_below
sending_rules = rules_by sending refl refl refl refl

sends : Run sending alike unmoved (opening 100 no_facts) tt sending_log (account sending (opening 100 no_facts) sending_log) tt
unfolding total least room
sends =
    call sending _ _ _ _ (refl, refl) (tt, refl, refl)
    (call sending _ _ _ _ (refl, refl) refl
    (call sending _ _ _ _ (refl, refl) refl
    (call sending _ _ _ _ refl refl
    (call sending _ _ _ _ (refl, refl) (tt, refl, refl)
    (call sending _ _ _ _ (refl, refl) (tt, refl, refl)
    (call sending _ _ _ _ (refl, refl) refl
    (call sending _ _ _ _ (refl, tt) refl ended)))))))

by_kind : Run sending alike unmoved (opening 100 no_facts) tt kinds_log (account sending (opening 100 no_facts) kinds_log) tt
unfolding total least room
by_kind =
    call sending _ _ _ _ refl refl
    (call sending _ _ _ _ refl refl
    (call sending _ _ _ _ (refl, refl) (tt, refl, refl)
    (call sending _ _ _ _ (refl, refl) refl
    (call sending _ _ _ _ (refl, refl) refl
    (call sending _ _ _ _ (refl, refl) refl
    (call sending _ _ _ _ (refl, refl) (tt, refl, refl) ended))))))

pub samples : Samples
unfolding total least room
samples = record {
  edges = refl;
  rules = bill_rules;
  bills = bills;
  opened = refl;
  none_runs = refl;
  clock_set = refl;
  clock_runs = refl;
  no_clock = refl;
  not_open = refl;
  rings_once = refl;
  runs_on = refl;
  circle_rules = circle_rules;
  circles = circles;
  guarded_rules = guarded_rules;
  guards = guards;
  early = early;
  plain_guarded = refl;
  plain_watching = refl;
  watching_unknown = refl;
  plain_alone = refl;
  triggered = refl;
  timed = refl;
  on_number = refl;
  on_absent = refl;
  on_token = refl;
  first_clock = refl;
  fresh_clock = refl;
  dated_rules = dated_rules;
  dates = dates;
  dated_clock = refl;
  dated_once = refl;
  sending_rules = sending_rules;
  sends = sends;
  by_kind = by_kind;
}

pub limits : Limits
unfolding total
limits = record {
  opening_moment = refl;
  opening_first = refl;
  post_event = refl;
  post_waiting = refl;
  post_first = refl;
  tell_attribute = refl;
  tell_waiting = refl;
  tell_first = refl;
  report_waiting = refl;
  report_first = refl;
  tick_moment = refl;
  turn_room = refl;
  turn_tokens = refl;
  turn_events = refl;
  turn_orders = refl;
  turn_first = refl;
  turn_second = refl;
}
