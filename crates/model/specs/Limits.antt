-- Both sides of each limit, and which refusal comes first. Assumes nothing.
use Rattle.std.specs.Prelude.{◌≡◌, ℕ, true, false, cond, [], ◌∷◌, map, replicate, Some, None, Ok, Err, ◌==◌}
use Rattle.chart.specs.Law.{accepted}
use Rattle.chart.specs.Samples.{bill_parts}
use Rattle.model.specs.declared.event.Event.TheVariants.{Named}
use Rattle.model.specs.declared.call.Change.TheVariants.{Unchanged}
use Rattle.model.specs.declared.refusal.Refusal.TheVariants.{AlreadyOpen, LateMoment, OutOfRange, EarlierMoment, OrderNotOpen, EventsWaiting, EventsFull, ShortBuffer, TooManyTokens, TooManyEvents, NoOrderNumber}
use Rattle.model.specs.State.{State}
use Rattle.model.specs.Steps.{overflow, turn}
use Rattle.model.specs.Calls.{open_refusal, post_answer, tell_answer, report_answer, tick_answer}
use Rattle.model.specs.Samples.{alike, guarded, ready}

-- so many events wait, and order 1 is open
abbrev pub waiting : ℕ → State
waiting n = record ready { events = replicate n (Named 0); orders = record { number = 1; node = 1; activity = 7 } ∷ [] }

-- nothing waits
abbrev pub none_due : State
none_due = record ready { tokens = λ n. 0 }

-- so many tokens and events, and this number for the next order
abbrev pub filled : ℕ → ℕ → ℕ → State
filled tokens events next = record ready { tokens = λ n. cond (n == 1) tokens 0; events = replicate events (Named 0); next = next }

pub record Limits : Type 0 where
  pub opening_moment : map (λ m. open_refusal false m (accepted bill_parts)) (4000000000 ∷ 4000000001 ∷ []) ≡ None ∷ Some LateMoment ∷ []
  pub opening_first : open_refusal true 4000000001 (accepted bill_parts) ≡ Some AlreadyOpen
  pub post_event : map (post_answer ready) (31 ∷ 32 ∷ []) ≡ Ok tt ∷ Err OutOfRange ∷ []
  pub post_waiting : map (λ n. post_answer (waiting n) 31) (191 ∷ 192 ∷ []) ≡ Ok tt ∷ Err EventsWaiting ∷ []
  pub post_first : post_answer (waiting 192) 32 ≡ Err OutOfRange
  pub tell_attribute : map (λ a. tell_answer ready a None) (15 ∷ 16 ∷ []) ≡ Ok Unchanged ∷ Err OutOfRange ∷ []
  pub tell_waiting : map (λ n. tell_answer (waiting n) 0 (Some 7)) (191 ∷ 192 ∷ []) ≡ Ok Unchanged ∷ Err EventsWaiting ∷ []
  pub tell_first : tell_answer (waiting 192) 16 None ≡ Err OutOfRange
  pub report_waiting : map (λ n. report_answer (waiting n) 1) (255 ∷ 256 ∷ []) ≡ Ok tt ∷ Err EventsFull ∷ []
  pub report_first : report_answer (waiting 256) 2 ≡ Err OrderNotOpen
  pub tick_moment : map (tick_answer ready) (99 ∷ 100 ∷ 4000000000 ∷ 4000000001 ∷ []) ≡ Err EarlierMoment ∷ Ok tt ∷ Ok tt ∷ Err LateMoment ∷ []
  pub turn_room : map (λ n. turn guarded (alike tt) n none_due) (63 ∷ 64 ∷ []) ≡ Err ShortBuffer ∷ Ok None ∷ []
  pub turn_tokens : map (λ n. overflow guarded (filled n 0 1)) (64 ∷ 65 ∷ []) ≡ None ∷ Some TooManyTokens ∷ []
  pub turn_events : map (λ n. overflow guarded (filled 0 n 1)) (256 ∷ 257 ∷ []) ≡ None ∷ Some TooManyEvents ∷ []
  pub turn_orders : map (λ n. overflow guarded (filled 0 0 n)) (65536 ∷ 65537 ∷ []) ≡ None ∷ Some NoOrderNumber ∷ []
  pub turn_first : overflow guarded (filled 65 257 65537) ≡ Some TooManyTokens
  pub turn_second : overflow guarded (filled 64 257 65537) ≡ Some TooManyEvents
