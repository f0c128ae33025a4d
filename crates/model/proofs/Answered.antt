-- Each call on a sound case has an answer. Assumes nothing.
use Rattle.std.proofs.Common.{◌≡◌, ℕ, ◌≤◌, List, [], ◌++◌, length, take, replicate, Some, None, Ok, Err, Option, Result, refl, sym, ap, ◌∙◌, arith, length-append}
use Rattle.std.proofs.lemmas.List.{take-take, take_at, length-take-le}
use Rattle.model.specs.declared.refusal.Refusal.{Refusal}
use Rattle.model.specs.declared.call.Call.{Call}
use Rattle.model.specs.declared.call.Call.TheVariants as call
use Rattle.model.specs.declared.call.Routed.{Routed}
use Rattle.model.specs.declared.call.Entry.{Entry}
use Rattle.model.specs.declared.call.Entry.TheVariants.{Post, Tell, Report, Tick, Turn}
use Rattle.model.specs.Graph.{Graph, Rules}
use Rattle.model.specs.State.{State, Sound}
use Rattle.model.specs.Steps.{taken, turn}
use Rattle.model.specs.Calls.{post_answer, tell_answer, report_answer, tick_answer, Written, Answers}
use Rattle.model.specs.Entries.{call_of, HasBuffer}
use Rattle.model.specs.RunLaw.{GoesOn}
use Rattle.model.proofs.Turns.{took_all}

-- a buffer of 64 bytes that begins with the edges
buffer_of : List ℕ → List ℕ
buffer_of es = take 64 (es ++ replicate 64 0)

module _ (es : List ℕ) where
  length_buffer : length (buffer_of es) ≡ 64
  unfolding buffer_of
  length_buffer = length-take-le 64 (es ++ replicate 64 0) (omega (arith, length-append es (replicate 64 0)))

  take_buffer : length es ≤ 64 → take (length es) (buffer_of es) ≡ es
  unfolding buffer_of
  take_buffer l = take-take (length es) 64 (es ++ replicate 64 0) l ∙ take_at es (replicate 64 0) (length es) refl

module _ (c : Graph) (rules : Rules c) (rank : ℕ → ℕ) (s : State) (sound : Sound c s) where
  -- what a turn that took edges leaves in a buffer
  abbrev edges_of : Result (Option Routed) Refusal → List ℕ
  edges_of (Ok None) = []
  edges_of (Ok (Some done)) = taken c rank done.event s
  edges_of (Err e) = []

  written : (room : ℕ) (r : Result (Option Routed) Refusal) → r ≡ turn c rank room s → Written c rank s r (buffer_of (edges_of r))
  written room (Ok None) h = tt
  written room (Ok (Some done)) h =
      let f = took_all c rules rank s sound room done h in
      let all = take_buffer (taken c rank done.event s) (omega (arith, f.edges, f.few_edges)) in
      ap (λ k. take k (buffer_of (taken c rank done.event s))) (sym f.edges) ∙ all
  written room (Err e) h = tt

  answered : (x : Call) → (y : Entry) × (call_of y ≡ x) × HasBuffer y × Answers c rank s y
  answered (call.Post v) = (Post v (post_answer s v), refl, tt, refl)
  answered (call.Tell a v) = (Tell a v (tell_answer s a v), refl, tt, refl)
  answered (call.Report n) = (Report n (report_answer s n), refl, tt, refl)
  answered (call.Tick m) = (Tick m (tick_answer s m), refl, tt, refl)
  answered (call.Turn room) = let r = turn c rank room s in (Turn room r (buffer_of (edges_of r)), refl, length_buffer (edges_of r), (refl, written room r refl))

pub goes_on : (c : Graph) → Rules c → GoesOn c
goes_on c rules rank s sound x = answered c rules rank s sound x
