-- Facts and the moment from one state to a later one. Assumes nothing.
use Rattle.std.proofs.Common.{◌≡◌, ℕ, ◌<◌, true, cond, List, [], ◌∷◌, length, Some, None, Ok, Err, Option, slice_index_or, slice_set, ◌==◌, refl, ap, ◌∙◌, arith}
use Rattle.std.proofs.lemmas.Bool.Decides.{nat_tests}
use Rattle.std.proofs.lemmas.List.{get_or-set_same, get_or-set_other, length-set}
use Rattle.model.specs.declared.call.Change.TheVariants.{Changed, Unchanged}
use Rattle.model.specs.declared.call.Entry.{Entry}
use Rattle.model.specs.declared.call.Entry.TheVariants.{Post, Tell, Report, Tick, Turn}
use Rattle.model.specs.Graph.{Graph}
use Rattle.model.specs.State.{State}
use Rattle.model.specs.Calls.{same_value, tell_answer, recorded, Answers}
use Rattle.model.specs.Accounts.{last_told, last_ticked}

same_fact : (o v : Option ℕ) → same_value o v ≡ true → o ≡ v
same_fact None None h = refl
same_fact None (Some v) h = absurd (grind arith)
same_fact (Some w) None h = absurd (grind arith)
same_fact (Some w) (Some v) h = grind (arith, nat_tests)

-- telling changed nothing where the value was the same
tell_same : (s : State) (a : ℕ) (v : Option ℕ) → Ok Unchanged ≡ tell_answer s a v → slice_index_or s.facts a None ≡ v
tell_same s a v h = grind (arith, nat_tests, same_fact (slice_index_or s.facts a None) v)

fact_set : (fs : List (Option ℕ)) (a b : ℕ) (v : Option ℕ) → b < length fs → slice_index_or (slice_set fs a v) b None ≡ cond (a == b) v (slice_index_or fs b None)
fact_set fs a b v l = grind (arith, nat_tests, get_or-set_same fs a v None, get_or-set_other fs a b v None)

module _ (c : Graph) where
  -- what was told and ticked
  pub record FactsAndMoment (xs : List Entry) (s t : State) : Type 0 where
    pub width : length t.facts ≡ length s.facts
    pub facts : (b : ℕ) → b < length s.facts → slice_index_or t.facts b None ≡ last_told b (slice_index_or s.facts b None) xs
    pub moment : t.moment ≡ last_ticked s.moment xs

  pub facts_and_moment_then : (x : Entry) (xs : List Entry) (s m t : State) → FactsAndMoment (x ∷ []) s m → FactsAndMoment xs m t → FactsAndMoment (x ∷ xs) s t
  facts_and_moment_then x xs s m t a b = record {
    width = b.width ∙ a.width;
    facts = λ i l. b.facts i (omega (arith, a.width)) ∙ ap (λ v. last_told i v xs) (a.facts i l);
    moment = b.moment ∙ ap (λ v. last_ticked v xs) a.moment;
  }

  pub facts_and_moment : (rank : ℕ → ℕ) (s : State) (x : Entry) → Answers c rank s x → FactsAndMoment (x ∷ []) s (recorded c s x)
  facts_and_moment rank s (Post v (Ok u)) h = record { width = refl; facts = λ b l. refl; moment = refl }
  facts_and_moment rank s (Post v (Err e)) h = record { width = refl; facts = λ b l. refl; moment = refl }
  facts_and_moment rank s (Tell a v (Ok Changed)) h = record {
    width = length-set s.facts a v;
    facts = λ b l. fact_set s.facts a b v l;
    moment = refl;
  }
  facts_and_moment rank s (Tell a v (Ok Unchanged)) h = record {
    width = refl;
    facts = λ b l. grind (arith, nat_tests, tell_same s a v h);
    moment = refl;
  }
  facts_and_moment rank s (Tell a v (Err e)) h = record { width = refl; facts = λ b l. refl; moment = refl }
  facts_and_moment rank s (Report n (Ok u)) h = record { width = refl; facts = λ b l. refl; moment = refl }
  facts_and_moment rank s (Report n (Err e)) h = record { width = refl; facts = λ b l. refl; moment = refl }
  facts_and_moment rank s (Tick m (Ok u)) h = record { width = refl; facts = λ b l. refl; moment = refl }
  facts_and_moment rank s (Tick m (Err e)) h = record { width = refl; facts = λ b l. refl; moment = refl }
  facts_and_moment rank s (Turn room (Ok None) buffer) h = record { width = refl; facts = λ b l. refl; moment = refl }
  facts_and_moment rank s (Turn room (Ok (Some done)) buffer) h = record { width = refl; facts = λ b l. refl; moment = refl }
  facts_and_moment rank s (Turn room (Err e) buffer) h = record { width = refl; facts = λ b l. refl; moment = refl }
