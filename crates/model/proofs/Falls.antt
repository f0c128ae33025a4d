-- Which clocks leave as the relevance of an edge falls. Assumes nothing.
use Rattle.std.proofs.Common.{◌≡◌, ℕ, zero, suc, ◌+◌, ◌-◌, Bool, true, false, cond, not, List, [], ◌∷◌, ◌++◌, ◌⊎◌, inl, inr, length, drop, is_some, filter, sym, refl, ap, ◌∙◌, arith, length-drop}
use Rattle.std.proofs.lemmas.List.{drop-drop}
use Rattle.std.proofs.lemmas.Bool.{and_parts}
use Rattle.bag.specs.Records.{in_order, head_of, tail_of, without_first}
use Rattle.bag.proofs.Records.{order_without}
use Rattle.model.specs.Ranks.{clock_before}
use Rattle.model.specs.Clocks.{of_edge, spent_of, running_of, count_of, one_less, fewer}
use Rattle.model.specs.ClockLaws.{Fallen}
use Rattle.model.specs.declared.clock.ClockState.{ClockState}
use Rattle.model.specs.declared.clock.ClockState.TheVariants.{Running, Spent}
use Rattle.model.specs.declared.clock.Clock.{Clock}
use Rattle.model.proofs.Filters.{first_of_filter, filter_without, filter_without_other}

module _ {R : Type 0} where
  tail_drop : (k : ℕ) (xs : List R) → tail_of (drop k xs) ≡ drop (suc k) xs
  tail_drop k xs = let e : k + 1 ≡ suc k = omega arith in drop-drop 1 k xs ∙ rw e

  -- of two lists in a row the first loses its front before the second does
  drop_append : (k : ℕ) (xs ys : List R) → drop k (xs ++ ys) ≡ drop k xs ++ drop (k - length xs) ys
  drop_append zero xs ys = let e : 0 - length xs ≡ 0 = omega arith in rw e
  drop_append (suc k) [] ys = let e : suc k - 0 ≡ suc k = omega arith in rw e
  drop_append (suc k) (x ∷ xs) ys = let e : suc k - suc (length xs) ≡ k - length xs = omega arith in rw (e, drop_append k xs ys)

pub states : (s : ClockState) → (s ≡ Running) ⊎ (s ≡ Spent)
states Running = inl refl
states Spent = inr refl

module _ (n : ℕ) where
  -- no clock is both spent and running
  spent_not_running : (c : Clock) → spent_of n c ≡ true → running_of n c ≡ false
  spent_not_running c h = grind (arith, states c.state)

  running_not_spent : (c : Clock) → running_of n c ≡ true → spent_of n c ≡ false
  running_not_spent c h = grind (arith, states c.state)

  -- one clock less: of the spent ones the first goes, or, where there is none, of the running ones
  record OneLess (cs ds : List Clock) : Type 0 where
    pub spent : filter (spent_of n) ds ≡ tail_of (filter (spent_of n) cs)
    pub running : filter (running_of n) ds ≡ drop (1 - length (filter (spent_of n) cs)) (filter (running_of n) cs)

  one_left : (cs : List Clock) → OneLess cs (one_less n cs)
  one_left cs =
      let spent = filter_without (spent_of n) cs in
      let spent_stay = filter_without_other (running_of n) (spent_of n) running_not_spent cs in
      let running = filter_without (running_of n) cs in
      let running_stay = filter_without_other (spent_of n) (running_of n) spent_not_running cs in
      let left : List Clock → List Clock = λ ks. cond (is_some (head_of ks)) (without_first (spent_of n) cs) (without_first (running_of n) cs) in
      let go : (ks : List Clock) → filter (spent_of n) cs ≡ ks → OneLess cs (left ks) = λ ks. elim ks as (λ v. filter (spent_of n) cs ≡ v → OneLess cs (left v)) [
        | [] ↦ λ e. record { spent = rw (spent_stay, e); running = rw (running, e) }
        | y ∷ ys ↦ λ e. let none : 1 - suc (length ys) ≡ 0 = omega arith in record { spent = spent; running = rw (running_stay, e, none) }
      ] in
      rw (first_of_filter (spent_of n) cs) (go (filter (spent_of n) cs) refl)

  pub spent_fewer : (k : ℕ) (cs : List Clock) → filter (spent_of n) (fewer n k cs) ≡ drop k (filter (spent_of n) cs)
  spent_fewer zero cs = refl
  spent_fewer (suc k) cs = (one_left (fewer n k cs)).spent ∙ ap tail_of (spent_fewer k cs) ∙ tail_drop k (filter (spent_of n) cs)

  pub running_fewer : (k : ℕ) (cs : List Clock) → filter (running_of n) (fewer n k cs) ≡ drop (k - length (filter (spent_of n) cs)) (filter (running_of n) cs)
  running_fewer zero cs = let none : 0 - length (filter (spent_of n) cs) ≡ 0 = omega arith in rw none
  running_fewer (suc k) cs =
      let before = length (filter (spent_of n) cs) in
      let now = length (filter (spent_of n) (fewer n k cs)) in
      let left : now ≡ before - k = ap length (spent_fewer k cs) ∙ length-drop k (filter (spent_of n) cs) in
      let both : (k - before) + (1 - now) ≡ suc k - before = omega arith in
      (one_left (fewer n k cs)).running ∙ ap (drop (1 - now)) (running_fewer k cs) ∙ drop-drop (1 - now) (k - before) (filter (running_of n) cs) ∙ rw both

  -- an edge's clocks are its spent and its running ones
  count_both : (cs : List Clock) → count_of n cs ≡ length (filter (spent_of n) cs) + length (filter (running_of n) cs)
  count_both [] = refl
  count_both (c ∷ cs) = grind (arith, states c.state, count_both cs)

  pub count_fewer : (k : ℕ) (cs : List Clock) → count_of n (fewer n k cs) ≡ count_of n cs - k
  count_fewer k cs =
      let spent = length-drop k (filter (spent_of n) cs) in
      let running = length-drop (k - length (filter (spent_of n) cs)) (filter (running_of n) cs) in
      omega (arith, count_both (fewer n k cs), count_both cs, ap length (spent_fewer k cs), ap length (running_fewer k cs))

  -- a filter that none of the edge's clocks passes keeps what it kept
  module _ (p : Clock → Bool) (apart : (c : Clock) → of_edge n c ≡ true → p c ≡ false) where
    pub filter_fewer : (k : ℕ) (cs : List Clock) → filter p (fewer n k cs) ≡ filter p cs
    filter_fewer zero cs = refl
    filter_fewer (suc k) cs =
        let ds = fewer n k cs in
        let spent = filter_without_other (spent_of n) p (λ c h. apart c (and_parts (of_edge n c) _ h).0) ds in
        let running = filter_without_other (running_of n) p (λ c h. apart c (and_parts (of_edge n c) _ h).0) ds in
        grind (arith, spent, running, filter_fewer k cs)

  pub order_fewer : (k : ℕ) (cs : List Clock) → in_order clock_before cs ≡ true → in_order clock_before (fewer n k cs) ≡ true
  order_fewer zero cs o = o
  order_fewer (suc k) cs o =
      let ds = fewer n k cs in
      let rest = order_fewer k cs o in
      grind (arith, order_without (spent_of n) clock_before ds rest, order_without (running_of n) clock_before ds rest)

  pub fallen : (k : ℕ) (cs : List Clock) → Fallen n k cs
  fallen k cs = record {
    front = rw (spent_fewer k cs, running_fewer k cs) (sym (drop_append k (filter (spent_of n) cs) (filter (running_of n) cs)));
    others = filter_fewer (λ c. not (of_edge n c)) (λ c h. ap not h) k cs;
  }
