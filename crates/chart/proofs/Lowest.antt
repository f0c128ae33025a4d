-- The breach that the search finds is of the lowest broken rule, at its first record.
use Rattle.std.proofs.Common.{◌≡◌, ℕ, zero, suc, ◌+◌, ◌-◌, ◌<◌, ◌≤◌, Bool, true, false, cond, List, [], ◌∷◌, length, get_or, Some, None, Option, sym, refl, ap, ◌∙◌, ⊎_elim, arith}
use Rattle.std.proofs.lemmas.Bool.{cases_lt}
use Rattle.std.specs.List.{find, filter_map, cons_option, slice_get, range_with_len}
use Rattle.std.specs.Option.{option_map}
use Rattle.layout.specs.declared.parts.Node.{Node}
use Rattle.layout.specs.declared.parts.RawEdge.{RawEdge}
use Rattle.chart.specs.declared.rules.Rule.{Rule}
use Rattle.chart.specs.declared.rules.Rule.TheVariants.{StartNoAction, StartNoTarget, StartPlain, ActionPlain, OneCause, FewTimed, Leaves}
use Rattle.chart.specs.declared.rules.Breach.{Breach}
use Rattle.chart.specs.Rules.{rule_number, breaks, records, Keeps, Lowest}
use Rattle.chart.specs.Judge.{first_record, breach, rules, first_breach}

module _ (f : ℕ → Bool) (k : ℕ) where
  -- what holds at k and from k + 1 on holds from k on
  from : f k ≡ false → (j : ℕ) → ((i : ℕ) → k + 1 ≤ i → i < j → f i ≡ false) → (i : ℕ) → k ≤ i → i < j → f i ≡ false
  from q j rest i l u = ⊎_elim (λ lt. let same : k ≡ i = omega arith in ap f (sym same) ∙ q) (λ ge. rest i ge u) (cases_lt i (k + 1))

module _ (f : ℕ → Bool) where
  first_none : (n k : ℕ) → find f (range_with_len k n) ≡ None → (i : ℕ) → k ≤ i → i < k + n → f i ≡ false
  first_none zero k e i l u = absurd (omega arith)
  first_none (suc n) k e i l u = go (f k) refl e (first_none n (k + 1))
    where
      go : (b : Bool) → f k ≡ b → cond b (Some k) (find f (range_with_len (k + 1) n)) ≡ None → (find f (range_with_len (k + 1) n) ≡ None → (i : ℕ) → k + 1 ≤ i → i < k + 1 + n → f i ≡ false) → f i ≡ false
      go true q r rec = absurd cc
      go false q r rec = from f k q (k + suc n) (λ i l u. rec r i l (omega arith)) i l u

  pub record Found (n k j : ℕ) : Type 0 where
    pub below : j < k + n
    pub above : k ≤ j
    pub here : f j ≡ true
    pub first : (i : ℕ) → k ≤ i → i < j → f i ≡ false

  first_some : (n k j : ℕ) → find f (range_with_len k n) ≡ Some j → Found n k j
  first_some zero k j e = absurd cc
  first_some (suc n) k j e = go (f k) refl e (first_some n (k + 1) j)
    where
      go : (b : Bool) → f k ≡ b → cond b (Some k) (find f (range_with_len (k + 1) n)) ≡ Some j → (find f (range_with_len (k + 1) n) ≡ Some j → Found n (k + 1) j) → Found (suc n) k j
      go true q r rec =
          let same : k ≡ j = cc in
          record { below = omega arith; above = omega arith; here = ap f (sym same) ∙ q; first = λ i l u. absurd (omega arith) }
      go false q r rec = let g = rec r in record { below = omega (arith, g.below); above = omega (arith, g.above); here = g.here; first = from f k q j g.first }

module _ (ns : List Node) (es : List RawEdge) where
  pub kept : (r : Rule) → first_record r ns es ≡ None → (k : ℕ) → k < records r ns es → breaks r ns es k ≡ false
  kept r e k h = first_none (breaks r ns es) (records r ns es) 0 e k (omega arith) (omega arith)

  abbrev at_rule : Rule → ℕ → Breach
  at_rule r k = record { rule = r; index = k }

  unbroken : (r : Rule) → breach ns es r ≡ None → first_record r ns es ≡ None
  unbroken r e = go (first_record r ns es) e
    where
      go : (o : Option ℕ) → option_map (at_rule r) o ≡ None → o ≡ None
      go None q = refl
      go (Some k) q = absurd cc

  broken : (r : Rule) (b : Breach) → breach ns es r ≡ Some b → (r ≡ b.rule) × (first_record r ns es ≡ Some b.index)
  broken r b e = go (first_record r ns es) e
    where
      go : (o : Option ℕ) → option_map (at_rule r) o ≡ Some b → (r ≡ b.rule) × (o ≡ Some b.index)
      go None q = absurd cc
      go (Some k) q = let same : record { rule = r; index = k } ≡ b = cc in (ap (λ (x : Breach). x.rule) same, ap (λ (x : Breach). Some x.index) same)

-- where the first answer of h along a list stands
module _ {A B : Type 0} (h : A → Option B) (d : A) where
  none_given : (xs : List A) → slice_get (filter_map h xs) 0 ≡ None → (j : ℕ) → j < length xs → h (get_or xs j d) ≡ None
  none_given [] e j l = absurd (omega arith)
  none_given (x ∷ xs) e j l = go (h x) refl e j l (none_given xs)
    where
      go : (o : Option B) → h x ≡ o → slice_get (cons_option o (filter_map h xs)) 0 ≡ None → (j : ℕ) → j < suc (length xs) → (slice_get (filter_map h xs) 0 ≡ None → (j : ℕ) → j < length xs → h (get_or xs j d) ≡ None) → h (get_or (x ∷ xs) j d) ≡ None
      go (Some y) q e j l rec = absurd cc
      go None q e zero l rec = q
      go None q e (suc j) l rec = rec e j (omega arith)

  record GivenAt (xs : List A) (y : B) (i : ℕ) : Type 0 where
    pub within : i < length xs
    pub here : h (get_or xs i d) ≡ Some y
    pub before : (j : ℕ) → j < i → h (get_or xs j d) ≡ None

  given : (xs : List A) (y : B) → slice_get (filter_map h xs) 0 ≡ Some y → (i : ℕ) × GivenAt xs y i
  given [] y e = absurd cc
  given (x ∷ xs) y e = go (h x) refl e (given xs y)
    where
      later : (j i : ℕ) → h x ≡ None → GivenAt xs y i → j < suc i → h (get_or (x ∷ xs) j d) ≡ None
      later zero i q g l = q
      later (suc j) i q g l = g.before j (omega arith)

      go : (o : Option B) → h x ≡ o → slice_get (cons_option o (filter_map h xs)) 0 ≡ Some y → (slice_get (filter_map h xs) 0 ≡ Some y → (i : ℕ) × GivenAt xs y i) → (i : ℕ) × GivenAt (x ∷ xs) y i
      go (Some z) q e rec = (0, record { within = omega arith; here = q ∙ e; before = λ j l. absurd (omega arith) })
      go None q e rec = let g = rec e in (suc g.0, record { within = omega (arith, g.1.within); here = g.1.here; before = λ j l. later j g.0 q g.1 l })

-- each rule stands in the list at the place of its number
at-number : (r : Rule) → get_or rules (rule_number r - 1) StartNoAction ≡ r
at-number StartNoAction = refl
at-number StartNoTarget = refl
at-number StartPlain = refl
at-number ActionPlain = refl
at-number OneCause = refl
at-number FewTimed = refl
at-number Leaves = refl

number-low : (r : Rule) → (1 ≤ rule_number r) × (rule_number r ≤ 7)
number-low StartNoAction = (omega arith, omega arith)
number-low StartNoTarget = (omega arith, omega arith)
number-low StartPlain = (omega arith, omega arith)
number-low ActionPlain = (omega arith, omega arith)
number-low OneCause = (omega arith, omega arith)
number-low FewTimed = (omega arith, omega arith)
number-low Leaves = (omega arith, omega arith)

number_at : (i : ℕ) → i < 7 → rule_number (get_or rules i StartNoAction) ≡ suc i
number_at zero h = refl
number_at (suc zero) h = refl
number_at (suc (suc zero)) h = refl
number_at (suc (suc (suc zero))) h = refl
number_at (suc (suc (suc (suc zero)))) h = refl
number_at (suc (suc (suc (suc (suc zero))))) h = refl
number_at (suc (suc (suc (suc (suc (suc zero)))))) h = refl
number_at (suc (suc (suc (suc (suc (suc (suc i))))))) h = absurd (omega arith)

module _ (ns : List Node) (es : List RawEdge) where
  before : (n : ℕ) → ((j : ℕ) → j < n → breach ns es (get_or rules j StartNoAction) ≡ None) → (r : Rule) → rule_number r ≤ n → first_record r ns es ≡ None
  before n e r h =
      let low = number-low r in
      unbroken ns es r (ap (breach ns es) (sym (at-number r)) ∙ e (rule_number r - 1) (omega (arith, low.0)))

  pub keeps : first_breach ns es ≡ None → Keeps ns es
  keeps e r = kept ns es r (before 7 (none_given (breach ns es) StartNoAction rules e) r (number-low r).1)

  pub lowest : (b : Breach) → first_breach ns es ≡ Some b → Lowest ns es b
  lowest b e =
      let g = given (breach ns es) StartNoAction rules b e in
      let w = broken ns es (get_or rules g.0 StartNoAction) b g.1.here in
      let f = first_some (breaks b.rule ns es) (records b.rule ns es) 0 b.index (ap (λ r. first_record r ns es) (sym w.0) ∙ w.1) in
      let number : rule_number b.rule ≡ suc g.0 = ap rule_number (sym w.0) ∙ number_at g.0 g.1.within in
      record {
        within = omega (arith, f.below);
        here = f.here;
        first = λ k h. f.first k (omega arith) h;
        lowest = λ r h. kept ns es r (before g.0 g.1.before r (omega (arith, number)));
      }
