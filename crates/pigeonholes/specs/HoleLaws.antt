-- What the calls on a row of 64 holes do to the set of orders. Assumes nothing.
use Rattle.std.specs.Prelude.{◌≡◌, ℕ, zero, suc, ◌+◌, ◌-◌, ◌%◌, ◌<◌, ◌≤◌, Bool, true, false, cond, List, [], ◌∷◌, ◌++◌, length, take, drop, set, map, filter, count_by, is_some, get_or, Some, None, Ok, Option, Result, MatchOption, slice_index_or, slice_set, refl}
use Rattle.std.proofs.Common.{sym, ap, ◌∙◌, subst, suc-le-suc, arith, add-one, length-set, length-append, length-drop}
use Rattle.std.specs.List.{AllWithin, HoldsAt, range_with_len}
use Rattle.std.specs.Option.{ok_or}
use Rattle.std.proofs.lemmas.Bool.Decides.{nat_tests}
use Rattle.std.proofs.lemmas.List.{set_split, set-get_or, length-take-le}
use Rattle.std.proofs.lemmas.List.Sums.{length-filter}
use Rattle.std.proofs.lemmas.List.Elements.{filter_map-append}
use Rattle.std.proofs.lemmas.List.FromFn.{length-map-range_with_len, get_or-map-range_with_len}
use Rattle.desk.specs.declared.Order.{Order}
use Rattle.desk.specs.declared.Refusal.{Refusal}
use Rattle.desk.specs.declared.Refusal.TheVariants.{NotOpen}
use Rattle.desk.specs.Orders.{look_up, inserted, CanOpen, Opened, Closed}
use Rattle.desk.specs.Sets.{sorted, Distinct}
use Rattle.pigeonholes.specs.Holes.{Hole, held, orders_in, HolesSound, is_free, holds, probed, First, Nowhere, Freed}
use Rattle.desk.specs.OrderLaws.{none_is}
use Rattle.desk.specs.SetLaws.{length-sorted, absent_union, distinct_more, look_up-sorted, opened_middle, closed_middle}

-- every hole is probed
pub all-probed : (P : ℕ → Type 0) (n : ℕ) → ((k : ℕ) → k < 64 → P (probed n k)) → (i : ℕ) → i < 64 → P i
all-probed P n h i l =
    let k : ℕ = (i + 64 - n % 64) % 64 in
    let e : (n % 64 + k) % 64 ≡ i = omega arith in
    subst P e (h k (omega arith))

-- where the holes that are probed for n end
abbrev pub way : ℕ → List ℕ
way n = map (probed n) (range_with_len 0 64)

at_step : (n k : ℕ) → k < 64 → get_or (way n) k 0 ≡ probed n k
at_step n k l = get_or-map-range_with_len (probed n) 0 64 k k 0 l (omega arith)

module _ (p : Hole → Bool) (n : ℕ) (hs : List Hole) where
  abbrev pub Passed : ℕ → Type 0
  Passed = AllWithin (λ j. p (get_or hs j None) ≡ false) (way n) 0

  passed : (i k : ℕ) → k < i → i ≤ 64 → Passed i → p (get_or hs (probed n k) None) ≡ false
  passed i k l m h = subst (λ j. p (get_or hs j None) ≡ false) (at_step n k (omega arith)) (h k 0 (omega arith) l)

  pub first_probed : (r : Option ℕ) → MatchOption r (Passed (length (way n))) (λ x. (p (get_or hs x None) ≡ true) × (i : ℕ) × (i < length (way n)) × HoldsAt (λ y. y ≡ x) (way n) i × Passed i)
      → MatchOption r (Nowhere p hs) (λ i. First p n i hs)
  first_probed None h = all-probed (λ i. p (get_or hs i None) ≡ false) n (λ k l. passed 64 k l (omega arith) h)
  first_probed (Some x) h =
      let below : h.1 < 64 = omega (arith, h.2, length-map-range_with_len (probed n) 0 64) in
      record { steps = h.1; within = below; here = sym (h.3 0) ∙ at_step n h.1 below; is = h.0; before = λ k l. passed h.1 k l (omega (arith, below)) h.4 }

pub length-held : (hs : List Hole) → length (held hs) ≤ length hs
length-held [] = omega arith
length-held (None ∷ hs) = omega (arith, length-held hs)
length-held (Some o ∷ hs) = omega (arith, length-held hs)

pub few_held : (hs : List Hole) → length hs ≡ 64 → length (sorted (held hs)) ≤ 64
few_held hs long = omega (arith, length-sorted (held hs), length-held hs, long)

pub counted : (hs : List Hole) → count_by (λ h. is_some h) hs ≡ length (held hs)
counted hs = sym (length-filter (λ h. is_some h) hs) ∙ some_held hs
  where
    some_held : (hs : List Hole) → length (filter (λ h. is_some h) hs) ≡ length (held hs)
    some_held [] = refl
    some_held (None ∷ hs) = some_held hs
    some_held (Some o ∷ hs) = omega (arith, some_held hs)

-- the holes from i on, and those behind it
pub length-held-drop : (hs : List Hole) (i : ℕ) → length (held (drop i hs)) ≡ cond (is_free (slice_index_or hs i None)) 0 1 + length (held (drop (i + 1) hs))
length-held-drop hs i = rw add-one (next hs i)
  where
    next : (hs : List Hole) (i : ℕ) → length (held (drop i hs)) ≡ cond (is_free (slice_index_or hs i None)) 0 1 + length (held (drop (suc i) hs))
    next [] zero = refl
    next [] (suc i) = refl
    next (None ∷ hs) zero = omega arith
    next (Some o ∷ hs) zero = omega arith
    next (h ∷ hs) (suc i) = next hs i

-- the row about the hole i
module _ (hs : List Hole) (i : ℕ) (l : i < length hs) where
  held-set : (h : Hole) → held (slice_set hs i h) ≡ held (take i hs) ++ held (h ∷ drop (suc i) hs)
  held-set h = ap held (set_split hs i h l) ∙ filter_map-append (λ g. g) (take i hs) (h ∷ drop (suc i) hs)

  held_at : (h : Hole) → get_or hs i None ≡ h → held hs ≡ held (take i hs) ++ held (h ∷ drop (suc i) hs)
  held_at h e = ap held (sym (set-get_or hs i None)) ∙ held-set (get_or hs i None) ∙ ap (λ g. held (take i hs) ++ held (g ∷ drop (suc i) hs)) e

-- what a hole is that passes a test
free-is : (h : Hole) → is_free h ≡ true → h ≡ None
free-is None e = refl
free-is (Some o) e = grind arith

number_is : (n : ℕ) (h : Hole) → holds n h ≡ true → (o : Order) × (h ≡ Some o) × (o.number ≡ n)
number_is n None e = grind arith
number_is n (Some o) e = (o, refl, grind (arith, nat_tests))

-- no hole passes a test
absent_held : (n : ℕ) (hs : List Hole) → ((i : ℕ) → i < length hs → holds n (get_or hs i None) ≡ false) → look_up n (held hs) ≡ None
absent_held n [] h = refl
absent_held n (None ∷ hs) h = absent_held n hs (λ i l. h (suc i) (suc-le-suc l))
absent_held n (Some o ∷ hs) h = let e = absent_held n hs (λ i l. h (suc i) (suc-le-suc l)) in let f = h 0 in grind (arith, nat_tests)

full_held : (hs : List Hole) → ((i : ℕ) → i < length hs → is_free (get_or hs i None) ≡ false) → length hs ≤ length (held hs)
full_held [] h = omega arith
full_held (None ∷ hs) h = let f = h 0 in grind arith
full_held (Some o ∷ hs) h = omega (arith, full_held hs (λ i l. h (suc i) (suc-le-suc l)))

-- a hole is emptied
absent_freed : (n : ℕ) (hs : List Hole) (i : ℕ) → look_up n (held hs) ≡ None → look_up n (held (slice_set hs i None)) ≡ None
absent_freed n [] i h = h
absent_freed n (None ∷ hs) zero h = h
absent_freed n (Some o ∷ hs) zero h = grind (arith, nat_tests)
absent_freed n (None ∷ hs) (suc i) h = absent_freed n hs i h
absent_freed n (Some o ∷ hs) (suc i) h = grind (arith, nat_tests, absent_freed n hs i)

pub freed_distinct : (hs : List Hole) (i : ℕ) → Distinct (held hs) → Distinct (held (slice_set hs i None))
freed_distinct [] i d = d
freed_distinct (None ∷ hs) zero d = d
freed_distinct (Some o ∷ hs) zero d = d.1
freed_distinct (None ∷ hs) (suc i) d = freed_distinct hs i d
freed_distinct (Some o ∷ hs) (suc i) d = (absent_freed o.number hs i d.0, freed_distinct hs i d.1)

module _ (hs : List Hole) (s : HolesSound hs) where
  pub no_order : (n : ℕ) → Nowhere (holds n) hs → look_up n (orders_in hs) ≡ None
  no_order n h = absent_union n (held hs) [] (absent_held n hs (λ i l. h i (omega (arith, s.long))))

  pub no_room : Nowhere is_free hs → 64 ≤ length (orders_in hs)
  no_room h = omega (arith, s.long, length-sorted (held hs), full_held hs (λ i l. h i (omega (arith, s.long))))

  -- a free hole i
  module _ (n i : ℕ) (f : First is_free n i hs) where
    inside : i < length hs
    inside = omega (arith, s.long, f.here)

    gap : held hs ≡ held (take i hs) ++ held (drop (suc i) hs)
    gap = held_at hs i inside None (free-is (get_or hs i None) f.is)

    few : length (held (take i hs) ++ held (drop (suc i) hs)) < 64
    few = omega (arith, s.long, inside, length-append (held (take i hs)) (held (drop (suc i) hs)), length-held (take i hs), length-held (drop (suc i) hs), length-take-le i hs (omega (arith, inside)), length-drop (suc i) hs)

    pub room : length (orders_in hs) < 64
    room = omega (arith, few, ap length gap, length-sorted (held hs))

    module _ (o : Order) (none : look_up o.number (orders_in hs) ≡ None) where
      was_none : look_up o.number (held (take i hs) ++ held (drop (suc i) hs)) ≡ None
      was_none = ap (look_up o.number) (sym gap) ∙ sym (look_up-sorted o.number (held hs) s.distinct) ∙ none

      is : held (slice_set hs i (Some o)) ≡ held (take i hs) ++ o ∷ held (drop (suc i) hs)
      is = held-set hs i inside (Some o)

      pub filled_distinct : Distinct (held (slice_set hs i (Some o)))
      filled_distinct = subst Distinct (sym is) (distinct_more o (held (take i hs)) (held (drop (suc i) hs)) was_none (subst Distinct gap s.distinct))

      pub filled_sorted : orders_in (slice_set hs i (Some o)) ≡ inserted o (orders_in hs)
      filled_sorted = rw (is, gap) (opened_middle o (held (take i hs)) (held (drop (suc i) hs)) few was_none).2

  -- the hole i of the order numbered n
  module _ (n i : ℕ) (f : First (holds n) n i hs) where
    there : (o : Order) × (get_or hs i None ≡ Some o) × (o.number ≡ n)
    there = number_is n (get_or hs i None) f.is

    within : i < length hs
    within = omega (arith, s.long, f.here)

    whole : held hs ≡ held (take i hs) ++ there.0 ∷ held (drop (suc i) hs)
    whole = held_at hs i within (Some there.0) there.1

    left : held (slice_set hs i None) ≡ held (take i hs) ++ held (drop (suc i) hs)
    left = held-set hs i within None

    closed : Closed n (orders_in hs) (orders_in (slice_set hs i None)) (Ok there.0)
    closed = rw (left, whole) (closed_middle there.0 (held (take i hs)) (held (drop (suc i) hs)) n there.2 (subst Distinct whole s.distinct))

    pub found : look_up n (orders_in hs) ≡ get_or hs i None
    found = closed.1 ∙ sym there.1

    pub freed : (r : Result Order Refusal) → r ≡ ok_or (get_or hs i None) NotOpen → Closed n (orders_in hs) (orders_in (slice_set hs i None)) r
    freed r e = subst (Closed n (orders_in hs) (orders_in (slice_set hs i None))) (sym (e ∙ ap (λ h. ok_or h NotOpen) there.1)) closed

  pub filled : (o : Order) (i : ℕ) (h : Hole) → First is_free o.number i hs → h ≡ Some o → CanOpen o (sorted (held hs))
      → HolesSound (slice_set hs i h) × Opened o (sorted (held hs)) (sorted (held (slice_set hs i h))) (Ok tt)
  filled o i h f e can =
      let none = none_is (look_up o.number (orders_in hs)) can.1 in
      rw e (
        record { long = length-set hs i (Some o) ∙ s.long; distinct = filled_distinct o.number i f o none },
        (can.0, none, filled_sorted o.number i f o none),
      )

  pub closes : (n i : ℕ) (f : Option Order) (h : Hole) (r : Result Order Refusal) → First (holds n) n i hs → f ≡ slice_index_or hs i None → h ≡ None → r ≡ ok_or f NotOpen
      → HolesSound (slice_set hs i h) × Closed n (sorted (held hs)) (sorted (held (slice_set hs i h))) r
  closes n i f h r p c e q =
      rw e (
        record { long = length-set hs i None ∙ s.long; distinct = freed_distinct hs i s.distinct },
        freed n i p r (q ∙ ap (λ g. ok_or g NotOpen) c),
      )

-- the hole of a number is emptied: f is what it held
pub frees : (n i : ℕ) (hs : List Hole) (f : Option Order) (h : Hole) (r : Result Order Refusal) → First (holds n) n i hs → f ≡ slice_index_or hs i None → h ≡ None → r ≡ ok_or f NotOpen → Freed n hs (slice_set hs i h) r
frees n i hs f h r p c e q =
    let there = number_is n (get_or hs i None) p.is in
    subst (Freed n hs (slice_set hs i h)) (sym (q ∙ ap (λ g. ok_or g NotOpen) (c ∙ there.1))) (i, p, ap (set hs i) e)

-- what is told of the hole that was found, or of none
pub free_hole : (n : ℕ) (hs : List Hole) (r : Option ℕ) → MatchOption r (Nowhere is_free hs) (λ i. First is_free n i hs)
    → MatchOption r (HolesSound hs → 64 ≤ length (sorted (held hs))) (λ i. First is_free n i hs × (HolesSound hs → length (sorted (held hs)) < 64))
free_hole n hs None h = λ s. no_room hs s h
free_hole n hs (Some i) h = (h, λ s. room hs s n i h)

pub hole_of : (n : ℕ) (hs : List Hole) (r : Option ℕ) → MatchOption r (Nowhere (holds n) hs) (λ i. First (holds n) n i hs)
    → MatchOption r (HolesSound hs → look_up n (sorted (held hs)) ≡ None) (λ i. First (holds n) n i hs × (HolesSound hs → slice_index_or hs i None ≡ look_up n (sorted (held hs))))
hole_of n hs None h = λ s. no_order hs s n h
hole_of n hs (Some i) h = (h, λ s. sym (found hs s n i h))

-- what a call on a hole does to the orders
pub ruleset holes = (no_order, no_room, room, found, filled_distinct, filled_sorted, freed_distinct, freed, length-sorted, length-set, counted)
