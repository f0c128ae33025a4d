-- What the calls on a tray do to its orders and to its slots. Assumes nothing.
use Rattle.std.specs.Prelude.{◌≡◌, ℕ, zero, suc, ◌==◌, cond, MatchOption, ◌+◌, ◌-◌, ◌<◌, ◌≤◌, List, [], ◌∷◌, ◌++◌, length, get_or, take, drop, replicate, Some, None, Ok, Option, slice_index_or, slice_range, slice_set, refl}
use Rattle.std.proofs.Common.{⊎_elim, sym, ap, ◌∙◌, subst, arith, drop-cons, length-set, length-append, length-drop}
use borrow.Rule.Slice.PartMut.{put_mid, mid_of}
use lib.Dec.{ltb}
use Rattle.std.specs.List.{remove, position_or_len}
use Rattle.std.proofs.lemmas.Bool.{cases_lt, lt-ltb, le-ltb}
use Rattle.std.proofs.lemmas.Bool.Decides.{nat_tests}
use Rattle.std.proofs.lemmas.Grind.{replicate_next}
use Rattle.std.proofs.lemmas.List.{append_assoc, append-nil, set_split, set-get_or, take-take, take_at, drop_at, take-append-drop, get_or-take, length-take, length-take-le, length-replicate, drop-replicate, drop-set-lt, drop-drop, take-set, take_more_set, get_or-set_same}
use Rattle.std.proofs.lemmas.List.Edits.{length-remove, remove-append_left}
use Rattle.std.proofs.lemmas.List.Folds.{find_at}
use Rattle.std.proofs.lemmas.Option.{slice_get-get_or, slice_get_past}
use Rattle.std.proofs.lemmas.Slice.{between_is}
use Rattle.desk.specs.declared.Order.{Order}
use Rattle.desk.specs.Orders.{look_up, CanOpen, inserted, without, Opened, Closed}
use Rattle.desk.specs.Sets.{sorted, Distinct}
use Rattle.tray.specs.Trays.{blank, PlacedAt, slots_of, TraySound, Filled}
use Rattle.desk.specs.OrderLaws.{look_up-number, none_is}
use Rattle.desk.specs.SetLaws.{length-sorted, union_middle, absent_front, without_middle, distinct_more, distinct_less, look_up-sorted, closed_middle}

pub few_tray : (orders : List Order) → TraySound orders → length (sorted orders) ≤ 64
few_tray orders s = omega (arith, s.few, length-sorted orders)

-- an order behind the others
pub distinct_last : (o : Order) (xs : List Order) → look_up o.number xs ≡ None → Distinct xs → Distinct (xs ++ o ∷ [])
distinct_last o xs none d = grind (arith, append-nil, distinct_more o xs [])

pub sorted_last : (o : Order) (xs : List Order) → look_up o.number xs ≡ None → sorted (xs ++ o ∷ []) ≡ inserted o (sorted xs)
sorted_last o xs none = grind (arith, append-nil, union_middle o xs [] [])

-- one order less
absent_removed : (n : ℕ) (xs : List Order) (i : ℕ) → look_up n xs ≡ None → look_up n (remove xs i) ≡ None
absent_removed n [] zero h = refl
absent_removed n [] (suc i) h = refl
absent_removed n (x ∷ xs) zero h = grind (arith, nat_tests)
absent_removed n (x ∷ xs) (suc i) h = let e = absent_removed n xs i in grind (arith, nat_tests)

pub distinct_removed : (xs : List Order) (i : ℕ) → Distinct xs → Distinct (remove xs i)
distinct_removed [] zero d = tt
distinct_removed [] (suc i) d = tt
distinct_removed (x ∷ xs) zero d = d.1
distinct_removed (x ∷ xs) (suc i) d = (absent_removed x.number xs i d.0, distinct_removed xs i d.1)

-- where the search for n ends
pub searched : (n : ℕ) (xs : List Order) → let k = position_or_len (λ o. o.number == n) xs in MatchOption (cond (ltb k (length xs)) (Some k) None) (look_up n xs ≡ None) (PlacedAt n xs)
searched n xs =
    let p = λ (o : Order). o.number == n in
    let k : ℕ = position_or_len p xs in
    ⊎_elim
    (λ l. let found = find_at p xs ∙ slice_get-get_or xs k blank l in rw (lt-ltb k (length xs) l) (record { inside = l; found = found; numbered = look_up-number n (get_or xs k blank) xs found }))
    (λ l. rw (le-ltb k (length xs) l) (find_at p xs ∙ slice_get_past xs k l))
    (cases_lt k (length xs))

-- the order at i, which n finds, taken out of orders with distinct numbers
module _ (n : ℕ) (xs : List Order) (i : ℕ) (inside : i < length xs) (d : Distinct xs) (found : look_up n xs ≡ Some (get_or xs i blank)) where
  split : xs ≡ take i xs ++ get_or xs i blank ∷ drop (suc i) xs
  split = sym (set-get_or xs i blank) ∙ set_split xs i (get_or xs i blank) inside

  closed_at : Closed n (sorted xs) (sorted (remove xs i)) (Ok (get_or xs i blank))
  closed_at =
      subst (λ zs. Closed n (sorted zs) (sorted (remove xs i)) (Ok (get_or xs i blank))) (sym split)
      (closed_middle (get_or xs i blank) (take i xs) (drop (suc i) xs) n (look_up-number n (get_or xs i blank) xs found) (subst Distinct split d))

  pub sorted_less : without n (sorted xs) ≡ sorted (remove xs i)
  sorted_less = sym closed_at.2

  pub sorted_again : inserted (get_or xs i blank) (sorted (remove xs i)) ≡ sorted xs
  sorted_again = sym closed_at.3

  pub absent_less : look_up n (sorted (remove xs i)) ≡ None
  absent_less = closed_at.4

  pub parted_at : without n xs ≡ remove xs i
  parted_at =
      let e = distinct_less (get_or xs i blank) (take i xs) (drop (suc i) xs) (subst Distinct split d) in
      ap (λ m. without m xs) (sym (look_up-number n (get_or xs i blank) xs found)) ∙ ap (without (get_or xs i blank).number) split ∙ without_middle (get_or xs i blank) (take i xs) (drop (suc i) xs) (absent_front (get_or xs i blank).number (take i xs) (drop (suc i) xs) e.0)

-- the slots of some orders
filled_of : (xs : List Order) → length xs ≤ 64 → Distinct xs → Filled (slots_of xs) (length xs)
filled_of xs few d =
    let rest = replicate (64 - length xs) blank in
    record {
      long = omega (arith, few, length-append xs rest, length-replicate (64 - length xs) blank);
      few = few;
      distinct = subst Distinct (sym (take_at xs rest (length xs) refl)) d;
      rest = drop_at xs rest (length xs) refl;
    }

module _ (slots : List Order) (len : ℕ) (f : Filled slots len) where
  pub length-arrived : length (take len slots) ≡ len
  length-arrived = length-take-le len slots (omega (arith, f.long, f.few))

  pub sound_of : TraySound (take len slots)
  sound_of = record { few = omega (arith, length-arrived, f.few); distinct = f.distinct }

  pub slots_back : slots_of (take len slots) ≡ slots
  slots_back = ap (λ k. take len slots ++ replicate (64 - k) blank) length-arrived ∙ ap (λ ys. take len slots ++ ys) (sym f.rest) ∙ take-append-drop len slots

  pub filled_more : (o : Order) → CanOpen o (take len slots) → Filled (slice_set slots len o) (len + 1)
  filled_more o can =
      let room : len < 64 = omega (arith, can.0, length-arrived) in
      let none : look_up o.number (take len slots) ≡ None = grind (arith, can.1) in
      let next : 64 - len - 1 ≡ 64 - (len + 1) = omega arith in
      record {
        long = length-set slots len o ∙ f.long;
        few = omega (arith, room);
        distinct = subst Distinct (sym (take_more_set slots len o (omega (arith, f.long)))) (distinct_last o (take len slots) none f.distinct);
        rest = drop-set-lt (len + 1) slots len o (omega arith) ∙ sym (drop-drop 1 len slots) ∙ ap (drop 1) f.rest ∙ drop-replicate 1 (64 - len) blank ∙ ap (λ k. replicate k blank) next;
      }

  -- the order at i is taken out: b is put there, and the slots from i to n are turned left by one, which may reach into the blank ones
  module _ (i n : ℕ) (b : Order) (ys : List Order) (inside : i < len) (reach : len ≤ n) (within : n ≤ 64) (e : b ≡ blank) (turned : ys ≡ drop 1 (mid_of i (n - i) (slice_set slots i b)) ++ take 1 (mid_of i (n - i) (slice_set slots i b))) where
    one_less : length (remove (take len slots) i) + 1 ≡ len
    one_less = length-remove (take len slots) i (omega (arith, length-arrived, inside)) ∙ length-arrived

    without_blank : remove (slice_set slots i b) i ≡ remove (take len slots) i ++ replicate (64 - len) blank
    without_blank =
        let rest : 64 - length (take len slots) ≡ 64 - len = ap (λ k. 64 - k) length-arrived in
        ap (λ zs. zs ++ drop (suc i) (slice_set slots i b)) (take-set slots i b) ∙ ap (λ zs. take i slots ++ zs) (drop-set-lt (suc i) slots i b (omega arith)) ∙ ap (λ zs. remove zs i) (sym slots_back)
        ∙ remove-append_left (take len slots) (replicate (64 - length (take len slots)) blank) i (omega (arith, length-arrived, inside)) ∙ ap (λ k. remove (take len slots) i ++ replicate k blank) rest

    -- a blank slot before those from n on is one behind them
    blank_last : blank ∷ drop n (slice_set slots i b) ≡ drop n (slice_set slots i b) ++ blank ∷ []
    blank_last =
        let there : len + (n - len) ≡ n = omega arith in
        let all : drop n (slice_set slots i b) ≡ replicate (64 - len - (n - len)) blank =
        drop-set-lt n slots i b (omega arith) ∙ ap (λ k. drop k slots) (sym there) ∙ sym (drop-drop (n - len) len slots) ∙ ap (drop (n - len)) f.rest ∙ drop-replicate (n - len) (64 - len) blank in
        let more : suc (64 - len - (n - len)) ≡ 64 - len - (n - len) + 1 = omega arith in
        ap (λ zs. blank ∷ zs) all ∙ ap (λ k. replicate k blank) more ∙ replicate_next (64 - len - (n - len)) blank ∙ ap (λ zs. zs ++ blank ∷ []) (sym all)

    slots_turned : put_mid i (n - i) (slice_set slots i b) ys ≡ remove (slice_set slots i b) i ++ blank ∷ []
    slots_turned =
        let xs = slice_set slots i b in
        let at : i < length xs = omega (arith, length-set slots i b, f.long, f.few, inside) in
        let here : get_or xs i b ≡ blank = get_or-set_same slots i b b (omega (arith, f.long, f.few, inside)) ∙ e in
        let long : n - i ≡ suc (n - suc i) = omega arith in
        let part : mid_of i (n - i) xs ≡ blank ∷ take (n - suc i) (drop (suc i) xs) =
        ap (λ k. take k (drop i xs)) long ∙ ap (take (suc (n - suc i))) (drop-cons xs i b at) ∙ ap (λ o. o ∷ take (n - suc i) (drop (suc i) xs)) here in
        let to : i + (n - i) ≡ n = omega arith in
        let behind : drop (n - i) (drop i xs) ≡ drop n xs = drop-drop (n - i) i xs ∙ ap (λ k. drop k xs) to in
        let also : suc i + (n - suc i) ≡ n = omega arith in
        let rest : drop (n - suc i) (drop (suc i) xs) ≡ drop n xs = drop-drop (n - suc i) (suc i) xs ∙ ap (λ k. drop k xs) also in
        let front : ys ≡ take (n - suc i) (drop (suc i) xs) ++ blank ∷ [] = turned ∙ ap (λ zs. drop 1 zs ++ take 1 zs) part in
        let whole : take (n - suc i) (drop (suc i) xs) ++ drop n xs ≡ drop (suc i) xs =
        ap (λ zs. take (n - suc i) (drop (suc i) xs) ++ zs) (sym rest) ∙ take-append-drop (n - suc i) (drop (suc i) xs) in
        ap (λ zs. take i xs ++ (zs ++ drop (n - i) (drop i xs))) front ∙ ap (λ zs. take i xs ++ ((take (n - suc i) (drop (suc i) xs) ++ blank ∷ []) ++ zs)) behind
        ∙ ap (λ zs. take i xs ++ zs) (append_assoc (take (n - suc i) (drop (suc i) xs)) (blank ∷ []) (drop n xs) ∙ ap (λ zs. take (n - suc i) (drop (suc i) xs) ++ zs) blank_last ∙ sym (append_assoc (take (n - suc i) (drop (suc i) xs)) (drop n xs) (blank ∷ [])) ∙ ap (λ zs. zs ++ blank ∷ []) whole)
        ∙ sym (append_assoc (take i xs) (drop (suc i) xs) (blank ∷ []))

    slots_less : put_mid i (n - i) (slice_set slots i b) ys ≡ slots_of (remove (take len slots) i)
    slots_less =
        let rest : 64 - len + 1 ≡ 64 - length (remove (take len slots) i) = omega (arith, one_less, f.few) in
        slots_turned ∙ ap (λ zs. zs ++ blank ∷ []) without_blank
        ∙ append_assoc (remove (take len slots) i) (replicate (64 - len) blank) (blank ∷ []) ∙ ap (λ zs. remove (take len slots) i ++ zs) (sym (replicate_next (64 - len) blank)) ∙ ap (λ k. remove (take len slots) i ++ replicate k blank) rest

    less : len - 1 ≡ length (remove (take len slots) i)
    less = omega (arith, one_less)

    pub filled_less : Filled (put_mid i (n - i) (slice_set slots i b) ys) (len - 1)
    filled_less = rw (slots_less, less) (filled_of (remove (take len slots) i) (omega (arith, one_less, f.few)) (distinct_removed (take len slots) i f.distinct))

    pub arrived_less : take (len - 1) (put_mid i (n - i) (slice_set slots i b) ys) ≡ remove (take len slots) i
    arrived_less = rw (slots_less, less) (take_at (remove (take len slots) i) (replicate (64 - length (remove (take len slots) i)) blank) (length (remove (take len slots) i)) refl)

-- the part from i to n is turned left by one: ps is that part, and ys what it becomes
module _ (xs : List Order) (i n : ℕ) (ps ys : List Order) (l : i < n) (m : n ≤ length xs) (part : ps ≡ slice_range xs i n) (turned : ys ≡ drop 1 ps ++ take 1 ps) where
  cut : ps ≡ drop i (take n xs)
  cut = part ∙ between_is xs i n

  whole : length (take n xs) ≡ n
  whole = length-take-le n xs m

  front : take i xs ++ drop 1 ps ≡ remove (take n xs) i
  front =
      let next : i + 1 ≡ suc i = omega arith in
      ap (λ zs. zs ++ drop 1 ps) (sym (take-take i n xs (omega arith))) ∙ ap (λ zs. take i (take n xs) ++ zs) (ap (drop 1) cut ∙ drop-drop 1 i (take n xs) ∙ ap (λ k. drop k (take n xs)) next)

  front_length : length (take i xs ++ drop 1 ps) ≡ n - 1
  front_length = omega (arith, ap length front, length-remove (take n xs) i (omega (arith, whole)), whole)

  shape : put_mid i (n - i) xs ys ≡ (take i xs ++ drop 1 ps) ++ (take 1 ps ++ drop (n - i) (drop i xs))
  shape = rw turned (simp append_assoc)

  turned_take : take (n - 1) (put_mid i (n - i) xs ys) ≡ remove (take n xs) i
  turned_take = ap (take (n - 1)) shape ∙ take_at (take i xs ++ drop 1 ps) (take 1 ps ++ drop (n - i) (drop i xs)) (n - 1) front_length ∙ front

  turned_length : length (put_mid i (n - i) xs ys) ≡ length xs
  turned_length =
      let some : length ps ≡ n - i = omega (arith, ap length cut, length-drop i (take n xs), whole) in
      omega (
        arith,
        ap length shape,
        length-append (take i xs ++ drop 1 ps) (take 1 ps ++ drop (n - i) (drop i xs)),
        front_length,
        length-append (take 1 ps) (drop (n - i) (drop i xs)),
        length-take-le 1 ps (omega arith),
        length-drop (n - i) (drop i xs),
        length-drop i xs,
      )

-- 64 slots of which the first len hold the orders, whatever the others hold
module _ (slots : List Order) (len : ℕ) (long : length slots ≡ 64) (few : len ≤ 64) (s : TraySound (take len slots)) where
  size : length (take len slots) ≡ len
  size = length-take-le len slots (omega (arith, long))

  pub length_tray : length (sorted (take len slots)) ≡ len
  length_tray = length-sorted (take len slots) ∙ size

  pub appended : (o : Order) → len < 64 → take (len + 1) (slice_set slots len o) ≡ take len slots ++ o ∷ []
  appended o room = take_more_set slots len o (omega (arith, long))

  pub joined : (o : Order) → CanOpen o (sorted (take len slots))
      → (length (slice_set slots len o) ≡ 64) × TraySound (take (len + 1) (slice_set slots len o)) × Opened o (sorted (take len slots)) (sorted (take (len + 1) (slice_set slots len o))) (Ok tt)
  joined o can =
      let xs = take len slots in
      let none = none_is (look_up o.number (sorted xs)) can.1 in
      let absent : look_up o.number xs ≡ None = sym (look_up-sorted o.number xs s.distinct) ∙ none in
      let room : len < 64 = omega (arith, can.0, length_tray) in
      rw (appended o room) (
        length-set slots len o ∙ long,
        record { few = omega (arith, length-append xs (o ∷ []), size); distinct = distinct_last o xs absent s.distinct },
        (can.0, none, sorted_last o xs absent),
      )

  -- the order of n stands at i
  module _ (n i : ℕ) (inside : i < len) (found : look_up n (take len slots) ≡ Some (slice_index_or slots i blank)) where
    -- the slots from i on are turned left by one
    pub parted : (ys : List Order) → ys ≡ drop 1 (slice_range slots i len) ++ take 1 (slice_range slots i len)
        → (length (put_mid i (len - i) slots ys) ≡ 64) × TraySound (take (len - 1) (put_mid i (len - i) slots ys)) × Closed n (sorted (take len slots)) (sorted (take (len - 1) (put_mid i (len - i) slots ys))) (Ok (slice_index_or slots i blank)) × (take (len - 1) (put_mid i (len - i) slots ys) ≡ without n (take len slots))
    parted ys turned =
        let xs = take len slots in
        let within : i < length xs = omega (arith, size, inside) in
        let at : get_or xs i blank ≡ get_or slots i blank = get_or-take len slots i blank inside in
        let there : look_up n xs ≡ Some (get_or xs i blank) = found ∙ ap Some (sym at) in
        let left : take (len - 1) (put_mid i (len - i) slots ys) ≡ remove xs i = turned_take slots i len (slice_range slots i len) ys inside (omega (arith, long)) refl turned in (
          turned_length slots i len (slice_range slots i len) ys inside (omega (arith, long)) refl turned ∙ long,
          rw left (record { few = omega (arith, length-remove xs i within, s.few); distinct = distinct_removed xs i s.distinct }),
          rw left (subst (λ o. Closed n (sorted xs) (sorted (remove xs i)) (Ok o)) at (closed_at n xs i within s.distinct there)),
          left ∙ sym (parted_at n xs i within s.distinct there),
        )

-- what is told of the place of a number: a is what came, and r where it was found there
pub placed : (slots : List Order) (len : ℕ) (few : len ≤ 64) (n : ℕ) (a : List Order) (r : Option ℕ) → a ≡ take len slots
    → MatchOption r (look_up n a ≡ None) (λ i. (i < length a) × (look_up n a ≡ Some (slice_index_or a i blank)))
    → MatchOption r (TraySound (take len slots) → look_up n (sorted (take len slots)) ≡ None)
    (λ i. (i < len) × (look_up n (take len slots) ≡ Some (slice_index_or slots i blank)) × (TraySound (take len slots) → look_up n (sorted (take len slots)) ≡ Some (slice_index_or slots i blank)))
placed slots len few n a None is h = λ s. look_up-sorted n (take len slots) s.distinct ∙ ap (look_up n) (sym is) ∙ h
placed slots len few n a (Some i) is h =
    let inside : i < len = omega (arith, h.0, ap length is, length-take len slots) in
    let found : look_up n (take len slots) ≡ Some (slice_index_or slots i blank) = ap (look_up n) (sym is) ∙ h.1 ∙ ap Some (ap (λ zs. get_or zs i blank) is ∙ get_or-take len slots i blank inside) in
    (inside, found, λ s. look_up-sorted n (take len slots) s.distinct ∙ found)

-- what a call on a tray does to its orders
pub ruleset calls = (length-sorted, look_up-sorted, sorted_last, distinct_last, sorted_less, sorted_again, absent_less, parted_at, length-arrived, distinct_removed, length-remove, length-append)
