-- What one call after another does to the orders. Assumes nothing.
use Rattle.std.proofs.Common.{◌≡◌, ℕ, cond, List, [], ◌∷◌, ◌++◌, is_some, Some, None, Ok, Err, Result, ◌==◌, length, filter, sym, ◌∙◌, refl, arith}
use Rattle.std.proofs.lemmas.Bool.Decides.{nat_tests}
use Rattle.std.proofs.lemmas.List.Sums.{length-filter}
use Rattle.desk.specs.declared.Order.{Order}
use Rattle.desk.specs.declared.Refusal.{Refusal}
use Rattle.desk.specs.declared.Refusal.TheVariants.{Full, AlreadyOpen, NotOpen}
use Rattle.desk.specs.Orders.{inserted, look_up, Ascending, Opened, Closed}
use Rattle.desk.specs.Calls.{numbered, AllBelow, OpenedLast, CameBack, Transferred}
use Rattle.desk.specs.OrderLaws.{look_up-inserted, without-inserted, look_up-number, absent_above}
use Rattle.desk.specs.SetLaws.{union-first, union-second}

-- a list that ascends has each number once at most
filtered_absent : (n : ℕ) (xs : List Order) → look_up n xs ≡ None → length (filter (λ x. x.number == n) xs) ≡ 0
filtered_absent n [] h = refl
filtered_absent n (x ∷ xs) h = grind (arith, nat_tests, filtered_absent n xs)

filtered_is : (n : ℕ) (xs : List Order) → Ascending xs → length (filter (λ x. x.number == n) xs) ≡ cond (is_some (look_up n xs)) 1 0
filtered_is n [] a = refl
filtered_is n (x ∷ xs) a = let e = absent_above x.number xs a.0 a.1 in grind (arith, nat_tests, filtered_absent, filtered_is n xs)

pub numbered_is : (n : ℕ) (xs : List Order) → Ascending xs → numbered n xs ≡ cond (is_some (look_up n xs)) 1 0
numbered_is n xs a = sym (length-filter (λ x. x.number == n) xs) ∙ filtered_is n xs a

-- a number above all others
pub absent_below : (n : ℕ) (xs : List Order) → AllBelow n xs → look_up n xs ≡ None
absent_below n [] b = refl
absent_below n (x ∷ xs) b = grind (arith, nat_tests, absent_below n xs)

pub inserted_last : (o : Order) (xs : List Order) → AllBelow o.number xs → inserted o xs ≡ xs ++ o ∷ []
inserted_last o [] b = refl
inserted_last o (x ∷ xs) b = grind (arith, nat_tests, inserted_last o xs)

pub ruleset last_opened = (absent_below, inserted_last)

pub opened_last : (o : Order) (before after : List Order) (r : Result (Unit {0}) Refusal) → AllBelow o.number before → Opened o before after r → OpenedLast o before after r
opened_last o before after (Ok u) b h = grind (arith, inserted_last)
opened_last o before after (Err Full) b h = h
opened_last o before after (Err AlreadyOpen) b h = grind (arith, absent_below)
opened_last o before after (Err NotOpen) b h = h

-- an opening and its closing
pub came-back : (o : Order) (before between after : List Order) (u : Unit {0}) (r : Result Order Refusal) → Opened o before between (Ok u) → Closed o.number between after r → CameBack o before after r
came-back o before between after u (Ok p) h c = grind (arith, look_up-inserted, without-inserted)
came-back o before between after u (Err Full) h c = absurd c
came-back o before between after u (Err AlreadyOpen) h c = absurd c
came-back o before between after u (Err NotOpen) h c = grind (arith, look_up-inserted)

-- an order goes from xs to ys
module _ (n : ℕ) (o : Order) (xs ys zs : List Order) (found : look_up n xs ≡ Some o) where
  pub not_transferred : (e : Refusal) → Opened o ys zs (Err e) → Transferred n xs ys xs zs (Err e)
  not_transferred Full h = grind arith
  not_transferred AlreadyOpen h = grind (arith, look_up-number)
  not_transferred NotOpen h = absurd h

  pub transferred : (u : Unit {0}) (ws : List Order) (r : Result Order Refusal) → Opened o ys zs (Ok u) → Closed n xs ws r → Transferred n xs ys ws zs r
  transferred u ws (Ok p) h c = grind (arith, look_up-number, union-first, union-second)
  transferred u ws (Err Full) h c = absurd c
  transferred u ws (Err AlreadyOpen) h c = absurd c
  transferred u ws (Err NotOpen) h c = grind arith

-- what an order leaves that is put in and taken out again
pub ruleset opened_then_closed = (look_up-inserted, without-inserted)

-- the number of an order that was found, and what two lists together hold with the order in either
pub ruleset moved_over = (look_up-number, union-first, union-second)
