-- The search through the rules: the first answer of a closure at the items of a run.
use Rattle.std.proofs.Common.{◌≡◌, ℕ, zero, suc, ◌+◌, ◌<◌, List, [], ◌∷◌, length, get_or, Some, None, Option, sym, refl, ap, ◌∙◌, arith}
use Rattle.std.specs.Bool.{IsTrue}
use Rattle.std.specs.Fn.{Called, Mut}
use Rattle.std.specs.Option.{MatchOption, IfSome, IsSomeAnd, option_map}
use Rattle.std.specs.List.{filter_map, cons_option, slice_get}
use Rattle.std.specs.Iterator.Runs.{Run, SomeRun, EachRunFrom, ItemsMapTo, AllItemsGive, IsFirstToGive}

-- an item at place k of a run that goes along a list
record Item {A B : Type 0} (v : A → B) (P : A → Type 0) (y : B) : Type 0 where
  pub item : A
  pub reads : v item ≡ y
  pub holds : P item

if_some : {A B : Type 0} (v : A → B) (P : A → Type 0) (o : Option A) (y : B) → option_map v o ≡ Some y → IfSome o P → Item v P y
if_some v P None y e h = absurd cc
if_some v P (Some x) y e h = record { item = x; reads = cc; holds = h }

some_and : {A B : Type 0} (v : A → B) (P : A → Type 0) (o : Option A) (y : B) → option_map v o ≡ Some y → IsSomeAnd o P → Item v P y
some_and v P None y e h = absurd h
some_and v P (Some x) y e h = record { item = x; reads = cc; holds = h }

module _ {B C : Type 0} (h : B → Option C) where
  nothing : (xs : List B) → ((k : ℕ) (d : B) → k < length xs → h (get_or xs k d) ≡ None) → None ≡ slice_get (filter_map h xs) 0
  nothing [] e = refl
  nothing (x ∷ xs) e = nothing xs (λ k d l. e (suc k) d (omega arith)) ∙ ap (λ o. slice_get (cons_option o (filter_map h xs)) 0) (sym (e 0 x (omega arith)))

  first_at : (xs : List B) (i : ℕ) (y : C) → i < length xs → ((d : B) → h (get_or xs i d) ≡ Some y) → ((k : ℕ) (d : B) → k < i → h (get_or xs k d) ≡ None) → Some y ≡ slice_get (filter_map h xs) 0
  first_at [] i y l e n = absurd (omega arith)
  first_at (x ∷ xs) zero y l e n = ap (λ o. slice_get (cons_option o (filter_map h xs)) 0) (sym (e x))
  first_at (x ∷ xs) (suc i) y l e n = first_at xs i y (omega arith) e (λ k d m. n (suc k) d (omega arith)) ∙ ap (λ o. slice_get (cons_option o (filter_map h xs)) 0) (sym (n 0 x (omega arith)))

  -- what `find_map` gives, where the closure computes h of each item
  pub first_from_runs : {S A F : Type 0} {steps : S → Option A → S → Type 0} {s : S} (v : A → B) (xs : List B) (g : Mut F (A × Unit {0}) (Option C)) (f : F) (r : Option C)
      → SomeRun steps s (λ p. MatchOption r (IsTrue p.whole × AllItemsGive p g f None) (λ y. (i : ℕ) × (i < p.len) × (p.len ≡ i + 1) × IsFirstToGive p g f (Some y) None i))
      → EachRunFrom steps s (λ p. ItemsMapTo p v xs)
      → ((x : A) (o : Option C) (q : F) → Called g f (x, tt) o q → (q ≡ f) × (o ≡ h (v x)))
      → r ≡ slice_get (filter_map h xs) 0
  first_from_runs {A = A} {F = F} {steps = steps} v xs g f r w each k = go r w.2
    where
      p : Run steps
      p = w.0

      it : ItemsMapTo p v xs
      it = each p p.seen w.1

      keeps : (a : A × Unit {0}) (o : Option C) (q : F) → Called g f a o q → q ≡ f
      keeps a o q c = (k a.0 o q c).0

      gives : (o : Option C) (y : B) → Item v (λ x. Called g f (x, tt) o f) y → h y ≡ o
      gives o y i = ap h (sym i.reads) ∙ sym (k i.item o f i.holds).1

      go : (o : Option C) → MatchOption o (IsTrue p.whole × AllItemsGive p g f None) (λ y. (i : ℕ) × (i < p.len) × (p.len ≡ i + 1) × IsFirstToGive p g f (Some y) None i) → o ≡ slice_get (filter_map h xs) 0
      go None m = nothing xs (λ k d l. gives None (get_or xs k d) (if_some v _ (p.at k) _ (it.2 k d (omega (arith, it.1 m.0))) (m.1 keeps k)))
      go (Some y) m =
          let w = m.3 keeps in
          first_at xs m.0 y (omega (arith, it.0, m.1)) (λ d. gives (Some y) (get_or xs m.0 d) (some_and v _ (p.at m.0) _ (it.2 m.0 d m.1) w.0)) (λ k d l. gives None (get_or xs k d) (some_and v _ (p.at k) _ (it.2 k d (omega (arith, m.1))) (w.1 k l)))
