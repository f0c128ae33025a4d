-- The order of leaving is kept by putting and taking. Assumes nothing.
use Rattle.std.proofs.Common.{◌≡◌, ◌+◌, Bool, true, false, cond, ◌&&◌, List, [], ◌∷◌, ◌++◌, length, Some, None, count_by, filter, Option, sym, refl, ap, ◌∙◌, subst, ⊎_elim, arith}
use Rattle.std.specs.List.{AllByRecursion}
use Rattle.std.proofs.lemmas.List.{append-nil}
use Rattle.std.proofs.lemmas.List.Elements.{filter-append, filter_agree}
use Rattle.std.proofs.ByRecursion.{All-weaker, All-append, all_kept_by}
use Rattle.std.proofs.lemmas.List.Sums.{sum_by-cons, sum_by-append, sum_by_push}
use Rattle.std.proofs.lemmas.Bool.{and_parts, and_left, and_right, cases_Bool, cond-true}
use Rattle.bag.specs.Records.{put_in, head_of, tail_of, first_with, without_first, none_before, in_order}
use Rattle.bag.specs.Leaving.{same_rank, Arranged, Leaves, Taken, any, count_if, Lowest, FirstLaw, PutLaw, TakeLaw}
use Rattle.std.specs.List.{position}
pub use Rattle.bag.proofs.Records.{find_none, find_found, without_none, without_found}
use Rattle.bag.proofs.Records.{order_put_in, order_without, put_in_place}

module _ {R : Type 0} where
  all_both : (P Q S : R → Type 0) → ((x : R) → P x → Q x → S x) → (xs : List R) → AllByRecursion P xs → AllByRecursion Q xs → AllByRecursion S xs
  all_both P Q S f [] a b = tt
  all_both P Q S f (x ∷ xs) a b = (f x a.0 b.0, all_both P Q S f xs a.1 b.1)

  all_left : (P : R → Type 0) (xs ys : List R) → AllByRecursion P (xs ++ ys) → AllByRecursion P xs
  all_left P [] ys a = tt
  all_left P (x ∷ xs) ys a = (a.0, all_left P xs ys a.1)

  all_right : (P : R → Type 0) (xs ys : List R) → AllByRecursion P (xs ++ ys) → AllByRecursion P ys
  all_right P [] ys a = a
  all_right P (x ∷ xs) ys a = all_right P xs ys a.1

  module _ (p : R → Bool) where
    kept-none : (xs : List R) → AllByRecursion (λ x. p x ≡ false) xs → filter p xs ≡ []
    kept-none [] a = refl
    kept-none (x ∷ xs) a = grind (arith, kept-none xs)

    kept_skip : (us : List R) (x : R) (vs : List R) → p x ≡ false → filter p (us ++ (x ∷ vs)) ≡ filter p (us ++ vs)
    kept_skip us x vs e = grind (arith, filter-append p us (x ∷ vs), filter-append p us vs)

    kept_there : (us : List R) (x : R) (vs : List R) → p x ≡ true → filter p (us ++ (x ∷ vs)) ≡ filter p us ++ (x ∷ filter p vs)
    kept_there us x vs e = grind (arith, filter-append p us (x ∷ vs))

    -- what holds of all that a filter keeps
    all_from_kept : (Q : R → Type 0) (xs : List R) → AllByRecursion Q (filter p xs) → AllByRecursion (λ x. p x ≡ true → Q x) xs
    all_from_kept Q [] a = tt
    all_from_kept Q (x ∷ xs) a = grind (arith, all_from_kept Q xs)

    pub count_cons : (x : R) (xs : List R) → count_by p (x ∷ xs) ≡ cond (p x) 1 0 + count_by p xs
    count_cons x xs = sum_by-cons (λ y. cond (p y) 1 0) x xs

    count-there : (us : List R) (x : R) (vs : List R) → count_by p (us ++ (x ∷ vs)) ≡ count_by p (us ++ vs) + cond (p x) 1 0
    count-there us x vs =
        omega (arith, sum_by-append (λ y. cond (p y) 1 0) us (x ∷ vs), sum_by-append (λ y. cond (p y) 1 0) us vs, count_cons x vs)

    none_from_count : (xs : List R) → count_by p xs ≡ 0 → AllByRecursion (λ x. p x ≡ false) xs
    none_from_count [] h = tt
    none_from_count (x ∷ xs) h = grind (arith, count_cons x xs, none_from_count xs)

    count_from_none : (xs : List R) → AllByRecursion (λ x. p x ≡ false) xs → count_by p xs ≡ 0
    count_from_none [] a = refl
    count_from_none (x ∷ xs) a = grind (arith, count_cons x xs, count_from_none xs)

  count-all : (xs : List R) → count_by any xs ≡ length xs
  count-all [] = refl
  count-all (x ∷ xs) = let rest = count-all xs in omega (arith, count_cons any x xs)

  -- the same records are as many
  pub count_any : (xs puts : List R) → ((q : R → Bool) → count_by q xs ≡ count_by q puts) → length xs ≡ length puts
  count_any xs puts same = sym (count-all xs) ∙ same any ∙ count-all puts

  -- a test that the list's records fail fails of the same records in another order
  all_moved : (xs puts : List R) → ((q : R → Bool) → count_by q xs ≡ count_by q puts) → (q : R → Bool) → AllByRecursion (λ x. q x ≡ false) xs → AllByRecursion (λ x. q x ≡ false) puts
  all_moved xs puts same q a = none_from_count q puts (sym (same q) ∙ count_from_none q xs a)

-- a list at one of the records that a filter keeps
record Cut {R : Type 0} (p : R → Bool) (xs us : List R) (x : R) (vs : List R) : Type 0 where
  pub front : List R
  pub back : List R
  pub is : xs ≡ front ++ (x ∷ back)
  pub front_kept : filter p front ≡ us
  pub back_kept : filter p back ≡ vs

module _ {R : Type 0} (p : R → Bool) where
  cut-more : (y : R) (xs us : List R) (x : R) (vs ds : List R) → filter p (y ∷ []) ++ us ≡ ds → Cut p xs us x vs → Cut p (y ∷ xs) ds x vs
  cut-more y xs us x vs ds e c = record {
    front = y ∷ c.front;
    back = c.back;
    is = ap (λ l. y ∷ l) c.is;
    front_kept = filter-append p (y ∷ []) c.front ∙ ap (λ l. filter p (y ∷ []) ++ l) c.front_kept ∙ e;
    back_kept = c.back_kept;
  }

  cut : (xs us : List R) (x : R) (vs : List R) → filter p xs ≡ us ++ (x ∷ vs) → Cut p xs us x vs
  cut [] [] x vs e = absurd (grind arith)
  cut [] (a ∷ us) x vs e = absurd (grind arith)
  cut (y ∷ ys) [] x vs e =
      ⊎_elim
      (λ t. let e' = rw t at e in record { front = []; back = ys; is = grind arith; front_kept = refl; back_kept = cc })
      (λ t. cut-more y ys [] x vs [] (rw t) (cut ys [] x vs (rw t at e)))
      (cases_Bool (p y))
  cut (y ∷ ys) (a ∷ us) x vs e =
      ⊎_elim
      (λ t. let e' = rw t at e in cut-more y ys us x vs (a ∷ us) (grind arith) (cut ys us x vs (cc)))
      (λ t. cut-more y ys (a ∷ us) x vs (a ∷ us) (rw t) (cut ys (a ∷ us) x vs (rw t at e)))
      (cases_Bool (p y))

-- a list at the first record that passes: those in front of it fail
record Parted {R : Type 0} (p : R → Bool) (xs : List R) (x : R) (ys : List R) : Type 0 where
  pub front : List R
  pub back : List R
  pub were : xs ≡ front ++ (x ∷ back)
  pub stay : ys ≡ front ++ back
  pub fail : AllByRecursion (λ y. p y ≡ false) front
  pub passes : p x ≡ true

abbrev FirstOf : {R : Type 0} → (R → Bool) → List R → Option R → List R → Type 0
FirstOf p xs None ys = AllByRecursion (λ y. p y ≡ false) xs × (ys ≡ xs)
FirstOf p xs (Some x) ys = Parted p xs x ys

module _ {R : Type 0} (p : R → Bool) where
  first_more : (y : R) (xs : List R) (r : Option R) (ys : List R) → p y ≡ false → FirstOf p xs r ys → FirstOf p (y ∷ xs) r (y ∷ ys)
  first_more y xs None ys e f = ((e, f.0), ap (λ l. y ∷ l) f.1)
  first_more y xs (Some x) ys e f = record {
    front = y ∷ f.front;
    back = f.back;
    were = ap (λ l. y ∷ l) f.were;
    stay = ap (λ l. y ∷ l) f.stay;
    fail = (e, f.fail);
    passes = f.passes;
  }

  first_of : (xs : List R) → FirstOf p xs (first_with p xs) (without_first p xs)
  first_of [] = (tt, refl)
  first_of (x ∷ xs) =
      ⊎_elim
      (λ e. rw (e) (record { front = []; back = xs; were = refl; stay = refl; fail = tt; passes = e }))
      (λ e. rw (e) (first_more x xs (first_with p xs) (without_first p xs) e (first_of xs)))
      (cases_Bool (p x))

  -- one less of what passes a test, if the record that leaves passes it
  count-first : (q : R → Bool) (xs : List R) (r : Option R) (ys : List R) → FirstOf p xs r ys → count_by q xs ≡ count_by q ys + count_if q r
  count-first q xs None ys f = let e = ap (count_by q) f.1 in omega arith
  count-first q xs (Some x) ys f =
      ap (count_by q) f.were ∙ count-there q f.front x f.back ∙ ap (λ l. count_by q l + cond (q x) 1 0) (sym f.stay)

module _ {R : Type 0} (before : R → R → Bool) (asymmetric : (x y : R) → before x y ≡ true → before y x ≡ false) (transitive : (x y z : R) → before y x ≡ false → before z y ≡ false → before z x ≡ false) where
  itself : (x : R) → before x x ≡ false
  itself x = grind (arith, asymmetric x x)

  own_rank : (x : R) → same_rank before x x ≡ true
  own_rank x = grind (arith, itself x)

  -- records of one rank have the same equals
  same-equals : (r x : R) → same_rank before r x ≡ true → (y : R) → same_rank before r y ≡ same_rank before x y
  same-equals r x e y = grind (arith, transitive y r x, transitive y x r, transitive x r y, transitive r x y)

  none-all : (x : R) (xs : List R) → none_before before x xs ≡ true → AllByRecursion (λ y. before y x ≡ false) xs
  none-all x [] a = tt
  none-all x (y ∷ ys) a = grind (arith, none-all x ys)

  -- in a list in order no record ranks before one that stands in front of it
  none_behind : (us : List R) (x : R) (vs : List R) → in_order before (us ++ (x ∷ vs)) ≡ true → AllByRecursion (λ y. before y x ≡ false) vs
  none_behind [] x vs o = none-all x vs (and_parts (none_before before x vs) (in_order before vs) o).0
  none_behind (u ∷ us) x vs o = none_behind us x vs (and_parts (none_before before u (us ++ (x ∷ vs))) (in_order before (us ++ (x ∷ vs))) o).1

  module _ (x : R) where
    count_put : (q : R → Bool) (xs : List R) → count_by q (put_in before x xs) ≡ count_by q xs + cond (q x) 1 0
    count_put q [] = omega (arith, count_cons q x [])
    count_put q (y ∷ ys) = grind (arith, count_put q ys, count_cons q y ys, count_cons q x (y ∷ ys), count_cons q y (put_in before x ys))

    -- where x ranks before y, and none of zs before y, no record of zs has the rank of x
    none_equal : (y : R) (zs : List R) → before x y ≡ true → AllByRecursion (λ z. before z y ≡ false) zs → AllByRecursion (λ z. same_rank before x z ≡ false) zs
    none_equal y zs t a = All-weaker (λ z. before z y ≡ false) (λ z. same_rank before x z ≡ false) (λ z h. grind (arith, transitive y z x)) zs a

    -- of the records of one rank x comes last
    equals_put : (r : R) (xs : List R) → in_order before xs ≡ true
        → filter (same_rank before r) (put_in before x xs) ≡ filter (same_rank before r) xs ++ filter (same_rank before r) (x ∷ [])
    equals_put r [] o = refl
    equals_put r (y ∷ ys) o =
        let level = same_rank before r in
        let parts = and_parts (none_before before y ys) (in_order before ys) o in
        -- where x stands in front of y, none that follows has its rank
        let alone = λ (t : before x y ≡ true) (e : level x ≡ true). filter_agree level (same_rank before x) (same-equals r x e) (y ∷ ys)
        ∙ kept-none (same_rank before x) (y ∷ ys) (none_equal y (y ∷ ys) t (itself y, none-all y ys parts.0)) in
        grind (arith, alone, equals_put r ys, append-nil)

    arranged_put : (xs puts : List R) → Arranged before puts xs → Arranged before (puts ++ (x ∷ [])) (put_in before x xs)
    arranged_put xs puts a = record {
      ordered = order_put_in before asymmetric transitive x xs a.ordered;
      equals = λ r. equals_put r xs a.ordered ∙ ap (λ l. l ++ filter (same_rank before r) (x ∷ [])) (a.equals r) ∙ sym (filter-append (same_rank before r) puts (x ∷ []));
      records = λ q. omega (arith, count_put q xs, a.records q, sum_by_push (λ y. cond (q y) 1 0) puts x);
    }

    -- by a test that none else passes
    first_put : (p : R → Bool) (xs : List R) → p x ≡ true → AllByRecursion (λ y. p y ≡ false) xs
        → (first_with p (put_in before x xs) ≡ Some x) × (without_first p (put_in before x xs) ≡ xs)
    first_put p [] t a = (cond-true (p x) _ _ t, cond-true (p x) _ _ t)
    first_put p (y ∷ ys) t a = grind (arith, first_put p ys t)

    put_any : (xs : List R) → PutLaw before x xs (put_in before x xs)
    put_any xs = record {
      place = put_in_place before asymmetric transitive x xs;
      ordered = order_put_in before asymmetric transitive x xs;
      arranged = arranged_put xs;
      counted = λ q. count_put q xs;
      back = λ p t none. first_put p xs t (none_from_count p xs none);
    }

    pub put_law : (xs ys : List R) → ys ≡ put_in before x xs → PutLaw before x xs ys
    put_law xs ys e = subst (PutLaw before x xs) (sym e) (put_any xs)

  module _ (p : R → Bool) where
    -- not lower, and of another rank
    is-higher : (x y : R) → (p y && before y x) ≡ false → (same_rank before x y ≡ true → p y ≡ false) → p y ≡ true → before x y ≡ true
    is-higher x y h other t = grind arith

    module _ (xs puts ys : List R) (x : R) (a : Arranged before puts xs) (f : Parted p xs x ys) where
      abbrev level : R → Bool
      level = same_rank before x

      -- it passes, and is lower than x
      abbrev lower : R → Bool
      lower y = p y && before y x

      -- where x stands in the order of putting
      at_put : Cut level puts (filter level f.front) x (filter level f.back)
      at_put = cut level puts _ x _ (sym (a.equals x) ∙ ap (filter level) f.were ∙ kept_there level f.front x f.back (own_rank x))

      -- of the records that pass none is lower
      passing : AllByRecursion (λ y. lower y ≡ false) puts
      passing =
          let o : in_order before (f.front ++ (x ∷ f.back)) ≡ true = subst (λ l. in_order before l ≡ true) f.were a.ordered in
          let behind = All-weaker (λ y. before y x ≡ false) (λ y. lower y ≡ false) (λ y h. and_right _ _ h) f.back (none_behind f.front x f.back o) in
          let front = All-weaker (λ y. p y ≡ false) (λ y. lower y ≡ false) (λ y h. and_left _ _ h) f.front f.fail in
          let whole = All-append (λ y. lower y ≡ false) f.front (x ∷ f.back) front (and_right _ _ (itself x), behind) in
          all_moved xs puts a.records lower (subst (AllByRecursion (λ y. lower y ≡ false)) (sym f.were) whole)

      leaves : Leaves before p puts x (at_put.front ++ at_put.back)
      leaves =
          let there = subst (AllByRecursion (λ y. lower y ≡ false)) at_put.is passing in
          let fail = subst (AllByRecursion (λ y. p y ≡ false)) (sym at_put.front_kept) (all_kept_by level (λ y. p y ≡ false) f.front f.fail) in
          let behind = all_right (λ y. lower y ≡ false) at_put.front (x ∷ at_put.back) there in
          record {
            earlier = at_put.front;
            later = at_put.back;
            were = at_put.is;
            stay = refl;
            passes = f.passes;
            higher = all_both (λ y. lower y ≡ false) (λ y. level y ≡ true → p y ≡ false) (λ y. p y ≡ true → before x y ≡ true) (is-higher x)
                at_put.front (all_left (λ y. lower y ≡ false) at_put.front (x ∷ at_put.back) there) (all_from_kept level (λ y. p y ≡ false) at_put.front fail);
            no_lower = All-weaker (λ y. lower y ≡ false) (λ y. p y ≡ true → before y x ≡ false) (λ y h t. grind arith) at_put.back behind.1;
          }

      equals-left : (r : R) → filter (same_rank before r) (f.front ++ f.back) ≡ filter (same_rank before r) (at_put.front ++ at_put.back)
      equals-left r =
          let of-r = same_rank before r in
          let kept_as = λ (e : of-r x ≡ true). filter_agree of-r level (same-equals r x e) (f.front ++ f.back) in
          let put_as = λ (e : of-r x ≡ true). filter_agree of-r level (same-equals r x e) (at_put.front ++ at_put.back) in
          let kept = filter-append level f.front f.back in
          let put = filter-append level at_put.front at_put.back in
          let left = kept_skip of-r f.front x f.back in
          let right = kept_skip of-r at_put.front x at_put.back in
          grind (arith, f.were, a.equals r, at_put.is, at_put.front_kept, at_put.back_kept, kept_as, put_as)

      arranged-left : in_order before ys ≡ true → Arranged before (at_put.front ++ at_put.back) ys
      arranged-left o = record {
        ordered = o;
        equals = λ r. ap (filter (same_rank before r)) f.stay ∙ equals-left r;
        records = λ q.
            let list = ap (count_by q) f.were ∙ count-there q f.front x f.back in
            let put = ap (count_by q) at_put.is ∙ count-there q at_put.front x at_put.back in
            let same = a.records q in
            ap (count_by q) f.stay ∙ omega arith;
      }

    taken_by : (xs puts : List R) (r : Option R) (ys : List R) → Arranged before puts xs → FirstOf p xs r ys → in_order before ys ≡ true
        → (rest : List R) × Taken before p puts r rest × Arranged before rest ys
    taken_by xs puts None ys a f o = (puts, (all_moved xs puts a.records p f.0, refl), subst (Arranged before puts) (sym f.1) a)
    taken_by xs puts (Some x) ys a f o = ((at_put xs puts ys x a f).front ++ (at_put xs puts ys x a f).back, leaves xs puts ys x a f, arranged-left xs puts ys x a f o)

    take-any : (xs : List R) → TakeLaw before p xs (first_with p xs) (without_first p xs)
    take-any xs = record {
      ordered = order_without p before xs;
      arranged = λ puts a. taken_by xs puts _ _ a (first_of p xs) (order_without p before xs a.ordered);
      counted = λ q. count-first p q xs _ _ (first_of p xs);
    }

    pub take_law : (xs : List R) (r : Option R) (ys : List R) → r ≡ first_with p xs → ys ≡ without_first p xs → TakeLaw before p xs r ys
    take_law xs r ys e h = subst (λ s. TakeLaw before p xs s ys) (sym e) (subst (TakeLaw before p xs (first_with p xs)) (sym h) (take-any xs))

  first_any : (xs : List R) → (head_of xs ≡ first_with any xs) × (tail_of xs ≡ without_first any xs)
  first_any [] = (refl, refl)
  first_any (x ∷ xs) = (refl, refl)

  pub take_first_law : (xs : List R) (r : Option R) (ys : List R) → r ≡ head_of xs → ys ≡ tail_of xs → TakeLaw before any xs r ys
  take_first_law xs r ys e h = take_law any xs r ys (e ∙ (first_any xs).0) (h ∙ (first_any xs).1)

  pub tagged_none : (p : R → Bool) (xs : List R) → position p xs ≡ None → TakeLaw before p xs None xs
  tagged_none p xs h = take_law p xs None xs (sym (find_none p xs h)) (sym (without_none p xs h))

  lowest : (xs : List R) → in_order before xs ≡ true → Lowest before xs (head_of xs)
  lowest [] o = refl
  lowest (x ∷ xs) o = grind (arith, itself x)

  pub first_law : (xs : List R) (r : Option R) → r ≡ head_of xs → FirstLaw before xs r
  first_law xs r e = record {
    lowest = λ o. subst (Lowest before xs) (sym e) (lowest xs o);
    earliest = λ puts a. let t = (take_first_law xs r (tail_of xs) e refl).arranged puts a in (t.0, t.1);
  }

-- what a taking by a tag comes to
pub ruleset takes_tagged = (find_none, without_none, find_found, without_found, tagged_none)
