-- A step takes the edges of the law, and no other list obeys it. Assumes nothing.
use Rattle.std.proofs.Common.{◌≡◌, ℕ, zero, suc, ◌+◌, ◌-◌, ◌<◌, ◌≤◌, Bool, true, cond, ◌&&◌, nat_eq, List, [], ◌∷◌, ◌++◌, length, replicate, sym, refl, ap, ◌∙◌, subst, ⊎_elim, append_assoc, append-nil, arith}
use Rattle.std.specs.List.{AllByRecursion}
use Rattle.std.proofs.lemmas.Bool.{cases_Bool, true_from_ne_false}
use Rattle.std.proofs.lemmas.Bool.Decides.{nat_tests}
use Rattle.std.proofs.lemmas.List.{replicate_more}
use Rattle.std.proofs.lemmas.List.Sums.{sum_by_push}
use Rattle.model.specs.Choice.{Basis, count, total, room, no_later, order, used, try, many, chosen, greedy}
use Rattle.model.specs.ChoiceLaw.{Sorted, Sourced, Covered, Exhausted, Law, Lawful, Short, Only}
use Rattle.model.proofs.Counts.{all_weaker, all_append, all_middle, all_replicate, count-cons, count-append, count-replicate, total_le, length-le-total, room_parts, room_lacks}
use Rattle.model.proofs.StepOrder.{NoLater, After, Strict, no_later_refl, no_later_antisymm, before-no_later, none_before, none_after, all_counted, none_counted, sorted_append, no_later_front, after_back, order_below, order_strict, order_all}

-- AS MANY EDGES AS TOKENS AT MOST

pub covered_short : (b : Basis) (xs : List ℕ) → Sourced b → AllByRecursion (λ e. e < b.edges) xs → Covered b xs → length xs ≤ total b.available b.nodes
covered_short b xs sourced known covered =
    omega (
      arith,
      length-le-total b.source b.nodes xs (all_weaker (λ e. e < b.edges) (λ e. 1 ≤ total (λ n. cond (b.source e n) 1 0) b.nodes) sourced xs known),
      total_le (λ n. count (λ x. b.source x n) xs) b.available b.nodes covered,
    )

pub short : Short
short b rank xs sourced law = covered_short b xs sourced law.known law.covered

-- THE COPIES OF ONE EDGE

-- what k tries to take a copy of e behind xs come to
record Copies (b : Basis) (e k : ℕ) (xs ys : List ℕ) : Type 0 where
  pub copies : ℕ
  pub most : copies ≤ k
  pub is : ys ≡ xs ++ replicate copies e
  pub covered : Covered b ys
  -- where fewer than k were taken, a source has no token that is not used
  pub none_unused : copies < k → (n : ℕ) × (n < b.nodes) × (b.source e n ≡ true) × (used b ys n ≡ b.available n)

module _ (b : Basis) where
  abbrev unused : List ℕ → ℕ → ℕ
  unused xs n = b.available n - used b xs n

  covered_push : (e : ℕ) (xs : List ℕ) → Covered b xs → room (b.source e) (unused xs) b.nodes ≡ true → Covered b (xs ++ (e ∷ []))
  covered_push e xs c r n h = grind (arith, sum_by_push (λ x. cond (b.source x n) 1 0) xs e, room_parts (b.source e) (unused xs) b.nodes r n h, c n h)

  one_more : (e k : ℕ) (xs ys : List ℕ) → Copies b e k xs ys → Copies b e (suc k) xs (try b e ys)
  one_more e k xs ys m =
      ⊎_elim
      (λ r. rw r (record {
        copies = m.copies + 1;
        most = omega (arith, m.most);
        is = ap (λ l. l ++ (e ∷ [])) m.is ∙ append_assoc xs (replicate m.copies e) (e ∷ []) ∙ ap (λ l. xs ++ l) (replicate_more m.copies e);
        covered = covered_push e ys m.covered r;
        none_unused = λ h. let s = m.none_unused (omega arith) in absurd (omega (arith, s.3, room_parts (b.source e) (unused ys) b.nodes r s.0 s.1 s.2));
      }))
      (λ r. rw r (record {
        copies = m.copies;
        most = omega (arith, m.most);
        is = m.is;
        covered = m.covered;
        none_unused = λ h. let s = room_lacks (b.source e) (unused ys) b.nodes r in (s.0, s.1, s.2, omega (arith, s.3, m.covered s.0 s.1));
      }))
      (cases_Bool (room (b.source e) (unused ys) b.nodes))

  copies_of : (e k : ℕ) (xs : List ℕ) → Covered b xs → Copies b e k xs (many b e k xs)
  copies_of e zero xs c = record { copies = 0; most = omega arith; is = sym (append-nil xs); covered = c; none_unused = λ h. absurd (omega arith) }
  copies_of e (suc k) xs c = one_more e k xs (many b e k xs) (copies_of e k xs c)

-- what holds of the edges before and of the edge itself
all_copies : {b : Basis} {e k : ℕ} {xs ys : List ℕ} (m : Copies b e k xs ys) (P : ℕ → Type 0) → AllByRecursion P xs → P e → AllByRecursion P ys
all_copies {e = e} {xs = xs} m P a h = subst (AllByRecursion P) (sym m.is) (all_append P xs (replicate m.copies e) a (all_replicate P m.copies e h))

-- ALL EDGES

-- what was taken stays, and P holds of each edge behind it
record Extended (b : Basis) (P : ℕ → Type 0) (xs ys : List ℕ) : Type 0 where
  pub rest : List ℕ
  pub is : ys ≡ xs ++ rest
  pub each : AllByRecursion P rest
  pub covered : Covered b ys

extended : (b : Basis) (P : ℕ → Type 0) (xs es : List ℕ) → Covered b xs → AllByRecursion P es → Extended b P xs (chosen b xs es)
extended b P xs [] c a = record { rest = []; is = sym (append-nil xs); each = tt; covered = c }
extended b P xs (e ∷ es) c a =
    let m = copies_of b e (b.enabled e) xs c in
    let g = extended b P (many b e (b.enabled e) xs) es m.covered a.1 in
    record {
      rest = replicate m.copies e ++ g.rest;
      is = g.is ∙ ap (λ l. l ++ g.rest) m.is ∙ append_assoc xs (replicate m.copies e) g.rest;
      each = all_append P (replicate m.copies e) g.rest (all_replicate P m.copies e a.0) g.each;
      covered = g.covered;
    }

-- the copies of one edge, behind the edges before it and in front of those after it
module _ {b : Basis} {e : ℕ} {xs ys zs : List ℕ} (rank : ℕ → ℕ) (m : Copies b e (b.enabled e) xs ys) (before : AllByRecursion (λ x. After rank x e) xs) (g : Extended b (After rank e) ys zs) where
  counted : count (nat_eq e) zs ≡ m.copies
  counted =
      let same : nat_eq e e ≡ true = grind (arith, nat_tests) in
      omega (
        arith,
        ap (count (nat_eq e)) (g.is ∙ ap (λ l. l ++ g.rest) m.is),
        count-append (nat_eq e) (xs ++ replicate m.copies e) g.rest,
        count-append (nat_eq e) xs (replicate m.copies e),
        none_before rank e xs before,
        count-replicate (nat_eq e) m.copies e same,
        none_after rank e g.rest g.each,
      )

  exhausted : count (nat_eq e) zs < b.enabled e → Exhausted b rank zs e
  exhausted h =
      let s = m.none_unused (omega (arith, counted)) in
      let p : ℕ → Bool = λ x. b.source x s.0 in
      let q : ℕ → Bool = λ x. p x && no_later rank x e in (
        s.0,
        s.1,
        s.2,
        omega (
          arith,
          s.3,
          ap (count q) g.is,
          count-append q ys g.rest,
          none_counted rank e g.rest p g.each,
          all_counted rank e ys p (all_copies m (NoLater rank e) (before-no_later rank e xs before) (no_later_refl rank e)),
        ),
      )

-- the law, for the edges of a list
record Obeyed (b : Basis) (rank : ℕ → ℕ) (es ys : List ℕ) : Type 0 where
  pub sorted : Sorted rank ys
  pub few : AllByRecursion (λ e. count (nat_eq e) ys ≤ b.enabled e) es
  pub left : AllByRecursion (λ e. count (nat_eq e) ys < b.enabled e → Exhausted b rank ys e) es

obeyed : (b : Basis) (rank : ℕ → ℕ) (xs es : List ℕ) → Strict rank es → AllByRecursion (λ x. AllByRecursion (After rank x) es) xs → Sorted rank xs → Covered b xs → Obeyed b rank es (chosen b xs es)
obeyed b rank xs [] st ahead s c = record { sorted = s; few = tt; left = tt }
obeyed b rank xs (e ∷ es) st ahead s c =
    let later = λ (ds : List ℕ) (x : ℕ). AllByRecursion (After rank x) ds in
    let m = copies_of b e (b.enabled e) xs c in
    let ys = many b e (b.enabled e) xs in
    let g = extended b (After rank e) ys es m.covered st.0 in
    let before = all_weaker (later (e ∷ es)) (λ x. After rank x e) (λ x h. h.0) xs ahead in
    let further = all_copies m (later es) (all_weaker (later (e ∷ es)) (later es) (λ x h. h.1) xs ahead) st.0 in
    let r = obeyed b rank ys es st.1 further (subst (Sorted rank) (sym m.is) (sorted_append rank m.copies e xs (before-no_later rank e xs before) s)) m.covered in
    record {
      sorted = r.sorted;
      few = (omega (arith, counted rank m before g, m.most), r.few);
      left = (exhausted rank m before g, r.left);
    }

pub lawful : Lawful
lawful b rank =
    let es = order rank b.edges in
    let none : Covered b [] = λ n h. omega arith in
    let r = obeyed b rank [] es (order_strict rank b.edges) tt tt none in
    let g = extended b (λ e. e < b.edges) [] es none (order_below rank b.edges) in
    record {
      known = subst (AllByRecursion (λ e. e < b.edges)) (sym g.is) g.each;
      few = order_all rank (λ e. count (nat_eq e) (greedy b rank) ≤ b.enabled e) b.edges r.few;
      covered = g.covered;
      left = order_all rank (λ e. count (nat_eq e) (greedy b rank) < b.enabled e → Exhausted b rank (greedy b rank) e) b.edges r.left;
      sorted = r.sorted;
    }

-- NO OTHER LIST

module _ (b : Basis) (rank : ℕ → ℕ) where
  -- one list of the law does not go on with x where another goes on with edges after x
  not_after : (ps : List ℕ) (x : ℕ) (xs ys : List ℕ) → Law b rank (ps ++ (x ∷ xs)) → Law b rank (ps ++ ys) → AllByRecursion (After rank x) ys → ⊥
  not_after ps x xs ys a l after =
      let known : x < b.edges = all_middle (λ e. e < b.edges) ps x xs a.known in
      let same : nat_eq x x ≡ true = grind (arith, nat_tests) in
      let one : count (nat_eq x) (x ∷ xs) ≡ 1 + count (nat_eq x) xs = rw (count-cons, same) refl in
      let s = l.left x known (omega (arith, a.few x known, count-append (nat_eq x) ps (x ∷ xs), count-append (nat_eq x) ps ys, none_after rank x ys after)) in
      let p : ℕ → Bool = λ z. b.source z s.0 in
      let q : ℕ → Bool = λ z. p z && no_later rank z x in
      let more : count p (x ∷ xs) ≡ 1 + count p xs = rw (count-cons, s.2) refl in
      omega (
        arith,
        s.3,
        a.covered s.0 s.1,
        count-append p ps (x ∷ xs),
        count-append q ps ys,
        all_counted rank x ps p (no_later_front rank x xs ps a.sorted),
        none_counted rank x ys p after,
      )

  next_no_later : (ps : List ℕ) (x : ℕ) (xs : List ℕ) (y : ℕ) (ys : List ℕ) → Law b rank (ps ++ (x ∷ xs)) → Law b rank (ps ++ (y ∷ ys)) → NoLater rank x y
  next_no_later ps x xs y ys a l = true_from_ne_false (no_later rank y x) (λ h. not_after ps x xs (y ∷ ys) a l (after_back rank y ys x ps l.sorted h))

  same_rest : (ps xs ys : List ℕ) → Law b rank (ps ++ xs) → Law b rank (ps ++ ys) → xs ≡ ys
  same_rest ps [] [] a l = refl
  same_rest ps (x ∷ xs) [] a l = absurd (not_after ps x xs [] a l tt)
  same_rest ps [] (y ∷ ys) a l = absurd (not_after ps y ys [] l a tt)
  same_rest ps (x ∷ xs) (y ∷ ys) a l =
      let e = no_later_antisymm rank x y (next_no_later ps x xs y ys a l) (next_no_later ps y ys x xs l a) in
      let i : xs ≡ ys = same_rest (ps ++ (x ∷ [])) xs ys (rw append_assoc a) (rw (append_assoc, e) l) in
      cc

pub only : Only
only b rank xs ys = same_rest b rank [] xs ys
