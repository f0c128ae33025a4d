-- Each refusal is of the first fault: the front is completed to a chart in range.
use Rattle.std.proofs.Common.{◌≡◌, ℕ, zero, suc, ◌+◌, ◌-◌, ◌/◌, ◌%◌, ◌^◌, ◌≤◌, Bool, true, false, cond, eqb, ltb, leb, List, [], ◌∷◌, ◌++◌, length, take, drop, is_some, Some, None, Option, sym, refl, ap, ◌∙◌, subst, ⊎_elim, append-nil, arith, length-append, length-drop, pow_mono, le-ltb, lt-ltb}
use Rattle.std.specs.List.{flat_map, AllByRecursion}
use lib.Count.{ones}
use Rattle.std.proofs.lemmas.List.{take_at, drop_at}
use Rattle.std.proofs.lemmas.List.Concat.{flat_map-append}
use Rattle.std.proofs.str.Laws.{order}
use Rattle.layout.specs.declared.parts.Node.{Node}
use Rattle.layout.specs.declared.parts.RawEdge.{RawEdge}
use Rattle.layout.specs.declared.parts.Condition.{Condition}
use Rattle.layout.specs.declared.parts.Condition.TheVariants.{Absent}
use Rattle.layout.specs.declared.parts.Guard.{Guard}
use Rattle.layout.specs.declared.parts.Guard.TheVariants.{One, Two, Three, Four}
use Rattle.layout.specs.declared.refusal.Fault.{Fault}
use Rattle.layout.specs.declared.refusal.Fault.TheVariants.{Count, Map, Field, Left}
use Rattle.layout.specs.declared.refusal.Refusal.{Refusal}
use Rattle.layout.specs.Fits.{set_fits, condition_fits}
use Rattle.layout.specs.Reader.{Out, got, bad, bind, refuse, byte, number, ranged, field, maybe, map_byte, stands, set, node, condition, condition_of, fitting, guard, edge, many, count, Parts, chart}
use Rattle.layout.specs.Layout.{one, wide, optional, flag, node_bytes, condition_bytes, conditions, guard_bytes, edge_map_of, edge_bytes, OptIn, NodeIn, SetIn, ConditionIn, GuardIn, EdgeIn, InRange, Bytes}
use Rattle.layout.specs.Items.{Sort, node_count, edge_count, node_map, edge_map, event, guard_count, node_set, Item, item, items, flat, node_items, guard_items, edge_items}
use Rattle.layout.specs.Items as sort
use Rattle.layout.specs.First.{Wrong, FirstFault, Itemized}
use Rattle.layout.proofs.Exact.{via, stands-flag, from_got, Exact, activity_exact, event_exact, after_exact, when_exact, tally_exact, set_exact, condition_exact, guard_exact, node_exact, edge_exact, count_exact, map_exact, many_only, map_is}
use Rattle.layout.proofs.Faults.{clash, Amiss, Refuses, Blames, ends, likewise, made, seq, Judged, Whole, gave, tested, refused, then, byte_whole, number_whole, item_blames}

-- ---- the bytes are the items

both : (xs ys : List Item) {us vs : List ℕ} → flat xs ≡ us → flat ys ≡ vs → flat (xs ++ ys) ≡ us ++ vs
both xs ys p q = flat_map-append (λ x. x.1) xs ys ∙ cc (p, q)

record Spells {A : Type 0} (it : A → List Item) (enc : A → List ℕ) : Type 0 where
  same : (v : A) → flat (it v) ≡ enc v

spells_item : {A : Type 0} (s : Sort) (enc : A → List ℕ) → Spells (item s enc) enc
spells_item s enc = record { same = λ v. append-nil (enc v) }

spells_optional : {A : Type 0} {it : A → List Item} {enc : A → List ℕ} → Spells it enc → Spells (optional it) (optional enc)
spells_optional {A} {it} {enc} x = record { same = λ o. elim o as (λ o. flat (optional it o) ≡ optional enc o) [ None ↦ refl | Some v ↦ x.same v ] }

spells_all : {A : Type 0} {it : A → List Item} {enc : A → List ℕ} → Spells it enc → Spells (flat_map it) (flat_map enc)
spells_all {A} {it} {enc} x = record { same = go }
  where
    go : (vs : List A) → flat (flat_map it vs) ≡ flat_map enc vs
    go [] = refl
    go (v ∷ vs) = both (it v) (flat_map it vs) (x.same v) (go vs)

node_spells : Spells node_items node_bytes
node_spells = record { same = λ v. ap (λ l. flag v.activity ∷ l) ((spells_optional (spells_item sort.activity one)).same v.activity) }

guard_spells : (n : ℕ) → Spells (guard_items n) guard_bytes
guard_spells n = record { same = λ g. ap (λ l. length (conditions g) ∷ l) ((spells_all (spells_item (sort.condition n) condition_bytes)).same (conditions g)) }

edge_spells : (n : ℕ) → Spells (edge_items n) edge_bytes
edge_spells n =
    record {
      same = λ e.
          ap (λ l. edge_map_of e ∷ l)
          (both (optional (item event one) e.trigger) _ ((spells_optional (spells_item event one)).same e.trigger)
          (both (optional (item sort.after wide) e.after) _ ((spells_optional (spells_item sort.after wide)).same e.after)
          (both (optional (item sort.when wide) e.when) _ ((spells_optional (spells_item sort.when wide)).same e.when)
          (both (optional (guard_items n) e.guard) _ ((spells_optional (guard_spells n)).same e.guard)
          (both (optional (item event one) e.send) _ ((spells_optional (spells_item event one)).same e.send) refl)))));
    }

pub itemized : Itemized
itemized c =
    ap (λ l. length c.nodes ∷ length c.edges ∷ l)
    (sym (both (flat_map node_items c.nodes) _ ((spells_all node_spells).same c.nodes) ((spells_all (edge_spells (length c.nodes))).same c.edges)))

-- ---- one part after the other

-- k values in range
abbrev Row : {A : Type 0} → (A → Type 0) → ℕ → List A → Type 0
Row In k vs = (length vs ≡ k) × AllByRecursion In vs

-- the set of the first node
first-node : (n : ℕ) → 2 ≤ n → SetIn n (record { bits = 1 })
unfolding ones
first-node n h = record { some = omega arith; few = omega arith; below = let p : 2 ^ 2 ≤ 2 ^ n = pow_mono h in omega arith }

-- a guard of its conditions
guard_of : (n : ℕ) (cs : List Condition) → 1 ≤ length cs → length cs ≤ 4 → AllByRecursion (ConditionIn n) cs → (g : Guard) × GuardIn n g × ((guard_count, one (length cs)) ∷ flat_map (item (sort.condition n) condition_bytes) cs ≡ guard_items n g)
guard_of n [] l u h = absurd (omega arith)
guard_of n (c1 ∷ []) l u h = (One c1, h, refl)
guard_of n (c1 ∷ c2 ∷ []) l u h = (Two c1 c2, h, refl)
guard_of n (c1 ∷ c2 ∷ c3 ∷ []) l u h = (Three c1 c2 c3, h, refl)
guard_of n (c1 ∷ c2 ∷ c3 ∷ c4 ∷ []) l u h = (Four c1 c2 c3 c4, h, refl)
guard_of n (c1 ∷ c2 ∷ c3 ∷ c4 ∷ c5 ∷ cs) l u h = absurd (omega arith)

-- a chart of its counts and records
chart_of : (n m : ℕ) (ns : List Node) (es : List RawEdge) → (2 ≤ n) × (n ≤ 32) → (1 ≤ m) × (m ≤ 64) → Row NodeIn n ns → Row (EdgeIn n) m es → (c : Parts) × InRange c × ((node_count, one n) ∷ (edge_count, one m) ∷ (flat_map node_items ns ++ (flat_map (edge_items n) es ++ [])) ≡ items c)
chart_of n m ns es h g hs gs = (
  record { nodes = ns; edges = es },
  record { nodes_low = omega arith; nodes_high = omega arith; edges_low = omega arith; edges_high = omega arith; nodes = hs.1; edges = subst (λ k. AllByRecursion (EdgeIn k) es) (sym hs.0) gs.1 },
  simp (append-nil, ← hs.0, ← gs.0),
)

module _ (bs : List ℕ) (b : Bytes bs) where
  standing : {A : Type 0} {p : List ℕ → ℕ → Out A} {it : A → List Item} {enc : A → List ℕ} {In : A → Type 0} → Exact p enc In → Spells it enc → (i : ℕ) (v : A) (j : ℕ) → p bs i ≡ got v j → In v × (drop i bs ≡ flat (it v) ++ drop j bs)
  standing x s i v j e = let r = x.only bs i v j b e in (r.0, r.1 ∙ ap (λ l. l ++ drop j bs) (sym (s.same v)))

  maybe_blames : {A : Type 0} {p : List ℕ → ℕ → Out A} {it : A → List Item} {In : A → Type 0} (c : Bool) → Blames bs p it In → Blames bs (maybe c p) (optional it) (λ o. (is_some o ≡ c) × OptIn In o)
  maybe_blames {A} {p} {it} {In} true x =
      record {
        stands = λ i o j e. via (p bs i) _ e (λ v k r e1. let s = x.stands i v k r in from_got (λ o j. ((is_some o ≡ true) × OptIn In o) × (drop i bs ≡ flat (optional it o) ++ drop j bs)) e1 ((refl, s.0), s.1));
        refuses = λ i. likewise (made (p bs i) Some (x.refuses i)) (λ v h. (Some v, (refl, h), refl));
      }
  maybe_blames {A} {p} {it} {In} false x =
      record {
        stands = λ i o j e. from_got (λ o j. ((is_some o ≡ false) × OptIn In o) × (drop i bs ≡ flat (optional it o) ++ drop j bs)) e ((refl, tt), refl);
        refuses = λ i. ends None i (None, (refl, tt));
      }

  more : {A C : Type 0} {p : List ℕ → ℕ → Out A} {it : A → List Item} {In : A → Type 0} {f : A → ℕ → Out C} {k : ℕ} → Blames bs p it In → (i : ℕ) → ((v : A) (j : ℕ) → Refuses ⊥ (length bs) (drop j bs) (f v j) (flat_map it) (Row In k)) → Refuses ⊥ (length bs) (drop i bs) (bind (p bs i) f) (flat_map it) (Row In (suc k))
  more x i go = likewise (seq x i (λ v j h. go v j)) (λ t h. (t.0 ∷ t.1, (ap suc h.1.0, (h.0, h.1.1)), refl))

  many-refuses : {A : Type 0} {p : List ℕ → ℕ → Out A} {it : A → List Item} {In : A → Type 0} → Blames bs p it In → (k i : ℕ) → Refuses ⊥ (length bs) (drop i bs) (many p k bs i) (flat_map it) (Row In k)
  many-refuses x zero i = ends [] i ([], (refl, tt))
  many-refuses {A} {p} x (suc k) i = more x i (λ v j. made (many p k bs j) (λ vs. v ∷ vs) (many-refuses x k j))

  many_blames : {A : Type 0} {p : List ℕ → ℕ → Out A} {it : A → List Item} {enc : A → List ℕ} {In : A → Type 0} → Exact p enc In → Spells it enc → Blames bs p it In → (k : ℕ) → Blames bs (many p k) (flat_map it) (Row In k)
  many_blames x s y k =
      record {
        stands = λ i vs j e. let r = many_only x k bs i vs j b e in ((r.0, r.1), r.2 ∙ ap (λ l. l ++ drop j bs) (sym ((spells_all s).same vs)));
        refuses = many-refuses y k;
      }

  -- ---- the items

  range_judged : {p : List ℕ → ℕ → Out ℕ} {w : ℕ} → Whole bs w p → (f : Fault) (low high i : ℕ) → Judged (w + 0) (λ e. e ≡ record { fault = f; place = i }) (length bs) (drop i bs) (ranged f (λ v. v) p low high bs i)
  range_judged x f low high i = then 0 x i (λ v j. tested (leb low v) (tested (leb v high) (gave v j) (refused f i)) (refused f i))

  nodes_blames : Blames bs (count 2 32) (item node_count one) (λ v. (2 ≤ v) × (v ≤ 32))
  nodes_blames = item_blames bs b node_count (omega arith) (count_exact 2 32) (λ xs h. (h.0, (h.1, h.2), h.3)) (2, (omega arith, omega arith)) (range_judged (byte_whole bs b) Count 2 32)

  edges_blames : Blames bs (count 1 64) (item edge_count one) (λ v. (1 ≤ v) × (v ≤ 64))
  edges_blames = item_blames bs b edge_count (omega arith) (count_exact 1 64) (λ xs h. (h.0, (h.1, h.2), h.3)) (1, (omega arith, omega arith)) (range_judged (byte_whole bs b) Count 1 64)

  activity_blames : Blames bs (field byte 0 63) (item sort.activity one) (λ v. v ≤ 63)
  activity_blames = item_blames bs b sort.activity (omega arith) activity_exact (λ xs h. h) (0, omega arith) (range_judged (byte_whole bs b) Field 0 63)

  event_blames : Blames bs (field byte 0 31) (item event one) (λ v. v ≤ 31)
  event_blames = item_blames bs b event (omega arith) event_exact (λ xs h. h) (0, omega arith) (range_judged (byte_whole bs b) Field 0 31)

  after_blames : Blames bs (field number 1 100000000) (item sort.after wide) (λ v. (1 ≤ v) × (v ≤ 100000000))
  after_blames = item_blames bs b sort.after (omega arith) after_exact (λ xs h. (h.0, (h.1, h.2), h.3)) (1, (omega arith, omega arith)) (range_judged (number_whole bs b) Field 1 100000000)

  when_blames : Blames bs (field number 0 4000000000) (item sort.when wide) (λ v. v ≤ 4000000000)
  when_blames = item_blames bs b sort.when (omega arith) when_exact (λ xs h. h) (0, omega arith) (range_judged (number_whole bs b) Field 0 4000000000)

  tally_blames : Blames bs (field byte 1 4) (item guard_count one) (λ v. (1 ≤ v) × (v ≤ 4))
  tally_blames = item_blames bs b guard_count (omega arith) tally_exact (λ xs h. (h.0, (h.1, h.2), h.3)) (1, (omega arith, omega arith)) (range_judged (byte_whole bs b) Field 1 4)

  condition_blames : (n : ℕ) → Blames bs (condition n) (item (sort.condition n) condition_bytes) (ConditionIn n)
  condition_blames n =
      item_blames bs b (sort.condition n) (omega arith) (condition_exact n) (λ xs h. h) (Absent 0, omega arith) (λ i.
      then 5 (byte_whole bs b) i (λ kind j. then 4 (byte_whole bs b) j (λ subject k. then 0 (number_whole bs b) k (λ constant l.
      fitting_judged (condition_of kind subject constant) i l))))
    where
      fitting_judged : (o : Option Condition) (i l : ℕ) → Judged 0 (λ e. e ≡ record { fault = Field; place = i }) (length bs) (drop l bs) (fitting n o i l)
      fitting_judged (Some c) i l = tested (condition_fits n c) (gave c l) (refused Field i)
      fitting_judged None i l = refused Field i

  set_blames : (n : ℕ) → 2 ≤ n → Blames bs (set n) (item (node_set n) (λ s. wide s.bits)) (SetIn n)
  set_blames n large =
      item_blames bs b (node_set n) (omega arith) (set_exact n) (λ xs h. h) (record { bits = 1 }, first-node n large) (λ i.
      then 0 (number_whole bs b) i (λ v j. tested (set_fits n (record { bits = v })) (gave (record { bits = v }) j) (refused Field i)))

  -- ---- a guard

  -- the conditions after a guard's count
  conditions-refuse : (n : ℕ) → (k j : ℕ) → (1 ≤ k) × (k ≤ 4) →
      Refuses ⊥ (length bs) (drop j bs)
      (bind (condition n bs j) (λ a j1. cond (eqb k 1) (got (One a) j1) (bind (condition n bs j1)
      (λ b j2. cond (eqb k 2) (got (Two a b) j2) (bind (condition n bs j2)
      (λ c j3. cond (eqb k 3) (got (Three a b c) j3) (bind (condition n bs j3)
      (λ d j4. got (Four a b c d) j4))))))))
      (flat_map (item (sort.condition n) condition_bytes)) (Row (ConditionIn n) k)
  conditions-refuse n zero j h = absurd (omega arith)
  conditions-refuse n (suc zero) j h = let x = condition_blames n in more x j (λ a j1. ends (One a) j1 ([], (refl, tt)))
  conditions-refuse n (suc (suc zero)) j h = let x = condition_blames n in more x j (λ a j1. more x j1 (λ b j2. ends (Two a b) j2 ([], (refl, tt))))
  conditions-refuse n (suc (suc (suc zero))) j h = let x = condition_blames n in more x j (λ a j1. more x j1 (λ b j2. more x j2 (λ c j3. ends (Three a b c) j3 ([], (refl, tt)))))
  conditions-refuse n (suc (suc (suc (suc zero)))) j h = let x = condition_blames n in more x j (λ a j1. more x j1 (λ b j2. more x j2 (λ c j3. more x j3 (λ d j4. ends (Four a b c d) j4 ([], (refl, tt))))))
  conditions-refuse n (suc (suc (suc (suc (suc k))))) j h = absurd (omega arith)

  guard_blames : (n : ℕ) → Blames bs (guard n) (guard_items n) (GuardIn n)
  guard_blames n =
      record {
        stands = standing (guard_exact n) (guard_spells n);
        refuses = λ i. likewise (seq tally_blames i (λ k j h. conditions-refuse n k j h)) (λ t h.
            let g = guard_of n t.1 (omega arith) (omega arith) h.1.1 in
            (g.0, g.1, ap (λ k. (guard_count, one k) ∷ flat_map (item (sort.condition n) condition_bytes) t.1) (sym h.1.0) ∙ g.2));
      }

  -- ---- records that begin with a map

  node-map_blames : Blames bs (map_byte 0 1) (item node_map one) (λ v. (0 ≤ v) × (v ≤ 1))
  node-map_blames = item_blames bs b node_map (omega arith) (map_exact 0 1 (omega arith)) (λ xs h. (h.0, (omega arith, h.1), h.2)) (0, (omega arith, omega arith)) (range_judged (byte_whole bs b) Map 0 1)

  node_blames : Blames bs node node_items NodeIn
  node_blames =
      record {
        stands = standing node_exact node_spells;
        refuses = λ i.
            likewise
            (seq node-map_blames i (λ m j h. made (maybe (stands m 0) (field byte 0 63) bs j) (λ a. record { activity = a }) ((maybe_blames (stands m 0) activity_blames).refuses j)))
            (λ t h.
            let fits : t.0 ≤ 1 = h.0.1 in
            let bit = stands-flag t.1 (t.0 / 1 % 2) (omega arith) h.1.0 in
            (record { activity = t.1 }, h.1.1, ap (λ k. (node_map, one k) ∷ optional (item sort.activity one) t.1) (omega arith)));
      }

  edge-map_blames : Blames bs (map_byte 96 127) (item edge_map one) (λ v. (96 ≤ v) × (v ≤ 127))
  edge-map_blames = item_blames bs b edge_map (omega arith) (map_exact 96 127 (omega arith)) (λ xs h. (h.0, (h.1, h.2), h.3)) (96, (omega arith, omega arith)) (range_judged (byte_whole bs b) Map 96 127)

  edge_blames : (n : ℕ) → 2 ≤ n → Blames bs (edge n) (edge_items n) (EdgeIn n)
  edge_blames n large =
      record {
        stands = standing (edge_exact n) (edge_spells n);
        refuses = λ i.
            likewise
            (seq edge-map_blames i (λ m j h.
            seq (maybe_blames (stands m 0) event_blames) j (λ trigger j0 h0.
            seq (maybe_blames (stands m 1) after_blames) j0 (λ after j1 h1.
            seq (maybe_blames (stands m 2) when_blames) j1 (λ when j2 h2.
            seq (maybe_blames (stands m 3) (guard_blames n)) j2 (λ guarded j3 h3.
            seq (maybe_blames (stands m 4) event_blames) j3 (λ send j4 h4.
            seq (set_blames n large) j4 (λ sources j5 h5.
            made (set n bs j5) (λ targets. record { trigger = trigger; after = after; when = when; guard = guarded; send = send; sources = sources; targets = targets }) ((set_blames n large).refuses j5)))))))))
            (λ t h.
            let t1 = t.1.1 in
            let h1 = h.1.1 in
            let t3 = t1.1.1 in
            let h3 = h1.1.1 in
            let t5 = t3.1.1 in
            let h5 = h3.1.1 in
            let is = map_is t.0 t.1.0 t1.0 t1.1.0 t3.0 t3.1.0 h.0 (h.1.0.0, h1.0.0, h1.1.0.0, h3.0.0, h3.1.0.0) in (
              record { trigger = t.1.0; after = t1.0; when = t1.1.0; guard = t3.0; send = t3.1.0; sources = t5.0; targets = t5.1 },
              record { trigger = h.1.0.1; after = h1.0.1; when = h1.1.0.1; guard = h3.0.1; send = h3.1.0.1; sources = h5.0; targets = h5.1 },
              ap (λ k. (edge_map, one k) ∷ (optional (item event one) t.1.0 ++ (optional (item sort.after wide) t1.0 ++ (optional (item sort.when wide) t1.1.0 ++ (optional (guard_items n) t3.0 ++ (optional (item event one) t3.1.0 ++ (item (node_set n) wide t5.0.bits ++ item (node_set n) wide t5.1.bits))))))) is,
            ));
      }

  -- ---- a whole chart

  left-refuses : (l : ℕ) (c : Parts) → Refuses (Unit {0}) (length bs) (drop l bs) (cond (ltb l (length bs)) (refuse Left l) (got c (length bs))) (λ (u : Unit {0}). []) (λ u. Unit {0})
  left-refuses l c =
      record {
        some = (tt, tt);
        faults = λ e q.
            ⊎_elim
            (λ lt.
            let a = simp (lt-ltb l (length bs) lt) at q in
            let n = length-drop l bs in
            let same : e ≡ record { fault = Left; place = l } = cc in
            (tt, tt, record { front = []; back = []; r = drop l bs; split = refl; stand = refl; wrong = (tt, (omega arith, same ∙ ap (λ k. record { fault = Left; place = k }) (omega arith))) }))
            (λ ge. clash (got _ _) c (length bs) e refl (simp (le-ltb l (length bs) ge) at q))
            (order l (length bs));
      }

  chart-refuses : Refuses (Unit {0}) (length bs) bs (chart bs 0) items InRange
  chart-refuses =
      likewise
      (seq nodes_blames 0 (λ n i h.
      seq edges_blames i (λ m j g.
      seq (many_blames node_exact node_spells node_blames n) j (λ ns k hs.
      seq (many_blames (edge_exact n) (edge_spells n) (edge_blames n h.0) m) k (λ es l gs.
      left-refuses l (record { nodes = ns; edges = es }))))))
      (λ t h. chart_of t.0 t.1.0 t.1.1.0 t.1.1.1.0 h.0 h.1.0 h.1.1.0 h.1.1.1.0)

pub first-fault : (bs : List ℕ) (e : Refusal) → Bytes bs → chart bs 0 ≡ bad e → FirstFault bs e
first-fault bs e b q =
    let z = (chart-refuses bs b).faults e q in
    let f = z.2 in
    let there = ap (λ l. take (length f.front) l) f.split ∙ take_at f.front f.back _ refl in
    let after = ap (λ l. drop (length f.front) l) f.split ∙ drop_at f.front f.back _ refl in
    let long = ap length f.stand ∙ length-append (flat f.front) f.r in
    let place : length bs - length f.r ≡ length (flat f.front) = omega arith in
    record {
      chart = z.0;
      in_range = z.1;
      count = length f.front;
      rest = f.r;
      front = f.stand ∙ ap (λ l. flat l ++ f.r) (sym there);
      fault = subst (λ l. Wrong l (length (flat (take (length f.front) (items z.0)))) f.r e) (sym after) (subst (λ k. Wrong f.back k f.r e) (place ∙ ap (λ l. length (flat l)) (sym there)) (wrong_so f.r f.back f.wrong));
    }
  where
    wrong_so : (r : List ℕ) (xs : List Item) → Amiss (Unit {0}) (length bs) xs r e → Wrong xs (length bs - length r) r e
    wrong_so r [] a = a.1
    wrong_so r (x ∷ xs) a = a
