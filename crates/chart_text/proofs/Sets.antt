-- The nodes of a set, as they are written one after another.
use Rattle.std.proofs.Common.{◌≡◌, ℕ, ◌+◌, Bool, true, false, cond, List, [], ◌∷◌, ◌++◌, map, codes, decimal, sym, refl, ap, ◌∙◌, append-nil, zero-add}
use Rattle.std.proofs.lemmas.List.{flat_map_more}
use Rattle.std.proofs.lemmas.List.FromFn.{filter_of_map_range_with_len_more}
use Rattle.std.specs.List.{filter, join_by, range_with_len}
use Rattle.layout.specs.Sets.{member}
use Rattle.chart_text.specs.Words.{members_below}

same : (xs : List ℕ) → map (λ x. x) xs ≡ xs
same [] = refl
same (x ∷ xs) = ap (λ (l : List ℕ). x ∷ l) (same xs)

pub none : (bits : ℕ) → [] ≡ members_below bits 0
unfolding members_below
none bits = refl

-- node k is in the set, or not
pub below_more : (bits k : ℕ) → members_below bits (k + 1) ≡ members_below bits k ++ cond (member bits k) (k ∷ []) []
unfolding members_below
below_more bits k =
    sym (ap (filter (member bits)) (same (range_with_len 0 (k + 1))))
    ∙ (filter_of_map_range_with_len_more (member bits) (λ x. x) 0 k k (zero-add k)
    ∙ ap (λ (l : List ℕ). filter (member bits) l ++ cond (member bits k) (k ∷ []) []) (same (range_with_len 0 k)))

pub with_node : (bits k : ℕ) → member bits k ≡ true → members_below bits k ++ (k ∷ []) ≡ members_below bits (k + 1)
with_node bits k h = sym (below_more bits k ∙ ap (λ (b : Bool). members_below bits k ++ cond b (k ∷ []) []) h)

pub without_node : (bits k : ℕ) → member bits k ≡ false → members_below bits k ≡ members_below bits (k + 1)
without_node bits k h = sym (below_more bits k ∙ (ap (λ (b : Bool). members_below bits k ++ cond b (k ∷ []) []) h ∙ append-nil (members_below bits k)))

-- what stands before the next node
abbrev pub separator : List ℕ → List ℕ
separator [] = []
separator (x ∷ xs) = codes ", "

pub separator_more : (xs : List ℕ) (k : ℕ) → codes ", " ≡ separator (xs ++ (k ∷ []))
separator_more [] k = refl
separator_more (x ∷ xs) k = refl

pub join_more : (xs : List ℕ) (k : ℕ) → join_by decimal (codes ", ") xs ++ (separator xs ++ decimal k) ≡ join_by decimal (codes ", ") (xs ++ (k ∷ []))
join_more [] k = sym (append-nil (decimal k))
join_more (x ∷ xs) k = flat_map_more (λ y. codes ", " ++ decimal y) (decimal x) xs k
