-- Loops that write a line for each element.
use Rattle.std.proofs.Common.{◌≡◌, ℕ, ◌+◌, ◌<◌, List, ◌++◌, length, get_or, drop, sym, ap, ◌∙◌, append_assoc}
use Rattle.std.proofs.lemmas.List.{at_drop_more}
use Rattle.chart_text.specs.Words.{lines}

module _ {A : Type 0} (line : ℕ × A → List ℕ) (xs : List A) (i : ℕ) (done all : List ℕ) where
  -- one more line
  pub lines_more : (d : A) → i < length xs → done ++ lines line i (drop i xs) ≡ all → (done ++ line (i, get_or xs i d)) ++ lines line (i + 1) (drop (i + 1) xs) ≡ all
  lines_more d h inv =
      append_assoc done (line (i, get_or xs i d)) (lines line (i + 1) (drop (i + 1) xs))
      ∙ (sym (ap (λ (l : List ℕ). done ++ l) (at_drop_more (lines line i) xs i d h)) ∙ inv)
