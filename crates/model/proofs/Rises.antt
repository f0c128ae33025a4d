-- Which clocks are there as the relevance of an edge rises. Assumes nothing.
use Rattle.std.proofs.Common.{◌≡◌, ℕ, zero, suc, ◌+◌, Bool, true, false, List, [], ◌∷◌, length, filter, refl, ap, ◌∙◌, arith}
use Rattle.std.proofs.lemmas.Bool.Decides.{nat_tests}
use Rattle.bag.specs.Records.{put_in, in_order}
use Rattle.bag.proofs.Records.{order_put_in}
use Rattle.model.specs.Ranks.{clock_before}
use Rattle.model.specs.Clocks.{more}
use Rattle.model.specs.declared.clock.Clock.{Clock}
use Rattle.model.proofs.Filters.{filter_put_no, length_filter_put, filter_put}

pub asymmetric : (x y : Clock) → clock_before x y ≡ true → clock_before y x ≡ false
asymmetric x y h = grind (arith, nat_tests)

pub transitive : (x y z : Clock) → clock_before y x ≡ false → clock_before z y ≡ false → clock_before z x ≡ false
transitive x y z h k = grind (arith, nat_tests)

module _ (c : Clock) where
  module _ (p : Clock → Bool) where
    pub filter_more_no : p c ≡ false → (k : ℕ) (cs : List Clock) → filter p (more c k cs) ≡ filter p cs
    filter_more_no h zero cs = refl
    filter_more_no h (suc k) cs = filter_put_no p clock_before c (more c k cs) h ∙ filter_more_no h k cs

    pub length_filter_more : p c ≡ true → (k : ℕ) (cs : List Clock) → length (filter p (more c k cs)) ≡ k + length (filter p cs)
    length_filter_more h zero cs = omega arith
    length_filter_more h (suc k) cs = grind (arith, length_filter_more h k cs, length_filter_put p clock_before c (more c k cs))

  pub length_put : (cs : List Clock) → length (put_in clock_before c cs) ≡ suc (length cs)
  length_put [] = refl
  length_put (y ∷ ys) = grind (arith, length_put ys)

  pub length_more : (k : ℕ) (cs : List Clock) → length (more c k cs) ≡ k + length cs
  length_more zero cs = omega arith
  length_more (suc k) cs = omega (arith, length_put (more c k cs), length_more k cs)

  pub order_more : (k : ℕ) (cs : List Clock) → in_order clock_before cs ≡ true → in_order clock_before (more c k cs) ≡ true
  order_more zero cs o = o
  order_more (suc k) cs o = order_put_in clock_before asymmetric transitive c (more c k cs) (order_more k cs o)

  -- the clocks that pass rise as they would alone
  pub filter_rise : (p : Clock → Bool) → p c ≡ true → (k : ℕ) (cs : List Clock) → in_order clock_before cs ≡ true → filter p (more c k cs) ≡ more c k (filter p cs)
  filter_rise p h zero cs o = refl
  filter_rise p h (suc k) cs o = filter_put p clock_before transitive c h (more c k cs) (order_more k cs o) ∙ ap (put_in clock_before c) (filter_rise p h k cs o)
