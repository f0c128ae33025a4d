-- A bag stays over its slots from call to call. Assumes nothing.
use Rattle.std.proofs.Common.{refl, ◌∙◌}
use Rattle.bag.specs.declared.Bag.{Bag}
use Rattle.bag.specs.Held.{Framed}

module _ {R : Type 0} where
  pub framed_none : (b : Bag R) → Framed b b
  framed_none b = record { slots = refl; count = refl; long = refl; fits = λ h. h }

  pub framed_then : (a b c : Bag R) → Framed a b → Framed b c → Framed a c
  framed_then a b c f g = record {
    slots = g.slots ∙ f.slots;
    count = g.count ∙ f.count;
    long = g.long ∙ f.long;
    fits = λ h. g.fits (f.fits h);
  }
