-- What holds of ranks that are a list of sixty-four. Assumes nothing.
use Rattle.std.specs.Prelude.{◌≡◌, ℕ, ◌^◌, ◌<◌, ◌≤◌, List, slice_index}
use Rattle.std.proofs.Common.{arith}
use Rattle.std.proofs.lemmas.List.{get_or_past}
use Rattle.policy.specs.Ranks.{Ranks}

-- any number from sixty-four on ranks 0
pub ranks_beyond : (limit : ℕ) (ranks : List ℕ) → Ranks limit ranks → (e : ℕ) → 64 ≤ e → slice_index ranks e ≡ 0
ranks_beyond limit ranks ok e h = get_or_past ranks e 0 (omega (arith, ok.0))

pub ranks_small : (limit : ℕ) (ranks : List ℕ) → limit ≤ 4294967295 → Ranks limit ranks → (e : ℕ) → slice_index ranks e < 2 ^ 32
ranks_small limit ranks l ok e = omega (arith, ok.1 e)
