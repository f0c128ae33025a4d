use Rattle.std.proofs.Common.{◌≡◌, true, false, None, get_or, sym, arith, rules, of_calls}
use Rattle.std.proofs.lemmas.Iterator.{YieldsList-from_range, YieldsList-from_map, first_from_find}
use Rattle.pigeonholes.specs.Holes.{probed}
use Rattle.pigeonholes.specs.HoleLaws.{first_probed}
use Rattle.pigeonholes.proofs.Pigeonholes.find_hole.Goals as goal

pub returns : goal.returns
returns g c p t =
    let n = c.args.number in
    let hs = c.args.self.now.holes in
    first_probed p n hs c.find.result
    (first_from_find _ _ c.find.result (λ i. p (get_or hs i None) ≡ true) (λ i. p (get_or hs i None) ≡ false) c.find.ensures.ran
    (YieldsList-from_map _ (probed n) (YieldsList-from_range {s = _} 0 64 64 (search rules) (omega arith)) c.map.ensures.closure (λ x r q k. search rules))
    (λ x q k. sym (t (get_or hs x None) true (search (rules, of_calls))))
    (λ x q k. (search rules, sym (t (get_or hs x None) false (search (rules, of_calls))))))
