use Rattle.std.proofs.Common.{◌==◌, rules}
use Rattle.std.proofs.lemmas.Iterator.{YieldsList-from_slice}
use Rattle.std.proofs.lemmas.Iterator.Search.{position_from_yields_List}
use Rattle.tray.specs.TrayLaws.{searched}
use Rattle.tray.proofs.Tray.place.Goals as goal

pub returns-clause-at : goal.returns-clause-at
returns-clause-at c =
    let e = position_from_yields_List (λ o. o.number == c.args.number) _ _ c.position.result c.position.ensures.ran (YieldsList-from_slice c.args.self.now cc) (λ x b q k. search rules) in
    rw e (searched c.args.number c.args.self.now)
