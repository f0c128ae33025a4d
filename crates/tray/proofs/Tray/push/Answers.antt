use Rattle.std.proofs.Common.{sym, subst}
use Rattle.desk.specs.Orders.{CanOpen}
use Rattle.tray.specs.TrayLaws.{filled_more}
use Rattle.tray.proofs.Tray.push.Goals as goal

pub invariant_of-self : goal.invariant_of-self
invariant_of-self c = filled_more _ _ c.self.invariant c.args.order (subst (CanOpen c.args.order) (sym c.self.view_is) c.requires)
