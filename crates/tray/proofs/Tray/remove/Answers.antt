use Rattle.std.proofs.Common.{length, ap, ◌∙◌, arith}
use Rattle.std.specs.List.{remove}
use Rattle.tray.specs.TrayLaws.{filled_less, arrived_less, length-arrived}
use Rattle.tray.proofs.Tray.remove.Goals as goal

pub invariant_of-self : goal.invariant_of-self
invariant_of-self c = filled_less _ _ c.self.invariant c.args.i _ _ _ (omega (arith, c.requires, ap length c.self.view_is, length-arrived _ _ c.self.invariant)) (omega arith) c.self.invariant.few c.replace-order.ensures.after c.rotate_left.ensures.after

pub returns-clause-left : goal.returns-clause-left
returns-clause-left c =
    arrived_less _ _ c.self.invariant c.args.i _ _ _ (omega (arith, c.requires, ap length c.self.view_is, length-arrived _ _ c.self.invariant)) (omega arith) c.self.invariant.few c.replace-order.ensures.after c.rotate_left.ensures.after ∙ ap (λ xs. remove xs c.args.i) c.self.view_is
