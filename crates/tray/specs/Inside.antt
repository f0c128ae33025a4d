-- The tray as it is stored, from its orders. Assumes nothing.
use Rattle.std.specs.Prelude.{◌≡◌, List, take, length}
use Rattle.std.proofs.Common.{ap, ◌∙◌}
use Rattle.desk.specs.declared.Order.{Order}
use Rattle.tray.specs.declared.Tray.TheInside.{Inside}
use Rattle.tray.specs.Trays.{Filled, slots_of}
use Rattle.tray.specs.TrayLaws.{length-arrived, slots_back}

abbrev pub stored : List Order → Inside
stored orders = record { slots = slots_of orders; len = length orders }

pub stored_back : (a : Inside) → Filled a.slots a.len → stored (take a.len a.slots) ≡ a
stored_back a f =
    let as_stored : List Order → Inside = λ xs. record { slots = xs; len = length (take a.len a.slots) } in
    ap as_stored (slots_back a.slots a.len f) ∙ ap (λ k. record { slots = a.slots; len = k }) (length-arrived a.slots a.len f)
