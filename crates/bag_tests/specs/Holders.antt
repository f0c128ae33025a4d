-- What the holders of two kinds of records hold.
use Rattle.std.specs.Prelude.{List, take}
use Rattle.model.specs.declared.event.Event.{Event}
use Rattle.model.specs.declared.clock.Clock.{Clock}
use Rattle.bag_tests.specs.declared.event.Waiting.{Waiting}
use Rattle.bag_tests.specs.declared.clock.Clocks.{Clocks}

abbrev pub waiting : Waiting → List Event
waiting w = take w.count w.slots

abbrev pub clocks_in : Clocks → List Clock
clocks_in w = take w.count w.slots
