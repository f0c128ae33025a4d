-- The numbers of the refusals. Assumes nothing.
use Rattle.std.specs.Prelude.{ℕ, Some, None, Option}
use Rattle.model.specs.declared.refusal.Refusal.{Refusal}
use Rattle.model.specs.declared.refusal.Refusal.TheVariants.{NotOpen, AlreadyOpen, LateMoment, Chart, OutOfRange, EarlierMoment, OrderNotOpen, EventsWaiting, EventsFull, ShortBuffer, TooManyTokens, TooManyEvents, NoOrderNumber, Memory}

-- the number that stands for a refusal
abbrev pub refusal_number : Refusal → Option ℕ
refusal_number NotOpen = Some 21
refusal_number AlreadyOpen = Some 22
refusal_number LateMoment = Some 23
refusal_number (Chart cause) = Some 25
refusal_number OutOfRange = Some 26
refusal_number EarlierMoment = Some 27
refusal_number OrderNotOpen = Some 28
refusal_number EventsWaiting = Some 31
refusal_number EventsFull = Some 32
refusal_number ShortBuffer = Some 33
refusal_number TooManyTokens = Some 34
refusal_number TooManyEvents = Some 35
refusal_number NoOrderNumber = Some 36
refusal_number Memory = None
