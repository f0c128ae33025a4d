use Rattle.std.proofs.Common.{◌≡◌, length}
use Rattle.hex_text.specs.Bytes.{left}
use Rattle.hex_text.proofs.reader.Bytes.byte.Given as goal

abbrev pub invariant-loop-character : goal.invariant-loop-character
invariant-loop-character l = left l.self ≡ left l.initial.self

abbrev pub decreases-loop-character : goal.decreases-loop-character
decreases-loop-character l = length l.self.rest.now
