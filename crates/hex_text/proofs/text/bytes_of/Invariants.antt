use Rattle.std.proofs.Common.{◌≡◌, vec_items}
use Rattle.hex_text.specs.Bytes.{left}
use Rattle.hex_text.specs.Meaning.{before, said, meaning}
use Rattle.hex_text.proofs.text.bytes_of.Given as goal

abbrev pub invariant-loop-byte : goal.invariant-loop-byte
invariant-loop-byte l =
    record {
      can_next : goal.iterator-loop-byte.can_next l.byte-iterator;
      is_finite : goal.iterator-loop-byte.is_finite l.byte-iterator;
      so_far : before (vec_items l.bytes) (said (left l.byte-iterator)) ≡ meaning l.text;
    }
