use Rattle.std.proofs.Common.{rules}
use Rattle.hex_text.proofs.Places.{sought}
use Rattle.hex_text.proofs.text.byte_at.Goals as goal

pub returns-in_err-nth : goal.returns-in_err-nth
returns-in_err-nth c = sought c.args.text.now c.args.place c.of.result c.nth.new.self c.nth.result _ c.of.ensures c.nth.ensures.ran (search rules)

pub returns : goal.returns
returns c = sought c.args.text.now c.args.place c.of.result c.nth.new.self c.nth.result _ c.of.ensures c.nth.ensures.ran (search rules)
