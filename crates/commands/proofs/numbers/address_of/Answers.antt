use Rattle.std.proofs.Common.{sym}
use Rattle.commands.proofs.Decimal.{four_digits}
use Rattle.commands.proofs.numbers.address_of.Goals as goal

pub returns : goal.returns
returns c = sym (four_digits c.args.word.now _ _ _ _ c.in-len4.len_at_least c.in-len4.len_below c.in_ok-a.ensures.value c.in_ok-b.ensures.value
    c.in_ok-c.ensures.value c.in_ok-d.ensures.value)
