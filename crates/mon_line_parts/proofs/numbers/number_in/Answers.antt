use Rattle.std.proofs.Common.{◌∙◌, sym, arith}
use Rattle.mon_line_parts.proofs.Capped.{number_end, number_more}
use Rattle.mon_line_parts.proofs.numbers.number_in.Goals as goal

pub loop-byte-preserved : goal.loop-byte-preserved
loop-byte-preserved c = record {
  small = omega arith;
  rest = c.loop-byte.invariant.rest
      ∙ number_more c.args.base c.loop-byte.number c.saturating_mul.result c.in_ok-value.value c.saturating_add-number.result c.loop-byte.byte-index
      c.args.digits.now (omega arith) c.in_ok-value.ensures c.saturating_mul.ensures c.saturating_add-number.ensures;
}

pub returns : goal.returns
returns c = number_end c.args.base c.loop-byte.number c.loop-byte.byte-index c.args.digits.now (omega arith) c.loop-byte.invariant.small
    (sym c.is_empty.ensures ∙ c.if-is_empty.false) c.loop-byte.invariant.rest
