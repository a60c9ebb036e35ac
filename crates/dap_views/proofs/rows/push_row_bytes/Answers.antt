use Rattle.std.proofs.Common.{arith, rules}
use Rattle.dap_views.proofs.Joined.{joined_done, joined_more}
use Rattle.dap_views.proofs.rows.push_row_bytes.Goals as goal

pub loop-byte-preserved : goal.loop-byte-preserved
loop-byte-preserved c = record {
  joined = joined_more c.loop-byte.words.now c.args.between.now _ c.loop-byte.byte-index 0 c.loop-byte.text.items c.push_text.new.text.items _ _
      (omega (arith, c.loop-byte-test.true)) c.in_ok-push_text.ensures.ok c.in_ok-push_byte.ensures.ok c.loop-byte.invariant.joined;
  utf8 = search rules;
}

pub returns : goal.returns
returns c = joined_done c.loop-byte.words.now c.args.between.now _ c.loop-byte.byte-index c.loop-byte.text.items _
    (omega (arith, c.loop-byte-test.false)) c.loop-byte.invariant.joined
