use Rattle.std.proofs.Common.{◌∙◌, ◌+◌, ◌++◌, List, ℕ, drop, sym, ap}
use Rattle.page_data.specs.Format.{without_zeros}
use Rattle.page_data.proofs.Marked.{kept_on, left_out, none_left}
use Rattle.page_data.proofs.marks.push_marked.Goals as goal

pub loop-byte-preserved-then-byte-eq0 : goal.loop-byte-preserved-then-byte-eq0
loop-byte-preserved-then-byte-eq0 c =
    left_out c.loop-byte.written.items c.args.bytes.now c.loop-byte.byte-index c.loop-byte-test.true c.if-byte-eq0.true ∙ c.loop-byte.invariant

pub loop-byte-preserved : goal.loop-byte-preserved
loop-byte-preserved c =
    let bytes = c.args.bytes.now in
    let i = c.loop-byte.byte-index in
    ap (λ (l : List ℕ). l ++ without_zeros (drop (i + 1) bytes)) c.in_ok-push.ensures.items
    ∙ kept_on c.loop-byte.written.items bytes i c.loop-byte-test.true c.if-byte-eq0.false ∙ c.loop-byte.invariant

pub returns : goal.returns
returns c =
    sym (none_left c.loop-byte.written.items c.args.bytes.now c.loop-byte.byte-index c.loop-byte-test.false) ∙ c.loop-byte.invariant
