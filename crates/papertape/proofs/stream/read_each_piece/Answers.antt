use Rattle.std.proofs.KnownBytes.{Consumes-trans, Keeps-refl}
use Rattle.std.proofs.Common.{◌++◌, sym, ap, ◌∙◌, take, refl, arith, length-take}
use Rattle.model.specs.TapePieces.{longest}
use Rattle.papertape.specs.Feeding.{Fed, fed, nothing_fed}
use Rattle.papertape.proofs.Pieces.{fed-append, said_fault}
use Rattle.papertape.proofs.Streaming.{reads_failed, reads_fault_at_end, reads_image, reads_nothing, reads_refused}
use Rattle.papertape.proofs.stream.read_each_piece.Goals as goal

pub returns-in_err-reader : goal.returns-in_err-reader
returns-in_err-reader g c = reads_nothing _ c.from_residual.result c.in_err-reader.field-0.0 c.from_residual.ensures.1 c.in_err-reader.ensures.refused

pub returns-in_err-finish-in-Ok-eq0 : goal.returns-in_err-finish-in-Ok-eq0
returns-in_err-finish-in-Ok-eq0 g c =
    let inv = c.loop.invariant in
    let bytes = rw c.in-Ok-eq0.field-0-test at c.in-Ok-eq0.ensures.bytes in
    reads_fault_at_end _ _ _ c.from_residual-in_err-finish-in-Ok-eq0.result c.in_err-finish-in-Ok-eq0.field-0.0 inv.0 c.loop.reader
    c.from_residual-in_err-finish-in-Ok-eq0.ensures.1
    inv.1 bytes.0 (bytes.1 refl (omega arith)) inv.2 c.in_err-finish-in-Ok-eq0.ensures

pub returns-in-Ok-eq0 : goal.returns-in-Ok-eq0
returns-in-Ok-eq0 g c =
    let inv = c.loop.invariant in
    let bytes = rw c.in-Ok-eq0.field-0-test at c.in-Ok-eq0.ensures.bytes in
    reads_image _ _ _ c.in_ok-finish-in-Ok-eq0.field-0 inv.0 c.loop.reader inv.1 bytes.0 (bytes.1 refl (omega arith)) inv.2 c.in_ok-finish-in-Ok-eq0.ensures

pub returns-in_err-feed-in-Ok : goal.returns-in_err-feed-in-Ok
returns-in_err-feed-in-Ok g c =
    let inv = c.loop.invariant in
    let bs = take c.in-Ok.n c.read.new.buf in
    let fault = c.in_err-feed-in-Ok.field-0.0 in
    reads_refused _ _ _ c.from_residual-in_err-feed-in-Ok.result fault inv.0 bs c.loop.reader c.from_residual-in_err-feed-in-Ok.ensures.1
    inv.1 c.in-Ok.ensures.bytes.0 (omega (arith, length-take c.in-Ok.n c.read.new.buf)) inv.2 inv.3
    (sym c.in_err-feed-in-Ok.ensures.after ∙ said_fault c.feed.new.self fault c.in_err-feed-in-Ok.ensures.answer)

pub returns-in-Err : goal.returns-in-Err
returns-in-Err g c =
    let inv = c.loop.invariant in
    reads_failed _ _ _ inv.0 c.loop.reader inv.1 c.in-Err.ensures.bytes inv.2 inv.3

pub returns : goal.returns
returns g c =
    let inv = c.loop.invariant in
    reads_failed _ _ _ inv.0 c.loop.reader inv.1 (Keeps-refl _) inv.2 inv.3

pub loop-preserved : goal.loop-preserved
loop-preserved g c =
    let inv = c.loop.invariant in
    let bs = take c.in-Ok.n c.read.new.buf in (
      inv.0 ++ bs,
      Consumes-trans _ _ _ inv.0 bs inv.1 c.in-Ok.ensures.bytes.0,
      c.feed.ensures.after ∙ ap (λ (s : Fed). fed s bs) inv.2 ∙ sym (fed-append longest inv.0 bs nothing_fed),
      sym c.in_ok-feed-in-Ok.ensures.answer,
    )
