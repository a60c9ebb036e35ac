use Rattle.std.proofs.Common.{ℕ, List, inr, subst}
use Rattle.model.specs.Tape.{TapeDenotes}
use Rattle.word_mend.proofs.Read.{own_fault}
use Rattle.word_mend.specs.Captures.{captured_tape}
use Rattle.word_info.proofs.run.looks_answer.Goals as goal

pub capture_answer-requires-clause-capture : goal.capture_answer-requires-clause-capture
capture_answer-requires-clause-capture c =
    let captured = c.in-Ok.field-0 in
    (captured.image, c.in-Ok.ensures.capture, subst (λ (t : List ℕ). TapeDenotes t captured.image) c.in-Ok.ensures.text c.in-Ok.ensures.denotes)

pub other_answer-requires-clause-plain : goal.other_answer-requires-clause-plain
other_answer-requires-clause-plain c =
    let fault = c.in-Err.fault in
    inr (fault, own_fault (captured_tape c.args.bytes.now) fault c.in_default.not-OutOfMemory c.in-Err.ensures.refused)
