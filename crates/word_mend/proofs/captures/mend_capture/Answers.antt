use Rattle.std.proofs.Common.{◌≡◌, sym, subst, ◌∙◌, List, ℕ}
use Rattle.model.specs.Tape.{TapeDenotes}
use Rattle.word_mend.specs.Captures.{captured_tape}
use Rattle.word_mend.proofs.Read.{read_or_memory, memory_alone}
use Rattle.word_mend.proofs.Stripped.{is_capture}
use Rattle.word_mend.proofs.captures.mend_capture.Goals as goal

pub returns-in-Ok-read_tape-clause-capture : goal.returns-in-Ok-read_tape-clause-capture
returns-in-Ok-read_tape-clause-capture c =
    let same : c.deref.result.now ≡ captured_tape c.args.text.now = c.deref.ensures.value ∙ c.in-Ok.ensures in
    is_capture c.args.text.now c.in-Ok-read_tape.image (subst (λ (t : List ℕ). TapeDenotes t c.in-Ok-read_tape.image) same c.in-Ok-read_tape.ensures.found)

pub returns-in-Ok-read_tape-clause-only : goal.returns-in-Ok-read_tape-clause-only
returns-in-Ok-read_tape-clause-only c = λ cells d.
    let same : c.deref.result.now ≡ captured_tape c.args.text.now = c.deref.ensures.value ∙ c.in-Ok.ensures in
    read_or_memory cells c.in-Ok-read_tape.image (c.in-Ok-read_tape.ensures.only cells (subst (λ (t : List ℕ). TapeDenotes t cells) (sym same) d))

pub returns-in-Err-clause-only : goal.returns-in-Err-clause-only
returns-in-Err-clause-only c = λ cells d.
    let same : c.deref.result.now ≡ captured_tape c.args.text.now = c.deref.ensures.value ∙ c.in-Ok.ensures in
    memory_alone cells c.in-Err.fault (c.in-Err.ensures.only cells (subst (λ (t : List ℕ). TapeDenotes t cells) (sym same) d))
