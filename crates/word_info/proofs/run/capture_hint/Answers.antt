use Rattle.std.proofs.Common.{ℕ, List, inl, inr, refl, subst}
use Rattle.model.specs.Tape.{TapeDenotes}
use Rattle.word_mend.proofs.Read.{own_fault}
use Rattle.word_mend.specs.Captures.{captured_tape}
use Rattle.word_info.proofs.run.capture_hint.Goals.{in-Ok, in-Err+in-OutOfMemory, in-Err+in_default}
use Rattle.word_info.proofs.run.capture_hint.Goals as goal

pub returns : goal.returns
returns c =
    elim c.match-mend_capture.branch [
      | in-Ok w ↦
          let captured = w.in-Ok.field-0 in
          rw w.result-is (inl (
            refl,
            inr (
              captured.image,
              w.in-Ok.ensures.capture,
              subst (λ (t : List ℕ). TapeDenotes t captured.image)
                  w.in-Ok.ensures.text w.in-Ok.ensures.denotes,
            ),
          ))
      | in-Err+in-OutOfMemory w ↦ rw w.result-is tt
      | in-Err+in_default w ↦
          let fault = w.in-Err.fault in
          rw w.result-is (inr (
            refl,
            c.requires,
            (
              fault,
              own_fault (captured_tape c.args.text.now) fault w.in_default.not-OutOfMemory
                  w.in-Err.ensures.refused,
            ),
          ))
    ]
