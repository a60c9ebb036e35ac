use Rattle.std.proofs.Common.{inl, refl}
use Rattle.word_mend.proofs.Read.{own_fault}
use Rattle.word_mend.specs.Mending.{mended_text}
use Rattle.word_info.proofs.run.mend_hint.Goals.{in-Ok, in-Err+in-OutOfMemory, in-Err+in_default}
use Rattle.word_info.proofs.run.mend_hint.Goals as goal

pub returns : goal.returns
returns c =
    elim c.match-mend_text.branch [
      | in-Ok w ↦
          let mended = w.in-Ok.field-0 in
          rw w.result-is (inl (refl, inl (mended.text.items, mended.image, mended.fault, w.in-Ok.ensures.text, w.in-Ok.ensures.denotes)))
      | in-Err+in-OutOfMemory w ↦ rw w.result-is tt
      | in-Err+in_default w ↦ rw w.result-is w.capture_hint.ensures
    ]

pub capture_hint-requires : goal.capture_hint-requires
capture_hint-requires c =
    let fault = c.in-Err.fault in
    (fault, own_fault (mended_text c.args.text.now) fault c.in_default.not-OutOfMemory c.in-Err.ensures.refused)
