use Rattle.std.proofs.Common.{◌+◌, ◌++◌, [], List, append_assoc, append-nil, drop, map, refl, subst, sym}
use Rattle.std.proofs.KnownBytes.{Appends-nil, Appends-trans}
use Rattle.json_messages.specs.Messages.{framed}
use Rattle.serde_json.specs.View.{view}
use Rattle.serde_json.specs.declared.value.Value.{Value}
use Rattle.word_lsp.specs.Writing.{AreWritten}
use Rattle.word_lsp.proofs.Written.{front_behind, some_written, written_end, written_step}
use Rattle.word_lsp.proofs.serving.write_values.Goals as goal

pub loop-value-init : goal.loop-value-init
loop-value-init g c = ([], Appends-nil _, λ behind h. h)

pub loop-value-preserved : goal.loop-value-preserved
loop-value-preserved g c =
    let inv = c.loop-value.invariant in
    let one = c.in-Ok-write_value.ensures.written in
    let values = c.deref-value-items.result.now in (
      inv.0 ++ framed one.0,
      Appends-trans _ _ _ inv.0 (framed one.0) inv.1 one.2,
      λ behind h. subst (AreWritten (map view values)) (sym (append_assoc inv.0 (framed one.0) behind))
          (inv.2 (framed one.0 ++ behind) (written_step values c.loop-value.value-index c.value-item.result c.loop-value-test.true c.value-item.is
          one.0 behind one.1 h)),
    )

pub returns : goal.returns
returns g c =
    let inv = c.loop-value.invariant in
    let values = c.deref-value-items.result.now in rw (c.in-Ok.is) (
      refl,
      inv.0,
      subst (λ (vs : List Value). AreWritten (map view vs) inv.0) c.deref-value-items.ensures.value
          (subst (AreWritten (map view values)) (append-nil inv.0) (inv.2 [] (written_end values c.loop-value.value-index c.loop-value-test.false))),
      inv.1,
    )

pub returns-in-Err : goal.returns-in-Err
returns-in-Err g c =
    let inv = c.loop-value.invariant in
    let begun = c.in-Err.ensures.begun in
    let values = c.deref-value-items.result.now in
    let i = c.loop-value.value-index in
    let more = some_written (map view (drop (i + 1) values)) in
    let behind = framed begun.0 ++ more.0 in rw (c.in-Ok.is) (
      c.in-Err.ensures.fault,
      inv.0 ++ behind,
      subst (λ (vs : List Value). AreWritten (map view vs) (inv.0 ++ behind)) c.deref-value-items.ensures.value
          (inv.2 behind (written_step values i c.value-item.result c.loop-value-test.true c.value-item.is begun.0 more.0 begun.1 more.1)),
      (
        inv.0 ++ begun.2.0,
        begun.2.1 ++ more.0,
        front_behind inv.0 (framed begun.0) begun.2.0 begun.2.1 more.0 begun.2.2,
        Appends-trans _ _ _ inv.0 begun.2.0 inv.1 begun.2.3,
      ),
    )
