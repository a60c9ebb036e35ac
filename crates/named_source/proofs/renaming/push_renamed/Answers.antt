use Rattle.std.proofs.Common.{◌≡◌, ◌∙◌, ◌++◌, ◌<◌, Some, None, length, slice_index_or, sym, ap, refl, arith, rules}
use Rattle.named_source.specs.Renaming.{found_view, place_at, rest_named, Found}
use Rattle.named_source.proofs.Lines.{byte_left, byte_written, rest_is}
use Rattle.named_source.proofs.renaming.push_renamed.Goals.{then-left-gt0, else-left-gt0+in-Some+in_ok-extend_from_slice-in-Some, else-left-gt0+in-None+in_ok-push-in-None}
use Rattle.named_source.proofs.renaming.push_renamed.Goals as goal

pub loop-at-preserved : goal.loop-at-preserved
loop-at-preserved c =
    let names = c.args.naming.names.now.names in
    let image = c.args.naming.image.now in
    let line = c.args.line.now in
    let out = c.loop-at.out.items in
    let i = c.loop-at.at in
    let b = slice_index_or line i 0 in
    let whole = c.args.out.now.items ++ rest_named names image 32 0 line in
    let inside : i < length line = omega arith in
    elim c.if-left-gt0.branch [
      | then-left-gt0 w ↦ rw (w.out-is, w.left-is) (byte_left names image line out i c.loop-at.before c.loop-at.left b whole inside refl (omega arith)
          c.loop-at.invariant)
      | else-left-gt0+in-Some+in_ok-extend_from_slice-in-Some w ↦
          let found : Found = Some (w.in-Some.more, w.in-Some.name.now) in
          rw w.left-is (byte_written names image line out _ i c.loop-at.before c.loop-at.left b found whole inside refl (omega arith)
          (sym (ap (place_at names image c.loop-at.before) (rest_is line i)) ∙ (sym w.place_at.ensures ∙ ap found_view w.in-Some.is)) (search rules)
          c.loop-at.invariant)
      | else-left-gt0+in-None+in_ok-push-in-None w ↦
          let none : c.loop-at.left ≡ 0 = omega arith in
          rw (w.left-is, none) (byte_written names image line out _ i c.loop-at.before c.loop-at.left b None whole inside refl (omega arith)
          (sym (ap (place_at names image c.loop-at.before) (rest_is line i)) ∙ (sym w.place_at.ensures ∙ ap found_view w.in-None.is)) (search rules)
          c.loop-at.invariant)
    ]
