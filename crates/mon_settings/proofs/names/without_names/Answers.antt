use Rattle.std.proofs.Common.{◌∙◌, ◌++◌, ◌∷◌, [], ℕ, List, ap, get_or, sym}
use Rattle.mon_settings.proofs.Naming.{line_ends, more_of_word, word_ends}
use Rattle.mon_settings.proofs.names.without_names.Goals.{then-may_be_in_word+in_ok-push, else-may_be_in_word+in_ok-push_word+in_ok-push-2}
use Rattle.mon_settings.proofs.names.without_names.Goals as goal

pub loop-byte-preserved : goal.loop-byte-preserved
loop-byte-preserved c =
    let names = c.args.places.now.names in
    let line = c.args.line.now in
    let i = c.loop-byte.byte-index in
    let text = c.loop-byte.text.items in
    let before = c.loop-byte.preceding in
    let word = c.loop-byte.word.items in
    elim c.if-may_be_in_word.branch [
      | then-may_be_in_word+in_ok-push w ↦
          rw (w.text-is, w.word-is, w.preceding-is) (more_of_word names text before word w.push.new.self.items line _ i 0 c.loop-byte.invariant
          c.loop-byte-test.true
          (sym c.may_be_in_word.ensures ∙ w.if-may_be_in_word.true) w.in_ok-push.ensures.items)
      | else-may_be_in_word+in_ok-push_word+in_ok-push-2 w ↦
          rw (w.text-is, w.word-is, w.preceding-is) (word_ends names text before w.next_before-preceding.result word
          w.push-else-may_be_in_word.new.self.items w.clear.new.self.items line _ i 0 c.loop-byte.invariant c.loop-byte-test.true
          (sym c.may_be_in_word.ensures ∙ w.if-may_be_in_word.false)
          (w.in_ok-push-2.ensures.items ∙ ap (λ (x : List ℕ). x ++ get_or line i 0 ∷ []) (rw w.as_slice.ensures.value at w.in_ok-push_word.ensures))
          w.next_before-preceding.ensures w.clear.ensures.items)
    ]

pub returns : goal.returns
returns c =
    line_ends c.args.places.now.names c.loop-byte.text.items c.loop-byte.preceding c.loop-byte.word.items c.push_word-2.new.text.items c.args.line.now
    _ c.loop-byte.byte-index
    c.loop-byte.invariant c.loop-byte-test.false (rw c.as_slice-2.ensures.value at c.in_ok-push_word-2.ensures)
