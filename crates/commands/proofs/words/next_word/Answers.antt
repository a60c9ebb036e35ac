use Rattle.std.proofs.Common.{arith, ◌≡◌, ◌≢◌, ◌∙◌, ap, sym, ◌<◌, ◌≤◌, get_or, drop, take, length, ◌⊎◌, inl, inr, subst}
use Rattle.model.specs.Commands.{after_word}
use Rattle.commands.specs.Words.{IsNextWord}
use Rattle.commands.proofs.Spaces.{all_more, found_word, after_more, after_ends, rest_all}
use Rattle.commands.proofs.words.next_word.Goals as goal
use Rattle.commands.proofs.words.next_word.Goals.{then-loop-end-test+else-front-end-ne32, else-loop-end-test}

pub loop-end-preserved : goal.loop-end-preserved
loop-end-preserved c =
    let front = c.without_spaces-front.result.now in
    record {
      within = omega (arith, c.loop-end-test.true);
      word = all_more front c.loop-end.end c.loop-end-test.true c.if-front-end-ne32.true c.loop-end.invariant.word;
      behind = after_more front c.loop-end.end c.loop-end-test.true c.if-front-end-ne32.true ∙ c.loop-end.invariant.behind;
    }

pub returns-clause-word : goal.returns-clause-word
returns-clause-word c =
    let front = c.without_spaces-front.result.now in
    let e = c.loop-end.end in
    let last : ((e < length front) × (get_or front e 0 ≡ 32)) ⊎ (length front ≤ e) = elim c.loop-end-test.branch [
      | then-loop-end-test+else-front-end-ne32 w ↦ inl (w.loop-end-test.true, w.if-front-end-ne32.false)
      | else-loop-end-test w ↦ inr w.loop-end-test.false
    ] in
    rw (rest_all front e) (found_word c.args.line.now front e c.without_spaces-front.ensures c.loop-end.invariant.within c.loop-end.invariant.word last)

pub returns-clause-behind : goal.returns-clause-behind
returns-clause-behind c =
    let front = c.without_spaces-front.result.now in
    let e = c.loop-end.end in
    let last : ((e < length front) × (get_or front e 0 ≡ 32)) ⊎ (length front ≤ e) = elim c.loop-end-test.branch [
      | then-loop-end-test+else-front-end-ne32 w ↦ inl (w.loop-end-test.true, w.if-front-end-ne32.false)
      | else-loop-end-test w ↦ inr w.loop-end-test.false
    ] in
    rest_all front e ∙ sym (after_ends front e last) ∙ c.loop-end.invariant.behind ∙ ap after_word c.without_spaces-front.ensures
