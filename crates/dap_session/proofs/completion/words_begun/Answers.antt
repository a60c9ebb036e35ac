use Rattle.std.proofs.Common.{[], List, arith, subst}
use Rattle.dap_messages.specs.SeenAnswers.{SeenItem}
use Rattle.dap_session.proofs.Begun.{coming_all, coming_done, coming_more}
use Rattle.dap_session.specs.Completions.{word_begun}
use Rattle.dap_messages.specs.ItemLists.{HasItems}
use Rattle.mon_line_parts.specs.Topics.{row_view}
use Rattle.dap_session.proofs.completion.words_begun.Goals as goal

pub loop-word-init : goal.loop-word-init
loop-word-init c = ([], c.new-list.ensures, coming_all (word_begun c.args.start c.args.typed.now) row_view c.args.rows.now)

pub loop-word-preserved : goal.loop-word-preserved
loop-word-preserved c =
    let so_far = c.loop-word.invariant in (
      _,
      c.with_word-list.ensures so_far.0 so_far.1,
      coming_more (word_begun c.args.start c.args.typed.now) row_view c.args.rows.now
          c.loop-word.word-index _ so_far.0 _ (omega (arith, c.loop-word-test.true)) so_far.2,
    )

pub returns : goal.returns
returns c =
    let so_far = c.loop-word.invariant in
    subst (λ (ds : List SeenItem). HasItems ds c.loop-word.list)
    (coming_done (word_begun c.args.start c.args.typed.now) row_view c.args.rows.now c.loop-word.word-index so_far.0 _
    (omega (arith, c.loop-word-test.false)) so_far.2) so_far.1
