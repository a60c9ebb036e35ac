use Rattle.std.proofs.Common.{sym, ◌∙◌}
use Rattle.word_dis.specs.Views.{source_view}
use Rattle.word_dis.proofs.Parts.{followed, unfollowed}
use Rattle.word_dis.proofs.written.reached_marks.Goals as goal

pub returns-then-is_followed : goal.returns-then-is_followed
returns-then-is_followed c =
    followed (λ v. v.items) (source_view c.args.words.now) c.args.part.now c.in_ok-plain.plain.items c.followed.result c.in_ok-plain.ensures
    (sym c.is_followed.ensures ∙ c.if-is_followed.true) (rw c.as_slice.ensures.value at c.followed.ensures)

pub returns-else-is_followed : goal.returns-else-is_followed
returns-else-is_followed c = unfollowed (source_view c.args.words.now) c.args.part.now c.in_ok-plain.plain.items c.in_ok-plain.ensures
    (sym c.is_followed.ensures ∙ c.if-is_followed.false)
