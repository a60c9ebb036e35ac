use Rattle.std.proofs.Common.{ap}
use Rattle.word_dis.specs.Views.{source_view}
use Rattle.word_dis.proofs.Parts.{known}
use Rattle.word_dis.proofs.written.marked.Goals as goal

pub returns : goal.returns
returns c =
    known (λ v. v.items) (source_view c.args.words.now) c.args.part.now c.in_ok-reached.reached.items c.as_slice.result.now c.as_slice-2.result.now
    c.said_marks.result
    c.as_slice.ensures.value c.as_slice-2.ensures.value c.in_ok-reached.ensures c.said_marks.ensures.len c.said_marks.ensures.each
