use Rattle.std.proofs.Common.{ℕ, List, subst}
use Rattle.std.specs.Io.KnownBytes.{Appends}
use Rattle.model.specs.Writers.{AppendsFront}
use Rattle.word_dis.specs.Advice.{advice, remark}
use Rattle.word_dis.specs.Views.{source_view}
use Rattle.word_dis.proofs.Images.{is_done}
use Rattle.word_dis.proofs.run.serve_words.Goals as goal

pub returns-in-Ok-write_text-clause-done : goal.returns-in-Ok-write_text-clause-done
returns-in-Ok-write_text-clause-done g c same =
    let read = c.in-Ok.read in
    let text = subst (λ (t : List ℕ). Appends (g.O.Write.contents c.args.output.now) (g.O.Write.contents c.write_text.new.output) t)
    c.as_slice.ensures.value c.in-Ok-write_text.ensures in
    let told = subst (λ (n : List ℕ). AppendsFront (g.E.Write.contents c.args.errors.now) (g.E.Write.contents c.put_remarks.new.errors)
    (remark n read.source.left_out (advice read.source.at_port c.args.words.now.profile))) c.as_slice-in-Ok-write_text.ensures.value
    c.put_remarks.ensures in
    is_done (source_view c.args.words.now) read.source.text.items read.source.at_port read.left_out.items read.source.left_out _ _ _ _
    c.in-Ok.ensures.source text told
