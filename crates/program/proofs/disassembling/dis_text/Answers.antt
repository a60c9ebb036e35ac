use Rattle.std.proofs.Common.{◌≡◌}
use Rattle.model.specs.Disassembly.{rows_in}
use Rattle.model.specs.State.{memory_of}
use Rattle.program.proofs.Ends.{all_unread, all_unrefused, each_fault, each_image, each_refused, each_unread, reads_fault, reads_memory, reads_text}
use Rattle.program.proofs.disassembling.dis_text.Goals as goal

pub returns-in_err-image-clause-only : goal.returns-in_err-image-clause-only
returns-in_err-image-clause-only g c = each_unread _ c.from_residual.result c.in_err-image.field-0.0 _ c.from_residual.ensures.1 c.in_err-image.ensures.only

pub returns-in_err-image-clause-faulty : goal.returns-in_err-image-clause-faulty
returns-in_err-image-clause-faulty g c = each_refused _ c.from_residual.result c.in_err-image.field-0.0 c.from_residual.ensures.1 c.in_err-image.ensures.refused

pub returns-in-Ok-clause-only : goal.returns-in-Ok-clause-only
returns-in-Ok-clause-only g c =
    each_image _ c.in_ok-image.image (λ i. c.in-Ok.text.items ≡ rows_in c.args.profile (memory_of i) c.args.last c.args.first 65536)
    c.in_ok-image.ensures.only c.in-Ok.ensures

pub returns-in-Ok-clause-faulty : goal.returns-in-Ok-clause-faulty
returns-in-Ok-clause-faulty g c = each_fault _ c.in_ok-image.image _ c.in_ok-image.ensures.refused

pub returns-clause-only : goal.returns-clause-only
returns-clause-only g c = all_unread (g.T.Read.remaining c.args.tape.now)

pub returns-clause-faulty : goal.returns-clause-faulty
returns-clause-faulty g c = all_unrefused _ (g.T.Read.remaining c.args.tape.now)

pub returns-in_err-image-clause-reads : goal.returns-in_err-image-clause-reads
returns-in_err-image-clause-reads g c = reads_fault _ c.from_residual.result c.in_err-image.field-0.0 _ _ c.from_residual.ensures.1 c.in_err-image.ensures.reads

pub returns-in-Ok-clause-reads : goal.returns-in-Ok-clause-reads
returns-in-Ok-clause-reads g c = reads_text c.in_ok-image.image _ _ c.in_ok-image.ensures.reads

pub returns-clause-reads : goal.returns-clause-reads
returns-clause-reads g c = reads_memory c.in_ok-image.image _ _ c.in_ok-image.ensures.reads
