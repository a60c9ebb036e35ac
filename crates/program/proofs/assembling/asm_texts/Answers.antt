use Rattle.std.proofs.Common.{◌∙◌, ap}
use Rattle.assembler.specs.Assembly.{listing_of}
use Rattle.model.specs.TapeText.{tape_text}
use Rattle.program.proofs.Ends.{not_refused, only_memory, same_fault}
use Rattle.program.proofs.Listings.{one_asked}
use Rattle.program.proofs.assembling.asm_texts.Goals as goal

pub returns-in_err-assembly-clause-only : goal.returns-in_err-assembly-clause-only
returns-in_err-assembly-clause-only c image h = only_memory c.from_residual.result c.in_err-assembly.field-0.0 _ c.from_residual.ensures.1
    (c.in_err-assembly.ensures.only image h)

pub returns-in_err-assembly-clause-faulty : goal.returns-in_err-assembly-clause-faulty
returns-in_err-assembly-clause-faulty c f h = same_fault _ _ _ c.from_residual.result c.in_err-assembly.field-0.0 f _ c.from_residual.ensures.1
    (c.in_err-assembly.ensures.faulty f h)

pub returns-in-Ok-clause-only : goal.returns-in-Ok-clause-only
returns-in-Ok-clause-only c image h = c.in-Ok.ensures.tape ∙ ap tape_text (c.in_ok-assembly.ensures.only image h)

pub returns-in-Ok-clause-only_listing : goal.returns-in-Ok-clause-only_listing
returns-in-Ok-clause-only_listing c =
    one_asked _ c.in-Ok.texts.listing c.args.is_listed c.args.map.now c.args.source.now (listing_of c.in_ok-assembly.assembly) c.one_assignment.ensures
    c.each_source_has_one_meaning.ensures.image c.in-Ok.ensures.listing c.in_ok-assembly.ensures.listed

pub returns-in-Ok-clause-faulty : goal.returns-in-Ok-clause-faulty
returns-in-Ok-clause-faulty c f h = absurd (not_refused c.in_ok-assembly.assembly _ _ (c.in_ok-assembly.ensures.faulty f h))
