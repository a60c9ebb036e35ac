use Rattle.word_asm.proofs.Ends.{not_refused, other_result}
use Rattle.word_asm.proofs.Laid.{map_asked, symbols_asked}
use Rattle.word_asm.proofs.texts.file_texts.Goals as goal

pub returns-in-Ok-images_of-clause-symbols : goal.returns-in-Ok-images_of-clause-symbols
returns-in-Ok-images_of-clause-symbols c = symbols_asked c.args.map.now c.args.source.now _ c.in-Ok.ensures.denoted.1 c.args.asked.symbols _
    c.in-Ok-other_texts.ensures.symbols

pub returns-in-Ok-images_of-clause-places : goal.returns-in-Ok-images_of-clause-places
returns-in-Ok-images_of-clause-places c = map_asked c.args.map.now c.args.source.now _ c.in-Ok.ensures.denoted.1 c.args.asked.is_mapped _
    c.in-Ok-other_texts.ensures.map

pub returns-in-Ok-images_of-clause-faulty : goal.returns-in-Ok-images_of-clause-faulty
returns-in-Ok-images_of-clause-faulty c f h = absurd (not_refused c.in-Ok.asm _ _ (c.in-Ok.ensures.faulty f h))

pub returns-in-Err-clause-faulty : goal.returns-in-Err-clause-faulty
returns-in-Err-clause-faulty c f h = other_result _ f _ (c.in-Err.ensures.faulty f h)
