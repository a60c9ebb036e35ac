use Rattle.program.proofs.Ends.{ends_asm}
use Rattle.word_asm.proofs.plain.source_and_texts.Goals as goal

pub returns-in_err-texts-clause-refused : goal.returns-in_err-texts-clause-refused
returns-in_err-texts-clause-refused g c =
    ends_asm c.from_residual-in_err-texts.result c.in_ok-map.map _ _ c.in_err-texts.field-0.0 c.from_residual-in_err-texts.ensures.1
    c.in_ok-map.ensures.map c.in_err-texts.ensures.refused
