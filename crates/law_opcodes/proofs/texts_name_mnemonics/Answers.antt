use Rattle.law_opcodes.proofs.Encoding.{mnemonics_named, named_of_code}
use Rattle.law_opcodes.proofs.texts_name_mnemonics.Goals as goal

pub returns : goal.returns
returns c = record { each = mnemonics_named; used = named_of_code }
