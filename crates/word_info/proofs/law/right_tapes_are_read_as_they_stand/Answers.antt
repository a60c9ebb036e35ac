use Rattle.std.proofs.Common.{sym}
use Rattle.image_reader.proofs.EndRecords.{unchanged}
use Rattle.word_info.proofs.RightTapes.{right_has_none}
use Rattle.word_info.proofs.law.right_tapes_are_read_as_they_stand.Goals as goal

pub returns : goal.returns
returns c = λ text cells tape. sym (unchanged text (right_has_none text cells tape))
