use Rattle.word_cmp.specs.AlignedRows.{alone_text}
use Rattle.word_cmp.proofs.TextOfRows.{four}
use Rattle.word_cmp.proofs.aligned_rows.push_alone.Goals as goal

pub returns : goal.returns
unfolding alone_text
returns c = four _ _ _ _ _ _ _ _ _ c.in_ok-push_address.ensures c.in_ok-push_str.ensures.bytes c.in_ok-push_part.ensures c.in_ok-push_str-2.ensures.bytes
