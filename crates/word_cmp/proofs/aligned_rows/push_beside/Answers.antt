use Rattle.word_cmp.specs.AlignedRows.{beside_text}
use Rattle.word_cmp.proofs.TextOfRows.{five}
use Rattle.word_cmp.proofs.aligned_rows.push_beside.Goals as goal

pub returns : goal.returns
unfolding beside_text
returns c = five _ _ _ _ _ _ _ _ _ _ _ c.in_ok-push_str.ensures.bytes c.in_ok-push_address.ensures c.in_ok-push_str-2.ensures.bytes
    c.in_ok-push_part.ensures c.in_ok-push_str-3.ensures.bytes
