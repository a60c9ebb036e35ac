use Rattle.word_cmp.specs.DifferenceRows.{row_text}
use Rattle.word_cmp.proofs.DifferenceRows.{ten}
use Rattle.word_cmp.proofs.row_text.push_row.Goals as goal

pub returns : goal.returns
unfolding row_text
returns c = ten _ _ _ _ _ _ _ _ _ _ _ _ _ _ _ _ _ _ _ _ _ c.in_ok-push_address.ensures c.in_ok-push_str.ensures.bytes c.in_ok-push_byte.ensures
    c.in_ok-push_str-2.ensures.bytes c.in_ok-push_byte-2.ensures c.in_ok-push_str-3.ensures.bytes c.in_ok-push_instruction.ensures
    c.in_ok-push_str-4.ensures.bytes c.in_ok-push_instruction-2.ensures c.in_ok-push_str-5.ensures.bytes
