use Rattle.word_cmp.specs.AlignedRows.{changed_text}
use Rattle.word_cmp.proofs.DifferenceRows.{eight}
use Rattle.word_cmp.proofs.aligned_rows.push_changed.Goals as goal

pub returns : goal.returns
unfolding changed_text
returns c = eight _ _ _ _ _ _ _ _ _ _ _ _ _ _ _ _ _ c.in_ok-push_address.ensures c.in_ok-push_str.ensures.bytes c.in_ok-push_address-2.ensures
    c.in_ok-push_str-2.ensures.bytes c.in_ok-push_part.ensures c.in_ok-push_str-3.ensures.bytes c.in_ok-push_part-2.ensures c.in_ok-push_str-4.ensures.bytes
