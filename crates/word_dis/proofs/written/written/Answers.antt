use Rattle.std.proofs.Common.{subst}
use Rattle.std.specs.Prelude.{option_map}
use Rattle.remarked_source.specs.RemarkedText.{IsRemarkedText}
use Rattle.remarked_source.specs.Rows.{Beside}
use Rattle.word_dis.specs.Views.{source_view}
use Rattle.word_dis.proofs.Parts.{source_is}
use Rattle.word_dis.proofs.written.written.Goals as goal

pub returns : goal.returns
returns c =
    source_is (source_view c.args.words.now) c.args.image.now (option_map (λ a. a.now.names) c.args.names) c.in_ok-whole.whole
    c.in_ok-kept_part.kept_part.part c.in_ok-marks.marks.items c.in_ok-plain.plain.items c.in_ok-halves.halves.items c.in_ok-strings.strings.items
    c.in_ok-text.text.items c.is_at_port.result c.in_ok-kept_part.kept_part.left_out c.in_ok-whole.ensures c.in_ok-kept_part.ensures.cells
    c.in_ok-kept_part.ensures.counted c.in_ok-marks.ensures (rw c.as_slice.ensures.value at c.in_ok-plain.ensures.says)
    (rw c.as_slice-splits.ensures.value at c.in_ok-halves.ensures.text) (rw c.as_slice-2.ensures.value at c.in_ok-strings.ensures.text)
    (subst (λ (b : Beside). IsRemarkedText (source_view c.args.words.now).profile c.in_ok-kept_part.kept_part.part b c.in_ok-strings.strings.items
    c.in_ok-text.text.items) c.beside_of.ensures c.in_ok-text.ensures.text)
    (c.in_ok-text.ensures.denotes (c.in_ok-strings.ensures.denotes (c.in_ok-halves.ensures.denotes c.in_ok-plain.ensures.denotes))) c.is_at_port.ensures
