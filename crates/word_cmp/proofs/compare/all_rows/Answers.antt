use Rattle.std.proofs.Common.{◌∙◌, ℕ, List, ◌++◌, ap}
use Rattle.word_cmp.specs.DifferenceRows.{rows_of}
use Rattle.word_cmp.specs.DumpRows.{dump_text}
use Rattle.word_cmp.specs.Sides.{side_view}
use Rattle.word_cmp.proofs.DumpText.{said_ends}
use Rattle.word_cmp.proofs.compare.all_rows.Goals as goal

pub returns : goal.returns
returns c =
    let one = side_view c.args.one.now in
    let other = side_view c.args.other.now in (
      c.in_ok-push_dump_text.ensures ∙ ap (λ (t : List ℕ). t ++ dump_text one other)
          (c.in_ok-text.ensures.text ∙ ap (λ (d : List ℕ). rows_of one other d) c.requires.all),
      said_ends one other _ _ c.in_ok-push_dump_text.ensures c.in_ok-text.ensures.lines,
    )
