use Rattle.std.proofs.Common.{◌∙◌, ◌++◌, ap, List, ℕ, flat_map}
use Rattle.std.specs.Prelude.{slice_get}
use Rattle.std.specs.Option.{option_to_list}
use Rattle.assembler.specs.Assembly.{source_lines}
use Rattle.source_map.proofs.Steps.{one_more}
use Rattle.page_writer.specs.Facts.{text_of}
use Rattle.page_writer.proofs.facts.push_texts.Goals as goal

pub loop-index-preserved : goal.loop-index-preserved
loop-index-preserved c =
    let lines = source_lines c.args.assembly.now in
    let i = c.loop-index.index in
    record {
      texts = c.in_ok-push_text_at.ensures
          ∙ (ap (λ (text : List ℕ). text ++ flat_map text_of (option_to_list (slice_get lines i))) c.loop-index.invariant.texts
          ∙ one_more text_of lines i c.args.text.now.items);
    }
