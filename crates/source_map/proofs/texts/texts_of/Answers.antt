use Rattle.std.proofs.Common.{◌∙◌, ◌++◌, ap, List, ℕ}
use Rattle.std.specs.Prelude.{slice_get}
use Rattle.std.specs.Option.{option_to_list}
use Rattle.assembler.specs.Assembly.{source_lines}
use Rattle.source_map.specs.Lines.{texts_of}
use Rattle.source_map.proofs.Steps.{one_more_mapped}
use Rattle.source_map.proofs.texts.texts_of.Goals as goal

pub loop-index-preserved : goal.loop-index-preserved
loop-index-preserved c =
    let lines = source_lines c.args.assembly.now in
    let i = c.loop-index.index in
    record {
      texts = c.in_ok-push_text_at.ensures
          ∙ (ap (λ (texts : List (List ℕ)). texts ++ texts_of (option_to_list (slice_get lines i))) c.loop-index.invariant.texts
          ∙ one_more_mapped (λ line. line.text) lines i);
    }
