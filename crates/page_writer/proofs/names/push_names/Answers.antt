use Rattle.std.proofs.Common.{◌∙◌, ap, ◌++◌, List, ℕ, length, arith, flat_map}
use Rattle.std.specs.Prelude.{slice_get}
use Rattle.std.specs.Option.{option_to_list}
use Rattle.std.proofs.Math.Nat.{min-le_left}
use Rattle.std.proofs.lemmas.List.{take_all}
use Rattle.std.proofs.lemmas.Slice.Zip.{length-zip}
use Rattle.page_writer.specs.Facts.{number_fact}
use Rattle.source_map.specs.Names.{named_numbers}
use Rattle.source_map.proofs.Steps.{one_more}
use Rattle.page_writer.proofs.names.push_names.Goals as goal

pub loop-index-preserved : goal.loop-index-preserved
loop-index-preserved c =
    let names = named_numbers c.args.assembly.now in
    let fact = number_fact c.args.is_other c.args.written.now in
    let i = c.loop-index.index in
    record {
      added = c.in_ok-push_name_at.ensures
          ∙ (ap (λ (text : List ℕ). text ++ flat_map fact (option_to_list (slice_get names i))) c.loop-index.invariant.added
          ∙ one_more fact names i c.args.text.now.items);
    }

pub returns : goal.returns
returns c =
    let a = c.args.assembly.now in
    c.loop-index.invariant.added
    ∙ ap (λ ds. c.args.text.now.items ++ flat_map (number_fact c.args.is_other c.args.written.now) ds)
    (take_all c.loop-index.index (named_numbers a) (omega (arith, length-zip a.names a.labels, min-le_left (length a.names) (length a.labels))))
