use Rattle.std.proofs.Common.{◌∙◌, ap, ◌++◌, List, length, arith}
use Rattle.std.specs.Prelude.{slice_get}
use Rattle.std.specs.Option.{option_to_list}
use Rattle.std.proofs.Math.Nat.{min-le_left}
use Rattle.std.proofs.lemmas.List.{take_all}
use Rattle.std.proofs.lemmas.Slice.Zip.{length-zip}
use Rattle.source_map.specs.Names.{Named, name_of, named_numbers, names_of}
use Rattle.source_map.proofs.Steps.{one_more}
use Rattle.source_map.proofs.names.Names.append.Goals as goal

pub loop-index-preserved : goal.loop-index-preserved
loop-index-preserved c =
    let image = c.args.assembly.now.image in
    let names = named_numbers c.args.assembly.now in
    let i = c.loop-index.index in
    record {
      added = c.in_ok-add_at.ensures.ok
          ∙ (ap (λ (ns : List Named). ns ++ names_of image (option_to_list (slice_get names i))) c.loop-index.invariant.added
          ∙ one_more (λ d. name_of image d.0.0 d.0.1 d.1) names i c.args.self.now);
    }

pub returns-clause-ok : goal.returns-clause-ok
returns-clause-ok c =
    let a = c.args.assembly.now in
    c.loop-index.invariant.added
    ∙ ap (λ ds. c.args.self.now ++ names_of a.image ds) (take_all c.loop-index.index (named_numbers a)
    (omega (arith, length-zip a.names a.labels, min-le_left (length a.names) (length a.labels))))
