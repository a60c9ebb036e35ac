use Rattle.std.proofs.Common.{◌∙◌, ap, ◌++◌, List, arith}
use Rattle.std.specs.Prelude.{slice_get}
use Rattle.std.specs.Option.{option_to_list}
use Rattle.std.proofs.lemmas.List.{take_all}
use Rattle.source_map.specs.Names.{Named, other_name, other_names}
use Rattle.source_map.proofs.Steps.{one_more}
use Rattle.source_map.proofs.names.Names.append_others.Goals as goal

pub loop-index-preserved : goal.loop-index-preserved
loop-index-preserved c =
    let names = c.args.names.now in
    let i = c.loop-index.index in
    record {
      added = c.in_ok-add_other_at.ensures.ok
          ∙ (ap (λ (ns : List Named). ns ++ other_names (option_to_list (slice_get names i))) c.loop-index.invariant.added
          ∙ one_more (λ d. other_name d.0 d.1) names i c.args.self.now);
    }

pub returns-clause-ok : goal.returns-clause-ok
returns-clause-ok c =
    let names = c.args.names.now in
    c.loop-index.invariant.added
    ∙ ap (λ ds. c.args.self.now ++ other_names ds) (take_all c.loop-index.index names (omega arith))
