use Rattle.std.proofs.Common.{◌∙◌, ap, arith, map, sym}
use Rattle.std.proofs.lemmas.List.{length-map}
use Rattle.std.specs.Option.{option_map}
use Rattle.debug_records.specs.Views.{info_view, scope_view}
use Rattle.source_map.specs.Functions.{function_view}
use Rattle.source_map.proofs.InFunctions.{all_functions, function_made, none_made}
use Rattle.source_map.proofs.functions.functions_of.Goals as goal

pub loop-number-init : goal.loop-number-init
loop-number-init c = record {
  few = omega arith;
  left = none_made (info_view c.args.info.now) _ (ap (map function_view) c.new-functions.ensures.items);
}

pub loop-number-preserved : goal.loop-number-preserved
loop-number-preserved c = record {
  few = omega (arith, c.loop-number-test.true);
  left = function_made (info_view c.args.info.now) _ _ c.loop-number.number
      (omega (arith, c.loop-number-test.true, length-map c.args.info.now.scopes.items (option_map scope_view)))
      c.in_ok-push_function_at.ensures c.loop-number.invariant.left;
}

pub returns : goal.returns
returns c = all_functions (info_view c.args.info.now) _ c.loop-number.number
    (omega (arith, c.loop-number-test.false, c.loop-number.invariant.few, length-map c.args.info.now.scopes.items (option_map scope_view)))
    c.loop-number.invariant.left
