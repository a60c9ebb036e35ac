use Rattle.std.proofs.Common.{arith}
use Rattle.std.proofs.lemmas.List.{length-map}
use Rattle.std.specs.Option.{option_map}
use Rattle.debug_records.specs.Views.{file_view, info_view}
use Rattle.debug_facts.proofs.Filed.{all_rows, none_made, row_made}
use Rattle.debug_facts.proofs.rows.push_files.Goals as goal

pub loop-number-init : goal.loop-number-init
loop-number-init c = record {
  few = omega arith;
  left = none_made _ _ _;
}

pub loop-number-preserved : goal.loop-number-preserved
loop-number-preserved c = record {
  few = omega (arith, c.loop-number-test.true);
  left = row_made (info_view c.args.info.now) c.args.states.now _ _ _ c.loop-number.number
      (omega (arith, c.loop-number-test.true, length-map c.args.info.now.files.items (option_map file_view)))
      c.in_ok-push_file_at.ensures c.loop-number.invariant.left;
}

pub returns : goal.returns
returns c = all_rows (info_view c.args.info.now) c.args.states.now _ _ c.loop-number.number
    (omega (arith, c.loop-number-test.false, c.loop-number.invariant.few, length-map c.args.info.now.files.items (option_map file_view)))
    c.loop-number.invariant.left
