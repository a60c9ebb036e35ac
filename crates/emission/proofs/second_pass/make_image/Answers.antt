use Rattle.std.proofs.Common.{refl}
use Rattle.line_parts.specs.KeptLines.{placed_line_of}
use Rattle.model.specs.Names.{number_in}
use Rattle.emission.proofs.NoByteAtPort.{empty_spared, put_spared, spared_is}
use Rattle.emission.proofs.SecondPass.{puts_on, puts_error}
use Rattle.emission.proofs.second_pass.make_image.Goals as goal

pub loop-line-init : goal.loop-line-init
loop-line-init c = record {
  made = rw c.in_ok-image.ensures.empty refl;
  spared = rw c.in_ok-image.ensures.empty (empty_spared c.args.map.now);
}

pub returns-in-Err-clause-exact : goal.returns-in-Err-clause-exact
returns-in-Err-clause-exact c =
    puts_error c.args.map.now (number_in c.args.names.now) c.loop-line.image c.put_line.new.image c.args.kept.now c.loop-line.line-index c.line-item.result
    c.in-Err.error c.fault_on_line.result _ c.loop-line-test.true c.line-item.is c.in-Err.ensures.exact c.fault_on_line.ensures c.loop-line.invariant.made

pub loop-line-preserved : goal.loop-line-preserved
loop-line-preserved c = record {
  made = puts_on c.args.map.now (number_in c.args.names.now) c.loop-line.image c.put_line.new.image c.args.kept.now c.loop-line.line-index c.line-item.result
      _ c.loop-line-test.true c.line-item.is c.in-Ok.ensures.exact c.loop-line.invariant.made;
  spared = put_spared c.args.map.now (number_in c.args.names.now) c.loop-line.image c.put_line.new.image (placed_line_of c.line-item.result)
      c.in-Ok.ensures.exact c.loop-line.invariant.spared;
}

pub returns-clause-spared : goal.returns-clause-spared
returns-clause-spared c = spared_is c.args.map.now c.loop-line.image c.loop-line.invariant.spared
