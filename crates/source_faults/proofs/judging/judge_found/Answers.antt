use Rattle.model.specs.Names.{number_in}
use Rattle.source_faults.specs.Views.{made_view}
use Rattle.source_faults.proofs.ValuesOfLines.{begins_made, plain_judged, plain_made, refused_judged, refused_made}
use Rattle.source_faults.proofs.judging.judge_found.Goals as goal
use Rattle.source_faults.proofs.judging.judge_found.Goals.{then-begins, else-begins}

pub returns-in-Refused-clause-judged : goal.returns-in-Refused-clause-judged
returns-in-Refused-clause-judged c =
    rw c.in-Refused.is (refused_judged c.args.map.now (number_in c.args.names.now) (made_view c.args.made.now) c.in-Refused.address c.in-Refused.kind)

pub returns-in-Refused-clause-made : goal.returns-in-Refused-clause-made
returns-in-Refused-clause-made c =
    rw c.in-Refused.is (refused_made c.args.map.now (number_in c.args.names.now) (made_view c.args.made.now) c.in-Refused.address c.in-Refused.kind)

pub returns-after-begins-clause-judged : goal.returns-after-begins-clause-judged
returns-after-begins-clause-judged c = rw c.in-Plain.is (plain_judged c.args.map.now (number_in c.args.names.now) (made_view c.args.made.now)
    c.in-Plain.address)

pub returns-after-begins-clause-made : goal.returns-after-begins-clause-made
returns-after-begins-clause-made c =
    elim c.if-begins.branch [
      | then-begins w ↦ rw (c.in-Plain.is, w.made-is) (begins_made c.args.map.now (number_in c.args.names.now) (made_view c.args.made.now)
          c.in-Plain.address c.in-Plain.begins w.if-begins.true)
      | else-begins w ↦ rw (c.in-Plain.is, w.made-is) (plain_made c.args.map.now (number_in c.args.names.now) (made_view c.args.made.now)
          c.in-Plain.address c.in-Plain.begins w.if-begins.false)
    ]
