use Rattle.std.proofs.Common.{◌∙◌, ◌-◌, ◌+◌, sym, ap, arith, length}
use Rattle.std.specs.Option.{option_map}
use Rattle.mon_line_parts.proofs.Sums.{no_quoted_left, quoted_end, quoted_more, quoted_refused}
use Rattle.mon_line_parts.proofs.values.quoted_of.Goals as goal

pub returns-in-None-clause-ok : goal.returns-in-None-clause-ok
returns-in-None-clause-ok c =
    rw c.after.ensures (c.loop.invariant.read
    ∙ quoted_end (length c.args.text.now - c.loop.counter) _ _ (sym c.quoted_next.ensures ∙ ap (option_map _) c.in-None.is))

pub returns-in-Err-clause-err : goal.returns-in-Err-clause-err
returns-in-Err-clause-err c = c.loop.invariant.read
    ∙ quoted_refused (length c.args.text.now - c.loop.counter) (length c.args.text.now - (c.loop.counter + 1)) _ _ _ _ _ (omega arith)
    (sym c.quoted_next.ensures ∙ ap (option_map _) c.in-Some.is) c.in-Err.ensures.err

pub loop-preserved : goal.loop-preserved
loop-preserved c = record {
  read = c.loop.invariant.read
      ∙ quoted_more (length c.args.text.now - c.loop.counter) (length c.args.text.now - (c.loop.counter + 1)) _ _ _ _ _ _ (omega arith)
      (sym c.quoted_next.ensures ∙ ap (option_map _) c.in-Some.is) c.in-Ok.ensures.ok;
}

pub returns-clause-ok : goal.returns-clause-ok
returns-clause-ok c =
    rw c.after-2.ensures (c.loop.invariant.read ∙ no_quoted_left (length c.args.text.now - c.loop.counter) _ _ (omega arith))
