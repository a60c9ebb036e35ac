use Rattle.std.proofs.Common.{◌≡◌, ◌∙◌, ◌-◌, ◌+◌, ℕ, sym, ap, arith, length}
use Rattle.t65_reader.specs.RowText.{routine_in}
use Rattle.t65_reader.proofs.Routines.{named_here, named_later, none_named}
use Rattle.t65_reader.proofs.line.routine_of.Goals as goal

pub loop-init : goal.loop-init
loop-init c =
    let whole : length c.args.line.now - 0 ≡ length c.args.line.now = omega arith in
    record { found = sym (ap (λ (n : ℕ). routine_in n c.args.line.now) whole) }

pub returns-then-is_call_next : goal.returns-then-is_call_next
returns-then-is_call_next c = sym (c.loop.invariant.found
    ∙ named_here (length c.args.line.now - c.loop.counter) (length c.args.line.now - (c.loop.counter + 1)) _ _ (omega arith)
    (sym c.is_call_next.ensures ∙ c.if-is_call_next.true) c.second_word.ensures)

pub loop-preserved : goal.loop-preserved
loop-preserved c = record {
  found = c.loop.invariant.found
      ∙ named_later (length c.args.line.now - c.loop.counter) (length c.args.line.now - (c.loop.counter + 1)) _ _ (omega arith)
      (sym c.is_call_next.ensures ∙ c.if-is_call_next.false) c.behind_word-rest.ensures;
}

pub returns : goal.returns
returns c = sym (c.loop.invariant.found ∙ none_named (length c.args.line.now - c.loop.counter) _ (omega arith))
