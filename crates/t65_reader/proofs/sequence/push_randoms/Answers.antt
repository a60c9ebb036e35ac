use Rattle.std.proofs.Common.{◌≡◌, ◌∙◌, ◌++◌, ◌+◌, ◌-◌, ℕ, [], ◌∷◌, ap, ap₂, arith}
use Rattle.t65_values.specs.declared.expression.Value.{Value}
use Rattle.t65_reader.specs.Sequences.{random_values}
use Rattle.t65_reader.proofs.Pieces.{all_drawn, one_drawn}
use Rattle.t65_reader.proofs.sequence.push_randoms.Goals as goal

pub loop-i-init : goal.loop-i-init
loop-i-init c =
    let from : c.args.first + 0 ≡ c.args.first = omega arith in
    let whole : c.args.count - 0 ≡ c.args.count = omega arith in
    record { rest = ap₂ (λ (first n : ℕ). c.args.found.now.items ++ random_values first n) from whole }

pub loop-i-preserved : goal.loop-i-preserved
loop-i-preserved c = record {
  rest = one_drawn _ _ _ (c.args.first + c.loop-i.i) (c.args.first + (c.loop-i.i + 1)) (c.args.count - c.loop-i.i) (c.args.count - (c.loop-i.i + 1))
      (omega arith) (omega arith)
      (c.in_ok-push_value.ensures.ok ∙ ap (λ (v : Value). c.loop-i.found.items ++ v ∷ []) c.just.ensures) c.loop-i.invariant.rest;
}

pub returns-clause-ok : goal.returns-clause-ok
returns-clause-ok c = all_drawn _ _ (c.args.first + c.loop-i.i) (c.args.count - c.loop-i.i) (omega arith) c.loop-i.invariant.rest
