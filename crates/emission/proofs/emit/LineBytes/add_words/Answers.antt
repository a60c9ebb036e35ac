use Rattle.std.proofs.Common.{◌∙◌, ap, arith, ℤ, pos, Result}
use Rattle.line_parts.specs.TermViews.{term_view}
use Rattle.model.specs.Names.{number_in}
use Rattle.model.specs.Expression.{Term}
use Rattle.model.specs.Value.{eval_of}
use Rattle.model.specs.declared.expression.ExprFault.{ExprFault}
use Rattle.emission.specs.Gathering.{piece_view, word_piece_in}
use Rattle.emission.proofs.Gathers.{gathered_step, gathered_end}
use Rattle.emission.proofs.emit.LineBytes.add_words.Goals as goal

pub loop-value-preserved : goal.loop-value-preserved
loop-value-preserved c =
    gathered_step (λ (e : Term). word_piece_in c.args.order (eval_of (number_in c.args.names.now) (pos c.args.here) e)) term_view c.args.values.now
    c.loop-value.value-index c.value-item.result
    c.loop-value.self c.add.new.self (piece_view c.word.result) _ c.loop-value-test.true c.value-item.is c.in_ok-add.ensures
    (c.word.ensures ∙ ap (λ (r : Result ℤ ExprFault). word_piece_in c.args.order r) c.number_at.ensures) c.loop-value.invariant

pub returns : goal.returns
returns c =
    gathered_end (λ (e : Term). word_piece_in c.args.order (eval_of (number_in c.args.names.now) (pos c.args.here) e)) term_view c.args.values.now
    c.loop-value.value-index
    c.loop-value.self _ (omega arith) c.loop-value.invariant
