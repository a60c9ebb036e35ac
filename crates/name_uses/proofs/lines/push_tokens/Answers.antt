use Rattle.std.proofs.Common.{arith, refl, sym, ◌∙◌}
use Rattle.name_uses.proofs.Steps.{no_name, one_name, tokens_done}
use Rattle.name_uses.proofs.lines.push_tokens.Goals.{then-is_name_token+in_ok-push, else-is_name_token}
use Rattle.name_uses.proofs.lines.push_tokens.Goals as goal

pub loop-token-preserved : goal.loop-token-preserved
loop-token-preserved c =
    elim c.if-is_name_token.branch [
      | then-is_name_token+in_ok-push w ↦
          rw (w.uses-is, w.defined-is) (one_name c.args.profile c.args.number c.loop-token.token-index c.loop-token.defined c.args.tokens.now _
          c.loop-token.uses.items _ _ _ (omega (arith, c.loop-token-test.true)) (sym c.is_name_token.ensures ∙ w.if-is_name_token.true)
          w.in_ok-push.ensures.items refl c.loop-token.invariant)
      | else-is_name_token w ↦
          rw (w.uses-is, w.defined-is) (no_name c.args.profile c.args.number c.loop-token.token-index c.loop-token.defined c.args.tokens.now _ _ _
          (omega (arith, c.loop-token-test.true)) (sym c.is_name_token.ensures ∙ w.if-is_name_token.false) c.loop-token.invariant)
    ]

pub returns : goal.returns
returns c = tokens_done c.args.profile c.args.number c.loop-token.token-index c.loop-token.defined c.args.tokens.now _ _
    (omega (arith, c.loop-token-test.false)) c.loop-token.invariant

pub loop-token-init : goal.loop-token-init
loop-token-init c = refl
