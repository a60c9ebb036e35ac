use Rattle.std.proofs.Common.{◌∙◌, ◌++◌, Fits, List, ap, append_assoc, arith, length, refl, w64, ℕ}
use Rattle.std.proofs.Math.Facts.{Fits-le}
use Rattle.std.proofs.lemmas.Result.{IfOk-weaker}
use Rattle.line_parts.specs.Lexemes.{lexemes}
use Rattle.lsp_hints.proofs.EndSteps.{last_end, next_end, next_slices, next_within}
use Rattle.lsp_hints.proofs.Gathered.{gathered, gathered_all}
use Rattle.lsp_hints.proofs.PaintSteps.{token_next, tokens_end}
use Rattle.lsp_hints.specs.Painted.{comment_paints, starts_definition, tokens_paints}
use Rattle.lsp_hints.specs.declared.paint.Paint.{Paint}
use Rattle.lsp_hints.proofs.paint.push_parts.Goals as goal

pub loop-token-init : goal.loop-token-init
loop-token-init c = record {
  painted = rw c.starts_definition-defines.ensures refl;
  end = refl;
  slices = c.tokens_are_slices.ensures c.args.text.now (lexemes c.args.tokens.now) c.requires;
  within = omega arith;
}

pub overflow_add-end : goal.overflow_add-end
overflow_add-end c =
    let fits : Fits w64 (length c.args.text.now) = omega arith in
    Fits-le (next_within c.args.text.now c.loop-token.end c.loop-token.token-index c.args.tokens.now _ (omega (arith, c.loop-token-test.true))
    c.loop-token.invariant.slices) fits

pub loop-token-preserved : goal.loop-token-preserved
loop-token-preserved c = record {
  painted = gathered c.loop-token.paints.items _ _ _ _ _ c.in_ok-push_token.ensures
      (token_next c.args.profile c.args.line c.loop-token.token-index c.loop-token.defines c.args.tokens.now _
      (omega (arith, c.loop-token-test.true))) c.loop-token.invariant.painted;
  end = next_end c.loop-token.end c.loop-token.token-index c.args.tokens.now _ _ (omega (arith, c.loop-token-test.true)) c.loop-token.invariant.end;
  slices = (next_slices c.args.text.now c.loop-token.end c.loop-token.token-index c.args.tokens.now _ (omega (arith, c.loop-token-test.true))
      c.loop-token.invariant.slices).3;
  within = next_within c.args.text.now c.loop-token.end c.loop-token.token-index c.args.tokens.now _ (omega (arith, c.loop-token-test.true))
      c.loop-token.invariant.slices;
}

pub push_comment-requires : goal.push_comment-requires
push_comment-requires c = c.loop-token.invariant.within

pub returns : goal.returns
returns c =
    let tokens = tokens_paints c.args.profile c.args.line (starts_definition (lexemes c.args.tokens.now)) (lexemes c.args.tokens.now) in
    let comment = λ (end : ℕ). comment_paints c.args.line c.args.text.now end in
    let ends = last_end c.loop-token.end c.loop-token.token-index c.args.tokens.now _ (omega (arith, c.loop-token-test.false)) c.loop-token.invariant.end in
    let painted = gathered_all c.loop-token.paints.items _ _
    (tokens_end c.args.profile c.args.line c.loop-token.token-index c.loop-token.defines c.args.tokens.now
    (omega (arith, c.loop-token-test.false))) c.loop-token.invariant.painted in
    IfOk-weaker c.push_comment.result _ _ (λ v put. put
    ∙ ap (λ (ps : List Paint). ps ++ comment c.loop-token.end) painted
    ∙ append_assoc c.args.paints.now.items tokens (comment c.loop-token.end)
    ∙ ap (λ (end : ℕ). c.args.paints.now.items ++ (tokens ++ comment end)) ends) c.push_comment.ensures
