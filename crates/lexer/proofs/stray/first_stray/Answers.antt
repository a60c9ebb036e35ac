use Rattle.std.proofs.Common.{◌≡◌, ◌∙◌, sym, ap, arith, drop, None, Some}
use Rattle.model.specs.Token.{token_at}
use Rattle.lexer.proofs.Runs.{from}
use Rattle.lexer.proofs.Steps.{token_inside}
use Rattle.lexer.proofs.Strays.{blank_passed, at_comment, at_end, none_found, token_passed}
use Rattle.lexer.proofs.stray.first_stray.Goals as goal

pub loop-start-preserved-then-is_blank_byte : goal.loop-start-preserved-then-is_blank_byte
loop-start-preserved-then-is_blank_byte c = record {
  inside = omega arith;
  same = blank_passed c.args.line.now c.loop-start.start c.loop-start-test.true (sym c.is_blank_byte.ensures ∙ c.if-is_blank_byte.true)
      ∙ c.loop-start.invariant.same;
}

pub returns-then-byte-eq59 : goal.returns-then-byte-eq59
returns-then-byte-eq59 c =
    sym (at_comment c.args.line.now c.loop-start.start c.loop-start-test.true c.if-byte-eq59.true) ∙ c.loop-start.invariant.same

pub returns : goal.returns
returns c = sym (at_end c.args.line.now c.loop-start.start c.loop-start-test.false) ∙ c.loop-start.invariant.same

pub returns-in_default : goal.returns-in_default
returns-in_default c =
    let line = c.args.line.now in
    let start = c.loop-start.start in
    let none : token_at (drop start line) ≡ None = sym (c.in_default.ensures ∙ ap token_at (from start line)) in
    sym (none_found line start c.loop-start-test.true (sym c.is_blank_byte.ensures ∙ c.if-is_blank_byte.false) c.if-byte-eq59.false none)
    ∙ c.loop-start.invariant.same

pub loop-start-smaller : goal.loop-start-smaller
loop-start-smaller c =
    let line = c.args.line.now in
    let start = c.loop-start.start in
    let some : token_at (drop start line) ≡ Some (c.in-Some.field-0-0, c.in-Some.text.now) = sym (c.in-Some.ensures ∙ ap token_at (from start line)) in
    let inside = token_inside line start c.in-Some.field-0-0 c.in-Some.text.now some in
    omega (arith, inside.0, inside.1)

pub loop-start-preserved : goal.loop-start-preserved
loop-start-preserved c =
    let line = c.args.line.now in
    let start = c.loop-start.start in
    let some : token_at (drop start line) ≡ Some (c.in-Some.field-0-0, c.in-Some.text.now) = sym (c.in-Some.ensures ∙ ap token_at (from start line)) in
    let inside = token_inside line start c.in-Some.field-0-0 c.in-Some.text.now some in
    record {
      inside = inside.0;
      same = token_passed line start c.in-Some.field-0-0 c.in-Some.text.now c.loop-start-test.true
          (sym c.is_blank_byte.ensures ∙ c.if-is_blank_byte.false) c.if-byte-eq59.false some
          ∙ c.loop-start.invariant.same;
    }
