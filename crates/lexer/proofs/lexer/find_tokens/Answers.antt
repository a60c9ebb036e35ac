use Rattle.std.proofs.Common.{◌≡◌, ◌∙◌, sym, ap, map, arith, ◌+◌, ◌++◌, ◌∷◌, [], List, length, drop, Some, None}
use Rattle.std.proofs.lemmas.List.{map-append}
use Rattle.model.specs.Token.{Lexeme, token_at, tokens_from}
use Rattle.lexer.specs.Lexing.{then_tokens}
use Rattle.lexer.proofs.Runs.{from}
use Rattle.line_parts.specs.Lexemes.{lexeme_of, lexemes}
use Rattle.lexer.proofs.Steps.{whole, refused, at_start, blank_passed, at_comment, at_end, none_found, token_inside, token_passed}
use Rattle.lexer.proofs.lexer.find_tokens.Goals as goal

pub returns-then-not-all_may_stand-clause-syntax : goal.returns-then-not-all_may_stand-clause-syntax
returns-then-not-all_may_stand-clause-syntax c _ = refused c.args.line.now (sym c.all_may_stand.ensures ∙ c.if-not-all_may_stand.true)

pub loop-start-init : goal.loop-start-init
loop-start-init c = record {
  inside = omega arith;
  same = at_start (lexemes c.clear.new.self.items) c.args.line.now (ap (map lexeme_of) c.clear.ensures.items);
}

pub loop-start-preserved-then-is_blank_byte : goal.loop-start-preserved-then-is_blank_byte
loop-start-preserved-then-is_blank_byte c = record {
  inside = omega arith;
  same = blank_passed (lexemes c.loop-start.found.items) c.args.line.now c.loop-start.start c.loop-start-test.true
      (sym c.is_blank_byte.ensures ∙ c.if-is_blank_byte.true) ∙ c.loop-start.invariant.same;
}

pub returns-then-byte-eq59-clause-found : goal.returns-then-byte-eq59-clause-found
returns-then-byte-eq59-clause-found c =
    whole c.args.line.now (sym c.all_may_stand.ensures ∙ c.if-not-all_may_stand.false)
    ∙ sym c.loop-start.invariant.same
    ∙ at_comment (lexemes c.loop-start.found.items) c.args.line.now c.loop-start.start c.loop-start-test.true c.if-byte-eq59.true

pub returns-clause-found : goal.returns-clause-found
returns-clause-found c =
    whole c.args.line.now (sym c.all_may_stand.ensures ∙ c.if-not-all_may_stand.false)
    ∙ sym c.loop-start.invariant.same
    ∙ at_end (lexemes c.loop-start.found.items) c.args.line.now c.loop-start.start c.loop-start-test.false

pub returns-in_default-clause-syntax : goal.returns-in_default-clause-syntax
returns-in_default-clause-syntax c _ =
    let line = c.args.line.now in
    let start = c.loop-start.start in
    let none : token_at (drop start line) ≡ None = sym (c.in_default.ensures ∙ ap token_at (from start line)) in
    whole line (sym c.all_may_stand.ensures ∙ c.if-not-all_may_stand.false)
    ∙ sym c.loop-start.invariant.same
    ∙ none_found (lexemes c.loop-start.found.items) line start c.loop-start-test.true (sym c.is_blank_byte.ensures ∙ c.if-is_blank_byte.false)
    c.if-byte-eq59.false none

pub loop-start-smaller : goal.loop-start-smaller
loop-start-smaller c =
    let line = c.args.line.now in
    let start = c.loop-start.start in
    let some : token_at (drop start line) ≡ Some (c.in-Some.kind, c.in-Some.text.now) = sym (c.in-Some.ensures ∙ ap token_at (from start line)) in
    let inside = token_inside line start c.in-Some.kind c.in-Some.text.now some in
    omega (arith, inside.0, inside.1)

pub loop-start-preserved : goal.loop-start-preserved
loop-start-preserved c =
    let line = c.args.line.now in
    let start = c.loop-start.start in
    let some : token_at (drop start line) ≡ Some (c.in-Some.kind, c.in-Some.text.now) = sym (c.in-Some.ensures ∙ ap token_at (from start line)) in
    let inside = token_inside line start c.in-Some.kind c.in-Some.text.now some in
    let pushed : lexemes c.push.new.self.items ≡ lexemes c.loop-start.found.items
    ++ record { kind = c.in-Some.kind; start = start; text = c.in-Some.text.now } ∷ [] =
    ap lexemes c.in_ok-push.ensures.items ∙ map-append lexeme_of c.loop-start.found.items _ in
    record {
      inside = inside.0;
      same =
          ap (λ (x : List Lexeme). then_tokens x (tokens_from (start + length c.in-Some.text.now) 0 (drop (start + length c.in-Some.text.now) line))) pushed
          ∙ token_passed (lexemes c.loop-start.found.items) line start c.in-Some.kind c.in-Some.text.now c.loop-start-test.true
          (sym c.is_blank_byte.ensures ∙ c.if-is_blank_byte.false) c.if-byte-eq59.false some
          ∙ c.loop-start.invariant.same;
    }
