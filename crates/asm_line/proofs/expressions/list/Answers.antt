use Rattle.std.proofs.Common.{◌≡◌, Bool, ◌+◌, ◌-◌, [], ◌∷◌, ◌++◌, drop, length, length-drop, sym, ◌∙◌, ap, subst, arith, true, false}
use Rattle.std.specs.Prelude.{map, Some, None}
use Rattle.std.proofs.lemmas.List.{map-append}
use Rattle.line_parts.specs.Lexemes.{lexemes}
use Rattle.model.specs.SourceLine.{list_within}
use Rattle.asm_line.specs.Lists.{goes_on}
use Rattle.asm_line.proofs.TokensLeft.{lexemes_after, passed_on, fault_read}
use Rattle.asm_line.proofs.CommaLists.{none_read, last_read, more_read, wrong_read, zero_read, before}
use Rattle.asm_line.proofs.expressions.list.Goals as goal

pub returns-in_err-value : goal.returns-in_err-value
returns-in_err-value g c =
    let ls = lexemes c.args.tokens.now in
    passed_on _ (list_within g.T.Element.element_of (length c.args.tokens.now) ls) c.from_residual.result c.in_err-value.field-0.0
    c.from_residual.ensures.1 (λ fault.
    let none : g.T.Element.element_of (drop c.loop.at ls) ≡ None =
    ap g.T.Element.element_of (sym (lexemes_after c.loop.at c.args.tokens.now)) ∙ c.in_err-value.ensures.syntax fault in
    sym c.loop.invariant.read ∙ none_read g.T.Element.element_of (map g.T.Element.view_as c.loop.found.items)
    (length c.args.tokens.now - c.loop.counter) (drop c.loop.at ls) none)

pub returns-in_err-goes_on : goal.returns-in_err-goes_on
returns-in_err-goes_on g c =
    let ls = lexemes c.args.tokens.now in
    passed_on _ (list_within g.T.Element.element_of (length c.args.tokens.now) ls) c.from_residual-in_err-goes_on.result c.in_err-goes_on.field-0.0
    c.from_residual-in_err-goes_on.ensures.1 (λ fault.
    let found : g.T.Element.element_of (drop c.loop.at ls) ≡ Some (g.T.Element.view_as c.in_ok-value.value, drop c.in_ok-value.taken (drop c.loop.at ls)) =
    subst (λ ts. g.T.Element.element_of ts ≡ Some (g.T.Element.view_as c.in_ok-value.value, drop c.in_ok-value.taken ts))
    (lexemes_after c.loop.at c.args.tokens.now) c.in_ok-value.ensures.found in
    let none : goes_on (drop (c.loop.at + c.in_ok-value.taken) ls) ≡ None =
    ap goes_on (sym (lexemes_after (c.loop.at + c.in_ok-value.taken) c.args.tokens.now))
    ∙ fault_read (λ (more : Bool). more) _ c.in_err-goes_on.field-0.0 c.in_err-goes_on.ensures.read fault in
    sym c.loop.invariant.read
    ∙ wrong_read g.T.Element.element_of (map g.T.Element.view_as c.loop.found.items) (length c.args.tokens.now - c.loop.counter)
    (length c.args.tokens.now - (c.loop.counter + 1)) c.loop.at c.in_ok-value.taken ls (g.T.Element.view_as c.in_ok-value.value) (omega arith) found none)

pub returns-then-not-branch : goal.returns-then-not-branch
returns-then-not-branch g c =
    let ls = lexemes c.args.tokens.now in
    let found : g.T.Element.element_of (drop c.loop.at ls) ≡ Some (g.T.Element.view_as c.in_ok-value.value, drop c.in_ok-value.taken (drop c.loop.at ls)) =
    subst (λ ts. g.T.Element.element_of ts ≡ Some (g.T.Element.view_as c.in_ok-value.value, drop c.in_ok-value.taken ts))
    (lexemes_after c.loop.at c.args.tokens.now) c.in_ok-value.ensures.found in
    let last : goes_on (drop (c.loop.at + c.in_ok-value.taken) ls) ≡ Some false =
    ap goes_on (sym (lexemes_after (c.loop.at + c.in_ok-value.taken) c.args.tokens.now)) ∙ (c.in_ok-goes_on.ensures.read ∙ ap Some c.if-not-branch.true) in
    let pushed : map g.T.Element.view_as c.push.new.self.items ≡ map g.T.Element.view_as c.loop.found.items ++ g.T.Element.view_as c.in_ok-value.value
    ∷ [] = ap (map g.T.Element.view_as) c.in_ok-push.ensures.items ∙ map-append g.T.Element.view_as c.loop.found.items (c.in_ok-value.value ∷ []) in
    sym c.loop.invariant.read
    ∙ (last_read g.T.Element.element_of (map g.T.Element.view_as c.loop.found.items) (length c.args.tokens.now - c.loop.counter)
    (length c.args.tokens.now - (c.loop.counter + 1)) c.loop.at c.in_ok-value.taken ls (g.T.Element.view_as c.in_ok-value.value) (omega arith) found last
    ∙ ap Some (sym pushed))

pub loop-preserved : goal.loop-preserved
loop-preserved g c =
    let ls = lexemes c.args.tokens.now in
    let found : g.T.Element.element_of (drop c.loop.at ls) ≡ Some (g.T.Element.view_as c.in_ok-value.value, drop c.in_ok-value.taken (drop c.loop.at ls)) =
    subst (λ ts. g.T.Element.element_of ts ≡ Some (g.T.Element.view_as c.in_ok-value.value, drop c.in_ok-value.taken ts))
    (lexemes_after c.loop.at c.args.tokens.now) c.in_ok-value.ensures.found in
    let more : goes_on (drop (c.loop.at + c.in_ok-value.taken) ls) ≡ Some true =
    ap goes_on (sym (lexemes_after (c.loop.at + c.in_ok-value.taken) c.args.tokens.now)) ∙ (c.in_ok-goes_on.ensures.read ∙ ap Some c.if-not-branch.false) in
    let pushed : map g.T.Element.view_as c.push.new.self.items ≡ map g.T.Element.view_as c.loop.found.items ++ g.T.Element.view_as c.in_ok-value.value
    ∷ [] = ap (map g.T.Element.view_as) c.in_ok-push.ensures.items ∙ map-append g.T.Element.view_as c.loop.found.items (c.in_ok-value.value ∷ []) in
    record {
      read = ap (λ es. before es (list_within g.T.Element.element_of (length c.args.tokens.now - (c.loop.counter + 1))
          (drop (c.loop.at + c.in_ok-value.taken + 1) ls))) pushed
          ∙ (sym (more_read g.T.Element.element_of (map g.T.Element.view_as c.loop.found.items) (length c.args.tokens.now - c.loop.counter)
          (length c.args.tokens.now - (c.loop.counter + 1)) c.loop.at c.in_ok-value.taken ls (g.T.Element.view_as c.in_ok-value.value)
          (omega arith) found more)
          ∙ c.loop.invariant.read);
      within = let some = c.in_ok-goes_on.ensures.some c.if-not-branch.false in
          omega (arith, some, length-drop (c.loop.at + c.in_ok-value.taken) c.args.tokens.now);
    }

pub returns : goal.returns
returns g c =
    sym c.loop.invariant.read ∙ zero_read g.T.Element.element_of (map g.T.Element.view_as c.loop.found.items)
    (length c.args.tokens.now - c.loop.counter) (drop c.loop.at (lexemes c.args.tokens.now)) (omega arith)
