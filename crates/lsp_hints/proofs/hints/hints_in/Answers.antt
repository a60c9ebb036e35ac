use Rattle.std.proofs.Common.{◌≡◌, ◌∙◌, [], List, ap, arith, false, length, nat_lt, refl, rules, subst, sym, tests}
use Rattle.json_messages.specs.ValueLists.{HasValues}
use Rattle.lsp_hints.proofs.HintSteps.{at_end, one_line, stopped}
use Rattle.lsp_hints.specs.Hints.{found_in, hints_from}
use Rattle.model.specs.AllFaults as all
use Rattle.serde_json.specs.Data.{Data}
use Rattle.source_faults.specs.Views.{found_all}
use Rattle.source_notes.specs.Lines.{texts_of}
use Rattle.lsp_hints.proofs.hints.hints_in.Goals as goal

pub lay_out-requires-clause-empty : goal.lay_out-requires-clause-empty
lay_out-requires-clause-empty c = c.new-symbols.ensures

pub loop-index-init : goal.loop-index-init
loop-index-init c = ([], c.new-hints.ensures, refl)

pub loop-index-preserved : goal.loop-index-preserved
loop-index-preserved c =
    let so_far = c.loop-index.invariant in (
      _,
      c.with_hint-hints.ensures so_far.0 so_far.1,
      one_line c.args.profile (texts_of c.args.lines.now) c.args.between c.deref-one-items.result.now c.loop-index.index c.one-item.result so_far.0 _ _
          (omega (arith, c.loop-index-test.true)) c.one-item.is (sym c.is_refused.ensures ∙ c.if-is_refused.false) refl so_far.2,
    )

pub returns-then-is_refused : goal.returns-then-is_refused
unfolding found_in
returns-then-is_refused c =
    let short : nat_lt 1048576 (length c.args.source.now) ≡ false = search (tests, rules) in
    let so_far = c.loop-index.invariant in
    let same = ap (λ (fs : List all.Found). hints_from c.args.profile (texts_of c.args.lines.now) c.args.between 0 fs)
    (ap found_all c.deref-one-items.ensures.value ∙ c.in-Ok.ensures.found) in
    rw short (c.build-then-is_refused.ensures _ (subst (λ (ds : List Data). HasValues ds c.loop-index.hints)
    (stopped c.args.profile (texts_of c.args.lines.now) c.args.between c.deref-one-items.result.now c.loop-index.index c.one-item.result so_far.0 _
    (omega (arith, c.loop-index-test.true)) c.one-item.is (sym c.is_refused.ensures ∙ c.if-is_refused.true) so_far.2 ∙ same) so_far.1))

pub returns : goal.returns
unfolding found_in
returns c =
    let short : nat_lt 1048576 (length c.args.source.now) ≡ false = search (tests, rules) in
    let so_far = c.loop-index.invariant in
    let same = ap (λ (fs : List all.Found). hints_from c.args.profile (texts_of c.args.lines.now) c.args.between 0 fs)
    (ap found_all c.deref-one-items.ensures.value ∙ c.in-Ok.ensures.found) in
    rw short (c.build-2.ensures _ (subst (λ (ds : List Data). HasValues ds c.loop-index.hints)
    (at_end c.args.profile (texts_of c.args.lines.now) c.args.between c.deref-one-items.result.now c.loop-index.index so_far.0 _
    (omega (arith, c.loop-index-test.false)) so_far.2 ∙ same) so_far.1))
