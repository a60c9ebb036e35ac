use Rattle.std.proofs.Common.{◌++◌, ◌∙◌, sym, ap}
use Rattle.std.specs.Prelude.{string_bytes}
use Rattle.std.specs.List.{list_all}
use Rattle.std.specs.Prelude.{◌&&◌}
use Rattle.t65_reader.specs.RowText.{call_view}
use Rattle.t65_runner.specs.Passes.{item_holds}
use Rattle.t65_failures.specs.Failures.{called_text, end_text, is_back}
use Rattle.t65_failures.proofs.Joined.{four}
use Rattle.t65_failures.proofs.Told.{call_fails, call_passes}
use Rattle.t65_failures.proofs.detail.push_called.Goals as goal

pub returns-then-passes-clause-passes : goal.returns-then-passes-clause-passes
returns-then-passes-clause-passes c = λ _.
    let s = c.args.session.now in
    let told = c.passes.ensures s.current c.call_start-before.ensures.count c.call_start-before.ensures.cycles c.call_start-before.ensures.stack in
    call_passes c.args.values c.args.call.now.wanted.items s c.run_called.new.session c.in_ok-end.end _ c.passes.result c.in_ok-end.ensures.ok
    (told ∙ ap (λ items. is_back s.current.regs.s c.in_ok-end.end.end.why c.run_called.new.session.current.regs
    && list_all (item_holds c.args.values s.current c.run_called.new.session.current) items) c.deref.ensures.value) c.if-passes.true

pub returns-clause-fails : goal.returns-clause-fails
returns-clause-fails c = λ _.
    let s = c.args.session.now in
    let told = c.passes.ensures s.current c.call_start-before.ensures.count c.call_start-before.ensures.cycles c.call_start-before.ensures.stack in
    call_fails c.args.values c.args.call.now.wanted.items s c.run_called.new.session c.in_ok-end.end _ c.passes.result c.in_ok-end.ensures.ok
    (told ∙ ap (λ items. is_back s.current.regs.s c.in_ok-end.end.end.why c.run_called.new.session.current.regs
    && list_all (item_holds c.args.values s.current c.run_called.new.session.current) items) c.deref.ensures.value) c.if-passes.false

pub returns-clause-told : goal.returns-clause-told
returns-clause-told c = λ _.
    let s = c.args.session.now in
    let end = c.in_ok-push_end.ensures s.current c.call_start-before.ensures.count c.call_start-before.ensures.cycles c.call_start-before.ensures.stack in
    let wanted = ap (λ items. string_bytes c.args.text.now ++ end_text c.args.values items s.current c.in_ok-end.end c.run_called.new.session.current)
    c.deref-2.ensures.value in
    four _ _ _ _ _ _ _ _ _ (end ∙ wanted) c.in_ok-push_str.ensures.bytes c.in_ok-push_request.ensures c.in_ok-push_call_steps.ensures
    ∙ ap (λ r. string_bytes c.args.text.now ++ called_text c.args.places.now c.args.about.now c.args.values (call_view c.args.call.now) s r)
    (sym c.in_ok-end.ensures.ok)
