use Rattle.std.proofs.Common.{◌∙◌, List, ap, arith, subst}
use Rattle.std.proofs.lemmas.Result.{IfOk-weaker}
use Rattle.std.specs.Str.Lossy.{utf8_lossy}
use Rattle.dap_messages.specs.SeenAnswers.{SeenItem}
use Rattle.dap_views.proofs.Paging.{all_paged, next_paged}
use Rattle.dap_messages.proofs.Shown.{item_as}
use Rattle.dap_views.proofs.Symbols.{symbol_shown, symbols_of}
use Rattle.dap_views.specs.Pages.{IsPage}
use Rattle.dap_views.specs.Variables.{byte_variable}
use Rattle.dap_views.proofs.variables.symbols.Goals as goal

pub loop-name-init : goal.loop-name-init
loop-name-init c = λ asked is. is

pub loop-name-preserved : goal.loop-name-preserved
loop-name-preserved c = λ asked is.
    let g = symbol_shown c.args.session.now.current.bus.memory in
    let text = IfOk-weaker c.from_utf8_lossy-text.result _ _ (λ t h. h ∙ ap utf8_lossy c.as_slice.ensures.value) c.from_utf8_lossy-text.ensures.lossy in
    next_paged g asked c.args.names.now c.loop-name.name-index _ _ (omega (arith, c.loop-name-test.true))
    (c.with-page.ensures _ _ _ (c.loop-name.invariant asked is)
    (item_as _ _ _ (ap (byte_variable (utf8_lossy c.name-item.result.text.items) c.name-item.result.address) c.peek.ensures.value
    ∙ ap g c.name-item.is) (c.byte_named.ensures _ text)))

pub returns : goal.returns
returns c = λ asked is.
    let memory = c.args.session.now.current.bus.memory in
    let all = all_paged (symbol_shown memory) asked c.args.names.now c.loop-name.name-index c.loop-name.page (omega (arith, c.loop-name-test.false))
    (c.loop-name.invariant asked is) in
    subst (λ (ds : List SeenItem). IsPage asked ds c.loop-name.page) (symbols_of memory c.args.names.now) all
