use Rattle.std.proofs.Common.{◌≡◌, ◌-◌, List, ap, arith, subst}
use Rattle.dap_messages.specs.Texts.{address_text}
use Rattle.dap_messages.specs.SeenAnswers.{SeenItem}
use Rattle.dap_views.proofs.Cells.{cells_more, cells_none}
use Rattle.dap_messages.proofs.Shown.{item_as}
use Rattle.dap_views.specs.Pages.{IsPage}
use Rattle.dap_views.specs.Scopes.{cells}
use Rattle.dap_views.specs.Variables.{byte_variable}
use Rattle.dap_views.proofs.variables.cells.Goals as goal

pub loop-address-init : goal.loop-address-init
loop-address-init c = record {
  cells = λ asked is. subst (λ (ds : List SeenItem). IsPage asked ds c.args.page) (cells_none c.args.session.now.current.bus.memory c.args.from) is;
  behind = omega arith;
  within = omega arith;
}

pub loop-address-preserved : goal.loop-address-preserved
loop-address-preserved c =
    let inv = c.loop-address.invariant in
    record {
      cells = λ asked is. cells_more c.args.session.now.current.bus.memory c.args.from c.loop-address.address asked _ inv.behind
          (c.with-page.ensures _ _ _ (inv.cells asked is) (item_as _ _ _
          (ap (byte_variable (address_text c.loop-address.address) c.loop-address.address) c.peek.ensures.value)
          (c.byte_named.ensures _ c.address_text-name.ensures)));
      behind = omega (arith, inv.behind);
      within = omega (arith, inv.behind, c.loop-address-test.true);
    }

pub returns : goal.returns
returns c = λ asked is.
    let inv = c.loop-address.invariant in
    let n : c.loop-address.address - c.args.from ≡ c.args.to - c.args.from = omega (arith, inv.within, c.loop-address-test.false) in
    subst (λ (ds : List SeenItem). IsPage asked ds c.loop-address.page) (ap (cells c.args.session.now.current.bus.memory c.args.from) n) (inv.cells asked is)
