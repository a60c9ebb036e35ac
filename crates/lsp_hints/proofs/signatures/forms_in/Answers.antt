use Rattle.std.proofs.Common.{[], List, arith, refl, subst}
use Rattle.json_messages.specs.ValueLists.{HasValues}
use Rattle.lsp_hints.proofs.FlatSteps.{flat_end, flat_next}
use Rattle.lsp_hints.proofs.Gathered.{gathered, gathered_all}
use Rattle.lsp_hints.specs.Signatures.{form_of}
use Rattle.serde_json.specs.Data.{Data}
use Rattle.lsp_hints.proofs.signatures.forms_in.Goals as goal

pub loop-mode-init : goal.loop-mode-init
loop-mode-init c = ([], c.new-forms.ensures, refl)

pub loop-mode-preserved : goal.loop-mode-preserved
loop-mode-preserved c =
    let so_far = c.loop-mode.invariant in (
      _,
      c.with_form-forms.ensures so_far.0 so_far.1,
      gathered so_far.0 _ _ _ _ _ refl (flat_next (form_of c.args.profile c.args.mnemonic) c.args.modes.now c.loop-mode.mode-index _
          (omega (arith, c.loop-mode-test.true))) so_far.2,
    )

pub returns : goal.returns
returns c =
    let so_far = c.loop-mode.invariant in
    c.build.ensures _ (subst (λ (ds : List Data). HasValues ds c.loop-mode.forms)
    (gathered_all so_far.0 _ _ (flat_end (form_of c.args.profile c.args.mnemonic) c.args.modes.now c.loop-mode.mode-index
    (omega (arith, c.loop-mode-test.false))) so_far.2) so_far.1)
