use Rattle.std.proofs.Common.{◌≡◌, ◌++◌, drop}
use Rattle.std.specs.List.{flat_map}
use Rattle.mon_dispatch.specs.Forms.{form_by}
use Rattle.mon_dispatch.proofs.forms.push_forms_in.Given as goal

abbrev pub invariant-loop-mode : goal.invariant-loop-mode
invariant-loop-mode l = l.text.items ++ flat_map (form_by l.profile l.mnemonic) (drop l.mode-index l.modes) ≡ l.initial.text.items
    ++ flat_map (form_by l.profile l.mnemonic) l.modes
