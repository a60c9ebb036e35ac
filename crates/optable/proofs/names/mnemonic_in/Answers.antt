use Rattle.std.proofs.Common.{◌≡◌, ◌∙◌, take, ap}
use Rattle.optable.specs.declared.names.TheConstants.{NAMES}
use Rattle.optable.specs.Names.{find_name}
use Rattle.optable.proofs.Naming.{looked_up_n, looked_up_c, none_named}
use Rattle.optable.proofs.names.mnemonic_in.Goals as goal
use Rattle.optable.proofs.names.mnemonic_in.Goals.{in-N, in-C}

pub returns-then-text-ne3 : goal.returns-then-text-ne3
returns-then-text-ne3 c = none_named c.args.profile c.args.text.now (λ e. absurd (c.if-text-ne3.true e))

pub returns : goal.returns
returns c = c.look_up.ensures ∙ ap (λ letters. find_name letters c.match-profile.names.now) c.capitals.ensures
    ∙ elim c.match-profile.branch [
      | in-N w ↦ let names : c.match-profile.names.now ≡ take 56 NAMES = ap (λ b. b.now) w.names-is in rw (names, w.in-N.is) (looked_up_n c.args.text.now)
      | in-C w ↦ let names : c.match-profile.names.now ≡ NAMES = ap (λ b. b.now) w.names-is in rw (names, w.in-C.is) (looked_up_c c.args.text.now)
    ]
