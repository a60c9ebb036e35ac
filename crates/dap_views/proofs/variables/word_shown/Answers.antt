use Rattle.std.proofs.Common.{[], ◌∷◌, List, ap, codes, subst, ℕ}
use Rattle.dap_messages.specs.Texts.{address_text}
use Rattle.dap_messages.specs.SeenAnswers.{SeenItem, plain_variable}
use Rattle.dap_views.specs.Pages.{IsPage}
use Rattle.dap_views.specs.Scopes.{cell}
use Rattle.dap_views.proofs.variables.word_shown.Goals as goal

pub returns : goal.returns
returns c = λ asked is.
    let memory = c.args.session.now.current.bus.memory in
    let shown = λ (word : ℕ). plain_variable (codes "(word)") (address_text word) ∷ cell memory word ∷ [] in
    let both = c.with-2.ensures asked _ _ (c.with.ensures asked _ _ is (c.plain_variable.ensures _ c.address_text.ensures)) c.cell.ensures in
    subst (λ (ds : List SeenItem). IsPage asked ds c.with-2.result) (ap shown c.word_at-word.ensures) both
