use Rattle.std.proofs.Common.{◌∙◌, Option, ap, ap₂}
use Rattle.lsp_messages.specs.Settings.{SettingsView}
use Rattle.model.specs.State.{Map}
use Rattle.word_lsp.specs.Settings.{chosen_after}
use Rattle.word_lsp.specs.State.{State, documents_view}
use Rattle.word_lsp.specs.declared.phase.Phase.{Phase}
use Rattle.word_lsp.proofs.server.answers_to.Goals as goal

pub returns-clause-state : goal.returns-clause-state
returns-clause-state c =
    let old = c.args.server.now in
    let state : Phase → Option Map → State = λ phase chosen. record { phase = phase; chosen = chosen; documents = documents_view old.documents } in
    let set = c.chosen_after-server.ensures ∙ ap (λ (o : Option SettingsView). chosen_after c.args.words.now old.chosen o) c.settings_asked-settings.ensures in
    ap₂ state c.after-server.ensures set
