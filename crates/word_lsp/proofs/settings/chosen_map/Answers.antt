use Rattle.std.proofs.Common.{◌∙◌, ℕ, ap, ap₂}
use Rattle.lsp_messages.specs.Settings.{setting_view}
use Rattle.model.specs.declared.instruction.Profile.{Profile}
use Rattle.word_lsp.specs.Settings.{map_by, port_by, profile_by}
use Rattle.word_lsp.proofs.settings.chosen_map.Goals as goal

pub returns : goal.returns
returns c =
    let set = c.args.settings.now in
    let port = c.port_by-port.ensures ∙ ap (λ (port : ℕ). port_by port (setting_view set.port)) c.port_on.ensures in
    let profile = c.profile_by-profile.ensures ∙ ap (λ (profile : Profile). profile_by profile (setting_view set.profile)) c.profile.ensures in
    c.map_by.ensures ∙ ap₂ map_by port profile
