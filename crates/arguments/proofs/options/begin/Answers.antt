use Rattle.std.proofs.Common.{ap, true, ◌≡◌, ◌∙◌}
use Rattle.arguments.specs.CommandLine.{unnamed}
use Rattle.clap.specs.Simple.{app_of_fields}
use Rattle.clap.specs.Words.{App, app_of, new_app}
use Rattle.arguments.proofs.options.begin.Goals as goal

abbrev without_name : App → App
without_name a = record a { top = record a.top { no_binary_name = true } }

pub returns-clause-shape : goal.returns-clause-shape
returns-clause-shape c =
    let begun : app_of c.after_help.result ≡ new_app c.args.name.now =
    ap app_of_fields c.after_help.ensures ∙ ap app_of_fields c.about.ensures ∙ c.new.ensures.app in
    let without : app_of c.no_binary_name.result ≡ unnamed c.args.name.now = ap app_of_fields c.no_binary_name.ensures ∙ ap without_name begun in
    ap app_of_fields c.in_ok-command.ensures.0 ∙ without
