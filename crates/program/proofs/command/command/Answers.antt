use Rattle.std.proofs.Common.{ap, ap₂, codes, true, ◌≡◌, ◌∙◌}
use Rattle.clap.specs.Simple.{app_of_fields}
use Rattle.clap.specs.Words.{App, Shape, app_of, new_app, with_subcommand}
use Rattle.program.specs.CommandLine.{above, asm, dis}
use Rattle.program.proofs.command.command.Goals as goal

abbrev with_subcommand_required : App → App
with_subcommand_required a = record a { top = record a.top { subcommand_required = true } }

abbrev without_name : App → App
without_name a = record a { top = record a.top { no_binary_name = true } }

abbrev top : App → Shape
top a = a.top

pub returns-clause-shape : goal.returns-clause-shape
returns-clause-shape c =
    let new_is : app_of c.after_help.result ≡ new_app (codes "mos65") =
    ap app_of_fields c.after_help.ensures ∙ ap app_of_fields c.about.ensures ∙ c.new.ensures.app in
    let unnamed : app_of c.no_binary_name.result ≡ without_name (new_app (codes "mos65")) =
    ap app_of_fields c.no_binary_name.ensures ∙ ap without_name new_is in
    let required : app_of c.subcommand_required.result ≡ above = ap app_of_fields c.subcommand_required.ensures ∙ ap with_subcommand_required unnamed in
    let above_is : app_of c.in_ok-bin_name.field-0 ≡ above = ap app_of_fields c.in_ok-bin_name.ensures.0 ∙ required in
    let with_asm : app_of c.in_ok-subcommand.field-0 ≡ with_subcommand above asm.top
    = c.in_ok-subcommand.ensures.shape c.in_ok-asm_command.ensures.local ∙ ap₂ with_subcommand above_is (ap top c.in_ok-asm_command.ensures.shape) in
    let with_dis : app_of c.in_ok-subcommand-2.field-0 ≡ with_subcommand (with_subcommand above asm.top) dis.top
    = c.in_ok-subcommand-2.ensures.shape c.in_ok-dis_command.ensures.local ∙ ap₂ with_subcommand with_asm (ap top c.in_ok-dis_command.ensures.shape) in
    c.in_ok-program.ensures.shape c.in_ok-debug_command.ensures.local ∙ ap₂ with_subcommand with_dis (ap top c.in_ok-debug_command.ensures.shape)
