use Rattle.std.proofs.Common.{rules, ap, ap₂, codes, ◌≡◌, ◌∙◌}
use Rattle.clap.specs.Simple.{app_of_fields}
use Rattle.clap.specs.Words.{app_of, new_app, rule_of, with_rule}
use Rattle.arguments.specs.CommandLine.{file_rule, flag_rule, option_rule}
use Rattle.program.proofs.command.debug_command.Goals as goal

pub returns-clause-shape : goal.returns-clause-shape
returns-clause-shape c =
    let file_is : rule_of c.file.result ≡ file_rule (codes "FILE") = search rules in
    let tape_is : rule_of c.tape.result ≡ flag_rule (codes "tape") = search rules in
    let history_is : rule_of c.option.result ≡ option_rule (codes "history") = search rules in
    let port_is : rule_of c.port.result ≡ option_rule (codes "port") = search rules in
    let rom_is : rule_of c.rom.result ≡ option_rule (codes "rom") = search rules in
    let profile_is : rule_of c.profile.result ≡ option_rule (codes "profile") = search rules in
    let begun : app_of c.after_help.result ≡ new_app (codes "debug") =
    ap app_of_fields c.after_help.ensures ∙ ap app_of_fields c.about.ensures ∙ c.new.ensures.app in
    let with_file : app_of c.in_ok-arg.field-0 ≡ with_rule (new_app (codes "debug")) (file_rule (codes "FILE"))
    = c.in_ok-arg.ensures.shape (search rules) ∙ ap₂ with_rule begun file_is in
    let with_tape = c.in_ok-arg-2.ensures.shape (search rules) ∙ ap₂ with_rule with_file tape_is in
    let with_history = c.in_ok-arg-3.ensures.shape (search rules) ∙ ap₂ with_rule with_tape history_is in
    let with_port = c.in_ok-arg-4.ensures.shape (search rules) ∙ ap₂ with_rule with_history port_is in
    let with_rom = c.in_ok-arg-5.ensures.shape (search rules) ∙ ap₂ with_rule with_port rom_is in
    c.in_ok-command.ensures.shape (search rules) ∙ ap₂ with_rule with_rom profile_is
