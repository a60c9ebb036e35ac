use Rattle.std.proofs.Common.{rules, ap, ap₂, codes, ◌≡◌, ◌∙◌}
use Rattle.clap.specs.Simple.{app_of_fields}
use Rattle.clap.specs.Words.{app_of, new_app, rule_of, with_rule}
use Rattle.arguments.specs.CommandLine.{file_rule, option_rule}
use Rattle.program.proofs.command.asm_command.Goals as goal

pub returns-clause-shape : goal.returns-clause-shape
returns-clause-shape c =
    let source_is : rule_of c.file.result ≡ file_rule (codes "SOURCE") = search rules in
    let tape_is : rule_of c.file-2.result ≡ file_rule (codes "TAPE") = search rules in
    let listing_is : rule_of c.option.result ≡ option_rule (codes "listing") = search rules in
    let port_is : rule_of c.port.result ≡ option_rule (codes "port") = search rules in
    let profile_is : rule_of c.profile.result ≡ option_rule (codes "profile") = search rules in
    let begun : app_of c.after_help.result ≡ new_app (codes "asm") =
    ap app_of_fields c.after_help.ensures ∙ ap app_of_fields c.about.ensures ∙ c.new.ensures.app in
    let with_source : app_of c.in_ok-arg.field-0 ≡ with_rule (new_app (codes "asm")) (file_rule (codes "SOURCE"))
    = c.in_ok-arg.ensures.shape (search rules) ∙ ap₂ with_rule begun source_is in
    let with_tape = c.in_ok-arg-2.ensures.shape (search rules) ∙ ap₂ with_rule with_source tape_is in
    let with_listing = c.in_ok-arg-3.ensures.shape (search rules) ∙ ap₂ with_rule with_tape listing_is in
    let with_port = c.in_ok-arg-4.ensures.shape (search rules) ∙ ap₂ with_rule with_listing port_is in
    c.in_ok-command.ensures.shape (search rules) ∙ ap₂ with_rule with_port profile_is
