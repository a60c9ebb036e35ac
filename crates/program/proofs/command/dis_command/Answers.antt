use Rattle.std.proofs.Common.{rules, ap, ap₂, codes, ◌≡◌, ◌∙◌}
use Rattle.clap.specs.Simple.{app_of_fields}
use Rattle.clap.specs.Words.{app_of, new_app, rule_of, with_rule}
use Rattle.arguments.specs.CommandLine.{file_rule, option_rule}
use Rattle.program.proofs.command.dis_command.Goals as goal

pub returns-clause-shape : goal.returns-clause-shape
returns-clause-shape c =
    let tape_is : rule_of c.file.result ≡ file_rule (codes "TAPE") = search rules in
    let low_is : rule_of c.file-2.result ≡ file_rule (codes "LO") = search rules in
    let high_is : rule_of c.file-3.result ≡ file_rule (codes "HI") = search rules in
    let profile_is : rule_of c.profile.result ≡ option_rule (codes "profile") = search rules in
    let begun : app_of c.after_help.result ≡ new_app (codes "dis") =
    ap app_of_fields c.after_help.ensures ∙ ap app_of_fields c.about.ensures ∙ c.new.ensures.app in
    let with_tape : app_of c.in_ok-arg.field-0 ≡ with_rule (new_app (codes "dis")) (file_rule (codes "TAPE"))
    = c.in_ok-arg.ensures.shape (search rules) ∙ ap₂ with_rule begun tape_is in
    let with_low = c.in_ok-arg-2.ensures.shape (search rules) ∙ ap₂ with_rule with_tape low_is in
    let with_high = c.in_ok-arg-3.ensures.shape (search rules) ∙ ap₂ with_rule with_low high_is in
    c.in_ok-command.ensures.shape (search rules) ∙ ap₂ with_rule with_high profile_is
