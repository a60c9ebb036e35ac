use Rattle.std.proofs.Common.{rules, refl, ap₂, codes, ◌≡◌, ◌∙◌}
use Rattle.arguments.specs.CommandLine.{flag_rule, option_rule}
use Rattle.clap.specs.Words.{app_of, rule_of, with_rule}
use Rattle.image_files.proofs.options.with_image_options.Goals as goal

pub returns-clause-shape : goal.returns-clause-shape
returns-clause-shape c =
    let rule_0 : rule_of c.option.result ≡ option_rule (codes "bin") = search rules in
    let rule_1 : rule_of c.flag.result ≡ flag_rule (codes "prg") = search rules in
    let rule_2 : rule_of c.flag-2.result ≡ flag_rule (codes "image") = search rules in
    let rule_3 : rule_of c.flag-3.result ≡ flag_rule (codes "tape") = search rules in
    let with_0 : app_of c.in_ok-arg.field-0 ≡ with_rule (app_of c.args.command) (option_rule (codes "bin"))
    = c.in_ok-arg.ensures.shape (search rules) ∙ ap₂ with_rule refl rule_0 in
    let with_1 = c.in_ok-arg-2.ensures.shape (search rules) ∙ ap₂ with_rule with_0 rule_1 in
    let with_2 = c.in_ok-arg-3.ensures.shape (search rules) ∙ ap₂ with_rule with_1 rule_2 in
    c.in_ok-command.ensures.shape (search rules) ∙ ap₂ with_rule with_2 rule_3
