use Rattle.std.proofs.Common.{rules, ap₂, codes, ◌≡◌, ◌∙◌, refl}
use Rattle.arguments.specs.CommandLine.{flag_rule, option_rule}
use Rattle.clap.specs.Words.{app_of, rule_of, with_rule}
use Rattle.word_dis.proofs.command.with_marks.Goals as goal

pub returns-clause-shape : goal.returns-clause-shape
returns-clause-shape c =
    let rule_0 : rule_of c.option.result ≡ option_rule (codes "marks") = search rules in
    let rule_1 : rule_of c.flag.result ≡ flag_rule (codes "addresses") = search rules in
    let with_0 : app_of c.in_ok-arg.field-0 ≡ with_rule (app_of c.args.command) (option_rule (codes "marks"))
    = c.in_ok-arg.ensures.shape (search rules) ∙ ap₂ with_rule refl rule_0 in
    c.in_ok-command.ensures.shape (search rules) ∙ ap₂ with_rule with_0 rule_1
