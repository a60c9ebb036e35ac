use Rattle.std.proofs.Common.{rules, refl, ap₂, codes, ◌≡◌, ◌∙◌}
use Rattle.arguments.specs.CommandLine.{option_rule}
use Rattle.clap.specs.Words.{app_of, rule_of, with_rule}
use Rattle.word_test.proofs.words.with_told.Goals as goal

pub returns-clause-shape : goal.returns-clause-shape
returns-clause-shape c =
    let rule_0 : rule_of c.option.result ≡ option_rule (codes "symbols") = search rules in
    let rule_1 : rule_of c.option-2.result ≡ option_rule (codes "debug-info") = search rules in
    let rule_2 : rule_of c.option-3.result ≡ option_rule (codes "source-root") = search rules in
    let with_0 : app_of c.in_ok-arg.field-0 ≡ with_rule (app_of c.args.command) (option_rule (codes "symbols"))
    = c.in_ok-arg.ensures.shape (search rules) ∙ ap₂ with_rule refl rule_0 in
    let with_1 = c.in_ok-arg-2.ensures.shape (search rules) ∙ ap₂ with_rule with_0 rule_1 in
    c.in_ok-command.ensures.shape (search rules) ∙ ap₂ with_rule with_1 rule_2
