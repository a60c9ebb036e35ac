use Rattle.std.proofs.Common.{rules, ap₂, codes, ◌≡◌, ◌∙◌}
use Rattle.arguments.specs.CommandLine.{files_rule, list_rule}
use Rattle.clap.specs.Words.{rule_of, with_rule}
use Rattle.word_test.proofs.words.files_command.Goals as goal

pub returns-clause-shape : goal.returns-clause-shape
returns-clause-shape c =
    let rule_0 : rule_of c.file_list.result ≡ files_rule (codes "FILE") = search rules in
    let rule_1 : rule_of c.list.result ≡ list_rule 1 (codes "source") = search rules in
    let with_0 = c.in_ok-arg.ensures.shape (search rules) ∙ ap₂ with_rule c.in_ok-begin.ensures.shape rule_0 in
    c.in_ok-command.ensures.shape (search rules) ∙ ap₂ with_rule with_0 rule_1
