use Rattle.std.proofs.Common.{rules, ap₂, codes, ◌≡◌, ◌∙◌}
use Rattle.arguments.specs.CommandLine.{file_rule, flag_rule, word_rule}
use Rattle.clap.specs.Words.{rule_of, with_rule}
use Rattle.word_dis.proofs.command.part_command.Goals as goal

pub returns-clause-shape : goal.returns-clause-shape
returns-clause-shape c =
    let rule_0 : rule_of c.file.result ≡ file_rule (codes "TAPE") = search rules in
    let rule_1 : rule_of c.bound.result ≡ word_rule (codes "LO") = search rules in
    let rule_2 : rule_of c.bound-2.result ≡ word_rule (codes "HI") = search rules in
    let rule_3 : rule_of c.flag.result ≡ flag_rule (codes "source") = search rules in
    let rule_4 : rule_of c.flag-2.result ≡ flag_rule (codes "labels") = search rules in
    let with_0 = c.in_ok-arg.ensures.shape (search rules) ∙ ap₂ with_rule c.in_ok-begin.ensures.shape rule_0 in
    let with_1 = c.in_ok-arg-2.ensures.shape (search rules) ∙ ap₂ with_rule with_0 rule_1 in
    let with_2 = c.in_ok-arg-3.ensures.shape (search rules) ∙ ap₂ with_rule with_1 rule_2 in
    let with_3 = c.in_ok-arg-4.ensures.shape (search rules) ∙ ap₂ with_rule with_2 rule_3 in
    c.in_ok-command.ensures.shape (search rules) ∙ ap₂ with_rule with_3 rule_4
