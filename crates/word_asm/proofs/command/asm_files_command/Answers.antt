use Rattle.std.proofs.Common.{rules, ap₂, codes, ◌≡◌, ◌∙◌}
use Rattle.arguments.specs.CommandLine.{file_rule, flag_rule, option_rule}
use Rattle.clap.specs.Words.{rule_of, with_rule}
use Rattle.word_asm.proofs.command.asm_files_command.Goals as goal

pub returns-clause-shape : goal.returns-clause-shape
returns-clause-shape c =
    let rule_0 : rule_of c.file.result ≡ file_rule (codes "SOURCE") = search rules in
    let rule_1 : rule_of c.file-2.result ≡ file_rule (codes "TAPE") = search rules in
    let rule_2 : rule_of c.option.result ≡ option_rule (codes "listing") = search rules in
    let rule_3 : rule_of c.option-2.result ≡ option_rule (codes "symbols") = search rules in
    let rule_4 : rule_of c.option-3.result ≡ option_rule (codes "symbols-format") = search rules in
    let rule_5 : rule_of c.option-4.result ≡ option_rule (codes "map") = search rules in
    let rule_6 : rule_of c.port.result ≡ option_rule (codes "port") = search rules in
    let rule_7 : rule_of c.profile.result ≡ option_rule (codes "profile") = search rules in
    let rule_8 : rule_of c.option-5.result ≡ option_rule (codes "bin") = search rules in
    let rule_9 : rule_of c.option-6.result ≡ option_rule (codes "hex") = search rules in
    let rule_10 : rule_of c.option-7.result ≡ option_rule (codes "srec") = search rules in
    let rule_11 : rule_of c.option-8.result ≡ option_rule (codes "fill") = search rules in
    let rule_12 : rule_of c.flag.result ≡ flag_rule (codes "utf8") = search rules in
    let with_0 = c.in_ok-arg.ensures.shape (search rules) ∙ ap₂ with_rule c.in_ok-begin.ensures.shape rule_0 in
    let with_1 = c.in_ok-arg-2.ensures.shape (search rules) ∙ ap₂ with_rule with_0 rule_1 in
    let with_2 = c.in_ok-arg-3.ensures.shape (search rules) ∙ ap₂ with_rule with_1 rule_2 in
    let with_3 = c.in_ok-arg-4.ensures.shape (search rules) ∙ ap₂ with_rule with_2 rule_3 in
    let with_4 = c.in_ok-arg-5.ensures.shape (search rules) ∙ ap₂ with_rule with_3 rule_4 in
    let with_5 = c.in_ok-arg-6.ensures.shape (search rules) ∙ ap₂ with_rule with_4 rule_5 in
    let with_6 = c.in_ok-arg-7.ensures.shape (search rules) ∙ ap₂ with_rule with_5 rule_6 in
    let with_7 = c.in_ok-arg-8.ensures.shape (search rules) ∙ ap₂ with_rule with_6 rule_7 in
    let with_8 = c.in_ok-arg-9.ensures.shape (search rules) ∙ ap₂ with_rule with_7 rule_8 in
    let with_9 = c.in_ok-arg-10.ensures.shape (search rules) ∙ ap₂ with_rule with_8 rule_9 in
    let with_10 = c.in_ok-arg-11.ensures.shape (search rules) ∙ ap₂ with_rule with_9 rule_10 in
    let with_11 = c.in_ok-arg-12.ensures.shape (search rules) ∙ ap₂ with_rule with_10 rule_11 in
    c.in_ok-command.ensures.shape (search rules) ∙ ap₂ with_rule with_11 rule_12
