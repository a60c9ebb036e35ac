use Rattle.std.proofs.Common.{rules, ap₂, codes, ◌≡◌, ◌∙◌}
use Rattle.arguments.specs.CommandLine.{files_rule, flag_rule, option_rule, unnamed}
use Rattle.clap.specs.Words.{app_of, rule_of, with_rule}
use Rattle.word_check.proofs.words.check_command.Goals as goal

pub returns-clause-shape : goal.returns-clause-shape
returns-clause-shape c =
    let source_is : rule_of c.file_list.result ≡ files_rule (codes "SOURCE") = search rules in
    let strict_is : rule_of c.flag.result ≡ flag_rule (codes "strict") = search rules in
    let port_is : rule_of c.port.result ≡ option_rule (codes "port") = search rules in
    let profile_is : rule_of c.profile.result ≡ option_rule (codes "profile") = search rules in
    let with_source : app_of c.in_ok-arg.field-0 ≡ with_rule (unnamed (codes "check")) (files_rule (codes "SOURCE"))
    = c.in_ok-arg.ensures.shape (search rules) ∙ ap₂ with_rule c.in_ok-begin.ensures.shape source_is in
    let with_strict = c.in_ok-arg-2.ensures.shape (search rules) ∙ ap₂ with_rule with_source strict_is in
    let with_port = c.in_ok-arg-3.ensures.shape (search rules) ∙ ap₂ with_rule with_strict port_is in
    c.in_ok-command.ensures.shape (search rules) ∙ ap₂ with_rule with_port profile_is
