use Rattle.std.proofs.Common.{rules, ap₂, codes, ◌≡◌, ◌∙◌}
use Rattle.arguments.specs.CommandLine.{option_rule, unnamed}
use Rattle.clap.specs.Words.{app_of, rule_of, with_rule}
use Rattle.word_lsp.proofs.words.lsp_command.Goals as goal

pub returns-clause-shape : goal.returns-clause-shape
returns-clause-shape c =
    let port_is : rule_of c.port.result ≡ option_rule (codes "port") = search rules in
    let profile_is : rule_of c.profile.result ≡ option_rule (codes "profile") = search rules in
    let with_port : app_of c.in_ok-arg.field-0 ≡ with_rule (unnamed (codes "lsp")) (option_rule (codes "port"))
    = c.in_ok-arg.ensures.shape (search rules) ∙ ap₂ with_rule c.in_ok-begin.ensures.shape port_is in
    c.in_ok-command.ensures.shape (search rules) ∙ ap₂ with_rule with_port profile_is
