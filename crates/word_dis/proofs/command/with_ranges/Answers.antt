use Rattle.std.proofs.Common.{rules, ap₂, codes, ◌≡◌, ◌∙◌, refl}
use Rattle.arguments.specs.CommandLine.{list_rule}
use Rattle.clap.specs.Words.{app_of, rule_of, with_rule}
use Rattle.word_dis.proofs.command.with_ranges.Goals as goal

pub returns-clause-shape : goal.returns-clause-shape
returns-clause-shape c =
    let rule_0 : rule_of c.list.result ≡ list_rule 1 (codes "data") = search rules in
    let rule_1 : rule_of c.list-2.result ≡ list_rule 1 (codes "text") = search rules in
    let rule_2 : rule_of c.list-3.result ≡ list_rule 1 (codes "words") = search rules in
    let rule_3 : rule_of c.list-4.result ≡ list_rule 1 (codes "rts-words") = search rules in
    let with_0 : app_of c.in_ok-arg.field-0 ≡ with_rule (app_of c.args.command) (list_rule 1 (codes "data"))
    = c.in_ok-arg.ensures.shape (search rules) ∙ ap₂ with_rule refl rule_0 in
    let with_1 = c.in_ok-arg-2.ensures.shape (search rules) ∙ ap₂ with_rule with_0 rule_1 in
    let with_2 = c.in_ok-arg-3.ensures.shape (search rules) ∙ ap₂ with_rule with_1 rule_2 in
    c.in_ok-command.ensures.shape (search rules) ∙ ap₂ with_rule with_2 rule_3
