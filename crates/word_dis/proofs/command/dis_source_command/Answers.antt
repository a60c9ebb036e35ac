use Rattle.std.proofs.Common.{rules, ap, ap₂, codes, ◌≡◌, ◌∙◌}
use Rattle.arguments.specs.CommandLine.{option_rule}
use Rattle.clap.specs.Words.{rule_of, with_rule}
use Rattle.word_dis.specs.CommandLine.{with_following, with_marks, with_ranges}
use Rattle.image_files.specs.Options.{with_image}
use Rattle.word_dis.proofs.command.dis_source_command.Goals as goal

pub returns-clause-shape : goal.returns-clause-shape
returns-clause-shape c =
    let rule_0 : rule_of c.option.result ≡ option_rule (codes "symbols") = search rules in
    let rule_1 : rule_of c.option-2.result ≡ option_rule (codes "fill") = search rules in
    let rule_2 : rule_of c.profile.result ≡ option_rule (codes "profile") = search rules in
    let ranges = c.in_ok-command.ensures.shape ∙ ap with_ranges c.in_ok-part_command.ensures.shape in
    let following = c.in_ok-command-2.ensures.shape ∙ ap with_following ranges in
    let marks = c.in_ok-with_marks.ensures.shape ∙ ap with_marks following in
    let with_0 = c.in_ok-arg.ensures.shape (search rules) ∙ ap₂ with_rule marks rule_0 in
    let with_1 = c.in_ok-arg-2.ensures.shape (search rules) ∙ ap₂ with_rule with_0 rule_1 in
    let with_2 = c.in_ok-command-3.ensures.shape (search rules) ∙ ap₂ with_rule with_1 rule_2 in
    c.in_ok-command-4.ensures.shape ∙ ap with_image with_2
