use Rattle.std.proofs.Common.{rules, ap₂, codes, ◌≡◌, ◌∙◌}
use Rattle.arguments.specs.CommandLine.{file_rule, flag_rule, option_rule, word_rule}
use Rattle.clap.specs.Words.{rule_of, with_rule}
use Rattle.word_convert.proofs.command.convert_command.Goals as goal

pub returns-clause-shape : goal.returns-clause-shape
returns-clause-shape c =
    let in_is : rule_of c.file.result ≡ file_rule (codes "IN") = search rules in
    let out_is : rule_of c.file-2.result ≡ file_rule (codes "OUT") = search rules in
    let low_is : rule_of c.word.result ≡ word_rule (codes "LO") = search rules in
    let high_is : rule_of c.word-2.result ≡ word_rule (codes "HI") = search rules in
    let from_is : rule_of c.option.result ≡ option_rule (codes "from") = search rules in
    let bin_is : rule_of c.option-2.result ≡ option_rule (codes "bin") = search rules in
    let to_is : rule_of c.option-3.result ≡ option_rule (codes "to") = search rules in
    let fill_is : rule_of c.option-4.result ≡ option_rule (codes "fill") = search rules in
    let sum_is : rule_of c.option-5.result ≡ option_rule (codes "sum8") = search rules in
    let prg_is : rule_of c.flag.result ≡ flag_rule (codes "prg") = search rules in
    let image_is : rule_of c.flag-2.result ≡ flag_rule (codes "image") = search rules in
    let tape_is : rule_of c.flag-3.result ≡ flag_rule (codes "tape") = search rules in
    let with_in = c.in_ok-arg.ensures.shape (search rules) ∙ ap₂ with_rule c.in_ok-begin.ensures.shape in_is in
    let with_out = c.in_ok-arg-2.ensures.shape (search rules) ∙ ap₂ with_rule with_in out_is in
    let with_low = c.in_ok-arg-3.ensures.shape (search rules) ∙ ap₂ with_rule with_out low_is in
    let with_high = c.in_ok-arg-4.ensures.shape (search rules) ∙ ap₂ with_rule with_low high_is in
    let with_from = c.in_ok-arg-5.ensures.shape (search rules) ∙ ap₂ with_rule with_high from_is in
    let with_bin = c.in_ok-arg-6.ensures.shape (search rules) ∙ ap₂ with_rule with_from bin_is in
    let with_to = c.in_ok-arg-7.ensures.shape (search rules) ∙ ap₂ with_rule with_bin to_is in
    let with_fill = c.in_ok-arg-8.ensures.shape (search rules) ∙ ap₂ with_rule with_to fill_is in
    let with_sum = c.in_ok-arg-9.ensures.shape (search rules) ∙ ap₂ with_rule with_fill sum_is in
    let with_prg = c.in_ok-arg-10.ensures.shape (search rules) ∙ ap₂ with_rule with_sum prg_is in
    let with_image = c.in_ok-arg-11.ensures.shape (search rules) ∙ ap₂ with_rule with_prg image_is in
    c.in_ok-command.ensures.shape (search rules) ∙ ap₂ with_rule with_image tape_is
