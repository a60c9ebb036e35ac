use Rattle.std.proofs.Common.{rules, ap, ap₂, codes, ◌≡◌, ◌∙◌}
use Rattle.arguments.specs.CommandLine.{flag_rule, option_rule, unnamed, with_files}
use Rattle.clap.specs.Words.{app_of, rule_of, with_rule}
use Rattle.arguments_play.proofs.run.run_command.Goals as goal

pub returns-clause-shape : goal.returns-clause-shape
returns-clause-shape c =
    let symbols_is : rule_of c.option.result ≡ option_rule (codes "symbols") = search rules in
    let debug_is : rule_of c.option-2.result ≡ option_rule (codes "debug-info") = search rules in
    let root_is : rule_of c.option-3.result ≡ option_rule (codes "source-root") = search rules in
    let until_is : rule_of c.option-4.result ≡ option_rule (codes "until") = search rules in
    let steps_is : rule_of c.option-5.result ≡ option_rule (codes "steps") = search rules in
    let status_is : rule_of c.option-6.result ≡ option_rule (codes "status") = search rules in
    let cycles_is : rule_of c.flag.result ≡ flag_rule (codes "cycles") = search rules in
    let free_is : rule_of c.flag-2.result ≡ flag_rule (codes "free") = search rules in
    let filed : app_of c.in_ok-with_files_options.field-0 ≡ with_files (unnamed (codes "run")) =
    c.in_ok-with_files_options.ensures.shape ∙ ap with_files (c.in_ok-command.ensures.shape) in
    let with_symbols = c.in_ok-arg.ensures.shape (search rules) ∙ ap₂ with_rule filed symbols_is in
    let with_debug = c.in_ok-arg-2.ensures.shape (search rules) ∙ ap₂ with_rule with_symbols debug_is in
    let with_root = c.in_ok-arg-3.ensures.shape (search rules) ∙ ap₂ with_rule with_debug root_is in
    let with_until = c.in_ok-arg-4.ensures.shape (search rules) ∙ ap₂ with_rule with_root until_is in
    let with_steps = c.in_ok-arg-5.ensures.shape (search rules) ∙ ap₂ with_rule with_until steps_is in
    let with_status = c.in_ok-arg-6.ensures.shape (search rules) ∙ ap₂ with_rule with_steps status_is in
    let with_cycles = c.in_ok-arg-7.ensures.shape (search rules) ∙ ap₂ with_rule with_status cycles_is in
    c.in_ok-command-2.ensures.shape (search rules) ∙ ap₂ with_rule with_cycles free_is
