use Rattle.std.proofs.Common.{rules, ap, ap₂, codes, ◌≡◌, ◌∙◌}
use Rattle.arguments.specs.CommandLine.{flag_rule, option_rule, unnamed, with_files}
use Rattle.clap.specs.Words.{app_of, rule_of, with_rule}
use Rattle.arguments_play.proofs.mon.mon_command.Goals as goal

pub returns-clause-shape : goal.returns-clause-shape
returns-clause-shape c =
    let history_is : rule_of c.option.result ≡ option_rule (codes "history") = search rules in
    let symbols_is : rule_of c.option-2.result ≡ option_rule (codes "symbols") = search rules in
    let prompt_is : rule_of c.flag.result ≡ flag_rule (codes "prompt") = search rules in
    let filed : app_of c.in_ok-with_files_options.field-0 ≡ with_files (unnamed (codes "mon")) =
    c.in_ok-with_files_options.ensures.shape ∙ ap with_files (c.in_ok-command.ensures.shape) in
    let with_history = c.in_ok-arg.ensures.shape (search rules) ∙ ap₂ with_rule filed history_is in
    let with_symbols = c.in_ok-arg-2.ensures.shape (search rules) ∙ ap₂ with_rule with_history symbols_is in
    let debug_is : rule_of c.option-3.result ≡ option_rule (codes "debug-info") = search rules in
    let root_is : rule_of c.option-4.result ≡ option_rule (codes "source-root") = search rules in
    let with_debug = c.in_ok-arg-3.ensures.shape (search rules) ∙ ap₂ with_rule with_symbols debug_is in
    let with_root = c.in_ok-arg-4.ensures.shape (search rules) ∙ ap₂ with_rule with_debug root_is in
    let screen_is : rule_of c.flag-2.result ≡ flag_rule (codes "screen") = search rules in
    let size_is : rule_of c.option-5.result ≡ option_rule (codes "size") = search rules in
    let with_prompt = c.in_ok-arg-5.ensures.shape (search rules) ∙ ap₂ with_rule with_root prompt_is in
    let with_screen = c.in_ok-arg-6.ensures.shape (search rules) ∙ ap₂ with_rule with_prompt screen_is in
    c.in_ok-command-2.ensures.shape (search rules) ∙ ap₂ with_rule with_screen size_is
