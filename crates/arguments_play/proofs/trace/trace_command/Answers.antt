use Rattle.std.proofs.Common.{rules, ap, ap₂, codes, ◌≡◌, ◌∙◌, Bool, true, false, ◌||◌}
use Rattle.arguments.specs.CommandLine.{flag_rule, option_rule, unnamed, with_files}
use Rattle.clap.specs.Words.{app_of, rule_of, with_rule}
use Rattle.arguments_play.proofs.trace.trace_command.Goals as goal

pub returns-clause-shape : goal.returns-clause-shape
returns-clause-shape c =
    let symbols_is : rule_of c.option.result ≡ option_rule (codes "symbols") = search rules in
    let debug_is : rule_of c.option-2.result ≡ option_rule (codes "debug-info") = search rules in
    let root_is : rule_of c.option-3.result ≡ option_rule (codes "source-root") = search rules in
    let from_is : rule_of c.option-4.result ≡ option_rule (codes "from") = search rules in
    let to_is : rule_of c.option-5.result ≡ option_rule (codes "to") = search rules in
    let steps_is : rule_of c.option-6.result ≡ option_rule (codes "steps") = search rules in
    let stores_is : rule_of c.flag.result ≡ flag_rule (codes "stores") = search rules in
    let count_is : rule_of c.flag-2.result ≡ flag_rule (codes "count") = search rules in
    let lcov_is : rule_of c.option-7.result ≡ option_rule (codes "lcov") = search rules in
    let unwritten_is : rule_of c.flag-3.result ≡ flag_rule (codes "unwritten") = search rules in
    let free_is : rule_of c.flag-4.result ≡ flag_rule (codes "free") = search rules in
    let filed : app_of c.in_ok-with_files_options.field-0 ≡ with_files (unnamed (codes "trace")) =
    c.in_ok-with_files_options.ensures.shape ∙ ap with_files (c.in_ok-command.ensures.shape) in
    let with_symbols = c.in_ok-arg.ensures.shape (search rules) ∙ ap₂ with_rule filed symbols_is in
    let with_debug = c.in_ok-arg-2.ensures.shape (search rules) ∙ ap₂ with_rule with_symbols debug_is in
    let with_root = c.in_ok-arg-3.ensures.shape (search rules) ∙ ap₂ with_rule with_debug root_is in
    let with_from = c.in_ok-arg-4.ensures.shape (search rules) ∙ ap₂ with_rule with_root from_is in
    let with_to = c.in_ok-arg-5.ensures.shape (search rules) ∙ ap₂ with_rule with_from to_is in
    let with_steps = c.in_ok-arg-6.ensures.shape (search rules) ∙ ap₂ with_rule with_to steps_is in
    let with_stores = c.in_ok-arg-7.ensures.shape (search rules) ∙ ap₂ with_rule with_steps stores_is in
    let with_count = c.in_ok-arg-8.ensures.shape (search rules) ∙ ap₂ with_rule with_stores count_is in
    let with_lcov = c.in_ok-arg-9.ensures.shape (search rules) ∙ ap₂ with_rule with_count lcov_is in
    let with_unwritten = c.in_ok-arg-10.ensures.shape (search rules) ∙ ap₂ with_rule with_lcov unwritten_is in
    c.in_ok-command-2.ensures.shape (search rules) ∙ ap₂ with_rule with_unwritten free_is

-- An option that is none of all subcommands leaves a command without such ones.
no_global : (old new is_global : Bool) → new ≡ (old || is_global) → old ≡ false → is_global ≡ false → new ≡ false
no_global true new is_global is first second = is ∙ first
no_global false new true is first second = is ∙ second
no_global false new false is first second = is

pub returns-clause-local : goal.returns-clause-local
returns-clause-local c =
    let filed = c.in_ok-with_files_options.ensures.local c.in_ok-command.ensures.local in
    let with_symbols = no_global _ _ _ c.in_ok-arg.ensures.globals filed c.option.ensures.local in
    let with_debug = no_global _ _ _ c.in_ok-arg-2.ensures.globals with_symbols c.option-2.ensures.local in
    let with_root = no_global _ _ _ c.in_ok-arg-3.ensures.globals with_debug c.option-3.ensures.local in
    let with_from = no_global _ _ _ c.in_ok-arg-4.ensures.globals with_root c.option-4.ensures.local in
    let with_to = no_global _ _ _ c.in_ok-arg-5.ensures.globals with_from c.option-5.ensures.local in
    let with_steps = no_global _ _ _ c.in_ok-arg-6.ensures.globals with_to c.option-6.ensures.local in
    let with_stores = no_global _ _ _ c.in_ok-arg-7.ensures.globals with_steps c.flag.ensures.local in
    let with_count = no_global _ _ _ c.in_ok-arg-8.ensures.globals with_stores c.flag-2.ensures.local in
    let with_lcov = no_global _ _ _ c.in_ok-arg-9.ensures.globals with_count c.option-7.ensures.local in
    let with_unwritten = no_global _ _ _ c.in_ok-arg-10.ensures.globals with_lcov c.flag-3.ensures.local in
    no_global _ _ _ c.in_ok-command-2.ensures.globals with_unwritten c.flag-4.ensures.local
