use Rattle.std.proofs.Common.{rules, ap, ap₂, codes, ◌≡◌, ◌∙◌, Bool, true, false, ◌||◌}
use Rattle.arguments.specs.CommandLine.{file_rule, flag_rule, option_rule, unnamed, with_file}
use Rattle.clap.specs.Words.{app_of, rule_of, with_rule}
use Rattle.word_page.proofs.command.page_command.Goals as goal

pub returns-clause-shape : goal.returns-clause-shape
returns-clause-shape c =
    let out_is : rule_of c.file.result ≡ file_rule (codes "OUT") = search rules in
    let symbols_is : rule_of c.option.result ≡ option_rule (codes "symbols") = search rules in
    let debug_info_is : rule_of c.option-2.result ≡ option_rule (codes "debug-info") = search rules in
    let source_root_is : rule_of c.option-3.result ≡ option_rule (codes "source-root") = search rules in
    let input_is : rule_of c.option-4.result ≡ option_rule (codes "input") = search rules in
    let until_is : rule_of c.option-5.result ≡ option_rule (codes "until") = search rules in
    let steps_is : rule_of c.option-6.result ≡ option_rule (codes "steps") = search rules in
    let title_is : rule_of c.option-7.result ≡ option_rule (codes "title") = search rules in
    let at_is : rule_of c.option-8.result ≡ option_rule (codes "at") = search rules in
    let screen_is : rule_of c.option-9.result ≡ option_rule (codes "screen") = search rules in
    let notes_is : rule_of c.option-10.result ≡ option_rule (codes "notes") = search rules in
    let free_is : rule_of c.flag.result ≡ flag_rule (codes "free") = search rules in
    let filed : app_of c.in_ok-with_file_options.field-0 ≡ with_file (unnamed (codes "page")) =
    c.in_ok-with_file_options.ensures.shape ∙ ap with_file (c.in_ok-command.ensures.shape) in
    let with_out = c.in_ok-arg.ensures.shape (search rules) ∙ ap₂ with_rule filed out_is in
    let with_symbols = c.in_ok-arg-2.ensures.shape (search rules) ∙ ap₂ with_rule with_out symbols_is in
    let with_debug_info = c.in_ok-arg-3.ensures.shape (search rules) ∙ ap₂ with_rule with_symbols debug_info_is in
    let with_source_root = c.in_ok-arg-4.ensures.shape (search rules) ∙ ap₂ with_rule with_debug_info source_root_is in
    let with_input = c.in_ok-arg-5.ensures.shape (search rules) ∙ ap₂ with_rule with_source_root input_is in
    let with_until = c.in_ok-arg-6.ensures.shape (search rules) ∙ ap₂ with_rule with_input until_is in
    let with_steps = c.in_ok-arg-7.ensures.shape (search rules) ∙ ap₂ with_rule with_until steps_is in
    let with_title = c.in_ok-arg-8.ensures.shape (search rules) ∙ ap₂ with_rule with_steps title_is in
    let with_at = c.in_ok-arg-9.ensures.shape (search rules) ∙ ap₂ with_rule with_title at_is in
    let with_screen = c.in_ok-arg-10.ensures.shape (search rules) ∙ ap₂ with_rule with_at screen_is in
    let with_notes = c.in_ok-arg-11.ensures.shape (search rules) ∙ ap₂ with_rule with_screen notes_is in
    c.in_ok-command-2.ensures.shape (search rules) ∙ ap₂ with_rule with_notes free_is

-- An option that is none of all subcommands leaves a command without such ones.
no_global : (old new is_global : Bool) → new ≡ (old || is_global) → old ≡ false → is_global ≡ false → new ≡ false
no_global true new is_global is first second = is ∙ first
no_global false new true is first second = is ∙ second
no_global false new false is first second = is

pub returns-clause-local : goal.returns-clause-local
returns-clause-local c =
    let filed = c.in_ok-with_file_options.ensures.local c.in_ok-command.ensures.local in
    let with_out = no_global _ _ _ c.in_ok-arg.ensures.globals filed c.file.ensures.local in
    let with_symbols = no_global _ _ _ c.in_ok-arg-2.ensures.globals with_out c.option.ensures.local in
    let with_debug_info = no_global _ _ _ c.in_ok-arg-3.ensures.globals with_symbols c.option-2.ensures.local in
    let with_source_root = no_global _ _ _ c.in_ok-arg-4.ensures.globals with_debug_info c.option-3.ensures.local in
    let with_input = no_global _ _ _ c.in_ok-arg-5.ensures.globals with_source_root c.option-4.ensures.local in
    let with_until = no_global _ _ _ c.in_ok-arg-6.ensures.globals with_input c.option-5.ensures.local in
    let with_steps = no_global _ _ _ c.in_ok-arg-7.ensures.globals with_until c.option-6.ensures.local in
    let with_title = no_global _ _ _ c.in_ok-arg-8.ensures.globals with_steps c.option-7.ensures.local in
    let with_at = no_global _ _ _ c.in_ok-arg-9.ensures.globals with_title c.option-8.ensures.local in
    let with_screen = no_global _ _ _ c.in_ok-arg-10.ensures.globals with_at c.option-9.ensures.local in
    let with_notes = no_global _ _ _ c.in_ok-arg-11.ensures.globals with_screen c.option-10.ensures.local in
    no_global _ _ _ c.in_ok-command-2.ensures.globals with_notes c.flag.ensures.local
