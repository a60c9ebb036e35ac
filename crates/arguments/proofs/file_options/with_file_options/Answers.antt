use Rattle.std.proofs.Common.{rules, codes, refl}
use Rattle.clap.specs.Words.{app_of}
use Rattle.arguments.specs.CommandLine.{file_rule, flag_rule, option_rule}
use Rattle.arguments.proofs.file_options.with_file_options.Goals as goal

pub returns-clause-shape : goal.returns-clause-shape
returns-clause-shape c =
    let with_word = c.with-command.ensures.shape (app_of c.args.command) (file_rule (codes "FILE")) (search rules) refl in
    let with_tape = c.with-command-2.ensures.shape _ (flag_rule (codes "tape")) (search rules) with_word in
    let with_port = c.with-command-3.ensures.shape _ (option_rule (codes "port")) (search rules) with_tape in
    let with_rom = c.with-command-4.ensures.shape _ (option_rule (codes "rom")) (search rules) with_port in
    let with_profile = c.with-command-5.ensures.shape _ (option_rule (codes "profile")) (search rules) with_rom in
    let with_bin = c.with-command-6.ensures.shape _ (option_rule (codes "bin")) (search rules) with_profile in
    let with_prg = c.with-command-7.ensures.shape _ (flag_rule (codes "prg")) (search rules) with_bin in
    c.in_ok-with.ensures.shape _ (flag_rule (codes "image")) (search rules) with_prg
