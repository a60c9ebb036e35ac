use Rattle.std.proofs.Common.{rules, codes}
use Rattle.clap.specs.Words.{app_of}
use Rattle.arguments.specs.CommandLine.{with_file, word_rule}
use Rattle.arguments.proofs.machine_files.with_files_options.Goals as goal

pub returns-clause-shape : goal.returns-clause-shape
returns-clause-shape c =
    let with_second = c.with-command.ensures.shape (with_file (app_of c.args.command)) (word_rule (codes "SECOND")) (search rules)
    c.in_ok-command.ensures.shape in
    let with_third = c.with-command-2.ensures.shape _ (word_rule (codes "THIRD")) (search rules) with_second in
    c.in_ok-with.ensures.shape _ (word_rule (codes "FOURTH")) (search rules) with_third
