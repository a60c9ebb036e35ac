use Rattle.std.proofs.Common.{◌∙◌, ap, codes, Option}
use Rattle.arguments.specs.Words.{texts, value_in}
use Rattle.clap.specs.Words.{App, Text}
use Rattle.word_dap.proofs.words.read_words.Goals as goal

pub returns-clause-asked : goal.returns-clause-asked
returns-clause-asked c =
    c.get_str-seen.ensures
    ∙ ap (λ (found : Text → Option Text). found (codes "seen"))
    (c.in_ok-matches.ensures.values ∙ ap (λ (app : App). value_in app (texts c.args.words.now)) c.in_ok-dap_command.ensures.shape)
