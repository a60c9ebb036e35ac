use Rattle.std.proofs.Common.{◌∙◌, sym, subst}
use Rattle.arguments.specs.Words.{Fits, IsMisfit, texts}
use Rattle.clap.specs.Words.{App, app_of, subcommand_rows_of}
use Rattle.arguments.proofs.Parsed.{not_both, served_by}
use Rattle.program.proofs.Found.{found_asked, memory_or, refused}
use Rattle.program.specs.CommandLine.{mos65}
use Rattle.program.specs.Views.{view}
use Rattle.program.proofs.read.read_words.Goals as goal

pub returns-in_err-matches-clause-served : goal.returns-in_err-matches-clause-served
returns-in_err-matches-clause-served c a fits h =
    served_by (app_of c.in_ok-command.field-0) mos65 (texts c.args.words.now) c.in_err-matches.field-0.0 c.from_residual-in_err-matches.result
    c.in_ok-command.ensures.shape c.in_err-matches.ensures.served c.from_residual-in_err-matches.ensures.1 fits

pub returns-in_err-matches-clause-wrong : goal.returns-in_err-matches-clause-wrong
returns-in_err-matches-clause-wrong c fits h =
    memory_or c.from_residual-in_err-matches.result c.in_err-matches.field-0.0 c.from_residual-in_err-matches.ensures.1
    (c.in_err-matches.ensures.served (subst (λ (a : App). Fits a (texts c.args.words.now)) (sym c.in_ok-command.ensures.shape) fits))

pub returns-in_err-matches-clause-refused : goal.returns-in_err-matches-clause-refused
returns-in_err-matches-clause-refused c =
    refused c.from_residual-in_err-matches.result (texts c.args.words.now) c.in_err-matches.field-0.0 c.from_residual-in_err-matches.ensures.1
    (subst (λ (a : App). IsMisfit a (texts c.args.words.now) c.in_err-matches.field-0.0) c.in_ok-command.ensures.shape c.in_err-matches.ensures.refused)

pub returns-in-Some-clause-asked : goal.returns-in-Some-clause-asked
returns-in-Some-clause-asked c =
    sym (c.in-Some.ensures ∙ found_asked (app_of c.in_ok-command.field-0) (texts c.args.words.now) (subcommand_rows_of c.in_ok-matches.matches)
    c.in_ok-command.ensures.shape c.in_ok-matches.ensures.subcommand)

pub returns-in-Some-clause-taken : goal.returns-in-Some-clause-taken
returns-in-Some-clause-taken c = subst (λ (a : App). Fits a (texts c.args.words.now)) c.in_ok-command.ensures.shape c.in_ok-matches.ensures.fits

pub returns-in-Some-clause-wrong : goal.returns-in-Some-clause-wrong
returns-in-Some-clause-wrong c fits none =
    absurd (not_both _ (view c.in-Some.words) (sym (c.in-Some.ensures
    ∙ found_asked (app_of c.in_ok-command.field-0) (texts c.args.words.now) (subcommand_rows_of c.in_ok-matches.matches)
    c.in_ok-command.ensures.shape c.in_ok-matches.ensures.subcommand)) none)

pub returns-clause-served : goal.returns-clause-served
returns-clause-served c a fits h =
    absurd (not_both _ a h (sym (c.in-None.ensures ∙ found_asked (app_of c.in_ok-command.field-0) (texts c.args.words.now)
    (subcommand_rows_of c.in_ok-matches.matches) c.in_ok-command.ensures.shape c.in_ok-matches.ensures.subcommand)))

pub returns-clause-refused : goal.returns-clause-refused
returns-clause-refused c = (
  subst (λ (a : App). Fits a (texts c.args.words.now)) c.in_ok-command.ensures.shape c.in_ok-matches.ensures.fits,
  sym (c.in-None.ensures ∙ found_asked (app_of c.in_ok-command.field-0) (texts c.args.words.now) (subcommand_rows_of c.in_ok-matches.matches)
      c.in_ok-command.ensures.shape c.in_ok-matches.ensures.subcommand),
)
