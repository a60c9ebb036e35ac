use Rattle.std.proofs.Common.{sym, ◌∙◌}
use Rattle.arguments.proofs.Parsed.{asked_by, fits_by}
use Rattle.arguments.specs.Words.{texts}
use Rattle.clap.specs.Words.{app_of, first_value, found_of}
use Rattle.tape_words.specs.Asked.{mend_by}
use Rattle.tape_words.specs.CommandLines.{mend}
use Rattle.tape_words.proofs.words.read_mend_words.Goals as goal

pub returns-in-Some-clause-asked : goal.returns-in-Some-clause-asked
returns-in-Some-clause-asked c =
    sym (c.in-Some.ensures ∙ asked_by mend_by (app_of c.in_ok-mend_command.field-0) mend (texts c.args.words.now)
    (first_value (found_of c.in_ok-matches.matches)) c.in_ok-mend_command.ensures.shape c.in_ok-matches.ensures.values)

pub returns-clause-refused : goal.returns-clause-refused
returns-clause-refused c = (
  fits_by (app_of c.in_ok-mend_command.field-0) mend (texts c.args.words.now) c.in_ok-mend_command.ensures.shape c.in_ok-matches.ensures.fits,
  sym (c.in-None.ensures ∙ asked_by mend_by (app_of c.in_ok-mend_command.field-0) mend (texts c.args.words.now)
      (first_value (found_of c.in_ok-matches.matches)) c.in_ok-mend_command.ensures.shape c.in_ok-matches.ensures.values),
)
