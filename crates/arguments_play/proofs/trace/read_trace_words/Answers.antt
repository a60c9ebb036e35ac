use Rattle.std.proofs.Common.{sym, ◌∙◌, ◌≡◌, None}
use Rattle.arguments.proofs.Parsed.{asked_by, fits_by, not_both, refused_by, served_by}
use Rattle.arguments.specs.Words.{texts}
use Rattle.arguments_play.specs.Trace.{words_in, trace, trace_asked}
use Rattle.clap.specs.Words.{app_of, first_value, found_of}
use Rattle.arguments_play.proofs.trace.read_trace_words.Goals as goal

pub returns-in_err-matches-clause-served : goal.returns-in_err-matches-clause-served
returns-in_err-matches-clause-served c a fits h =
    served_by (app_of c.in_ok-trace_command.field-0) trace (texts c.args.words.now) c.in_err-matches.field-0.0 c.from_residual-in_err-matches.result
    c.in_ok-trace_command.ensures.shape c.in_err-matches.ensures.served c.from_residual-in_err-matches.ensures.1 fits

pub returns-in_err-matches-clause-refused : goal.returns-in_err-matches-clause-refused
returns-in_err-matches-clause-refused c =
    refused_by (app_of c.in_ok-trace_command.field-0) trace (texts c.args.words.now) (words_in (texts c.args.words.now) ≡ None)
    c.in_err-matches.field-0.0 c.from_residual-in_err-matches.result
    c.in_ok-trace_command.ensures.shape c.in_err-matches.ensures.refused c.from_residual-in_err-matches.ensures.1

pub returns-in-Some-clause-asked : goal.returns-in-Some-clause-asked
returns-in-Some-clause-asked c =
    sym (c.in-Some.ensures ∙ asked_by trace_asked (app_of c.in_ok-trace_command.field-0) trace (texts c.args.words.now)
    (first_value (found_of c.in_ok-matches.matches))
    c.in_ok-trace_command.ensures.shape c.in_ok-matches.ensures.values)

pub returns-in-Some-clause-fits : goal.returns-in-Some-clause-fits
returns-in-Some-clause-fits c = fits_by (app_of c.in_ok-trace_command.field-0) trace (texts c.args.words.now) c.in_ok-trace_command.ensures.shape
    c.in_ok-matches.ensures.fits

pub returns-clause-served : goal.returns-clause-served
returns-clause-served c a fits h =
    absurd (not_both _ a h (sym (c.in-None.ensures ∙ asked_by trace_asked (app_of c.in_ok-trace_command.field-0) trace (texts c.args.words.now)
    (first_value (found_of c.in_ok-matches.matches))
    c.in_ok-trace_command.ensures.shape c.in_ok-matches.ensures.values)))

pub returns-clause-refused : goal.returns-clause-refused
returns-clause-refused c = (
  fits_by (app_of c.in_ok-trace_command.field-0) trace (texts c.args.words.now) c.in_ok-trace_command.ensures.shape c.in_ok-matches.ensures.fits,
  sym (c.in-None.ensures ∙ asked_by trace_asked (app_of c.in_ok-trace_command.field-0) trace (texts c.args.words.now)
      (first_value (found_of c.in_ok-matches.matches)) c.in_ok-trace_command.ensures.shape c.in_ok-matches.ensures.values),
)
