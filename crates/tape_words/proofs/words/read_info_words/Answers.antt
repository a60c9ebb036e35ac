use Rattle.std.proofs.Common.{None, sym, ◌≡◌, ◌∙◌}
use Rattle.arguments.proofs.Parsed.{asked_by, fits_by, refused_by, value_refused}
use Rattle.arguments.specs.Words.{texts}
use Rattle.clap.specs.Words.{app_of, first_value, found_of}
use Rattle.tape_words.specs.Asked.{info_asked, info_by}
use Rattle.tape_words.specs.CommandLines.{info}
use Rattle.tape_words.proofs.words.read_info_words.Goals as goal

pub returns-in-Some-clause-asked : goal.returns-in-Some-clause-asked
returns-in-Some-clause-asked c =
    sym (c.in-Some.ensures ∙ asked_by info_by (app_of c.in_ok-info_command.field-0) info (texts c.args.words.now)
    (first_value (found_of c.in_ok-matches.matches)) c.in_ok-info_command.ensures.shape c.in_ok-matches.ensures.values)

pub returns-clause-refused : goal.returns-clause-refused
returns-clause-refused c =
    value_refused info (texts c.args.words.now) (info_asked (texts c.args.words.now) ≡ None) _ _ c.value_fault.ensures
    (fits_by (app_of c.in_ok-info_command.field-0) info (texts c.args.words.now) c.in_ok-info_command.ensures.shape c.in_ok-matches.ensures.fits)
    (sym (c.in-None.ensures ∙ asked_by info_by (app_of c.in_ok-info_command.field-0) info (texts c.args.words.now)
    (first_value (found_of c.in_ok-matches.matches)) c.in_ok-info_command.ensures.shape c.in_ok-matches.ensures.values))

pub returns-in_err-matches-clause-refused : goal.returns-in_err-matches-clause-refused
returns-in_err-matches-clause-refused c =
    refused_by (app_of c.in_ok-info_command.field-0) info (texts c.args.words.now) (info_asked (texts c.args.words.now) ≡ None)
    c.in_err-matches.field-0.0 c.from_residual-in_err-matches.result
    c.in_ok-info_command.ensures.shape c.in_err-matches.ensures.refused c.from_residual-in_err-matches.ensures.1

pub returns-in-Some-clause-taken : goal.returns-in-Some-clause-taken
returns-in-Some-clause-taken c = fits_by (app_of c.in_ok-info_command.field-0) info (texts c.args.words.now) c.in_ok-info_command.ensures.shape
    c.in_ok-matches.ensures.fits
