use Rattle.std.proofs.Common.{None, sym, ◌≡◌, ◌∙◌}
use Rattle.arguments.proofs.Parsed.{asked_by, fits_by, refused_by, value_refused}
use Rattle.arguments.specs.Words.{texts}
use Rattle.clap.specs.Words.{app_of, first_value, found_of}
use Rattle.word_convert.specs.DebugAsked.{debug_by}
use Rattle.word_convert.specs.DebugCommandLine.{debug, words_asked}
use Rattle.word_convert.proofs.debugging.words.read_debug_words.Goals as goal

pub returns-in-Some-clause-asked : goal.returns-in-Some-clause-asked
returns-in-Some-clause-asked c =
    sym (c.in-Some.ensures ∙ asked_by debug_by (app_of c.in_ok-debug_image_command.field-0) debug (texts c.args.words.now)
    (first_value (found_of c.in_ok-matches.matches)) c.in_ok-debug_image_command.ensures.shape c.in_ok-matches.ensures.values)

pub returns-clause-refused : goal.returns-clause-refused
returns-clause-refused c =
    value_refused debug (texts c.args.words.now) (words_asked (texts c.args.words.now) ≡ None) _ _ c.value_fault.ensures
    (fits_by (app_of c.in_ok-debug_image_command.field-0) debug (texts c.args.words.now) c.in_ok-debug_image_command.ensures.shape c.in_ok-matches.ensures.fits)
    (sym (c.in-None.ensures ∙ asked_by debug_by (app_of c.in_ok-debug_image_command.field-0) debug (texts c.args.words.now)
    (first_value (found_of c.in_ok-matches.matches)) c.in_ok-debug_image_command.ensures.shape c.in_ok-matches.ensures.values))

pub returns-in-None-clause-refused : goal.returns-in-None-clause-refused
returns-in-None-clause-refused c = (
  fits_by (app_of c.in_ok-debug_image_command.field-0) debug (texts c.args.words.now) c.in_ok-debug_image_command.ensures.shape
      c.in_ok-matches.ensures.fits,
  sym (c.in-None.ensures ∙ asked_by debug_by (app_of c.in_ok-debug_image_command.field-0) debug (texts c.args.words.now)
      (first_value (found_of c.in_ok-matches.matches)) c.in_ok-debug_image_command.ensures.shape c.in_ok-matches.ensures.values),
)

pub returns-in-Some-clause-taken : goal.returns-in-Some-clause-taken
returns-in-Some-clause-taken c = fits_by (app_of c.in_ok-debug_image_command.field-0) debug (texts c.args.words.now)
    c.in_ok-debug_image_command.ensures.shape c.in_ok-matches.ensures.fits

pub returns-in_err-matches-clause-refused : goal.returns-in_err-matches-clause-refused
returns-in_err-matches-clause-refused c =
    refused_by (app_of c.in_ok-debug_image_command.field-0) debug (texts c.args.words.now) (words_asked (texts c.args.words.now) ≡ None)
    c.in_err-matches.field-0.0 c.from_residual-in_err-matches.result
    c.in_ok-debug_image_command.ensures.shape c.in_err-matches.ensures.refused c.from_residual-in_err-matches.ensures.1
