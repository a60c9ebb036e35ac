use Rattle.std.proofs.Common.{None, sym, ◌≡◌, ◌∙◌}
use Rattle.arguments.proofs.Parsed.{asked_by, fits_by, refused_by}
use Rattle.arguments.specs.Words.{texts}
use Rattle.word_asm.specs.Asked.{files_asked}
use Rattle.word_asm.specs.CommandLine.{asm, words_asked}
use Rattle.clap.specs.Words.{app_of, first_value, found_of}
use Rattle.word_asm.proofs.asked.read_files_words.Goals as goal

pub returns-in-Some-clause-asked : goal.returns-in-Some-clause-asked
returns-in-Some-clause-asked c =
    sym (c.in-Some.ensures ∙ asked_by files_asked (app_of c.in_ok-asm_files_command.field-0) asm (texts c.args.words.now)
    (first_value (found_of c.in_ok-matches.matches)) c.in_ok-asm_files_command.ensures.shape c.in_ok-matches.ensures.values)

pub returns-in-Some-clause-fits : goal.returns-in-Some-clause-fits
returns-in-Some-clause-fits c = fits_by (app_of c.in_ok-asm_files_command.field-0) asm (texts c.args.words.now)
    c.in_ok-asm_files_command.ensures.shape c.in_ok-matches.ensures.fits

pub returns-in_err-matches-clause-refused : goal.returns-in_err-matches-clause-refused
returns-in_err-matches-clause-refused c =
    refused_by (app_of c.in_ok-asm_files_command.field-0) asm (texts c.args.words.now) (words_asked (texts c.args.words.now) ≡ None)
    c.in_err-matches.field-0.0 c.from_residual-in_err-matches.result
    c.in_ok-asm_files_command.ensures.shape c.in_err-matches.ensures.refused c.from_residual-in_err-matches.ensures.1

pub returns-clause-refused : goal.returns-clause-refused
returns-clause-refused c = (
  fits_by (app_of c.in_ok-asm_files_command.field-0) asm (texts c.args.words.now) c.in_ok-asm_files_command.ensures.shape
      c.in_ok-matches.ensures.fits,
  sym (c.in-None.ensures
      ∙ asked_by files_asked (app_of c.in_ok-asm_files_command.field-0) asm (texts c.args.words.now)
      (first_value (found_of c.in_ok-matches.matches)) c.in_ok-asm_files_command.ensures.shape c.in_ok-matches.ensures.values),
)
