use Rattle.std.proofs.Common.{None, sym, ◌≡◌, ◌∙◌}
use Rattle.arguments.proofs.Parsed.{fits_by, value_refused}
use Rattle.arguments.specs.Words.{texts}
use Rattle.clap.specs.Words.{app_of}
use Rattle.word_check.specs.CommandLine.{check, check_asked}
use Rattle.word_check.proofs.Read.{asked_found}
use Rattle.word_check.proofs.words.read_words.Goals as goal

pub returns-in-Ok-Some-clause-asked : goal.returns-in-Ok-Some-clause-asked
returns-in-Ok-Some-clause-asked c =
    let told = rw c.in-Ok-Some.field-0-is at c.in-Ok-Some.ensures in
    sym (told ∙ asked_found (app_of c.in_ok-check_command.field-0) (texts c.args.words.now) c.in_ok-matches.matches
    c.in_ok-check_command.ensures.shape c.in_ok-matches.ensures.values c.in_ok-matches.ensures.rows)

pub returns-in-Ok-None-clause-refused : goal.returns-in-Ok-None-clause-refused
returns-in-Ok-None-clause-refused c =
    let told = rw c.in-Ok-None.field-0-is at c.in-Ok-None.ensures in
    value_refused check (texts c.args.words.now) (check_asked (texts c.args.words.now) ≡ None) _ _ c.value_fault.ensures
    (fits_by (app_of c.in_ok-check_command.field-0) check (texts c.args.words.now) c.in_ok-check_command.ensures.shape c.in_ok-matches.ensures.fits)
    (sym (told ∙ asked_found (app_of c.in_ok-check_command.field-0) (texts c.args.words.now) c.in_ok-matches.matches
    c.in_ok-check_command.ensures.shape c.in_ok-matches.ensures.values c.in_ok-matches.ensures.rows))
