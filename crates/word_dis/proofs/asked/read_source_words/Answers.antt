use Rattle.std.proofs.Common.{None, sym, ◌≡◌, ◌∙◌}
use Rattle.arguments.proofs.Parsed.{fits_by, refused_by}
use Rattle.arguments.specs.Words.{texts}
use Rattle.clap.specs.Words.{app_of}
use Rattle.word_dis.specs.CommandLine.{dis, words_asked}
use Rattle.word_dis.proofs.Read.{asked_found}
use Rattle.word_dis.proofs.asked.read_source_words.Goals as goal

pub returns-in-Ok-Some-clause-asked : goal.returns-in-Ok-Some-clause-asked
returns-in-Ok-Some-clause-asked c =
    let told = rw c.in-Ok-Some.field-0-is at c.in-Ok-Some.ensures in
    sym (told ∙ asked_found (app_of c.in_ok-dis_source_command.field-0) (texts c.args.words.now) c.in_ok-matches.matches
    c.in_ok-dis_source_command.ensures.shape c.in_ok-matches.ensures.values c.in_ok-matches.ensures.rows)

pub returns-in-Ok-Some-clause-fits : goal.returns-in-Ok-Some-clause-fits
returns-in-Ok-Some-clause-fits c = fits_by (app_of c.in_ok-dis_source_command.field-0) dis (texts c.args.words.now)
    c.in_ok-dis_source_command.ensures.shape c.in_ok-matches.ensures.fits

pub returns-in_err-matches-clause-refused : goal.returns-in_err-matches-clause-refused
returns-in_err-matches-clause-refused c =
    refused_by (app_of c.in_ok-dis_source_command.field-0) dis (texts c.args.words.now) (words_asked (texts c.args.words.now) ≡ None)
    c.in_err-matches.field-0.0 c.from_residual-in_err-matches.result
    c.in_ok-dis_source_command.ensures.shape c.in_err-matches.ensures.refused c.from_residual-in_err-matches.ensures.1

pub returns-in-Ok-None-clause-refused : goal.returns-in-Ok-None-clause-refused
returns-in-Ok-None-clause-refused c =
    let told = rw c.in-Ok-None.field-0-is at c.in-Ok-None.ensures in (
      fits_by (app_of c.in_ok-dis_source_command.field-0) dis (texts c.args.words.now) c.in_ok-dis_source_command.ensures.shape c.in_ok-matches.ensures.fits,
      sym (told ∙ asked_found (app_of c.in_ok-dis_source_command.field-0) (texts c.args.words.now) c.in_ok-matches.matches
          c.in_ok-dis_source_command.ensures.shape c.in_ok-matches.ensures.values c.in_ok-matches.ensures.rows),
    )
