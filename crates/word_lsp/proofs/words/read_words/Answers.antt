use Rattle.std.proofs.Common.{None, Some, rules, sym, ◌≡◌, ◌∙◌}
use Rattle.arguments.proofs.Parsed.{asked_by, fits_by, value_refused}
use Rattle.arguments.specs.Words.{texts}
use Rattle.clap.specs.Words.{app_of, first_value, found_of}
use Rattle.word_lsp.specs.CommandLine.{lsp_app, lsp_asked, lsp_by}
use Rattle.word_lsp.proofs.words.read_words.Goals.{in_default-via-in-Some+in_default, in_default-via-in_default}
use Rattle.word_lsp.proofs.words.read_words.Goals as goal

pub returns-in-Some-Some-clause-asked : goal.returns-in-Some-Some-clause-asked
returns-in-Some-Some-clause-asked c =
    let found = first_value (found_of c.in_ok-matches.matches) in
    let by : Some (record { port = c.in-Some-Some.port; profile = c.in-Some-Some.profile }) ≡ lsp_by found = search rules in
    sym (by ∙ asked_by lsp_by (app_of c.in_ok-lsp_command.field-0) lsp_app (texts c.args.words.now) found c.in_ok-lsp_command.ensures.shape
    c.in_ok-matches.ensures.values)

pub returns-in-Some-Some-clause-fits : goal.returns-in-Some-Some-clause-fits
returns-in-Some-Some-clause-fits c =
    fits_by (app_of c.in_ok-lsp_command.field-0) lsp_app (texts c.args.words.now) c.in_ok-lsp_command.ensures.shape c.in_ok-matches.ensures.fits

pub returns-in_default-clause-refused : goal.returns-in_default-clause-refused
returns-in_default-clause-refused c =
    let found = first_value (found_of c.in_ok-matches.matches) in
    let by : lsp_by found ≡ None = elim c.in_default.branch [
      | in_default-via-in-Some+in_default w ↦ search rules
      | in_default-via-in_default w ↦
          search rules
    ] in
    value_refused lsp_app (texts c.args.words.now) (lsp_asked (texts c.args.words.now) ≡ None) _ _ c.value_fault-fault.ensures
    (fits_by (app_of c.in_ok-lsp_command.field-0) lsp_app (texts c.args.words.now) c.in_ok-lsp_command.ensures.shape c.in_ok-matches.ensures.fits)
    (sym (sym by ∙ asked_by lsp_by (app_of c.in_ok-lsp_command.field-0) lsp_app (texts c.args.words.now) found c.in_ok-lsp_command.ensures.shape
    c.in_ok-matches.ensures.values))
