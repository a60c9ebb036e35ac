use Rattle.std.proofs.Common.{◌∙◌, ◌++◌, ◌∷◌, ℕ, List, ap}
use Rattle.t65_reader.specs.RowText.{SeenRow, numbered_view}
use Rattle.t65_runner.specs.Passes.{rows_seen}
use Rattle.t65_suites.specs.Prepared.{ground_in}
use Rattle.word_test.proofs.rows.run_for.Goals as goal

pub returns : goal.returns
returns c =
    c.in_ok-run.ensures
    ∙ (ap (λ (before : List (ℕ × SeenRow)). before ++ numbered_view c.args.row.now ∷ rows_seen c.args.around.now.after.items) c.requires.before
    ∙ ap (λ (after : List (ℕ × SeenRow)). (ground_in c.args.prepared.now).before ++ numbered_view c.args.row.now ∷ after) c.requires.after)
