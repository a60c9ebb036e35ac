use Rattle.std.proofs.Common.{◌∙◌, ℕ, Option, ap, codes, sym}
use Rattle.dap_messages.specs.Requests.{or_line}
use Rattle.json_messages.specs.Fields.{number_at}
use Rattle.serde_json.specs.View.{view}
use Rattle.dap_messages.proofs.reading.end_in.Goals as goal

pub returns-in-Some : goal.returns-in-Some
returns-in-Some c =
    let line = number_at (codes "/arguments/line") (view c.args.request.now) in
    ap (λ (n : Option ℕ). or_line n line) (sym c.in-Some.is ∙ c.number_at.ensures)

pub returns-in-None : goal.returns-in-None
returns-in-None c =
    let line = number_at (codes "/arguments/line") (view c.args.request.now) in
    c.number_at-in-None.ensures ∙ ap (λ (n : Option ℕ). or_line n line) (sym c.in-None.is ∙ c.number_at.ensures)
