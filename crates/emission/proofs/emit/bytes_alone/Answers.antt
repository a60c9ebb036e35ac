use Rattle.std.proofs.Common.{ℕ, List, sym, ◌∙◌, ap, Ok}
use Rattle.model.specs.Layout.{PlacedLine}
use Rattle.line_parts.specs.Contents.{content_by}
use Rattle.line_parts.specs.LineViews.{statement_view}
use Rattle.emission.proofs.LineAlone.{alone_faulty, alone_right, alone_short, same_alone}
use Rattle.emission.proofs.emit.bytes_alone.Goals as goal

pub returns-in-Some-clause-exact : goal.returns-in-Some-clause-exact
returns-in-Some-clause-exact c =
    let p : PlacedLine = record { address = c.args.address; content = content_by c.args.code (statement_view c.args.statement.now) } in
    alone_faulty p c.in_ok-gathered.gathered c.in-Some.kind (same_alone p c.in_ok-gathered.gathered c.args.count c.in_ok-gathered.ensures
    c.requires.sized) (sym c.kind.ensures ∙ c.in-Some.is)

pub returns-in-None-clause-exact : goal.returns-in-None-clause-exact
returns-in-None-clause-exact c =
    let p : PlacedLine = record { address = c.args.address; content = content_by c.args.code (statement_view c.args.statement.now) } in
    alone_right p c.in_ok-gathered.gathered (same_alone p c.in_ok-gathered.gathered c.args.count c.in_ok-gathered.ensures c.requires.sized)
    (sym c.kind.ensures ∙ c.in-None.is)
    ∙ ap (λ (bytes : List ℕ). Ok bytes) (sym c.into_bytes.ensures)

pub returns-in-None-clause-few : goal.returns-in-None-clause-few
returns-in-None-clause-few c =
    let p : PlacedLine = record { address = c.args.address; content = content_by c.args.code (statement_view c.args.statement.now) } in
    rw (c.into_bytes.ensures, c.requires.sized) (alone_short p c.in_ok-gathered.gathered
    (same_alone p c.in_ok-gathered.gathered c.args.count c.in_ok-gathered.ensures c.requires.sized))
