use Rattle.std.proofs.Common.{◌∙◌, ap, sym, true}
use Rattle.std.specs.Prelude.{slice_set}
use Rattle.accesses.proofs.Bytes.{set_again}
use Rattle.console.proofs.stretch.run_up_to.Goals as goal

pub returns-in-Some-clause-written : goal.returns-in-Some-clause-written
returns-in-Some-clause-written c =
    c.note.ensures ∙ ap (λ cells. slice_set cells c.in-Some.address true) c.forget.ensures
    ∙ set_again c.args.written.now c.in-Some.address (sym c.contains.ensures ∙ c.if-contains.true)
