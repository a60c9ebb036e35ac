use Rattle.std.proofs.Common.{ap, sym, ◌∙◌, length, arith, List, ℕ}
use Rattle.papertape.specs.Reading.{read_of}
use Rattle.papertape.specs.Feeding.{Fed, end_of_feeding, fed_up_to}
use Rattle.papertape.proofs.Answers.{answers_of}
use Rattle.papertape.proofs.Pieces.{whole_fed}
use Rattle.papertape.proofs.reader.read_whole.Goals as goal

pub returns : goal.returns
returns c =
    let text : List ℕ = c.args.text.now in
    answers_of (read_of text) c.finish.result
    (sym (whole_fed (length text) text (omega arith)) ∙ ap (λ (r : Fed). end_of_feeding (fed_up_to (length text) r text))
    (sym c.in_ok-reader.ensures.new) ∙ ap end_of_feeding (sym c.take_up_to.ensures) ∙ c.finish.ensures)
