use Rattle.std.proofs.Common.{subst, refl, arith, Result}
use Rattle.model.specs.declared.tape.TapeFault.{TapeFault}
use Rattle.papertape.specs.contracts.reading.Reading.{the_view}
use Rattle.papertape.specs.Reading.{Progress, Gives, with_digit}
use Rattle.papertape.proofs.Steps.{pushed, digit_done}
use Rattle.papertape.proofs.reading.Reading.with_digit.Goals as goal

pub invariant_of-self : goal.invariant_of-self
invariant_of-self c =
    pushed c.self.inside.held c.args.byte c.needed.result c.self.inside.digits (omega arith) c.self.invariant c.requires c.needed.ensures c.if-held-needed.true

pub returns : goal.returns
returns c =
    let le = c.needed.ensures in
    let done = digit_done c.self.inside.held c.args.byte c.self.inside.digits (the_view c.self.inside) c.read-claim.result refl (omega arith)
    (omega arith) c.read-claim.ensures in
    subst (λ (t : Progress). Gives c.settle.result c.settle.new.self (with_digit t c.args.byte)) c.self.view_is
    (subst (λ (r : Result Progress TapeFault). Gives c.settle.result c.settle.new.self r) done c.settle.ensures)
