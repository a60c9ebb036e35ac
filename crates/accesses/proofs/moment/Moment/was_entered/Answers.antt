use Rattle.std.proofs.Common.{◌∙◌, ap}
use Rattle.accesses.specs.Moments.{entered, enters_with}
use Rattle.accesses.proofs.moment.Moment.was_entered.Goals as goal

pub returns-clause-due : goal.returns-clause-due
returns-clause-due c = λ before at.
    c.enters_with.ensures
    ∙ ap (λ n. enters_with n c.args.self.now) c.input_len.ensures
    ∙ ap (λ m. entered m c.args.session.now.current) at
