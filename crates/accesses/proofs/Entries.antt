-- Whether a step was an interrupt entry is known from the state that it was made from.
use Rattle.std.proofs.Common.{◌≡◌, ap}
use Rattle.std.specs.Prelude.{length}
use Rattle.model.specs.State.{State}
use Rattle.model.specs.Step.{entry_due}
use Rattle.accesses.specs.Moments.{entered, enters_with, moment_of}

-- where no input was handed in before the step
pub entered_is : (s t : State) → t.bus.given ≡ s.bus.given → entered (moment_of s) t ≡ entry_due s
entered_is s t same = ap (λ given. enters_with (length given) (moment_of s)) same
