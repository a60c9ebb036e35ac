-- How a run that is recorded step by step goes on. Source: mos65.
use Rattle.std.specs.Prelude.{Bool, false, true}
use Rattle.model.specs.declared.run_end.Why.{Why}
use Rattle.model.specs.declared.run_end.Why.TheVariants.{Limit}

-- A run of more steps goes on after its first one, unless that step has ended it.
abbrev pub goes_on : Why → Bool
goes_on Limit = true
goes_on why = false
