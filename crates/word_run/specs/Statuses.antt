-- The exit status of a run, and of a stream that failed. Source: mos65.
use Rattle.std.specs.Prelude.{ℕ}
use Rattle.model.specs.declared.event.EventFault.TheVariants.{ConsoleFull}
use Rattle.console.specs.declared.ending.Ending.{Ending}
use Rattle.console.specs.declared.ending.PlayFault.{PlayFault}
use Rattle.console.specs.declared.ending.PlayFault.TheVariants as play_fault
use Rattle.arguments.specs.declared.refusal.ReadFault.TheVariants.{Other}
use Rattle.arguments.specs.declared.refusal.Refusal.{Refusal}
use Rattle.arguments.specs.declared.refusal.Refusal.TheVariants as refusal
use Rattle.console.specs.declared.ending.Ending.TheVariants.{Until, Rest, InputOver, Limit, Unwritten, NoReset, NoVector, Refused}

-- 10 for the limit, 12 for a full console, 11 for any other fault, 13 where nothing stands that
-- could be run; otherwise that of a run that came to its end.
abbrev pub status_of_ending : Ending → ℕ → ℕ
status_of_ending Until ended = ended
status_of_ending Rest ended = ended
status_of_ending InputOver ended = ended
status_of_ending Limit ended = 10
status_of_ending (Unwritten from) ended = 13
status_of_ending NoReset ended = 13
status_of_ending NoVector ended = 13
status_of_ending (Refused ConsoleFull) ended = 12
status_of_ending (Refused fault) ended = 11

-- A stream that failed, as the program's refusal.
abbrev pub refusal_of : PlayFault → Refusal
refusal_of play_fault.Read = refusal.Read Other
refusal_of play_fault.Write = refusal.Write
