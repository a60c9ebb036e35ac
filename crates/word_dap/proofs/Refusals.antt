-- What a refused request leaves.
use Rattle.std.proofs.Common.{Option, Some, None, refl}
use Rattle.std.proofs.Common.{Global}
use Rattle.std.specs.Prelude.{String}
use Rattle.word_dap.specs.Adapter.{CountsIfRefused, Stays, StaysIfRefused}
use Rattle.dap_messages.specs.declared.counting.Counting.{Counting}
use Rattle.dap_session.proofs.Stays.{shows_same}
use Rattle.dap_session.specs.declared.fault.Fault.{Fault}
use Rattle.dap_session.specs.declared.fault.Fault.TheVariants as fault
use Rattle.dap_session.specs.declared.client.Client.{Client}

pub stays_same : (f : Fault) (s : Option Client) → StaysIfRefused f s s
stays_same f (Some s) = shows_same f s.mon
stays_same f None = tt

pub counts_same : (f : Fault) (n : Option Counting) → CountsIfRefused f n n
counts_same (fault.Refused words) n = refl
counts_same fault.OutOfMemory n = tt

pub stays_so : (words : String Global) (old new : Option Client) → StaysIfRefused (fault.Refused words) old new → Stays old new
stays_so words (Some old) (Some new) stays = stays
stays_so words None None stays = tt
stays_so words (Some old) None stays = absurd stays
stays_so words None (Some new) stays = absurd stays
