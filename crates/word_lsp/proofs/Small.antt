-- The exit status of a server that ends is 0 or 1.
use Rattle.std.proofs.Common.{◌≡◌, ◌≤◌, ℕ, Bool, true, false, if◌then◌else◌, List, Option, None, Some, refl, arith, subst, sym}
use Rattle.std.proofs.lemmas.Option.{none-some, same_Some}
use Rattle.word_lsp.specs.Messages.{Does, DoesUnless, end_of, is_exit, status_in}
use Rattle.word_lsp.specs.Sessions.{Answers}
use Rattle.word_lsp.specs.State.{State}
use Rattle.word_lsp.specs.declared.phase.Phase.{Phase}
use Rattle.word_lsp.specs.declared.phase.Phase.TheVariants.{Fresh, Running, ShutDown}
use Rattle.lsp_messages.specs.Requests.{request_of}
use Rattle.model.specs.State.{Map}
use Rattle.serde_json.specs.Data.{Data}

small_in : (phase : Phase) → status_in phase ≤ 1
small_in Fresh = omega arith
small_in (Running client) = omega arith
small_in ShutDown = omega arith

small_if : (ends : Bool) (phase : Phase) (status : ℕ) → (if ends then Some (status_in phase) else None) ≡ Some status → status ≤ 1
small_if true phase status is = subst (λ (n : ℕ). n ≤ 1) (same_Some (status_in phase) status is) (small_in phase)
small_if false phase status is = absurd (none-some status is)

small_unless : (end : Option ℕ) (bus_map : Map) (s t : State) (message : Data) (vs : List Data) (status : ℕ) → ((n : ℕ) → end ≡ Some n → n ≤ 1)
    → DoesUnless end bus_map s message t vs (Some status) → status ≤ 1
small_unless None bus_map s t message vs status small does = absurd (none-some status (sym does.2))
small_unless (Some n) bus_map s t message vs status small does = subst (λ (n : ℕ). n ≤ 1) (sym (same_Some status n does.2)) (small n refl)

small_after : (message : Option Data) (bus_map : Map) (s t : State) (vs : List Data) (status : ℕ) → Does bus_map s message t vs (Some status) → status ≤ 1
small_after None bus_map s t vs status does = absurd (none-some status (sym does.2))
small_after (Some message) bus_map s t vs status does =
    small_unless (end_of s message) bus_map s t message vs status (small_if (is_exit (request_of message)) s.phase) does

pub small_status : (bus_map : Map) (body : List ℕ) (old new : State) (status : ℕ) (written : List ℕ)
    → Answers bus_map body old new (Some status) written → status ≤ 1
unfolding Answers
small_status bus_map body old new status written served = small_after served.0 bus_map old new served.2 status served.3
