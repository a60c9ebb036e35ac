-- Runs that go on while no message of the client waits. Source: mos65.
use Rattle.std.specs.Prelude.{ℕ, ◌≡◌, ◌-◌, zero, suc, ⊤, Bool, true, false, List, [], ◌++◌, drop, length, take, Option, Some, None}
use Rattle.clap.specs.Words.{Text}
use Rattle.word_dap.specs.Adapter.{Serves}
use Rattle.word_dap.specs.Sent.{AreBegun, AreSent}
use Rattle.word_dap.specs.declared.adapter.Adapter.{Adapter}
use Rattle.dap_messages.specs.Messages.{Said}
use Rattle.dap_messages.specs.declared.request.Move.TheVariants.{Go}
use Rattle.dap_messages.specs.declared.request.Request.{Request}
use Rattle.dap_messages.specs.declared.request.Request.TheVariants.{InSession}
use Rattle.dap_messages.specs.declared.request.SessionRequest.TheVariants.{Moves}
use Rattle.dap_session.specs.Answered.{goes_on}
use Rattle.dap_session.specs.declared.client.Client.{Client}
use Rattle.serde_json.specs.Data.{Data}

-- ---- a run that nothing has stopped

-- A request has let the machine run, and nothing has stopped it so far.
abbrev pub is_open : Bool → Option Client → Bool
is_open run (Some client) = goes_on run client
is_open run None = false

-- ---- it goes on

-- What is said of a run that goes on: not that the machine stands, which is said last.
abbrev pub but_last : List Said → List Said
but_last said = take (length said - 1) said

-- As it goes on after `continue`.
abbrev pub continuing : Request
continuing = InSession (Moves Go)

-- A run that nothing has stopped goes on: what was said of it is sent, and the machine runs again,
-- which is not answered. An answer is said first.
unfoldable pub GoesOn : Bool → Data → List Said → Adapter → ℕ → List Said → Adapter → ℕ → List ℕ
    → Type 0
GoesOn run request said old sent more new total written = (is_open run old.client ≡ true)
    × AreSent sent request (but_last said) total written
    × (all : List Said) × Serves continuing old new all × (more ≡ drop 1 all)

-- It goes on so often.
unfoldable pub RunsOn : ℕ → Bool → Data → List Said → Adapter → ℕ → List Said → Adapter → ℕ → List ℕ
    → Type 0
RunsOn zero run request said old sent last new total written
    = (last ≡ said) × (new ≡ old) × (total ≡ sent) × (written ≡ [])
RunsOn (suc again) run request said old sent last new total written = (more : List Said)
    × (between : Adapter) × (so_far : ℕ) × (front : List ℕ) × (behind : List ℕ)
    × RunsOn again run request said old sent more between so_far front
    × GoesOn run request more between so_far last new total behind × (written ≡ front ++ behind)

-- Only where `--seen` names a file.
abbrev pub MayRunOn : Option Text → ℕ → Type 0
MayRunOn None again = again ≡ 0
MayRunOn (Some file) again = ⊤

-- It goes on so often, and what is said then is sent.
abbrev pub IsRun : Option Text → Bool → Data → List Said → Adapter → ℕ → Adapter → ℕ → List ℕ
    → Type 0
IsRun seen run request said old sent new total written = (again : ℕ) × MayRunOn seen again
    × (last : List Said) × (so_far : ℕ) × (front : List ℕ) × (behind : List ℕ)
    × RunsOn again run request said old sent last new so_far front
    × AreSent so_far request last total behind × (written ≡ front ++ behind)

-- It goes on so often, and a beginning of what is said then is sent.
abbrev pub IsRunCut : Option Text → Bool → Data → List Said → Adapter → ℕ → List ℕ → Type 0
IsRunCut seen run request said old sent written = (again : ℕ) × MayRunOn seen again
    × (last : List Said) × (new : Adapter) × (so_far : ℕ) × (front : List ℕ) × (behind : List ℕ)
    × RunsOn again run request said old sent last new so_far front
    × AreBegun so_far request last behind × (written ≡ front ++ behind)
