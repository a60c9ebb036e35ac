-- What a request does to an adapter, and what is said. Source: Debug Adapter Protocol 1.65; in which
-- order requests come, mos65.
use Rattle.std.specs.Prelude.{ℕ, ◌≡◌, ◌⊎◌, ◌&&◌, ⊤, Bool, true, false, is_none, List, [], ◌∷◌, Option, Some, None}
use Rattle.dap_messages.specs.SeenAnswers.{capabilities, nothing}
use Rattle.dap_messages.specs.Events.{initialized}
use Rattle.dap_messages.specs.Messages.{Said, done, event, refused}
use Rattle.dap_messages.specs.Seen.{SeenLaunch, launch_view}
use Rattle.dap_messages.specs.declared.request.Request.{Request}
use Rattle.dap_messages.specs.declared.request.Request.TheVariants as to
use Rattle.dap_messages.specs.declared.request.SessionRequest.{SessionRequest}
use Rattle.dap_session.specs.Answered.{AreOpenAnswers, all_done}
use Rattle.dap_session.specs.Begun.{IsLaunched}
use Rattle.dap_session.specs.Console.{ShowsIfRefused, over}
use Rattle.dap_session.specs.Refusals.{MayRefuseAt}
use Rattle.dap_session.specs.declared.fault.Fault.{Fault}
use Rattle.dap_session.specs.declared.fault.Fault.TheVariants as fault
use Rattle.dap_session.specs.declared.client.Client.{Client}
use Rattle.word_dap.specs.declared.adapter.Adapter.{Adapter}
use Rattle.dap_messages.specs.declared.counting.Counting.{Counting}
use Rattle.mon_session.specs.Course.{ShowsOnly}

-- ---- a client that has said how it counts: a launch comes once, and before what needs a session.
-- What is no request is not answered

abbrev pub ObeysLaunched : SessionRequest → Counting → Option Client → Option Client → List Said
    → Type 0
ObeysLaunched asked counting (Some old) (Some new) said
    = AreOpenAnswers asked counting old new said
ObeysLaunched asked counting old new said = ⊥

-- After a launch breakpoints may be set.
abbrev pub launched : List Said
launched = done nothing ∷ event initialized ∷ []

abbrev pub Begins : SeenLaunch → Client → List Said → Type 0
Begins launch new said = IsLaunched launch new × (said ≡ launched)

abbrev pub Launches : SeenLaunch → Option Client → Option Client → List Said → Type 0
Launches launch None (Some new) said = Begins launch new said
Launches launch old new said = ⊥

abbrev pub ObeysBegun : Request → Counting → Option Client → Option Client → List Said → Type 0
ObeysBegun (to.Launch launch) counting old new said = Launches (launch_view launch) old new said
ObeysBegun to.Disconnect counting old new said = (new ≡ old) × (said ≡ all_done)
ObeysBegun (to.InSession asked) counting old new said
    = ObeysLaunched asked counting old new said
ObeysBegun to.NoRequest counting old new said = (new ≡ old) × (said ≡ [])
ObeysBegun asked counting old new said = ⊥

-- ---- a client that has not

abbrev pub ObeysFirst : Request → Option Counting → Option Counting → List Said → Type 0
ObeysFirst (to.Initialize counting) old new said
    = (new ≡ Some counting) × (said ≡ done capabilities ∷ [])
ObeysFirst to.NoRequest old new said = (new ≡ old) × (said ≡ [])
ObeysFirst asked old new said = ⊥

-- ---- what a refused request changes: nothing of a session

abbrev pub StaysIfRefused : Fault → Option Client → Option Client → Type 0
StaysIfRefused f (Some old) (Some new) = ShowsIfRefused f old.mon new.mon
StaysIfRefused f None None = ⊤
StaysIfRefused f (Some old) None = ⊥
StaysIfRefused f None (Some new) = ⊥

abbrev pub CountsIfRefused : Fault → Option Counting → Option Counting → Type 0
CountsIfRefused (fault.Refused words) old new = new ≡ old
CountsIfRefused fault.OutOfMemory old new = ⊤

abbrev pub RestsIfRefused : Fault → Adapter → Adapter → Type 0
RestsIfRefused f old new
    = CountsIfRefused f old.counting new.counting × StaysIfRefused f old.client new.client

-- ---- an adapter

abbrev pub ObeysBy : Option Counting → Request → Adapter → Adapter → List Said → Type 0
ObeysBy None asked old new said
    = ObeysFirst asked old.counting new.counting said × (new.client ≡ old.client)
ObeysBy (Some counting) asked old new said
    = ObeysBegun asked counting old.client new.client said × (new.counting ≡ old.counting)

abbrev pub ObeysAdapter : Request → Adapter → Adapter → List Said → Type 0
ObeysAdapter asked old new said = ObeysBy old.counting asked old new said

-- A launch that leaves no session ends, which is said behind its refusal.
abbrev pub is_launch : Request → Bool
is_launch (to.Launch launch) = true
is_launch (to.WrongLaunch member) = true
is_launch asked = false

abbrev pub ends : Request → Option Client → Bool
ends asked client = is_launch asked && is_none client

abbrev pub end_said : Bool → List Said
end_said true = over ∷ []
end_said false = []

abbrev pub IsRefused : Bool → List Said → Type 0
IsRefused is_end said = (words : List ℕ) × (said ≡ refused words ∷ end_said is_end)

-- ---- when a request is refused

-- No program was launched, or the session refuses it.
abbrev pub MayRefuseIn : SessionRequest → Option Client → Type 0
MayRefuseIn asked (Some client) = MayRefuseAt asked client
MayRefuseIn asked None = ⊤

-- A launch that comes again, that gives a member a value that it cannot have, or that names no
-- program that can be loaded; `initialize` that comes again; `attach`, as no program runs elsewhere.
abbrev pub MayRefuseBegun : Request → Option Client → Type 0
MayRefuseBegun to.Disconnect client = ⊥
MayRefuseBegun to.NoRequest client = ⊥
MayRefuseBegun (to.InSession asked) client = MayRefuseIn asked client
MayRefuseBegun asked client = ⊤

-- `initialize` comes first.
abbrev pub MayRefuseFirst : Request → Type 0
MayRefuseFirst (to.Initialize counting) = ⊥
MayRefuseFirst to.NoRequest = ⊥
MayRefuseFirst asked = ⊤

abbrev pub MayRefuseBy : Option Counting → Request → Option Client → Type 0
MayRefuseBy None asked client = MayRefuseFirst asked
MayRefuseBy (Some counting) asked client = MayRefuseBegun asked client

-- ---- what is said of a request

-- A session stays what it is, but for the text of what was said last.
abbrev pub Stays : Option Client → Option Client → Type 0
Stays (Some old) (Some new) = ShowsOnly old.mon new.mon
Stays None None = ⊤
Stays old new = ⊥

-- What is asked for is done, and this is said; or it is refused, which it may be then, and nothing
-- is changed.
abbrev pub Serves : Request → Adapter → Adapter → List Said → Type 0
Serves asked old new said = ObeysAdapter asked old new said
    ⊎ (MayRefuseBy old.counting asked old.client × IsRefused (ends asked new.client) said
    × (new.counting ≡ old.counting) × Stays old.client new.client)
