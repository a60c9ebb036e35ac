-- At a start no input waits, and nothing was put out.
use Rattle.std.proofs.Common.{◌≡◌, ◌∙◌, ℕ, false, List, [], Option, Result, Ok, Err, IfOk, refl, ap}
use Rattle.accesses.specs.Writing.{bytes_in}
use Rattle.arguments.specs.Asked.{FileAsked, map_of}
use Rattle.loading.specs.Loads.{IsLoaded}
use Rattle.loading.specs.Named.{IsNamed}
use Rattle.loading.specs.declared.loaded.Loaded.{Loaded}
use Rattle.model.specs.Event.{start, reset_state}
use Rattle.model.specs.Session.{Session, new_session}
use Rattle.model.specs.State.{Map, input_waits, loaded_bus}

pub starts_idle : (map : Map) (image : List (Option ℕ)) → input_waits (start map image).bus ≡ false
unfolding start reset_state loaded_bus
starts_idle map image = refl

pub starts_silent : (map : Map) (image : List (Option ℕ)) → (start map image).bus.out ≡ []
unfolding start reset_state loaded_bus
starts_silent map image = refl

abbrev IsStarted : FileAsked → Loaded → Type 0
IsStarted asked loaded = (image : List (Option ℕ)) × IsLoaded asked loaded.fill image loaded.assembly
    × (loaded.session ≡ new_session 0 (start (map_of asked) image)) × (loaded.written ≡ bytes_in image)

pub started_idle : {E : Type 0} (asked : FileAsked) (result : Result Loaded E) → IfOk result (IsStarted asked)
    → IfOk result (λ loaded. input_waits loaded.session.current.bus ≡ false)
started_idle asked (Ok loaded) started = ap (λ (s : Session). input_waits s.current.bus) started.2 ∙ starts_idle _ started.0
started_idle asked (Err fault) started = tt

pub started_silent : {E : Type 0} (asked : FileAsked) (result : Result Loaded E) → IfOk result (IsStarted asked)
    → IfOk result (λ loaded. loaded.session.current.bus.out ≡ [])
started_silent asked (Ok loaded) started = ap (λ (s : Session). s.current.bus.out) started.2 ∙ starts_silent _ started.0
started_silent asked (Err fault) started = tt

abbrev IsNamedStart : FileAsked → Option (List ℕ) → Loaded → Type 0
IsNamedStart asked symbols loaded = (image : List (Option ℕ)) × IsNamed asked symbols loaded.fill image loaded.assembly
    × (loaded.session ≡ new_session 0 (start (map_of asked) image)) × (loaded.written ≡ bytes_in image)

pub named_idle : {E : Type 0} (asked : FileAsked) (symbols : Option (List ℕ)) (result : Result Loaded E) → IfOk result (IsNamedStart asked symbols)
    → IfOk result (λ loaded. input_waits loaded.session.current.bus ≡ false)
named_idle asked symbols (Ok loaded) started = ap (λ (s : Session). input_waits s.current.bus) started.2 ∙ starts_idle _ started.0
named_idle asked symbols (Err fault) started = tt

pub named_silent : {E : Type 0} (asked : FileAsked) (symbols : Option (List ℕ)) (result : Result Loaded E) → IfOk result (IsNamedStart asked symbols)
    → IfOk result (λ loaded. loaded.session.current.bus.out ≡ [])
named_silent asked symbols (Ok loaded) started = ap (λ (s : Session). s.current.bus.out) started.2 ∙ starts_silent _ started.0
named_silent asked symbols (Err fault) started = tt
