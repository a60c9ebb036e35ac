-- How a session begins.
use Rattle.std.proofs.Common.{◌≡◌, ◌⊎◌, ◌∙◌, ℕ, Bool, List, Option, Some, Result, Ok, Err, IfErr, option_map, subst, sym, Bor}
use Rattle.std.specs.Result.{IsErrAnd}
use Rattle.accesses.specs.Writing.{bytes_in}
use Rattle.assembler.specs.Assembly.{AssemblyView, IsAssembled}
use Rattle.loading.specs.declared.loaded.ImageNames.{ImageNames}
use Rattle.arguments.specs.Asked.{FileAsked, map_of}
use Rattle.arguments.specs.declared.refusal.Refusal.{Refusal}
use Rattle.arguments.specs.declared.refusal.Refusal.TheVariants.{OutOfMemory}
use Rattle.loading.specs.Loads.{AreOfFile}
use Rattle.loading.specs.Machine.{AreLoaded}
use Rattle.model.specs.Event.{start}
use Rattle.model.specs.Session.{Session, new_session}
use Rattle.word_mon.specs.Starts.{AreNamed, ArePlaces, EndsNamed, EndsStart, IsNewState, IsWarningLine, StartsMon, with_names}
use Rattle.word_mon.specs.declared.starting.StartFault.{StartFault}
use Rattle.word_mon.specs.declared.starting.StartFault.TheVariants.{OfNames}
use Rattle.source_map.specs.Lines.{PlacesView}
use Rattle.mon_session.specs.declared.mon_state.MonState.{MonState}
use Rattle.arguments_play.specs.Mon.{MonAsked}

-- The session of a new state is the one that was loaded.
pub named_starts : (asked : MonAsked) (session : Session) (assembly : Option AssemblyView) (fill : Option ℕ) (written loaded : List Bool)
    (mon : MonState) (warning_line : List ℕ)
    → (image : List (Option ℕ)) × AreLoaded asked.file asked.others fill image assembly
    × (session ≡ new_session asked.history (start (map_of asked.file) image)) × (written ≡ bytes_in image)
    → (places : PlacesView) × ArePlaces asked.debug_info asked.file.file session assembly written places
    × (names : Option ImageNames) × AreNamed asked.symbols asked.file names × IsNewState session asked.history (with_names names places) mon
    → loaded ≡ written → IsWarningLine (map_of asked.file) assembly fill asked.debug_info warning_line → StartsMon asked mon loaded warning_line
named_starts asked session assembly fill written loaded mon warning_line given new same warned =
    let begun = new_session asked.history (start (map_of asked.file) given.0) in (
      given.0,
      assembly,
      fill,
      given.1,
      same ∙ given.3,
      new.0,
      subst (λ w. ArePlaces asked.debug_info asked.file.file begun assembly w new.0) (sym same)
          (subst (λ s. ArePlaces asked.debug_info asked.file.file s assembly written new.0) given.2 new.1),
      new.2,
      new.3,
      subst (λ s. IsNewState s asked.history (with_names new.2 new.0) mon) given.2 new.4,
      warned,
    )

-- A file of names that was read is the one that is named.
pub named_with : (symbols : Option (Bor (List ℕ))) (path : Bor (List ℕ)) (file : FileAsked) (names : ImageNames) → symbols ≡ Some path
    → IsAssembled (map_of file) names.assembly
    → AreOfFile file.profile names.assembly names.others → AreNamed (option_map (λ s. s.now) symbols) file (Some names)
named_with symbols path file names is assembled given = subst (λ o. AreNamed (option_map (λ s. s.now) o) file (Some names)) (sym is) (assembled, given)

-- Why no session begins on the names of a file.
pub names_end : {X : Type 0} (symbols debug : Option (List ℕ)) (file : FileAsked) (refusal : Refusal) (result : Result X StartFault)
    → (refusal ≡ OutOfMemory) ⊎ EndsNamed symbols file refusal
    → IsErrAnd result (λ fault. fault ≡ OfNames refusal) → IfErr result (EndsStart symbols debug file)
names_end symbols debug file refusal (Ok x) ends is = absurd is
names_end symbols debug file refusal (Err fault) ends is = subst (EndsStart symbols debug file) (sym is) ends
