-- How a run ended, from what `play` says of it.
use Rattle.std.proofs.Common.{◌≡◌, ◌∙◌, ◌++◌, ℕ, Bool, true, List, [], Option, Some, None, Ok, Err, refl, sym, ap, subst, if◌then◌else◌, inl, inr}
use Rattle.std.specs.Io.KnownBytes.{Appends}
use Rattle.accesses.specs.Writing.{bytes_in, or_everywhere}
use Rattle.assembler.specs.Assembly.{AssemblyView}
use Rattle.console.specs.Playing.{Outcome, begun, played}
use Rattle.console.proofs.Growing.{broke_grows}
use Rattle.console.specs.Written.{AreBytesOf, BrokeOff, RanAs}
use Rattle.console.specs.declared.ending.Ending.{Ending}
use Rattle.console.specs.declared.ending.PlayFault.{PlayFault}
use Rattle.console.specs.declared.ending.Played.{Played}
use Rattle.arguments.specs.Asked.{map_of}
use Rattle.debug_files.specs.Changed.{TellsChanged}
use Rattle.loading.specs.Machine.{IsMachine}
use Rattle.loading.specs.Named.{MayLose}
use Rattle.loading.specs.Place.{names_of}
use Rattle.model.specs.Event.{start}
use Rattle.model.specs.Names.{Definitions}
use Rattle.model.specs.State.{State}
use Rattle.model.specs.Session.{Session, new_session}
use Rattle.model.proofs.Written.{front_more}
use Rattle.model.specs.Writers.{AppendsFront}
use Rattle.arguments.specs.FaultLines.{fault_line}
use Rattle.arguments.specs.Statuses.{status_of}
use Rattle.arguments_play.specs.Run.{RunAsked}
use Rattle.loading.specs.Told.{Heard, Tells}
use Rattle.loading.specs.Warned.{TellsWarnings}
use Rattle.model.specs.State.{Map}
use Rattle.source_map.specs.Lines.{PlacesView}
use Rattle.word_run.specs.Known.{AreDebugged, known_by}
use Rattle.word_run.specs.Runs.{IsDone, RanDebugged, RanIfFound, RanOrInterrupted, Start, Streams, TellsEnd, TellsInterrupted, start_of}
use Rattle.word_run.specs.Places.{or_status, place_asked, place_known}
use Rattle.word_run.specs.Statuses.{refusal_of, status_of_ending}
use Rattle.word_run.specs.Told.{unplaced_line}

abbrev PlayedOf : Option ℕ → ℕ → Start → Option (List ℕ) → Option (List ℕ) → Session → Played → Type 0
PlayedOf until limit s given left now end = (input : List ℕ) × (rest : List ℕ) × AreBytesOf given input × AreBytesOf left rest
    × RanAs (played until limit (begun s.session s.written input)) end now rest

-- What was written is what the session put out since.
abbrev AllWritten : Session → Session → Option (List ℕ) → Option (List ℕ) → Type 0
AllWritten s t held now = (text : List ℕ) × (t.current.bus.out ≡ s.current.bus.out ++ text) × Appends held now text

abbrev FrontWritten : Session → Session → Option (List ℕ) → Option (List ℕ) → Type 0
FrontWritten s t held now = (text : List ℕ) × (t.current.bus.out ≡ s.current.bus.out ++ text) × AppendsFront held now text

-- What was told of a run is told of its outcome.
told_of : (is_told : Bool) (known : Option PlacesView) (heard : Heard) (ending why : Ending) (steps count : ℕ)
    (state now : State) → ending ≡ why → steps ≡ count → state ≡ now
    → TellsEnd is_told known heard ending steps state → TellsEnd is_told known heard why count now
told_of is_told known heard ending why steps count state now e n s told =
    let E : Ending → Type 0 = λ x. TellsEnd is_told known heard x count now in
    let N : ℕ → Type 0 = λ x. TellsEnd is_told known heard ending x now in
    let S : State → Type 0 = λ x. TellsEnd is_told known heard ending steps x in
    subst E e (subst N n (subst S s told))

pub ran_to : (a : RunAsked) (known : Option PlacesView) (until : Option ℕ) (s : Start) (t : Session) (streams : Streams) (interrupted : Bool)
    (heard : Heard) (end : Played) (status : ℕ)
    → s.session.current.bus.out ≡ []
    → PlayedOf until a.steps s streams.given streams.left t end
    → AllWritten s.session t streams.held streams.now
    → status ≡ status_of_ending end.ending (if a.is_status_of_a then t.current.regs.a else 0)
    → TellsEnd a.tells_cycles known heard end.ending end.steps t.current
    → RanOrInterrupted a known until s streams interrupted heard status
unfolding RanOrInterrupted
ran_to a known until s t streams interrupted heard end status silent run written is told =
    let outcome : Outcome = played until a.steps (begun s.session s.written run.0) in
    let same : RanAs outcome end t run.1 = run.4 in
    let B : List ℕ → Type 0 = λ bytes. AreBytesOf streams.left bytes in
    let W : List ℕ → Type 0 = λ text. Appends streams.held streams.now text in
    let ended : Ending → Session → ℕ = λ why now. status_of_ending why (if a.is_status_of_a then now.current.regs.a else 0) in
    let text_is : written.0 ≡ outcome.play.session.current.bus.out
    = sym (ap (λ (out : List ℕ). out ++ written.0) silent) ∙ sym written.1 ∙ ap (λ (now : Session). now.current.bus.out) same.session in inl (
      Ok outcome,
      (run.0, refl, run.2, subst B same.left run.3, subst W text_is written.2),
      is ∙ ap (λ (why : Ending). ended why t) same.ending ∙ ap (λ (now : Session). ended outcome.ending now) same.session,
      told_of a.tells_cycles known heard end.ending outcome.ending end.steps outcome.steps t.current outcome.play.session.current
          same.ending same.steps (ap (λ (now : Session). now.current) same.session) told,
    )

abbrev BrokenOf : Option ℕ → ℕ → Start → Option (List ℕ) → Option (List ℕ) → Session → Type 0
BrokenOf until limit s given left now = (input : List ℕ) × (rest : List ℕ) × AreBytesOf given input × AreBytesOf left rest
    × BrokeOff until limit (begun s.session s.written input) now rest

pub failed_to : (a : RunAsked) (known : Option PlacesView) (until : Option ℕ) (s : Start) (t : Session) (streams : Streams) (interrupted : Bool)
    (heard : Heard) (fault : PlayFault) (status : ℕ)
    → s.session.current.bus.out ≡ []
    → BrokenOf until a.steps s streams.given streams.left t
    → FrontWritten s.session t streams.held streams.now
    → status ≡ status_of (refusal_of fault)
    → Tells heard (fault_line (refusal_of fault))
    → RanOrInterrupted a known until s streams interrupted heard status
unfolding RanOrInterrupted
failed_to a known until s t streams interrupted heard fault status silent broke written is told =
    let whole : List ℕ = (played until a.steps (begun s.session s.written broke.0)).play.session.current.bus.out in
    let grows = broke_grows until a.steps (begun s.session s.written broke.0) t broke.1 broke.4 in
    let W : List ℕ → Type 0 = λ text. AppendsFront streams.held streams.now text in
    let text_is : written.0 ≡ t.current.bus.out = sym (ap (λ (out : List ℕ). out ++ written.0) silent) ∙ sym written.1 in
    let front : W whole = subst W (sym grows.1) (front_more streams.held streams.now t.current.bus.out grows.0 (subst W text_is written.2)) in
    inl (Err fault, (broke.0, broke.2, front), is, told)

-- What was written begins what the session has put out, and so what the whole run puts out.
pub interrupted_to : (a : RunAsked) (known : Option PlacesView) (until : Option ℕ) (s : Start) (t : Session) (streams : Streams)
    (interrupted : Bool) (heard : Heard) (status : ℕ)
    → interrupted ≡ true
    → s.session.current.bus.out ≡ []
    → BrokenOf until a.steps s streams.given streams.left t
    → FrontWritten s.session t streams.held streams.now
    → status ≡ 130
    → TellsInterrupted known heard t.current.regs.pc t.current.cycles
    → RanOrInterrupted a known until s streams interrupted heard status
unfolding RanOrInterrupted
interrupted_to a known until s t streams interrupted heard status was silent broke written is told =
    let whole : List ℕ = (played until a.steps (begun s.session s.written broke.0)).play.session.current.bus.out in
    let grows = broke_grows until a.steps (begun s.session s.written broke.0) t broke.1 broke.4 in
    let W : List ℕ → Type 0 = λ text. AppendsFront streams.held streams.now text in
    let text_is : written.0 ≡ t.current.bus.out = sym (ap (λ (out : List ℕ). out ++ written.0) silent) ∙ sym written.1 in
    let front : W t.current.bus.out = subst W text_is written.2 in
    let more : W whole = subst W (sym grows.1) (front_more streams.held streams.now t.current.bus.out grows.0 front) in
    inr (was, (is, (broke.0, t, broke.1, broke.2, broke.3, broke.4, front, more, told)))

-- What was told of the source is told of the assembly.
warned_of : (bus_map : Map) (source assembly : Option AssemblyView) (lost : ℕ) (fill : Option ℕ) (heard : Heard) → source ≡ assembly
    → TellsWarnings bus_map source lost fill heard → TellsWarnings bus_map assembly lost fill heard
warned_of bus_map source assembly lost fill heard same warned = subst (λ (o : Option AssemblyView). TellsWarnings bus_map o lost fill heard) same warned

-- A file that was loaded, and its warnings told.
pub ran_file : (a : RunAsked) (s : Session) (w : List Bool) (assembly source : Option AssemblyView) (fill : Option ℕ) (image : List (Option ℕ))
    (streams : Streams) (interrupted : Bool) (held between now : Option (List ℕ)) (status : ℕ) (Alone : Type 0)
    → IsMachine a.file a.others a.symbols fill image assembly
    → s ≡ new_session 0 (start (map_of a.file) image) → w ≡ bytes_in image → source ≡ assembly
    → (lost : ℕ) → MayLose a.file.profile a.symbols lost → TellsWarnings (map_of a.file) source lost fill (record { held = held; now = between })
    → RanDebugged a assembly w (record { session = s; written = or_everywhere a.is_free w }) streams interrupted
    (record { held = between; now = now }) status Alone
    → IsDone a streams interrupted (record { held = held; now = now }) status Alone
ran_file a s w assembly source fill image streams interrupted held between now status A loaded begins bytes same lost may warned ran =
    let H : Heard = record { held = between; now = now } in
    let at : record { session = s; written = or_everywhere a.is_free w } ≡ start_of a image =
    ap (λ (t : Session). record { session = t; written = or_everywhere a.is_free w }) begins
    ∙ ap (λ (v : List Bool). record { session = new_session 0 (start (map_of a.file) image); written = or_everywhere a.is_free v }) bytes in
    let known = subst (λ (v : List Bool). RanDebugged a assembly v (record { session = s; written = or_everywhere a.is_free w }) streams interrupted
    H status A) bytes ran in
    inr (
      image,
      assembly,
      fill,
      loaded,
      between,
      lost,
      may,
      warned_of (map_of a.file) source assembly lost fill (record { held = held; now = between }) same warned,
      subst (λ (x : Start). RanDebugged a assembly (bytes_in image) x streams interrupted H status A) at known,
    )

-- A place that was found, of which nothing was told, with what is known of the program.
pub ran_found : {E : Type 0} (contents : E → Option (List ℕ)) (a : RunAsked) (s : Session) (w v : List Bool)
    (assembly : Option AssemblyView) (debug asked known : Option PlacesView) (until : Option ℕ)
    (streams : Streams) (interrupted : Bool) (first second middle last : E) (status : ℕ) (Alone : Type 0)
    → AreDebugged a.debug_info s.current w assembly debug
    → TellsChanged a.debug_info (contents first) (contents second) → asked ≡ debug
    → Ok until ≡ place_asked (names_of assembly) asked a.until → middle ≡ second → known ≡ known_by a.file.file assembly debug
    → v ≡ or_everywhere a.is_free w
    → RanOrInterrupted a known until (record { session = s; written = v }) streams interrupted
    (record { held = contents middle; now = contents last }) status
    → RanDebugged a assembly w (record { session = s; written = or_everywhere a.is_free w }) streams interrupted
    (record { held = contents first; now = contents last }) status Alone
ran_found contents a s w v assembly debug asked known until streams interrupted first second middle last status A debugged changed same place quiet names
    counts ran =
    let H : Heard = record { held = contents second; now = contents last } in
    let T : Start = record { session = s; written = or_everywhere a.is_free w } in
    let K = known_by a.file.file assembly debug in
    let heard = subst (λ e. RanOrInterrupted a known until (record { session = s; written = v }) streams interrupted
    (record { held = contents e; now = contents last }) status) quiet ran in
    let told = subst (λ x. RanOrInterrupted a x until (record { session = s; written = v }) streams interrupted H status) names heard in
    let from = subst (λ x. RanOrInterrupted a K until (record { session = s; written = x }) streams interrupted H status) counts told in
    let at = place ∙ ap (λ (d : Option PlacesView). place_asked (names_of assembly) d a.until) same in
    inr (debug, debugged, contents second, changed, subst (λ r. RanIfFound a K debug r T streams interrupted H status A) at from)

-- A place that was not found.
pub ran_unfound : (a : RunAsked) (s : Start) (w : List Bool) (assembly : Option AssemblyView) (debug asked : Option PlacesView)
    (streams : Streams) (interrupted : Bool) (heard : Heard) (between : Option (List ℕ)) (status : ℕ) (Alone : Type 0)
    → AreDebugged a.debug_info s.session.current w assembly debug → TellsChanged a.debug_info heard.held between → asked ≡ debug
    → Err status ≡ place_asked (names_of assembly) asked a.until → Tells (record { held = between; now = heard.now }) (unplaced_line asked a.until) → Alone
    → RanDebugged a assembly w s streams interrupted heard status Alone
ran_unfound a s w assembly debug asked streams interrupted heard between status A debugged changed same place told alone =
    let H : Heard = record { held = between; now = heard.now } in
    let at = place ∙ ap (λ (d : Option PlacesView). place_asked (names_of assembly) d a.until) same in
    let line = subst (λ (d : Option PlacesView). Tells H (unplaced_line d a.until)) same told in
    inr (
      debug,
      debugged,
      between,
      changed,
      subst (λ r. RanIfFound a (known_by a.file.file assembly debug) debug r s streams interrupted H status A) at (refl, line, alone),
    )

-- The status of a place that was not found is not 0.
unplaced : (found : Option ℕ) (status : ℕ) → Err status ≡ or_status found → status ≡ 0 → ⊥
unplaced (Some address) status is zero = cc
unplaced None status is zero = cc

pub unfound_status : (names : Definitions) (debug : Option PlacesView) (word : Option (List ℕ)) (status : ℕ) → Err status ≡ place_asked names debug word
    → status ≡ 0 → ⊥
unfound_status names debug None status is zero = cc
unfound_status names debug (Some word) status is zero = unplaced (place_known names debug word) status is zero
