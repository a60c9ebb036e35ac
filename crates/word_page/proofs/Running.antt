-- What is known of a run that a page shows, and of a file that was loaded.
use Rattle.std.proofs.Common.{◌≡◌, ◌∙◌, ℕ, Bool, List, Option, None, Result, Ok, Err, refl, sym, ap, subst, inl, inr}
use Rattle.accesses.specs.Writing.{bytes_in}
use Rattle.arguments.specs.Asked.{map_of}
use Rattle.assembler.specs.Assembly.{AssemblyView}
use Rattle.console.specs.Playing.{Outcome, begun, played}
use Rattle.console.specs.declared.ending.Ending.{Ending}
use Rattle.console.specs.declared.ending.Played.{Played}
use Rattle.debug_files.specs.Changed.{TellsChanged}
use Rattle.loading.specs.Loads.{IsLoaded}
use Rattle.loading.specs.Named.{MayLose}
use Rattle.loading.specs.Place.{names_of}
use Rattle.loading.specs.Warned.{left_text}
use Rattle.loading.specs.Told.{Heard, Tells}
use Rattle.model.specs.Event.{start}
use Rattle.model.specs.Session.{Session, new_session}
use Rattle.word_page.specs.Asked.{PageAsked}
use Rattle.source_map.specs.Lines.{PlacesView}
use Rattle.word_page.specs.Done.{AreNamed, IsApart, IsDone, IsInput, IsRefused, IsShown, Ran, ShownIfDebugged, ShownIfFound, ShownIfNamed, place_in, start_in, start_of}
use Rattle.word_run.specs.Known.{AreDebugged, known_by}
use Rattle.word_run.specs.Runs.{Start, TellsEnding}
use Rattle.word_run.specs.Statuses.{status_of_ending}
use Rattle.word_run.specs.Told.{unplaced_line}

-- What was told of what is known and of an address, said otherwise.
pub told_at : (one other : Option PlacesView) (heard : Heard) (why : Ending) (steps pc at : ℕ) → one ≡ other → pc ≡ at
    → TellsEnding one heard why steps pc → TellsEnding other heard why steps at
told_at one other heard why steps pc at same there told =
    subst (λ (n : ℕ). TellsEnding other heard why steps n) there
    (subst (λ (k : Option PlacesView). TellsEnding k heard why steps pc) same told)

-- What was told of a run is told of the definition's.
pub shown : (a : PageAsked) (debug known : Option PlacesView) (until : Option ℕ) (s : Start) (t : Session) (heard : Heard) (end : Played) (status : ℕ)
    (input : List ℕ) → IsInput a.input input → IsApart a debug → Ran until a.steps s input end t
    → status ≡ status_of_ending end.ending 0 → TellsEnding known heard end.ending end.steps t.current.regs.pc
    → IsShown a debug known until s heard status
shown a debug known until s t heard end status input is apart ran ended told =
    let outcome : Outcome = played until a.steps (begun s.session s.written input) in
    let same = ran.1 in
    let E : Ending → Type 0 = λ x. TellsEnding known heard x end.steps t.current.regs.pc in
    let N : ℕ → Type 0 = λ x. TellsEnding known heard outcome.ending x t.current.regs.pc in
    let S : Session → Type 0 = λ x. TellsEnding known heard outcome.ending outcome.steps x.current.regs.pc in
    let at = subst S same.session (subst N same.steps (subst E same.ending told)) in
    inr (input, is, apart, (ended ∙ ap (λ (why : Ending). status_of_ending why 0) same.ending, at))

-- A place that was not found.
pub unfound : (a : PageAsked) (assembly names told : Option AssemblyView) (w : List Bool) (s : Start) (debug asked : Option PlacesView) (heard : Heard)
    (between : Option (List ℕ)) (status : ℕ) → AreDebugged a.debug_info s.session.current w assembly debug
    → TellsChanged a.debug_info heard.held between → told ≡ names → asked ≡ debug
    → Err status ≡ place_in (names_of assembly) (names_of told) asked a.until
    → Tells (record { held = between; now = heard.now }) (unplaced_line asked a.until)
    → ShownIfDebugged a assembly names w s heard status
unfound a assembly names told w s debug asked heard between status debugged changed same known is line =
    let H : Heard = record { held = between; now = heard.now } in
    let place : Err status ≡ place_in (names_of assembly) (names_of names) asked a.until =
    is ∙ ap (λ (n : Option AssemblyView). place_in (names_of assembly) (names_of n) asked a.until) same in
    let at : Err status ≡ place_in (names_of assembly) (names_of names) debug a.until =
    place ∙ ap (λ (d : Option PlacesView). place_in (names_of assembly) (names_of names) d a.until) known in
    let tells = subst (λ (d : Option PlacesView). Tells H (unplaced_line d a.until)) known line in
    inr (
      debug,
      debugged,
      between,
      changed,
      subst (λ (r : Result (Option ℕ) ℕ). ShownIfFound a (known_by a.file.file assembly debug) debug r s H status) at (refl, tells),
    )

-- A place that was found, of which nothing was told.
pub found : {E : Type 0} (contents : E → Option (List ℕ)) (a : PageAsked) (assembly names told : Option AssemblyView) (w : List Bool) (s : Start)
    (debug asked known : Option PlacesView) (until : Option ℕ) (first second middle last : E) (status : ℕ)
    → AreDebugged a.debug_info s.session.current w assembly debug → TellsChanged a.debug_info (contents first) (contents second) → told ≡ names
    → asked ≡ debug → Ok until ≡ place_in (names_of assembly) (names_of told) asked a.until → middle ≡ second
    → known ≡ known_by a.file.file assembly debug
    → IsShown a debug known until s (record { held = contents middle; now = contents last }) status
    → ShownIfDebugged a assembly names w s (record { held = contents first; now = contents last }) status
found contents a assembly names told w s debug asked known until first second middle last status debugged changed same by_debug is quiet knows shown =
    let H : Heard = record { held = contents second; now = contents last } in
    let place : Ok until ≡ place_in (names_of assembly) (names_of names) asked a.until =
    is ∙ ap (λ (n : Option AssemblyView). place_in (names_of assembly) (names_of n) asked a.until) same in
    let at : Ok until ≡ place_in (names_of assembly) (names_of names) debug a.until =
    place ∙ ap (λ (d : Option PlacesView). place_in (names_of assembly) (names_of names) d a.until) by_debug in
    let heard = subst (λ e. IsShown a debug known until s (record { held = contents e; now = contents last }) status) quiet shown in
    let by = subst (λ (k : Option PlacesView). IsShown a debug k until s H status) knows heard in
    inr (
      debug,
      debugged,
      contents second,
      changed,
      subst (λ (r : Result (Option ℕ) ℕ). ShownIfFound a (known_by a.file.file assembly debug) debug r s H status) at by,
    )

-- A file that was loaded.
done_by : (a : PageAsked) (s : Session) (w : List Bool) (assembly : Option AssemblyView) (fill : Option ℕ) (image : List (Option ℕ)) (heard : Heard)
    (status : ℕ) → IsLoaded a.file fill image assembly
    → s ≡ new_session 0 (start (map_of a.file) image) → w ≡ bytes_in image
    → ShownIfNamed a assembly fill w (start_in a.is_free s w) heard status → IsDone a heard status
done_by a s w assembly fill image heard status loaded begins bytes ran =
    let at : start_in a.is_free s w ≡ start_of a image =
    ap (λ (t : Session). start_in a.is_free t w) begins ∙ ap (λ (v : List Bool). start_in a.is_free (new_session 0 (start (map_of a.file) image)) v) bytes in
    let counted = subst (λ (v : List Bool). ShownIfNamed a assembly fill v (start_in a.is_free s w) heard status) bytes ran in
    inr (image, assembly, fill, loaded, subst (λ (x : Start). ShownIfNamed a assembly fill (bytes_in image) x heard status) at counted)

-- A file that was loaded, and names that were not read.
pub done_unnamed : (a : PageAsked) (s : Session) (w : List Bool) (assembly : Option AssemblyView) (fill : Option ℕ) (image : List (Option ℕ))
    (heard : Heard) (status : ℕ) → IsLoaded a.file fill image assembly
    → s ≡ new_session 0 (start (map_of a.file) image) → w ≡ bytes_in image
    → IsRefused heard status → IsDone a heard status
done_unnamed a s w assembly fill image heard status loaded begins bytes refused =
    done_by a s w assembly fill image heard status loaded begins bytes (inl refused)

-- A file that was loaded, and names that were read.
pub done_named : (a : PageAsked) (s : Session) (w : List Bool) (assembly names told : Option AssemblyView) (fill : Option ℕ) (image : List (Option ℕ))
    (lost : ℕ) (heard : Heard) (between : Option (List ℕ)) (status : ℕ) → IsLoaded a.file fill image assembly
    → s ≡ new_session 0 (start (map_of a.file) image) → w ≡ bytes_in image
    → AreNamed a.symbols a.file names → MayLose a.file.profile a.symbols lost → Tells (record { held = heard.held; now = between }) (left_text lost fill)
    → told ≡ names
    → ShownIfDebugged a assembly told w (start_in a.is_free s w) (record { held = between; now = heard.now }) status → IsDone a heard status
done_named a s w assembly names told fill image lost heard between status loaded begins bytes named may left same shown =
    let S : Start = start_in a.is_free s w in
    let H : Heard = record { held = between; now = heard.now } in
    done_by a s w assembly fill image heard status loaded begins bytes
    (inr (
      names,
      named,
      lost,
      may,
      between,
      left,
      subst (λ (n : Option AssemblyView). ShownIfDebugged a assembly n w S H status) same shown,
    ))
