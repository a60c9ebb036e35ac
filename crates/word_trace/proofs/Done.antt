-- What was done for the words of `trace`, from what was traced.
use Rattle.std.proofs.Common.{◌≡◌, ◌∙◌, ◌++◌, ℕ, Bool, List, [], Option, Result, Ok, Err, inr, refl, sym, ap, subst}
use Rattle.std.specs.Io.KnownBytes.{Appends}
use Rattle.assembler.specs.Assembly.{AssemblyView}
use Rattle.accesses.specs.Writing.{bytes_in}
use Rattle.console.specs.Playing.{Outcome}
use Rattle.console.specs.Written.{AreBytesOf, RanAs}
use Rattle.console.specs.declared.ending.Ending.{Ending}
use Rattle.console.specs.declared.ending.Played.{Played}
use Rattle.arguments.specs.Asked.{map_of}
use Rattle.loading.specs.Machine.{IsMachine}
use Rattle.loading.specs.Named.{MayLose}
use Rattle.loading.specs.Warned.{left_text}
use Rattle.model.specs.Event.{start}
use Rattle.model.specs.Session.{Session, new_session}
use Rattle.model.proofs.Written.{front_more}
use Rattle.model.specs.Writers.{AppendsFront}
use Rattle.arguments.specs.Statuses.{status_of}
use Rattle.arguments.specs.declared.refusal.Refusal.{Refusal}
use Rattle.word_run.specs.Known.{known_by}
use Rattle.loading.specs.Told.{Heard, Tells}
use Rattle.word_run.specs.Runs.{Streams, TellsEnding}
use Rattle.word_run.specs.Statuses.{status_of_ending}
use Rattle.word_run.specs.Told.{unplaced_line}
use Rattle.arguments_play.specs.Trace.{TraceAsked}
use Rattle.source_map.specs.Lines.{PlacesView}
use Rattle.word_trace.specs.Traces.{Begin, CutIn, IsApart, IsDone, IsOfStreams, TracedDebugged, TracedIfFound, TracedTo, WroteFront, WroteNotes, cut_line, has_begun, play_of, reached, trace_noted, traced, unbegun_text}

abbrev TracedAs : TraceAsked → Begin → Option ℕ → Option ℕ → ℕ → Streams → Session → Played → Bool → Type 0
TracedAs a b from to limit streams now end flag = (input : List ℕ) × (rest : List ℕ) × AreBytesOf streams.given input × AreBytesOf streams.left rest
    × RanAs (traced from to limit (play_of a b input)) end now rest
    × WroteNotes a b (λ g. trace_noted from to limit g (play_of a b input)) streams.held streams.now
    × (flag ≡ has_begun (reached from (play_of a b input)).ending)

-- What was told of a run is told of its outcome.
told_of : (known : Option PlacesView) (heard : Heard) (ending why : Ending) (steps count pc at : ℕ) → ending ≡ why
    → steps ≡ count → pc ≡ at → TellsEnding known heard ending steps pc → TellsEnding known heard why count at
told_of known heard ending why steps count pc at e n p told =
    let E : Ending → Type 0 = λ x. TellsEnding known heard x count at in
    let N : ℕ → Type 0 = λ x. TellsEnding known heard ending x at in
    let P : ℕ → Type 0 = λ x. TellsEnding known heard ending steps x in
    subst E e (subst N n (subst P p told))

-- A trace that came to an end, what its program has put out, and what was told of it.
pub traced_to : (a : TraceAsked) (b : Begin) (from to : Option ℕ) (limit : ℕ) (t : Session) (streams : Streams) (heard : Heard)
    (out said : Option (List ℕ)) (end : Played) (flag : Bool) (status : ℕ)
    → limit ≡ a.steps → b.session.current.bus.out ≡ [] → IsApart a b.debug
    → TracedAs a b from to limit streams t end flag
    → ((text : List ℕ) × (t.current.bus.out ≡ b.session.current.bus.out ++ text) × Appends heard.held out text)
    → AppendsFront out said (unbegun_text flag)
    → TellsEnding (known_by a.file.file b.assembly b.debug) (record { held = said; now = heard.now }) end.ending end.steps t.current.regs.pc
    → status ≡ status_of_ending end.ending 0 → TracedTo a b from to streams heard status
traced_to a b from to limit t streams heard out said end flag status long silent apart run put unbegun told is =
    let made = subst (λ n. TracedAs a b from to n streams t end flag) long run in
    let outcome : Outcome = traced from to a.steps (play_of a b made.0) in
    let same : RanAs outcome end t made.1 = made.4 in
    let B : List ℕ → Type 0 = λ bytes. AreBytesOf streams.left bytes in
    let W : List ℕ → Type 0 = λ text. Appends heard.held out text in
    let text_is : put.0 ≡ outcome.play.session.current.bus.out
    = sym (ap (λ (xs : List ℕ). xs ++ put.0) silent) ∙ sym put.1 ∙ ap (λ (now : Session). now.current.bus.out) same.session in
    let begins = subst (λ (b : Bool). AppendsFront out said (unbegun_text b)) made.6 unbegun in
    let tells =
    told_of (known_by a.file.file b.assembly b.debug) (record { held = said; now = heard.now }) end.ending outcome.ending
    end.steps outcome.steps t.current.regs.pc
    outcome.play.session.current.regs.pc same.ending same.steps
    (ap (λ (now : Session). now.current.regs.pc) same.session) told in (
      Ok outcome,
      (made.0, refl, made.2, subst B same.left made.3, made.5, (out, said, subst W text_is put.2, begins, tells), apart),
      is
          ∙ ap (λ (why : Ending). status_of_ending why 0) same.ending,
    )

-- A trace that was cut short.
pub cut_off : (a : TraceAsked) (b : Begin) (from to : Option ℕ) (limit : ℕ) (u : Session) (streams : Streams) (heard : Heard) (out : Option (List ℕ))
    (refusal : Refusal) (status : ℕ)
    → limit ≡ a.steps → b.session.current.bus.out ≡ []
    → IsOfStreams refusal
    → ((input : List ℕ) × AreBytesOf streams.given input × CutIn (traced from to limit (play_of a b input)) u
    × WroteFront a b (λ g. trace_noted from to limit g (play_of a b input)) streams.held streams.now)
    → ((text : List ℕ) × (u.current.bus.out ≡ b.session.current.bus.out ++ text) × AppendsFront heard.held out text)
    → AppendsFront out heard.now (cut_line a.lcov refusal)
    → status ≡ status_of refusal → TracedTo a b from to streams heard status
cut_off a b from to limit u streams heard out refusal status long silent why run put told is =
    let made = subst (λ n. (input : List ℕ) × AreBytesOf streams.given input × CutIn (traced from to n (play_of a b input)) u
    × WroteFront a b (λ g. trace_noted from to n g (play_of a b input)) streams.held streams.now) long run in
    let outcome : Outcome = traced from to a.steps (play_of a b made.0) in
    let W : List ℕ → Type 0 = λ text. AppendsFront heard.held out text in
    let text_is : put.0 ≡ u.current.bus.out = sym (ap (λ (xs : List ℕ). xs ++ put.0) silent) ∙ sym put.1 in
    let front : W outcome.play.session.current.bus.out = subst W (sym made.2.1)
    (front_more heard.held out u.current.bus.out made.2.0 (subst W text_is put.2)) in
    (Err refusal, (why, (made.0, made.1, made.3, (out, front, told))), is)

pub traced_between : (asked : TraceAsked) (begin : Begin) (from to : Option ℕ) (a b : Result (Option ℕ) ℕ) (streams : Streams) (heard : Heard)
    (status : ℕ) (Alone : Type 0)
    → Ok from ≡ a → Ok to ≡ b → TracedTo asked begin from to streams heard status → TracedIfFound asked begin a b streams heard status Alone
traced_between asked begin from to a b streams heard status A is_from is_to done =
    let F : Result (Option ℕ) ℕ → Type 0 = λ r. TracedIfFound asked begin r b streams heard status A in
    let T : Result (Option ℕ) ℕ → Type 0 = λ r. TracedIfFound asked begin (Ok from) r streams heard status A in
    subst F is_from (subst T is_to done)

-- A place that is not found.
pub unfound_from : (asked : TraceAsked) (begin : Begin) (a b : Result (Option ℕ) ℕ) (streams : Streams) (heard : Heard) (status : ℕ) (Alone : Type 0)
    → Err status ≡ a → Tells heard (unplaced_line begin.debug asked.from) → Alone → TracedIfFound asked begin a b streams heard status Alone
unfound_from asked begin a b streams heard status A is told alone =
    let F : Result (Option ℕ) ℕ → Type 0 = λ r. TracedIfFound asked begin r b streams heard status A in subst F is (refl, told, alone)

pub unfound_to : (asked : TraceAsked) (begin : Begin) (from : Option ℕ) (a b : Result (Option ℕ) ℕ) (streams : Streams) (heard : Heard) (status : ℕ)
    (Alone : Type 0)
    → Ok from ≡ a → Err status ≡ b → Tells heard (unplaced_line begin.debug asked.to) → Alone → TracedIfFound asked begin a b streams heard status Alone
unfound_to asked begin from a b streams heard status A is_from is told alone =
    let F : Result (Option ℕ) ℕ → Type 0 = λ r. TracedIfFound asked begin r b streams heard status A in
    let T : Result (Option ℕ) ℕ → Type 0 = λ r. TracedIfFound asked begin (Ok from) r streams heard status A in
    subst F is_from (subst T is (refl, told, alone))

-- What is told of the second place, where nothing was told of the first.
pub told_second : {E : Type 0} (contents : E → Option (List ℕ)) (first middle last : E) (line : List ℕ) → middle ≡ first
    → AppendsFront (contents middle) (contents last) line
    → AppendsFront (contents first) (contents last) line
told_second contents first middle last line quiet told = subst (λ e. AppendsFront (contents e) (contents last) line) quiet told

-- What was traced, where nothing was told before.
pub traced_quiet : {E : Type 0} (contents : E → Option (List ℕ)) (a : TraceAsked) (b : Begin) (from to : Option ℕ) (streams : Streams)
    (first middle : E) (now : Option (List ℕ)) (status : ℕ) → middle ≡ first
    → TracedTo a b from to streams (record { held = contents middle; now = now }) status
    → TracedTo a b from to streams (record { held = contents first; now = now }) status
traced_quiet contents a b from to streams first middle now status same done =
    subst (λ e. TracedTo a b from to streams (record { held = contents e; now = now }) status) same done

-- A file that was loaded.
pub traced_file : (a : TraceAsked) (assembly : Option AssemblyView) (session : Session) (written : List Bool) (fill : Option ℕ)
    (image : List (Option ℕ)) (lost : ℕ) (streams : Streams) (heard : Heard) (between : Option (List ℕ)) (status : ℕ) (Alone : Type 0)
    → IsMachine a.file a.others a.symbols fill image assembly → session ≡ new_session 0 (start (map_of a.file) image) → written ≡ bytes_in image
    → MayLose a.file.profile a.symbols lost → Tells (record { held = heard.held; now = between }) (left_text lost fill)
    → TracedDebugged a assembly session written streams (record { held = between; now = heard.now }) status Alone → IsDone a streams heard status Alone
traced_file a assembly session written fill image lost streams heard between status A loaded begins bytes may told done =
    let H : Heard = record { held = between; now = heard.now } in
    let begun = subst (λ (s : Session). TracedDebugged a assembly s written streams H status A) begins done in
    inr (
      image,
      assembly,
      fill,
      loaded,
      lost,
      may,
      between,
      told,
      subst (λ (w : List Bool). TracedDebugged a assembly (new_session 0 (start (map_of a.file) image)) w streams H status A) bytes begun,
    )
