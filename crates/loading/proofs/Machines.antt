-- Several files that were loaded as one machine, or words that are refused, and their status.
use Rattle.std.proofs.Common.{◌≡◌, ◌≤◌, ◌∙◌, ℕ, false, true, List, [], Option, Some, None, Result, Ok, Err, IfErr, IfOk, arith, ap, refl, sym, subst}
use Rattle.std.specs.Borrow.{Bor}
use Rattle.std.specs.Prelude.{option_map}
use Rattle.accesses.specs.Writing.{bytes_in}
use Rattle.arguments.specs.Asked.{FileAsked, map_of}
use Rattle.arguments.specs.FaultLines.{IsToldOfWords, file_line, image_line, load_text}
use Rattle.arguments.specs.OtherFiles.{Others, others_view}
use Rattle.arguments.specs.Words.{IsStatusOf}
use Rattle.arguments.specs.declared.fault.WordsFault.{WordsFault}
use Rattle.arguments.specs.declared.fault.WordsFault.TheVariants as words_fault
use Rattle.arguments.specs.declared.load_fault.LoadFault.TheVariants.{Refused}
use Rattle.arguments.specs.declared.refusal.Refusal.TheVariants.{OutOfMemory}
use Rattle.arguments.specs.declared.machine_files.OtherFiles.{OtherFiles}
use Rattle.assembler.specs.Assembly.{AssemblyView}
use Rattle.loading.proofs.Starts.{starts_idle, starts_silent}
use Rattle.loading.proofs.Ends.{memory_ends}
use Rattle.loading.proofs.Joins.{memory_runs_out}
use Rattle.loading.proofs.Unnamed.{some_load, some_named, some_refusal, unnamed_by_memory}
use Rattle.loading.specs.Loads.{EndsLoad, IsLoaded}
use Rattle.loading.specs.Machine.{AreLoaded, AreUnloaded, EndsFiles, EndsOf, EndsSeveral, HasNames, IsMachine, IsMachineOf, IsOneOf, IsSparedJoin, IsUnmade, status_of_machine}
use Rattle.loading.specs.Named.{IsNamed}
use Rattle.loading.specs.Told.{Heard}
use Rattle.loading.specs.declared.loaded.Loaded.{Loaded}
use Rattle.loading.specs.declared.machine.FileFault.{FileFault}
use Rattle.loading.specs.declared.machine.MachineFault.{MachineFault}
use Rattle.loading.specs.declared.machine.MachineFault.TheVariants.{Alone, OfFile, OfNames}
use Rattle.model.specs.Event.{start}
use Rattle.model.specs.Session.{Session, new_session}
use Rattle.model.specs.State.{input_waits, is_map}

abbrev Cells : Type 0
Cells = List (Option ℕ)

abbrev Text : Type 0
Text = List ℕ

-- ---- what is loaded

abbrev IsAloneStart : FileAsked → Option Text → Loaded → Type 0
IsAloneStart asked symbols loaded = (image : Cells) × IsNamed asked symbols loaded.fill image loaded.assembly
    × (loaded.session ≡ new_session 0 (start (map_of asked) image)) × (loaded.written ≡ bytes_in image)

abbrev IsSeveralStart : FileAsked → Others → Option Text → Loaded → Type 0
IsSeveralStart asked others symbols loaded = (image : Cells) × (is_map asked.rom asked.port ≡ true) × IsSparedJoin asked others loaded.fill image
    × HasNames asked symbols image loaded.assembly
    × (loaded.session ≡ new_session 0 (start (map_of asked) image)) × (loaded.written ≡ bytes_in image)

abbrev IsMachineStart : FileAsked → Others → Option Text → Loaded → Type 0
IsMachineStart asked others symbols loaded = (image : Cells) × IsMachine asked others symbols loaded.fill image loaded.assembly
    × (loaded.session ≡ new_session 0 (start (map_of asked) image)) × (loaded.written ≡ bytes_in image)

alone_is : (asked : FileAsked) (o : OtherFiles) (symbols : Option Text) (fill : Option ℕ) (image : Cells) (assembly : Option AssemblyView)
    → o.second ≡ None → IsNamed asked symbols fill image assembly
    → IsMachine asked (others_view o) symbols fill image assembly
alone_is asked o symbols fill image assembly none named =
    subst (λ (second : Option (Bor Text)). IsMachineOf (option_map (λ s. s.now) second) asked (others_view o) symbols fill image assembly) (sym none) named

several_are : (asked : FileAsked) (o : OtherFiles) (second : Bor Text) (symbols : Option Text) (fill : Option ℕ) (image : Cells)
    (assembly : Option AssemblyView) → o.second ≡ Some second → is_map asked.rom asked.port ≡ true
    → IsSparedJoin asked (others_view o) fill image → HasNames asked symbols image assembly → IsMachine asked (others_view o) symbols fill image assembly
several_are asked o second symbols fill image assembly some map joined names =
    subst (λ (other : Option (Bor Text)). IsMachineOf (option_map (λ s. s.now) other) asked (others_view o) symbols fill image assembly) (sym some)
    (map, joined, names)

pub alone_started : {E : Type 0} (asked : FileAsked) (o : OtherFiles) (symbols : Option Text) (result : Result Loaded E) → o.second ≡ None
    → IfOk result (IsAloneStart asked symbols)
    → IfOk result (IsMachineStart asked (others_view o) symbols)
alone_started asked o symbols (Ok loaded) none s = (s.0, alone_is asked o symbols loaded.fill s.0 loaded.assembly none s.1, s.2, s.3)
alone_started asked o symbols (Err fault) none s = tt

pub several_started : {E : Type 0} (asked : FileAsked) (o : OtherFiles) (second : Bor Text) (symbols : Option Text) (result : Result Loaded E)
    → o.second ≡ Some second
    → IfOk result (IsSeveralStart asked (others_view o) symbols)
    → IfOk result (IsMachineStart asked (others_view o) symbols)
several_started asked o second symbols (Ok loaded) some s = (s.0, several_are asked o second symbols loaded.fill s.0 loaded.assembly some s.1 s.2 s.3, s.4, s.5)
several_started asked o second symbols (Err fault) some s = tt

pub machine_idle : {E : Type 0} (asked : FileAsked) (others : Others) (symbols : Option Text) (result : Result Loaded E)
    → IfOk result (IsMachineStart asked others symbols)
    → IfOk result (λ loaded. input_waits loaded.session.current.bus ≡ false)
machine_idle asked others symbols (Ok loaded) s = ap (λ (t : Session). input_waits t.current.bus) s.2 ∙ starts_idle _ s.0
machine_idle asked others symbols (Err fault) s = tt

pub machine_silent : {E : Type 0} (asked : FileAsked) (others : Others) (symbols : Option Text) (result : Result Loaded E)
    → IfOk result (IsMachineStart asked others symbols)
    → IfOk result (λ loaded. loaded.session.current.bus.out ≡ [])
machine_silent asked others symbols (Ok loaded) s = ap (λ (t : Session). t.current.bus.out) s.2 ∙ starts_silent _ s.0
machine_silent asked others symbols (Err fault) s = tt

-- ---- words that are refused

memory_of : (second : Option Text) (asked : FileAsked) (others : Others) → EndsOf second asked others (Refused OutOfMemory)
memory_of None asked others = memory_ends asked
memory_of (Some second) asked others = memory_runs_out asked others OutOfMemory (Refused OutOfMemory) refl refl

pub one_of : (second : Option Text) (asked : FileAsked) → IsOneOf second asked asked.file
one_of None asked = refl
one_of (Some second) asked = tt

pub memory_files : (asked : FileAsked) (others : Others) → EndsFiles asked others (Refused OutOfMemory)
memory_files asked others = memory_of others.second asked others

pub unmade_by_memory : (file : FileAsked) (others : Others) (symbols : Option Text) (heard : Heard) (fault : WordsFault) (status : ℕ)
    (Unread Unwritten : Type 0) → fault ≡ words_fault.OutOfMemory
    → IsStatusOf fault status → IsToldOfWords fault status heard.held heard.now → Unread → (1 ≤ status → status ≤ 3 → Unwritten)
    → IsUnmade file others symbols heard status (Unread × Unwritten)
unmade_by_memory file others symbols heard fault status Unread Unwritten memory is told unread unwritten =
    let un = unnamed_by_memory file symbols heard fault status Unread Unwritten memory is told unread unwritten in
    (Alone un.0, un.1, un.2, un.3, un.4)

-- The same of words without a file of names.
pub unloaded_files_by_memory : (file : FileAsked) (others : Others) (heard : Heard) (fault : WordsFault) (status : ℕ) (Unread Unwritten : Type 0)
    → fault ≡ words_fault.OutOfMemory
    → IsStatusOf fault status → IsToldOfWords fault status heard.held heard.now → Unread → (1 ≤ status → status ≤ 3 → Unwritten)
    → AreUnloaded file others heard status (Unread × Unwritten)
unfolding load_text image_line file_line
unloaded_files_by_memory file others heard fault status Unread Unwritten memory is told unread unwritten =
    let three : status ≡ 3 = subst (λ f. IsStatusOf f status) memory is in
    let line = subst (λ f. IsToldOfWords f status heard.held heard.now) memory told in (
      file.file,
      Refused OutOfMemory,
      one_of others.second file,
      memory_files file others,
      three,
      line,
      (unread, unwritten (omega (arith, three)) (omega (arith, three))),
    )

-- ---- each has a status

some_machine : (f : MachineFault) → 1 ≤ status_of_machine f
some_machine (Alone fault) = some_named fault
some_machine (OfFile file) = some_load file.fault
some_machine (OfNames fault) = some_refusal fault

pub never_made : (f : MachineFault) (status : ℕ) → status ≡ status_of_machine f → status ≡ 0 → ⊥
never_made f status is zero = omega (arith, is, zero, some_machine f)

-- ---- files that are loaded into a session with some history, and why they are not

alone_loaded : (asked : FileAsked) (o : OtherFiles) (fill : Option ℕ) (image : Cells) (assembly : Option AssemblyView) → o.second ≡ None
    → IsLoaded asked fill image assembly → AreLoaded asked (others_view o) fill image assembly
alone_loaded asked o fill image assembly none loaded = alone_is asked o None fill image assembly none loaded

pub alone_begun : {E : Type 0} (asked : FileAsked) (o : OtherFiles) (A B : Cells → Loaded → Type 0) (result : Result Loaded E) → o.second ≡ None
    → IfOk result (λ loaded. (image : Cells) × IsLoaded asked loaded.fill image loaded.assembly × A image loaded × B image loaded)
    → IfOk result (λ loaded. (image : Cells) × AreLoaded asked (others_view o) loaded.fill image loaded.assembly × A image loaded × B image loaded)
alone_begun asked o A B (Ok loaded) none s = (s.0, alone_loaded asked o loaded.fill s.0 loaded.assembly none s.1, s.2, s.3)
alone_begun asked o A B (Err fault) none s = tt

pub several_begun : {E : Type 0} (asked : FileAsked) (o : OtherFiles) (second : Bor Text) (A B : Cells → Loaded → Type 0) (result : Result Loaded E)
    → o.second ≡ Some second
    → IfOk result (λ loaded. (image : Cells) × (is_map asked.rom asked.port ≡ true) × IsSparedJoin asked (others_view o) loaded.fill image
    × HasNames asked None image loaded.assembly × A image loaded × B image loaded)
    → IfOk result (λ loaded. (image : Cells) × AreLoaded asked (others_view o) loaded.fill image loaded.assembly × A image loaded × B image loaded)
several_begun asked o second A B (Ok loaded) some s = (s.0, several_are asked o second None loaded.fill s.0 loaded.assembly some s.1 s.2 s.3, s.4, s.5)
several_begun asked o second A B (Err fault) some s = tt

pub alone_ends : {X : Type 0} (asked : FileAsked) (o : OtherFiles) (result : Result X FileFault) → o.second ≡ None
    → IfErr result (λ f. EndsLoad asked f.fault) → IfErr result (λ f. EndsFiles asked (others_view o) f.fault)
alone_ends asked o (Ok x) none ends = tt
alone_ends asked o (Err f) none ends = subst (λ (second : Option (Bor Text)). EndsOf (option_map (λ s. s.now) second) asked (others_view o) f.fault)
    (sym none) ends

pub several_ends : {X : Type 0} (asked : FileAsked) (o : OtherFiles) (second : Bor Text) (result : Result X FileFault) → o.second ≡ Some second
    → IfErr result (λ f. EndsSeveral asked (others_view o) f.fault)
    → IfErr result (λ f. EndsFiles asked (others_view o) f.fault)
several_ends asked o second (Ok x) some ends = tt
several_ends asked o second (Err f) some ends = subst (λ (other : Option (Bor Text)).
    EndsOf (option_map (λ s. s.now) other) asked (others_view o) f.fault) (sym some) ends

pub alone_named : {X : Type 0} (asked : FileAsked) (o : OtherFiles) (result : Result X FileFault) → o.second ≡ None
    → IfErr result (λ f. f.file.now ≡ asked.file)
    → IfErr result (λ f. IsOneOf (others_view o).second asked f.file.now)
alone_named asked o (Ok x) none named = tt
alone_named asked o (Err f) none named = subst (λ (second : Option (Bor Text)). IsOneOf (option_map (λ s. s.now) second) asked f.file.now) (sym none) named

pub several_named : {X : Type 0} (asked : FileAsked) (o : OtherFiles) (second : Bor Text) (result : Result X FileFault) → o.second ≡ Some second
    → IfErr result (λ f. IsOneOf (others_view o).second asked f.file.now)
several_named asked o second (Ok x) some = tt
several_named asked o second (Err f) some = subst (λ (other : Option (Bor Text)). IsOneOf (option_map (λ s. s.now) other) asked f.file.now) (sym some) tt
