-- What a part's answer makes of the program's.
use Rattle.std.proofs.Common.{◌≡◌, ◌∙◌, ℕ, Bool, true, List, Option, None, Some, IfSome, Result, Ok, Err, IfErr, MatchResult, ◌⊎◌, inl, inr, refl, sym, ap, subst}
use Rattle.std.specs.Io.KnownBytes.{Appends, IsAtEnd}
use Rattle.std.specs.Prelude.{OnErr}
use Rattle.std.specs.Result.{IsErrAnd}
use Rattle.assembler.specs.Assembly.{out_of_memory}
use Rattle.engine.specs.Outcome.{Reaches, Serves}
use Rattle.arguments.specs.Refusals.{of_source, of_source_kind, of_tape_kind, of_tape_read}
use Rattle.engine.specs.Refusals.{IfSession, IfSource, IfTape}
use Rattle.engine.specs.TapeReads.{ReachesFrom}
use Rattle.engine.specs.declared.fault.EngineFault.{EngineFault}
use Rattle.engine.specs.declared.fault.EngineFault.TheVariants as engine_fault
use Rattle.model.specs.Disassembly.{rows_in}
use Rattle.model.specs.Event.{start}
use Rattle.model.specs.Session.{new_session}
use Rattle.model.specs.Source.{HasFault}
use Rattle.model.specs.State.{Map, has_port_byte, memory_of}
use Rattle.model.specs.TapePieces.{IsReadInPieces, IsRefusedInPieces}
use Rattle.model.specs.TapeFault.{out_of_memory as tape_out_of_memory}
use Rattle.model.specs.Writers.{AppendsFront, Writes}
use Rattle.model.specs.declared.instruction.Profile.{Profile}
use Rattle.model.specs.declared.session_fault.SessionFault.TheVariants.{PortAddress}
use Rattle.model.specs.declared.tape.TapeFault.{TapeFault}
use Rattle.model.specs.declared.tape.TapeFaultKind.{TapeFaultKind}
use Rattle.model.specs.declared.tape.TapeFaultKind.TheVariants as tape_fault
use Rattle.model.specs.declared.source_fault.AsmFault.{AsmFault}
use Rattle.model.specs.declared.source_fault.AsmFaultKind.{AsmFaultKind}
use Rattle.model.specs.declared.source_fault.AsmFaultKind.TheVariants as source_fault
use Rattle.papertape.specs.Streaming.{EndsReading, IsImageOf, IsRefusalOf, Reads, Shows}
use Rattle.papertape.specs.declared.stream.TapeReadFault.{TapeReadFault}
use Rattle.papertape.specs.declared.stream.TapeReadFault.TheVariants as tape_read_fault
use Rattle.program.specs.Refusals.{EndsAsm, EndsDebug, EndsDis, of_engine}
use Rattle.program.specs.Streams.{IsListed, IsServed}
use Rattle.program.specs.Texts.{ReadsText, ShowsText}
use Rattle.arguments.specs.declared.refusal.Refusal.{Refusal}
use Rattle.arguments.specs.declared.refusal.Refusal.TheVariants.{OutOfMemory, Source, Tape, Write}

-- ---- a source that was refused

abbrev pub failed : (X E : Type 0) → E → Result X E
failed X E fault = Err fault

abbrev fault_or : {A E : Type 0} → E → Result A E → E
fault_or d (Ok a) = d
fault_or d (Err fault) = fault

pub only_memory : {X : Type 0} (result : Result X AsmFault) (f : AsmFault) (P : X → Type 0) → IsErrAnd result (λ e. e ≡ f) → f ≡ out_of_memory
    → MatchResult result P (λ e. e ≡ out_of_memory)
only_memory (Ok x) f P h memory = absurd h
only_memory (Err e) f P h memory = h ∙ memory

-- The same fault is answered by a call with another value.
pub same_fault : (A X E : Type 0) (result : Result X E) (e f m : E) → IsErrAnd result (λ x. x ≡ e)
    → (failed A E e ≡ failed A E f) ⊎ (failed A E e ≡ failed A E m) → (result ≡ Err f) ⊎ (result ≡ Err m)
same_fault A X E (Ok x) e f m h either = absurd h
same_fault A X E (Err x) e f m h (inl same) = inl (ap Err (h ∙ ap (fault_or e) same))
same_fault A X E (Err x) e f m h (inr same) = inr (ap Err (h ∙ ap (fault_or e) same))

pub not_refused : {A E : Type 0} (a : A) (f g : E) → (Ok a ≡ Err f) ⊎ (Ok a ≡ Err g) → ⊥
not_refused a f g (inl e) = absurd cc
not_refused a f g (inr e) = absurd cc

either : (kind : AsmFaultKind) (f : AsmFault) → (of_source_kind kind f ≡ Source f) ⊎ (of_source_kind kind f ≡ OutOfMemory)
either source_fault.OutOfMemory f = inr refl
either _ f = inl refl

pub ends_asm : {X : Type 0} (result : Result X Refusal) (map wanted : Map) (source : List ℕ) (f : AsmFault) → IsErrAnd result (λ e. e ≡ of_source f)
    → map ≡ wanted
    → (f ≡ out_of_memory) ⊎ HasFault map source f → IfErr result (EndsAsm wanted)
ends_asm (Ok x) map wanted source f h same why = absurd h
ends_asm (Err e) map wanted source f h same (inl memory) = subst (EndsAsm wanted) (sym (h ∙ ap of_source memory)) tt
ends_asm (Err e) map wanted source f h same (inr fault) = elim (either f.kind f) [
  | inl s ↦ subst (EndsAsm wanted) (sym (h ∙ s)) (source, subst (λ m. HasFault m source f) same fault)
  | inr m ↦ subst (EndsAsm wanted) (sym (h ∙ m)) tt
]

-- ---- a tape that was listed, or was not

tape_either : (kind : TapeFaultKind) (f : TapeFault) → (of_tape_kind kind f ≡ Tape f) ⊎ (of_tape_kind kind f ≡ OutOfMemory)
tape_either tape_fault.OutOfMemory f = inr refl
tape_either _ f = inl refl

abbrev Image : Type 0
Image = List (Option ℕ)

abbrev ReadAnswer : Type 0
ReadAnswer = Result Image TapeReadFault

abbrev read_ok : Image → ReadAnswer
read_ok image = Ok image

abbrev read_err : TapeReadFault → ReadAnswer
read_err f = Err f

abbrev image_in : Image → ReadAnswer → Image
image_in d (Ok image) = image
image_in d (Err f) = d

-- the answer is this one, unless a read failed or memory ran out
abbrev Is : {X : Type 0} → Result X TapeReadFault → Result X TapeReadFault → Type 0
Is answer wanted = (answer ≡ wanted) ⊎ ((answer ≡ Err tape_read_fault.Read) ⊎ (answer ≡ Err (tape_read_fault.Tape tape_out_of_memory)))

pub with_known : (a : Option (List ℕ)) (P Q : List ℕ → Type 0) → IfSome a P → ((text : List ℕ) → P text → Q text) → IfSome a Q
with_known None P Q h f = tt
with_known (Some x) P Q h f = f x h

same_image : (image cells : Image) → Is (read_ok image) (read_ok cells) → image ≡ cells
same_image image cells (inl e) = ap (image_in image) e
same_image image cells (inr (inl e)) = absurd cc
same_image image cells (inr (inr e)) = absurd cc

no_fault : (image : Image) (f : TapeReadFault) → Is (read_ok image) (read_err f) → ⊥
no_fault image f (inl e) = absurd cc
no_fault image f (inr (inl e)) = absurd cc
no_fault image f (inr (inr e)) = absurd cc

-- what holds of the image that was read holds of each that a known text has
pub each_image : (a : Option (List ℕ)) (image : Image) (P : Image → Type 0)
    → IfSome a (λ text. (cells : Image) → IsReadInPieces text cells → Is (read_ok image) (read_ok cells)) → P image
    → IfSome a (λ text. (cells : Image) → IsReadInPieces text cells → P cells)
each_image a image P only p =
    with_known a (λ text. (cells : Image) → IsReadInPieces text cells → Is (read_ok image) (read_ok cells))
    (λ text. (cells : Image) → IsReadInPieces text cells → P cells) only
    (λ text o cells r. subst P (same_image image cells (o cells r)) p)

-- a text whose image was read has no fault
pub each_fault : (a : Option (List ℕ)) (image : Image) (P : TapeFault → Type 0)
    → IfSome a (λ text. (fault : TapeFault) → IsRefusedInPieces text fault → Is (read_ok image) (read_err (tape_read_fault.Tape fault)))
    → IfSome a (λ text. (fault : TapeFault) → IsRefusedInPieces text fault → P fault)
each_fault a image P only =
    with_known a (λ text. (fault : TapeFault) → IsRefusedInPieces text fault → Is (read_ok image) (read_err (tape_read_fault.Tape fault)))
    (λ text. (fault : TapeFault) → IsRefusedInPieces text fault → P fault) only
    (λ text o fault r. absurd (no_fault image (tape_read_fault.Tape fault) (o fault r)))

abbrev IsUnread : TapeReadFault → Type 0
IsUnread f = (f ≡ tape_read_fault.Read) ⊎ (f ≡ tape_read_fault.Tape tape_out_of_memory)

unread : (f : TapeReadFault) (cells : Image) → Is (read_err f) (read_ok cells) → IsUnread f
unread f cells (inl e) = absurd cc
unread f cells (inr (inl e)) = inl (ap (fault_or f) e)
unread f cells (inr (inr e)) = inr (ap (fault_or f) e)

answer_unread : {X : Type 0} (result : Result X TapeReadFault) (f : TapeReadFault) (P : X → Type 0) → IsErrAnd result (λ e. e ≡ f) → IsUnread f
    → MatchResult result P IsUnread
answer_unread (Ok x) f P h why = absurd h
answer_unread (Err e) f P h why = subst IsUnread (sym h) why

-- a text that has an image was not read
pub each_unread : {X : Type 0} (a : Option (List ℕ)) (result : Result X TapeReadFault) (f : TapeReadFault) (P : Image → X → Type 0)
    → IsErrAnd result (λ e. e ≡ f)
    → IfSome a (λ text. (cells : Image) → IsReadInPieces text cells → Is (read_err f) (read_ok cells))
    → IfSome a (λ text. (cells : Image) → IsReadInPieces text cells → MatchResult result (P cells) IsUnread)
each_unread a result f P h only =
    with_known a (λ text. (cells : Image) → IsReadInPieces text cells → Is (read_err f) (read_ok cells))
    (λ text. (cells : Image) → IsReadInPieces text cells → MatchResult result (P cells) IsUnread) only
    (λ text o cells r. answer_unread result f (P cells) h (unread f cells (o cells r)))

same_answer : {X : Type 0} (result : Result X TapeReadFault) (f g : TapeReadFault) → IsErrAnd result (λ e. e ≡ f) → Is (read_err f) (read_err g)
    → Is result (Err g)
same_answer (Ok x) f g h either = absurd h
same_answer (Err e) f g h (inl same) = inl (ap Err (h ∙ ap (fault_or f) same))
same_answer (Err e) f g h (inr (inl same)) = inr (inl (ap Err (h ∙ ap (fault_or f) same)))
same_answer (Err e) f g h (inr (inr same)) = inr (inr (ap Err (h ∙ ap (fault_or f) same)))

-- the same fault is answered by a call with another value
pub each_refused : {X : Type 0} (a : Option (List ℕ)) (result : Result X TapeReadFault) (f : TapeReadFault) → IsErrAnd result (λ e. e ≡ f)
    → IfSome a (λ text. (fault : TapeFault) → IsRefusedInPieces text fault → Is (read_err f) (read_err (tape_read_fault.Tape fault)))
    → IfSome a (λ text. (fault : TapeFault) → IsRefusedInPieces text fault → Is result (Err (tape_read_fault.Tape fault)))
each_refused a result f h only =
    with_known a (λ text. (fault : TapeFault) → IsRefusedInPieces text fault → Is (read_err f) (read_err (tape_read_fault.Tape fault)))
    (λ text. (fault : TapeFault) → IsRefusedInPieces text fault → Is result (Err (tape_read_fault.Tape fault))) only
    (λ text o fault r. same_answer result f (tape_read_fault.Tape fault) h (o fault r))

-- where memory ran out, no text was read
pub all_unread : (a : Option (List ℕ)) → IfSome a (λ text. (cells : Image) → IsReadInPieces text cells → IsUnread (tape_read_fault.Tape tape_out_of_memory))
all_unread None = tt
all_unread (Some text) = λ cells r. inr refl

pub all_unrefused : (X : Type 0) (a : Option (List ℕ)) → IfSome a
    (λ text. (fault : TapeFault) → IsRefusedInPieces text fault → Is {X = X} (Err (tape_read_fault.Tape tape_out_of_memory)) (Err (tape_read_fault.Tape fault)))
all_unrefused X None = tt
all_unrefused X (Some text) = λ fault r. inr (inr refl)

-- What was consumed where no image was read.
shows_fault : (X : Type 0) (told : List ℕ) (AtEnd : Type 0) (f : TapeReadFault) → Shows told AtEnd (read_err f)
    → ShowsText told AtEnd (failed X TapeReadFault f)
shows_fault X told AtEnd tape_read_fault.Read h = h
shows_fault X told AtEnd (tape_read_fault.Tape g) (inl memory) = inl (memory.0, inr memory.1)
shows_fault X told AtEnd (tape_read_fault.Tape g) (inr fault) = inr fault

pub reads_fault : (X : Type 0) (result : Result X TapeReadFault) (f : TapeReadFault) (before now : Option (List ℕ)) → IsErrAnd result (λ e. e ≡ f)
    → Reads before now (read_err f) → ReadsText before now result
reads_fault X (Ok x) f before now h reads = absurd h
reads_fault X (Err e) f before now h (told, c, shows) = (
  told,
  c,
  subst (λ r. ShowsText told (IsAtEnd now) (failed X TapeReadFault r)) (sym h)
      (shows_fault X told (IsAtEnd now) f shows),
)

-- What was consumed where an image was read.
pub reads_text : (image : Image) (before now : Option (List ℕ)) → Reads before now (read_ok image) → ReadsText before now (read_ok image)
reads_text image before now (told, c, shows) = (told, c, (shows.0, (image, shows.1)))

-- What was consumed where memory ran out after that.
pub reads_memory : (image : Image) (before now : Option (List ℕ)) → Reads before now (read_ok image)
    → ReadsText before now (read_err (tape_read_fault.Tape tape_out_of_memory))
reads_memory image before now (told, c, shows) = (told, c, inl (refl, inl (shows.0, (image, shows.1))))

dis_refusal : (a : Option (List ℕ)) (f : TapeReadFault) → EndsReading a f → EndsDis (of_tape_read f)
dis_refusal a tape_read_fault.Read h = tt
dis_refusal a (tape_read_fault.Tape g) (inl memory) = subst EndsDis (sym (ap (λ (x : TapeFault). of_tape_kind x.kind x) memory)) tt
dis_refusal a (tape_read_fault.Tape g) (inr refused) = elim (tape_either g.kind g) [
  | inl s ↦ subst EndsDis (sym s) (refused.0, refused.2)
  | inr m ↦ subst EndsDis (sym m) tt
]

pub ends_dis : {X : Type 0} (result : Result X Refusal) (a : Option (List ℕ)) (f : TapeReadFault) → IsErrAnd result (λ e. e ≡ of_tape_read f)
    → EndsReading a f → IfErr result EndsDis
ends_dis (Ok x) a f h why = absurd h
ends_dis (Err e) a f h why = subst EndsDis (sym h) (dis_refusal a f why)

-- Nothing was listed.
pub none_listed : (result : Result (Unit {0}) Refusal) (profile : Profile) (first last : ℕ) (held now : Option (List ℕ)) (Alone : Type 0) (f : TapeReadFault)
    → IsErrAnd result (λ e. e ≡ of_tape_read f) → Alone → IsListed profile first last held now result Alone
none_listed (Ok x) profile first last held now Alone f h alone = absurd h
none_listed (Err e) profile first last held now Alone tape_read_fault.Read h alone =
    subst (λ r. IsListed profile first last held now (Err r) Alone) (sym h) alone
none_listed (Err e) profile first last held now Alone (tape_read_fault.Tape g) h alone = elim (tape_either g.kind g) [
  | inl s ↦ subst (λ r. IsListed profile first last held now (Err r) Alone) (sym (h ∙ s)) alone
  | inr m ↦ subst (λ r. IsListed profile first last held now (Err r) Alone) (sym (h ∙ m)) alone
]

abbrev refusal_in : Refusal → Result (Unit {0}) Refusal → Refusal
refusal_in d (Ok x) = d
refusal_in d (Err e) = e

pub listed_of : (result : Result (Unit {0}) Refusal) (profile : Profile) (first last : ℕ) (held now : Option (List ℕ)) (Alone : Type 0)
    (image : Image) (text : List ℕ)
    → text ≡ rows_in profile (memory_of image) last first 65536 → Writes held now text result → OnErr result (result ≡ Err Write)
    → IsListed profile first last held now result Alone
listed_of (Ok x) profile first last held now Alone image text e writes only = (image, subst (Appends held now) e writes)
listed_of (Err r) profile first last held now Alone image text e writes only =
    subst (λ q. IsListed profile first last held now (Err q) Alone) (sym (ap (refusal_in r) only)) (image, subst (AppendsFront held now) e writes)

pub ends_write : (result : Result (Unit {0}) Refusal) → OnErr result (result ≡ Err Write) → IfErr result EndsDis
ends_write (Ok x) only = tt
ends_write (Err r) only = subst EndsDis (sym (ap (refusal_in r) only)) tt

-- ---- a session that was served, or was not

-- Whatever says which images a file stands for.
pub served_of : (map : Map) (history : ℕ) (input left held now : Option (List ℕ)) (Alone : Type 0) (Denoted : List (Option ℕ) → Type 0)
    (answer : Result (Unit {0}) EngineFault) (outcome : Result (Unit {0}) Refusal)
    → ((image : List (Option ℕ)) → Denoted image → Serves (new_session history (start map image)) input left held now answer)
    → Reaches answer ((image : List (Option ℕ)) × Denoted image) Alone
    → MatchResult answer (λ _. outcome ≡ Ok tt) (λ fault. outcome ≡ Err (of_engine fault))
    → IsServed map history input left held now outcome Alone
served_of m h i l e n A D (Ok x) o serves reaches same = subst (λ r. IsServed m h i l e n r A) (sym same) (reaches.0, serves reaches.0 reaches.1)
served_of m h i l e n A D (Err engine_fault.Read) o serves reaches same =
    subst (λ r. IsServed m h i l e n r A) (sym same) (inr (reaches.0, serves reaches.0 reaches.1))
served_of m h i l e n A D (Err engine_fault.Write) o serves reaches same =
    subst (λ r. IsServed m h i l e n r A) (sym same) (reaches.0, serves reaches.0 reaches.1)
served_of m h i l e n A D (Err engine_fault.OutOfMemory) o serves (inl stood) same =
    subst (λ r. IsServed m h i l e n r A) (sym same) (inr (stood.0, serves stood.0 stood.1))
served_of m h i l e n A D (Err engine_fault.OutOfMemory) o serves (inr alone) same = subst (λ r. IsServed m h i l e n r A) (sym same) (inl alone)
served_of m h i l e n A D (Err (engine_fault.Source f)) o serves reaches same = subst (λ r. IsServed m h i l e n r A) (sym same) reaches
served_of m h i l e n A D (Err (engine_fault.Tape f)) o serves reaches same = subst (λ r. IsServed m h i l e n r A) (sym same) reaches
served_of m h i l e n A D (Err (engine_fault.Session f)) o serves reaches same = subst (λ r. IsServed m h i l e n r A) (sym same) reaches

-- The same for a tape that the engine reads itself, where a read that failed may be one of the
-- tape.
pub served_from : (map : Map) (history : ℕ) (input left held now : Option (List ℕ)) (Alone : Type 0) (Denoted : List (Option ℕ) → Type 0)
    (answer : Result (Unit {0}) EngineFault) (outcome : Result (Unit {0}) Refusal)
    → ReachesFrom answer ((image : List (Option ℕ)) × Denoted image × Serves (new_session history (start map image)) input left held now answer) Alone
    → MatchResult answer (λ _. outcome ≡ Ok tt) (λ fault. outcome ≡ Err (of_engine fault))
    → IsServed map history input left held now outcome Alone
served_from m h i l e n A D (Ok x) o stood same = subst (λ r. IsServed m h i l e n r A) (sym same) (stood.0, stood.2)
served_from m h i l e n A D (Err engine_fault.Read) o (inl stood) same = subst (λ r. IsServed m h i l e n r A) (sym same) (inr (stood.0, stood.2))
served_from m h i l e n A D (Err engine_fault.Read) o (inr alone) same = subst (λ r. IsServed m h i l e n r A) (sym same) (inl alone)
served_from m h i l e n A D (Err engine_fault.Write) o stood same = subst (λ r. IsServed m h i l e n r A) (sym same) (stood.0, stood.2)
served_from m h i l e n A D (Err engine_fault.OutOfMemory) o (inl stood) same = subst (λ r. IsServed m h i l e n r A) (sym same) (inr (stood.0, stood.2))
served_from m h i l e n A D (Err engine_fault.OutOfMemory) o (inr alone) same = subst (λ r. IsServed m h i l e n r A) (sym same) (inl alone)
served_from m h i l e n A D (Err (engine_fault.Source f)) o alone same = subst (λ r. IsServed m h i l e n r A) (sym same) alone
served_from m h i l e n A D (Err (engine_fault.Tape f)) o alone same = subst (λ r. IsServed m h i l e n r A) (sym same) alone
served_from m h i l e n A D (Err (engine_fault.Session f)) o alone same = subst (λ r. IsServed m h i l e n r A) (sym same) alone

-- Why a tape that is read in pieces is not debugged.
pub refused_from : (map : Map) (is_tape : Bool) (known : Option (List ℕ)) (answer : Result (Unit {0}) EngineFault)
    (result : Result (Unit {0}) Refusal) → is_tape ≡ true
    → IfTape answer (IsRefusalOf known)
    → IfSession answer (λ fault. (fault ≡ PortAddress) × ((image : List (Option ℕ)) × IsImageOf known image × (has_port_byte map image ≡ true)))
    → IfSource answer (λ _. ⊥)
    → MatchResult answer (λ _. result ≡ Ok tt) (λ fault. result ≡ Err (of_engine fault)) → IfErr result (EndsDebug is_tape map)
refused_from map is_tape known (Ok x) result is tape session source said =
    subst (λ (r : Result (Unit {0}) Refusal). IfErr r (EndsDebug is_tape map)) (sym said) tt
refused_from map is_tape known (Err (engine_fault.Source f)) result is tape session source said = absurd source
refused_from map is_tape known (Err (engine_fault.Tape f)) result is tape session source said =
    subst (λ (r : Result (Unit {0}) Refusal). IfErr r (EndsDebug is_tape map)) (sym said) (is, (tape.0, tape.2))
refused_from map is_tape known (Err (engine_fault.Session f)) result is tape session source said =
    subst (λ (r : Result (Unit {0}) Refusal). IfErr r (EndsDebug is_tape map)) (sym said)
    (is, session.0, (session.1.1.0, session.1.0, session.1.1.2, session.1.2))
refused_from map is_tape known (Err engine_fault.Read) result is tape session source said =
    subst (λ (r : Result (Unit {0}) Refusal). IfErr r (EndsDebug is_tape map)) (sym said) tt
refused_from map is_tape known (Err engine_fault.Write) result is tape session source said =
    subst (λ (r : Result (Unit {0}) Refusal). IfErr r (EndsDebug is_tape map)) (sym said) tt
refused_from map is_tape known (Err engine_fault.OutOfMemory) result is tape session source said =
    subst (λ (r : Result (Unit {0}) Refusal). IfErr r (EndsDebug is_tape map)) (sym said) tt
