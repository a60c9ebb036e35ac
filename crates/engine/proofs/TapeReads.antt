-- What reading a tape from a reader makes of the engine's answer.
use Rattle.std.proofs.Common.{◌≡◌, ℕ, List, [], ◌++◌, Option, Some, None, IfSome, Result, Ok, Err, refl, sym, ap, ◌∙◌, subst, ◌⊎◌, inl, inr}
use Rattle.std.specs.Prelude.{⊤}
use Rattle.std.specs.Result.{IsErrAnd}
use Rattle.model.specs.TapeFault.{out_of_memory}
use Rattle.model.specs.Tape.{Breaks}
use Rattle.model.specs.TapePieces.{IsReadInPieces, IsRefusedInPieces, too_long}
use Rattle.model.specs.declared.session_fault.SessionFault.{SessionFault}
use Rattle.model.specs.declared.session_fault.SessionFault.TheVariants.{PortAddress}
use Rattle.model.specs.declared.tape.TapeFault.{TapeFault}
use Rattle.model.specs.declared.tape.TapeFaultKind.{TapeFaultKind}
use Rattle.model.specs.declared.tape.TapeFaultKind.TheVariants as tape_fault
use Rattle.papertape.specs.Streaming.{EndsReading, EndsWithPiece, IsRefusalOf, Reads, Shows}
use Rattle.papertape.specs.declared.stream.TapeReadFault.{TapeReadFault}
use Rattle.papertape.specs.declared.stream.TapeReadFault.TheVariants as tape_read_fault
use Rattle.engine.specs.declared.fault.EngineFault.{EngineFault}
use Rattle.engine.specs.declared.fault.EngineFault.TheVariants.{Source, Tape, Session, Read, Write, OutOfMemory}
use Rattle.engine.specs.Outcome.{Reaches}
use Rattle.engine.specs.Refusals.{of_tape, of_tape_kind, of_tape_read, IfSession, IfSource, IfTape}
use Rattle.engine.specs.TapeReads.{IsReadWhole, ReachesFrom, ReadsTape, ShowsTape}
use Rattle.engine.proofs.Refused.{tape_either}

abbrev Image : Type 0
Image = List (Option ℕ)

abbrev ReadAnswer : Type 0
ReadAnswer = Result Image TapeReadFault

abbrev read_ok : Image → ReadAnswer
read_ok image = Ok image

abbrev read_err : TapeReadFault → ReadAnswer
read_err f = Err f

-- the answer is this one, unless a read failed or memory ran out
abbrev Is : ReadAnswer → ReadAnswer → Type 0
Is answer wanted = (answer ≡ wanted) ⊎ ((answer ≡ read_err tape_read_fault.Read) ⊎ (answer ≡ read_err (tape_read_fault.Tape out_of_memory)))

abbrev fault_in : TapeReadFault → ReadAnswer → TapeReadFault
fault_in other (Ok image) = other
fault_in other (Err f) = f

abbrev image_in : Image → ReadAnswer → Image
image_in other (Ok image) = image
image_in other (Err f) = other

same_fault : (f g : TapeReadFault) → read_err f ≡ read_err g → f ≡ g
same_fault f g e = ap (fault_in f) e

abbrev failed : EngineFault → Result (Unit {0}) EngineFault
failed e = Err e

pub is_fault : {X E : Type 0} (result : Result X E) (e : E) → IsErrAnd result (λ x. x ≡ e) → result ≡ Err e
is_fault (Ok x) e h = absurd h
is_fault (Err x) e h = ap Err h

pub with_known : (a : Option (List ℕ)) (P Q : List ℕ → Type 0) → IfSome a P → ((text : List ℕ) → P text → Q text) → IfSome a Q
with_known None P Q h f = tt
with_known (Some x) P Q h f = f x h

-- ---- no image was read

-- a read failed, memory ran out, or the tape is rejected with a fault that is not running out of
-- memory
each_end : (f : TapeReadFault) (P : EngineFault → Type 0) → P Read → P OutOfMemory
    → ((g : TapeFault) → f ≡ tape_read_fault.Tape g → of_tape g ≡ Tape g → P (Tape g)) → P (of_tape_read f)
each_end tape_read_fault.Read P r m t = r
each_end (tape_read_fault.Tape g) P r m t = elim (tape_either g.kind g) [
  | inl is ↦ subst P (sym is) (t g refl is)
  | inr out ↦ subst P (sym out) m
]

not_memory : (g : TapeFault) → g ≡ out_of_memory → of_tape g ≡ Tape g → ⊥
not_memory g memory is = differ (sym (ap of_tape memory) ∙ is) where
  differ : OutOfMemory ≡ Tape g → ⊥
  differ e = cc

pub early_reaches_from : (f : TapeReadFault) (Stood Alone : Type 0) → Alone → ReachesFrom (failed (of_tape_read f)) Stood Alone
early_reaches_from f Stood Alone alone = each_end f (λ e. ReachesFrom (failed e) Stood Alone) (inr alone) (inr alone) (λ g e is. alone)

pub early_refused : (a : Option (List ℕ)) (f : TapeReadFault) → EndsReading a f → IfTape (failed (of_tape_read f)) (IsRefusalOf a)
early_refused a f ends =
    each_end f (λ e. IfTape (failed e) (IsRefusalOf a)) tt tt (λ g e is. elim (subst (EndsReading a) e ends) [
      | inl memory ↦ absurd (not_memory g memory is)
      | inr refused ↦ refused
    ])

pub early_session : (f : TapeReadFault) (P : SessionFault → Type 0) → IfSession (failed (of_tape_read f)) P
early_session f P = each_end f (λ e. IfSession (failed e) P) tt tt (λ g e is. tt)

pub early_spared : (a : Option (List ℕ)) (f : TapeReadFault) (P : Image → Type 0)
    → IfSome a (λ text. (image : Image) → IsReadInPieces text image → P image → IfSession (failed (of_tape_read f)) (λ _. ⊥))
early_spared None f P = tt
early_spared (Some text) f P = λ image r p. early_session f (λ _. ⊥)

pub early_no_source : (f : TapeReadFault) → IfSource (failed (of_tape_read f)) (λ _. ⊥)
early_no_source f = each_end f (λ e. IfSource (failed e) (λ _. ⊥)) tt tt (λ g e is. tt)

-- of a tape with an image, only a failed read or running out of memory keeps it from being read
only_ends : (f : TapeReadFault) (cells : Image) → Is (read_err f) (read_ok cells) → (of_tape_read f ≡ Read) ⊎ (of_tape_read f ≡ OutOfMemory)
only_ends f cells (inl e) = absurd cc
only_ends f cells (inr (inl e)) = inl (ap of_tape_read (same_fault f tape_read_fault.Read e))
only_ends f cells (inr (inr e)) = inr (ap of_tape_read (same_fault f (tape_read_fault.Tape out_of_memory) e))

pub early_right : (a : Option (List ℕ)) (f : TapeReadFault) → IfSome a (λ text. (cells : Image) → IsReadInPieces text cells → Is (read_err f) (read_ok cells))
    → IfSome a (λ text. (image : Image) → IsReadInPieces text image → IfTape (failed (of_tape_read f)) (λ _. ⊥))
early_right a f only =
    with_known a (λ text. (cells : Image) → IsReadInPieces text cells → Is (read_err f) (read_ok cells))
    (λ text. (image : Image) → IsReadInPieces text image → IfTape (failed (of_tape_read f)) (λ _. ⊥)) only
    (λ text o image r. none (only_ends f image (o image r))) where
      none : (of_tape_read f ≡ Read) ⊎ (of_tape_read f ≡ OutOfMemory) → IfTape (failed (of_tape_read f)) (λ _. ⊥)
      none (inl e) = subst (λ x. IfTape (failed x) (λ _. ⊥)) (sym e) tt
      none (inr e) = subst (λ x. IfTape (failed x) (λ _. ⊥)) (sym e) tt

abbrev Ends : EngineFault → Result (Unit {0}) EngineFault → Type 0
Ends e wanted = (failed e ≡ wanted) ⊎ ((failed e ≡ failed Read) ⊎ (failed e ≡ failed OutOfMemory))

pub early_port : (a : Option (List ℕ)) (f : TapeReadFault) (P : Image → Type 0)
    → IfSome a (λ text. (cells : Image) → IsReadInPieces text cells → Is (read_err f) (read_ok cells))
    → IfSome a (λ text. (image : Image) → IsReadInPieces text image → P image → Ends (of_tape_read f) (Err (Session PortAddress)))
early_port a f P only =
    with_known a (λ text. (cells : Image) → IsReadInPieces text cells → Is (read_err f) (read_ok cells))
    (λ text. (image : Image) → IsReadInPieces text image → P image → Ends (of_tape_read f) (Err (Session PortAddress))) only
    (λ text o image r p. inr (one (only_ends f image (o image r)))) where
      one : (of_tape_read f ≡ Read) ⊎ (of_tape_read f ≡ OutOfMemory) → (failed (of_tape_read f) ≡ failed Read) ⊎ (failed (of_tape_read f) ≡ failed OutOfMemory)
      one (inl e) = inl (ap failed e)
      one (inr e) = inr (ap failed e)

-- the fault of a tape is answered, or a read of it failed, or memory ran out
refusal_ends : (f : TapeReadFault) (fault : TapeFault) → Is (read_err f) (read_err (tape_read_fault.Tape fault)) → Ends (of_tape_read f) (Err (Tape fault))
refusal_ends f fault (inl e) = elim (tape_either fault.kind fault) [
  | inl is ↦ inl (ap failed (ap of_tape_read (same_fault f (tape_read_fault.Tape fault) e) ∙ is))
  | inr out ↦ inr (inr (ap failed (ap of_tape_read (same_fault f (tape_read_fault.Tape fault) e) ∙ out)))
]
refusal_ends f fault (inr (inl e)) = inr (inl (ap failed (ap of_tape_read (same_fault f tape_read_fault.Read e))))
refusal_ends f fault (inr (inr e)) = inr (inr (ap failed (ap of_tape_read (same_fault f (tape_read_fault.Tape out_of_memory) e))))

pub early_faulty : (a : Option (List ℕ)) (f : TapeReadFault)
    → IfSome a (λ text. (fault : TapeFault) → IsRefusedInPieces text fault → Is (read_err f) (read_err (tape_read_fault.Tape fault)))
    → IfSome a (λ text. (fault : TapeFault) → IsRefusedInPieces text fault → Ends (of_tape_read f) (Err (Tape fault)))
early_faulty a f only =
    with_known a (λ text. (fault : TapeFault) → IsRefusedInPieces text fault → Is (read_err f) (read_err (tape_read_fault.Tape fault)))
    (λ text. (fault : TapeFault) → IsRefusedInPieces text fault → Ends (of_tape_read f) (Err (Tape fault))) only
    (λ text o fault r. refusal_ends f fault (o fault r))

-- ---- what was consumed of the tape

-- no text's fault is running out of memory
breaks_not_memory : (kind : TapeFaultKind) (g : TapeFault) (count : ℕ) (rest : List ℕ) (place : ℕ) → Breaks kind count rest place
    → of_tape_kind kind g ≡ OutOfMemory → ⊥
breaks_not_memory tape_fault.OutOfMemory g count rest place breaks out = breaks
breaks_not_memory kind g count rest place breaks out = cc

refused_not_memory : (text : List ℕ) (g : TapeFault) → IsRefusedInPieces text g → of_tape g ≡ OutOfMemory → ⊥
refused_not_memory text g (inl first) out = breaks_not_memory g.kind g _ _ _ first.1.breaks out
refused_not_memory text g (inr long) out = elim long.told [
  | inl tells ↦ breaks_not_memory g.kind g _ _ _ (tells []).breaks out
  | inr only ↦ differ (sym (ap of_tape only.1) ∙ out)
]
  where
    differ : of_tape too_long ≡ OutOfMemory → ⊥
    differ e = cc

module _ (told : List ℕ) (AtEnd : Type 0) where
  told_fault : (g : TapeFault) → Shows told AtEnd (read_err (tape_read_fault.Tape g)) → of_tape g ≡ Tape g → EndsWithPiece told g
      ⊎ (AtEnd × IsRefusedInPieces told g)
  told_fault g (inl memory) is = absurd (not_memory g memory.0 is)
  told_fault g (inr fault) is = fault

  told_memory : (g : TapeFault) → Shows told AtEnd (read_err (tape_read_fault.Tape g)) → of_tape g ≡ OutOfMemory → IsReadWhole told AtEnd ⊎ (told ≡ [])
  told_memory g (inl memory) out = inr memory.1
  told_memory g (inr (inl ends)) out = absurd (refused_not_memory (told ++ []) g (ends.refused []) out)
  told_memory g (inr (inr end)) out = absurd (refused_not_memory told g end.1 out)

  early_shows : (f : TapeReadFault) → Shows told AtEnd (read_err f) → ShowsTape told AtEnd (failed (of_tape_read f))
  early_shows tape_read_fault.Read h = inr h
  early_shows (tape_read_fault.Tape g) h = elim (tape_either g.kind g) [
    | inl is ↦ subst (λ (e : EngineFault). ShowsTape told AtEnd (failed e)) (sym is) (told_fault g h is)
    | inr out ↦ subst (λ (e : EngineFault). ShowsTape told AtEnd (failed e)) (sym out) (told_memory g h out)
  ]

  late_shows : {X : Type 0} (result : Result X EngineFault) → IsReadWhole told AtEnd → IfSource result (λ _. ⊥) → IfTape result (λ _. ⊥)
      → ShowsTape told AtEnd result
  late_shows (Ok x) whole source tape = whole
  late_shows (Err (Source f)) whole source tape = source
  late_shows (Err (Tape f)) whole source tape = absurd tape
  late_shows (Err Read) whole source tape = inl whole
  late_shows (Err OutOfMemory) whole source tape = inl whole
  late_shows (Err e) whole source tape = whole

pub early_reads : (a b : Option (List ℕ)) (f : TapeReadFault) → Reads a b (read_err f) → ReadsTape a b (failed (of_tape_read f))
early_reads a b f (told, c, shows) = (told, c, early_shows told _ f shows)

pub late_reads : {X : Type 0} (a b : Option (List ℕ)) (image : Image) (result : Result X EngineFault) → Reads a b (read_ok image)
    → IfSource result (λ _. ⊥) → IfTape result (λ _. ⊥) → ReadsTape a b result
late_reads a b image result (told, c, shows) source tape = (told, c, late_shows told _ result (shows.0, (image, shows.1)) source tape)

-- ---- an image was read

pub reaches_from : {X : Type 0} (result : Result X EngineFault) (Stood Alone : Type 0) → Stood → Reaches result ⊤ Alone → ReachesFrom result Stood Alone
reaches_from (Ok x) Stood Alone stood h = stood
reaches_from (Err Read) Stood Alone stood h = inl stood
reaches_from (Err Write) Stood Alone stood h = stood
reaches_from (Err OutOfMemory) Stood Alone stood h = inl stood
reaches_from (Err e) Stood Alone stood h = h

same_image : (image cells : Image) → Is (read_ok image) (read_ok cells) → image ≡ cells
same_image image cells (inl e) = ap (image_in image) e
same_image image cells (inr (inl e)) = absurd cc
same_image image cells (inr (inr e)) = absurd cc

-- what holds of the image that was read holds of each that a known text has
pub for_each_known : (a : Option (List ℕ)) (image : Image) (P : Image → Type 0)
    → IfSome a (λ text. (cells : Image) → IsReadInPieces text cells → Is (read_ok image) (read_ok cells)) → P image
    → IfSome a (λ text. (cells : Image) → IsReadInPieces text cells → P cells)
for_each_known a image P only p =
    with_known a (λ text. (cells : Image) → IsReadInPieces text cells → Is (read_ok image) (read_ok cells))
    (λ text. (cells : Image) → IsReadInPieces text cells → P cells) only
    (λ text o cells r. subst P (same_image image cells (o cells r)) p)

not_refused : (image : Image) (f : TapeReadFault) → Is (read_ok image) (read_err f) → ⊥
not_refused image f (inl e) = absurd cc
not_refused image f (inr (inl e)) = absurd cc
not_refused image f (inr (inr e)) = absurd cc

pub read_excluded : (a : Option (List ℕ)) (image : Image) (P : TapeFault → Type 0)
    → IfSome a (λ text. (fault : TapeFault) → IsRefusedInPieces text fault → Is (read_ok image) (read_err (tape_read_fault.Tape fault)))
    → IfSome a (λ text. (fault : TapeFault) → IsRefusedInPieces text fault → P fault)
read_excluded a image P only =
    with_known a (λ text. (fault : TapeFault) → IsRefusedInPieces text fault → Is (read_ok image) (read_err (tape_read_fault.Tape fault)))
    (λ text. (fault : TapeFault) → IsRefusedInPieces text fault → P fault) only
    (λ text o fault r. absurd (not_refused image (tape_read_fault.Tape fault) (o fault r)))

pub third_answer : (A B C : Type 0) → A ⊎ C → A ⊎ (B ⊎ C)
third_answer A B C (inl a) = inl a
third_answer A B C (inr c) = inr (inr c)
