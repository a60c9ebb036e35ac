-- What was fed of a tape that a reader tells, and what is answered for it.
use Rattle.std.proofs.Common.{◌≡◌, ℕ, ◌≤◌, List, [], ◌++◌, length, Option, None, Some, IfSome, Result, Ok, Err, IfErr, IfOk, refl, sym, ap, ◌∙◌, subst, ◌⊎◌, inl, inr, append-nil}
use Rattle.std.proofs.KnownBytes.{Consumes-kept, Consumes-nil, Consumes-trans, Consumes-whole}
use Rattle.std.proofs.lemmas.Bool.{cases_lt}
use Rattle.std.specs.Result.{IsErrAnd}
use Rattle.std.specs.Io.KnownBytes.{Consumes, IsAtEnd, Keeps}
use Rattle.model.specs.declared.tape.TapeFault.{TapeFault}
use Rattle.model.specs.TapeFault.{out_of_memory}
use Rattle.model.specs.TapePieces.{IsReadInPieces, IsRefusedInPieces, longest}
use Rattle.papertape.specs.Feeding.{Fed, end_of_feeding, fed, answer_of, nothing_fed}
use Rattle.papertape.specs.Streaming.{EndsReading, EndsWithPiece, GoesOn, IsImageOf, IsRefusalOf, IsRefusedAlready, IsTextOf, Reads}
use Rattle.papertape.specs.declared.stream.TapeReadFault.{TapeReadFault}
use Rattle.papertape.specs.declared.stream.TapeReadFault.TheVariants.{Tape, Read}
use Rattle.papertape.proofs.Pieces.{fed-append, fed-Err, not_said, said_ok}
use Rattle.papertape.proofs.Told.{in_pieces, one_image, one_refusal, over_said, read_or_refused, refused_in_pieces, told}

abbrev Image : Type 0
Image = List (Option ℕ)

abbrev Answer : Type 0
Answer = Result Image TapeReadFault

abbrev failed : TapeReadFault → Answer
failed f = Err f

-- ---- what was fed

-- nothing was refused, so no fault was told
pub goes_on : (front : List ℕ) → answer_of (fed nothing_fed front) ≡ said_ok → GoesOn front
goes_on front e = (short, λ fault tells. not_said fault (ap answer_of (sym ((told front fault short).1 tells)) ∙ e)) where
  short : length front ≤ longest
  short = elim (cases_lt longest (length front)) [ inl long ↦ absurd (over_said front long e) | inr h ↦ h ]

-- what was fed is refused, and so is each text that begins so
pub refused_already : (front : List ℕ) (fault : TapeFault) → fed nothing_fed front ≡ Err fault → IsRefusedAlready front fault
refused_already front fault e =
    λ more. (refused_in_pieces (front ++ more) fault).0 (ap end_of_feeding (fed-append longest front more nothing_fed)
    ∙ ap (λ (s : Fed). end_of_feeding (fed s more)) e ∙ ap end_of_feeding (fed-Err longest more fault))

still : (a b c : Option (List ℕ)) (front : List ℕ) → Consumes a b front → Consumes b c [] → Consumes a c front
still a b c front p q = subst (Consumes a c) (append-nil front) (Consumes-trans a b c front [] p q)

-- ---- how reading ends

pub reads_nothing : (a : Option (List ℕ)) (answer : Answer) (f : TapeFault) → IsErrAnd answer (λ e. e ≡ Tape f) → f ≡ out_of_memory → Reads a a answer
reads_nothing a (Ok image) f h memory = absurd h
reads_nothing a (Err e) f h memory = subst (λ (x : TapeReadFault). Reads a a (failed x)) (sym h) ([], Consumes-nil a, inl (memory, refl))

pub reads_refused : (a b c : Option (List ℕ)) (answer : Answer) (f : TapeFault) (front bytes : List ℕ) (reader : Fed) → IsErrAnd answer (λ e. e ≡ Tape f)
    → Consumes a b front → Consumes b c bytes → length bytes ≤ 4096 → reader ≡ fed nothing_fed front → answer_of reader ≡ said_ok
    → fed reader bytes ≡ Err f → Reads a c answer
reads_refused a b c (Ok image) f front bytes reader h p q short same on refused = absurd h
reads_refused a b c (Err e) f front bytes reader h p q short same on refused =
    subst (λ (x : TapeReadFault). Reads a c (failed x)) (sym h) (
      front ++ bytes,
      Consumes-trans a b c front bytes p q,
      inr (inl (record {
        front = front;
        piece = bytes;
        parts = refl;
        short = short;
        right = goes_on front (ap answer_of (sym same) ∙ on);
        refused = refused_already (front ++ bytes) f (fed-append longest front bytes nothing_fed ∙ ap (λ (s : Fed). fed s bytes) (sym same) ∙ refused);
      })),
    )

pub reads_fault_at_end : (a b c : Option (List ℕ)) (answer : Answer) (f : TapeFault) (front : List ℕ) (reader : Fed) → IsErrAnd answer (λ e. e ≡ Tape f)
    → Consumes a b front → Consumes b c [] → IsAtEnd c → reader ≡ fed nothing_fed front → end_of_feeding reader ≡ Err f → Reads a c answer
reads_fault_at_end a b c (Ok image) f front reader h p q end same refused = absurd h
reads_fault_at_end a b c (Err e) f front reader h p q end same refused =
    subst (λ (x : TapeReadFault). Reads a c (failed x)) (sym h)
    (front, still a b c front p q, inr (inr (end, (refused_in_pieces front f).0 (ap end_of_feeding (sym same) ∙ refused))))

pub reads_image : (a b c : Option (List ℕ)) (image : Image) (front : List ℕ) (reader : Fed)
    → Consumes a b front → Consumes b c [] → IsAtEnd c → reader ≡ fed nothing_fed front → end_of_feeding reader ≡ Ok image → Reads a c (Ok image)
reads_image a b c image front reader p q end same read = (front, still a b c front p q, (end, (in_pieces front image).0 (ap end_of_feeding (sym same) ∙ read)))

pub reads_failed : (a b c : Option (List ℕ)) (front : List ℕ) (reader : Fed) → Consumes a b front → Keeps b c → reader ≡ fed nothing_fed front
    → answer_of reader ≡ said_ok → Reads a c (Err Read)
reads_failed a b c front reader p q same on = (front, Consumes-kept a b c front p q, goes_on front (ap answer_of (sym same) ∙ on))

-- ---- what that says of a text that is known

at_end : (a b : Option (List ℕ)) (front : List ℕ) (P : List ℕ → Type 0) → Consumes a b front → IsAtEnd b → P front → (text : List ℕ) × IsTextOf a text × P text
at_end None b front P c end p = (front, tt, p)
at_end (Some bytes) b front P c end p = (bytes, refl, Consumes-whole (Some bytes) b front P c end p)

already : (a b : Option (List ℕ)) (told : List ℕ) (f : TapeFault) → Consumes a b told → EndsWithPiece told f → IsRefusalOf a f
already None b told f c ends = (told ++ [], tt, ends.refused [])
already (Some bytes) None told f c ends = absurd c
already (Some bytes) (Some left) told f c ends = (told ++ left, c, ends.refused left)

pub image_read : (a b : Option (List ℕ)) (answer : Answer) → Reads a b answer → IfOk answer (IsImageOf a)
image_read a b (Ok image) h = at_end a b h.0 (λ text. IsReadInPieces text image) h.1 h.2.0 h.2.1
image_read a b (Err f) h = tt

ends : (a b : Option (List ℕ)) (f : TapeReadFault) → Reads a b (failed f) → EndsReading a f
ends a b (Tape f) (front, c, inl memory) = inl memory.0
ends a b (Tape f) (front, c, inr (inl refused)) = inr (already a b front f c refused)
ends a b (Tape f) (front, c, inr (inr end)) = inr (at_end a b front (λ text. IsRefusedInPieces text f) c end.0 end.1)
ends a b Read h = tt

pub ends_reading : (a b : Option (List ℕ)) (answer : Answer) → Reads a b answer → IfErr answer (EndsReading a)
ends_reading a b (Ok image) h = tt
ends_reading a b (Err f) h = ends a b f h

image_known : (text : List ℕ) (image : Image) → IsImageOf (Some text) image → IsReadInPieces text image
image_known text image h = subst (λ t. IsReadInPieces t image) (sym h.1) h.2

refusal_known : (text : List ℕ) (f : TapeFault) → IsRefusalOf (Some text) f → IsRefusedInPieces text f
refusal_known text f h = subst (λ t. IsRefusedInPieces t f) (sym h.1) h.2

abbrev Is : Answer → Answer → Type 0
Is answer wanted = (answer ≡ wanted) ⊎ ((answer ≡ failed Read) ⊎ (answer ≡ failed (Tape out_of_memory)))

only_image : (text : List ℕ) (answer : Answer) → IfOk answer (IsImageOf (Some text)) → IfErr answer (EndsReading (Some text)) → (cells : Image)
    → IsReadInPieces text cells → Is answer (Ok cells)
only_image text (Ok image) found fault cells r = inl (ap (λ (i : Image). image_answer i) (one_image text image cells (image_known text image found) r)) where
  image_answer : Image → Answer
  image_answer i = Ok i
only_image text (Err Read) found fault cells r = inr (inl refl)
only_image text (Err (Tape f)) found (inl memory) cells r = inr (inr (ap (λ (x : TapeFault). failed (Tape x)) memory))
only_image text (Err (Tape f)) found (inr refused) cells r = absurd (read_or_refused text cells f r (refusal_known text f refused))

only_fault : (text : List ℕ) (answer : Answer) → IfOk answer (IsImageOf (Some text)) → IfErr answer (EndsReading (Some text)) → (fault : TapeFault)
    → IsRefusedInPieces text fault → Is answer (Err (Tape fault))
only_fault text (Ok image) found fault f r = absurd (read_or_refused text image f (image_known text image found) r)
only_fault text (Err Read) found fault f r = inr (inl refl)
only_fault text (Err (Tape g)) found (inl memory) f r = inr (inr (ap (λ (x : TapeFault). failed (Tape x)) memory))
only_fault text (Err (Tape g)) found (inr refused) f r = inl (ap (λ (x : TapeFault). failed (Tape x)) (one_refusal text g f (refusal_known text g refused) r))

pub only_read : (a b : Option (List ℕ)) (answer : Answer) → Reads a b answer
    → IfSome a (λ text. (cells : Image) → IsReadInPieces text cells → Is answer (Ok cells))
only_read None b answer h = tt
only_read (Some text) b answer h = only_image text answer (image_read (Some text) b answer h) (ends_reading (Some text) b answer h)

pub refused_read : (a b : Option (List ℕ)) (answer : Answer) → Reads a b answer
    → IfSome a (λ text. (fault : TapeFault) → IsRefusedInPieces text fault → Is answer (Err (Tape fault)))
refused_read None b answer h = tt
refused_read (Some text) b answer h = only_fault text answer (image_read (Some text) b answer h) (ends_reading (Some text) b answer h)
