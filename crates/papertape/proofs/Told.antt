-- What the bytes of a tape tell while it still goes on, and of a text that is too long.
use Rattle.std.proofs.Common.{◌≡◌, ℕ, ◌+◌, ◌<◌, ◌≤◌, List, [], ◌∷◌, ◌++◌, length, take, drop, Option, Result, Ok, Err, refl, sym, ap, ◌∙◌, subst, arith, Bool, true, false, cond, append-nil, length-append, inl, inr, ◌⊎◌, take-append-drop, length-take-le, length-drop}
use Rattle.std.specs.Prelude.{◌↔◌, nat_eq, IfOk, IfErr}
use Rattle.std.proofs.lemmas.Bool.{le-leb, cases_lt}
use Rattle.model.specs.declared.tape.TapeFault.{TapeFault}
use Rattle.model.specs.declared.tape.TapeFaultKind.{TapeFaultKind}
use Rattle.model.specs.declared.tape.TapeFaultKind.TheVariants as kinds
use Rattle.model.specs.Tape.{FirstFault}
use Rattle.model.specs.TapePieces.{longest, too_long, Tells, IsReadInPieces, IsTooLong, IsRefusedInPieces}
use Rattle.papertape.specs.declared.reading.Place.{Place}
use Rattle.papertape.specs.declared.reading.Place.TheVariants.{Between, Within, After}
use Rattle.model.specs.TapeFault.{out_of_memory}
use Rattle.papertape.specs.Reading.{AnswersReading, Progress, step, run, result_at, result_in, read_of, start, ◌>>=◌}
use Rattle.papertape.specs.Feeding.{Fed, nothing_fed, fed_up_to, fed_byte, fed, end_of_feeding, answer_of}
use Rattle.papertape.proofs.Grammar.{SoundRead, read_sound}
use Rattle.papertape.proofs.GrammarIsRead.{run-append, read_again}
use Rattle.papertape.proofs.Faults.{fault_again}
use Rattle.papertape.proofs.Pieces.{fed-append, fed-Err, fed-run, not_said, said_ok, whole_fed}

abbrev Read : Type 0
Read = Result (List (Option ℕ)) TapeFault

abbrev Run : Type 0
Run = Result Progress TapeFault

abbrev fault_of : TapeFault → Read → TapeFault
fault_of other (Ok cells) = other
fault_of other (Err f) = f

abbrev cells_of : List (Option ℕ) → Read → List (Option ℕ)
cells_of other (Ok cells) = cells
cells_of other (Err f) = other

abbrev at : TapeFaultKind → ℕ → TapeFault
at kind offset = record { offset = offset; kind = kind }

abbrev fault_read : TapeFaultKind → ℕ → Read
fault_read kind offset = Err (at kind offset)

abbrev ran : TapeFault → Run
ran f = Err f

abbrev ran_ok : Progress → Run
ran_ok s = Ok s

abbrev fed_ok : ℕ → Progress → Fed
fed_ok n s = Ok (n, s)

abbrev fed_fault : TapeFault → Fed → TapeFault
fed_fault other (Ok s) = other
fed_fault other (Err f) = f

abbrev read_err : TapeFault → Read
read_err f = Err f

ran_not : (s : Progress) (f : TapeFault) → ran_ok s ≡ ran f → ⊥
ran_not s f e = cc

fed_not : (n : ℕ) (s : Progress) (f : TapeFault) → fed_ok n s ≡ Err f → ⊥
fed_not n s f e = cc

same_fault : (r : Read) (f g : TapeFault) → r ≡ Err f → r ≡ Err g → f ≡ g
same_fault r f g e h = ap (fault_of f) (sym e ∙ h)

not_both : (r : Read) (cells : List (Option ℕ)) (f : TapeFault) → r ≡ Ok cells → r ≡ Err f → ⊥
not_both r cells f e h = cc

-- a fault on the way is the answer, whatever follows
read_failed : (text more : List ℕ) (f : TapeFault) → run 0 start text ≡ Err f → read_of (text ++ more) ≡ Err f
unfolding read_of
read_failed text more f e =
    ap (λ (r : Run). r >>= λ u. result_at (length (text ++ more)) u)
    (run-append text more 0 start ∙ ap (λ (r : Run). r >>= λ u. run (0 + length text) u more) e)

read_went_on : (text : List ℕ) (s : Progress) → run 0 start text ≡ Ok s → read_of text ≡ result_at (length text) s
unfolding read_of
read_went_on text s e = ap (λ (r : Run). r >>= λ u. result_at (length text) u) e

-- one byte more
read_one : (text : List ℕ) (b : ℕ) (s : Progress) → run 0 start text ≡ Ok s
    → read_of (text ++ b ∷ []) ≡ ((step (length text) s b >>= λ t. Ok t) >>= λ u. result_at (length (text ++ b ∷ [])) u)
unfolding read_of
read_one text b s e =
    ap (λ (r : Run). r >>= λ u. result_at (length (text ++ b ∷ [])) u)
    (run-append text (b ∷ []) 0 start ∙ ap (λ (r : Run). r >>= λ u. run (0 + length text) u (b ∷ [])) e ∙ ap (λ n. step n s b >>= λ t. Ok t) (omega arith))

pub failed_tells : (text : List ℕ) (f : TapeFault) → run 0 start text ≡ Err f → Tells text f
failed_tells text f e more = subst (λ (r : Read). SoundRead (text ++ more) r) (read_failed text more f e) (read_sound (text ++ more))

told_again : (text more : List ℕ) (f : TapeFault) → Tells text f → read_of (text ++ more) ≡ Err f
told_again text more f h = fault_again (text ++ more) f.kind f.offset (h more)

told_now : (text : List ℕ) (f : TapeFault) → Tells text f → read_of text ≡ Err f
told_now text f h = ap read_of (sym (append-nil text)) ∙ told_again text [] f h

finished_is : (n : ℕ) (s : Progress) (p : Place) → s.place ≡ p → result_at n s ≡ result_in n s p
unfolding result_at
finished_is n s p e = rw e refl

-- ---- what is told was met

bad_digit : (n : ℕ) (s : Progress) → s.place ≡ Within → step n s 71 ≡ Err (at kinds.BadHex n)
unfolding step
bad_digit n s e = rw e refl

skipped_zero : (n : ℕ) (s : Progress) → s.place ≡ Between → step n s 0 ≡ Ok s
unfolding step
skipped_zero n s e = rw e refl

offset_between : (n : ℕ) (s : Progress) (f : TapeFault) → result_in n s Between ≡ Err f → f.offset ≡ n
offset_between n s f e = go (nat_eq s.count 0) e where
  go : (b : Bool) → cond b (fault_read kinds.NoRecord n) (fault_read kinds.Truncated n) ≡ Err f → f.offset ≡ n
  go true h = ap (λ (r : Read). (fault_of f r).offset) (sym h)
  go false h = ap (λ (r : Read). (fault_of f r).offset) (sym h)

kinds_differ : kinds.Truncated ≡ kinds.BadHex → ⊥
kinds_differ e = cc

not_hex : (f : TapeFault) (m n : ℕ) → at kinds.Truncated m ≡ f → at kinds.BadHex n ≡ f → ⊥
not_hex f m n e h = kinds_differ (ap (λ (x : TapeFault). x.kind) (e ∙ sym h))

-- a tape that may still go on tells nothing
tells_not : (text : List ℕ) (f : TapeFault) (s : Progress) (p : Place) → s.place ≡ p → Tells text f → run 0 start text ≡ Ok s → ⊥
tells_not text f s After place h e =
    not_both (read_of text) s.cells f (read_went_on text s e ∙ finished_is (length text) s After place) (told_now text f h)
tells_not text f s Within place h e =
    let now = same_fault (read_of text) (at kinds.Truncated (length text)) f (read_went_on text s e ∙ finished_is (length text) s Within place)
    (told_now text f h) in
    let then = same_fault (read_of (text ++ 71 ∷ [])) (at kinds.BadHex (length text)) f
    (read_one text 71 s e ∙ ap (λ (r : Run). (r >>= λ t. Ok t) >>= λ u. result_at (length (text ++ 71 ∷ [])) u) (bad_digit (length text) s place))
    (told_again text (71 ∷ []) f h) in
    not_hex f (length text) (length text) now then
tells_not text f s Between place h e =
    let now = offset_between (length text) s f (sym (finished_is (length text) s Between place) ∙ sym (read_went_on text s e) ∙ told_now text f h) in
    let more = length (text ++ 0 ∷ []) in
    let then = offset_between more s f (sym (finished_is more s Between place)
    ∙ sym (read_one text 0 s e ∙ ap (λ (r : Run). (r >>= λ t. Ok t) >>= λ u. result_at more u) (skipped_zero (length text) s place))
    ∙ told_again text (0 ∷ []) f h) in
    omega (arith, now, then, length-append text (0 ∷ []))

pub tells_failed : (text : List ℕ) (f : TapeFault) → Tells text f → run 0 start text ≡ Err f
tells_failed text f h = go (run 0 start text) refl where
  go : (r : Run) → run 0 start text ≡ r → r ≡ Err f
  go (Err g) e = ap (λ (x : TapeFault). ran x) (same_fault (read_of (text ++ [])) g f (read_failed text [] g e) (told_again text [] f h))
  go (Ok s) e = absurd (tells_not text f s s.place refl h e)

-- ---- texts that are not too long

pub told : (text : List ℕ) (f : TapeFault) → length text ≤ longest → (fed nothing_fed text ≡ Err f) ↔ Tells text f
told text f short = (
  λ e. failed_tells text f (back (run 0 start text) (sym ran_fed ∙ e)),
  λ h. ran_fed
      ∙ ap (λ (r : Run). r >>= λ t. Ok (0 + length text, t)) (tells_failed text f h),
) where
  ran_fed : fed nothing_fed text ≡ (run 0 start text >>= λ t. Ok (0 + length text, t))
  ran_fed = fed-run longest text 0 start (omega (arith, short))

  back : (r : Run) → (r >>= λ t. fed_ok (0 + length text) t) ≡ Err f → r ≡ Err f
  back (Ok t) e = absurd (fed_not (0 + length text) t f e)
  back (Err g) e = ap ran (ap (fed_fault f) e)

-- ---- texts that are

abbrev over : ℕ → Run → Fed
over limit (Ok t) = Err (at kinds.TooLong limit)
over limit (Err f) = Err f

past_limit : (limit n : ℕ) (t : Progress) (b : ℕ) → n ≡ limit → fed_byte limit (n, t) b ≡ Err (at kinds.TooLong limit)
past_limit limit n t b e = rw (le-leb limit n (omega (arith, e))) (ap (λ (k : ℕ). fed_fail k) e) where
  fed_fail : ℕ → Fed
  fed_fail k = Err (at kinds.TooLong k)

over_fed : (limit : ℕ) (front more : List ℕ) → length front ≡ limit → 0 < length more
    → fed_up_to limit nothing_fed (front ++ more) ≡ over limit (run 0 start front)
over_fed limit front more full some =
    fed-append limit front more nothing_fed ∙ ap (λ (r : Fed). fed_up_to limit r more) (fed-run limit front 0 start (omega (arith, full)))
    ∙ go (run 0 start front) more some where
      go : (r : Run) (bytes : List ℕ) → 0 < length bytes → fed_up_to limit (r >>= λ t. Ok (0 + length front, t)) bytes ≡ over limit r
      go (Err f) bytes h = fed-Err limit bytes f
      go (Ok t) [] h = absurd (omega arith)
      go (Ok t) (b ∷ bytes) h = ap (λ (r : Fed). fed_up_to limit r bytes) (past_limit limit (0 + length front) t b (omega (arith, full)))
          ∙ fed-Err limit bytes (at kinds.TooLong limit)

abbrev Cut : ℕ → List ℕ → Type 0
Cut limit text = (front : List ℕ) × (more : List ℕ) × (text ≡ front ++ more) × (length front ≡ limit) × (0 < length more)

cut : (limit : ℕ) (text : List ℕ) → limit < length text → Cut limit text
cut limit text h = (
  take limit text,
  drop limit text,
  sym (take-append-drop limit text),
  length-take-le limit text (omega (arith, h)),
  omega
      (arith, h, length-drop limit text),
)

over_told : (front : List ℕ) (f : TapeFault) → end_of_feeding (over longest (run 0 start front)) ≡ Err f → Tells front f
    ⊎ (((other : TapeFault) → Tells front other → ⊥) × (f ≡ too_long))
over_told front f e = go (run 0 start front) refl e where
  go : (r : Run) → run 0 start front ≡ r → end_of_feeding (over longest r) ≡ Err f → Tells front f
      ⊎ (((other : TapeFault) → Tells front other → ⊥) × (f ≡ too_long))
  go (Err g) h k = inl (subst (λ x. Tells front x) (ap (fault_of f) k) (failed_tells front g h))
  go (Ok t) h k = inr (λ other o. ran_not t other (sym h ∙ tells_failed front other o), ap (fault_of f) (sym k))

over_again : (front : List ℕ) (f : TapeFault) → Tells front f ⊎ (((other : TapeFault) → Tells front other → ⊥) × (f ≡ too_long))
    → end_of_feeding (over longest (run 0 start front)) ≡ Err f
over_again front f (inl h) = ap (λ (r : Run). end_of_feeding (over longest r)) (tells_failed front f h)
over_again front f (inr (none, e)) = go (run 0 start front) refl where
  go : (r : Run) → run 0 start front ≡ r → end_of_feeding (over longest r) ≡ Err f
  go (Err g) h = absurd (none g (failed_tells front g h))
  go (Ok t) h = ap (λ (x : TapeFault). read_err x) (sym e)

over_not : (front : List ℕ) (cells : List (Option ℕ)) → end_of_feeding (over longest (run 0 start front)) ≡ Ok cells → ⊥
over_not front cells e = go (run 0 start front) e where
  go : (r : Run) → end_of_feeding (over longest r) ≡ Ok cells → ⊥
  go (Err g) k = not_both (read_err g) cells g k refl
  go (Ok t) k = not_both (read_err too_long) cells too_long k refl

-- a text that is too long is refused while it is fed
pub over_said : (text : List ℕ) → longest < length text → answer_of (fed nothing_fed text) ≡ said_ok → ⊥
over_said text h e =
    let c = cut longest text h in
    go (run 0 start c.0) (ap answer_of (sym (over_fed longest c.0 c.1 c.3 c.4)) ∙ ap (λ (t : List ℕ). answer_of (fed nothing_fed t)) (sym c.2) ∙ e) where
      go : (r : Run) → answer_of (over longest r) ≡ said_ok → ⊥
      go (Ok t) k = not_said too_long k
      go (Err f) k = not_said f k

-- ---- what feeding and ending give

pub in_pieces : (text : List ℕ) (cells : List (Option ℕ)) → (end_of_feeding (fed nothing_fed text) ≡ Ok cells) ↔ IsReadInPieces text cells
in_pieces text cells = (
  λ e. elim (cases_lt longest (length text)) [ inl h ↦ absurd (long h e) | inr h ↦ short h e ],
  λ r.
      whole_fed longest text r.short ∙ read_again text cells r.denoted,
) where
  long : longest < length text → end_of_feeding (fed nothing_fed text) ≡ Ok cells → ⊥
  long h e =
      let c = cut longest text h in
      over_not c.0 cells (ap end_of_feeding (sym (over_fed longest c.0 c.1 c.3 c.4)) ∙ ap (λ (t : List ℕ). end_of_feeding (fed nothing_fed t)) (sym c.2) ∙ e)

  short : length text ≤ longest → end_of_feeding (fed nothing_fed text) ≡ Ok cells → IsReadInPieces text cells
  short h e = record { short = h; denoted = subst (λ (r : Read). SoundRead text r) (sym (whole_fed longest text h) ∙ e) (read_sound text) }

pub refused_in_pieces : (text : List ℕ) (f : TapeFault) → (end_of_feeding (fed nothing_fed text) ≡ Err f) ↔ IsRefusedInPieces text f
refused_in_pieces text f = (λ e. elim (cases_lt longest (length text)) [ inl h ↦ inr (long h e) | inr h ↦ inl (h, short h e) ], again) where
  long : longest < length text → end_of_feeding (fed nothing_fed text) ≡ Err f → IsTooLong text f
  long h e =
      let c = cut longest text h in
      record {
        front = c.0;
        more = c.1;
        spelled = c.2;
        full = c.3;
        some = c.4;
        told = over_told c.0 f (ap end_of_feeding (sym (over_fed longest c.0 c.1 c.3 c.4))
            ∙ ap (λ (t : List ℕ). end_of_feeding (fed nothing_fed t)) (sym c.2) ∙ e);
      }

  short : length text ≤ longest → end_of_feeding (fed nothing_fed text) ≡ Err f → FirstFault text f.kind f.offset
  short h e = subst (λ (r : Read). SoundRead text r) (sym (whole_fed longest text h) ∙ e) (read_sound text)

  again : IsRefusedInPieces text f → end_of_feeding (fed nothing_fed text) ≡ Err f
  again (inl (h, first)) = whole_fed longest text h ∙ fault_again text f.kind f.offset first
  again (inr l) = ap (λ (t : List ℕ). end_of_feeding (fed nothing_fed t)) l.spelled
      ∙ ap end_of_feeding (over_fed longest l.front l.more l.full l.some) ∙ over_again l.front f l.told

-- ---- from an answer to what it says of the text

pub found_in_pieces : (text : List ℕ) (r : Read) → AnswersReading r (end_of_feeding (fed nothing_fed text)) → IfOk r (λ image. IsReadInPieces text image)
found_in_pieces text (Ok image) h = (in_pieces text image).0 h
found_in_pieces text (Err f) h = tt

pub only_in_pieces : (text : List ℕ) (r : Read) → AnswersReading r (end_of_feeding (fed nothing_fed text)) → (cells : List (Option ℕ))
    → IsReadInPieces text cells → (r ≡ Ok cells) ⊎ (r ≡ Err out_of_memory)
only_in_pieces text (Ok image) h cells d = inl (sym h ∙ (in_pieces text cells).1 d)
only_in_pieces text (Err f) (inl m) cells d = inr (ap Err m)
only_in_pieces text (Err f) (inr h) cells d = inl (sym h ∙ (in_pieces text cells).1 d)

pub fault_in_pieces : (text : List ℕ) (r : Read) → AnswersReading r (end_of_feeding (fed nothing_fed text))
    → IfErr r (λ f. (f ≡ out_of_memory) ⊎ IsRefusedInPieces text f)
fault_in_pieces text (Ok image) h = tt
fault_in_pieces text (Err f) (inl m) = inl m
fault_in_pieces text (Err f) (inr h) = inr ((refused_in_pieces text f).0 h)

pub answered_in_pieces : (text : List ℕ) (r : Read) → AnswersReading r (end_of_feeding (fed nothing_fed text)) → (fault : TapeFault)
    → IsRefusedInPieces text fault → (r ≡ Err fault) ⊎ (r ≡ Err out_of_memory)
answered_in_pieces text (Ok image) h fault d = inl (sym h ∙ (refused_in_pieces text fault).1 d)
answered_in_pieces text (Err f) (inl m) fault d = inr (ap Err m)
answered_in_pieces text (Err f) (inr h) fault d = inl (sym h ∙ (refused_in_pieces text fault).1 d)

-- ---- a text in pieces has one answer

pub one_image : (text : List ℕ) (a b : List (Option ℕ)) → IsReadInPieces text a → IsReadInPieces text b → a ≡ b
one_image text a b p q = ap (λ (r : Read). cells_of a r) (sym ((in_pieces text a).1 p) ∙ (in_pieces text b).1 q)

pub one_refusal : (text : List ℕ) (f g : TapeFault) → IsRefusedInPieces text f → IsRefusedInPieces text g → f ≡ g
one_refusal text f g p q = same_fault (end_of_feeding (fed nothing_fed text)) f g ((refused_in_pieces text f).1 p) ((refused_in_pieces text g).1 q)

pub read_or_refused : (text : List ℕ) (cells : List (Option ℕ)) (f : TapeFault) → IsReadInPieces text cells → IsRefusedInPieces text f → ⊥
read_or_refused text cells f p q = not_both (end_of_feeding (fed nothing_fed text)) cells f ((in_pieces text cells).1 p) ((refused_in_pieces text f).1 q)
