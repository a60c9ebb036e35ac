-- A text that is fed in pieces gives what it gives whole.
use Rattle.std.proofs.Common.{◌≡◌, ℕ, eqb, cond, List, [], ◌∷◌, ◌++◌, length, take, Option, Result, Ok, Err, refl, sym, ap, ◌∙◌, arith, inl, inr}
use Rattle.std.specs.Io.BufRead.{strip_last}
use Rattle.std.proofs.lemmas.Bool.{cases_Bool, cases_lt, lt-ltb, le-ltb}
use Rattle.std.proofs.lemmas.List.{length-append, length-take-le, take_all, take-append-le}
use Rattle.model.specs.TextLines.{lines_from, lines_of, last_line, no_line}
use Rattle.image_reader.specs.declared.fault.LineFault.{LineFault}
use Rattle.image_reader.specs.declared.fault.RecordFault.{RecordFault}
use Rattle.image_reader.specs.declared.form.TextForm.{TextForm}
use Rattle.image_reader.specs.Feeding.{Begun, Fed, all_read, end_of_feeding, fed, fed_byte, held_with, line_ended, nothing_fed, overlaps_of_feeding}
use Rattle.image_reader.specs.Progress.{Progress, start}
use Rattle.image_reader.specs.Records.{◌>>=◌}
use Rattle.image_reader.specs.Texts.{after_lines, finished, in_line, next_line, numbered, read_line, text_image, text_overlaps}
use Rattle.image_reader.proofs.Fronts.{held_line, last_held}

abbrev Image : Type 0
Image = Result (List (Option ℕ)) RecordFault

abbrev Lines : Type 0
Lines = Result (ℕ × Progress) RecordFault

abbrev Step : Type 0
Step = Result Progress LineFault

-- ---- pieces

pub fed-append : (xs ys : List ℕ) (s : Fed) → fed s (xs ++ ys) ≡ fed (fed s xs) ys
fed-append [] ys s = refl
fed-append (x ∷ xs) ys s = fed-append xs ys (s >>= fed_byte x)

pub fed-Err : (xs : List ℕ) (f : RecordFault) → fed (Err f) xs ≡ Err f
fed-Err [] f = refl
fed-Err (x ∷ xs) f = fed-Err xs f

-- ---- lines

-- what of a text is behind its last LF
abbrev tail_from : List ℕ → List ℕ → List ℕ
tail_from begun [] = begun
tail_from begun (b ∷ bytes) = cond (eqb b 10) (tail_from [] bytes) (tail_from (begun ++ b ∷ []) bytes)

abbrev begin : ℕ → Progress → List ℕ → Begun
begin n s held = record { progress = s; line = n; held = held }

abbrev begun_at : List ℕ → ℕ × Progress → Fed
begun_at tail t = Ok (begin t.0 t.1 (take 523 tail))

held_more : (begun : List ℕ) (b : ℕ) → held_with (take 523 begun) b ≡ take 523 (begun ++ b ∷ [])
held_more begun b = elim (cases_lt (length begun) 523) [
  | inl room ↦
      let all : take 523 begun ≡ begun = take_all 523 begun (omega (arith, room)) in
      ap (λ (l : List ℕ). held_with l b) all
      ∙ rw (lt-ltb (length begun) 523 room) (sym (take_all 523 (begun ++ b ∷ []) (omega (arith, room, length-append begun (b ∷ [])))))
  | inr full ↦
      let n : length (take 523 begun) ≡ 523 = length-take-le 523 begun full in
      rw (le-ltb (length (take 523 begun)) 523 (omega (arith, n))) (sym (take-append-le 523 begun (b ∷ []) full))
]

-- what the lines behind one that has ended lead to
abbrev Later : List ℕ → ℕ → Progress → Type 0
Later bytes n t = fed (Ok (begin n t [])) bytes ≡ (after_lines n t (lines_from no_line [] bytes) >>= begun_at (tail_from [] bytes))

line_led : (bytes : List ℕ) (n : ℕ) (r : Step) → ((t : Progress) → Later bytes (next_line n) t)
    → fed (numbered n r >>= λ t. Ok (begin (next_line n) t [])) bytes
    ≡ ((numbered n r >>= λ t. after_lines (next_line n) t (lines_from no_line [] bytes)) >>= begun_at (tail_from [] bytes))
line_led bytes n (Err f) later = fed-Err bytes (in_line n f)
line_led bytes n (Ok t) later = later t

fed_led : (text begun held : List ℕ) (n : ℕ) (s : Progress) → held ≡ take 523 begun
    → fed (Ok (begin n s held)) text ≡ (after_lines n s (lines_from no_line begun text) >>= begun_at (tail_from begun text))
unfolding lines_from fed_byte line_ended
fed_led [] begun held n s e = ap (λ (h : List ℕ). Ok (begin n s h)) e
fed_led (b ∷ bytes) begun held n s e =
    let later : (t : Progress) → Later bytes (next_line n) t = λ t. fed_led bytes [] [] (next_line n) t refl in
    let longer = fed_led bytes (begun ++ b ∷ []) (take 523 (begun ++ b ∷ [])) n s refl in
    elim (cases_Bool (eqb b 10)) [
      | inl ends ↦ rw ends (
          ap (λ (h : List ℕ). fed (numbered n (read_line s (strip_last 13 h)) >>= λ t. Ok (begin (next_line n) t [])) bytes) e
          ∙ ap (λ (r : Step). fed (numbered n r >>= λ t. Ok (begin (next_line n) t [])) bytes) (held_line s begun)
          ∙ line_led bytes n (read_line s (strip_last 13 begun)) later)
      | inr other ↦ rw other (
          ap (λ (h : List ℕ). fed (Ok (begin n s h)) bytes) (ap (λ (h : List ℕ). held_with h b) e ∙ held_more begun b)
          ∙ longer)
    ]

lines_split : (text begun : List ℕ) → lines_from last_line begun text ≡ lines_from no_line begun text ++ last_line (tail_from begun text)
unfolding lines_from
lines_split [] begun = refl
lines_split (b ∷ bytes) begun = elim (cases_Bool (eqb b 10)) [
  | inl ends ↦ rw ends (ap (λ (l : List (List ℕ)). strip_last 13 begun ∷ l) (lines_split bytes []))
  | inr other ↦ rw other (lines_split bytes (begun ++ b ∷ []))
]

line_append : (xs ys : List (List ℕ)) (n : ℕ) (r : Step)
    → ((t : Progress) → after_lines (next_line n) t (xs ++ ys) ≡ (after_lines (next_line n) t xs >>= λ u. after_lines u.0 u.1 ys))
    → (numbered n r >>= λ t. after_lines (next_line n) t (xs ++ ys))
    ≡ ((numbered n r >>= λ t. after_lines (next_line n) t xs) >>= λ u. after_lines u.0 u.1 ys)
line_append xs ys n (Err f) later = refl
line_append xs ys n (Ok t) later = later t

after_append : (xs ys : List (List ℕ)) (n : ℕ) (s : Progress) → after_lines n s (xs ++ ys) ≡ (after_lines n s xs >>= λ t. after_lines t.0 t.1 ys)
after_append [] ys n s = refl
after_append (x ∷ xs) ys n s = line_append xs ys n (read_line s x) (λ t. after_append xs ys (next_line n) t)

abbrev end_lines : ℕ × Progress → Image
end_lines t = finished t.0 t.1

abbrev again_of : ℕ × Progress → Image
again_of t = Ok t.1.again

ended_is : (tail : List ℕ) (n : ℕ) (s : Progress) → all_read (begin n s (take 523 tail)) ≡ after_lines n s (last_line tail)
unfolding all_read
ended_is [] n s = refl
ended_is (b ∷ bytes) n s = ap (λ (r : Step). numbered n r >>= λ t. Ok (next_line n, t)) (last_held s (b ∷ bytes))

-- what the reader has read at the end is what the lines lead to
fed_lines : (form : TextForm) (text : List ℕ) → (fed (nothing_fed form) text >>= all_read) ≡ after_lines 1 (start form) (lines_of text)
fed_lines form text =
    let ended = lines_from no_line [] text in
    let tail = tail_from [] text in
    ap (λ (s : Fed). s >>= all_read) (fed_led text [] [] 1 (start form) refl)
    ∙ go tail (after_lines 1 (start form) ended)
    ∙ sym (ap (after_lines 1 (start form)) (lines_split text []) ∙ after_append ended (last_line tail) 1 (start form)) where
      go : (tail : List ℕ) (r : Lines) → ((r >>= begun_at tail) >>= all_read) ≡ (r >>= λ t. after_lines t.0 t.1 (last_line tail))
      go tail (Err f) = refl
      go tail (Ok t) = ended_is tail t.0 t.1

-- what the reader answers at the end is what the text gives
pub fed_text : (form : TextForm) (text : List ℕ) → end_of_feeding (fed (nothing_fed form) text) ≡ text_image form text
unfolding text_image
fed_text form text = ap (λ (r : Lines). r >>= end_lines) (fed_lines form text)

pub fed_overlaps : (form : TextForm) (text : List ℕ) → overlaps_of_feeding (fed (nothing_fed form) text) ≡ text_overlaps form text
unfolding text_overlaps
fed_overlaps form text = ap (λ (r : Lines). r >>= again_of) (fed_lines form text)

-- ---- while it still goes on

-- a fault on the way is the text's, however it goes on
pub refused_already : (form : TextForm) (front more : List ℕ) (f : RecordFault) → fed (nothing_fed form) front ≡ Err f → text_image form (front ++ more) ≡ Err f
refused_already form front more f e =
    sym (fed_text form (front ++ more)) ∙ ap end_of_feeding (fed-append front more (nothing_fed form) ∙ ap (λ (s : Fed). fed s more) e ∙ fed-Err more f)

-- if there is none, the lines that have ended have none
pub goes_on : (form : TextForm) (front : List ℕ) (r : Begun) → fed (nothing_fed form) front ≡ Ok r → (t : ℕ × Progress)
    × (after_lines 1 (start form) (lines_from no_line [] front) ≡ Ok t)
goes_on form front r e = go (after_lines 1 (start form) (lines_from no_line [] front)) (sym (fed_led front [] [] 1 (start form) refl) ∙ e) where
  go : (l : Lines) → (l >>= begun_at (tail_from [] front)) ≡ Ok r → (t : ℕ × Progress) × (l ≡ Ok t)
  go (Ok t) k = (t, refl)
  go (Err f) k = absurd cc
