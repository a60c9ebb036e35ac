-- Bytes that may stand between records change nothing of what was read.
use Rattle.std.proofs.Common.{◌≡◌, ◌≢◌, ℕ, ◌+◌, ◌-◌, ◌<◌, ◌≤◌, true, List, [], ◌∷◌, length, Option, None, Ok, refl, sym, ap, ◌∙◌, arith}
use Rattle.std.specs.List.{list_all}
use Rattle.std.proofs.lemmas.Bool.{and_parts, lt-leb}
use Rattle.model.specs.declared.tape.TapeFault.{TapeFault}
use Rattle.papertape.specs.declared.reading.Place.{Place}
use Rattle.papertape.specs.declared.reading.Place.TheVariants.{Between, Within, After}
use Rattle.model.specs.Tape.{is_skipped}
use Rattle.papertape.specs.Reading.{Progress, step}
use Rattle.papertape.specs.Feeding.{Fed, fed_byte, fed_up_to, fed_of}
use Rattle.papertape.proofs.GrammarIsRead.{gap_step, tail_step}

skip_in : (p : Place) (offset b : ℕ) (s : Progress) → s.place ≡ p → p ≢ Within → is_skipped b ≡ true → step offset s b ≡ Ok s
skip_in Between offset b s e ne h = gap_step offset b s e h
skip_in Within offset b s e ne h = absurd (ne refl)
skip_in After offset b s e ne h = tail_step offset b s e h

skip_one : (limit offset b : ℕ) (s : Progress) → s.place ≢ Within → offset < limit → is_skipped b ≡ true → fed_byte limit (offset, s) b ≡ Ok (offset + 1, s)
skip_one limit offset b s ne below h = rw (lt-leb limit offset below, skip_in s.place offset b s refl ne h) refl

skipped_are_fed : (bytes : List ℕ) (limit offset : ℕ) (s : Progress) → s.place ≢ Within → length bytes ≤ limit - offset → list_all is_skipped bytes ≡ true
    → fed_up_to limit (Ok (offset, s)) bytes ≡ Ok (offset + length bytes, s)
skipped_are_fed [] limit offset s ne le h = ap (λ (n : ℕ). Ok (n, s)) (omega arith)
skipped_are_fed (b ∷ bytes) limit offset s ne le h =
    let p = and_parts (is_skipped b) (list_all is_skipped bytes) h in
    ap (λ (r : Fed). fed_up_to limit r bytes) (skip_one limit offset b s ne (omega (arith, le)) p.0)
    ∙ skipped_are_fed bytes limit (offset + 1) s ne (omega (arith, le)) p.1
    ∙ ap (λ (n : ℕ). Ok (n, s)) (omega arith)

-- so a reader that has not failed only counts them
pub skipped_are_counted : (failed : Option TapeFault) (limit offset : ℕ) (s : Progress) (bytes : List ℕ) → failed ≡ None → s.place ≢ Within
    → length bytes ≤ limit - offset
    → list_all is_skipped bytes ≡ true → fed_of failed (offset + length bytes) s ≡ fed_up_to limit (fed_of failed offset s) bytes
skipped_are_counted failed limit offset s bytes none ne le h = rw none (sym (skipped_are_fed bytes limit offset s ne le h))
