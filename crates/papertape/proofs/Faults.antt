-- A first fault that the grammar names is answered.
use Rattle.std.proofs.Common.{◌≡◌, ◌≢◌, ℕ, ◌+◌, ◌<◌, min, true, false, List, [], ◌∷◌, ◌++◌, length, Option, Result, Ok, Err, refl, sym, ap, ◌∙◌, arith, append_assoc, inl, inr}
use Rattle.std.specs.List.{list_all}
use Rattle.std.proofs.lemmas.Bool.{and_parts, lt-leb, eq-eqb, ne_eqb}
use Rattle.std.proofs.lemmas.List.{length-append, append-nil}
use Rattle.model.specs.Digits.{is_hex_byte}
use Rattle.model.specs.declared.tape.TapeFault.{TapeFault}
use Rattle.model.specs.declared.tape.TapeFaultKind.{TapeFaultKind}
use Rattle.model.specs.declared.tape.TapeFaultKind.TheVariants as kinds
use Rattle.papertape.specs.declared.reading.Place.TheVariants.{Between, Within, After}
use Rattle.model.specs.Tape.{claim_of, needed, AreFewDigits, front_of, count_of, is_skipped, FirstFault, Breaks}
use Rattle.papertape.specs.Reading.{Progress, after_record, step, run, result_at, read_of, start, fault_at, ◌>>=◌}
use Rattle.papertape.proofs.Digits.{address_small}
use Rattle.papertape.proofs.GrammarIsRead.{run-append, step_few, record_run, end_settled, tail_run, front_run}

abbrev Answer : Type 0
Answer = Result (List (Option ℕ)) TapeFault

abbrev fault : TapeFaultKind → ℕ → Answer
fault kind offset = Err (record { offset = offset; kind = kind })

-- the answer of a run from a state
abbrev answer : ℕ → Progress → List ℕ → Answer
answer n s rest = run n s rest >>= λ t. result_at (n + length rest) t

answer_run : (n : ℕ) (s t : Progress) (rest : List ℕ) → run n s rest ≡ Ok t → answer n s rest ≡ result_at (n + length rest) t
answer_run n s t rest e = ap (λ (r : Result Progress TapeFault). r >>= λ u. result_at (n + length rest) u) e

answer_fault : (n : ℕ) (s : Progress) (rest more : List ℕ) (f : TapeFault) → run n s rest ≡ Err f → answer n s (rest ++ more) ≡ Err f
answer_fault n s rest more f e =
    ap (λ (r : Result Progress TapeFault). r >>= λ u. result_at (n + length (rest ++ more)) u)
    (run-append rest more n s ∙ ap (λ (r : Result Progress TapeFault). r >>= λ u. run (n + length rest) u more) e)

-- some of the digits of a record
few_run : (es : List ℕ) (n : ℕ) (s : Progress) → s.place ≡ Within → list_all is_hex_byte es ≡ true → length (s.digits ++ es) < needed (s.digits ++ es)
    → run n s es ≡ Ok (record s { digits = s.digits ++ es })
few_run [] n s place hex few = ap (λ (ds : List ℕ). Ok (record s { digits = ds })) (sym (append-nil s.digits))
few_run (b ∷ es) n s place hex few =
    let h = and_parts (is_hex_byte b) (list_all is_hex_byte es) hex in
    let t : Progress = record s { digits = s.digits ++ b ∷ [] } in
    let same : (s.digits ++ b ∷ []) ++ es ≡ s.digits ++ b ∷ es = append_assoc s.digits (b ∷ []) es in
    let all : length ((s.digits ++ b ∷ []) ++ es) < needed ((s.digits ++ b ∷ []) ++ es) = rw same few in
    ap (λ (r : Result Progress TapeFault). r >>= λ u. run (n + 1) u es) (step_few n b s place h.0 (front_few (s.digits ++ b ∷ []) es all))
    ∙ few_run es (n + 1) t place h.1 all ∙ ap (λ (ds : List ℕ). Ok (record s { digits = ds })) same where
      front_few : (ds es : List ℕ) → length (ds ++ es) < needed (ds ++ es) → length ds < needed ds
      front_few [] es h = omega arith
      front_few (d ∷ []) es h = omega arith
      front_few (x ∷ y ∷ ds) es h = omega (arith, length-append ds es)

begin_run : (ds : List ℕ) (n : ℕ) (s : Progress) → s.place ≡ Between → AreFewDigits ds
    → run n s (59 ∷ ds) ≡ Ok (record s { place = Within; start = n; digits = ds })
unfolding step
begin_run ds n s place few = rw place (few_run ds (n + 1) (record s { place = Within; start = n; digits = [] }) refl few.0 few.1)

finished_Within : (n : ℕ) (s : Progress) → s.place ≡ Within → result_at n s ≡ fault kinds.Truncated n
unfolding result_at
finished_Within n s e = rw e refl

finished_none : (n : ℕ) (s : Progress) → s.place ≡ Between → s.count ≡ 0 → result_at n s ≡ fault kinds.NoRecord n
unfolding result_at
finished_none n s e c = rw (e, eq-eqb _ _ c) refl

finished_some : (n : ℕ) (s : Progress) → s.place ≡ Between → s.count ≢ 0 → result_at n s ≡ fault kinds.Truncated n
unfolding result_at
finished_some n s e c = rw (e, ne_eqb _ _ c) refl

junk_step : (n b : ℕ) (s : Progress) → s.place ≡ Between → b ≢ 59 → is_skipped b ≡ false → step n s b ≡ fault_at kinds.JunkBetween n
unfolding step
junk_step n b s e h k = rw (e, ne_eqb b 59 h, k) refl

hex_step : (n b : ℕ) (s : Progress) → s.place ≡ Within → is_hex_byte b ≡ false → step n s b ≡ fault_at kinds.BadHex n
unfolding step
hex_step n b s e h = rw (e, h) refl

after_step : (n b : ℕ) (s : Progress) → s.place ≡ After → is_skipped b ≡ false → step n s b ≡ fault_at kinds.JunkAfterEnd n
unfolding step
after_step n b s e h = rw (e, h) refl

sum_settled : (ds : List ℕ) (n : ℕ) (s : Progress) → (claim_of ds).sum ≢ (claim_of ds).checksum
    → after_record (record s { place = Within; start = n }) (claim_of ds) ≡ fault_at kinds.BadChecksum n
unfolding after_record
sum_settled ds n s h = rw (ne_eqb _ _ h) refl

past_settled : (ds : List ℕ) (n : ℕ) (s : Progress) → 0 < (claim_of ds).length → (claim_of ds).sum ≡ (claim_of ds).checksum
    → 65536 < (claim_of ds).address + (claim_of ds).length
    → after_record (record s { place = Within; start = n }) (claim_of ds) ≡ fault_at kinds.PastEnd n
unfolding after_record
past_settled ds n s some same far = rw (eq-eqb _ _ same, ne_eqb (claim_of ds).length 0 (λ e. omega (arith, e, some)), lt-leb _ _ far) refl

count_settled : (ds : List ℕ) (n count : ℕ) (s : Progress) → (claim_of ds).length ≡ 0 → (claim_of ds).sum ≡ (claim_of ds).checksum
    → (claim_of ds).address ≢ count → s.count ≡ min 65536 count
    → after_record (record s { place = Within; start = n }) (claim_of ds) ≡ fault_at kinds.BadCount n
unfolding after_record
count_settled ds n count s none same other e = rw (
  eq-eqb _ _ same,
  eq-eqb _ _ none,
  ne_eqb (claim_of ds).address s.count
      (λ h. other (omega (arith, h, e, address_small ds))),
) refl

-- a byte that is refused, after what was read
byte_fault : (n : ℕ) (s t : Progress) (front : List ℕ) (b : ℕ) (more : List ℕ) (f : TapeFault) → run n s front ≡ Ok t
    → step (n + length front) t b ≡ Err f → answer n s (front ++ b ∷ more) ≡ Err f
byte_fault n s t front b more f r e =
    let one : run n s (front ++ b ∷ []) ≡ Err f = run-append front (b ∷ []) n s
    ∙ ap (λ (x : Result Progress TapeFault). x >>= λ u. run (n + length front) u (b ∷ [])) r ∙ ap (λ (x : Result Progress TapeFault). x >>= λ u. Ok u) e in
    ap (answer n s) (sym (append_assoc front (b ∷ []) more)) ∙ answer_fault n s (front ++ b ∷ []) more f one

breaks_answer : (kind : TapeFaultKind) (n count : ℕ) (s : Progress) (rest : List ℕ) (place : ℕ) → s.place ≡ Between → s.count ≡ min 65536 count
    → Breaks kind count rest place → answer n s rest ≡ fault kind (n + place)
breaks_answer kinds.NoRecord n count s rest place b c (none, e, z) =
    ap (answer n s) e ∙ ap (λ k. result_at k s) (omega arith) ∙ finished_none (n + place) s b (omega (arith, c, none))
breaks_answer kinds.JunkBetween n count s rest place b c (x, more, e, k, h, z) =
    ap (answer n s) e ∙ answer_fault n s (x ∷ []) more (record { offset = n; kind = kinds.JunkBetween })
    (ap (λ (r : Result Progress TapeFault). r >>= λ u. Ok u) (junk_step n x s b h k)) ∙ ap (fault kinds.JunkBetween) (omega arith)
breaks_answer kinds.BadHex n count s rest place b c (ds, x, more, e, few, h, z) =
    ap (answer n s) e ∙ byte_fault n s _ (59 ∷ ds) x more (record { offset = n + length (59 ∷ ds); kind = kinds.BadHex }) (begin_run ds n s b few)
    (hex_step (n + length (59 ∷ ds)) x (record s { place = Within; start = n; digits = ds }) refl h) ∙ ap (fault kinds.BadHex) (omega arith)
breaks_answer kinds.Truncated n count s rest place b c (inl (some, e, z)) =
    ap (answer n s) e ∙ ap (λ k. result_at k s) (omega arith) ∙ finished_some (n + place) s b (λ h. some (omega (arith, h, c)))
breaks_answer kinds.Truncated n count s rest place b c (inr (ds, e, few, z)) =
    ap (answer n s) e ∙ answer_run n s (record s { place = Within; start = n; digits = ds }) (59 ∷ ds) (begin_run ds n s b few)
    ∙ finished_Within (n + length (59 ∷ ds)) (record s { place = Within; start = n; digits = ds }) refl ∙ ap (fault kinds.Truncated) (omega arith)
breaks_answer kinds.BadChecksum n count s rest place b c (ds, more, e, all, h, z) =
    ap (answer n s) e ∙ answer_fault n s (59 ∷ ds) more (record { offset = n; kind = kinds.BadChecksum })
    (record_run ds n s b all ∙ sum_settled ds n s h) ∙ ap (fault kinds.BadChecksum) (omega arith)
breaks_answer kinds.PastEnd n count s rest place b c (ds, more, e, all, some, same, far, z) =
    ap (answer n s) e ∙ answer_fault n s (59 ∷ ds) more (record { offset = n; kind = kinds.PastEnd })
    (record_run ds n s b all ∙ past_settled ds n s some same far) ∙ ap (fault kinds.PastEnd) (omega arith)
breaks_answer kinds.BadCount n count s rest place b c (ds, more, e, all, none, same, other, z) =
    ap (answer n s) e ∙ answer_fault n s (59 ∷ ds) more (record { offset = n; kind = kinds.BadCount })
    (record_run ds n s b all ∙ count_settled ds n count s none same other c) ∙ ap (fault kinds.BadCount) (omega arith)
breaks_answer kinds.JunkAfterEnd n count s rest place b c (ds, tail, x, more, e, end, skipped, k, z) =
    let t : Progress = record s { place = After; start = n; digits = [] } in
    let ended : run n s (59 ∷ ds) ≡ Ok t = record_run ds n s b end.all ∙ end_settled ds count n s end c in
    let behind : run n s (59 ∷ (ds ++ tail)) ≡ Ok t = run-append (59 ∷ ds) tail n s
    ∙ ap (λ (r : Result Progress TapeFault). r >>= λ u. run (n + length (59 ∷ ds)) u tail) ended ∙ tail_run tail (n + length (59 ∷ ds)) t refl skipped in
    ap (answer n s) (e ∙ ap (λ (y : List ℕ). 59 ∷ y) (sym (append_assoc ds tail (x ∷ more))))
    ∙ byte_fault n s t (59 ∷ (ds ++ tail)) x more (record { offset = n + length (59 ∷ (ds ++ tail)); kind = kinds.JunkAfterEnd }) behind
    (after_step (n + length (59 ∷ (ds ++ tail))) x t refl k)
    ∙ ap (fault kinds.JunkAfterEnd) (omega (arith, length-append ds tail))
breaks_answer kinds.OutOfMemory n count s rest place b c h = absurd h
breaks_answer kinds.TooLong n count s rest place b c h = absurd h

pub fault_again : (text : List ℕ) (kind : TapeFaultKind) (offset : ℕ) → FirstFault text kind offset → read_of text ≡ fault kind offset
unfolding read_of
fault_again text kind offset f =
    let l = front_run f.pieces 0 start 0 f.each refl refl in
    let n = length (front_of f.pieces) in
    let ran : run 0 start text ≡ run n l.state f.rest =
    ap (run 0 start) f.spelled ∙ run-append (front_of f.pieces) f.rest 0 start
    ∙ ap (λ (r : Result Progress TapeFault). r >>= λ u. run (0 + n) u f.rest) l.ran ∙ ap (λ k. run k l.state f.rest) (omega arith) in
    let len : length text ≡ n + length f.rest = ap length f.spelled ∙ length-append (front_of f.pieces) f.rest in
    ap (λ (r : Result Progress TapeFault). r >>= λ u. result_at (length text) u) ran
    ∙ ap (λ k. run n l.state f.rest >>= λ u. result_at k u) len
    ∙ breaks_answer kind n (count_of f.pieces) l.state f.rest f.place l.place (omega (arith, l.count)) f.breaks
    ∙ ap (fault kind) (sym f.there)
