-- What is in the grammar is read, and a fault that the grammar names is answered.
use Rattle.std.proofs.Common.{◌≡◌, ℕ, ◌+◌, ◌<◌, ◌≤◌, ◌==◌, min, true, false, List, [], ◌∷◌, ◌++◌, length, Option, Result, Ok, Err, refl, sym, ap, ◌∙◌, arith, append_assoc}
use Rattle.std.specs.List.{list_all, AllByRecursion}
use Rattle.std.proofs.lemmas.Bool.{and_parts, le-ltb, lt-ltb, le-leb, eq-eqb, ne_eqb, false≢true}
use Rattle.std.proofs.lemmas.List.{length-append}
use Rattle.model.specs.Digits.{is_hex_byte}
use Rattle.model.specs.declared.tape.TapeFault.{TapeFault}
use Rattle.papertape.specs.declared.reading.Place.TheVariants.{Between, Within, After}
use Rattle.model.specs.Image.{with_bytes}
use Rattle.model.specs.Tape.{Claim, claim_of, needed, AreAllDigits, Part, gap, record_of, IsPiece, IsData, IsEnd, front_of, count_of, with_records, is_skipped, TapeDenotes}
use Rattle.papertape.specs.Reading.{Progress, after_record, with_digit, step, next_count, run, result_at, read_of, start, ◌>>=◌}
use Rattle.papertape.proofs.Digits.{address_small}
use Rattle.papertape.proofs.Grammar.{next-min}

pub run-append : (xs ys : List ℕ) (offset : ℕ) (s : Progress) → run offset s (xs ++ ys) ≡ (run offset s xs >>= λ t. run (offset + length xs) t ys)
run-append [] ys offset s = ap (λ n. run n s ys) (omega arith)
run-append (x ∷ xs) ys offset s = go (step offset s x) (λ t. run-append xs ys (offset + 1) t) where
  go : (r : Result Progress TapeFault) → ((t : Progress) → run (offset + 1) t (xs ++ ys) ≡ (run (offset + 1) t xs >>= λ u. run (offset + 1 + length xs) u ys))
      → (r >>= λ t. run (offset + 1) t (xs ++ ys)) ≡ ((r >>= λ t. run (offset + 1) t xs) >>= λ u. run (offset + length (x ∷ xs)) u ys)
  go (Err f) h = refl
  go (Ok t) h = h t ∙ ap (λ n. run (offset + 1) t xs >>= λ u. run n u ys) (omega arith)

-- the digits so far are too few while one is still to come
pub few_before : (ds : List ℕ) (b : ℕ) (es : List ℕ) → length (ds ++ b ∷ es) ≤ needed (ds ++ b ∷ es) → length ds < needed ds
few_before [] b es e = omega arith
few_before (d ∷ []) b es e = omega arith
few_before (high ∷ low ∷ ds) b es e = omega (arith, length-append ds (b ∷ es))

pub step_few : (offset b : ℕ) (s : Progress) → s.place ≡ Within → is_hex_byte b ≡ true → length (s.digits ++ b ∷ []) < needed (s.digits ++ b ∷ [])
    → step offset s b ≡ Ok (record s { digits = s.digits ++ b ∷ [] })
unfolding step with_digit
step_few offset b s place hex few = rw (place, hex, lt-ltb _ _ few) refl

step_last : (offset b : ℕ) (s : Progress) → s.place ≡ Within → is_hex_byte b ≡ true → needed (s.digits ++ b ∷ []) ≤ length (s.digits ++ b ∷ [])
    → step offset s b ≡ after_record s (claim_of (s.digits ++ b ∷ []))
unfolding step with_digit
step_last offset b s place hex all = rw (place, hex, le-ltb _ _ all) refl

settled_digits : (s : Progress) (ds : List ℕ) (c : Claim) → after_record (record s { digits = ds }) c ≡ after_record s c
unfolding after_record
settled_digits s ds c = refl

bind-Ok : (r : Result Progress TapeFault) → (r >>= λ t. Ok t) ≡ r
bind-Ok (Ok t) = refl
bind-Ok (Err f) = refl

pub digits_run : (es : List ℕ) (b offset : ℕ) (s : Progress) → s.place ≡ Within → list_all is_hex_byte (b ∷ es) ≡ true
    → length (s.digits ++ b ∷ es) ≡ needed (s.digits ++ b ∷ es)
    → run offset s (b ∷ es) ≡ after_record s (claim_of (s.digits ++ b ∷ es))
digits_run [] b offset s place hexes len =
    ap (λ (r : Result Progress TapeFault). r >>= λ t. Ok t) (step_last offset b s place (and_parts (is_hex_byte b) true hexes).0 (omega (arith, len)))
    ∙ bind-Ok _
digits_run (c ∷ es) b offset s place hexes len =
    let h = and_parts (is_hex_byte b) (list_all is_hex_byte (c ∷ es)) hexes in
    let t : Progress = record s { digits = s.digits ++ b ∷ [] } in
    let same : (s.digits ++ b ∷ []) ++ c ∷ es ≡ s.digits ++ b ∷ c ∷ es = append_assoc s.digits (b ∷ []) (c ∷ es) in
    let whole : length ((s.digits ++ b ∷ []) ++ c ∷ es) ≡ needed ((s.digits ++ b ∷ []) ++ c ∷ es) = rw same len in
    let few : length (s.digits ++ b ∷ []) < needed (s.digits ++ b ∷ []) = few_before (s.digits ++ b ∷ []) c es (omega (arith, whole)) in
    ap (λ (r : Result Progress TapeFault). r >>= λ u. run (offset + 1) u (c ∷ es)) (step_few offset b s place h.0 few)
    ∙ digits_run es c (offset + 1) t place h.1 whole
    ∙ settled_digits s (s.digits ++ b ∷ []) (claim_of ((s.digits ++ b ∷ []) ++ c ∷ es))
    ∙ ap (λ (ds : List ℕ). after_record s (claim_of ds)) same

-- all digits of a record after its `;`
pub record_run : (ds : List ℕ) (offset : ℕ) (s : Progress) → s.place ≡ Between → AreAllDigits ds
    → run offset s (59 ∷ ds) ≡ after_record (record s { place = Within; start = offset }) (claim_of ds)
unfolding step after_record
record_run [] offset s place all = absurd (omega (arith, all.1))
record_run (b ∷ es) offset s place all =
    let t : Progress = record s { place = Within; start = offset; digits = [] } in
    rw place (digits_run es b (offset + 1) t refl all.0 all.1)

not_semicolon : (b : ℕ) → is_skipped b ≡ true → (b == 59) ≡ false
not_semicolon b h = ne_eqb b 59 (λ e. false≢true (rw e at h))

pub gap_step : (offset b : ℕ) (s : Progress) → s.place ≡ Between → is_skipped b ≡ true → step offset s b ≡ Ok s
unfolding step
gap_step offset b s place h = rw (place, not_semicolon b h, h) refl

pub tail_step : (offset b : ℕ) (s : Progress) → s.place ≡ After → is_skipped b ≡ true → step offset s b ≡ Ok s
unfolding step
tail_step offset b s place h = rw (place, h) refl

pub tail_run : (tail : List ℕ) (offset : ℕ) (s : Progress) → s.place ≡ After → list_all is_skipped tail ≡ true → run offset s tail ≡ Ok s
tail_run [] offset s place h = refl
tail_run (b ∷ tail) offset s place h =
    let p = and_parts (is_skipped b) (list_all is_skipped tail) h in
    ap (λ (r : Result Progress TapeFault). r >>= λ u. run (offset + 1) u tail) (tail_step offset b s place p.0) ∙ tail_run tail (offset + 1) s place p.1

-- the state after a data record
abbrev after_data : ℕ → Progress → List ℕ → Progress
after_data offset s ds = record {
  cells = with_bytes s.cells (claim_of ds).address (claim_of ds).bytes;
  count = next_count s.count;
  place =
      Between;
  start = offset;
  digits = [];
}

data_settled : (ds : List ℕ) (offset : ℕ) (s : Progress) → IsData ds
    → after_record (record s { place = Within; start = offset }) (claim_of ds) ≡ Ok (after_data offset s ds)
unfolding after_record
data_settled ds offset s h = rw (eq-eqb _ _ h.checked, ne_eqb (claim_of ds).length 0 (λ e. omega (arith, e, h.some)), le-leb _ _ h.fits) refl

pub end_settled : (ds : List ℕ) (count offset : ℕ) (s : Progress) → IsEnd count ds → s.count ≡ min 65536 count
    → after_record (record s { place = Within; start = offset }) (claim_of ds) ≡ Ok (record s { place = After; start = offset; digits = [] })
unfolding after_record
end_settled ds count offset s h e = rw (
  eq-eqb _ _ h.checked,
  eq-eqb _ _ h.none,
  eq-eqb (claim_of ds).address s.count
      (omega (arith, h.counted, e, address_small ds)),
) refl

-- where pieces lead
pub record Led (offset : ℕ) (s : Progress) (pieces : List Part) (n : ℕ) : Type 0 where
  pub state : Progress
  pub ran : run offset s (front_of pieces) ≡ Ok state
  pub place : state.place ≡ Between
  pub cells : state.cells ≡ with_records s.cells pieces
  pub count : state.count ≡ min 65536 (n + count_of pieces)

pub front_run : (pieces : List Part) (offset : ℕ) (s : Progress) (n : ℕ) → AllByRecursion IsPiece pieces → s.place ≡ Between → s.count ≡ min 65536 n
    → Led offset s pieces n
front_run [] offset s n each place count = record { state = s; ran = refl; place = place; cells = refl; count = omega (arith, count) }
front_run (gap b ∷ pieces) offset s n each place count =
    let l = front_run pieces (offset + 1) s n each.1 place count in
    record {
      state = l.state;
      ran = ap (λ (r : Result Progress TapeFault). r >>= λ t. run (offset + 1) t (front_of pieces)) (gap_step offset b s place each.0) ∙ l.ran;
      place = l.place;
      cells = l.cells;
      count = l.count;
    }
front_run (record_of ds ∷ pieces) offset s n each place count =
    let t = after_data offset s ds in
    let l = front_run pieces (offset + length (59 ∷ ds)) t (1 + n) each.1 refl (next-min s.count n count) in
    record {
      state = l.state;
      ran = run-append (59 ∷ ds) (front_of pieces) offset s
          ∙ ap (λ (r : Result Progress TapeFault). r >>= λ u. run (offset + length (59 ∷ ds)) u (front_of pieces))
          (record_run ds offset s place each.0.all ∙ data_settled ds offset s each.0)
          ∙ l.ran;
      place = l.place;
      cells = l.cells;
      count = l.count ∙ ap (λ k. min 65536 k) (omega arith);
    }

finished_After : (offset : ℕ) (s : Progress) → s.place ≡ After → result_at offset s ≡ Ok s.cells
unfolding result_at
finished_After offset s e = rw e refl

pub read_again : (text : List ℕ) (cells : List (Option ℕ)) → TapeDenotes text cells → read_of text ≡ Ok cells
unfolding read_of
read_again text cells d =
    let l = front_run d.pieces 0 start 0 d.each refl refl in
    let n = 0 + length (front_of d.pieces) in
    let s : Progress = record l.state { place = After; start = n; digits = [] } in
    let ended : run n l.state (59 ∷ d.digits) ≡ Ok s = record_run d.digits n l.state l.place d.end.all
    ∙ end_settled d.digits (count_of d.pieces) n l.state d.end (omega (arith, l.count)) in
    let behind : run n l.state (59 ∷ d.digits ++ d.tail) ≡ Ok s =
    run-append (59 ∷ d.digits) d.tail n l.state ∙ ap (λ (r : Result Progress TapeFault). r >>= λ u. run (n + length (59 ∷ d.digits)) u d.tail) ended
    ∙ tail_run d.tail (n + length (59 ∷ d.digits)) s refl d.rest in
    let all : run 0 start text ≡ Ok s =
    ap (run 0 start) d.spelled ∙ run-append (front_of d.pieces) (59 ∷ d.digits ++ d.tail) 0 start
    ∙ ap (λ (r : Result Progress TapeFault). r >>= λ u. run n u (59 ∷ d.digits ++ d.tail)) l.ran ∙ behind in
    ap (λ (r : Result Progress TapeFault). r >>= λ u. result_at (length text) u) all ∙ finished_After (length text) s refl ∙ ap Ok (l.cells ∙ sym d.union)
