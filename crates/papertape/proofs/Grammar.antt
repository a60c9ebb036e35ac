-- What the reading machine has seen, in the words of the grammar.
use Rattle.std.proofs.Common.{◌≡◌, ℕ, ◌+◌, ◌<◌, ◌==◌, min, ltb, leb, true, List, [], ◌∷◌, ◌++◌, length, Option, Result, Ok, Err, refl, sym, ap, subst, ◌∙◌, arith, append_assoc, inl, inr}
use Rattle.std.specs.List.{list_all, AllByRecursion}
use Rattle.std.proofs.lemmas.Bool.{and_from, ltb-true, ltb-false, leb-true, leb-false, eqb-true, eqb-false, cases_Bool}
use Rattle.std.proofs.lemmas.List.{length-append, append-nil}
use Rattle.model.specs.Digits.{is_hex_byte}
use Rattle.model.specs.declared.tape.TapeFault.{TapeFault}
use Rattle.papertape.specs.declared.reading.Place.{Place}
use Rattle.papertape.specs.declared.reading.Place.TheVariants.{Between, Within, After}
use Rattle.model.specs.Image.{empty_image, with_bytes}
use Rattle.model.specs.Tape.{Claim, claim_of, needed, AreFewDigits, AreAllDigits, Part, gap, record_of, IsPiece, IsEnd, front_of, count_of, with_records, text_of, is_skipped, TapeDenotes, FirstFault}
use Rattle.papertape.specs.Reading.{Progress, after_record, with_digit, step, step_in, next_count, run, result_at, result_in, read_of, start, ◌>>=◌}
use Rattle.papertape.proofs.Digits.{just_needed, address_small}
use Rattle.papertape.proofs.Steps.{list_all-append}

-- pieces were read
pub record Front (pieces : List Part) (s : Progress) : Type 0 where
  pub each : AllByRecursion IsPiece pieces
  pub cells : s.cells ≡ with_records empty_image pieces
  pub count : s.count ≡ min 65536 (count_of pieces)

abbrev pub Reached : List ℕ → Progress → Place → Type 0
Reached text s Between = (pieces : List Part) × Front pieces s × (text ≡ front_of pieces) × (s.digits ≡ [])
Reached text s Within = (pieces : List Part) × Front pieces s × (text ≡ front_of pieces ++ (59 ∷ s.digits)) × AreFewDigits s.digits
    × (s.start ≡ length (front_of pieces))
Reached text s After = (pieces : List Part) × Front pieces s × (digits : List ℕ) × (tail : List ℕ) × (text ≡ front_of pieces ++ (59 ∷ digits ++ tail))
    × IsEnd (count_of pieces) digits × (list_all is_skipped tail ≡ true)

-- one more byte
abbrev pub Sound : List ℕ → ℕ → Result Progress TapeFault → Type 0
Sound text b (Ok t) = Reached (text ++ b ∷ []) t t.place
Sound text b (Err f) = (more : List ℕ) → FirstFault (text ++ b ∷ more) f.kind f.offset

front_of-push : (ps : List Part) (p : Part) → front_of (ps ++ p ∷ []) ≡ front_of ps ++ text_of p
front_of-push [] p = append-nil (text_of p)
front_of-push (q ∷ ps) p = ap (λ (t : List ℕ). text_of q ++ t) (front_of-push ps p) ∙ sym (append_assoc (text_of q) (front_of ps) (text_of p))

each-push : (ps : List Part) (p : Part) → AllByRecursion IsPiece ps → IsPiece p → AllByRecursion IsPiece (ps ++ p ∷ [])
each-push [] p h k = (k, tt)
each-push (q ∷ ps) p h k = (h.0, each-push ps p h.1 k)

written-push_gap : (cells : List (Option ℕ)) (ps : List Part) (b : ℕ) → with_records cells (ps ++ gap b ∷ []) ≡ with_records cells ps
written-push_gap cells [] b = refl
written-push_gap cells (gap x ∷ ps) b = written-push_gap cells ps b
written-push_gap cells (record_of ds ∷ ps) b = written-push_gap (with_bytes cells (claim_of ds).address (claim_of ds).bytes) ps b

written-push : (cells : List (Option ℕ)) (ps : List Part) (ds : List ℕ)
    → with_records cells (ps ++ record_of ds ∷ []) ≡ with_bytes (with_records cells ps) (claim_of ds).address (claim_of ds).bytes
written-push cells [] ds = refl
written-push cells (gap x ∷ ps) ds = written-push cells ps ds
written-push cells (record_of es ∷ ps) ds = written-push (with_bytes cells (claim_of es).address (claim_of es).bytes) ps ds

count-push_gap : (ps : List Part) (b : ℕ) → count_of (ps ++ gap b ∷ []) ≡ count_of ps
count-push_gap [] b = refl
count-push_gap (gap x ∷ ps) b = count-push_gap ps b
count-push_gap (record_of ds ∷ ps) b = ap (λ n. 1 + n) (count-push_gap ps b)

count-push : (ps : List Part) (ds : List ℕ) → count_of (ps ++ record_of ds ∷ []) ≡ 1 + count_of ps
count-push [] ds = refl
count-push (gap x ∷ ps) ds = count-push ps ds
count-push (record_of es ∷ ps) ds = ap (λ n. 1 + n) (count-push ps ds)

pub next-min : (n m : ℕ) → n ≡ min 65536 m → next_count n ≡ min 65536 (1 + m)
next-min n m e = elim (cases_Bool (ltb n 65536)) [
  | inl t ↦ let lt = ltb-true n 65536 t in rw t (omega arith)
  | inr f ↦ let ge = ltb-false n 65536 f in rw f (omega arith)
]

-- the text after a front, one byte longer
longer : (front : List ℕ) (digits : List ℕ) (b : ℕ) → (front ++ (59 ∷ digits)) ++ b ∷ [] ≡ front ++ (59 ∷ (digits ++ b ∷ []))
longer front digits b = append_assoc front (59 ∷ digits) (b ∷ [])

-- all digits of a record are there
settled_sound : (text : List ℕ) (s : Progress) (b : ℕ) (digits : List ℕ) (pieces : List Part) → Front pieces s → s.start ≡ length (front_of pieces)
    → text ++ b ∷ [] ≡ front_of pieces ++ (59 ∷ digits) → AreAllDigits digits
    → Sound text b (after_record s (claim_of digits))
unfolding after_record
settled_sound text s b digits pieces front at spelled all =
    let c : Claim = claim_of digits in
    let whole : (more : List ℕ) → text ++ b ∷ more ≡ front_of pieces ++ (59 ∷ (digits ++ more)) =
    λ more. sym (append_assoc text (b ∷ []) more) ∙ ap (λ (t : List ℕ). t ++ more) spelled ∙ append_assoc (front_of pieces) (59 ∷ digits) more in
    elim (cases_Bool (c.sum == c.checksum)) [
      | inr e ↦ rw e (λ more. record {
        pieces = pieces;
        rest = 59 ∷ (digits ++ more);
        place = 0;
        spelled = whole more;
        each = front.each;
        breaks =
            (digits, more, refl, all, eqb-false _ _ e, refl);
        there = omega (arith, at);
      })
      | inl e ↦
          let same = eqb-true _ _ e in
          rw e (elim (cases_Bool (c.length == 0)) [
            | inl z ↦
                let none = eqb-true _ _ z in
                rw z (elim (cases_Bool (c.address == s.count)) [
                  | inl k ↦
                      let counted : c.address ≡ count_of pieces = omega (arith, eqb-true _ _ k, front.count, address_small digits) in
                      rw k (
                        pieces,
                        record { each = front.each; cells = front.cells; count = front.count },
                        digits,
                        [],
                        spelled
                            ∙ ap (λ (t : List ℕ). front_of pieces ++ (59 ∷ t)) (sym (append-nil digits)),
                        record
                            { all = all; none = none; checked = same; counted = counted },
                        refl,
                      )
                  | inr k ↦ rw k (λ more. record {
                    pieces = pieces;
                    rest = 59 ∷ (digits ++ more);
                    place = 0;
                    spelled = whole more;
                    each =
                        front.each;
                    breaks = (
                      digits,
                      more,
                      refl,
                      all,
                      none,
                      same,
                      (λ h. eqb-false _ _ k (omega (arith, h, front.count, address_small digits))),
                      refl,
                    );
                    there = omega (arith, at);
                  })
                ])
            | inr z ↦
                let some : 0 < c.length = omega (arith, eqb-false _ _ z) in
                rw z (elim (cases_Bool (leb (c.address + c.length) 65536)) [
                  | inl k ↦
                      let fits = leb-true _ _ k in
                      rw k (
                        pieces ++ record_of digits ∷ [],
                        record {
                          each = each-push pieces (record_of digits) front.each (record { all = all; some = some; checked = same; fits = fits });
                          cells = ap (λ (x : List (Option ℕ)). with_bytes x c.address c.bytes) front.cells ∙ sym (written-push empty_image pieces digits);
                          count = next-min s.count (count_of pieces) front.count ∙ ap (λ n. min 65536 n) (sym (count-push pieces digits));
                        },
                        spelled ∙ sym (front_of-push pieces (record_of digits)),
                        refl,
                      )
                  | inr k ↦ rw k (λ more. record {
                    pieces = pieces;
                    rest = 59 ∷ (digits ++ more);
                    place = 0;
                    spelled = whole more;
                    each =
                        front.each;
                    breaks = (digits, more, refl, all, some, same, leb-false _ _ k, refl);
                    there = omega (arith, at);
                  })
                ])
          ])
    ]

digit_sound : (text : List ℕ) (s : Progress) (b : ℕ) (pieces : List Part) → Front pieces s → text ≡ front_of pieces ++ (59 ∷ s.digits)
    → AreFewDigits s.digits → s.start ≡ length (front_of pieces) → s.place ≡ Within → is_hex_byte b ≡ true
    → Sound text b (with_digit s b)
unfolding with_digit
digit_sound text s b pieces front spelled few at place hex =
    let digits : List ℕ = s.digits ++ b ∷ [] in
    let more : text ++ b ∷ [] ≡ front_of pieces ++ (59 ∷ digits) = ap (λ (t : List ℕ). t ++ b ∷ []) spelled ∙ longer (front_of pieces) s.digits b in
    let hexes : list_all is_hex_byte digits ≡ true = list_all-append is_hex_byte s.digits (b ∷ []) few.0 (and_from (is_hex_byte b) true hex refl) in
    elim (cases_Bool (ltb (length digits) (needed digits))) [
      | inl t ↦ rw t (rw place (pieces, record { each = front.each; cells = front.cells; count = front.count }, more, (hexes, ltb-true _ _ t), at))
      | inr f ↦ rw f (settled_sound text s b digits pieces front at more (hexes, just_needed s.digits b few.1 (ltb-false _ _ f)))
    ]

step_in_sound : (text : List ℕ) (s : Progress) (b : ℕ) (p : Place) → s.place ≡ p → Reached text s p → Sound text b (step_in (length text) s b p)
step_in_sound text s b Between place (pieces, front, spelled, none) =
    elim (cases_Bool (b == 59)) [
      | inl t ↦
          let e : b ≡ 59 = eqb-true _ _ t in
          rw t (
            pieces,
            record { each = front.each; cells = front.cells; count = front.count },
            ap (λ (x : List ℕ). x ++ b ∷ []) spelled
                ∙ ap (λ (x : ℕ). front_of pieces ++ x ∷ []) e,
            (refl, omega arith),
            ap length spelled,
          )
      | inr f ↦ rw f (elim (cases_Bool (is_skipped b)) [
        | inl k ↦ rw k (rw place (
          pieces ++ gap b ∷ [],
          record {
            each = each-push pieces (gap b) front.each k;
            cells = front.cells ∙ sym (written-push_gap empty_image pieces b);
            count = front.count ∙ ap (λ n. min 65536 n) (sym (count-push_gap pieces b));
          },
          ap (λ (x : List ℕ). x ++ b ∷ []) spelled ∙ sym (front_of-push pieces (gap b)),
          none,
        ))
        | inr k ↦ rw k (λ more. record {
          pieces = pieces;
          rest = b ∷ more;
          place = 0;
          spelled = ap (λ (x : List ℕ). x ++ b ∷ more) spelled;
          each =
              front.each;
          breaks = (b, more, refl, k, eqb-false _ _ f, refl);
          there = omega (arith, ap length spelled);
        })
      ])
    ]
step_in_sound text s b Within place (pieces, front, spelled, few, at) =
    elim (cases_Bool (is_hex_byte b)) [
      | inl h ↦ rw h (digit_sound text s b pieces front spelled few at place h)
      | inr n ↦ rw n (λ more. record {
        pieces = pieces;
        rest = 59 ∷ (s.digits ++ b ∷ more);
        place = 1 + length s.digits;
        spelled = ap (λ (x : List ℕ). x ++ b ∷ more) spelled ∙ append_assoc (front_of pieces) (59 ∷ s.digits) (b ∷ more);
        each = front.each;
        breaks = (s.digits, b, more, refl, few, n, refl);
        there = omega (arith, ap length spelled, length-append (front_of pieces) (59 ∷ s.digits));
      })
    ]
step_in_sound text s b After place (pieces, front, digits, tail, spelled, end, skipped) =
    let whole : (more : List ℕ) → text ++ b ∷ more ≡ front_of pieces ++ (59 ∷ (digits ++ (tail ++ b ∷ more))) =
    λ more. ap (λ (x : List ℕ). x ++ b ∷ more) spelled ∙ append_assoc (front_of pieces) (59 ∷ (digits ++ tail)) (b ∷ more)
    ∙ ap (λ (x : List ℕ). front_of pieces ++ (59 ∷ x)) (append_assoc digits tail (b ∷ more)) in
    elim (cases_Bool (is_skipped b)) [
      | inl k ↦ rw k (rw place (
        pieces,
        record { each = front.each; cells = front.cells; count = front.count },
        digits,
        tail ++ b
            ∷ [],
        whole [],
        end,
        list_all-append is_skipped tail (b ∷ []) skipped (and_from (is_skipped b) true k refl),
      ))
      | inr k ↦ rw k (λ more. record {
        pieces = pieces;
        rest = 59 ∷ (digits ++ (tail ++ b ∷ more));
        place = 1 + length digits + length tail;
        spelled = whole more;
        each = front.each;
        breaks = (digits, tail, b, more, refl, end, skipped, k, refl);
        there = omega (arith, ap length spelled, length-append (front_of pieces) (59 ∷ (digits ++ tail)), length-append digits tail);
      })
    ]

-- the text is the rest of what was read
abbrev pub SoundRun : List ℕ → List ℕ → Result Progress TapeFault → Type 0
SoundRun text rest (Ok t) = Reached (text ++ rest) t t.place
SoundRun text rest (Err f) = FirstFault (text ++ rest) f.kind f.offset

moved : (rest text : List ℕ) (b : ℕ) (t : Progress) → (text ++ b ∷ []) ++ rest ≡ text ++ (b ∷ rest)
    → SoundRun (text ++ b ∷ []) rest (run (length text + 1) t rest) → SoundRun text (b ∷ rest) (run (length text + 1) t rest)
moved rest text b t same h = go (run (length text + 1) t rest) h where
  go : (r : Result Progress TapeFault) → SoundRun (text ++ b ∷ []) rest r → SoundRun text (b ∷ rest) r
  go (Ok u) k = subst (λ (x : List ℕ). Reached x u u.place) same k
  go (Err f) k = subst (λ (x : List ℕ). FirstFault x f.kind f.offset) same k

run_sound : (rest text : List ℕ) (s : Progress) → Reached text s s.place → SoundRun text rest (run (length text) s rest)
unfolding step
run_sound [] text s h = rw append-nil h
run_sound (b ∷ rest) text s h = go (λ t k. run_sound rest (text ++ b ∷ []) t k) (step_in (length text) s b s.place)
    (step_in_sound text s b s.place refl h) where
      go : ((t : Progress) → Reached (text ++ b ∷ []) t t.place → SoundRun (text ++ b ∷ []) rest (run (length (text ++ b ∷ [])) t rest))
          → (r : Result Progress TapeFault) → Sound text b r → SoundRun text (b ∷ rest) (r >>= λ t. run (length text + 1) t rest)
      go next (Err f) k = k rest
      go next (Ok t) k =
          let len : length (text ++ b ∷ []) ≡ length text + 1 = length-append text (b ∷ []) in
          let same : (text ++ b ∷ []) ++ rest ≡ text ++ (b ∷ rest) = append_assoc text (b ∷ []) rest in
          moved rest text b t same (rw len at (next t k))

abbrev pub SoundRead : List ℕ → Result (List (Option ℕ)) TapeFault → Type 0
SoundRead text (Ok cells) = TapeDenotes text cells
SoundRead text (Err f) = FirstFault text f.kind f.offset

none_min : (n m : ℕ) → n ≡ min 65536 m → n ≡ 0 → m ≡ 0
none_min n m e z = omega arith

finished_sound : (text : List ℕ) (s : Progress) (p : Place) → Reached text s p → SoundRead text (result_in (length text) s p)
finished_sound text s Between (pieces, front, spelled, none) =
    elim (cases_Bool (s.count == 0)) [
      | inl t ↦ rw t (record {
        pieces = pieces;
        rest = [];
        place = 0;
        spelled = spelled ∙ sym (append-nil (front_of pieces));
        each =
            front.each;
        breaks = (none_min _ _ front.count (eqb-true _ _ t), refl, refl);
        there = omega (arith, ap length spelled);
      })
      | inr f ↦ rw f (record {
        pieces = pieces;
        rest = [];
        place = 0;
        spelled = spelled ∙ sym (append-nil (front_of pieces));
        each =
            front.each;
        breaks = inl ((λ z. eqb-false _ _ f (omega (arith, front.count, z))), refl, refl);
        there = omega (arith, ap length spelled);
      })
    ]
finished_sound text s Within (pieces, front, spelled, few, at) =
    record {
      pieces = pieces;
      rest = 59 ∷ s.digits;
      place = 1 + length s.digits;
      spelled = spelled;
      each = front.each;
      breaks =
          inr (s.digits, refl, few, refl);
      there = omega (arith, ap length spelled, length-append (front_of pieces) (59 ∷ s.digits));
    }
finished_sound text s After (pieces, front, digits, tail, spelled, end, skipped) =
    record { pieces = pieces; digits = digits; tail = tail; spelled = spelled; each = front.each; end = end; rest = skipped; union = front.cells }

-- what is read is in the grammar, and a fault is the first one
pub read_sound : (text : List ℕ) → SoundRead text (read_of text)
unfolding read_of result_at
read_sound text = go (run 0 start text) (run_sound text [] start ([], record { each = tt; cells = refl; count = refl }, refl, refl)) where
  go : (r : Result Progress TapeFault) → SoundRun [] text r → SoundRead text (r >>= λ s. result_in (length text) s s.place)
  go (Ok s) k = finished_sound text s s.place k
  go (Err f) k = k
