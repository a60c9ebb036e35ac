-- Of a line that is longer than any record only the front counts.
use Rattle.std.proofs.Common.{◌≡◌, ℕ, zero, suc, ◌+◌, ◌-◌, ◌*◌, ◌<◌, ◌≤◌, min, eqb, cond, Bool, List, [], ◌∷◌, length, take, Option, Some, None, Result, Err, refl, sym, ap, ◌∙◌, arith, inl, inr}
use Rattle.std.specs.List.{prefix_len}
use Rattle.std.specs.Io.BufRead.{ends_with_byte, strip_last}
use Rattle.std.proofs.lemmas.Bool.{cases_Bool, cases_lt, cond_both, lt-ltb, le-ltb, ne_eqb}
use Rattle.std.proofs.lemmas.List.{length-take, length-take-le, take-take, take_all}
use Rattle.model.specs.Digits.{is_hex_byte}
use Rattle.papertape.proofs.Digits.{value_small}
use Rattle.image_reader.specs.declared.fault.LineFault.{LineFault}
use Rattle.image_reader.specs.declared.fault.RecordFaultKind.{RecordFaultKind}
use Rattle.image_reader.specs.declared.fault.RecordFaultKind.TheVariants.{BadHex, LongRecord, NoMark}
use Rattle.image_reader.specs.declared.form.TextForm.{TextForm}
use Rattle.image_reader.specs.declared.form.TextForm.TheVariants.{Hex, SRecord}
use Rattle.image_reader.specs.declared.reading.Place.{Place}
use Rattle.image_reader.specs.declared.reading.Place.TheVariants.{Open, Counted, Ended}
use Rattle.image_reader.specs.declared.s_records.Role.{Role}
use Rattle.image_reader.specs.HexRecords.{after_hex, hex_line}
use Rattle.image_reader.specs.Progress.{Progress}
use Rattle.image_reader.specs.Records.{◌>>=◌, at, record_bytes, record_digits, wanted, with_total}
use Rattle.image_reader.specs.SRecords.{after_s, kind_of, s_digits, s_line}
use Rattle.image_reader.specs.Texts.{form_line, line_at, read_line}

-- two lists that are as long as a front at least, and have the same front
abbrev Same : ℕ → List ℕ → List ℕ → Type 0
Same m xs ys = (take m xs ≡ take m ys) × (m ≤ length xs) × (m ≤ length ys)

heads : (x y : ℕ) (xs ys : List ℕ) → x ∷ xs ≡ y ∷ ys → (x ≡ y) × (xs ≡ ys)
heads x y xs ys e = (cc, cc)

prefix_same : (p : ℕ → Bool) (m : ℕ) (xs ys : List ℕ) → Same m xs ys → min m (prefix_len p xs) ≡ min m (prefix_len p ys)
prefix_same p zero xs ys h = omega arith
prefix_same p (suc m) [] ys h = absurd (omega (arith, h.1))
prefix_same p (suc m) (x ∷ xs) [] h = absurd (omega (arith, h.2))
prefix_same p (suc m) (x ∷ xs) (y ∷ ys) h =
    let e = heads x y (take m xs) (take m ys) h.0 in
    let k = prefix_same p m xs ys (e.1, omega (arith, h.1), omega (arith, h.2)) in
    elim (cases_Bool (p y)) [
      | inl t ↦ rw (e.0, t) (omega (arith, k))
      | inr f ↦ rw (e.0, f) refl
    ]

wanted_same : (extra m : ℕ) (xs ys : List ℕ) → 2 ≤ m → Same m xs ys → wanted extra xs ≡ wanted extra ys
wanted_same extra zero xs ys two h = absurd (omega arith)
wanted_same extra (suc zero) xs ys two h = absurd (omega arith)
wanted_same extra (suc (suc m)) [] ys two h = absurd (omega (arith, h.1))
wanted_same extra (suc (suc m)) (x ∷ []) ys two h = absurd (omega (arith, h.1))
wanted_same extra (suc (suc m)) (x ∷ z ∷ xs) [] two h = absurd (omega (arith, h.2))
wanted_same extra (suc (suc m)) (x ∷ z ∷ xs) (y ∷ []) two h = absurd (omega (arith, h.2))
wanted_same extra (suc (suc m)) (x ∷ z ∷ xs) (y ∷ w ∷ ys) two h =
    let e = heads x y (z ∷ take m xs) (w ∷ take m ys) h.0 in
    let f = heads z w (take m xs) (take m ys) e.1 in
    rw (e.0, f.0) refl

pub wanted_small : (extra : ℕ) (xs : List ℕ) → wanted extra xs ≤ 2 * (extra + 255)
wanted_small extra [] = omega arith
wanted_small extra (x ∷ []) = omega arith
wanted_small extra (x ∷ y ∷ xs) = omega (arith, value_small x, value_small y)

few : (front extra : ℕ) (xs : List ℕ) → prefix_len is_hex_byte xs < wanted extra xs → prefix_len is_hex_byte xs < length xs
    → record_digits front extra xs ≡ Err (at BadHex (front + prefix_len is_hex_byte xs + 1))
unfolding record_digits
few front extra xs h k = rw (lt-ltb _ _ h, ne_eqb (prefix_len is_hex_byte xs) (length xs) (λ e. omega (arith, e, k))) refl

long : (front extra : ℕ) (xs : List ℕ) → wanted extra xs ≤ prefix_len is_hex_byte xs → wanted extra xs < length xs
    → record_digits front extra xs ≡ Err (at LongRecord (front + wanted extra xs + 1))
unfolding record_digits
long front extra xs h k = rw (le-ltb _ _ h, lt-ltb _ _ k) refl

failed : (front extra total : ℕ) (xs : List ℕ) (f : LineFault) → record_digits front extra xs ≡ Err f → record_bytes front extra total xs ≡ Err f
unfolding record_bytes
failed front extra total xs f e = ap (λ (r : Result (List ℕ) LineFault). r >>= with_total (front + length xs - 1) total) e

abbrev bad : RecordFaultKind → ℕ → Result (List ℕ) LineFault
bad kind column = Err (at kind column)

bytes_same : (front extra total m : ℕ) (xs ys : List ℕ) → extra ≤ 5 → 2 * (extra + 255) < m → Same m xs ys
    → record_bytes front extra total xs ≡ record_bytes front extra total ys
bytes_same front extra total m xs ys le small h =
    let w = wanted_same extra m xs ys (omega (arith, small)) h in
    let n = prefix_same is_hex_byte m xs ys h in
    let s = wanted_small extra xs in
    elim (cases_lt (prefix_len is_hex_byte xs) (wanted extra xs)) [
      | inl below ↦
          let same : prefix_len is_hex_byte xs ≡ prefix_len is_hex_byte ys = omega (arith, below, s, small, n) in
          failed front extra total xs _ (few front extra xs below (omega (arith, below, s, small, h.1)))
          ∙ ap (λ k. bad BadHex (front + k + 1)) same
          ∙ sym (failed front extra total ys _ (few front extra ys (omega (arith, below, w, same)) (omega (arith, below, s, small, h.2, same))))
      | inr above ↦
          failed front extra total xs _ (long front extra xs above (omega (arith, s, small, h.1)))
          ∙ ap (λ k. bad LongRecord (front + k + 1)) w
          ∙ sym (failed front extra total ys _ (long front extra ys (omega (arith, above, w, n, s, small)) (omega (arith, w, s, small, h.2))))
    ]

abbrev Step : Type 0
Step = Result Progress LineFault

hex_same : (s : Progress) (m : ℕ) (xs ys : List ℕ) → 520 < m → Same (suc m) xs ys → hex_line s xs ≡ hex_line s ys
unfolding hex_line
hex_same s m [] ys small h = absurd (omega (arith, h.1))
hex_same s m (x ∷ xs) [] small h = absurd (omega (arith, h.2))
hex_same s m (x ∷ xs) (y ∷ ys) small h =
    let e = heads x y (take m xs) (take m ys) h.0 in
    let b = bytes_same 1 5 0 m xs ys (omega arith) (omega (arith, small)) (e.1, omega (arith, h.1), omega (arith, h.2)) in
    ap (λ (k : ℕ). cond (eqb k 58) (record_bytes 1 5 0 xs >>= after_hex s) (Err (at NoMark 1))) e.0
    ∙ ap (λ (r : Result (List ℕ) LineFault). cond (eqb y 58) (r >>= after_hex s) (Err (at NoMark 1))) b

digits_same : (s : Progress) (m : ℕ) (xs ys : List ℕ) (kind : Option (Role × ℕ)) → 512 < m → Same m xs ys → s_digits s xs kind ≡ s_digits s ys kind
digits_same s m xs ys None small h = refl
digits_same s m xs ys (Some kind) small h =
    ap (λ (r : Result (List ℕ) LineFault). r >>= after_s kind.0 kind.1 s) (bytes_same 2 1 255 m xs ys (omega arith) (omega (arith, small)) h)

s_same : (s : Progress) (m : ℕ) (xs ys : List ℕ) → 512 < m → Same (suc (suc m)) xs ys → s_line s xs ≡ s_line s ys
unfolding s_line
s_same s m [] ys small h = absurd (omega (arith, h.1))
s_same s m (x ∷ []) ys small h = absurd (omega (arith, h.1))
s_same s m (x ∷ c ∷ xs) [] small h = absurd (omega (arith, h.2))
s_same s m (x ∷ c ∷ xs) (y ∷ []) small h = absurd (omega (arith, h.2))
s_same s m (x ∷ c ∷ xs) (y ∷ d ∷ ys) small h =
    let e = heads x y (c ∷ take m xs) (d ∷ take m ys) h.0 in
    let f = heads c d (take m xs) (take m ys) e.1 in
    let k = digits_same s m xs ys (kind_of d) small (f.1, omega (arith, h.1), omega (arith, h.2)) in
    ap (λ (a : ℕ). cond (eqb a 83) (s_digits s xs (kind_of c)) (Err (at NoMark 1))) e.0
    ∙ ap (λ (a : ℕ). cond (eqb y 83) (s_digits s xs (kind_of a)) (Err (at NoMark 1))) f.0
    ∙ ap (λ (r : Step). cond (eqb y 83) r (Err (at NoMark 1))) k

form_same : (form : TextForm) (s : Progress) (m : ℕ) (xs ys : List ℕ) → m ≡ 520 → Same (suc (suc m)) xs ys → form_line form s xs ≡ form_line form s ys
form_same Hex s m xs ys e h = hex_same s (suc m) xs ys (omega (arith, e)) h
form_same SRecord s m xs ys e h = s_same s m xs ys (omega (arith, e)) h

place_same : (place : Place) (s : Progress) (xs ys : List ℕ) → Same 522 xs ys → line_at place s xs ≡ line_at place s ys
place_same Open s xs ys h = form_same s.form s 520 xs ys refl h
place_same Counted s xs ys h = form_same s.form s 520 xs ys refl h
place_same Ended s xs ys h = refl

read_same : (s : Progress) (xs ys : List ℕ) → Same 522 xs ys → read_line s xs ≡ read_line s ys
unfolding read_line
read_same s xs ys h = place_same s.place s xs ys h

-- ---- the bytes that are held

-- without a CR at its end a longer list has the same front
strip_same : (n : ℕ) (xs : List ℕ) → n + 1 ≤ length xs → (take n (strip_last 13 xs) ≡ take n xs) × (n ≤ length (strip_last 13 xs))
strip_same n xs h = cond_both (ends_with_byte 13 xs) (take (length xs - 1) xs) xs (λ (r : List ℕ). (take n r ≡ take n xs) × (n ≤ length r))
    (λ e. (take-take n (length xs - 1) xs (omega (arith, h)), omega (arith, h, length-take (length xs - 1) xs)))
    (λ e. (refl, omega (arith, h)))

-- a line that has ended
pub held_line : (s : Progress) (begun : List ℕ) → read_line s (strip_last 13 (take 523 begun)) ≡ read_line s (strip_last 13 begun)
held_line s begun = elim (cases_lt 523 (length begun)) [
  | inl more ↦
      let full : length (take 523 begun) ≡ 523 = length-take-le 523 begun (omega (arith, more)) in
      let held = strip_same 522 (take 523 begun) (omega (arith, full)) in
      let line = strip_same 522 begun (omega (arith, more)) in
      read_same s _ _ (held.0 ∙ take-take 522 523 begun (omega arith) ∙ sym line.0, held.1, line.1)
  | inr all ↦ ap (λ (l : List ℕ). read_line s (strip_last 13 l)) (take_all 523 begun all)
]

-- a line that the text's end ends
pub last_held : (s : Progress) (begun : List ℕ) → read_line s (take 523 begun) ≡ read_line s begun
last_held s begun = elim (cases_lt 523 (length begun)) [
  | inl more ↦
      let full : length (take 523 begun) ≡ 523 = length-take-le 523 begun (omega (arith, more)) in
      read_same s _ _ (take-take 522 523 begun (omega arith), omega (arith, full), omega (arith, more))
  | inr all ↦ ap (λ (l : List ℕ). read_line s l) (take_all 523 begun all)
]
