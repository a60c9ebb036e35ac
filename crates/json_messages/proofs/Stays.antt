-- A message in front stays in front, whatever comes behind the bytes.
use Rattle.std.proofs.Common.{◌≡◌, ◌∙◌, ℕ, ◌+◌, ◌-◌, ◌≤◌, nat_lt, Bool, true, false, List, [], ◌∷◌, ◌++◌, length, take, drop, refl, sym, ap, subst, arith, length-append, length-drop, Option, None, Some, if◌then◌else◌}
use Rattle.std.proofs.lemmas.List.{drop-append-le, take-append-le}
use Rattle.std.proofs.lemmas.Bool.{ltb-false}
use Rattle.json_messages.proofs.ReadAgain.{front_at}
use Rattle.json_messages.specs.Messages.{AreMessages, IsFront, Stays, body_at, behind_header, ends_header, front_of, header_from, header_len, length_in, most_header}
use Rattle.json_messages.specs.declared.front.Front.TheVariants.{Message, Open, LongHeader}

-- ---- the header

ends_long : (xs : List ℕ) → ends_header xs ≡ true → 4 ≤ length xs
unfolding ends_header
ends_long [] h = absurd (grind arith)
ends_long (a ∷ []) h = absurd (grind arith)
ends_long (a ∷ b ∷ []) h = absurd (grind arith)
ends_long (a ∷ b ∷ c ∷ []) h = absurd (grind arith)
ends_long (a ∷ b ∷ c ∷ d ∷ xs) h = grind arith

ends_same : (xs more : List ℕ) → 4 ≤ length xs → ends_header (xs ++ more) ≡ ends_header xs
unfolding ends_header
ends_same xs more h = rw (take-append-le 4 xs more h) refl

header_by : (at b : ℕ) (bs : List ℕ) (t : Bool) → ends_header (b ∷ bs) ≡ t → header_from at (b ∷ bs) ≡ (if t then Some at else header_from (at + 1) bs)
unfolding header_from
header_by at b bs t h = rw h refl

none_found : (at h : ℕ) → header_from at [] ≡ Some h → ⊥
unfolding header_from
none_found at h f = grind arith

within_by : (at b : ℕ) (bs : List ℕ) (h : ℕ) (t : Bool) → ends_header (b ∷ bs) ≡ t → header_from at (b ∷ bs) ≡ Some h
    → (header_from (at + 1) bs ≡ Some h → (at + 1 ≤ h) × (h + 4 ≤ at + 1 + length bs)) → (at ≤ h) × (h + 4 ≤ at + length (b ∷ bs))
within_by at b bs h true e f ih =
    let g : Some at ≡ Some h = sym (header_by at b bs true e) ∙ f in
    let len : 4 ≤ length (b ∷ bs) = ends_long (b ∷ bs) e in
    grind arith
within_by at b bs h false e f ih =
    let g = ih (sym (header_by at b bs false e) ∙ f) in
    grind arith

-- Where a header ends, its blank line is whole.
pub header_within : (at : ℕ) (bs : List ℕ) (h : ℕ) → header_from at bs ≡ Some h → (at ≤ h) × (h + 4 ≤ at + length bs)
header_within at [] h f = absurd (none_found at h f)
header_within at (b ∷ bs) h f = within_by at b bs h (ends_header (b ∷ bs)) refl f (header_within (at + 1) bs h)

stays_by : (at b : ℕ) (bs more : List ℕ) (h : ℕ) (t : Bool) → ends_header (b ∷ bs) ≡ t → header_from at (b ∷ bs) ≡ Some h
    → (header_from (at + 1) bs ≡ Some h → header_from (at + 1) (bs ++ more) ≡ Some h) → header_from at (b ∷ (bs ++ more)) ≡ Some h
stays_by at b bs more h true e f ih =
    let g : Some at ≡ Some h = sym (header_by at b bs true e) ∙ f in
    let same : ends_header (b ∷ (bs ++ more)) ≡ true = ends_same (b ∷ bs) more (ends_long (b ∷ bs) e) ∙ e in
    header_by at b (bs ++ more) true same ∙ g
stays_by at b bs more h false e f ih =
    let g : header_from (at + 1) bs ≡ Some h = sym (header_by at b bs false e) ∙ f in
    let within = header_within (at + 1) bs h g in
    let len : 4 ≤ length (b ∷ bs) = grind arith in
    let same : ends_header (b ∷ (bs ++ more)) ≡ false = ends_same (b ∷ bs) more len ∙ e in
    header_by at b (bs ++ more) false same ∙ ih g

header_stays : (at : ℕ) (bs more : List ℕ) (h : ℕ) → header_from at bs ≡ Some h → header_from at (bs ++ more) ≡ Some h
header_stays at [] more h f = absurd (none_found at h f)
header_stays at (b ∷ bs) more h f = stays_by at b bs more h (ends_header (b ∷ bs)) refl f (header_stays (at + 1) bs more h)

-- ---- the body

-- What is a message was no fault, and has ended.
ends_at : (all h n start end : ℕ) (t : Bool) → nat_lt all (h + 4 + n) ≡ t → (if t then Open else Message (h + 4) (h + 4 + n)) ≡ Message start end
    → (start ≡ h + 4) × (end ≡ h + 4 + n) × (h + 4 + n ≤ all)
ends_at all h n start end true e f = absurd (grind arith)
ends_at all h n start end false e f = let long : h + 4 + n ≤ all = ltb-false all (h + 4 + n) e in grind arith

ends_body : (all h : ℕ) (len : Option ℕ) (start end : ℕ) → body_at all h len ≡ Message start end → (n : ℕ) × (len ≡ Some n) × (start ≡ h + 4)
    × (end ≡ h + 4 + n) × (h + 4 + n ≤ all)
ends_body all h None start end f = absurd (grind arith)
ends_body all h (Some n) start end f =
    let parts = ends_at all h n start end (nat_lt all (h + 4 + n)) refl f in
    (n, refl, parts.0, parts.1, parts.2)

ends_short : (bytes : List ℕ) (h start end : ℕ) (t : Bool) → nat_lt most_header h ≡ t
    → (if t then LongHeader else body_at (length bytes) h (length_in true (take h bytes))) ≡ Message start end → (nat_lt most_header h ≡ false)
    × (body_at (length bytes) h (length_in true (take h bytes)) ≡ Message start end)
ends_short bytes h start end true e f = absurd (grind arith)
ends_short bytes h start end false e f = (e, f)

no_header : (bytes : List ℕ) (start end : ℕ) (t : Bool) → (if t then LongHeader else Open) ≡ Message start end → ⊥
no_header bytes start end true f = grind arith
no_header bytes start end false f = grind arith

front_by : (bytes more : List ℕ) (found : Option ℕ) (start end : ℕ) → header_len bytes ≡ found → behind_header bytes found ≡ Message start end
    → (front_of (bytes ++ more) ≡ Message start end) × (start ≤ end) × (end ≤ length bytes)
front_by bytes more None start end e f = absurd (no_header bytes start end (nat_lt (most_header + 3) (length bytes)) f)
front_by bytes more (Some h) start end e f =
    let short = ends_short bytes h start end (nat_lt most_header h) refl f in
    let body = ends_body (length bytes) h (length_in true (take h bytes)) start end short.1 in
    let n = body.0 in
    let within = header_within 0 bytes h e in
    let inside : h ≤ length bytes = grind arith in
    let all : header_len (bytes ++ more) ≡ Some h = header_stays 0 bytes more h e in
    let front : take h (bytes ++ more) ≡ take h bytes = take-append-le h bytes more inside in
    let l : length_in true (take h (bytes ++ more)) ≡ Some n = ap (length_in true) front ∙ body.1 in
    let longer : h + 4 + n ≤ length (bytes ++ more) = (let e2 = length-append bytes more in omega (arith, e2, body.4)) in
    let whole : front_of (bytes ++ more) ≡ Message (h + 4) (h + 4 + n) = front_at (bytes ++ more) h n all l (ltb-false most_header h short.0) longer in
    let first : front_of (bytes ++ more) ≡ Message start (h + 4 + n) = subst (λ s. front_of (bytes ++ more) ≡ Message s (h + 4 + n)) (sym body.2) whole in
    let last : front_of (bytes ++ more) ≡ Message start end = subst (λ t. front_of (bytes ++ more) ≡ Message start t) (sym body.3) first in
    (last, omega (arith, body.2, body.3), omega (arith, body.3, body.4))

-- A message in front is within the bytes.
pub front_within : (bytes : List ℕ) (start end : ℕ) → front_of bytes ≡ Message start end → (start ≤ end) × (end ≤ length bytes)
front_within bytes start end f =
    let parts = front_by bytes [] (header_len bytes) start end refl f in
    (parts.1, parts.2)

pub stays : Stays
stays bytes more body rest front =
    let start = front.0 in
    let end = front.1 in
    let parts = front_by bytes more (header_len bytes) start end refl front.2 in
    let first : start ≤ length bytes = omega (arith, parts.1, parts.2) in
    let d : drop start (bytes ++ more) ≡ drop start bytes ++ more = drop-append-le start bytes more first in
    let len : end - start ≤ length (drop start bytes) = (let e2 = length-drop start bytes in omega (arith, e2, parts.1, parts.2)) in
    let t : take (end - start) (drop start bytes ++ more) ≡ take (end - start) (drop start bytes) = take-append-le (end - start) (drop start bytes) more len in
    let b : body ≡ take (end - start) (drop start (bytes ++ more)) = front.3 ∙ (sym t ∙ ap (take (end - start)) (sym d)) in
    let r : rest ++ more ≡ drop end (bytes ++ more) = ap (λ z. z ++ more) front.4 ∙ sym (drop-append-le end bytes more parts.2) in
    (start, end, parts.0, b, r)

-- ---- messages

-- More bytes come behind the messages of a stream.
pub messages_kept : (told more : List ℕ) (bodies : List (List ℕ)) (held : List ℕ) → AreMessages told bodies held
    → AreMessages (told ++ more) bodies (held ++ more)
unfolding AreMessages
messages_kept told more [] held h = ap (λ z. z ++ more) h
messages_kept told more (body ∷ bodies) held h = (h.0 ++ more, stays told more body h.0 h.1, messages_kept h.0 more bodies held h.2)

-- One message more stands in front of what was held and what is read.
pub messages_more : (told more : List ℕ) (bodies : List (List ℕ)) (held body left : List ℕ) → AreMessages told bodies held
    → IsFront (held ++ more) body left → AreMessages (told ++ more) (bodies ++ body ∷ []) left
unfolding AreMessages
messages_more told more [] held body left h front = (left, subst (λ z. IsFront (z ++ more) body left) h front, refl)
messages_more told more (b ∷ bodies) held body left h front = (h.0 ++ more, stays told more b h.0 h.1, messages_more h.0 more bodies held body left h.2 front)
