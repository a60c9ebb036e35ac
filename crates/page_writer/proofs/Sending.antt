-- Bytes on their way to a writer, in base64, piece by piece.
use Rattle.std.proofs.Common.{◌≡◌, ◌∙◌, ◌+◌, ◌%◌, ◌<◌, ℕ, zero, suc, true, List, [], ◌∷◌, ◌++◌, length, get_or, Option, refl, sym, ap, arith, subst, append_assoc, append-nil, length-append}
use Rattle.std.proofs.KnownBytes.{Appends-nil, Appends-trans}
use Rattle.std.specs.Io.KnownBytes.{Appends}
use Rattle.base64.specs.Engines.{standard}
use Rattle.base64.specs.GeneralPurpose.{encode_of}
use Rattle.base64.specs.Rfc4648.{encode_symbols}
use Rattle.page_data.specs.Safe.{is_safe_text}
use Rattle.page_data.specs.Sent.{IsSent}
use Rattle.page_data.proofs.Safe.{encoded_joined, encoded_safe, safe_both}
use Rattle.page_writer.specs.Data.{IsSentSafely}

none_encoded : encode_of standard [] ≡ []
unfolding encode_symbols
none_encoded = refl

-- Nothing was written.
pub none_sent : (a : Option (List ℕ)) (bytes : List ℕ) → IsSentSafely a a bytes bytes
none_sent a bytes = record {
  sent = record { sent = []; whole = refl; parts = refl; appends = subst (Appends a a) (sym none_encoded) (Appends-nil a) };
  safe = ap is_safe_text none_encoded;
}

-- More waits.
pub more_waits : (a b : Option (List ℕ)) (bytes waiting now more : List ℕ) → IsSentSafely a b bytes waiting → now ≡ waiting ++ more
    → IsSentSafely a b (bytes ++ more) now
more_waits a b bytes waiting now more h is = record {
  sent = record {
    sent = h.sent.sent;
    whole = h.sent.whole;
    parts = ap (λ (l : List ℕ). l ++ more) h.sent.parts ∙ append_assoc h.sent.sent waiting more ∙ ap (λ (l : List ℕ). h.sent.sent ++ l) (sym is);
    appends = h.sent.appends;
  };
  safe = h.safe;
}

-- One record more waits.
pub more_recorded : (a b : Option (List ℕ)) (first records more waiting now : List ℕ) → IsSentSafely a b (first ++ records) waiting
    → now ≡ waiting ++ more → IsSentSafely a b (first ++ (records ++ more)) now
more_recorded a b first records more waiting now h is =
    subst (λ (l : List ℕ). IsSentSafely a b l now) (append_assoc first records more) (more_waits a b (first ++ records) waiting now more h is)

pub none_recorded : (a : Option (List ℕ)) (first : List ℕ) → IsSentSafely a a (first ++ []) first
none_recorded a first = subst (λ (l : List ℕ). IsSentSafely a a l first) (sym (append-nil first)) (none_sent a first)

-- A front of small numbers has small numbers.
pub front_small : (front rest : List ℕ) → ((k : ℕ) → get_or (front ++ rest) k 0 < 256) → (k : ℕ) → get_or front k 0 < 256
front_small [] rest small k = omega arith
front_small (b ∷ front) rest small zero = small 0
front_small (b ∷ front) rest small (suc k) = front_small front rest (λ n. small (suc n)) k

pub safely : (a b : Option (List ℕ)) (bytes waiting : List ℕ) → ((k : ℕ) → get_or bytes k 0 < 256) → IsSent a b bytes waiting → IsSentSafely a b bytes waiting
safely a b bytes waiting small h = record {
  sent = h;
  safe = encoded_safe h.sent (front_small h.sent waiting (subst (λ (l : List ℕ). (k : ℕ) → get_or l k 0 < 256) h.parts small));
}

three_both : (n m : ℕ) → n % 3 ≡ 0 → m % 3 ≡ 0 → (n + m) % 3 ≡ 0
three_both n m a b = omega (arith, a, b)

-- What waited was written in part.
pub more_sent : (a b c : Option (List ℕ)) (bytes waiting now : List ℕ) → IsSentSafely a b bytes waiting → IsSentSafely b c waiting now
    → IsSentSafely a c bytes now
more_sent a b c bytes waiting now h g =
    let front = h.sent.sent in
    let more = g.sent.sent in
    let joined : encode_of standard (front ++ more) ≡ encode_of standard front ++ encode_of standard more = encoded_joined front more h.sent.whole in
    record {
      sent = record {
        sent = front ++ more;
        whole = ap (λ (n : ℕ). n % 3) (length-append front more) ∙ three_both (length front) (length more) h.sent.whole g.sent.whole;
        parts = h.sent.parts ∙ ap (λ (l : List ℕ). front ++ l) g.sent.parts ∙ sym (append_assoc front more now);
        appends = subst (Appends a c) (sym joined) (Appends-trans a b c (encode_of standard front) (encode_of standard more) h.sent.appends g.sent.appends);
      };
      safe = ap is_safe_text joined ∙ safe_both (encode_of standard front) (encode_of standard more) h.safe g.safe;
    }

-- The rest was written.
pub all_sent : (a b c : Option (List ℕ)) (bytes waiting : List ℕ) → IsSentSafely a b bytes waiting → ((k : ℕ) → get_or waiting k 0 < 256)
    → Appends b c (encode_of standard waiting)
    → Appends a c (encode_of standard bytes) × (is_safe_text (encode_of standard bytes) ≡ true)
all_sent a b c bytes waiting h small ends =
    let front = h.sent.sent in
    let joined : encode_of standard bytes ≡ encode_of standard front ++ encode_of standard waiting =
    ap (encode_of standard) h.sent.parts ∙ encoded_joined front waiting h.sent.whole in (
      subst (Appends a c) (sym joined) (Appends-trans a b c (encode_of standard front) (encode_of standard waiting) h.sent.appends ends),
      ap is_safe_text joined ∙ safe_both (encode_of standard front) (encode_of standard waiting) h.safe (encoded_safe waiting small),
    )
