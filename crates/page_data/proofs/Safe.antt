-- What is escaped, or written in base64, consists of bytes of the alphabet.
use Rattle.std.proofs.Common.{◌≡◌, ◌∙◌, ℕ, zero, suc, ◌+◌, ◌*◌, ◌/◌, ◌%◌, ◌<◌, Bool, true, false, List, [], ◌∷◌, ◌++◌, length, get_or, map, replicate, refl, sym, ap, arith, append_assoc, append-nil, length-append}
use Rattle.std.specs.Prelude.{◌&&◌, slice_index}
use Rattle.std.specs.List.{range_with_len}
use Rattle.std.proofs.lemmas.List.FromFn.{get_or-map-range_with_len}
use Rattle.base64.specs.Engines.{standard}
use Rattle.base64.specs.GeneralPurpose.{encode_of}
use Rattle.base64.specs.Rfc4648.{encode_group, encode_symbols, padding_len}
use Rattle.page_data.specs.Safe.{escape, escaped, is_safe, is_safe_text}

both : (a b : Bool) → a ≡ true → b ≡ true → (a && b) ≡ true
both true b e f = f
both false b e f = e

front_safe : (a b c : Bool) → (a && b) ≡ true → (b ≡ true → c ≡ true) → (a && c) ≡ true
front_safe true b c e f = f e
front_safe false b c e f = e

pub safe_both : (xs ys : List ℕ) → is_safe_text xs ≡ true → is_safe_text ys ≡ true → is_safe_text (xs ++ ys) ≡ true
safe_both [] ys e f = f
safe_both (x ∷ xs) ys e f = front_safe (is_safe x) (is_safe_text xs) (is_safe_text (xs ++ ys)) e (λ rest. safe_both xs ys rest f)

-- each of so many, computed
each : (test : ℕ → Bool) (n : ℕ) → map test (range_with_len 0 n) ≡ map (λ (x : ℕ). true) (range_with_len 0 n) → (x : ℕ) → x < n → test x ≡ true
each test n all x below =
    sym (get_or-map-range_with_len test 0 n x x true below (omega arith))
    ∙ ap (λ rows. get_or rows x true) all
    ∙ get_or-map-range_with_len (λ (x : ℕ). true) 0 n x x true below (omega arith)

-- ---- escapes

abbrev is_escape_safe : ℕ → Bool
is_escape_safe b = is_safe_text (escape b)

all_escapes : map is_escape_safe (range_with_len 0 256) ≡ map (λ (x : ℕ). true) (range_with_len 0 256)
all_escapes = refl

escape_safe : (b : ℕ) → b < 256 → is_safe_text (escape b) ≡ true
escape_safe b below = each is_escape_safe 256 all_escapes b below

pub escaped_safe : (bytes : List ℕ) → ((k : ℕ) → get_or bytes k 0 < 256) → is_safe_text (escaped bytes) ≡ true
escaped_safe [] small = refl
escaped_safe (b ∷ bytes) small = safe_both (escape b) (escaped bytes) (escape_safe b (small 0)) (escaped_safe bytes (λ k. small (suc k)))

-- ---- base64

abbrev symbols : List ℕ
symbols = standard.encode_table

abbrev is_symbol_safe : ℕ → Bool
is_symbol_safe k = is_safe (slice_index symbols k)

all_symbols : map is_symbol_safe (range_with_len 0 64) ≡ map (λ (x : ℕ). true) (range_with_len 0 64)
all_symbols = refl

symbol_safe : (k : ℕ) → k < 64 → is_safe (slice_index symbols k) ≡ true
symbol_safe k below = each is_symbol_safe 64 all_symbols k below

symbols_safe : (bytes : List ℕ) → ((k : ℕ) → get_or bytes k 0 < 256) → is_safe_text (encode_symbols symbols bytes) ≡ true
unfolding encode_symbols
symbols_safe [] small = refl
symbols_safe (a ∷ []) small =
    let first : a < 256 = small 0 in
    both _ _ (symbol_safe (a / 4) (omega (arith, first))) (both _ true (symbol_safe (a % 4 * 16) (omega arith)) refl)
symbols_safe (a ∷ b ∷ []) small =
    let first : a < 256 = small 0 in
    let second : b < 256 = small 1 in
    both _ _ (symbol_safe (a / 4) (omega (arith, first)))
    (both _ _ (symbol_safe (a % 4 * 16 + b / 16) (omega (arith, second)))
    (both _ true (symbol_safe (b % 16 * 4) (omega arith)) refl))
symbols_safe (a ∷ b ∷ c ∷ bytes) small =
    let first : a < 256 = small 0 in
    let second : b < 256 = small 1 in
    let third : c < 256 = small 2 in
    safe_both (encode_group symbols a b c) (encode_symbols symbols bytes)
    (both _ _ (symbol_safe (a / 4) (omega (arith, first)))
    (both _ _ (symbol_safe (a % 4 * 16 + b / 16) (omega (arith, second)))
    (both _ _ (symbol_safe (b % 16 * 4 + c / 64) (omega (arith, third)))
    (both _ true (symbol_safe (c % 64) (omega arith)) refl))))
    (symbols_safe bytes (λ k. small (suc (suc (suc k)))))

padding_safe : (n : ℕ) → is_safe_text (replicate n 61) ≡ true
padding_safe zero = refl
padding_safe (suc n) = padding_safe n

pub encoded_safe : (bytes : List ℕ) → ((k : ℕ) → get_or bytes k 0 < 256) → is_safe_text (encode_of standard bytes) ≡ true
encoded_safe bytes small = safe_both (encode_symbols symbols bytes) (replicate (padding_len (length bytes)) 61) (symbols_safe bytes small)
    (padding_safe (padding_len (length bytes)))

-- ---- pieces of whole groups

symbols_joined : (xs ys : List ℕ) → length xs % 3 ≡ 0 → encode_symbols symbols (xs ++ ys) ≡ encode_symbols symbols xs ++ encode_symbols symbols ys
unfolding encode_symbols
symbols_joined [] ys whole = refl
symbols_joined (a ∷ []) ys whole = absurd (omega (arith, whole))
symbols_joined (a ∷ b ∷ []) ys whole = absurd (omega (arith, whole))
symbols_joined (a ∷ b ∷ c ∷ xs) ys whole =
    ap (λ (l : List ℕ). encode_group symbols a b c ++ l) (symbols_joined xs ys (three_less (length xs) whole))
    ∙ sym (append_assoc (encode_group symbols a b c) (encode_symbols symbols xs) (encode_symbols symbols ys))
  where
    three_less : (n : ℕ) → suc (suc (suc n)) % 3 ≡ 0 → n % 3 ≡ 0
    three_less n e = omega (arith, e)

pub encoded_joined : (xs ys : List ℕ) → length xs % 3 ≡ 0 → encode_of standard (xs ++ ys) ≡ encode_of standard xs ++ encode_of standard ys
encoded_joined xs ys whole =
    let x = encode_symbols symbols xs in
    let y = encode_symbols symbols ys in
    let none : padding_len (length xs) ≡ 0 = omega (arith, whole) in
    let same : padding_len (length (xs ++ ys)) ≡ padding_len (length ys) = omega (arith, whole, length-append xs ys) in
    ap (λ (l : List ℕ). l ++ replicate (padding_len (length (xs ++ ys))) 61) (symbols_joined xs ys whole)
    ∙ ap (λ (n : ℕ). (x ++ y) ++ replicate n 61) same
    ∙ append_assoc x y (replicate (padding_len (length ys)) 61)
    ∙ ap (λ (l : List ℕ). l ++ (y ++ replicate (padding_len (length ys)) 61)) (sym (append-nil x))
    ∙ ap (λ (n : ℕ). (x ++ replicate n 61) ++ (y ++ replicate (padding_len (length ys)) 61)) (sym none)
