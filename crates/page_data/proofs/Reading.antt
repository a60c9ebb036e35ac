-- What was written as records is read again as these.
use Rattle.std.proofs.Common.{◌≡◌, ◌∙◌, ℕ, zero, suc, ◌+◌, ◌*◌, ◌/◌, ◌%◌, ◌^◌, ◌<◌, ◌≤◌, Bool, true, false, cond, List, [], ◌∷◌, ◌++◌, length, take, drop, Option, Some, None, refl, sym, ap, arith, append_assoc, length-append, inl, inr}
use Rattle.std.specs.Prelude.{◌==◌, not, is_some, slice_index}
use Rattle.std.specs.Int.{w64, to_le_bytes, from_le_bytes}
use Rattle.std.specs.List.{AllByRecursion, flat_map}
use Rattle.std.specs.Option.{option_to_list}
use Rattle.std.proofs.lemmas.Bool.{eq-eqb}
use Rattle.std.proofs.lemmas.Bool.Decides.{eqb_tells}
use Rattle.std.proofs.lemmas.List.{drop_at, take_at}
use Rattle.std.proofs.lemmas.Nat.{from_le_bytes-to_le_bytes_8}
use Rattle.model.specs.Arithmetic.{bit}
use Rattle.law_states.proofs.Numbers.{bit_small}
use Rattle.page_data.specs.Format.{Change, IsSmall, before_rest, bytes_at, bytes_of, cell, cells_at, change_at, changes_by, changes_in, counted, eight, given_at, has_bit, head, is_any, marks, out_at, signals_by, without_zeros, word, words_at}
use Rattle.page_data.proofs.Xor.{from_bit}

-- ---- bytes that are left out if they are 0

step_zero : (n m marked : ℕ) (bytes : List ℕ) → marked ≡ 2 * m → bytes_at (suc n) marked bytes ≡ before_rest 0 (bytes_at n m bytes)
unfolding bytes_at
step_zero n m marked bytes e =
    let even : (marked % 2 == 0) ≡ true = eq-eqb (marked % 2) 0 (omega (arith, e)) in
    let half : marked / 2 ≡ m = omega (arith, e) in
    ap (λ b. cond b (before_rest 0 (bytes_at n (marked / 2) bytes)) (before_rest (slice_index bytes 0) (bytes_at n (marked / 2) (drop 1 bytes)))) even
    ∙ ap (λ k. before_rest 0 (bytes_at n k bytes)) half

step_byte : (n m marked b : ℕ) (bytes : List ℕ) → marked ≡ 1 + 2 * m → bytes_at (suc n) marked (b ∷ bytes) ≡ before_rest b (bytes_at n m bytes)
unfolding bytes_at
step_byte n m marked b bytes e =
    let odd : (marked % 2 == 0) ≡ false = odd_is marked (omega (arith, e)) in
    let half : marked / 2 ≡ m = omega (arith, e) in
    ap (λ t. cond t (before_rest 0 (bytes_at n (marked / 2) (b ∷ bytes))) (before_rest b (bytes_at n (marked / 2) bytes))) odd
    ∙ ap (λ k. before_rest b (bytes_at n k bytes)) half
  where
    odd_is : (x : ℕ) → x % 2 ≡ 1 → (x % 2 == 0) ≡ false
    odd_is x e = ap (λ y. y == 0) e

bytes_again : (xs rest : List ℕ) → bytes_at (length xs) (marks xs) (without_zeros xs ++ rest) ≡ (xs, rest)
unfolding bytes_at marks without_zeros
bytes_again [] rest = refl
bytes_again (b ∷ xs) rest = elim (eqb_tells b 0) [
  | inl is ↦
      ap (λ t. bytes_at (suc (length xs)) (bit (not t) + 2 * marks xs) (cond t (without_zeros xs) (b ∷ without_zeros xs) ++ rest)) is.0
      ∙ step_zero (length xs) (marks xs) (0 + 2 * marks xs) (without_zeros xs ++ rest) (omega arith)
      ∙ ap (before_rest 0) (bytes_again xs rest) ∙ ap (λ (x : ℕ). (x ∷ xs, rest)) (sym is.1)
  | inr is ↦
      ap (λ t. bytes_at (suc (length xs)) (bit (not t) + 2 * marks xs) (cond t (without_zeros xs) (b ∷ without_zeros xs) ++ rest)) is.0
      ∙ step_byte (length xs) (marks xs) (1 + 2 * marks xs) b (without_zeros xs ++ rest) refl
      ∙ ap (before_rest b) (bytes_again xs rest)
]

-- ---- addresses

joined : (a : ℕ) → a % 256 + 256 * (a / 256) ≡ a
joined a = omega arith

words_again : (addresses rest : List ℕ) → words_at (length addresses) (flat_map word addresses ++ rest) ≡ (addresses, rest)
unfolding words_at
words_again [] rest = refl
words_again (a ∷ addresses) rest =
    ap (before_rest (a % 256 + 256 * (a / 256))) (words_again addresses rest)
    ∙ ap (λ (x : ℕ). (x ∷ addresses, rest)) (joined a)

cells_again : (stores : List (ℕ × ℕ)) (rest : List ℕ) → cells_at (length stores) (flat_map cell stores ++ rest) ≡ (stores, rest)
unfolding cells_at
cells_again [] rest = refl
cells_again (store ∷ stores) rest =
    ap (before_rest (store.0 % 256 + 256 * (store.0 / 256), store.1)) (cells_again stores rest)
    ∙ ap (λ (x : ℕ). ((x, store.1) ∷ stores, rest)) (joined store.0)

-- ---- the console

out_again : (out : Option ℕ) (rest : List ℕ) → out_at (is_some out) (option_to_list out ++ rest) ≡ (out, rest)
out_again None rest = refl
out_again (Some b) rest = refl

given_by : (given rest : List ℕ) → length given < 2 ^ 64 → given_at true ((to_le_bytes w64 (length given) ++ given) ++ rest) ≡ (given, rest)
given_by given rest small =
    let count = to_le_bytes w64 (length given) in
    let whole : (count ++ given) ++ rest ≡ count ++ (given ++ rest) = append_assoc count given rest in
    let front : take 8 ((count ++ given) ++ rest) ≡ count = ap (take 8) whole ∙ take_at count (given ++ rest) 8 refl in
    let behind : drop 8 ((count ++ given) ++ rest) ≡ given ++ rest = ap (drop 8) whole ∙ drop_at count (given ++ rest) 8 refl in
    let number : from_le_bytes w64 (take 8 ((count ++ given) ++ rest)) ≡ length given =
    ap (from_le_bytes w64) front ∙ from_le_bytes-to_le_bytes_8 (length given) small in
    ap (λ (n : ℕ). (take n (drop 8 ((count ++ given) ++ rest)), drop n (drop 8 ((count ++ given) ++ rest)))) number
    ∙ ap (λ (l : List ℕ). (take (length given) l, drop (length given) l)) behind
    ∙ ap (λ (l : List ℕ). (l, drop (length given) (given ++ rest))) (take_at given rest (length given) refl)
    ∙ ap (λ (l : List ℕ). (given, l)) (drop_at given rest (length given) refl)

given_again : (given rest : List ℕ) → length given < 2 ^ 64 → given_at (is_any given) (counted given ++ rest) ≡ (given, rest)
given_again [] rest small = refl
given_again (b ∷ given) rest small = given_by (b ∷ given) rest small

-- ---- signals

module _ (out takes control irq nmi given entry : Bool) where
  pub has_out : has_bit 1 (signals_by out takes control irq nmi given entry) ≡ out
  unfolding signals_by
  has_out = from_bit _ out (omega (arith, bit_small out, bit_small takes, bit_small control, bit_small irq, bit_small nmi, bit_small given, bit_small entry))

  pub has_takes : has_bit 2 (signals_by out takes control irq nmi given entry) ≡ takes
  unfolding signals_by
  has_takes = from_bit _ takes (omega (
    arith,
    bit_small out,
    bit_small takes,
    bit_small control,
    bit_small irq,
    bit_small nmi,
    bit_small given,
    bit_small entry,
  ))

  pub has_control : has_bit 4 (signals_by out takes control irq nmi given entry) ≡ control
  unfolding signals_by
  has_control = from_bit _ control (omega (
    arith,
    bit_small out,
    bit_small takes,
    bit_small control,
    bit_small irq,
    bit_small nmi,
    bit_small given,
    bit_small entry,
  ))

  pub has_irq : has_bit 8 (signals_by out takes control irq nmi given entry) ≡ irq
  unfolding signals_by
  has_irq = from_bit _ irq (omega (arith, bit_small out, bit_small takes, bit_small control, bit_small irq, bit_small nmi, bit_small given, bit_small entry))

  pub has_nmi : has_bit 16 (signals_by out takes control irq nmi given entry) ≡ nmi
  unfolding signals_by
  has_nmi = from_bit _ nmi (omega (arith, bit_small out, bit_small takes, bit_small control, bit_small irq, bit_small nmi, bit_small given, bit_small entry))

  pub has_given : has_bit 32 (signals_by out takes control irq nmi given entry) ≡ given
  unfolding signals_by
  has_given = from_bit _ given (omega (
    arith,
    bit_small out,
    bit_small takes,
    bit_small control,
    bit_small irq,
    bit_small nmi,
    bit_small given,
    bit_small entry,
  ))

  pub has_entry : has_bit 64 (signals_by out takes control irq nmi given entry) ≡ entry
  unfolding signals_by
  has_entry = from_bit _ entry (omega (
    arith,
    bit_small out,
    bit_small takes,
    bit_small control,
    bit_small irq,
    bit_small nmi,
    bit_small given,
    bit_small entry,
  ))

-- ---- a record, part by part

whole : ℕ → List ℕ → List ℕ → List (ℕ × ℕ) → Option ℕ → List ℕ × List ℕ → Change × List ℕ
whole first bytes reads stores out given = (
  record {
    cycles = first % 16;
    a = slice_index bytes 0;
    x = slice_index bytes 1;
    y = slice_index bytes 2;
    s = slice_index bytes 3;
    p = slice_index bytes 4;
    pc = slice_index bytes 5 + 256 * slice_index bytes 6;
    reads = reads;
    stores = stores;
    out = out;
    takes = has_bit 2 (slice_index bytes 7);
    control = has_bit 4 (slice_index bytes 7);
    irq = has_bit 8 (slice_index bytes 7);
    nmi = has_bit 16 (slice_index bytes 7);
    given = given.0;
    entry = has_bit 64 (slice_index bytes 7);
  },
  given.1,
)

from_out : ℕ → List ℕ → List ℕ → List (ℕ × ℕ) → Option ℕ × List ℕ → Change × List ℕ
from_out first bytes reads stores out = whole first bytes reads stores out.0 (given_at (has_bit 32 (slice_index bytes 7)) out.1)

from_stores : ℕ → List ℕ → List ℕ → List (ℕ × ℕ) × List ℕ → Change × List ℕ
from_stores first bytes reads stores = from_out first bytes reads stores.0 (out_at (has_bit 1 (slice_index bytes 7)) stores.1)

from_reads : ℕ → List ℕ → List ℕ × List ℕ → Change × List ℕ
from_reads first bytes reads = from_stores first bytes reads.0 (cells_at (first / 64) reads.1)

from_bytes : ℕ → List ℕ × List ℕ → Change × List ℕ
from_bytes first bytes = from_reads first bytes.0 (words_at (first / 16 % 4) bytes.1)

begins : (first marked : ℕ) (bytes : List ℕ) → change_at (first ∷ marked ∷ bytes) ≡ from_bytes first (bytes_at 8 marked bytes)
unfolding change_at whole from_out from_stores from_reads from_bytes
begins first marked bytes = refl

reads_counted : (c : Change) → IsSmall c → head c / 16 % 4 ≡ length c.reads
reads_counted c small = omega (arith, small.cycles, small.reads, small.stores)

stores_counted : (c : Change) → IsSmall c → head c / 64 ≡ length c.stores
stores_counted c small = omega (arith, small.cycles, small.reads, small.stores)

cycles_are : (c : Change) → IsSmall c → head c % 16 ≡ c.cycles
cycles_are c small = omega (arith, small.cycles, small.reads, small.stores)

assembled : (c : Change) (rest : List ℕ) → IsSmall c → whole (head c) (eight c) c.reads c.stores c.out (c.given, rest) ≡ (c, rest)
unfolding whole
assembled c rest small =
    let cycles = cycles_are c small in
    let pc = joined c.pc in
    let out = is_some c.out in
    let given = is_any c.given in
    let takes = has_takes out c.takes c.control c.irq c.nmi given c.entry in
    let control = has_control out c.takes c.control c.irq c.nmi given c.entry in
    let irq = has_irq out c.takes c.control c.irq c.nmi given c.entry in
    let nmi = has_nmi out c.takes c.control c.irq c.nmi given c.entry in
    let entry = has_entry out c.takes c.control c.irq c.nmi given c.entry in
    λ i. (
      record {
        cycles = cycles i;
        a = c.a;
        x = c.x;
        y = c.y;
        s = c.s;
        p = c.p;
        pc = pc i;
        reads = c.reads;
        stores = c.stores;
        out = c.out;
        takes = takes i;
        control = control i;
        irq = irq i;
        nmi = nmi i;
        given = c.given;
        entry = entry i;
      },
      rest,
    )

pub change_again : (c : Change) (rest : List ℕ) → IsSmall c → change_at (bytes_of c ++ rest) ≡ (c, rest)
unfolding bytes_of from_out from_stores from_reads from_bytes
change_again c rest small =
    let first = head c in
    let bytes = eight c in
    let present = without_zeros bytes in
    let reads = flat_map word c.reads in
    let stores = flat_map cell c.stores in
    let out = option_to_list c.out in
    let given = counted c.given in
    let after_out = given ++ rest in
    let after_stores = out ++ after_out in
    let after_reads = stores ++ after_stores in
    let after_bytes = reads ++ after_reads in
    let grouped : (present ++ (reads ++ (stores ++ (out ++ given)))) ++ rest ≡ present ++ after_bytes =
    append_assoc present (reads ++ (stores ++ (out ++ given))) rest
    ∙ ap (λ l. present ++ l) (append_assoc reads (stores ++ (out ++ given)) rest
    ∙ ap (λ l. reads ++ l) (append_assoc stores (out ++ given) rest
    ∙ ap (λ l. stores ++ l) (append_assoc out given rest))) in
    begins first (marks bytes) ((present ++ (reads ++ (stores ++ (out ++ given)))) ++ rest)
    ∙ ap (λ l. from_bytes first (bytes_at 8 (marks bytes) l)) grouped
    ∙ ap (from_bytes first) (bytes_again bytes after_bytes)
    ∙ ap (λ n. from_reads first bytes (words_at n after_bytes)) (reads_counted c small)
    ∙ ap (from_reads first bytes) (words_again c.reads after_reads)
    ∙ ap (λ n. from_stores first bytes c.reads (cells_at n after_reads)) (stores_counted c small)
    ∙ ap (from_stores first bytes c.reads) (cells_again c.stores after_stores)
    ∙ ap (λ b. from_out first bytes c.reads c.stores (out_at b after_stores)) (has_out (is_some c.out) c.takes c.control c.irq c.nmi (is_any c.given) c.entry)
    ∙ ap (from_out first bytes c.reads c.stores) (out_again c.out after_out)
    ∙ ap (λ b. whole first bytes c.reads c.stores c.out (given_at b after_out))
    (has_given (is_some c.out) c.takes c.control c.irq c.nmi (is_any c.given) c.entry)
    ∙ ap (whole first bytes c.reads c.stores c.out) (given_again c.given rest small.given)
    ∙ assembled c rest small

-- ---- records, one after another

some_bytes : (c : Change) → 1 ≤ length (bytes_of c)
unfolding bytes_of
some_bytes c = omega arith

next_read : (n : ℕ) (c : Change) (rest : List ℕ) → changes_by (suc n) (bytes_of c ++ rest) ≡ (change_at (bytes_of c ++ rest)).0
    ∷ changes_by n (change_at (bytes_of c ++ rest)).1
unfolding bytes_of changes_by
next_read n c rest = refl

changes_again : (n : ℕ) (changes : List Change) → AllByRecursion IsSmall changes → length (flat_map bytes_of changes) ≤ n
    → changes_by n (flat_map bytes_of changes) ≡ changes
unfolding changes_by
changes_again zero [] small within = refl
changes_again (suc n) [] small within = refl
changes_again zero (c ∷ changes) small within =
    absurd (omega (arith, within, some_bytes c, length-append (bytes_of c) (flat_map bytes_of changes)))
changes_again (suc n) (c ∷ changes) small within =
    let rest = flat_map bytes_of changes in
    let fewer : length rest ≤ n = omega (arith, within, some_bytes c, length-append (bytes_of c) rest) in
    next_read n c rest ∙ ap (λ next. next.0 ∷ changes_by n next.1) (change_again c rest small.0)
    ∙ ap (λ l. c ∷ l) (changes_again n changes small.1 fewer)

pub read_again : (changes : List Change) → AllByRecursion IsSmall changes → changes_in (flat_map bytes_of changes) ≡ changes
read_again changes small = changes_again (length (flat_map bytes_of changes)) changes small (omega arith)
