-- A step that touches nothing but what was written is counted, and no more.
use Rattle.std.proofs.Common.{◌≡◌, ◌∙◌, ℕ, zero, suc, ◌+◌, ◌-◌, ◌%◌, ◌<◌, ◌≤◌, Bool, true, false, true≢false, List, [], ◌∷◌, ◌++◌, Option, None, Some, take, drop, get_or, length, add-one, drop-cons, refl, sym, ap, arith}
use Rattle.std.specs.Prelude.{⊤, ◌&&◌, ◌||◌, not, if◌then◌else◌}
use Rattle.accesses.proofs.Bytes.{set_written}
use Rattle.accesses.specs.Footprint.{reads_here, stores_here}
use Rattle.accesses.specs.Moments.{entered, moment_of, stored_by}
use Rattle.accesses.specs.Writing.{is_written, with_bytes}
use Rattle.arguments_play.specs.Trace.{TraceAsked}
use Rattle.model.specs.State.{Map, State, is_port}
use Rattle.trace_rows.specs.Steps.{step_row}
use Rattle.trace_rows.specs.declared.unwritten.Part.TheVariants.{Code, Data}
use Rattle.word_trace.specs.Gathered.{Gathered, TouchesNoOther, ahead_of, asks_ahead, counted_here, counted_step, cycles_of, findings, has_no_rows, is_told, marked, noted_here, reads_text, row_text, step_of, text_of_step, told, with_all_written, with_reads, with_told, with_written}
use Rattle.word_trace.specs.Notes.{are_written, code_of, if_asked, is_kept, kept, left_at}
use Rattle.word_trace.specs.Texts.{pass_step}
use Rattle.word_trace.proofs.Telling.{written_none}

pub and_left : (a b : Bool) → (a && b) ≡ true → a ≡ true
and_left true b is = refl
and_left false b is = is

pub and_right : (a b : Bool) → (a && b) ≡ true → b ≡ true
and_right true b is = is
and_right false b is = absurd (true≢false (sym is))

and_false : (b : Bool) → (b && false) ≡ false
and_false true = refl
and_false false = refl

-- the bytes of an instruction
pub code_known : (cells : List Bool) (len pc : ℕ) → is_written cells pc ≡ true → (2 ≤ len → is_written cells ((pc + 1) % 65536) ≡ true)
    → (3 ≤ len → is_written cells ((pc + 2) % 65536) ≡ true)
    → are_written cells (take len (pc ∷ (pc + 1) % 65536 ∷ (pc + 2) % 65536 ∷ [])) ≡ true
unfolding are_written
code_known cells zero pc a b c = refl
code_known cells (suc zero) pc a b c = ap (λ x. x && true) a
code_known cells (suc (suc zero)) pc a b c = ap (λ x. x && (is_written cells ((pc + 1) % 65536) && true)) a ∙ ap (λ x. x && true) (b (omega arith))
code_known cells (suc (suc (suc zero))) pc a b c =
    ap (λ x. x && (is_written cells ((pc + 1) % 65536) && (is_written cells ((pc + 2) % 65536) && true))) a
    ∙ ap (λ x. x && (is_written cells ((pc + 2) % 65536) && true)) (b (omega arith)) ∙ ap (λ x. x && true) (c (omega arith))
code_known cells (suc (suc (suc (suc n)))) pc a b c =
    ap (λ x. x && (is_written cells ((pc + 1) % 65536) && (is_written cells ((pc + 2) % 65536) && true))) a
    ∙ ap (λ x. x && (is_written cells ((pc + 2) % 65536) && true)) (b (omega arith)) ∙ ap (λ x. x && true) (c (omega arith))

-- one of some addresses that were written, and the others
pub written_on : (cells : List Bool) (i : ℕ) (xs : List ℕ) → i < length xs
    → are_written cells (drop i xs) ≡ (is_written cells (get_or xs i 0) && are_written cells (drop (i + 1) xs))
unfolding are_written
written_on cells i xs h =
    let d : drop i xs ≡ get_or xs i 0 ∷ drop (i + 1) xs = rw (add-one, drop-cons xs i 0) refl in
    ap (are_written cells) d

pub written_end : (cells : List Bool) (xs : List ℕ) → xs ≡ [] → are_written cells xs ≡ true
unfolding are_written
written_end cells xs e = ap (are_written cells) e

-- addresses that count as written, if others are looked for
abbrev Known : Option (List Bool) → List ℕ → Type 0
Known None xs = ⊤
Known (Some cells) xs = are_written cells xs ≡ true

if_known : (cells : List Bool) (asks : Bool) (xs : List ℕ) → are_written cells xs ≡ true → are_written cells (if_asked asks xs) ≡ true
unfolding are_written
if_known cells true xs is = is
if_known cells false xs is = refl

known_code : (w : Option (List Bool)) (s : State) → TouchesNoOther w s → Known w (code_of (moment_of s))
known_code None s touches = tt
known_code (Some cells) s touches = touches.code

known_reads : (w : Option (List Bool)) (asks : Bool) (s : State) → TouchesNoOther w s → Known w (if_asked asks (reads_here s))
known_reads None asks s touches = tt
known_reads (Some cells) asks s touches = if_known cells asks (reads_here s) touches.reads

known_stores : (w : Option (List Bool)) (asks : Bool) (s : State) → TouchesNoOther w s → Known w (if_asked asks (stores_here s))
known_stores None asks s touches = tt
known_stores (Some cells) asks s touches = if_known cells asks (stores_here s) touches.stores

-- none of them is told
told_none : (m : Map) (w : Option (List Bool)) (xs : List ℕ) → Known w xs → told m w xs ≡ []
unfolding are_written told
told_none m w [] known = refl
told_none m None (x ∷ xs) known = told_none m None xs tt
told_none m (Some cells) (x ∷ xs) known =
    let off : is_told m (Some cells) x ≡ false = ap (λ b. not (is_port m x) && not b) (and_left _ _ known) ∙ and_false (not (is_port m x)) in
    ap (λ b. if b then x ∷ told m (with_written (Some cells) x) xs else told m (Some cells) xs) off ∙ told_none m (Some cells) xs (and_right _ _ known)

told_kept : (m : Map) (w : Option (List Bool)) (xs : List ℕ) → Known w xs → with_told m w xs ≡ w
told_kept m w xs known = ap (with_all_written w) (told_none m w xs known) ∙ written_none w

-- and none is marked
bytes_kept : (m : Map) (rom : Option (ℕ × ℕ)) (port : ℕ) (cells : List Bool) (xs : List ℕ) → are_written cells xs ≡ true
    → with_bytes cells (kept m rom port xs) ≡ cells
unfolding are_written kept with_bytes
bytes_kept m rom port cells [] known = refl
bytes_kept m rom port cells (x ∷ xs) known = by (is_kept m rom port x) (bytes_kept m rom port cells xs (and_right _ _ known))
  where
    by : (b : Bool) → with_bytes cells (kept m rom port xs) ≡ cells → with_bytes cells (if b then x ∷ kept m rom port xs else kept m rom port xs) ≡ cells
    by true rest = ap (λ u. with_bytes u (kept m rom port xs)) (set_written cells x (λ within. and_left _ _ known)) ∙ rest
    by false rest = rest

left_kept : (m : Map) (rom : Option (ℕ × ℕ)) (port : ℕ) (w : Option (List Bool)) (xs : List ℕ) → Known w xs → with_all_written w (kept m rom port xs) ≡ w
left_kept m rom port None xs known = refl
left_kept m rom port (Some cells) xs known = ap (λ (c : List Bool). Some c) (bytes_kept m rom port cells xs known)

-- ---- a step that is no interrupt entry

pub passes_nothing : (g : Gathered) (s t : State) → TouchesNoOther g.written s → entered (moment_of s) t ≡ false → g ≡ pass_step s t g
passes_nothing g s t touches plain =
    let asks = asks_ahead g in
    let left : Bool → List ℕ = λ b. kept t.bus.map g.asked.file.rom g.asked.file.port (stored_by b s.regs.s (if_asked asks (stores_here s))) in
    sym (ap (λ b. marked (with_all_written g.written (left b)) g) plain
    ∙ ap (λ w. marked w g) (left_kept t.bus.map g.asked.file.rom g.asked.file.port g.written (if_asked asks (stores_here s))
    (known_stores g.written asks s touches)))

pub counts_only : (g : Gathered) (s t : State) (cycles : ℕ) → TouchesNoOther g.written s → entered (moment_of s) t ≡ false
    → cycles ≡ cycles_of (moment_of s) t → counted_step false s.regs.pc cycles g ≡ noted_here t (ahead_of g s) g
counts_only g s t cycles touches plain took =
    let asks = asks_ahead g in
    let m = t.bus.map in
    let w = g.written in
    let code = code_of (moment_of s) in
    let reads = if_asked asks (reads_here s) in
    let stores = if_asked asks (stores_here s) in
    let rom = g.asked.file.rom in
    let port = g.asked.file.port in
    let counted = counted_step false s.regs.pc (cycles_of (moment_of s) t) g in
    ap (λ n. counted_step false s.regs.pc n g) took
    ∙ sym (ap (λ b. marked (with_all_written (with_reads b m (ahead_of g s) w) (left_at t g.asked.file b (ahead_of g s)))
    (counted_step b s.regs.pc (cycles_of (moment_of s) t) g)) plain
    ∙ ap (λ u. marked (with_all_written (with_told m u reads) (kept m rom port stores)) counted) (told_kept m w code (known_code w s touches))
    ∙ ap (λ u. marked (with_all_written u (kept m rom port stores)) counted) (told_kept m w reads (known_reads w asks s touches))
    ∙ ap (λ u. marked u counted) (left_kept m rom port w stores (known_stores w asks s touches)))

pub tells_nothing : (g : Gathered) (s t : State) → has_no_rows g.asked ≡ true → TouchesNoOther g.written s → entered (moment_of s) t ≡ false
    → text_of_step t (ahead_of g s) g ≡ []
tells_nothing g s t asked touches plain =
    let asks = asks_ahead g in
    let m = t.bus.map in
    let w = g.written in
    let code = code_of (moment_of s) in
    let reads = if_asked asks (reads_here s) in
    let number = (counted_here t (ahead_of g s) g).all.visits in
    let row = row_text g.asked t g.sites (step_of t g.asked.file (entered (moment_of s) t) (ahead_of g s)) in
    ap (λ b. reads_text b t g.sites number (ahead_of g s) w ++ row) plain
    ∙ ap (λ xs. (findings t g.sites (moment_of s) number Code xs ++ findings t g.sites (moment_of s) number Data (told m (with_told m w code) reads))
    ++ row) (told_none m w code (known_code w s touches))
    ∙ ap (λ u. findings t g.sites (moment_of s) number Data (told m u reads) ++ row) (told_kept m w code (known_code w s touches))
    ∙ ap (λ xs. findings t g.sites (moment_of s) number Data xs ++ row) (told_none m w reads (known_reads w asks s touches))
    ∙ ap (λ b. if b then [] else step_row t g.sites (step_of t g.asked.file (entered (moment_of s) t) (ahead_of g s)) g.asked.shows_stores) asked
