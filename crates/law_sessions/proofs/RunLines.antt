-- A line for each run, and lines for what is left of other lines.
use Rattle.std.proofs.Common.{◌≡◌, ℕ, ◌+◌, ◌-◌, ◌*◌, ◌/◌, ◌%◌, ◌<◌, ◌≤◌, zero, suc, Bool, true, false, cond, List, [], ◌∷◌, ◌++◌, length, take, map, Option, Some, None, Result, Ok, Err, refl, ap, ◌∙◌, arith, eqb, nat_le}
use Rattle.std.specs.Prelude.{⊤, codes, unwrap_or, ◌&&◌, nat_lt}
use Rattle.std.specs.Option.{option_map, option_and_then}
use Rattle.std.specs.Str.{bytes_eq}
use Rattle.std.proofs.lemmas.Bool.Decides.{nat_tests}
use Rattle.model.specs.State.{State}
use Rattle.model.specs.Step.{step}
use Rattle.model.specs.Session.{Session}
use Rattle.model.specs.Run.{OneStep, one_later, watch_met, break_met, first_met, first_refused, refused_now_or_later, run_end, run_end_by, sooner}
use Rattle.model.specs.Digits.{decimal_value, number_from}
use Rattle.model.specs.Commands as commands
use Rattle.model.specs.Commands.{address_of, asm_command, with_byte_before, byte_of, bytes_of_words, command_named, command_of, command_of_words, decimal_of, dis_command, from_1_to, goes_on, input_command, input_words, irq_command, is_asm, mem_command, most_steps, number_command, patch_at, patch_command, patch_words, set_byte, set_command, text_of, second_word, with_none, with_one, with_two, words_of}
use Rattle.model.specs.Transcript.{answer_to}
use Rattle.model.specs.Looking.{is_look, without_looks, without_look, run_again, EachRunHasALine, WhatIsKeptHasLines}
use Rattle.model.specs.declared.command.Command.{Command}
use Rattle.model.specs.declared.command.Command.TheVariants.{Regs, Step, Mem, Out, Reset, Irq, Nmi, Input, Run, Back, Break, Unbreak, Watch, Unwatch, Breaks, Quit, Bad}
use Rattle.model.specs.declared.event.EventFault.{EventFault}
use Rattle.model.specs.declared.event.Setting.{Setting}
use Rattle.model.specs.declared.event.Setting.TheVariants.{A, X, Y, S, P, Pc}
use Rattle.model.specs.declared.run_end.RunEnd.{RunEnd}
use Rattle.model.specs.declared.run_end.Why.TheVariants.{Limit}

abbrev Bytes : Type 0
Bytes = List ℕ

-- ---- a line for each run

-- none of some bytes is a space
abbrev NoSpace : Bytes → Type 0
NoSpace [] = ⊤
NoSpace (b ∷ bs) = (eqb b 32 ≡ false) × NoSpace bs

word_alone : (b : ℕ) (bs : Bytes) → NoSpace (b ∷ bs) → words_of (b ∷ bs) ≡ (b ∷ bs) ∷ []
word_alone b [] h = rw h.0 refl
word_alone b (c ∷ cs) h =
    let goes : goes_on (c ∷ cs) ≡ true = ap (λ t. cond t false true) h.1.0 in
    ap (λ t. cond t (words_of (c ∷ cs)) (with_byte_before b (goes_on (c ∷ cs)) (words_of (c ∷ cs)))) h.0
    ∙ ap (λ t. with_byte_before b t (words_of (c ∷ cs))) goes ∙ ap (with_byte_before b true) (word_alone c cs h.1)

digit : (x : ℕ) → x < 10 → decimal_value (48 + x) ≡ Some x
digit x small =
    let low : nat_le 48 (48 + x) ≡ true = grind (arith, nat_tests) in
    let high : nat_le (48 + x) 57 ≡ true = grind (arith, nat_tests) in
    let same : 48 + x - 48 ≡ x = omega arith in
    rw (low, high, same) refl

no_space : (x : ℕ) → eqb (48 + x) 32 ≡ false
no_space x = grind (arith, nat_tests)

abbrev seven : ℕ → ℕ → ℕ → ℕ → ℕ → ℕ → ℕ → Bytes
seven a b c d e f g = (48 + a) ∷ (48 + b) ∷ (48 + c) ∷ (48 + d) ∷ (48 + e) ∷ (48 + f) ∷ (48 + g) ∷ []

abbrev run_line : Bytes → Bytes
run_line digits = 114 ∷ 117 ∷ 110 ∷ 32 ∷ digits

run_words : (digits : Bytes) → words_of digits ≡ digits ∷ []
    → words_of (run_line digits) ≡ (114 ∷ 117 ∷ 110 ∷ []) ∷ digits ∷ []
run_words digits e = rw e refl

from_1 : (k : ℕ) → 1 ≤ k → k ≤ most_steps → from_1_to most_steps (Some k) ≡ Some k
from_1 k some most =
    let low : nat_le 1 k ≡ true = grind (arith, nat_tests) in
    let high : nat_le k most_steps ≡ true = grind (arith, nat_tests) in
    rw (low, high) refl

runs : (digits : Bytes) (k : ℕ) → decimal_of digits ≡ Some k → 1 ≤ k → k ≤ most_steps
    → command_of_words ((114 ∷ 117 ∷ 110 ∷ []) ∷ digits ∷ []) ≡ Run k
unfolding command_of_words
runs digits k number some most = ap (λ n. number_command Run (from_1_to most_steps n)) number ∙ ap (number_command Run) (from_1 k some most)

next_digit : (n x : ℕ) (bytes : Bytes) → x < 10 → number_from decimal_value 10 n ((48 + x) ∷ bytes)
    ≡ number_from decimal_value 10 (n * 10 + x) bytes
next_digit n x bytes small = ap (option_and_then (λ value. number_from decimal_value 10 (n * 10 + value) bytes)) (digit x small)

abbrev AreSmall : List ℕ → Type 0
AreSmall [] = ⊤
AreSmall (x ∷ xs) = (x < 10) × AreSmall xs

abbrev number_after : ℕ → List ℕ → ℕ
number_after n [] = n
number_after n (x ∷ xs) = number_after (n * 10 + x) xs

numbers : (xs : List ℕ) (n : ℕ) → AreSmall xs
    → number_from decimal_value 10 n (map (λ x. 48 + x) xs) ≡ Some (number_after n xs)
numbers [] n h = refl
numbers (x ∷ xs) n h = next_digit n x (map (λ x. 48 + x) xs) h.0 ∙ numbers xs (n * 10 + x) h.1

module _ (a b c d e f g : ℕ) (a-small : a < 10) (b-small : b < 10) (c-small : c < 10) (d-small : d < 10) (e-small : e < 10) (f-small : f < 10)
    (g-small : g < 10) where
  abbrev value : ℕ
  value = (((((a * 10 + b) * 10 + c) * 10 + d) * 10 + e) * 10 + f) * 10 + g

  number : decimal_of (seven a b c d e f g) ≡ Some value
  unfolding decimal_of
  number =
      numbers (a ∷ b ∷ c ∷ d ∷ e ∷ f ∷ g ∷ []) 0 (a-small, (b-small, (c-small, (d-small, (e-small, (f-small, (g-small, tt)))))))
      ∙ ap (λ (n : ℕ). Some n) (omega arith)

  words : words_of (run_line (seven a b c d e f g)) ≡ (114 ∷ 117 ∷ 110 ∷ []) ∷ seven a b c d e f g ∷ []
  words = run_words (seven a b c d e f g) (word_alone (48 + a) _
      (no_space a, (no_space b, (no_space c, (no_space d, (no_space e, (no_space f, (no_space g, tt))))))))

  asks : 1 ≤ value → value ≤ most_steps → command_of (run_line (seven a b c d e f g)) ≡ Run value
  unfolding command_of
  asks some most =
      ap (λ ws. cond (is_asm ws) (asm_command (address_of (second_word ws)) (text_of (run_line (seven a b c d e f g)))) (command_of_words ws)) words
      ∙ runs (seven a b c d e f g) value number some most

pub each_run_has_a_line : EachRunHasALine
each_run_has_a_line k some most =
    let p = k / 10 in
    let q = p / 10 in
    let r = q / 10 in
    let s = r / 10 in
    let t = s / 10 in
    let u = t / 10 in
    let same : (((((u * 10 + t % 10) * 10 + s % 10) * 10 + r % 10) * 10 + q % 10) * 10 + p % 10) * 10 + k % 10 ≡ k = omega arith in (
      run_line (seven u (t % 10) (s % 10) (r % 10) (q % 10) (p % 10) (k % 10)),
      asks u (t % 10) (s % 10) (r % 10) (q % 10) (p % 10) (k % 10) (omega arith) (omega arith) (omega arith) (omega arith) (omega arith) (omega arith)
          (omega arith)
          (omega arith) (omega arith) ∙ ap Run same,
    )

-- ---- the runs that lines ask for

-- a run is of no more steps than a line may ask for
abbrev FewSteps : Command → Type 0
FewSteps (Run n) = n ≤ most_steps
FewSteps command = ⊤

either : (b : Bool) (x y : Command) → FewSteps x → FewSteps y → FewSteps (cond b x y)
either true x y h k = h
either false x y h k = k

none_few : (command : Command) (ws : List Bytes) → FewSteps command
    → FewSteps (with_none command ws)
none_few command [] h = h
none_few command (a ∷ ws) h = tt

one_few : (f : Bytes → Command) (ws : List Bytes) → ((a : Bytes) → FewSteps (f a))
    → FewSteps (with_one f ws)
one_few f [] h = tt
one_few f (a ∷ []) h = h a
one_few f (a ∷ b ∷ ws) h = tt

two_few : (f : Bytes → Bytes → Command) (ws : List Bytes) → ((a b : Bytes) → FewSteps (f a b))
    → FewSteps (with_two f ws)
two_few f [] h = tt
two_few f (a ∷ []) h = tt
two_few f (a ∷ b ∷ []) h = h a b
two_few f (a ∷ b ∷ c ∷ ws) h = tt

number_few : (f : ℕ → Command) (n : Option ℕ) → ((k : ℕ) → FewSteps (f k))
    → FewSteps (number_command f n)
number_few f (Some k) h = h k
number_few f None h = tt

in_range : (k : ℕ) (b : Bool) → nat_le k most_steps ≡ b
    → FewSteps (number_command Run (cond (nat_le 1 k && b) (Some k) None))
in_range k true e = by (nat_le 1 k)
  where
    high : k ≤ most_steps
    high = grind (arith, nat_tests)

    by : (c : Bool) → FewSteps (number_command Run (cond (c && true) (Some k) None))
    by true = high
    by false = tt
in_range k false e = by (nat_le 1 k)
  where
    by : (c : Bool) → FewSteps (number_command Run (cond (c && false) (Some k) None))
    by true = tt
    by false = tt

run_few : (n : Option ℕ) → FewSteps (number_command Run (from_1_to most_steps n))
run_few (Some k) = in_range k (nat_le k most_steps) refl
run_few None = tt

irq_few : (level : Bytes) → FewSteps (irq_command level)
irq_few level =
    either (bytes_eq level (codes "0")) (Irq false) (cond (bytes_eq level (codes "1")) (Irq true) Bad) tt
    (either (bytes_eq level (codes "1")) (Irq true) Bad tt tt)

byte_few : (register : ℕ → Setting) (given : Option ℕ) → FewSteps (set_byte register given)
byte_few register (Some byte) = tt
byte_few register None = tt

-- the registers, the last first
abbrev set_pc : Bytes → Bytes → Command
set_pc name given = cond (bytes_eq name (codes "PC")) (set_byte Pc (address_of given)) Bad

set_pc_few : (name given : Bytes) → FewSteps (set_pc name given)
set_pc_few name given = either (bytes_eq name (codes "PC")) (set_byte Pc (address_of given)) Bad (byte_few Pc (address_of given)) tt

abbrev set_p : Bytes → Bytes → Command
set_p name given = cond (bytes_eq name (codes "P")) (set_byte P (byte_of given)) (set_pc name given)

set_p_few : (name given : Bytes) → FewSteps (set_p name given)
set_p_few name given = either (bytes_eq name (codes "P")) (set_byte P (byte_of given)) (set_pc name given) (byte_few P (byte_of given)) (set_pc_few name given)

abbrev set_s : Bytes → Bytes → Command
set_s name given = cond (bytes_eq name (codes "S")) (set_byte S (byte_of given)) (set_p name given)

set_s_few : (name given : Bytes) → FewSteps (set_s name given)
set_s_few name given = either (bytes_eq name (codes "S")) (set_byte S (byte_of given)) (set_p name given) (byte_few S (byte_of given)) (set_p_few name given)

abbrev set_y : Bytes → Bytes → Command
set_y name given = cond (bytes_eq name (codes "Y")) (set_byte Y (byte_of given)) (set_s name given)

set_y_few : (name given : Bytes) → FewSteps (set_y name given)
set_y_few name given = either (bytes_eq name (codes "Y")) (set_byte Y (byte_of given)) (set_s name given) (byte_few Y (byte_of given)) (set_s_few name given)

abbrev set_x : Bytes → Bytes → Command
set_x name given = cond (bytes_eq name (codes "X")) (set_byte X (byte_of given)) (set_y name given)

set_x_few : (name given : Bytes) → FewSteps (set_x name given)
set_x_few name given = either (bytes_eq name (codes "X")) (set_byte X (byte_of given)) (set_y name given) (byte_few X (byte_of given)) (set_y_few name given)

abbrev set_a : Bytes → Bytes → Command
set_a name given = cond (bytes_eq name (codes "A")) (set_byte A (byte_of given)) (set_x name given)

set_a_few : (name given : Bytes) → FewSteps (set_a name given)
set_a_few name given = either (bytes_eq name (codes "A")) (set_byte A (byte_of given)) (set_x name given) (byte_few A (byte_of given)) (set_x_few name given)

set_few : (name given : Bytes) → FewSteps (set_command name given)
unfolding set_command
set_few name given = set_a_few name given

mem_few : (first last : Option ℕ) → FewSteps (mem_command first last)
mem_few (Some first) (Some last) = either (nat_le first last) (Mem first last) Bad tt tt
mem_few (Some first) None = tt
mem_few None last = tt

dis_few : (address count : Option ℕ) → FewSteps (dis_command address count)
dis_few (Some address) (Some count) = tt
dis_few (Some address) None = tt
dis_few None count = tt

at_few : (address : ℕ) (bytes : Bytes) → FewSteps (patch_at address bytes)
at_few address [] = tt
at_few address (a ∷ []) = tt
at_few address (a ∷ b ∷ []) = tt
at_few address (a ∷ b ∷ c ∷ []) = tt
at_few address (a ∷ b ∷ c ∷ d ∷ bytes) = tt

patched_few : (address : Option ℕ) (bytes : Option Bytes) → FewSteps (patch_command address bytes)
patched_few (Some address) (Some bytes) = at_few address bytes
patched_few (Some address) None = tt
patched_few None bytes = tt

patch_few : (ws : List Bytes) → FewSteps (patch_words ws)
patch_few [] = tt
patch_few (a ∷ ws) = patched_few (address_of a) (bytes_of_words ws)

given_few : (bytes : Option Bytes) → FewSteps (input_command bytes)
given_few (Some bytes) = either (nat_le (length bytes) 16) (Input (take 16 (bytes ++ commands.no_input)) (length bytes)) Bad tt tt
given_few None = tt

input_few : (ws : List Bytes) → FewSteps (input_words ws)
input_few [] = tt
input_few (a ∷ ws) = given_few (bytes_of_words (a ∷ ws))

asm_few : (address : Option ℕ) (text : Bytes) → FewSteps (asm_command address text)
asm_few (Some address) (b ∷ bs) = tt
asm_few (Some address) [] = tt
asm_few None text = tt

abbrev Row : Type 0
Row = Bytes × (List Bytes → Command)

abbrev AreFew : List Row → Type 0
AreFew [] = ⊤
AreFew (row ∷ rows) = ((ws : List Bytes) → FewSteps (row.1 ws)) × AreFew rows

named_few : (rows : List Row) (name : Bytes) (ws : List Bytes) → AreFew rows
    → FewSteps (command_named rows name ws)
named_few [] name ws h = tt
named_few (row ∷ rows) name ws h = either (bytes_eq name row.0) (row.1 ws) (command_named rows name ws) (h.0 ws) (named_few rows name ws h.1)

rows_few : AreFew commands.commands
rows_few = (
  λ ws. none_few Regs ws tt,
  (
    λ ws. none_few Step ws tt,
    (
      λ ws. none_few Reset ws tt,
      (
        λ ws. none_few Nmi ws tt,
        (
          λ ws. none_few Out ws tt,
          (
            λ ws. none_few Breaks ws tt,
            (
              λ ws. none_few Quit ws tt,
              (
                λ ws. one_few irq_command ws irq_few,
                (
                  λ ws. input_few ws,
                  (
                    λ ws. one_few _ ws (λ a. run_few (decimal_of a)),
                    (
                      λ ws. one_few _ ws (λ a. number_few Back (from_1_to most_steps (decimal_of a)) (λ k. tt)),
                      (
                        λ ws. one_few _ ws (λ a. number_few Break (address_of a) (λ k. tt)),
                        (
                          λ ws. one_few _ ws (λ a. number_few Unbreak (address_of a) (λ k. tt)),
                          (
                            λ ws. one_few _ ws (λ a. number_few Watch (address_of a) (λ k. tt)),
                            (
                              λ ws. one_few _ ws (λ a. number_few Unwatch (address_of a) (λ k. tt)),
                              (
                                λ ws. two_few _ ws (λ a b. mem_few (address_of a) (address_of b)),
                                (
                                  λ ws. two_few _ ws set_few,
                                  (
                                    λ ws. patch_few ws,
                                    (
                                      λ ws. two_few _ ws (λ a b. dis_few (address_of a) (from_1_to 256 (decimal_of b))),
                                      tt,
                                    ),
                                  ),
                                ),
                              ),
                            ),
                          ),
                        ),
                      ),
                    ),
                  ),
                ),
              ),
            ),
          ),
        ),
      ),
    ),
  ),
)

words_few : (ws : List Bytes) → FewSteps (command_of_words ws)
unfolding command_of_words
words_few [] = tt
words_few (w ∷ ws) = named_few commands.commands w ws rows_few

line_few : (line : Bytes) → FewSteps (command_of line)
unfolding command_of
line_few line =
    let words = words_of line in
    let asm = asm_command (address_of (second_word words)) (text_of line) in
    either (nat_lt 255 (length line)) Bad (cond (is_asm words) asm (command_of_words words)) tt
    (either (is_asm words) asm (command_of_words words) (asm_few (address_of (second_word words)) (text_of line)) (words_few words))

-- ---- how many steps a run makes

sooner_few : (a : Option RunEnd) (b : RunEnd) (n : ℕ) → b.did ≤ n → (sooner a b).did ≤ n
sooner_few None b n h = h
sooner_few (Some a) b n h = by (nat_le a.did b.did) refl
  where
    by : (c : Bool) → nat_le a.did b.did ≡ c → (cond c a b).did ≤ n
    by true e = let le : a.did ≤ b.did = grind (arith, nat_tests) in omega arith
    by false e = h

later_few : (r : Option RunEnd) (n : ℕ) → (unwrap_or r (record { did = n; why = Limit })).did ≤ n
    → (unwrap_or (option_map one_later r) (record { did = suc n; why = Limit })).did ≤ suc n
later_few None n h = omega arith
later_few (Some r) n h = omega arith

abbrev limit : ℕ → RunEnd
limit n = record { did = n; why = Limit }

made_few : (r : Result State EventFault) (rest : State → Option RunEnd) (n : ℕ)
    → ((t : State) → (unwrap_or (rest t) (limit n)).did ≤ n)
    → (unwrap_or (refused_now_or_later r rest) (limit (suc n))).did ≤ suc n
made_few (Ok t) rest n h = later_few (rest t) n (h t)
made_few (Err f) rest n h = omega arith

refused_few : (one : OneStep) (n : ℕ) (s : State)
    → (unwrap_or (first_refused one n s) (limit n)).did ≤ n
unfolding first_refused
refused_few one zero s = omega arith
refused_few one (suc n) s = made_few (one s) (λ t. first_refused one n t) n (λ t. refused_few one n t)

steps_few : (n : ℕ) (s : Session) → (run_end n s).did ≤ n
unfolding run_end_by
steps_few n s =
    let last = unwrap_or (first_refused step n s.current) (limit n) in
    let breaks = first_met step (break_met s.breaks) n s.current in
    sooner_few (first_met step (watch_met s.watches) n s.current) (sooner breaks last) n (sooner_few breaks last n (refused_few step n s.current))

-- ---- lines for what is left

abbrev HasLines : List Command → Type 0
HasLines commands = (others : List Bytes) × (map command_of others ≡ commands)

run_again_lines : (k : ℕ) (rest : List Command) → k ≤ most_steps → HasLines rest
    → HasLines (run_again k rest)
run_again_lines zero rest few h = h
run_again_lines (suc k) rest few h =
    let some : eqb (suc k) 0 ≡ false = grind (arith, nat_tests) in
    let line = each_run_has_a_line (suc k) (omega arith) few in
    rw some (line.0 ∷ h.0, λ i. line.1 i ∷ h.1 i)

look_lines : (b : Bool) (line : Bytes) (command : Command) (rest : List Command)
    → command_of line ≡ command → HasLines rest → HasLines (cond b rest (command ∷ rest))
look_lines true line command rest e h = h
look_lines false line command rest e h = (line ∷ h.0, λ i. e i ∷ h.1 i)

kept_lines : (line : Bytes) (command : Command) (s : Session) (rest : List Command)
    → command_of line ≡ command → FewSteps command → HasLines rest
    → HasLines (without_look command s rest)
unfolding without_look
kept_lines line (Run n) s rest e few h = run_again_lines (run_end n s).did rest (omega (arith, steps_few n s, few)) h
kept_lines line command s rest e few h = look_lines (is_look command) line command rest e h

pub what_is_kept_has_lines : WhatIsKeptHasLines
unfolding without_looks
what_is_kept_has_lines s [] = ([], refl)
what_is_kept_has_lines s (line ∷ lines) =
    kept_lines line (command_of line) s _ refl (line_few line) (what_is_kept_has_lines (answer_to (command_of line) s).session lines)
