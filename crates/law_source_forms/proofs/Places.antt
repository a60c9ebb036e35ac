-- A label as tokens, what is added to it, and its value.
use Rattle.std.proofs.Common.{◌≡◌, ℕ, ◌+◌, ◌/◌, ◌%◌, ◌<◌, ◌^◌, pos, List, [], ◌∷◌, ◌++◌, true, false, Some, None, Ok, Err, refl, ap, ◌∙◌, arith}
use Rattle.std.specs.Prelude.{◌⊎◌, nat_lt}
use Rattle.std.specs.List.{list_all}
use Rattle.std.proofs.lemmas.Bool.{lt-ltb}
use Rattle.model.specs.declared.instruction.Profile.{Profile}
use Rattle.model.specs.declared.instruction.Profile.TheVariants.{N, C}
use Rattle.model.specs.declared.expression.Operator.TheVariants.{Add}
use Rattle.model.specs.declared.expression.TokenKind.TheVariants.{Word}
use Rattle.model.specs.declared.expression.ExprFault.TheVariants as expression
use Rattle.model.specs.Token.{Lexeme, is_source_byte, is_word_byte, run_of, tokens_from, token_at}
use Rattle.model.specs.Expression.{Term, literal, name, binary}
use Rattle.model.specs.Value.{Numbers, eval_of}
use Rattle.model.specs.Names.{Definitions, number_in}
use Rattle.model.specs.Mnemonics.{mnemonic_named, named_among, mnemonics, mnemonic_text}
use Rattle.model.specs.SourceLine.{is_reserved}
use Rattle.law_texts.proofs.Digits.{Digit}
use Rattle.law_texts.proofs.Steps.{word, number, symbol, before}
use Rattle.law_texts.proofs.InstructionIsRead.{high, low, first_half, last_half}
use Rattle.source_forms.specs.Pieces.{label_text}

-- ---- what is added to a label

pub data Tail : Type 0 where
  none : Tail
  one : Tail
  two : Tail

abbrev pub tail_text : Tail → List ℕ
tail_text none = []
tail_text one = 43 ∷ 49 ∷ []
tail_text two = 43 ∷ 50 ∷ []

abbrev pub added : Tail → ℕ
added none = 0
added one = 1
added two = 2

abbrev pub tail_tokens : ℕ → Tail → List Lexeme
tail_tokens p none = []
tail_tokens p one = symbol p 43 ∷ number (p + 1) (49 ∷ []) ∷ []
tail_tokens p two = symbol p 43 ∷ number (p + 1) (50 ∷ []) ∷ []

abbrev pub tail_term : Term → Tail → Term
tail_term e none = e
tail_term e one = binary Add e (literal (Some (pos 1)))
tail_term e two = binary Add e (literal (Some (pos 2)))

abbrev pub tail_end : ℕ → Tail → ℕ
tail_end p none = p
tail_end p one = p + 1 + 1
tail_end p two = p + 1 + 1

abbrev pub place_term : ℕ → Tail → Term
place_term s t = tail_term (name (label_text s)) t

abbrev pub behind_label : ℕ → ℕ
behind_label p = p + 1 + 1 + 1 + 1 + 1 + 1

-- ---- what comes after it

pub data Ending : Type 0 where
  ends : Ending
  by_x : Ending
  by_y : Ending
  closes : Ending
  less_one : Ending

abbrev pub ending_text : Ending → List ℕ
ending_text ends = []
ending_text by_x = 44 ∷ 88 ∷ []
ending_text by_y = 44 ∷ 89 ∷ []
ending_text closes = 41 ∷ []
ending_text less_one = 45 ∷ 49 ∷ []

abbrev pub ending_tokens : ℕ → Ending → List Lexeme
ending_tokens p ends = []
ending_tokens p by_x = symbol p 44 ∷ word (p + 1) (88 ∷ []) ∷ []
ending_tokens p by_y = symbol p 44 ∷ word (p + 1) (89 ∷ []) ∷ []
ending_tokens p closes = symbol p 41 ∷ []
ending_tokens p less_one = symbol p 45 ∷ number (p + 1) (49 ∷ []) ∷ []

-- ---- tokens

label_token : (d e f g h i j k : ℕ) (rest : List ℕ) → Digit d h → Digit e i → Digit f j → Digit g k
    → run_of is_word_byte rest ≡ []
    → token_at (76 ∷ 95 ∷ h ∷ i ∷ j ∷ k ∷ rest) ≡ Some (Word, 76 ∷ 95 ∷ h ∷ i ∷ j ∷ k ∷ [])
unfolding token_at
label_token d e f g h i j k rest D E F G no_more = rw (D.word, E.word, F.word, G.word, no_more) refl

label_first : (p d e f g h i j k : ℕ) (rest : List ℕ) → Digit d h → Digit e i → Digit f j
    → Digit g k → run_of is_word_byte rest ≡ []
    → tokens_from p 0 (76 ∷ 95 ∷ h ∷ i ∷ j ∷ k ∷ rest)
    ≡ before (word p (76 ∷ 95 ∷ h ∷ i ∷ j ∷ k ∷ [])) (tokens_from (behind_label p) 0 rest)
unfolding tokens_from
label_first p d e f g h i j k rest D E F G no_more = rw (label_token d e f g h i j k rest D E F G no_more) refl

pub label_found : (p s : ℕ) (rest : List ℕ) → s < 65536 → run_of is_word_byte rest ≡ []
    → tokens_from p 0 (label_text s ++ rest)
    ≡ before (word p (label_text s)) (tokens_from (behind_label p) 0 rest)
label_found p s rest below no_more =
    label_first p _ _ _ _ _ _ _ _ rest (high (s / 256) (first_half s below)) (low (s / 256)) (high (s % 256) (last_half s)) (low (s % 256)) no_more

abbrev pub after_label : Tail → Ending → List ℕ
after_label t u = tail_text t ++ ending_text u

abbrev pub after_tokens : ℕ → Tail → Ending → List Lexeme
after_tokens p t u = tail_tokens p t ++ ending_tokens (tail_end p t) u

no_word : (t : Tail) (u : Ending) → run_of is_word_byte (after_label t u) ≡ []
no_word none ends = refl
no_word none by_x = refl
no_word none by_y = refl
no_word none closes = refl
no_word none less_one = refl
no_word one u = refl
no_word two u = refl

after_found : (p : ℕ) (t : Tail) (u : Ending)
    → tokens_from p 0 (after_label t u) ≡ Some (after_tokens p t u)
unfolding tokens_from token_at
after_found p none ends = refl
after_found p none by_x = refl
after_found p none by_y = refl
after_found p none closes = refl
after_found p none less_one = refl
after_found p one ends = refl
after_found p one by_x = refl
after_found p one by_y = refl
after_found p one closes = refl
after_found p one less_one = refl
after_found p two ends = refl
after_found p two by_x = refl
after_found p two by_y = refl
after_found p two closes = refl
after_found p two less_one = refl

abbrev pub place_tokens : ℕ → ℕ → Tail → Ending → List Lexeme
place_tokens p s t u = word p (label_text s) ∷ after_tokens (behind_label p) t u

pub place_found : (p s : ℕ) (t : Tail) (u : Ending) → s < 65536
    → tokens_from p 0 (label_text s ++ after_label t u) ≡ Some (place_tokens p s t u)
place_found p s t u below =
    label_found p s (after_label t u) below (no_word t u) ∙ ap (before (word p (label_text s))) (after_found (behind_label p) t u)

pub label_plain : (s : ℕ) (rest : List ℕ) → s < 65536 → list_all is_source_byte rest ≡ true
    → list_all is_source_byte (label_text s ++ rest) ≡ true
label_plain s rest below plain = rw (
  (high (s / 256) (first_half s below)).source,
  (low (s / 256)).source,
  (high (s % 256) (last_half s)).source,
  (low (s % 256)).source,
) plain

pub after_plain : (t : Tail) (u : Ending) → list_all is_source_byte (after_label t u) ≡ true
after_plain none ends = refl
after_plain none by_x = refl
after_plain none by_y = refl
after_plain none closes = refl
after_plain none less_one = refl
after_plain one ends = refl
after_plain one by_x = refl
after_plain one by_y = refl
after_plain one closes = refl
after_plain one less_one = refl
after_plain two ends = refl
after_plain two by_x = refl
after_plain two by_y = refl
after_plain two closes = refl
after_plain two less_one = refl

-- ---- a label is no reserved word

pub free_label : (profile : Profile) (s : ℕ) → is_reserved profile (label_text s) ≡ false
unfolding is_reserved mnemonic_named named_among mnemonics mnemonic_text
free_label N s = refl
free_label C s = refl

-- ---- values

-- each label has its address, or no number yet
abbrev pub Near : Definitions → Type 0
Near names = (s : ℕ) → s < 65536
    → (number_in names (label_text s) ≡ None) ⊎ (number_in names (label_text s) ≡ Some (pos s))

in_range_sum : (s k : ℕ) → s < 65536 → k < 3 → nat_lt (s + k) (2 ^ 31) ≡ true
in_range_sum s k below small = lt-ltb (s + k) (2 ^ 31) (omega (arith, below, small))

pub place_known : (numbers : Numbers) (a s : ℕ) (t : Tail) → s < 65536
    → numbers (label_text s) ≡ Some (pos s)
    → eval_of numbers (pos a) (place_term s t) ≡ Ok (pos (s + added t))
unfolding eval_of
place_known numbers a s none below known = let zero_more : s + 0 ≡ s = omega arith in rw (known, zero_more) refl
place_known numbers a s one below known = rw (known, in_range_sum s 1 below (omega arith)) refl
place_known numbers a s two below known = rw (known, in_range_sum s 2 below (omega arith)) refl

pub place_unknown : (numbers : Numbers) (a s : ℕ) (t : Tail)
    → numbers (label_text s) ≡ None
    → eval_of numbers (pos a) (place_term s t) ≡ Err expression.UnknownName
unfolding eval_of
place_unknown numbers a s none unknown = rw unknown refl
place_unknown numbers a s one unknown = rw unknown refl
place_unknown numbers a s two unknown = rw unknown refl
