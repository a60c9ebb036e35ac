-- What the tokens of a row's text say.
use Rattle.std.proofs.Common.{◌≡◌, ℕ, List, [], ◌∷◌, length, true, false, refl}
use Rattle.std.specs.Prelude.{Some, None, Ok, nat_lt}
use Rattle.std.specs.List.{list_all}
use Rattle.model.specs.Token.{Lexeme, is_source_byte, tokens_of, tokens_from}
use Rattle.model.specs.Expression.{Term, literal, in_range, number_of_text}
use Rattle.model.specs.Reading.{expression_of}
use Rattle.model.specs.Mnemonics.{mnemonic_named}
use Rattle.model.specs.SourceLine.{Operand, absent, accumulator, immediate, direct, pointer, pointer_by_x, pointer_by_y, operand_of, whole_expression, operand_reserves}
use Rattle.model.specs.declared.instruction.Profile.{Profile}
use Rattle.model.specs.declared.instruction.Mnemonic.{Mnemonic}
use Rattle.model.specs.declared.line.Index.TheVariants.{Unindexed, X, Y}
use Rattle.model.specs.SourceLine.{instruction, labelled, statement_of, line_of, read_line}
use Rattle.law_texts.proofs.Letters.{Capital}
use Rattle.law_texts.proofs.Steps.{word, number, symbol}

-- the literal of a number's text
abbrev pub written : List ℕ → Term
written text = literal (in_range (number_of_text text))

-- ---- operands

pub absent_read : operand_of [] ≡ Some absent
unfolding operand_of
absent_read = refl

pub accumulator_read : (p : ℕ) → operand_of (word p (65 ∷ []) ∷ []) ≡ Some accumulator
unfolding operand_of
accumulator_read p = refl

pub immediate_read : (p q : ℕ) (t : List ℕ)
    → operand_of (symbol p 35 ∷ number q t ∷ []) ≡ Some (immediate (written t))
unfolding operand_of whole_expression expression_of
immediate_read p q t = refl

pub direct_read : (p : ℕ) (t : List ℕ)
    → operand_of (number p t ∷ []) ≡ Some (direct false (written t) Unindexed)
unfolding operand_of expression_of
direct_read p t = refl

pub direct_by_x_read : (p q r : ℕ) (t : List ℕ)
    → operand_of (number p t ∷ symbol q 44 ∷ word r (88 ∷ []) ∷ [])
    ≡ Some (direct false (written t) X)
unfolding operand_of expression_of
direct_by_x_read p q r t = refl

pub direct_by_y_read : (p q r : ℕ) (t : List ℕ)
    → operand_of (number p t ∷ symbol q 44 ∷ word r (89 ∷ []) ∷ [])
    ≡ Some (direct false (written t) Y)
unfolding operand_of expression_of
direct_by_y_read p q r t = refl

pub marked_read : (o p : ℕ) (t : List ℕ)
    → operand_of (symbol o 33 ∷ number p t ∷ []) ≡ Some (direct true (written t) Unindexed)
unfolding operand_of expression_of
marked_read o p t = refl

pub marked_by_x_read : (o p q r : ℕ) (t : List ℕ)
    → operand_of (symbol o 33 ∷ number p t ∷ symbol q 44 ∷ word r (88 ∷ []) ∷ [])
    ≡ Some (direct true (written t) X)
unfolding operand_of expression_of
marked_by_x_read o p q r t = refl

pub marked_by_y_read : (o p q r : ℕ) (t : List ℕ)
    → operand_of (symbol o 33 ∷ number p t ∷ symbol q 44 ∷ word r (89 ∷ []) ∷ [])
    ≡ Some (direct true (written t) Y)
unfolding operand_of expression_of
marked_by_y_read o p q r t = refl

pub pointer_read : (o p q : ℕ) (t : List ℕ)
    → operand_of (symbol o 40 ∷ number p t ∷ symbol q 41 ∷ []) ≡ Some (pointer (written t))
unfolding operand_of expression_of
pointer_read o p q t = refl

pub pointer_by_x_read : (o p q r s : ℕ) (t : List ℕ)
    → operand_of (symbol o 40 ∷ number p t ∷ symbol q 44 ∷ word r (88 ∷ []) ∷ symbol s 41 ∷ [])
    ≡ Some (pointer_by_x (written t))
unfolding operand_of expression_of
pointer_by_x_read o p q r s t = refl

pub pointer_by_y_read : (o p q r s : ℕ) (t : List ℕ)
    → operand_of (symbol o 40 ∷ number p t ∷ symbol q 41 ∷ symbol r 44 ∷ word s (89 ∷ []) ∷ [])
    ≡ Some (pointer_by_y (written t))
unfolding operand_of expression_of
pointer_by_y_read o p q r s t = refl

-- ---- lines

-- after the mnemonic of a line stands no `:` and no `=`
pub alone_line : (profile : Profile) (m : Mnemonic) (p : ℕ) (w : List ℕ) (operand : Operand)
    → mnemonic_named profile w ≡ Some m → operand_of [] ≡ Some operand
    → line_of profile (word p w ∷ []) ≡ Some (labelled None (instruction m operand))
unfolding line_of statement_of
alone_line profile m p w operand named read = rw (named, read) refl

pub number_line : (profile : Profile) (m : Mnemonic) (p q : ℕ) (w t : List ℕ) (ts : List Lexeme)
    (operand : Operand) → mnemonic_named profile w ≡ Some m
    → operand_of (number q t ∷ ts) ≡ Some operand
    → line_of profile (word p w ∷ number q t ∷ ts) ≡ Some (labelled None (instruction m operand))
unfolding line_of statement_of
number_line profile m p q w t ts operand named read = rw (named, read) refl

pub word_line : (profile : Profile) (m : Mnemonic) (p q : ℕ) (w t : List ℕ) (ts : List Lexeme)
    (operand : Operand) → mnemonic_named profile w ≡ Some m
    → operand_of (word q t ∷ ts) ≡ Some operand
    → line_of profile (word p w ∷ word q t ∷ ts) ≡ Some (labelled None (instruction m operand))
unfolding line_of statement_of
word_line profile m p q w t ts operand named read = rw (named, read) refl

pub hash_line : (profile : Profile) (m : Mnemonic) (p q : ℕ) (w : List ℕ) (ts : List Lexeme)
    (operand : Operand) → mnemonic_named profile w ≡ Some m
    → operand_of (symbol q 35 ∷ ts) ≡ Some operand
    → line_of profile (word p w ∷ symbol q 35 ∷ ts) ≡ Some (labelled None (instruction m operand))
unfolding line_of statement_of
hash_line profile m p q w ts operand named read = rw (named, read) refl

pub marked_line : (profile : Profile) (m : Mnemonic) (p q : ℕ) (w : List ℕ) (ts : List Lexeme)
    (operand : Operand) → mnemonic_named profile w ≡ Some m
    → operand_of (symbol q 33 ∷ ts) ≡ Some operand
    → line_of profile (word p w ∷ symbol q 33 ∷ ts) ≡ Some (labelled None (instruction m operand))
unfolding line_of statement_of
marked_line profile m p q w ts operand named read = rw (named, read) refl

pub bracket_line : (profile : Profile) (m : Mnemonic) (p q : ℕ) (w : List ℕ) (ts : List Lexeme)
    (operand : Operand) → mnemonic_named profile w ≡ Some m
    → operand_of (symbol q 40 ∷ ts) ≡ Some operand
    → line_of profile (word p w ∷ symbol q 40 ∷ ts) ≡ Some (labelled None (instruction m operand))
unfolding line_of statement_of
bracket_line profile m p q w ts operand named read = rw (named, read) refl

-- the whole line
pub line_read : (profile : Profile) (m : Mnemonic) (a b c : ℕ) (rest : List ℕ) (ts : List Lexeme)
    (operand : Operand) → Capital a → Capital b → Capital c
    → nat_lt 255 (length (a ∷ b ∷ c ∷ rest)) ≡ false → list_all is_source_byte rest ≡ true
    → tokens_from 0 0 (a ∷ b ∷ c ∷ rest) ≡ Some ts
    → line_of profile ts ≡ Some (labelled None (instruction m operand))
    → operand_reserves profile operand ≡ false
    → read_line profile (a ∷ b ∷ c ∷ rest) ≡ Ok (labelled None (instruction m operand))
unfolding read_line tokens_of
line_read profile m a b c rest ts operand A B C short source toks line free = rw (short, A.source, B.source, C.source, source, toks, line, free) refl
