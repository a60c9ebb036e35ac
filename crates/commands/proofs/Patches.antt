-- A patch has at most three bytes.
use Rattle.std.proofs.Common.{◌≡◌, ℕ, Bool, true, false, List, [], ◌∷◌, length, Option, Some, None, refl, ap, ◌∙◌, if◌then◌else◌, codes}
use Rattle.std.specs.Str.{bytes_eq}
use Rattle.model.specs.Commands.{address_of, byte_of, byte_before, bytes_of_words, input_command, patch_command, words_of}
use Rattle.model.specs.declared.command.Command.{Command}
use Rattle.model.specs.declared.command.Command.TheVariants.{Bad}
use Rattle.commands.specs.Groups.{long_command}
use Rattle.commands.specs.Words.{IsNextWord}

four : (address a b c d : Option ℕ) (more : Option (List ℕ)) → patch_command address (byte_before a (byte_before b (byte_before c (byte_before d more)))) ≡ Bad
four None a b c d more = refl
four (Some n) None b c d more = refl
four (Some n) (Some a) None c d more = refl
four (Some n) (Some a) (Some b) None d more = refl
four (Some n) (Some a) (Some b) (Some c) None more = refl
four (Some n) (Some a) (Some b) (Some c) (Some d) None = refl
four (Some n) (Some a) (Some b) (Some c) (Some d) (Some more) = refl

-- Where there are four words or more for bytes, the command is bad.
too_many : (address : Option ℕ) (a b c d : List ℕ) (words : List (List ℕ)) → patch_command address (bytes_of_words (a ∷ b ∷ c ∷ d ∷ words)) ≡ Bad
too_many address a b c d words = four address (byte_of a) (byte_of b) (byte_of c) (byte_of d) (bytes_of_words words)

pub next : (line word rest : List ℕ) → IsNextWord line word rest → (length word ≡ 0 → ⊥) → words_of line ≡ word ∷ words_of rest
next line [] rest h some = absurd (some refl)
next line (b ∷ w) rest h some = h

either_way : (b : Bool) (x y z : Command) → x ≡ z → y ≡ z → (if b then x else y) ≡ z
either_way true x y z e f = e
either_way false x y z e f = f

-- A command of six words or more, but for `in`.
pub six : (w a b c rest fifth after sixth left : List ℕ) → IsNextWord rest fifth after → (length fifth ≡ 0 → ⊥) → IsNextWord after sixth left
    → (length sixth ≡ 0 → ⊥) → bytes_eq w (codes "in") ≡ false
    → long_command w a (b ∷ c ∷ words_of rest) ≡ Bad
unfolding long_command
six w a b c rest fifth after sixth left p some q more no_in =
    let words = next rest fifth after p some ∙ ap (λ ws. fifth ∷ ws) (next after sixth left q more) in
    let bad : (if bytes_eq w (codes "in") then input_command (bytes_of_words (a ∷ b ∷ c ∷ words_of rest)) else Bad) ≡ Bad =
    ap (λ t. if t then input_command (bytes_of_words (a ∷ b ∷ c ∷ words_of rest)) else Bad) no_in in
    either_way (bytes_eq w (codes "patch")) _ _ Bad (ap (λ ws. patch_command (address_of a) (bytes_of_words (b ∷ c ∷ ws))) words
    ∙ too_many (address_of a) b c fifth sixth (words_of left)) bad
