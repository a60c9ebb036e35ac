-- The way along a row to its comment.
use Rattle.std.proofs.Common.{◌≡◌, ◌∙◌, ℕ, ◌+◌, ◌<◌, ◌≤◌, Bool, true, false, cond, List, [], ◌∷◌, ◌++◌, length, take, drop, get_or, add-one, drop-cons, refl, sym, ap, append_assoc, append-nil}
use Rattle.std.specs.Str.{IsTrimAscii}
use Rattle.std.proofs.lemmas.List.Sums.{prefix_len-le-length}
use Rattle.std.proofs.lemmas.Str.Ascii.{trim_ascii_is}
use Rattle.std.proofs.Math.ListN.{drop_of_length-le}
use Rattle.std.proofs.Math.Seq.{take-suc}
use Rattle.std.proofs.lemmas.List.{take_all}
use Rattle.t65_reports.specs.Reports.{before_comment, begins_comment, behind, row_of, without_front_blanks}
use Rattle.t65_reports.specs.declared.reports.Quoted.{Quoted}
use Rattle.t65_reports.specs.declared.reports.Quoted.TheVariants.{Outside}

pub trimmed : (line whole row : List ℕ) → whole ≡ before_comment Outside line → IsTrimAscii whole row → row ≡ row_of line
unfolding row_of
trimmed line whole row e h =
    trim_ascii_is whole row (without_front_blanks (before_comment Outside line)) (ap without_front_blanks (sym e)) h

at_byte : (i : ℕ) (line : List ℕ) → i < length line → drop i line ≡ get_or line i 0 ∷ drop (i + 1) line
at_byte i line h = rw (add-one, drop-cons line i 0) refl

pub comment_found : (i : ℕ) (quoted : Quoted) (line : List ℕ) → i < length line
    → begins_comment (get_or line i 0) quoted ≡ true → before_comment quoted (drop i line) ≡ []
comment_found i quoted line h e = ap (before_comment quoted) (at_byte i line h) ∙ rw e refl

pub comment_more : (i : ℕ) (quoted next : Quoted) (line : List ℕ) → i < length line
    → begins_comment (get_or line i 0) quoted ≡ false → next ≡ behind (get_or line i 0) quoted
    → take (i + 1) line ++ before_comment next (drop (i + 1) line) ≡ take i line ++ before_comment quoted (drop i line)
comment_more i quoted next line h e f =
    ap (λ t. t ++ before_comment next (drop (i + 1) line)) (rw add-one (take-suc line i 0 h))
    ∙ (append_assoc (take i line) (get_or line i 0 ∷ []) (before_comment next (drop (i + 1) line))
    ∙ ap (λ t. take i line ++ t) (sym (ap (before_comment quoted) (at_byte i line h)
    ∙ rw e (ap (λ (q : Quoted). get_or line i 0 ∷ before_comment q (drop (i + 1) line)) (sym f)))))

pub comment_end : (i : ℕ) (quoted : Quoted) (line : List ℕ) → length line ≤ i
    → take i line ++ before_comment quoted (drop i line) ≡ line
comment_end i quoted line h =
    ap (λ t. take i line ++ before_comment quoted t) (drop_of_length-le line h) ∙ (append-nil (take i line) ∙ take_all i line h)

pub ruleset prefixes = prefix_len-le-length
