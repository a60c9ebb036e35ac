-- The way along the lines of a source to what can be folded.
use Rattle.std.proofs.Common.{◌≡◌, ◌∙◌, ℕ, ◌+◌, ◌<◌, true, false, List, ◌∷◌, ◌++◌, length, drop, Option, None, Some, refl, ap, get_or, unwrap_or, add-one, drop-cons, arith}
use Rattle.std.proofs.lemmas.List.{drop_all}
use Rattle.std.specs.Borrow.{Bor}
use Rattle.lsp_hints.specs.Folds.{comment_folds, folds_to, is_comment, is_label_line, label_folds}
use Rattle.lsp_hints.specs.declared.folds.Fold.{Fold}
use Rattle.lsp_hints.specs.declared.folds.FoldKind.TheVariants as kinds
use Rattle.model.specs.declared.instruction.Profile.{Profile}
use Rattle.source_notes.specs.Lines.{texts_of}

cut : (xs : List (Bor (List ℕ))) (i : ℕ) (d : Bor (List ℕ)) → i < length xs → drop i xs ≡ get_or xs i d ∷ drop (i + 1) xs
cut xs i d within = rw (add-one, drop-cons xs i d) refl

-- ---- labels

abbrev pub labels_left : Profile → Option ℕ → List (Bor (List ℕ)) → ℕ → List Fold
labels_left profile from lines i = label_folds profile i from (texts_of (drop i lines))

pub label_here : (profile : Profile) (from : Option ℕ) (i : ℕ) (lines : List (Bor (List ℕ))) (d : Bor (List ℕ)) → i < length lines
    → is_label_line profile (get_or lines i d).now ≡ true
    → labels_left profile from lines i ≡ folds_to kinds.Label from i ++ labels_left profile (Some i) lines (i + 1)
unfolding label_folds
label_here profile from i lines d within here = ap (λ (ls : List (Bor (List ℕ))). label_folds profile i from (texts_of ls)) (cut lines i d within)
    ∙ rw here refl

pub no_label : (profile : Profile) (from : Option ℕ) (i : ℕ) (lines : List (Bor (List ℕ))) (d : Bor (List ℕ)) → i < length lines
    → is_label_line profile (get_or lines i d).now ≡ false
    → labels_left profile from lines i ≡ labels_left profile from lines (i + 1)
unfolding label_folds
no_label profile from i lines d within none = ap (λ (ls : List (Bor (List ℕ))). label_folds profile i from (texts_of ls)) (cut lines i d within) ∙ rw none refl

pub labels_end : (profile : Profile) (from : Option ℕ) (i : ℕ) (lines : List (Bor (List ℕ))) → length lines ≡ i
    → labels_left profile from lines i ≡ folds_to kinds.Label from (length lines)
unfolding label_folds
labels_end profile from i lines at = rw (← at, drop_all (length lines) lines (omega arith)) refl

-- ---- comments

abbrev pub comments_left : Option ℕ → List (Bor (List ℕ)) → ℕ → List Fold
comments_left from lines i = comment_folds i from (texts_of (drop i lines))

pub comment_here : (from : Option ℕ) (i : ℕ) (lines : List (Bor (List ℕ))) (d : Bor (List ℕ)) → i < length lines → is_comment (get_or lines i d).now ≡ true
    → comments_left from lines i ≡ comments_left (Some (unwrap_or from i)) lines (i + 1)
unfolding comment_folds
comment_here from i lines d within here = ap (λ (ls : List (Bor (List ℕ))). comment_folds i from (texts_of ls)) (cut lines i d within) ∙ rw here refl

pub no_comment : (from : Option ℕ) (i : ℕ) (lines : List (Bor (List ℕ))) (d : Bor (List ℕ)) → i < length lines → is_comment (get_or lines i d).now ≡ false
    → comments_left from lines i ≡ folds_to kinds.Comment from i ++ comments_left None lines (i + 1)
unfolding comment_folds
no_comment from i lines d within none = ap (λ (ls : List (Bor (List ℕ))). comment_folds i from (texts_of ls)) (cut lines i d within) ∙ rw none refl

pub comments_end : (from : Option ℕ) (i : ℕ) (lines : List (Bor (List ℕ))) → length lines ≡ i
    → comments_left from lines i ≡ folds_to kinds.Comment from (length lines)
unfolding comment_folds
comments_end from i lines at = rw (← at, drop_all (length lines) lines (omega arith)) refl
