-- Parts of a text, cut where it ends at the latest.
use Rattle.std.proofs.Common.{◌≡◌, ℕ, List, length, take, drop, min}
use Rattle.std.proofs.lemmas.List.{drop_min, take_min}

pub behind_cut : (text : List ℕ) (at : ℕ) → drop (min at (length text)) text ≡ drop at text
behind_cut text at = drop_min at text

pub front_cut : (text : List ℕ) (count : ℕ) → take (min count (length text)) text ≡ take count text
front_cut text count = take_min count text

pub text_cut : (text : List ℕ) (at count : ℕ) → take (min count (length (drop (min at (length text)) text))) (drop (min at (length text)) text)
    ≡ take count (drop at text)
text_cut text at count = rw (drop_min at text) (take_min count (drop at text))
