-- What `clean_source` returns.
use Rattle.std.proofs.Common.{◌≡◌, ℕ, List, sym, ap, ◌∙◌}
use Rattle.clean_source.specs.Cleaned.{cleaned}
use Rattle.clean_source.proofs.Twice.{cleaned_stays}

pub is_clean : (source text : List ℕ) → text ≡ cleaned source → cleaned text ≡ text
is_clean source text e = ap cleaned e ∙ (cleaned_stays source ∙ sym e)
