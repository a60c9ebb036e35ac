use Rattle.std.proofs.Common.{List, ◌≡◌, ◌∙◌, Option, None, Some, ap, length, refl, sym, ℕ}
use Rattle.std.specs.Borrow.{Bor}
use Rattle.std.specs.Option.{option_map}
use Rattle.std.specs.Prelude.{map, slice_get}
use Rattle.std.specs.Slice.{IsItemAt}
use Rattle.std.proofs.lemmas.Option.{slice_get-map, slice_get_past, slice_get_read}
use Rattle.line_parts.specs.TermViews.{term_view}
use Rattle.line_parts.specs.declared.tree.Expr.{Expr}
use Rattle.warnings.proofs.vectors.word_at.Goals as goal

viewed : (xs : List Expr) (i : ℕ) (o : Option (Bor Expr)) → IsItemAt xs i o → option_map (λ e. term_view e.now) o ≡ slice_get (map term_view xs) i
viewed xs i None item = sym (slice_get-map term_view xs i ∙ ap (option_map term_view) (slice_get_past xs i item.3))
viewed xs i (Some e) item = sym (slice_get-map term_view xs i ∙ ap (option_map term_view) (slice_get_read xs (length xs) i e.now refl item.3.0 item.1))

pub returns : goal.returns
returns c = viewed c.args.values.now c.args.index c.get.result c.get.ensures.lookup
