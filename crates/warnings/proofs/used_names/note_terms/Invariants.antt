use Rattle.std.proofs.Common.{◌≡◌}
use Rattle.warnings.proofs.Using.{terms_left}
use Rattle.warnings.proofs.used_names.note_terms.Given as goal

abbrev pub invariant-loop-term : goal.invariant-loop-term
invariant-loop-term l = terms_left l.terms l.term-index l.names ≡ terms_left l.terms 0 l.fn.names
