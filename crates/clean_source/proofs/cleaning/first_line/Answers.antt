use Rattle.std.proofs.Common.{◌≡◌, sym, ◌∙◌, Some, None}
use Rattle.std.specs.Prelude.{position}
use Rattle.std.proofs.lemmas.List.{take_rest}
use Rattle.clean_source.specs.Cleaned.{ends_line}
use Rattle.clean_source.proofs.Segments.{cut, uncut}
use Rattle.clean_source.proofs.cleaning.first_line.Goals as goal

pub returns-in-Some-clause-cut : goal.returns-in-Some-clause-cut
returns-in-Some-clause-cut c =
    let met : position ends_line c.args.text.now ≡ Some c.in-Some.at = sym c.line_end.ensures ∙ c.in-Some.is in
    rw (c.end_byte.ensures, take_rest) (cut c.args.text.now c.in-Some.at met)

pub returns-in-None-clause-uncut : goal.returns-in-None-clause-uncut
returns-in-None-clause-uncut c =
    let met : position ends_line c.args.text.now ≡ None = sym c.line_end.ensures ∙ c.in-None.is in
    λ _. uncut c.args.text.now met
