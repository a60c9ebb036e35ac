use Rattle.std.proofs.Common.{◌≡◌, [], ◌++◌, length}
use Rattle.clean_source.specs.Cleaned.{cleaned_from}
use Rattle.clean_source.proofs.cleaning.cleaned_lines.Given as goal

abbrev pub invariant-loop-line : goal.invariant-loop-line
invariant-loop-line l = l.made.items ++ cleaned_from [] l.rest ≡ cleaned_from [] l.text

abbrev pub decreases-loop-line : goal.decreases-loop-line
decreases-loop-line l = length l.rest
