use Rattle.std.proofs.Common.{◌≡◌, ◌++◌}
use Rattle.word_asm.specs.Found.{extents_found}
use Rattle.word_asm.specs.Texts.{map_text}
use Rattle.source_faults.specs.Views.{found_all}
use Rattle.word_asm.proofs.Rows.{places_left}
use Rattle.word_asm.proofs.places.map_text.Given as goal

abbrev pub invariant-loop-line : goal.invariant-loop-line
invariant-loop-line l = record {
  rows : l.out.items ++ places_left l.found l.line-index ≡ map_text 1 (extents_found (found_all l.found));
  number : l.number ≡ l.line-index;
}
