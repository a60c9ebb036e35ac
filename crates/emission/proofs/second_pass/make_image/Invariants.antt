use Rattle.std.proofs.Common.{◌≡◌, drop}
use Rattle.model.specs.Image.{empty_image}
use Rattle.model.specs.Names.{number_in}
use Rattle.emission.specs.Made.{image_of_lines}
use Rattle.line_parts.specs.KeptLines.{numbered_lines}
use Rattle.emission.proofs.NoByteAtPort.{IsSpared}
use Rattle.emission.proofs.second_pass.make_image.Given as goal

abbrev pub invariant-loop-line : goal.invariant-loop-line
invariant-loop-line l = record {
  made : image_of_lines l.map (number_in l.names) l.image (numbered_lines (drop l.line-index l.kept))
      ≡ image_of_lines l.map (number_in l.names) empty_image (numbered_lines l.kept);
  spared : IsSpared l.map l.image;
}
