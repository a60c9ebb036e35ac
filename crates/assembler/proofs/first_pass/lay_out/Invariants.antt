use Rattle.std.proofs.Common.{◌≡◌, ◌+◌, ◌-◌, ◌*◌, ◌≤◌, drop, length}
use Rattle.model.specs.Source.{first_context, read_lines}
use Rattle.model.specs.TextLines.{lines_of}
use Rattle.assembler.specs.Found.{found_lines, nothing_found}
use Rattle.assembler.specs.FoundLines.{found_of}
use Rattle.assembler.specs.Texts.{AreTexts}
use Rattle.assembler.proofs.FirstPass.{left}
use Rattle.assembler.proofs.first_pass.lay_out.Given as goal

abbrev pub invariant-loop-start : goal.invariant-loop-start
invariant-loop-start l = record {
  same : left l.profile l.number (record { profile = l.profile; address = l.address; names = l.symbols }) (found_of l.laid.lines)
      (drop l.start l.source) ≡ found_lines 1 (first_context l.profile) nothing_found (read_lines l.profile l.source);
  texts : AreTexts l.profile l.source l.laid.texts.items l.laid.labels.items;
  here : lines_of (drop l.start l.source) ≡ drop (length l.laid.texts.items) (lines_of l.source);
  paired : length l.laid.texts.items ≡ length (found_of l.laid.lines).extents;
  named : length l.laid.labels.items ≡ length l.symbols;
  counted : l.number ≡ length l.laid.texts.items + 1;
  within : l.start ≤ length l.source;
  room : l.number ≤ l.start + 1;
  near : l.address ≤ 510 * l.start + 65536;
}

abbrev pub decreases-loop-start : goal.decreases-loop-start
decreases-loop-start l = length l.source - l.start
