use Rattle.std.proofs.Common.{◌≡◌, drop, ◌&&◌}
use Rattle.std.specs.List.{list_all}
use Rattle.image_files.specs.Forms.{is_plain}
use Rattle.image_files.proofs.form.all_are_plain.Given as goal

abbrev pub invariant-loop-byte : goal.invariant-loop-byte
invariant-loop-byte l = (l.all && list_all is_plain (drop l.byte-index l.bytes)) ≡ list_all is_plain l.bytes
