use Rattle.std.proofs.Common.{◌≡◌, drop, ◌&&◌}
use Rattle.std.specs.List.{list_all}
use Rattle.model.specs.Digits.{is_hex_byte}
use Rattle.image_files.proofs.form.all_are_hex.Given as goal

abbrev pub invariant-loop-byte : goal.invariant-loop-byte
invariant-loop-byte l = (l.all && list_all is_hex_byte (drop l.byte-index l.bytes)) ≡ list_all is_hex_byte l.bytes
