use Rattle.std.proofs.Common.{◌≡◌, ◌+◌, ℕ, List, length, slice_index, arith, subst, sym}
use Rattle.model.specs.Digits.{is_hex_byte}
use Rattle.image_reader.proofs.Sizes.{all_pass, bytes_size}
use Rattle.image_reader.proofs.record.read_digits.Goals as goal

pub decoded-requires-clause-hex : goal.decoded-requires-clause-hex
decoded-requires-clause-hex c = all_pass is_hex_byte c.args.digits.now (omega arith)

pub returns-clause-size : goal.returns-clause-size
returns-clause-size c =
    subst (λ (bytes : List ℕ). length bytes ≡ c.args.extra + slice_index bytes 0) (sym c.decoded.ensures)
    (bytes_size c.args.extra c.args.digits.now (omega arith))
