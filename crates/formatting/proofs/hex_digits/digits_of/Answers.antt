use Rattle.std.proofs.Common.{◌∙◌, ap, map, refl, sym, arith}
use Rattle.std.specs.Char.{to_ascii_uppercase}
use Rattle.formatting.proofs.Digits.{are_capital, made_capital, on_ok}
use Rattle.formatting.proofs.hex_digits.digits_of.Goals as goal

pub returns-clause-digits : goal.returns-clause-digits
returns-clause-digits c =
    let written = on_ok c.encode_to_slice.result _ (c.encode_to_slice.ensures.fits.1 refl) c.encode_to_slice.ensures.written in
    c.make_ascii_uppercase.ensures.after ∙ ap (map to_ascii_uppercase) written ∙ made_capital c.args.byte (omega (arith, c.ranges.byte))

pub returns-clause-encoded : goal.returns-clause-encoded
returns-clause-encoded c = returns-clause-digits c ∙ sym (are_capital c.args.byte (omega (arith, c.ranges.byte)))
