use Rattle.std.proofs.Common.{◌-◌, arith, drop, length, length-drop, subst, sym}
use Rattle.std.proofs.lemmas.List.{take_all}
use Rattle.image_reader.specs.EndRecords.{AreEndDigits}
use Rattle.image_reader.proofs.EndRecords.{end_digits}
use Rattle.image_reader.proofs.end_record.end_digits.Goals as goal

pub returns-in-len1-up-clause-all : goal.returns-in-len1-up-clause-all
returns-in-len1-up-clause-all c =
    subst AreEndDigits (sym (take_all (length c.args.bytes.now - 1) (drop 1 c.args.bytes.now) (omega (arith, length-drop 1 c.args.bytes.now))))
    (end_digits c.args.bytes.now c.requires)
