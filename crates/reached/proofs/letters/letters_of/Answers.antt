use Rattle.std.proofs.Common.{◌≡◌, ◌∙◌, sym, ap, arith}
use Rattle.reached.specs.Reached.{letters_to, with_string}
use Rattle.reached.proofs.LettersFound.{letters_more, letters_none}
use Rattle.reached.proofs.letters.letters_of.Goals as goal

pub loop-address-init : goal.loop-address-init
loop-address-init c = record {
  so_far = c.in_ok-letters.ensures.none ∙ sym (letters_none c.args.profile c.args.cells.now c.args.marks.now c.args.routines.now c.args.flags.now);
  size = c.in_ok-letters.ensures.len;
}

pub loop-address-preserved : goal.loop-address-preserved
loop-address-preserved c = record {
  so_far = letters_more c.args.profile c.args.cells.now c.args.marks.now c.args.routines.now c.args.flags.now c.loop-address.letters.items
      c.flag_string.new.letters.items c.loop-address.address c.loop-address.invariant.so_far
      (c.flag_string.ensures.set ∙ ap (with_string c.loop-address.letters.items) c.reached_string-string.ensures);
  size = c.flag_string.ensures.size;
}

pub returns : goal.returns
returns c =
    let full : c.loop-address.address ≡ 65536 = omega (arith, c.loop-address-test.false, c.loop-address.auto.address-end) in
    rw full at c.loop-address.invariant.so_far
