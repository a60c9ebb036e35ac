use Rattle.std.proofs.Common.{◌≡◌, ◌∙◌, ◌<◌, true, false, refl, sym, length, arith}
use Rattle.accesses.specs.Writing.{is_written}
use Rattle.page_writer.proofs.LoadedBytes.{one_ended, one_longer}
use Rattle.page_writer.proofs.stretches.push_before.Goals as goal

pub returns-then-contains-clause-told : goal.returns-then-contains-clause-told
returns-then-contains-clause-told c =
    let inside : c.args.address < length c.args.written.now = omega (arith, c.requires.last, c.requires.all) in
    let is : is_written c.args.written.now c.args.address ≡ true = sym c.contains.ensures ∙ c.if-contains.true in
    one_longer c.args.text.now.items _ c.args.address c.args.len c.args.written.now inside is refl

pub returns-clause-told : goal.returns-clause-told
returns-clause-told c =
    let inside : c.args.address < length c.args.written.now = omega (arith, c.requires.last, c.requires.all) in
    let is : is_written c.args.written.now c.args.address ≡ false = sym c.contains.ensures ∙ c.if-contains.false in
    one_ended c.args.text.now.items c.push_stretch.new.text.items _ c.args.address c.args.len c.args.written.now inside is c.in_ok-push_stretch.ensures refl
