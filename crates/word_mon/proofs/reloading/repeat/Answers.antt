use Rattle.std.proofs.Common.{subst, sym}
use Rattle.std.proofs.lemmas.List.{drop_all}
use Rattle.word_mon.specs.Files.{Repeats}
use Rattle.word_mon.proofs.Again.{again_more, again_none}
use Rattle.word_mon.proofs.reloading.repeat.Goals as goal

pub loop-noted-init : goal.loop-noted-init
loop-noted-init c new left p =
    subst (λ noted. Repeats c.args.notes.now c.args.mon.now noted new left) c.new-left.ensures.items p

pub loop-noted-preserved : goal.loop-noted-preserved
loop-noted-preserved c new left p =
    let did = c.in_ok-repeat_line.ensures in
    c.loop-noted.invariant new left (again_more c.args.notes.now c.loop-noted.noted-index c.noted-item.result did.0 c.loop-noted.mon
    c.repeat_line.new.mon c.loop-noted.left.items c.repeat_line.new.notes.items
    c.loop-noted-test.true c.noted-item.is did.1 did.2 new left p)

pub returns : goal.returns
returns c =
    let mon = c.loop-noted.mon in
    let left = c.loop-noted.left.items in
    c.loop-noted.invariant mon left (subst (λ l. Repeats l mon left mon left)
    (sym (drop_all c.loop-noted.noted-index c.args.notes.now c.loop-noted-test.false)) (again_none mon left))
