use Rattle.std.proofs.Common.{◌≡◌, Some, None, arith}
use Rattle.std.specs.Prelude.{slice_get}
use Rattle.word_asm.proofs.Rows.{name_done, name_there}
use Rattle.word_asm.proofs.names.symbols_text.Goals.{in-Some+in_ok-push_row-in-Some, in-None}
use Rattle.word_asm.proofs.names.symbols_text.Goals as goal

pub loop-index-preserved : goal.loop-index-preserved
loop-index-preserved c = elim c.match-symbol.branch [
  | in-Some+in_ok-push_row-in-Some w ↦
      let is : Some (w.in-Some.symbol.0.now, w.in-Some.symbol.1) ≡ slice_get c.args.names.now c.loop-index.index = rw w.in-Some.is at c.symbol.ensures in
      name_done c.args.format c.loop-index.out.items c.match-symbol.out.items c.args.names.now c.loop-index.index
      (w.in-Some.symbol.0.now, w.in-Some.symbol.1) _ is (rw w.out-is w.in_ok-push_row-in-Some.ensures) c.loop-index.invariant
  | in-None w ↦
      let is : None ≡ slice_get c.args.names.now c.loop-index.index = rw w.in-None.is at c.symbol.ensures in
      absurd (name_there c.args.names.now c.loop-index.index (omega (arith, c.loop-index-test.true)) is)
]
