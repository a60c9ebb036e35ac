use Rattle.std.proofs.Common.{◌≡◌, ◌∙◌, sym, length, arith}
use Rattle.std.proofs.lemmas.List.{length-set}
use Rattle.std.proofs.lemmas.Option.{slice_get_read}
use Rattle.memory_map.proofs.Filling.{filled_more, filled_all}
use Rattle.memory_map.proofs.image.Image.fill.Goals as goal

pub loop-address-preserved : goal.loop-address-preserved
loop-address-preserved c =
    let inv = c.loop-address.invariant in
    let size : length c.self.inside.cells.items ≡ 65536 = c.self.invariant.size in
    record {
      size = length-set _ _ _ ∙ inv.size;
      front = rw (c.unwrap_or.ensures, ← c.self.view_is) (filled_more c.self.inside.cells.items _ _ c.index.result.now
          (slice_get_read _ 65536 _ _ (sym size) c.loop-address-test.true c.index.ensures) (omega (arith, inv.size)) (omega arith)
          (rw (← c.self.view_is) at inv.front));
    }

pub returns-clause-filled : goal.returns-clause-filled
returns-clause-filled c =
    let inv = c.loop-address.invariant in
    let size : length c.self.inside.cells.items ≡ 65536 = c.self.invariant.size in
    rw (← c.self.view_is) (filled_all c.self.inside.cells.items _ c.loop-address.address (omega (arith, inv.size)) (omega arith)
    (rw (← c.self.view_is) at inv.front))
