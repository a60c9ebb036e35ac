use Rattle.std.proofs.Common.{[], ℕ, ℤ, IfOk, Option, Some, subst, sym, w64}
use Rattle.std.proofs.lemmas.Int.{to_z-of_z}
use Rattle.dap_views.specs.Rows.{rows_at}
use Rattle.dap_messages.specs.ItemLists.{HasItems}
use Rattle.dap_views.proofs.rows.disassembled.Goals as goal
use Rattle.dap_views.proofs.rows.disassembled.Goals.{in-Some, in-None}

pub returns : goal.returns
returns c =
    let rows = rows_at c.args.mon.now c.args.source.now.files.now c.args.source.now.counting in
    let offset = c.args.offset in
    let count = c.args.count in
    let same_offset = to_z-of_z w64 offset c.ranges.offset in
    let listed : IfOk c.match-address.rows (HasItems (rows offset count c.args.address)) = elim c.match-address.branch [
      | in-Some w ↦
          let moved = subst (λ (z : ℤ). IfOk w.rows_around-rows.result (HasItems (rows z count (Some w.in-Some.until)))) same_offset
          w.rows_around-rows.ensures in
          rw w.rows-is (subst (λ (u : Option ℕ). IfOk w.rows_around-rows.result (HasItems (rows offset count u))) (sym w.in-Some.is) moved)
      | in-None w ↦ rw w.rows-is (subst (λ (u : Option ℕ). IfOk w.with_rows-rows.result (HasItems (rows offset count u))) (sym w.in-None.is)
          (w.with_rows-rows.ensures [] w.new.ensures))
    ] in
    let list = subst (λ r. IfOk r (HasItems (rows offset count c.args.address))) c.in_ok-list.was listed in
    c.instructions_body.ensures _ list
