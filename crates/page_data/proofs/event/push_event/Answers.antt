use Rattle.std.proofs.Common.{◌∙◌, ◌++◌, List, ℕ, ap}
use Rattle.std.specs.List.{flat_map}
use Rattle.page_data.specs.Format.{cell}
use Rattle.page_data.specs.Steps.{cells_after}
use Rattle.page_data.proofs.Pushing.{on_ok}
use Rattle.page_data.proofs.Turning.{event_pushed}
use Rattle.page_data.proofs.event.push_event.Goals as goal

pub returns : goal.returns
returns c =
    let t = c.args.session.now.current in
    on_ok c.push_handed.result _ _ c.push_handed.ensures
    (event_pushed c.args.event c.args.before.now t c.args.written.now.items c.push.new.self.items c.push_eight.new.written.items
    c.push_cells.new.written.items c.push_handed.new.written.items
    c.event_changed.result c.event_head.result c.in_ok-push.ensures.items (c.event_head.ensures c.args.event) c.event_changed.ensures c.in_ok-push_eight.ensures
    (c.in_ok-push_cells.ensures ∙ ap (λ (cells : List (ℕ × ℕ)). c.push_eight.new.written.items ++ flat_map cell (cells_after t.bus.memory cells))
    c.as_slice.ensures.value))
