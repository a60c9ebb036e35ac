use Rattle.std.proofs.Common.{◌∙◌, ◌++◌, List, ℕ, Bool, ap}
use Rattle.std.specs.List.{flat_map}
use Rattle.std.specs.Option.{option_to_list}
use Rattle.page_data.specs.Format.{cell, eight, head, word}
use Rattle.page_data.specs.Steps.{cells_after, change_by, read_by, stored_cells}
use Rattle.page_data.proofs.Pushing.{on_ok, record_pushed}
use Rattle.page_data.proofs.step.push_record.Goals as goal

pub returns : goal.returns
returns c =
    let given = c.args.given.now in
    let ahead = c.args.ahead.now in
    let t = c.args.session.now.current in
    let entry = c.was_entered-is_entry.ensures.value in
    on_ok c.push_counted.result _ _ c.push_counted.ensures
    (record_pushed given ahead t c.args.written.now.items c.push.new.self.items c.push_eight.new.written.items c.push_reads.new.written.items
    c.push_cells.new.written.items c.push_out.new.written.items c.push_counted.new.written.items
    c.changed.result c.first_byte.result c.in_ok-push.ensures.items
    (c.first_byte.ensures given ∙ ap (λ (b : Bool). head (change_by b given ahead t)) entry)
    (c.changed.ensures ∙ ap (λ (b : Bool). eight (change_by b given ahead t)) entry)
    c.in_ok-push_eight.ensures
    (c.in_ok-push_reads.ensures ∙ ap (λ (b : Bool). c.push_eight.new.written.items ++ flat_map word (read_by b ahead.moment.nmi ahead.reads.items)) entry)
    (c.in_ok-push_cells.ensures
    ∙ ap (λ (cells : List (ℕ × ℕ)). c.push_reads.new.written.items ++ flat_map cell (cells_after t.bus.memory cells)) c.stored.ensures.value
    ∙ ap (λ (b : Bool). c.push_reads.new.written.items ++ flat_map cell
    (cells_after t.bus.memory (stored_cells b ahead.pushes.items ahead.stores.items))) entry)
    (c.in_ok-push_out.ensures ∙ ap (λ o. c.push_cells.new.written.items ++ option_to_list o) c.out.ensures))
