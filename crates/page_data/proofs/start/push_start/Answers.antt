use Rattle.std.proofs.Common.{◌∙◌, ◌++◌, ℕ, Result, Ok, Err, ap}
use Rattle.std.specs.Prelude.{OnOk}
use Rattle.page_data.specs.Start.{number}
use Rattle.page_data.proofs.Pushing.{on_ok}
use Rattle.page_data.proofs.Starting.{start_again, start_pushed}
use Rattle.page_data.proofs.start.push_start.Goals as goal

pub returns-clause-ok : goal.returns-clause-ok
returns-clause-ok c =
    on_ok c.push_input.result _ _ c.push_input.ensures (λ last.
    start_pushed c.args.session.now.current c.args.written.now.items c.push_pages.new.written.items c.push_registers.new.written.items
    c.push_number.new.written.items c.push_lines.new.written.items c.push_number-2.new.written.items c.push_output.new.written.items
    c.push_input.new.written.items
    c.taken.result (c.taken.ensures ∙ ap (λ b. b.taken) c.bus.ensures)
    c.in_ok-push_pages.ensures c.in_ok-push_registers.ensures
    (c.in_ok-push_number.ensures ∙ ap (λ (n : ℕ). c.push_registers.new.written.items ++ number n) c.cycles.ensures)
    c.in_ok-push_lines.ensures c.in_ok-push_number-2.ensures c.in_ok-push_output.ensures last)

pub returns-clause-told : goal.returns-clause-told
returns-clause-told c = either c.push_input.result _ (λ rest. start_again c.args.session.now.current rest c.is_state.ensures)
  where
    either : {X E : Type 0} (r : Result X E) (P : Type 0) → P → OnOk r P
    either (Ok x) P h = h
    either (Err e) P h = tt
