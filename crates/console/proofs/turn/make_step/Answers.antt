use Rattle.std.proofs.Common.{◌≡◌, ◌≤◌, arith, sym, ap, ◌∙◌, length, drop}
use Rattle.accesses.specs.Access.{access_here}
use Rattle.console.specs.Playing.{memo_after}
use Rattle.console.specs.Taking.{counted, take_count}
use Rattle.console.proofs.Steps.{step_leads}
use Rattle.console.specs.Turns.{known}
use Rattle.console.proofs.Turning.{refused, bytes_made, stored_here, made, step_made, waits_on, added}
use Rattle.console.proofs.turn.make_step.Goals as goal

pub returns-in-Err-clause-ok : goal.returns-in-Err-clause-ok
returns-in-Err-clause-ok g c = λ input.
    let e = c.in-Err.ensures.err in
    refused c.args.session.now c.event.new.self (known c.args.player.now) input c.args.is_asked c.args.came c.in-Err.fault e.0 e.1

pub returns-in-Ok-put_output-clause-ok : goal.returns-in-Ok-put_output-clause-ok
returns-in-Ok-put_output-clause-ok g c = λ input.
    let e = c.in-Ok.ensures.ok in
    let s = c.args.session.now in
    let regs = c.regs-after.ensures ∙ ap (λ t. t.current.regs) e.2 in
    let memo = c.memo_after-player.ensures s.current (sym c.requires.access) (sym c.regs-before.ensures)
    ∙ ap (λ r. memo_after c.args.player.now.memo c.args.is_asked c.args.came s.current r) regs in
    let stores = stored_here s.current c.args.access c.regs-before.result c.stores_by-stores.result.items c.requires.access c.regs-before.ensures
    c.stores_by-stores.ensures in
    let written = bytes_made c.args.player.now.written c.note_all.new.self s c.event.new.self e.0 c.moment_of-moment.result
    c.stores_by-stores.result.items c.stored.result.items
    c.note_all.ensures c.stored.ensures c.moment_of-moment.ensures stores e.2 in
    made s c.event.new.self e.0 (known c.args.player.now) (record { memo = c.memo_after-player.result; written = c.note_all.new.self }) input
    c.args.is_asked c.args.came e.1 e.2 memo written

pub returns-in-Ok-put_output-clause-waits : goal.returns-in-Ok-put_output-clause-waits
returns-in-Ok-put_output-clause-waits g c =
    let e = c.in-Ok.ensures.ok in
    let s = c.args.session.now.current in
    let leads = step_leads s e.0 c.is_state.ensures.regs.s (step_made s e.0 e.1) in
    let after = c.regs-after.ensures ∙ ap (λ t. t.current.regs) e.2 in
    let count = c.take_count-count.ensures.count ∙ ap (λ a. take_count a.read s.bus) c.requires.access in
    let same : c.counted.result ≡ counted s.regs.s e.0.regs.s (take_count (access_here s).read s.bus)
    = c.counted.ensures.value ∙ ap (λ r. counted r.s c.regs-after.result.s c.take_count-count.result) c.regs-before.ensures
    ∙ ap (λ r. counted s.regs.s r.s c.take_count-count.result) after ∙ ap (counted s.regs.s e.0.regs.s) count in
    let within : c.counted.result ≤ c.args.player.now.waiting = omega (arith, c.counted.ensures.within, c.take_count-count.ensures.within) in
    rw e.2 (waits_on s e.0 c.args.player.now.waiting c.counted.result (rw (← same) at leads) c.requires.waits within)

pub returns-in-Ok-put_output-clause-output : goal.returns-in-Ok-put_output-clause-output
returns-in-Ok-put_output-clause-output g c =
    let e = c.in-Ok.ensures.ok in
    let s = c.args.session.now.current in
    let more = added s e.0 _ (step_leads s e.0 c.is_state.ensures.regs.s (step_made s e.0 e.1)) in
    let shown : drop c.output_len-shown.result c.event.new.self.current.bus.out ≡ more.0
    = ap (λ n. drop n c.event.new.self.current.bus.out) c.output_len-shown.ensures ∙ ap (λ t. drop (length s.bus.out) t.current.bus.out) e.2 ∙ more.2 in
    (more.0, ap (λ t. t.current.bus.out) e.2 ∙ more.1, rw shown at c.in-Ok-put_output.ensures.writes)

pub returns-in-Err-put_output-clause-err : goal.returns-in-Err-put_output-clause-err
returns-in-Err-put_output-clause-err g c = λ input.
    let e = c.in-Ok.ensures.ok in
    let s = c.args.session.now in
    let regs = c.regs-after.ensures ∙ ap (λ t. t.current.regs) e.2 in
    let memo = c.memo_after-player.ensures s.current (sym c.requires.access) (sym c.regs-before.ensures)
    ∙ ap (λ r. memo_after c.args.player.now.memo c.args.is_asked c.args.came s.current r) regs in
    let stores = stored_here s.current c.args.access c.regs-before.result c.stores_by-stores.result.items c.requires.access c.regs-before.ensures
    c.stores_by-stores.ensures in
    let written = bytes_made c.args.player.now.written c.note_all.new.self s c.event.new.self e.0 c.moment_of-moment.result
    c.stores_by-stores.result.items c.stored.result.items
    c.note_all.ensures c.stored.ensures c.moment_of-moment.ensures stores e.2 in
    made s c.event.new.self e.0 (known c.args.player.now) (record { memo = c.memo_after-player.result; written = c.note_all.new.self }) input
    c.args.is_asked c.args.came e.1 e.2 memo written

pub returns-in-Err-put_output-clause-output : goal.returns-in-Err-put_output-clause-output
returns-in-Err-put_output-clause-output g c =
    let e = c.in-Ok.ensures.ok in
    let s = c.args.session.now.current in
    let more = added s e.0 _ (step_leads s e.0 c.is_state.ensures.regs.s (step_made s e.0 e.1)) in
    let shown : drop c.output_len-shown.result c.event.new.self.current.bus.out ≡ more.0
    = ap (λ n. drop n c.event.new.self.current.bus.out) c.output_len-shown.ensures ∙ ap (λ t. drop (length s.bus.out) t.current.bus.out) e.2 ∙ more.2 in
    (more.0, ap (λ t. t.current.bus.out) e.2 ∙ more.1, rw shown at c.in-Err-put_output.ensures.writes)
