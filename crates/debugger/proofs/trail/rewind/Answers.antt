use Rattle.std.proofs.Common.{◌≡◌, ◌+◌, ◌-◌, ◌*◌, ◌/◌, ◌≤◌, ◌∙◌, sym, ap, arith, length, take, length-take, ◌++◌, ◌∷◌, []}
use Rattle.circular_buffer.specs.Buffer.{last_item}
use Rattle.debugger.specs.Replay.{held_states}
use Rattle.debugger.proofs.Trails.{kept_leads, gone_back, returned_there, renamed}
use Rattle.debugger.proofs.trail.rewind.Goals as goal

pub return_to_last-requires : goal.return_to_last-requires
return_to_last-requires c = λ d last.
    let old = c.args.trail.now in
    let m = (c.len.result - c.args.count) / 1024 + 1 in
    let within : m ≤ length old.kept.items = omega (arith, c.len.ensures.len, c.requires.room.count) in
    (kept_leads 1024 m old.kept.items old.events.items c.args.machine.now d (sym (ap last_item c.put_aside.ensures.kept) ∙ last) within c.requires.history).fits

pub returns-clause-history : goal.returns-clause-history
returns-clause-history c =
    let old = c.args.trail.now in
    let n = c.len.result - c.args.count in
    let m = n / 1024 + 1 in
    let within : m ≤ length old.kept.items = omega (arith, c.len.ensures.len, c.requires.room.count) in
    let place : n / 1024 * 1024 ≡ 1024 * (m - 1) = omega arith in
    let end = returned_there 1024 m (n / 1024 * 1024) n old.kept.items old.events.items c.args.machine.now c.return_to_last.new.machine
    c.replay.new.machine (omega arith) within place c.requires.history
    (λ d last. c.return_to_last.ensures d (ap last_item c.put_aside.ensures.kept ∙ last)) c.replay.ensures in
    let room : 1024 * length (take m old.kept.items) ≤ n + 1024 = omega (arith, length-take m old.kept.items) in
    let g = gone_back 1024 n m old.kept.items old.events.items c.args.machine.now (omega arith) (omega arith) room (omega (arith, c.len.ensures.len))
    c.requires.history in
    renamed 1024 _ _ _ _ _ _ c.put_aside.ensures.kept (ap (λ b. b.items) c.truncate_back.ensures) end g.history

pub returns-clause-states : goal.returns-clause-states
returns-clause-states c =
    let old = c.args.trail.now in
    let n = c.len.result - c.args.count in
    let m = n / 1024 + 1 in
    let within : m ≤ length old.kept.items = omega (arith, c.len.ensures.len, c.requires.room.count) in
    let place : n / 1024 * 1024 ≡ 1024 * (m - 1) = omega arith in
    let end = returned_there 1024 m (n / 1024 * 1024) n old.kept.items old.events.items c.args.machine.now c.return_to_last.new.machine
    c.replay.new.machine (omega arith) within place c.requires.history
    (λ d last. c.return_to_last.ensures d (ap last_item c.put_aside.ensures.kept ∙ last)) c.replay.ensures in
    let room : 1024 * length (take m old.kept.items) ≤ n + 1024 = omega (arith, length-take m old.kept.items) in
    let g = gone_back 1024 n m old.kept.items old.events.items c.args.machine.now (omega arith) (omega arith) room (omega (arith, c.len.ensures.len))
    c.requires.history in
    let left = old.held - c.args.count in
    let events = ap (λ b. b.items) c.truncate_back.ensures in
    let count : n ≡ length old.events.items - c.args.count = omega (arith, c.len.ensures.len) in
    (λ i. held_states left (c.put_aside.ensures.kept i) (events i) (end i) ++ end i ∷ [])
    ∙ g.states old.held c.args.count c.requires.room.few c.requires.held count
