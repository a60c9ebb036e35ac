use Rattle.std.proofs.Common.{◌≡◌, ◌+◌, ◌-◌, ◌<◌, ◌++◌, [], arith, ap, ◌∙◌, sym, append-nil, append_assoc}
use Rattle.std.proofs.KnownBytes.{Appends-nil, Appends-trans}
use Rattle.model.specs.Disassembly.{bytes_from, row_in, row_line, rows_in}
use Rattle.model.specs.InstructionText.{row_of}
use Rattle.model.proofs.Written.{front_after, front_more}
use Rattle.replies.proofs.Lists.{rows_past, rows_none, rows_more}
use Rattle.replies.proofs.views.put_instructions.Goals as goal

pub loop-done-init : goal.loop-done-init
loop-done-init g c =
    let all : c.args.count ≡ c.args.count - 0 = omega arith in
    ([], Appends-nil _, ap (λ n. rows_in c.args.session.now.current.bus.map.profile c.args.session.now.current.bus.memory 65535 c.args.address n) all)

pub returns-then-next-gt65535-clause-writes : goal.returns-then-next-gt65535-clause-writes
returns-then-next-gt65535-clause-writes g c =
    let profile = c.args.session.now.current.bus.map.profile in let memory = c.args.session.now.current.bus.memory in let inv = c.loop-done.invariant in
    rw (inv.2 ∙ ap (λ l. inv.0 ++ l) (rows_past profile memory c.loop-done.next (c.args.count - c.loop-done.done) c.if-next-gt65535.true)
    ∙ append-nil inv.0) inv.1

pub returns-in-Err-clause-writes : goal.returns-in-Err-clause-writes
returns-in-Err-clause-writes g c =
    let profile = c.args.session.now.current.bus.map.profile in let memory = c.args.session.now.current.bus.memory in let next = c.loop-done.next in
    let inv = c.loop-done.invariant in
    let n = c.args.count - c.loop-done.done in
    let some : 0 < n = omega (arith, c.loop-done-test.true) in
    let is_bytes = c.as_slice.ensures.value ∙ c.bytes_at-bytes.ensures.bytes in
    let is_row = c.as_slice-in-loop-done.ensures.value ∙ c.row_text_in-row.ensures.text
    ∙ ap (λ p. row_line next c.as_slice.result.now (row_of p c.as_slice.result.now next)) c.profile.ensures
    ∙ ap (λ b. row_line next b (row_of profile b next)) is_bytes in
    let part = rw is_row at c.in-Err.ensures.writes in
    let row = row_line next (bytes_from memory next) (row_in profile memory next) in
    let rest = rows_in profile memory 65535 (next + (row_in profile memory next).len) (n - 1) in
    rw (inv.2 ∙ ap (λ l. inv.0 ++ l) (rows_more profile memory next n c.if-next-gt65535.false some))
    (front_after _ _ _ inv.0 (row ++ rest) inv.1 (front_more _ _ row rest part))

pub loop-done-preserved : goal.loop-done-preserved
loop-done-preserved g c =
    let profile = c.args.session.now.current.bus.map.profile in let memory = c.args.session.now.current.bus.memory in let next = c.loop-done.next in
    let inv = c.loop-done.invariant in
    let n = c.args.count - c.loop-done.done in
    let some : 0 < n = omega (arith, c.loop-done-test.true) in
    let is_bytes = c.as_slice.ensures.value ∙ c.bytes_at-bytes.ensures.bytes in
    let is_row = c.as_slice-in-loop-done.ensures.value ∙ c.row_text_in-row.ensures.text
    ∙ ap (λ p. row_line next c.as_slice.result.now (row_of p c.as_slice.result.now next)) c.profile.ensures
    ∙ ap (λ b. row_line next b (row_of profile b next)) is_bytes in
    let is_len = c.row_text_in-row.ensures.len ∙ ap (λ p. (row_of p c.as_slice.result.now next).len) c.profile.ensures
    ∙ ap (λ b. (row_of profile b next).len) is_bytes in
    let row = row_line next (bytes_from memory next) (row_in profile memory next) in
    let fewer : n - 1 ≡ c.args.count - (c.loop-done.done + 1) = omega arith in (
      inv.0 ++ row,
      Appends-trans _ _ _ _ _ inv.1 (rw is_row at c.in-Ok.ensures.writes),
      inv.2 ∙ ap (λ l. inv.0 ++ l) (rows_more profile memory next n c.if-next-gt65535.false some)
          ∙ sym (append_assoc inv.0 row (rows_in profile memory 65535 (next + (row_in profile memory next).len) (n - 1)))
          ∙ ap (λ k. (inv.0 ++ row) ++ rows_in profile memory 65535 (next + k) (n - 1)) (sym is_len)
          ∙ ap (λ k. (inv.0 ++ row) ++ rows_in profile memory 65535 (next + c.row_text_in-row.result.len) k) fewer,
    )

pub returns-clause-writes : goal.returns-clause-writes
returns-clause-writes g c =
    let profile = c.args.session.now.current.bus.map.profile in let memory = c.args.session.now.current.bus.memory in let inv = c.loop-done.invariant in
    let none : c.args.count - c.loop-done.done ≡ 0 = omega (arith, c.loop-done-test.false) in
    rw (inv.2 ∙ ap (λ l. inv.0 ++ l) (rows_none profile memory c.loop-done.next (c.args.count - c.loop-done.done) none) ∙ append-nil inv.0) inv.1
