use Rattle.std.proofs.Common.{◌≡◌, ◌+◌, ◌/◌, ◌*◌, ◌++◌, arith, ap, ◌∙◌, refl}
use Rattle.std.proofs.KnownBytes.{Appends-nil, Appends-trans}
use Rattle.model.proofs.Written.{front_after, front_more}
use Rattle.replies.proofs.Rows.{parts_to, row_of, parts_none, parts_more, parts_front, rows_all, row_at}
use Rattle.replies.proofs.views.put_rows.Goals as goal

pub loop-row-init : goal.loop-row-init
loop-row-init g c = rw parts_none (Appends-nil _)

pub returns-in-Err-clause-writes : goal.returns-in-Err-clause-writes
returns-in-Err-clause-writes g c =
    let memory = c.args.session.now.current.bus.memory in let first = c.args.first in let last = c.args.last in let k = c.loop-row.row in
    let row = c.as_slice.ensures.value ∙ c.row_text-text.ensures ∙ row_at memory first last k (first + 16 * k) c.row_end.result refl c.row_end.ensures in
    let part = rw row at c.in-Err.ensures.writes in
    let all = parts_front (row_of memory first last) (k + 1) (c.saturating_sub.result / 16 + 1) (omega (arith, c.loop-row-test.true)) in
    rw (rows_all memory first last (c.saturating_sub.result / 16 + 1) (ap (λ n. n / 16 + 1) c.saturating_sub.ensures), all.1, parts_more)
    (front_more _ _ (parts_to (row_of memory first last) k ++ row_of memory first last k) all.0 (front_after _ _ _ _ _ c.loop-row.invariant part))

pub loop-row-preserved : goal.loop-row-preserved
loop-row-preserved g c =
    let memory = c.args.session.now.current.bus.memory in let first = c.args.first in let last = c.args.last in let k = c.loop-row.row in
    let row = c.as_slice.ensures.value ∙ c.row_text-text.ensures ∙ row_at memory first last k (first + 16 * k) c.row_end.result refl c.row_end.ensures in
    rw parts_more (Appends-trans _ _ _ _ _ c.loop-row.invariant (rw row at c.in-Ok.ensures.writes))

pub returns-clause-writes : goal.returns-clause-writes
returns-clause-writes g c =
    let memory = c.args.session.now.current.bus.memory in let first = c.args.first in let last = c.args.last in
    let count : c.loop-row.row ≡ c.saturating_sub.result / 16 + 1 = omega (arith, c.loop-row.auto.row-end, c.loop-row-test.false) in
    rw (rows_all memory first last c.loop-row.row (count ∙ ap (λ n. n / 16 + 1) c.saturating_sub.ensures)) c.loop-row.invariant
