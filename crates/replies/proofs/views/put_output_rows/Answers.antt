use Rattle.std.proofs.Common.{◌≡◌, ◌+◌, ◌/◌, ◌*◌, ◌++◌, arith, ap, ◌∙◌, refl, length}
use Rattle.std.proofs.KnownBytes.{Appends-nil, Appends-trans}
use Rattle.model.proofs.Written.{front_after, front_more}
use Rattle.replies.proofs.Rows.{parts_to, output_part, parts_none, parts_more, parts_front, output_all, output_at, rows_count}
use Rattle.replies.proofs.views.put_output_rows.Goals as goal

pub loop-row-init : goal.loop-row-init
loop-row-init g c = rw parts_none (Appends-nil _)

pub returns-in-Err-clause-writes : goal.returns-in-Err-clause-writes
returns-in-Err-clause-writes g c =
    let out = c.args.session.now.current.bus.out in let k = c.loop-row.row in
    let total : c.div_ceil-row-end.result ≡ (length out + 31) / 32 =
    c.div_ceil-row-end.ensures ∙ rows_count c.output_len.result ∙ ap (λ n. (n + 31) / 32) c.output_len.ensures in
    let row = c.as_slice.ensures.value ∙ c.output_row_text-text.ensures ∙ output_at out k (32 * k) refl in
    let part = rw row at c.in-Err.ensures.writes in
    let all = parts_front (output_part out) (k + 1) c.div_ceil-row-end.result (omega (arith, c.loop-row-test.true)) in
    rw (output_all out c.div_ceil-row-end.result total, all.1, parts_more)
    (front_more _ _ (parts_to (output_part out) k ++ output_part out k) all.0 (front_after _ _ _ _ _ c.loop-row.invariant part))

pub loop-row-preserved : goal.loop-row-preserved
loop-row-preserved g c =
    let out = c.args.session.now.current.bus.out in let k = c.loop-row.row in
    let row = c.as_slice.ensures.value ∙ c.output_row_text-text.ensures ∙ output_at out k (32 * k) refl in
    rw parts_more (Appends-trans _ _ _ _ _ c.loop-row.invariant (rw row at c.in-Ok.ensures.writes))

pub returns-clause-writes : goal.returns-clause-writes
returns-clause-writes g c =
    let out = c.args.session.now.current.bus.out in
    let total : c.div_ceil-row-end.result ≡ (length out + 31) / 32 =
    c.div_ceil-row-end.ensures ∙ rows_count c.output_len.result ∙ ap (λ n. (n + 31) / 32) c.output_len.ensures in
    let count : c.loop-row.row ≡ c.div_ceil-row-end.result = omega (arith, c.loop-row.auto.row-end, c.loop-row-test.false) in
    rw (output_all out c.loop-row.row (count ∙ total)) c.loop-row.invariant
