use Rattle.std.proofs.Common.{◌≡◌, ◌∙◌, ℕ, ◌+◌, ◌++◌, List, ap, arith, drop, get_or}
use Rattle.std.specs.Prelude.{string_bytes}
use Rattle.word_cmp.specs.DifferenceRows.{told_of}
use Rattle.word_cmp.specs.Sides.{side_view}
use Rattle.word_cmp.proofs.DifferenceRows.{one_row_more, rest_of, rows_done, all_end}
use Rattle.word_cmp.proofs.row_text.rows.Goals as goal

pub loop-place-preserved : goal.loop-place-preserved
loop-place-preserved c =
    let one = side_view c.args.one.now in
    let other = side_view c.args.other.now in
    let all = c.args.differences.now in
    let place = c.loop-place.place in
    let grown : string_bytes c.push_next.new.words ≡ string_bytes c.loop-place.words
    ++ told_of one other c.loop-place.before (get_or all place 0) (drop (place + 1) all) =
    c.in_ok-push_next.ensures ∙ ap (λ (more : List ℕ). string_bytes c.loop-place.words
    ++ told_of one other c.loop-place.before (get_or all place 0) more) (rest_of all (place + 1)) in
    one_row_more one other c.loop-place.before all place _ _ _ (omega arith) grown c.loop-place.invariant

pub returns-clause-text : goal.returns-clause-text
returns-clause-text c = rows_done (side_view c.args.one.now) (side_view c.args.other.now) c.loop-place.before c.args.differences.now
    c.loop-place.place _ _ (omega arith) c.loop-place.invariant

pub returns-clause-lines : goal.returns-clause-lines
returns-clause-lines c =
    let same = rows_done (side_view c.args.one.now) (side_view c.args.other.now) c.loop-place.before c.args.differences.now c.loop-place.place _ _
    (omega arith) c.loop-place.invariant in
    rw same (all_end (side_view c.args.one.now) (side_view c.args.other.now) c.args.differences.now c.requires)
