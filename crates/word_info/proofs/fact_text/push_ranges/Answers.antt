use Rattle.std.proofs.Common.{◌≡◌, [], ◌∷◌, length, length-append}
use Rattle.std.proofs.lemmas.Slice.Zip.{zip_end, zip_turn}
use Rattle.std.specs.Iterator.Adapters.{zip_first, zip_second}
use Rattle.std.specs.Slice.Iter.{iter_rest}
use Rattle.word_info.specs.Rows.{range_row}
use Rattle.word_info.proofs.Appended.{all_done, one_more}
use Rattle.word_info.proofs.fact_text.push_ranges.Goals as goal

pub loop-range-preserved : goal.loop-range-preserved
loop-range-preserved c =
    let ranges = c.args.facts.now.ranges.items in
    let sums = c.args.facts.now.checksums.items in
    let first : iter_rest (zip_first c.into_iter-range-iterator.result) ≡ ranges = cc in
    let second : iter_rest (zip_second c.into_iter-range-iterator.result) ≡ sums = cc in
    let turn = zip_turn ranges sums c.loop-range.yielded c.into_iter-range-iterator.result c.loop-range.range-iterator c.next.new.self _ first second
    c.loop-range.yielded_by (c.in-Some.range, c.in-Some.sums) c.in-Some.is c.next.ensures.steps in
    one_more range_row ranges sums (length c.loop-range.yielded) _ c.in-Some.range.now c.in-Some.sums.now _ _ _
    turn.0 turn.1 (turn.2 c.in-Some.range.now) (turn.3 c.in-Some.sums.now)
    (length-append c.loop-range.yielded ((c.in-Some.range, c.in-Some.sums) ∷ [])) c.in_ok-push_range.ensures c.loop-range.invariant

pub returns : goal.returns
returns c =
    let ranges = c.args.facts.now.ranges.items in
    let sums = c.args.facts.now.checksums.items in
    let first : iter_rest (zip_first c.into_iter-range-iterator.result) ≡ ranges = cc in
    let second : iter_rest (zip_second c.into_iter-range-iterator.result) ≡ sums = cc in
    all_done range_row ranges sums (length c.loop-range.yielded) _ _
    (zip_end ranges sums c.loop-range.yielded c.into_iter-range-iterator.result c.loop-range.range-iterator c.next.new.self _ first second
    c.loop-range.yielded_by c.in-None.is c.next.ensures.steps) c.loop-range.invariant
