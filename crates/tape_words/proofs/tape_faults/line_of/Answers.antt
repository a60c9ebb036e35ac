use Rattle.std.proofs.Common.{◌+◌, ◌-◌, ap, length, arith}
use Rattle.tape_words.specs.Lines.{line_ends}
use Rattle.tape_words.proofs.LineLemmas.{no_more, none_ends, none_left, one_more, shorter}
use Rattle.tape_words.proofs.tape_faults.line_of.Goals as goal

pub returns-then-is_empty : goal.returns-then-is_empty
returns-then-is_empty c =
    let none = none_ends (c.args.offset - c.loop-seen.seen) c.loop-seen.rest.now
    (none_left c.loop-seen.rest.now c.is_empty.result c.is_empty.ensures c.if-is_empty.true) in
    omega (arith, none, c.loop-seen.invariant.counted)

pub loop-seen-preserved : goal.loop-seen-preserved
loop-seen-preserved c =
    let rest = c.loop-seen.rest.now in
    let left = c.args.offset - (c.loop-seen.seen + 1) in
    let more = one_more (c.args.offset - c.loop-seen.seen) left rest (omega arith) in
    let first = c.ends_first-line.ensures.value in
    let same = ap (λ t. line_ends left t) c.without_first-rest.ensures in
    let one = shorter rest c.is_empty.result c.is_empty.ensures c.if-is_empty.false in
    let behind = ap length c.without_first-rest.ensures in
    record {
      counted = omega (arith, more, first, same, c.loop-seen.invariant.counted);
      short = omega (arith, one, behind, c.ends_first-line.ensures.small, c.loop-seen.invariant.short);
    }

pub returns : goal.returns
returns c =
    let none = no_more (c.args.offset - c.loop-seen.seen) c.loop-seen.rest.now (omega arith) in
    omega (arith, none, c.loop-seen.invariant.counted)
