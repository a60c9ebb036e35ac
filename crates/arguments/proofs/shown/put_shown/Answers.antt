use Rattle.std.proofs.Common.{◌∙◌, ◌≤◌, ap, arith, chars, encode_utf8, length, map-id, sym}
use Rattle.std.proofs.lemmas.Iterator.{YieldsList-from_chars}
use Rattle.std.proofs.lemmas.Iterator.Consumers.{YieldsList-end, YieldsList-so_far}
use Rattle.arguments.proofs.Names.{all_parts, more_part, none_short, part_failed, put_part, short_part}
use Rattle.arguments.proofs.shown.put_shown.Goals as goal
use Rattle.arguments.proofs.shown.put_shown.Goals.{then-len-gt-MOST_AT_ONCE+in-Ok, else-len-gt-MOST_AT_ONCE}

pub returns-in-Err : goal.returns-in-Err
returns-in-Err g c =
    let front = YieldsList-so_far (YieldsList-from_chars c.args.name.now c.utf8.name cc) c.loop-character.yielded _ c.loop-character.yielded_by in
    part_failed _ _ _ c.loop-character.yielded (chars c.args.name.now) _ front c.loop-character.invariant.written
    (rw c.as_slice.ensures.value at c.in-Err.ensures)

pub loop-character-preserved : goal.loop-character-preserved
loop-character-preserved g c =
    let shown = c.as_bytes.ensures.value ∙ c.encode_utf8-shown.ensures.value ∙ ap encode_utf8 c.shown_char.ensures in
    let small : length c.as_bytes.result.now ≤ 4 = omega (arith, c.encode_utf8-shown.ensures.upper_bound, ap length c.as_bytes.ensures.value) in
    elim c.if-len-gt-MOST_AT_ONCE.branch [
      | then-len-gt-MOST_AT_ONCE+in-Ok w ↦
          let none = w.new-text-then-len-gt-MOST_AT_ONCE.ensures in
          rw w.output-is (record {
            next = tt;
            finite = tt;
            short = short_part _ _ _ (rw w.text-is at c.push_bytes.ensures) small (none_short _ none);
            written = more_part _ _ _ _ _ _ c.in-Some.character
                (put_part _ _ _ _ _ _ c.loop-character.invariant.written (rw w.as_slice.ensures.value at w.in-Ok.ensures) none) shown
                (rw w.text-is at c.push_bytes.ensures);
          })
      | else-len-gt-MOST_AT_ONCE w ↦
          rw w.output-is (record {
            next = tt;
            finite = tt;
            short = short_part c.loop-character.text.items _ _ (rw w.text-is at c.push_bytes.ensures) small
                (omega (arith, w.if-len-gt-MOST_AT_ONCE.false, c.len.ensures.value));
            written = more_part _ _ _ _ _ _ c.in-Some.character c.loop-character.invariant.written shown (rw w.text-is at c.push_bytes.ensures);
          })
    ]

pub returns : goal.returns
returns g c =
    let end = YieldsList-end (YieldsList-from_chars c.args.name.now c.utf8.name cc) c.loop-character.yielded _ c.loop-character.yielded_by _ _
    c.in-None.is c.next.ensures.steps in
    all_parts _ _ _ c.loop-character.yielded (chars c.args.name.now) _ c.put-2.result (sym (map-id c.loop-character.yielded) ∙ end.0)
    c.loop-character.invariant.written (rw c.as_slice-2.ensures.value at c.put-2.ensures)
