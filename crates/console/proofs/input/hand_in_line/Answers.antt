use Rattle.std.proofs.Common.{◌<◌, ◌≤◌, ◌++◌, ◌∷◌, [], arith, length, refl, append-nil, length-append}
use Rattle.std.proofs.KnownBytes.{Consumes-kept, Consumes-nil, Consumes-trans}
use Rattle.console.specs.Line.{room_of}
use Rattle.console.proofs.Lines.{hands_none, hands_byte, reads_none, reads_byte, reads_lf, reads_end, reads_full}
use Rattle.console.proofs.input.hand_in_line.Goals as goal

pub loop-len-init : goal.loop-len-init
loop-len-init g c = ([], Consumes-nil _, refl, hands_none _, reads_none _)

pub returns-in-Ok-None-clause-line : goal.returns-in-Ok-None-clause-line
returns-in-Ok-None-clause-line g c =
    let inv = c.loop-len.invariant in
    let read = rw c.in-Ok-None.field-0-is at c.in-Ok-None.ensures in (
      inv.0,
      rw (append-nil inv.0) at (Consumes-trans _ _ _ inv.0 [] inv.1 read.told),
      λ _. read.end,
      inv.2,
      inv.3.session,
      inv.3.current,
      λ rest none. reads_end (room_of c.args.session.now.current) inv.0 inv.4 rest (none refl),
    )

pub returns-in-Ok-Some-eq10-clause-line : goal.returns-in-Ok-Some-eq10-clause-line
returns-in-Ok-Some-eq10-clause-line g c =
    let inv = c.loop-len.invariant in
    let read = rw (c.in-Ok-Some-eq10.field-0-is, c.in-Ok-Some-eq10.field-0-0-test) at c.in-Ok-Some-eq10.ensures in
    let one = hands_byte c.args.session.now c.loop-len.session c.hand_in_byte.new.session inv.0 10 inv.3 c.hand_in_byte.ensures.after
    c.hand_in_byte.ensures.current in
    let inside : length inv.0 < room_of c.args.session.now.current = omega (arith, inv.2, c.input_room-room.ensures, c.loop-len-test.true) in (
      inv.0 ++ 10 ∷ [],
      Consumes-trans _ _ _ inv.0 (10 ∷ []) inv.1 read.told,
      λ yes. cc,
      omega (arith, inv.2, length-append inv.0 (10 ∷ [])),
      one.session,
      one.current,
      λ rest _. reads_lf (room_of c.args.session.now.current) inv.0 inv.4 inside rest,
    )

pub returns-in-Err-clause-err : goal.returns-in-Err-clause-err
returns-in-Err-clause-err g c =
    let inv = c.loop-len.invariant in (inv.0, Consumes-kept _ _ _ inv.0 inv.1 c.in-Err.ensures.fault, inv.3.session)

pub loop-len-preserved : goal.loop-len-preserved
loop-len-preserved g c =
    let inv = c.loop-len.invariant in
    let read = rw c.in-Ok-Some.field-0-is at c.in-Ok-Some.ensures in
    let b = c.in-Ok-Some.byte in
    let inside : length inv.0 < room_of c.args.session.now.current = omega (arith, inv.2, c.input_room-room.ensures, c.loop-len-test.true) in (
      inv.0 ++ b ∷ [],
      Consumes-trans _ _ _ inv.0 (b ∷ []) inv.1 read.told,
      omega (arith, inv.2, length-append inv.0 (b ∷ [])),
      hands_byte c.args.session.now c.loop-len.session c.hand_in_byte-in-Ok-Some.new.session inv.0 b inv.3 c.hand_in_byte-in-Ok-Some.ensures.after
          c.hand_in_byte-in-Ok-Some.ensures.current,
      reads_byte (room_of c.args.session.now.current) b inv.0 inv.4 inside c.in-Ok-Some.byte-test.1,
    )

pub returns-clause-line : goal.returns-clause-line
returns-clause-line g c =
    let inv = c.loop-len.invariant in
    let full : room_of c.args.session.now.current ≤ length inv.0 = omega (arith, inv.2, c.input_room-room.ensures, c.loop-len-test.false) in (
      inv.0,
      inv.1,
      λ yes. cc,
      omega (arith, inv.2, c.input_room-room.ensures, c.loop-len-test.false, c.loop-len.auto.len-end),
      inv.3.session,
      inv.3.current,
      λ rest _. reads_full (room_of c.args.session.now.current) inv.0 inv.4 full rest,
    )
