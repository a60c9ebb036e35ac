use Rattle.std.proofs.Common.{◌∙◌, ◌+◌, ap, sym, refl, append-nil, drop}
use Rattle.model.specs.Transcript.{after_input}
use Rattle.replies.proofs.Inputs.{after_at, given_at, room_at, after_all, given_all}
use Rattle.replies.proofs.events.hand_in.Goals as goal

pub loop-byte-init : goal.loop-byte-init
loop-byte-init c = record { after = refl; given = sym (append-nil _) }

pub hand_in_byte-requires : goal.hand_in_byte-requires
hand_in_byte-requires c = room_at _ _ c.args.bytes.now c.loop-byte.byte-index c.loop-byte-test.true c.requires c.loop-byte.invariant.given

pub loop-byte-preserved : goal.loop-byte-preserved
loop-byte-preserved c = record {
  after = c.loop-byte.invariant.after ∙ after_at _ c.args.bytes.now c.loop-byte.byte-index c.loop-byte-test.true
      ∙ ap (λ s. after_input s (drop (c.loop-byte.byte-index + 1) c.args.bytes.now)) (sym c.hand_in_byte.ensures.after);
  given = given_at _ _ _ c.args.bytes.now c.loop-byte.byte-index c.loop-byte-test.true c.loop-byte.invariant.given c.hand_in_byte.ensures.given;
}

pub returns-clause-after : goal.returns-clause-after
returns-clause-after c = sym (c.loop-byte.invariant.after ∙ after_all _ c.args.bytes.now c.loop-byte.byte-index c.loop-byte-test.false)

pub returns-clause-given : goal.returns-clause-given
returns-clause-given c = given_all _ _ c.args.bytes.now c.loop-byte.byte-index c.loop-byte-test.false c.loop-byte.invariant.given
