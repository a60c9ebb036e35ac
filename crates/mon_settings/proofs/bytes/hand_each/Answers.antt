use Rattle.std.proofs.Common.{◌≡◌, ◌+◌, true, false, drop, get_or, sym, ap, ◌∙◌, arith, ◌++◌, ◌∷◌, [], append-nil}
use Rattle.std.specs.Prelude.{is_ok}
use Rattle.std.proofs.lemmas.Grind.{common_steps}
use Rattle.model.specs.Event.{event_of}
use Rattle.model.specs.declared.event.Event.TheVariants.{Input}
use Rattle.mon_session.specs.Course.{course_of}
use Rattle.mon_settings.specs.ByteLines.{all_happened, first_fault, inputs}
use Rattle.mon_settings.proofs.Made.{accepted_said, fault_said, is_no_fault, is_some_fault, no_fault, nothing_said, inputs-end, inputs-from, made, none_left, rejected}
use Rattle.mon_settings.proofs.bytes.hand_each.Goals as goal

pub returns-in_err-happen-clause-course : goal.returns-in_err-happen-clause-course
returns-in_err-happen-clause-course c =
    let bytes = c.args.bytes.now in
    let i = c.loop-byte.byte-index in
    let before = course_of c.loop-byte.mon in
    let rest = inputs (drop (i + 1) bytes) in
    c.happen.ensures.course
    ∙ sym (c.loop-byte.invariant.course
    ∙ ap (λ es. all_happened es before) (inputs-from bytes i (omega (arith, c.loop-byte-test.true)))
    ∙ rejected (Input (get_or bytes i 0)) rest before c.in_err-happen.ensures.memory)

pub returns-then-not-branch-clause-course : goal.returns-then-not-branch-clause-course
returns-then-not-branch-clause-course c =
    let bytes = c.args.bytes.now in
    let i = c.loop-byte.byte-index in
    let before = course_of c.loop-byte.mon in
    let rest = inputs (drop (i + 1) bytes) in
    let fails : is_ok (event_of before.0.current (Input (get_or bytes i 0))) ≡ false =
    grind (arith, common_steps, c.in_ok-happen.ensures.accepted, c.if-not-branch.true) in
    c.happen.ensures.course
    ∙ sym (c.loop-byte.invariant.course
    ∙ ap (λ es. all_happened es before) (inputs-from bytes i (omega (arith, c.loop-byte-test.true)))
    ∙ rejected (Input (get_or bytes i 0)) rest before fails)

pub loop-byte-preserved : goal.loop-byte-preserved
loop-byte-preserved c =
    let bytes = c.args.bytes.now in
    let i = c.loop-byte.byte-index in
    let before = course_of c.loop-byte.mon in
    let rest = inputs (drop (i + 1) bytes) in
    let holds : is_ok (event_of before.0.current (Input (get_or bytes i 0))) ≡ true =
    grind (arith, common_steps, c.in_ok-happen.ensures.accepted, c.if-not-branch.false) in
    record {
      course = c.loop-byte.invariant.course
          ∙ ap (λ es. all_happened es before) (inputs-from bytes i (omega (arith, c.loop-byte-test.true)))
          ∙ made (Input (get_or bytes i 0)) rest before holds
          ∙ ap (all_happened rest) (sym c.happen.ensures.course);
      fault = c.loop-byte.invariant.fault
          ∙ ap (λ es. first_fault es before) (inputs-from bytes i (omega (arith, c.loop-byte-test.true)))
          ∙ no_fault (Input (get_or bytes i 0)) rest before holds
          ∙ ap (first_fault rest) (sym c.happen.ensures.course);
      text = c.in_ok-happen.ensures.text
          ∙ ap (λ l. c.loop-byte.mon.text.items ++ l) (accepted_said c.loop-byte.mon.places.names (Input (get_or bytes i 0)) before [] holds)
          ∙ append-nil c.loop-byte.mon.text.items ∙ c.loop-byte.invariant.text;
      stops = (
        c.happen.ensures.stops.0 ∙ c.loop-byte.invariant.stops.0,
        c.happen.ensures.stops.1
            ∙ c.loop-byte.invariant.stops.1,
        c.happen.ensures.stops.2 ∙ c.loop-byte.invariant.stops.2,
      );
    }

pub returns-clause-course : goal.returns-clause-course
returns-clause-course c =
    let bytes = c.args.bytes.now in
    let i = c.loop-byte.byte-index in
    let after = course_of c.loop-byte.mon in
    sym (c.loop-byte.invariant.course
    ∙ ap (λ es. all_happened es after) (inputs-end bytes i (omega (arith, c.loop-byte-test.false)))
    ∙ none_left after)

pub returns-then-not-branch-clause-done : goal.returns-then-not-branch-clause-done
returns-then-not-branch-clause-done c =
    let bytes = c.args.bytes.now in
    let i = c.loop-byte.byte-index in
    let before = course_of c.loop-byte.mon in
    let rest = inputs (drop (i + 1) bytes) in
    let fails : is_ok (event_of before.0.current (Input (get_or bytes i 0))) ≡ false =
    grind (arith, common_steps, c.in_ok-happen.ensures.accepted, c.if-not-branch.true) in
    let so_far : first_fault (inputs bytes) (course_of c.args.mon.now) ≡ first_fault ((Input (get_or bytes i 0)) ∷ rest) before =
    c.loop-byte.invariant.fault ∙ ap (λ es. first_fault es before) (inputs-from bytes i (omega (arith, c.loop-byte-test.true))) in
    is_some_fault (inputs bytes) (course_of c.args.mon.now) (Input (get_or bytes i 0)) rest before so_far fails

pub returns-then-not-branch-clause-text : goal.returns-then-not-branch-clause-text
returns-then-not-branch-clause-text c =
    let bytes = c.args.bytes.now in
    let i = c.loop-byte.byte-index in
    let before = course_of c.loop-byte.mon in
    let rest = inputs (drop (i + 1) bytes) in
    let fails : is_ok (event_of before.0.current (Input (get_or bytes i 0))) ≡ false =
    grind (arith, common_steps, c.in_ok-happen.ensures.accepted, c.if-not-branch.true) in
    let so_far : first_fault (inputs bytes) (course_of c.args.mon.now) ≡ first_fault ((Input (get_or bytes i 0)) ∷ rest) before =
    c.loop-byte.invariant.fault ∙ ap (λ es. first_fault es before) (inputs-from bytes i (omega (arith, c.loop-byte-test.true))) in
    fault_said (inputs bytes) (course_of c.args.mon.now) (Input (get_or bytes i 0)) rest before so_far fails
    c.args.mon.now.places.names c.loop-byte.mon.places.names c.args.mon.now.text.items
    c.loop-byte.mon.text.items c.happen.new.self.text.items
    (λ k. (c.loop-byte.invariant.stops.1 k).names) c.loop-byte.invariant.text c.in_ok-happen.ensures.text

pub returns-clause-done : goal.returns-clause-done
returns-clause-done c =
    let bytes = c.args.bytes.now in
    let i = c.loop-byte.byte-index in
    let before = course_of c.loop-byte.mon in
    is_no_fault (inputs bytes) (course_of c.args.mon.now) before
    (c.loop-byte.invariant.fault ∙ ap (λ es. first_fault es before) (inputs-end bytes i (omega (arith, c.loop-byte-test.false))))

pub returns-clause-text : goal.returns-clause-text
returns-clause-text c =
    let bytes = c.args.bytes.now in
    let i = c.loop-byte.byte-index in
    let before = course_of c.loop-byte.mon in
    nothing_said (inputs bytes) (course_of c.args.mon.now) before
    (c.loop-byte.invariant.fault ∙ ap (λ es. first_fault es before) (inputs-end bytes i (omega (arith, c.loop-byte-test.false))))
    c.args.mon.now.places.names c.args.mon.now.text.items c.loop-byte.mon.text.items c.loop-byte.invariant.text
