use Rattle.std.proofs.Common.{◌≡◌, ◌+◌, true, false, [], ◌∷◌, drop, get_or, sym, ap, ◌∙◌, arith, ◌++◌, append-nil}
use Rattle.std.specs.Prelude.{is_ok}
use Rattle.std.proofs.lemmas.Grind.{common_steps}
use Rattle.model.specs.Event.{event_of}
use Rattle.model.specs.declared.event.Event.TheVariants.{Patch}
use Rattle.mon_session.specs.Course.{course_of}
use Rattle.mon_settings.specs.ByteLines.{all_happened, first_fault, patches}
use Rattle.mon_settings.proofs.Made.{accepted_said, fault_said, is_no_fault, is_some_fault, no_fault, nothing_said, made, none_left, patches-end, patches-from, rejected}
use Rattle.mon_settings.proofs.bytes.patch_each.Goals as goal

pub returns-in_err-happen-clause-course : goal.returns-in_err-happen-clause-course
returns-in_err-happen-clause-course c =
    let a = c.args.address in
    let bytes = c.args.bytes.now in
    let i = c.loop-index.index in
    let before = course_of c.loop-index.mon in
    let rest = patches (a + (i + 1)) (drop (i + 1) bytes) in
    c.happen.ensures.course
    ∙ sym (c.loop-index.invariant.course
    ∙ ap (λ es. all_happened es before) (patches-from a bytes i (omega (arith, c.loop-index-test.true)))
    ∙ rejected (Patch (a + i) (get_or bytes i 0 ∷ 0 ∷ 0 ∷ []) 1) rest before c.in_err-happen.ensures.memory)

pub returns-then-not-branch-clause-course : goal.returns-then-not-branch-clause-course
returns-then-not-branch-clause-course c =
    let a = c.args.address in
    let bytes = c.args.bytes.now in
    let i = c.loop-index.index in
    let before = course_of c.loop-index.mon in
    let rest = patches (a + (i + 1)) (drop (i + 1) bytes) in
    let fails : is_ok (event_of before.0.current (Patch (a + i) (get_or bytes i 0 ∷ 0 ∷ 0 ∷ []) 1)) ≡ false =
    grind (arith, common_steps, c.in_ok-happen.ensures.accepted, c.if-not-branch.true) in
    c.happen.ensures.course
    ∙ sym (c.loop-index.invariant.course
    ∙ ap (λ es. all_happened es before) (patches-from a bytes i (omega (arith, c.loop-index-test.true)))
    ∙ rejected (Patch (a + i) (get_or bytes i 0 ∷ 0 ∷ 0 ∷ []) 1) rest before fails)

pub loop-index-preserved : goal.loop-index-preserved
loop-index-preserved c =
    let a = c.args.address in
    let bytes = c.args.bytes.now in
    let i = c.loop-index.index in
    let before = course_of c.loop-index.mon in
    let rest = patches (a + (i + 1)) (drop (i + 1) bytes) in
    let holds : is_ok (event_of before.0.current (Patch (a + i) (get_or bytes i 0 ∷ 0 ∷ 0 ∷ []) 1)) ≡ true =
    grind (arith, common_steps, c.in_ok-happen.ensures.accepted, c.if-not-branch.false) in
    record {
      course = c.loop-index.invariant.course
          ∙ ap (λ es. all_happened es before) (patches-from a bytes i (omega (arith, c.loop-index-test.true)))
          ∙ made (Patch (a + i) (get_or bytes i 0 ∷ 0 ∷ 0 ∷ []) 1) rest before holds
          ∙ ap (all_happened rest) (sym c.happen.ensures.course);
      fault = c.loop-index.invariant.fault
          ∙ ap (λ es. first_fault es before) (patches-from a bytes i (omega (arith, c.loop-index-test.true)))
          ∙ no_fault (Patch (a + i) (get_or bytes i 0 ∷ 0 ∷ 0 ∷ []) 1) rest before holds
          ∙ ap (first_fault rest) (sym c.happen.ensures.course);
      text = c.in_ok-happen.ensures.text
          ∙ ap (λ l. c.loop-index.mon.text.items ++ l) (accepted_said c.loop-index.mon.places.names (Patch (a + i) (get_or bytes i 0 ∷ 0 ∷ 0 ∷ []) 1)
          before [] holds)
          ∙ append-nil c.loop-index.mon.text.items ∙ c.loop-index.invariant.text;
      stops = (
        c.happen.ensures.stops.0 ∙ c.loop-index.invariant.stops.0,
        c.happen.ensures.stops.1
            ∙ c.loop-index.invariant.stops.1,
        c.happen.ensures.stops.2 ∙ c.loop-index.invariant.stops.2,
      );
    }

pub returns-clause-course : goal.returns-clause-course
returns-clause-course c =
    let a = c.args.address in
    let bytes = c.args.bytes.now in
    let i = c.loop-index.index in
    let after = course_of c.loop-index.mon in
    sym (c.loop-index.invariant.course
    ∙ ap (λ es. all_happened es after) (patches-end a bytes i (omega (arith, c.loop-index-test.false)))
    ∙ none_left after)

pub returns-then-not-branch-clause-done : goal.returns-then-not-branch-clause-done
returns-then-not-branch-clause-done c =
    let a = c.args.address in
    let bytes = c.args.bytes.now in
    let i = c.loop-index.index in
    let before = course_of c.loop-index.mon in
    let rest = patches (a + (i + 1)) (drop (i + 1) bytes) in
    let fails : is_ok (event_of before.0.current (Patch (a + i) (get_or bytes i 0 ∷ 0 ∷ 0 ∷ []) 1)) ≡ false =
    grind (arith, common_steps, c.in_ok-happen.ensures.accepted, c.if-not-branch.true) in
    let so_far : first_fault (patches a bytes) (course_of c.args.mon.now)
    ≡ first_fault ((Patch (a + i) (get_or bytes i 0 ∷ 0 ∷ 0 ∷ []) 1) ∷ rest) before =
    c.loop-index.invariant.fault ∙ ap (λ es. first_fault es before) (patches-from a bytes i (omega (arith, c.loop-index-test.true))) in
    is_some_fault (patches a bytes) (course_of c.args.mon.now) (Patch (a + i) (get_or bytes i 0 ∷ 0 ∷ 0 ∷ []) 1) rest before so_far fails

pub returns-then-not-branch-clause-text : goal.returns-then-not-branch-clause-text
returns-then-not-branch-clause-text c =
    let a = c.args.address in
    let bytes = c.args.bytes.now in
    let i = c.loop-index.index in
    let before = course_of c.loop-index.mon in
    let rest = patches (a + (i + 1)) (drop (i + 1) bytes) in
    let fails : is_ok (event_of before.0.current (Patch (a + i) (get_or bytes i 0 ∷ 0 ∷ 0 ∷ []) 1)) ≡ false =
    grind (arith, common_steps, c.in_ok-happen.ensures.accepted, c.if-not-branch.true) in
    let so_far : first_fault (patches a bytes) (course_of c.args.mon.now)
    ≡ first_fault ((Patch (a + i) (get_or bytes i 0 ∷ 0 ∷ 0 ∷ []) 1) ∷ rest) before =
    c.loop-index.invariant.fault ∙ ap (λ es. first_fault es before) (patches-from a bytes i (omega (arith, c.loop-index-test.true))) in
    fault_said (patches a bytes) (course_of c.args.mon.now) (Patch (a + i) (get_or bytes i 0 ∷ 0 ∷ 0 ∷ []) 1) rest before so_far fails
    c.args.mon.now.places.names c.loop-index.mon.places.names c.args.mon.now.text.items
    c.loop-index.mon.text.items c.happen.new.self.text.items
    (λ k. (c.loop-index.invariant.stops.1 k).names) c.loop-index.invariant.text c.in_ok-happen.ensures.text

pub returns-clause-done : goal.returns-clause-done
returns-clause-done c =
    let a = c.args.address in
    let bytes = c.args.bytes.now in
    let i = c.loop-index.index in
    let before = course_of c.loop-index.mon in
    is_no_fault (patches a bytes) (course_of c.args.mon.now) before
    (c.loop-index.invariant.fault ∙ ap (λ es. first_fault es before) (patches-end a bytes i (omega (arith, c.loop-index-test.false))))

pub returns-clause-text : goal.returns-clause-text
returns-clause-text c =
    let a = c.args.address in
    let bytes = c.args.bytes.now in
    let i = c.loop-index.index in
    let before = course_of c.loop-index.mon in
    nothing_said (patches a bytes) (course_of c.args.mon.now) before
    (c.loop-index.invariant.fault ∙ ap (λ es. first_fault es before) (patches-end a bytes i (omega (arith, c.loop-index-test.false))))
    c.args.mon.now.places.names c.args.mon.now.text.items c.loop-index.mon.text.items c.loop-index.invariant.text
