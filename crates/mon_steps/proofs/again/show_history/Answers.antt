use Rattle.std.proofs.Common.{◌≡◌, ◌∙◌, ◌++◌, ◌<◌, None, ap, arith, length, min, subst}
use Rattle.std.specs.Prelude.{OnOk}
use Rattle.mon_session.specs.Course.{course_of}
use Rattle.mon_session.specs.EventTexts.{shown_text}
use Rattle.mon_steps.specs.BackLines.{remade}
use Rattle.mon_steps.specs.BackTexts.{events_text, remade_text}
use Rattle.mon_steps.proofs.Shown.{all_shown}
use Rattle.mon_steps.proofs.again.show_history.Goals as goal

pub returns-clause-text : goal.returns-clause-text
returns-clause-text c =
    let before = course_of c.args.mon.now in
    let places = c.args.mon.now.places in
    let n = c.min-count.result in
    let old = c.args.mon.now.text.items in
    let new = c.show.new.self.text.items in
    let most : n ≡ min c.args.count (length before.0.earlier) = c.min-count.ensures ∙ ap (min c.args.count) c.held.ensures.held in
    let some : 0 < n = omega (arith, c.if-count-eq0.false) in
    let shown = all_shown c.show.result n places before old c.redo_each_shown.new.mon.text.items new _ some
    (c.in_ok-redo_each_shown.ensures.text ∙ (λ i. (c.go_back.ensures.text i).items ++ remade_text n (c.go_back.ensures.stops.1 i) (c.go_back.ensures.course i)))
    (λ i. shown_text ((c.in_ok-redo_each_shown.ensures.course ∙ ap (remade n) c.go_back.ensures.course) i).0.current
    ((c.redo_each_shown.ensures.stops.1 ∙ c.go_back.ensures.stops.1) i).names None)
    c.show.ensures.text in
    subst (λ m. OnOk c.show.result (new ≡ old ++ events_text m places before)) most shown
