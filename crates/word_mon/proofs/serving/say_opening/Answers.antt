use Rattle.std.proofs.Common.{◌∙◌, None}
use Rattle.word_mon.specs.Greeting.{greeting_of, has_image}
use Rattle.word_mon.proofs.LinesServed.{opened, shows_then}
use Rattle.mon_session.specs.EventTexts.{shown_text}
use Rattle.word_mon.proofs.serving.say_opening.Goals as goal

pub returns-clause-rests : goal.returns-clause-rests
returns-clause-rests c =
    let first = c.args.terminal.now in
    let shown = shows_then first.mon c.greet.new.mon c.show.new.self c.greet.ensures.shows c.show.ensures.shows in
    let rests = c.draw.ensures.rests in
    (shows_then first.mon c.show.new.self c.draw.new.terminal.mon shown rests.0, rests.1, rests.2, rests.3, rests.4, rests.5)

pub returns-clause-said : goal.returns-clause-said
returns-clause-said c =
    let first = c.args.terminal.now in
    let prompts = c.args.prompts in
    let shown = shows_then first.mon c.greet.new.mon c.show.new.self c.greet.ensures.shows c.show.ensures.shows in
    let state_said = rw c.in_ok-of_memory.ensures.made at c.show.ensures.text in
    c.in_ok-draw.ensures.drawn
    ∙ opened first.view first.mon c.show.new.self first.mon.text.items c.greet.new.mon.text.items c.show.new.self.text.items
    (greeting_of prompts (has_image first.words.now.file.form first.words.now.others.second)
    first.mon.session.current first.mon.places.names c.args.warning_line.now)
    (shown_text first.mon.session.current first.mon.places.names None) _ shown c.in_ok-greet.ensures.said state_said
    (λ i. shown_text (c.greet.ensures.shows.0 i).current (c.greet.ensures.shows.3 i).names None)
