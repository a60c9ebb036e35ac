use Rattle.word_mon.specs.Files.{ServesAgain}
use Rattle.word_mon.proofs.reloading.serve_again.Goals as goal

pub returns : goal.returns
unfolding ServesAgain
returns c none =
    let first = c.in_ok-say_warned.ensures.text none in (
      c.say_warned.new.mon,
      c.say_warned.ensures.shows,
      first.0,
      first.1,
      c.repeat.new.mon,
      c.in_ok-left.ensures,
      c.show.ensures.shows,
      c.in_ok-show.ensures.text,
    )
