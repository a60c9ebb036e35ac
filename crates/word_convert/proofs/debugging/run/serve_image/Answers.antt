use Rattle.std.proofs.Common.{◌≡◌}
use Rattle.word_convert.specs.DebugAsked.{debug_view}
use Rattle.word_convert.specs.DebugWord.{Streams}
use Rattle.word_convert.proofs.Served.{has_begun_on}
use Rattle.word_convert.proofs.debugging.run.serve_image.Goals as goal

pub returns-in-Err-clause-begun : goal.returns-in-Err-clause-begun
returns-in-Err-clause-begun g c = λ three.
    let streams : Streams = record {
      given = g.R.Read.remaining c.args.input.now;
      left = g.R.Read.remaining c.serve.new.input;
      held = g.O.Write.contents c.args.output.now;
      now = g.O.Write.contents c.serve.new.output;
    } in
    has_begun_on (debug_view c.args.words.now) c.args.map c.args.image streams _ c.in-Err.fault c.requires.map c.requires.image
    c.in-Err.ensures.serves c.in-Err.ensures.ends
