use Rattle.papertape.proofs.Going.{goes_after, stops}
use Rattle.papertape.proofs.hint.goes_on.Goals as goal

pub returns-in-Ok : goal.returns-in-Ok
returns-in-Ok c =
    goes_after c.args.front.now _ c.feed.new.self c.feed-in-Ok.new.self c.feed-in-Ok.result c.is_ok.result c.pieces_are_the_whole.ensures.told
    c.pieces_are_the_whole.ensures.cut
    c.requires c.feed.ensures.after c.feed-in-Ok.ensures.after c.feed-in-Ok.ensures.answer c.is_ok.ensures.value

pub returns : goal.returns
returns c =
    stops c.args.front.now _ c.feed.new.self c.feed.result c.in-Err.field-0 c.pieces_are_the_whole.ensures.told c.pieces_are_the_whole.ensures.cut
    c.requires c.feed.ensures.after
    c.feed.ensures.answer c.in-Err.is
