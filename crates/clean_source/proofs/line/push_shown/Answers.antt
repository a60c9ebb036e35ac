use Rattle.std.proofs.Common.{◌++◌, get_or, refl}
use Rattle.clean_source.specs.Cleaned.{shown_from}
use Rattle.clean_source.proofs.Shown.{byte_more, none_left}
use Rattle.clean_source.proofs.line.push_shown.Goals as goal

pub loop-byte-preserved : goal.loop-byte-preserved
loop-byte-preserved c =
    let line = c.args.line.now in
    let byte = get_or line c.loop-byte.byte-index 0 in
    byte_more c.loop-byte.text.items c.push_byte.new.text.items (c.args.text.now.items ++ shown_from 0 line) line c.loop-byte.byte-index c.loop-byte.before byte
    c.loop-byte-test.true refl c.in_ok-push_byte.ensures c.loop-byte.invariant

pub returns : goal.returns
returns c =
    let line = c.args.line.now in
    none_left c.loop-byte.text.items (c.args.text.now.items ++ shown_from 0 line) line c.loop-byte.byte-index c.loop-byte.before
    c.loop-byte-test.false c.loop-byte.invariant
