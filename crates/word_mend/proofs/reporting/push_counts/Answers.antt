use Rattle.std.proofs.Common.{string_bytes}
use Rattle.word_mend.proofs.Found.{four_put}
use Rattle.word_mend.proofs.reporting.push_counts.Goals as goal

pub returns : goal.returns
returns c = four_put c.push_str-2.result (string_bytes c.args.words.now) (string_bytes c.push_str.new.self) (string_bytes c.push_count.new.words)
    (string_bytes c.push_there.new.words) (string_bytes c.push_str-2.new.self) _ _ _ _ c.in_ok-push_str.ensures.bytes c.in_ok-push_count.ensures
    c.in_ok-push_there.ensures c.push_str-2.ensures.bytes
