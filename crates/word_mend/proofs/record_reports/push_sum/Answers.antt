use Rattle.std.proofs.Common.{string_bytes}
use Rattle.word_mend.proofs.Found.{four_put}
use Rattle.word_mend.proofs.record_reports.push_sum.Goals as goal

pub returns : goal.returns
returns c = four_put c.push_str.result (string_bytes c.args.words.now) (string_bytes c.push_line.new.words) (string_bytes c.push_byte.new.words)
    (string_bytes c.push_byte-2.new.words) (string_bytes c.push_str.new.self) _ _ _ _ c.in_ok-push_line.ensures c.in_ok-push_byte.ensures
    c.in_ok-push_byte-2.ensures c.push_str.ensures.bytes
