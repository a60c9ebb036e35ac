use Rattle.std.proofs.Common.{◌≡◌, ◌+◌, length, arith}
use Rattle.word_dis.specs.Marks.{said_mark}
use Rattle.word_dis.proofs.Marked.{more}
use Rattle.word_dis.proofs.marks.said_marks.Goals as goal

pub loop-address-preserved : goal.loop-address-preserved
loop-address-preserved c =
    let size : length c.loop-address.said.items ≡ c.loop-address.address = c.loop-address.invariant.len in
    let grown : length c.push.new.self.items ≡ c.loop-address.address + 1 =
    omega (arith, c.in_ok-push.ensures.len, c.loop-address.invariant.len, c.loop-address.said.ok.0, c.push.new.self.ok.0) in
    record {
      len = grown;
      each = more c.loop-address.said.items c.push.new.self.items c.loop-address.address (λ a. said_mark c.args.instructions.now c.args.marks.now a)
          c.said_mark.result size c.in_ok-push.ensures.items c.loop-address.invariant.each c.said_mark.ensures;
    }
