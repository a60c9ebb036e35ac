use Rattle.std.proofs.Common.{◌≡◌, length, arith}
use Rattle.word_dis.specs.Marks.{mark_of}
use Rattle.marks_files.specs.Views.{marks_view}
use Rattle.word_dis.proofs.Marked.{more}
use Rattle.word_dis.proofs.marks.marks_of.Goals as goal

pub loop-address-preserved : goal.loop-address-preserved
loop-address-preserved c =
    let size : length c.loop-address.marks.items ≡ c.loop-address.address = omega (arith, c.loop-address.marks.ok.0, c.loop-address.invariant.len) in
    record {
      len = omega (arith, c.in_ok-push.ensures.len, c.loop-address.invariant.len);
      each = more c.loop-address.marks.items c.push.new.self.items c.loop-address.address (λ a. mark_of c.args.labels (marks_view c.args.said.now) a)
          c.mark_of.result size c.in_ok-push.ensures.items c.loop-address.invariant.each c.mark_of.ensures;
    }
