use Rattle.std.proofs.Common.{sym, ◌∙◌, arith}
use Rattle.model.specs.Commands.{address_of}
use Rattle.word_dis.proofs.Words.{begun, one_more, one_wrong, all_read}
use Rattle.word_dis.proofs.following.address_list.Goals as goal

pub loop-word-init : goal.loop-word-init
loop-word-init c = begun (λ w. w.now) address_of c.args.words.now c.new-addresses.result.items c.new-addresses.ensures.items

pub loop-word-preserved : goal.loop-word-preserved
loop-word-preserved c =
    one_more (λ w. w.now) address_of c.args.words.now c.loop-word.word-index c.loop-word.addresses.items c.push.new.self.items _ c.in-Some.address
    c.loop-word.invariant (omega arith)
    (sym (rw c.as_bytes.ensures.value at c.address_of.ensures) ∙ c.in-Some.is) c.in_ok-push-in-Some.ensures.items

pub returns-in-None : goal.returns-in-None
returns-in-None c =
    one_wrong (λ w. w.now) address_of c.args.words.now c.loop-word.word-index c.loop-word.addresses.items _ c.loop-word.invariant (omega arith)
    (sym (rw c.as_bytes.ensures.value at c.address_of.ensures) ∙ c.in-None.is)

pub returns : goal.returns
returns c =
    all_read (λ w. w.now) address_of c.args.words.now c.loop-word.word-index c.loop-word.addresses.items c.loop-word.invariant (omega arith)
