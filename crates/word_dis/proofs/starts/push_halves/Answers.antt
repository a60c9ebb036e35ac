use Rattle.std.proofs.Common.{◌≡◌, ◌∙◌, ◌++◌, ℕ, List, Option, ap, arith}
use Rattle.remarked_source.specs.Splits.{target_at}
use Rattle.word_dis.specs.Written.{half_targets, target_list}
use Rattle.word_dis.proofs.StartsFound.{halves_more, no_halves}
use Rattle.word_dis.proofs.starts.push_halves.Goals as goal

pub loop-index-init : goal.loop-index-init
loop-index-init c = no_halves c.args.part.now c.args.split c.args.starts.now.items

pub loop-index-preserved : goal.loop-index-preserved
loop-index-preserved c =
    halves_more c.args.part.now c.args.split c.loop-index.index c.args.starts.now.items c.loop-index.starts.items c.push_target.new.starts.items
    c.loop-index.invariant
    (c.in_ok-push_target.ensures ∙ ap (λ (t : Option ℕ). c.loop-index.starts.items ++ target_list t)
    (c.target_at.ensures ∙ ap (λ (cells : List (Option ℕ)). target_at cells c.args.split c.loop-index.index) c.cells.ensures.same))

pub returns : goal.returns
returns c =
    let full : c.loop-index.index ≡ c.args.split.count = omega (arith, c.loop-index-test.false, c.loop-index.auto.index-end) in
    rw full at c.loop-index.invariant
