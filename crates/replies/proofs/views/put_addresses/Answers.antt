use Rattle.std.proofs.Common.{◌+◌, ◌<◌, ◌≤◌, ◌++◌, arith, ◌∙◌, length}
use Rattle.std.proofs.KnownBytes.{Appends-nil, Appends-trans}
use Rattle.model.proofs.Written.{front_after, front_more}
use Rattle.replies.proofs.Lists.{addresses_to, addresses_none, addresses_more, addresses_front, addresses_all}
use Rattle.replies.proofs.views.put_addresses.Goals as goal

pub loop-index-init : goal.loop-index-init
loop-index-init g c = rw addresses_none (Appends-nil _)

pub returns-in-Err-clause-writes : goal.returns-in-Err-clause-writes
returns-in-Err-clause-writes g c =
    let breaks = c.args.session.now.breaks in let k = c.loop-index.index in
    let within : k < length breaks = omega arith in
    let row = c.as_slice.ensures.value ∙ c.break_text-text.ensures in
    let part = rw row at c.in-Err.ensures.writes in
    let all = addresses_front breaks (k + 1) in
    rw (all.1, addresses_more breaks k within) (front_more _ _ (addresses_to breaks k ++ _) all.0 (front_after _ _ _ _ _ c.loop-index.invariant part))

pub loop-index-preserved : goal.loop-index-preserved
loop-index-preserved g c =
    let breaks = c.args.session.now.breaks in let k = c.loop-index.index in
    let within : k < length breaks = omega arith in
    let row = c.as_slice.ensures.value ∙ c.break_text-text.ensures in
    rw (addresses_more breaks k within) (Appends-trans _ _ _ _ _ c.loop-index.invariant (rw row at c.in-Ok.ensures.writes))

pub returns-clause-writes : goal.returns-clause-writes
returns-clause-writes g c =
    let breaks = c.args.session.now.breaks in
    let all : length breaks ≤ c.loop-index.index = omega arith in
    rw (addresses_all breaks c.loop-index.index all) c.loop-index.invariant
