use Rattle.std.proofs.Common.{◌≡◌, ◌==◌, ◌∙◌, length, sym, drop, true, false, true-eqb}
use Rattle.names_files.specs.Labels.{begins, behind_key}
use Rattle.names_files.proofs.Keys.{further, here, nowhere}
use Rattle.names_files.proofs.label.behind_key.Goals as goal

pub returns-then-starts_with : goal.returns-then-starts_with
returns-then-starts_with c =
    let some : (length c.loop-rest.rest.now == 0) ≡ false = cc in
    let at : begins c.loop-rest.rest.now c.args.key.now ≡ true = cc in
    let found = here c.args.key.now c.loop-rest.rest.now some at in
    let before = c.loop-rest.invariant in
    cc

pub loop-rest-preserved : goal.loop-rest-preserved
loop-rest-preserved c =
    let some : (length c.loop-rest.rest.now == 0) ≡ false = cc in
    let at : begins c.loop-rest.rest.now c.args.key.now ≡ false = cc in
    let next : behind_key c.args.key.now c.split_at-in-loop-rest.result.1.now ≡ behind_key c.args.key.now (drop 1 c.loop-rest.rest.now) = cc in
    next ∙ sym (further c.args.key.now c.loop-rest.rest.now some at) ∙ c.loop-rest.invariant

pub returns : goal.returns
returns c = sym (nowhere c.args.key.now c.loop-rest.rest.now (true-eqb _ 0 c.loop-rest-test.ensures)) ∙ c.loop-rest.invariant
