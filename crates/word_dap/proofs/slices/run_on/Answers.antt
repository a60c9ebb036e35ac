use Rattle.std.proofs.Common.{◌++◌, ◌-◌, [], length, map, refl, suc}
use Rattle.std.proofs.KnownBytes.{Appends-nil, Appends-trans}
use Rattle.serde_json.specs.View.{view}
use Rattle.word_dap.proofs.Runs.{may_not, runs_more, runs_none}
use Rattle.word_dap.proofs.Sent.{begun_longer}
use Rattle.dap_messages.specs.Messages.{said_of}
use Rattle.word_dap.proofs.slices.run_on.Goals as goal

pub loop-init : goal.loop-init
loop-init g c =
    (0, may_not _, [], runs_none c.args.is_run (view c.args.request.now) (map said_of c.args.messages.now.items) c.args.adapter.now c.args.sent, Appends-nil _)

pub loop-preserved : goal.loop-preserved
loop-preserved g c =
    let inv = c.loop.invariant in
    let on = c.in-Ok.ensures.went in (
      suc inv.0,
      c.waits.ensures.named (suc inv.0) c.if-waits.false,
      inv.2 ++ on.0,
      runs_more inv.0 c.args.is_run (view c.args.request.now) (map said_of c.args.messages.now.items) c.args.adapter.now c.args.sent
          (map said_of c.loop.messages.items) c.loop.adapter c.loop.total _ _ _ inv.2 on.0 inv.3 on.1,
      Appends-trans _ _ _ inv.2 on.0 inv.4 on.2,
    )

pub returns-in-Err-clause-cut : goal.returns-in-Err-clause-cut
returns-in-Err-clause-cut g c =
    let inv = c.loop.invariant in
    let begun = c.in-Err.ensures.begun in
    let said = map said_of c.loop.messages.items in (
      inv.2 ++ begun.0,
      (
        inv.0,
        inv.1,
        said,
        c.loop.adapter,
        c.loop.total,
        inv.2,
        begun.0,
        inv.3,
        begun_longer (length said - 1) c.loop.total (view c.args.request.now) said begun.0 begun.1,
        refl,
      ),
      Appends-trans _ _ _ inv.2 begun.0 inv.4 begun.2,
    )
