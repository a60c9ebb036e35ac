use Rattle.std.proofs.Common.{◌≡◌, ◌+◌, ◌==◌, arith, get_or, if◌then◌else◌}
use Rattle.debug_files.proofs.NameStarts.{start_end, start_kept, start_moved, start_on}
use Rattle.debug_files.proofs.paths.name_start.Goals as goal
use Rattle.debug_files.proofs.paths.name_start.Goals.{then-byte-eq47, else-byte-eq47}

pub loop-at-preserved : goal.loop-at-preserved
loop-at-preserved c =
    let l = c.loop-at in
    let path = c.args.path.now in
    let is : c.if-byte-eq47.start ≡ (if get_or path l.at 0 == 47 then l.at + 1 else l.start) = elim c.if-byte-eq47.branch [
      | then-byte-eq47 w ↦ start_moved (get_or path l.at 0) (l.at + 1) l.start c.if-byte-eq47.start w.if-byte-eq47.true w.start-is
      | else-byte-eq47 w ↦ start_kept (get_or path l.at 0) (l.at + 1) l.start c.if-byte-eq47.start w.if-byte-eq47.false w.start-is
    ] in
    record {
      whole = start_on path l.at l.start c.if-byte-eq47.start _ c.loop-at-test.true is l.invariant.whole;
      within = elim c.if-byte-eq47.branch [
        | then-byte-eq47 w ↦ omega (arith, w.start-is)
        | else-byte-eq47 w ↦ omega (arith, w.start-is, l.invariant.within)
      ];
      inside = omega (arith, c.loop-at-test.true);
    }

pub returns-clause-start : goal.returns-clause-start
returns-clause-start c = start_end c.args.path.now c.loop-at.at c.loop-at.start _ c.loop-at-test.false c.loop-at.invariant.whole
