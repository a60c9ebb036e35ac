use Rattle.std.proofs.Common.{◌≡◌, ◌∙◌, ◌<◌, length, sym, ap, arith, rules}
use Rattle.model.specs.TextLines.{lines_of}
use Rattle.t65_reports.proofs.Walks.{ended, walked, walked_more}
use Rattle.t65_reports.proofs.row_lines.RowLines.walk_to.Goals as goal

pub returns-then-is_empty-clause-line : goal.returns-then-is_empty-clause-line
returns-then-is_empty-clause-line c = let h : length c.loop.self.rest.now ≡ 0 = search rules in
    sym (ap (λ w. w.0) (ended c.args.number c.loop.self.next c.loop.self.rest.now _ (omega arith) h c.loop.invariant.found))

pub returns-then-is_empty-clause-rest : goal.returns-then-is_empty-clause-rest
returns-then-is_empty-clause-rest c = let h : length c.loop.self.rest.now ≡ 0 = search rules in
    sym (ap (λ w. w.1) (ended c.args.number c.loop.self.next c.loop.self.rest.now _ (omega arith) h c.loop.invariant.found))

pub returns-then-is_empty-clause-next : goal.returns-then-is_empty-clause-next
returns-then-is_empty-clause-next c = let h : length c.loop.self.rest.now ≡ 0 = search rules in
    sym (ap (λ w. w.2) (ended c.args.number c.loop.self.next c.loop.self.rest.now _ (omega arith) h c.loop.invariant.found))

pub returns-clause-line : goal.returns-clause-line
returns-clause-line c = let h : length c.loop.self.rest.now ≡ 0 = omega arith in
    sym (ap (λ w. w.0) (ended c.args.number c.loop.self.next c.loop.self.rest.now _ (omega arith) h c.loop.invariant.found))

pub returns-clause-rest : goal.returns-clause-rest
returns-clause-rest c = let h : length c.loop.self.rest.now ≡ 0 = omega arith in
    sym (ap (λ w. w.1) (ended c.args.number c.loop.self.next c.loop.self.rest.now _ (omega arith) h c.loop.invariant.found))

pub returns-clause-next : goal.returns-clause-next
returns-clause-next c = let h : length c.loop.self.rest.now ≡ 0 = omega arith in
    sym (ap (λ w. w.2) (ended c.args.number c.loop.self.next c.loop.self.rest.now _ (omega arith) h c.loop.invariant.found))

pub loop-preserved : goal.loop-preserved
loop-preserved c =
    let before : c.loop.self.next < c.args.number = grind arith in
    record {
      left = omega arith;
      found = walked_more c.args.number c.loop.self.next c.saturating_add-self.result c.next_line.result.0.now (lines_of c.next_line.result.1.now)
          before (omega arith) c.saturating_add-self.ensures
          ∙ (ap (walked c.args.number c.loop.self.next) (sym c.next_line.ensures.cut) ∙ c.loop.invariant.found);
    }
