use Rattle.console.proofs.stretch.run_within.Goals as goal

pub returns-clause-last : goal.returns-clause-last
returns-clause-last c = λ some. (c.marks-marks.result.now, c.marks-marks.ensures.marks, c.run_plainly.ensures.last some)
