use Rattle.std.proofs.KnownBytes.{Appends-trans}
use Rattle.std.proofs.Common.{◌++◌, inl, inr, refl, subst}
use Rattle.std.specs.Io.KnownBytes.{Appends}
use Rattle.model.specs.Writers.{AppendsFront}
use Rattle.model.proofs.Written.{front_after, front_more, front_none}
use Rattle.t65_reports.specs.Telling.{fault_text}
use Rattle.t65_suites.specs.Suites.{name_of, suite_view}
use Rattle.word_test.specs.Tested.{sum_text}
use Rattle.word_test.specs.declared.tally.Tally.{Tally}
use Rattle.word_test.proofs.Facts.{stopped}
use Rattle.word_test.proofs.files.run_untested.Goals as goal

pub returns-in_err-told-clause-begun : goal.returns-in_err-told-clause-begun
returns-in_err-told-clause-begun g c = stopped _ _ _ c.from_residual.ensures.0 (inl refl)

pub returns-in_err-begin_suite-clause-begun : goal.returns-in_err-begin_suite-clause-begun
returns-in_err-begin_suite-clause-begun g c = stopped _ _ _ c.from_residual-in_err-begin_suite.ensures.0 (inl refl)

pub returns-in_err-write_told-clause-begun : goal.returns-in_err-write_told-clause-begun
returns-in_err-write_told-clause-begun g c =
    let told = c.in_ok-told.ensures.texts in
    let old = g.O.Write.contents c.args.output.now in
    let new = g.O.Write.contents c.write_told.new.output in
    let suite = suite_view c.args.suite in
    let name = name_of suite in
    stopped _ _ _ c.from_residual-in_err-write_told.ensures.0 (inr (
      told.0,
      told.1,
      subst (λ (t : Tally). AppendsFront old new (fault_text c.args.telling t.count name told.0 told.1 ++ sum_text c.args.telling suite t.score))
          c.untested_tally-tally.ensures
          (front_more old new _ _ (subst (AppendsFront old new) told.2 c.in_err-write_told.ensures.written)),
      told.3,
    ))

pub returns-in_err-end_suite-clause-begun : goal.returns-in_err-end_suite-clause-begun
returns-in_err-end_suite-clause-begun g c =
    let told = c.in_ok-told.ensures.texts in
    let old = g.O.Write.contents c.args.output.now in
    let new = g.O.Write.contents c.write_told.new.output in
    let suite = suite_view c.args.suite in
    let name = name_of suite in
    stopped _ _ _ c.from_residual-in_err-end_suite.ensures.0 (inr (
      told.0,
      told.1,
      subst (λ (t : Tally). AppendsFront old new (fault_text c.args.telling t.count name told.0 told.1 ++ sum_text c.args.telling suite t.score))
          c.untested_tally-tally.ensures
          (front_after old new new _ _ (subst (Appends old new) told.2 c.in_ok-write_told.ensures.written) (front_none new _)),
      told.3,
    ))

pub returns-in_err-write_sum-clause-begun : goal.returns-in_err-write_sum-clause-begun
returns-in_err-write_sum-clause-begun g c =
    let told = c.in_ok-told.ensures.texts in
    let old = g.O.Write.contents c.args.output.now in
    let begun = g.O.Write.contents c.write_told.new.output in
    let new = g.O.Write.contents c.write_sum.new.output in
    let suite = suite_view c.args.suite in
    let name = name_of suite in
    stopped _ _ _ c.from_residual-in_err-write_sum.ensures.0 (inr (
      told.0,
      told.1,
      subst (λ (t : Tally). AppendsFront old new (fault_text c.args.telling t.count name told.0 told.1 ++ sum_text c.args.telling suite t.score))
          c.untested_tally-tally.ensures
          (front_after old begun new _ _ (subst (Appends old begun) told.2 c.in_ok-write_told.ensures.written)
          c.in_err-write_sum.ensures),
      told.3,
    ))

pub returns-clause-written : goal.returns-clause-written
returns-clause-written g c =
    let told = c.in_ok-told.ensures.texts in (
      told.0,
      told.1,
      Appends-trans (g.O.Write.contents c.args.output.now) (g.O.Write.contents c.write_told.new.output) (g.O.Write.contents c.write_sum.new.output) _ _
          (subst (Appends (g.O.Write.contents c.args.output.now) (g.O.Write.contents c.write_told.new.output)) told.2 c.in_ok-write_told.ensures.written)
          c.in_ok-write_sum.ensures,
      told.3,
    )
