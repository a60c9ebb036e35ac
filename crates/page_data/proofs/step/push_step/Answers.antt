use Rattle.std.proofs.Common.{◌≡◌, ◌∙◌, ◌++◌, ◌^◌, ◌<◌, List, ℕ, Result, Ok, Err, ap, length}
use Rattle.std.specs.Prelude.{OnOk, cond, is_ok}
use Rattle.page_data.specs.Format.{bytes_of}
use Rattle.page_data.specs.Steps.{change_from}
use Rattle.page_data.proofs.Pushing.{change_is, step_told}
use Rattle.page_data.proofs.step.push_step.Goals as goal

-- what is appended, where the last call succeeds
appended : {X E : Type 0} (r : Result X E) (old new more : List ℕ) (Q : Type 0) → new ≡ cond (is_ok r) (old ++ more) old → (new ≡ old ++ more → Q) → OnOk r Q
appended (Ok x) old new more Q e f = f e
appended (Err x) old new more Q e f = tt

pub returns-clause-ok : goal.returns-clause-ok
returns-clause-ok c =
    let given = c.args.given.now in
    let t = c.args.session.now.current in
    let whole = c.as_slice.ensures.value ∙ c.in_ok-push_record.ensures
    ∙ ap (λ (l : List ℕ). l ++ bytes_of (change_from given c.args.ahead.now t)) c.in_ok-record.ensures.items in
    appended c.extend_from_slice.result c.args.written.now.items c.extend_from_slice.new.self.items c.as_slice.result.now _ c.extend_from_slice.ensures.items
    (λ e s h. e ∙ ap (λ (l : List ℕ). c.args.written.now.items ++ l) (whole ∙ ap bytes_of (change_is given c.args.ahead.now s t h)))

pub returns-clause-tells : goal.returns-clause-tells
returns-clause-tells c =
    let given = c.args.given.now in
    let t = c.args.session.now.current in
    let few : length given < 2 ^ 64 = c.len_of.ensures.within in
    let whole = c.as_slice.ensures.value ∙ c.in_ok-push_record.ensures
    ∙ ap (λ (l : List ℕ). l ++ bytes_of (change_from given c.args.ahead.now t)) c.in_ok-record.ensures.items in
    appended c.extend_from_slice.result c.args.written.now.items c.extend_from_slice.new.self.items c.as_slice.result.now _ c.extend_from_slice.ensures.items
    (λ e start s front earlier h sound made told.
    step_told given c.args.ahead.now s t start front c.args.written.now.items c.extend_from_slice.new.self.items earlier few
    (e ∙ ap (λ (l : List ℕ). c.args.written.now.items ++ l) whole) h sound made told)
