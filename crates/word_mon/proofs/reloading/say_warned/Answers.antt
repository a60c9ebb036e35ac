use Rattle.std.proofs.Common.{◌≡◌, ◌++◌, ◌∙◌, ap, append_assoc, ℕ, List, Result, Ok, Err}
use Rattle.std.specs.Prelude.{OnOk, if◌then◌else◌, is_ok}
use Rattle.word_mon.proofs.Again.{on_ok_map}
use Rattle.word_mon.proofs.reloading.say_warned.Goals as goal

appended : {X E : Type 0} (result : Result X E) (new all old : List ℕ) → new ≡ (if is_ok result then all else old) → OnOk result (new ≡ all)
appended (Ok x) new all old is = is
appended (Err f) new all old is = tt

pub returns-clause-text : goal.returns-clause-text
returns-clause-text c none =
    let first = c.in_ok-say_loaded.ensures.text none in
    let all : OnOk c.extend_from_slice.result (c.extend_from_slice.new.self.items ≡ c.say_loaded.new.mon.text.items ++ c.args.warning_line.now)
    = appended c.extend_from_slice.result c.extend_from_slice.new.self.items (c.say_loaded.new.mon.text.items ++ c.args.warning_line.now)
    c.say_loaded.new.mon.text.items c.extend_from_slice.ensures.items in
    on_ok_map c.extend_from_slice.result _ _
    (λ said. (first.0, said ∙ ap (λ t. t ++ c.args.warning_line.now) first.1 ∙ append_assoc c.args.text.now first.0 c.args.warning_line.now))
    all
