use Rattle.std.proofs.Common.{◌≡◌, IfOk, subst}
use Rattle.std.proofs.lemmas.Result.{IfOk-weaker}
use Rattle.dap_messages.specs.SeenAnswers.{answer_view}
use Rattle.dap_messages.specs.Listed.{addresses_of, functions_of, lines_of}
use Rattle.dap_messages.specs.declared.listed.AddressList.{AddressList}
use Rattle.dap_messages.specs.declared.listed.FunctionList.{FunctionList}
use Rattle.dap_messages.specs.declared.listed.LineList.{LineList}
use Rattle.dap_messages.specs.declared.listed.Listed.{Listed}
use Rattle.dap_session.proofs.Done.{with_both, with_held}
use Rattle.dap_session.specs.Answered.{ListsAddresses, ListsFunctions, SetsSourceOf}
use Rattle.dap_session.proofs.answering.set_listed.Goals as goal

pub returns-in-Source : goal.returns-in-Source
returns-in-Source g c =
    let source = c.source_of-source.ensures in
    let old = c.args.client.now in
    let new = record old { mon = c.set_source.new.mon; listed = c.set_source.new.listed } in
    let path = c.in-Source.path.now in
    let sets : IfOk c.set_source.result (λ v. SetsSourceOf c.args.counting path c.number_lines-wanted.result
    (record old { listed = c.number_lines-wanted.new.listed }) new (answer_view v))
    = rw (← source.files, ← source.counting)
    (IfOk-weaker c.set_source.result _ _ (λ v h. (h, c.set_source.ensures.kept)) c.set_source.ensures.sets) in
    let numbered = c.number_lines-wanted.ensures in
    rw c.in-Source.is (subst (λ (held : Listed). IfOk c.set_source.result
    (λ v. SetsSourceOf c.args.counting path (lines_of old.listed c.in-Source.listed) (record old { listed = held }) new (answer_view v))) numbered.next
    (subst (λ (l : LineList). IfOk c.set_source.result (λ v.
    SetsSourceOf c.args.counting path l (record old { listed = c.number_lines-wanted.new.listed }) new (answer_view v))) numbered.list sets))

pub returns-in-Instruction : goal.returns-in-Instruction
returns-in-Instruction g c =
    let set = c.set_addresses.ensures in
    let old = c.args.client.now in
    let new = record old { mon = c.set_addresses.new.mon; listed = c.set_addresses.new.listed } in
    let sets = with_held c.set_addresses.result _ _ (λ v h held. (h, set.kept, held)) set.sets set.held in
    let numbered = c.number_addresses-wanted.ensures in
    rw c.in-Instruction.is (subst (λ (held : Listed). IfOk c.set_addresses.result
    (λ v. ListsAddresses c.args.counting (addresses_of old.listed c.in-Instruction.listed) (record old { listed = held }) new (answer_view v))) numbered.next
    (subst (λ (l : AddressList). IfOk c.set_addresses.result
    (λ v. ListsAddresses c.args.counting l (record old { listed = c.number_addresses-wanted.new.listed }) new (answer_view v))) numbered.list sets))

pub returns-in-Function : goal.returns-in-Function
returns-in-Function g c =
    let set = c.set_functions.ensures in
    let old = c.args.client.now in
    let new = record old { mon = c.set_functions.new.mon; listed = c.set_functions.new.listed } in
    let sets = with_held c.set_functions.result _ _ (λ v h held. (h, set.kept, held)) set.sets set.held in
    let numbered = c.number_functions-wanted.ensures in
    rw c.in-Function.is (subst (λ (held : Listed). IfOk c.set_functions.result
    (λ v. ListsFunctions c.args.counting (functions_of old.listed c.in-Function.listed) (record old { listed = held }) new (answer_view v))) numbered.next
    (subst (λ (l : FunctionList). IfOk c.set_functions.result
    (λ v. ListsFunctions c.args.counting l (record old { listed = c.number_functions-wanted.new.listed }) new (answer_view v))) numbered.list sets))

pub returns-in-Data : goal.returns-in-Data
returns-in-Data g c =
    let set = c.set_data.ensures in
    rw c.in-Data.is (with_both c.set_data.result _ _ (λ v told sets held.
    (sets, set.kept, told, (held, set.others.0, set.others.1, set.others.2, set.others.3))) set.answer set.sets set.held)
