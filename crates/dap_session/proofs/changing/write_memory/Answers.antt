use Rattle.std.proofs.Common.{◌≡◌, ◌∙◌, ℕ, Bool, List, ap, false, inl, inr, refl, sym}
use Rattle.std.specs.Prelude.{is_ok}
use Rattle.std.proofs.lemmas.Result.{IfOk-weaker}
use Rattle.dap_session.proofs.Done.{kept}
use Rattle.dap_session.proofs.Stays.{refused_by_more, refused_so}
use Rattle.base64.specs.Engines.{standard}
use Rattle.base64.specs.GeneralPurpose.{decode_of}
use Rattle.dap_session.specs.Changes.{count_there, fitting, may_write, written_said}
use Rattle.dap_session.specs.Refusals.{IsNoWriting}
use Rattle.mon_session.specs.Course.{course_of}
use Rattle.mon_settings.specs.ByteLines.{bytes_put}
use Rattle.dap_session.proofs.changing.write_memory.Goals as goal

pub returns-clause-done : goal.returns-clause-done
returns-clause-done c =
    let old = c.args.client.now.mon in
    let memory = c.put-done.new.mon.session.current.bus.memory in
    let bytes = c.in-Ok.bytes.items in
    let some = c.fitting-some.ensures ∙ ap (fitting c.in-Some.address) c.as_slice-all.ensures.value in
    let may = sym (ap (λ (all : List ℕ). may_write old.session.current.bus.map c.in-Some.address all c.args.is_partial) c.as_slice-all.ensures.value)
    ∙ sym c.may_write.ensures ∙ c.if-not-may_write.false in
    IfOk-weaker c.or_memory.result _ _
    (λ ms said. (
      c.in-Some.address,
      c.in-Some.is,
      (
        bytes,
        c.in-Ok.ensures.bytes,
        may,
        c.put-done.ensures.course ∙ ap (λ (all : List ℕ). bytes_put c.in-Some.address all (course_of old)) some,
        c.put-done.ensures.stops,
        said ∙ ap (written_said c.args.counting) (c.count_there-count.ensures ∙ ap (count_there memory c.in-Some.address) some),
      ),
    ))
    (kept c.with_unmoved.result c.or_memory.result _ c.or_memory.ensures.made (c.with_unmoved.ensures _ (c.answered-answer.ensures _ refl)))

pub returns-in-Err-clause-why : goal.returns-in-Err-clause-why
returns-in-Err-clause-why c =
    let text = c.args.text.now in
    refused_by_more c.in-Err.fault (is_ok (decode_of standard text) ≡ false) (IsNoWriting c.args.address text c.args.is_partial c.args.client.now.mon)
    (λ why. inr (inl why)) c.in-Err.ensures.why

pub returns-then-not-may_write-clause-why : goal.returns-then-not-may_write-clause-why
returns-then-not-may_write-clause-why c =
    let mon = c.args.client.now.mon in
    let may = sym (ap (λ (all : List ℕ). may_write mon.session.current.bus.map c.in-Some.address all c.args.is_partial) c.as_slice-all.ensures.value)
    ∙ sym c.may_write.ensures ∙ c.if-not-may_write.true in
    refused_so c.refused-then-not-may_write.result (IsNoWriting c.args.address c.args.text.now c.args.is_partial mon)
    (inr (inr (c.in-Some.address, c.in-Ok.bytes.items, c.in-Some.is, c.in-Ok.ensures.bytes, may)))
