use Rattle.std.proofs.Common.{◌∙◌, ap, sym}
use Rattle.std.specs.Prelude.{is_ok}
use Rattle.base64.specs.Engines.{standard}
use Rattle.base64.specs.GeneralPurpose.{decode_of}
use Rattle.dap_session.proofs.Stays.{refused_so}
use Rattle.dap_session.proofs.changing.bytes_in.Goals as goal

pub returns-in-Ok-clause-bytes : goal.returns-in-Ok-clause-bytes
returns-in-Ok-clause-bytes c = ap (decode_of standard) (sym c.as_bytes.ensures.value) ∙ c.in-Ok.ensures.ok

pub returns-in-Err-DecodeError-clause-why : goal.returns-in-Err-DecodeError-clause-why
returns-in-Err-DecodeError-clause-why c =
    let err = rw c.in-Err-DecodeError.field-0-is at c.in-Err-DecodeError.ensures.err in
    refused_so c.refused.result _
    (ap (λ l. is_ok (decode_of standard l)) (sym c.as_bytes.ensures.value) ∙ ap is_ok err)
