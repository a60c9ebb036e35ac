use Rattle.std.proofs.Common.{OnOk, Result, Ok, Err, arith, true, ◌≡◌}
use Rattle.base64.specs.Engines.{standard}
use Rattle.base64.specs.GeneralPurpose.{encode_of}
use Rattle.page_data.specs.Safe.{is_safe_text}
use Rattle.page_data.proofs.Safe.{encoded_joined, encoded_safe}
use Rattle.page_data.proofs.text.push_base64.Goals as goal

either : {X E : Type 0} (r : Result X E) (P : Type 0) → P → OnOk r P
either (Ok x) P h = h
either (Err e) P h = tt

pub returns-clause-safe : goal.returns-clause-safe
returns-clause-safe c =
    either c.extend_from_slice.result (is_safe_text (encode_of standard c.args.bytes.now) ≡ true)
    (encoded_safe c.args.bytes.now (λ k. omega (arith, c.type_inv.bytes k)))

pub returns-clause-joined : goal.returns-clause-joined
returns-clause-joined c = either c.extend_from_slice.result _ (λ whole rest. encoded_joined c.args.bytes.now rest whole)
