use Rattle.std.proofs.Common.{◌≡◌, ◌∙◌, ◌-◌, ℕ, [], List, Option, ap, arith, sym}
use Rattle.base64.specs.Rfc4648.{encode_symbols}
use Rattle.dap_messages.proofs.Shown.{answer_as}
use Rattle.dap_messages.specs.SeenAnswers.{SeenAnswer, memory_body}
use Rattle.dap_views.specs.Memory.{bytes_text, memory_shown, most}
use Rattle.std.specs.Prelude.{min}
use Rattle.dap_views.proofs.memory.memory_shown.Goals as goal
use Rattle.dap_views.proofs.memory.memory_shown.Goals.{in-Some, in-None}

-- where the bytes begin, and how many there are
abbrev shown : List ℕ → ℕ → ℕ × ℕ → SeenAnswer
shown memory count place = memory_body place.0 (bytes_text memory place.0 place.1) (count - place.1)

pub returns : goal.returns
unfolding encode_symbols
returns c =
    let memory = c.args.mon.now.session.current.bus.memory in
    let count = c.args.count in
    let at : Option ℕ → SeenAnswer = λ address. memory_shown memory address count in
    let place = c.match-address.first in
    let same : shown memory count place ≡ at c.args.address = elim c.match-address.branch [
      | in-Some w ↦
          let there : w.min.result ≡ most w.in-Some.first count = w.min.ensures ∙ ap (λ k. min count (65536 - k)) w.from.ensures in
          ap (shown memory count) w.first-is ∙ ap (λ n. shown memory count (w.in-Some.first, n)) there ∙ sym (ap at w.in-Some.is)
      | in-None w ↦
          let all : count - 0 ≡ count = omega arith in
          ap (shown memory count) w.first-is ∙ ap (memory_body 0 []) all ∙ sym (ap at w.in-None.is)
    ] in
    let built = c.memory_body.ensures _ c.bytes_text-text.ensures in
    answer_as _ _ _ (ap (memory_body place.0 (bytes_text memory place.0 place.1)) c.from-2.ensures ∙ same) built
