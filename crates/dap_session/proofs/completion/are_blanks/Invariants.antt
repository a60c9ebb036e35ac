use Rattle.std.proofs.Common.{◌≡◌, drop}
use Rattle.std.specs.List.{list_all}
use Rattle.model.specs.Token.{is_blank}
use Rattle.dap_session.proofs.completion.are_blanks.Given as goal

abbrev pub invariant-loop-byte : goal.invariant-loop-byte
invariant-loop-byte l = list_all is_blank l.text ≡ list_all is_blank (drop l.byte-index l.text)
