use denote.Shadow.{shadow}
use denote.Text.{Utf8}
use Rattle.std.proofs.Common.{◌≡◌, ◌++◌, drop}
use Rattle.dap_views.specs.Rows.{joined}
use Rattle.dap_views.proofs.rows.push_row_bytes.Given as goal

abbrev pub invariant-loop-byte : goal.invariant-loop-byte
invariant-loop-byte l = record {
  joined : l.text.items ++ joined l.words l.between (drop l.byte-index l.bytes) ≡ l.initial.text.items ++ joined l.front l.between l.bytes;
  utf8 : shadow (Utf8 l.words);
}
