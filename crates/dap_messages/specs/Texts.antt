-- How addresses and references to them are shown. Each is ASCII, so that it is text as it
-- stands. Source: mos65.
use Rattle.std.specs.Prelude.{ℕ, ◌==◌, if◌then◌else◌, List, ◌++◌, codes}
use Rattle.std.specs.Str.Lossy.{utf8_lossy}
use Rattle.dap_messages.specs.declared.request.ByteRange.{ByteRange}
use Rattle.model.specs.Text.{hex_address}

abbrev pub marked : List ℕ → ℕ → List ℕ
marked mark address = utf8_lossy (mark ++ hex_address address)

-- A mark, and two addresses with words between them.
abbrev pub two_marked : List ℕ → ℕ → List ℕ → ℕ → List ℕ
two_marked mark first between second
    = utf8_lossy ((mark ++ hex_address first) ++ (between ++ hex_address second))

abbrev pub address_text : ℕ → List ℕ
address_text address = marked (codes "$") address

abbrev pub reference : ℕ → List ℕ
reference address = marked (codes "0x") address

-- ---- bytes

-- Their first address, and their last one, if there are more bytes than one.
abbrev pub range_text : ByteRange → List ℕ
range_text range = if range.first == range.last then address_text range.first
    else two_marked (codes "$") range.first (codes "..$") range.last

-- The ID of data: the references to both.
abbrev pub data_id : ByteRange → List ℕ
data_id range = if range.first == range.last then reference range.first
    else two_marked (codes "0x") range.first (codes ":0x") range.last
