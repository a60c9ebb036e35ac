-- Bytes of memory. Source: Debug Adapter Protocol 1.65, "ReadMemory Request"; RFC 4648, "Base 64
-- Encoding".
use Rattle.std.specs.Prelude.{ℕ, ◌-◌, min, List, [], Option, Some, None}
use Rattle.base64.specs.Engines.{standard}
use Rattle.base64.specs.GeneralPurpose.{encode_of}
use Rattle.dap_messages.specs.SeenAnswers.{SeenAnswer, memory_body}
use Rattle.mon_texts.specs.Memory.{bytes_from}

-- How many of so many bytes there are from an address on.
abbrev pub most : ℕ → ℕ → ℕ
most first count = min count (65536 - first)

-- So many bytes from an address on, in Base64.
abbrev pub bytes_text : List ℕ → ℕ → ℕ → List ℕ
bytes_text memory first count = encode_of standard (bytes_from memory first count)

-- Those that there are, and how many more were asked for.
abbrev pub bytes_shown : List ℕ → ℕ → ℕ → SeenAnswer
bytes_shown memory first count = memory_body first
    (bytes_text memory first (most first count)) (count - most first count)

-- What is answered; no byte is there where no address is named.
abbrev pub memory_shown : List ℕ → Option ℕ → ℕ → SeenAnswer
memory_shown memory (Some first) count = bytes_shown memory first count
memory_shown memory None count = memory_body 0 [] count
