-- The check sum CRC-32, a bit at a time. Source: IEEE 802.3, with each byte's low bit first and the
-- polynomial $EDB88320 in that order, as `crc32` prints it.
use Rattle.std.specs.Prelude.{ℕ, ◌/◌, ◌%◌, ◌==◌, if◌then◌else◌, List, bit_xor}
use Rattle.std.specs.List.{fold}

-- One bit: the register is divided by 2, and the polynomial comes in where a 1 goes out.
unfoldable pub crc_bit : ℕ → ℕ
crc_bit crc = if crc % 2 == 1 then bit_xor (crc / 2) 3988292384 else crc / 2

-- Two bits.
abbrev pub crc_two_bits : ℕ → ℕ
crc_two_bits crc = crc_bit (crc_bit crc)

-- A byte: it comes into the register's low bits, and eight bits go out.
unfoldable pub crc_byte : ℕ → ℕ → ℕ
crc_byte crc b = crc_two_bits (crc_two_bits (crc_two_bits (crc_two_bits (bit_xor crc b))))

-- All bytes: the register begins with ones, and is inverted at the end.
unfoldable pub crc_32 : List ℕ → ℕ
crc_32 bytes = bit_xor (fold crc_byte 4294967295 bytes) 4294967295
