-- Why a file is not converted, and the exit status of `convert` then. Source: mos65.
use Rattle.std.specs.Prelude.{⊤, ℕ}
use Rattle.arguments.specs.declared.refusal.Refusal.TheVariants as refusal
use Rattle.image_files.specs.Told.{status_of_image}
use Rattle.image_files.specs.declared.refusal.ImageRefusal.TheVariants as why
use Rattle.word_convert.specs.declared.fault.ConvertFault.{ConvertFault}
use Rattle.word_convert.specs.declared.fault.ConvertFault.TheVariants.{Clash, Refused, NoByte, NoSumByte}

-- IN is no image or has no byte there, two files have two bytes for an address, a file cannot be read
-- or written, or memory ran out. No clause can say what a file has.
abbrev pub EndsConvert : ConvertFault → Type 0
EndsConvert NoByte = ⊤
EndsConvert NoSumByte = ⊤
EndsConvert (Clash address) = ⊤
EndsConvert (Refused (why.NoImage no_image)) = ⊤
EndsConvert (Refused (why.Refused (refusal.Tape fault))) = ⊤
EndsConvert (Refused (why.Refused refusal.OutOfMemory)) = ⊤
EndsConvert (Refused (why.Refused (refusal.Read fault))) = ⊤
EndsConvert (Refused (why.Refused refusal.Write)) = ⊤
EndsConvert (Refused (why.Refused (refusal.WriteFile fault))) = ⊤
EndsConvert (Refused (why.Refused refusal)) = ⊥

-- 1 for bytes that are no image, or that nothing is written for, and for two bytes for an address; 3
-- for memory; 4 for reading and writing.
abbrev pub status_of : ConvertFault → ℕ
status_of (Refused why) = status_of_image why
status_of NoByte = 1
status_of NoSumByte = 1
status_of (Clash address) = 1
