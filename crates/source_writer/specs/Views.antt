-- Pieces without where their bytes are kept.
use Rattle.source_forms.specs.Pieces.{Piece, instruction, word, return_word, undocumented, numbers, letters}
use Rattle.source_writer.specs.declared.piece.Piece.{Piece as Held}
use Rattle.source_writer.specs.declared.piece.Piece.TheVariants.{Instruction, Word, ReturnWord, Undocumented, Numbers, Letters}

abbrev pub piece_view : Held → Piece
piece_view (Instruction row b c) = instruction row b c
piece_view (Word w) = word w
piece_view (ReturnWord w) = return_word w
piece_view (Undocumented bytes note) = undocumented bytes.items note.items
piece_view (Numbers bytes note) = numbers bytes.items note.items
piece_view (Letters bytes) = letters bytes.items
