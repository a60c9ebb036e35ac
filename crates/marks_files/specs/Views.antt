-- Marks and fields without where they lie in memory.
use Rattle.marks_files.specs.Fields.{Fields}
use Rattle.marks_files.specs.Marks.{Marks}
use Rattle.marks_files.specs.declared.fields.Fields.{Fields as Held}
use Rattle.marks_files.specs.declared.marks.Marks.{Marks as HeldMarks}

abbrev pub fields_view : Held → Fields
fields_view f = record {
  word = f.word.now;
  word_column = f.word_column;
  value = f.value.now;
  value_column = f.value_column;
  rest = f.rest.now;
  rest_column = f.rest_column;
}

abbrev pub marks_view : HeldMarks → Marks
marks_view m = record {
  numbers = m.numbers.items;
  letters = m.letters.items;
  addresses = m.addresses.items;
  returns = m.returns.items;
  instructions = m.instructions.items;
  splits = m.splits.items;
  follows = m.follows;
  entries = m.entries.items;
  routines = m.routines.items;
  names = m.names;
  definitions = m.definitions.items;
  remarks = m.remarks.items;
  texts = m.texts.items;
}
