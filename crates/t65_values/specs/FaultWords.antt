-- The words of a row's fault, and an example of what has to stand there: constants of the code.
-- Source: mos65.
use Rattle.std.specs.Prelude.{ℕ, List}
use Rattle.t65_values.specs.declared.fault.Base.TheVariants.{Hex, Decimal}
use Rattle.t65_values.specs.declared.fault.RowFaultKind.{RowFaultKind}
use Rattle.t65_values.specs.declared.fault.RowFaultKind.TheVariants.{Syntax, NoNumber, NoAddress, NoEquals, NoColon, NoBracket, OpenString, NoCall, NoArrow, NoPlace, NoRelation, NotGiven, NoRange, NoSeed, NoTime, LongNumber, UndefinedName, AddressRange, EmptyRange, NoFunction, UnknownParameters, NoStack, NoRuntimeName, ParameterCount, TextSize, ResultSize, StackRoom, SecondSource, NoSource, OutOfMemory}
use Rattle.t65_values.specs.declared.wording.TheConstants.{SYNTAX, NO_HEX, NO_DECIMAL, NO_ADDRESS, NO_EQUALS, NO_COLON, NO_BRACKET, OPEN_STRING, NO_CALL, NO_ARROW, NO_PLACE, NO_RELATION, NOT_GIVEN, NO_RANGE, NO_SEED, NO_TIME, LONG_HEX, LONG_DECIMAL, UNDEFINED_NAME, ADDRESS_RANGE, EMPTY_RANGE, NO_FUNCTION, UNKNOWN_PARAMETERS, NO_STACK, NO_RUNTIME_NAME, PARAMETER_COUNT, TEXT_SIZE, RESULT_SIZE, STACK_ROOM, SECOND_SOURCE, NO_SOURCE, OUT_OF_MEMORY, ROW_EXAMPLE, RANDOM_EXAMPLE, TIME_EXAMPLE, SOURCE_EXAMPLE, STACK_EXAMPLE, NO_EXAMPLE}

abbrev pub fault_words : RowFaultKind → List ℕ
fault_words Syntax = SYNTAX.now
fault_words (NoNumber Hex) = NO_HEX.now
fault_words (NoNumber Decimal) = NO_DECIMAL.now
fault_words NoAddress = NO_ADDRESS.now
fault_words NoEquals = NO_EQUALS.now
fault_words NoColon = NO_COLON.now
fault_words NoBracket = NO_BRACKET.now
fault_words OpenString = OPEN_STRING.now
fault_words NoCall = NO_CALL.now
fault_words NoArrow = NO_ARROW.now
fault_words NoPlace = NO_PLACE.now
fault_words NoRelation = NO_RELATION.now
fault_words NotGiven = NOT_GIVEN.now
fault_words NoRange = NO_RANGE.now
fault_words NoSeed = NO_SEED.now
fault_words NoTime = NO_TIME.now
fault_words (LongNumber Hex) = LONG_HEX.now
fault_words (LongNumber Decimal) = LONG_DECIMAL.now
fault_words UndefinedName = UNDEFINED_NAME.now
fault_words AddressRange = ADDRESS_RANGE.now
fault_words EmptyRange = EMPTY_RANGE.now
fault_words NoFunction = NO_FUNCTION.now
fault_words UnknownParameters = UNKNOWN_PARAMETERS.now
fault_words NoStack = NO_STACK.now
fault_words NoRuntimeName = NO_RUNTIME_NAME.now
fault_words ParameterCount = PARAMETER_COUNT.now
fault_words TextSize = TEXT_SIZE.now
fault_words ResultSize = RESULT_SIZE.now
fault_words StackRoom = STACK_ROOM.now
fault_words SecondSource = SECOND_SOURCE.now
fault_words NoSource = NO_SOURCE.now
fault_words OutOfMemory = OUT_OF_MEMORY.now

-- An example for the faults that a first file has.
abbrev pub example_words : RowFaultKind → List ℕ
example_words Syntax = ROW_EXAMPLE.now
example_words (NoNumber base) = NO_EXAMPLE.now
example_words NoAddress = NO_EXAMPLE.now
example_words NoEquals = NO_EXAMPLE.now
example_words NoColon = NO_EXAMPLE.now
example_words NoBracket = NO_EXAMPLE.now
example_words OpenString = NO_EXAMPLE.now
example_words NoCall = ROW_EXAMPLE.now
example_words NoArrow = ROW_EXAMPLE.now
example_words NoPlace = ROW_EXAMPLE.now
example_words NoRelation = ROW_EXAMPLE.now
example_words NotGiven = NO_EXAMPLE.now
example_words NoRange = RANDOM_EXAMPLE.now
example_words NoSeed = RANDOM_EXAMPLE.now
example_words NoTime = TIME_EXAMPLE.now
example_words (LongNumber base) = NO_EXAMPLE.now
example_words UndefinedName = NO_EXAMPLE.now
example_words AddressRange = NO_EXAMPLE.now
example_words EmptyRange = NO_EXAMPLE.now
example_words NoFunction = NO_EXAMPLE.now
example_words UnknownParameters = NO_EXAMPLE.now
example_words NoStack = STACK_EXAMPLE.now
example_words NoRuntimeName = NO_EXAMPLE.now
example_words ParameterCount = NO_EXAMPLE.now
example_words TextSize = NO_EXAMPLE.now
example_words ResultSize = NO_EXAMPLE.now
example_words StackRoom = NO_EXAMPLE.now
example_words SecondSource = NO_EXAMPLE.now
example_words NoSource = SOURCE_EXAMPLE.now
example_words OutOfMemory = NO_EXAMPLE.now
