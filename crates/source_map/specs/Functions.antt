-- The functions of C that debug information tells of. Source: mos65.
use Rattle.std.specs.Prelude.{ℕ, zero, suc, ◌+◌, ◌==◌, ◌&&◌, nat_le, Bool, true, false, if◌then◌else◌, List, [], ◌∷◌, ◌++◌, length, map, Option, Some, None, option_and_then}
use Rattle.std.specs.Option.{option_map, option_or, option_to_list}
use Rattle.debug_records.specs.Info.{Info, record_at}
use Rattle.debug_records.specs.Records.{CSymbol, Scope}
use Rattle.debug_records.specs.declared.record.Storage.{Storage}
use Rattle.debug_records.specs.declared.record.Storage.TheVariants.{Auto, Register, Static, External}
use Rattle.model.specs.Bytes.{modulo}
use Rattle.source_map.specs.declared.functions.CFunction.{CFunction}
use Rattle.source_map.specs.declared.functions.CLocal.{CLocal}
use Rattle.source_map.specs.declared.functions.Head.{Head as HeldHead}

-- A parameter or a local of a function: its name, its offset in the frame, modulo 65,536, and
-- whether the last one before it is a register variable.
pub record LocalView : Type 0 where
  pub name : List ℕ
  pub offset : ℕ
  pub follows_register : Bool

-- A function: its name in C, its first byte, its size, and what it keeps on the software stack.
pub record FunctionView : Type 0 where
  pub name : List ℕ
  pub start : ℕ
  pub size : ℕ
  pub locals : List LocalView

abbrev pub local_view : CLocal → LocalView
local_view local = record {
  name = local.name.items;
  offset = local.offset;
  follows_register = local.follows_register;
}

abbrev pub function_view : CFunction → FunctionView
function_view function = record {
  name = function.name.items;
  start = function.start;
  size = function.size;
  locals = map local_view function.locals.items;
}

-- ---- the name in C

abbrev pub has_address : Storage → Bool
has_address Auto = false
has_address Register = false
has_address Static = true
has_address External = true

abbrev pub is_symbol : ℕ → Option ℕ → Bool
is_symbol number None = false
is_symbol number (Some symbol) = symbol == number

-- The text of a name of C, if its symbol has this number and an address.
abbrev pub text_if : ℕ → Option CSymbol → Option (List ℕ)
text_if symbol None = None
text_if symbol (Some name) = if has_address name.storage && is_symbol symbol name.symbol
    then Some name.name else None

-- The text of the first such name, in the order of the numbers.
abbrev pub c_text : ℕ → List (Option CSymbol) → Option (List ℕ)
c_text symbol [] = None
c_text symbol (name ∷ names) = option_or (text_if symbol name) (c_text symbol names)

-- ---- parameters and locals

-- Whether the last parameter or local is a register variable, behind one of a storage: what is static
-- or external is neither.
abbrev pub register_behind : Bool → Storage → Bool
register_behind follows Auto = false
register_behind follows Register = true
register_behind follows Static = follows
register_behind follows External = follows

abbrev pub register_after : ℕ → Bool → Option CSymbol → Bool
register_after scope follows None = follows
register_after scope follows (Some name)
    = if name.scope == scope then register_behind follows name.storage else follows

abbrev pub is_auto : Storage → Bool
is_auto Auto = true
is_auto Register = false
is_auto Static = false
is_auto External = false

abbrev pub local_of : Bool → CSymbol → LocalView
local_of follows name = record {
  name = name.name;
  offset = modulo name.offset 65536;
  follows_register = follows;
}

abbrev pub local_if : ℕ → Bool → Option CSymbol → List LocalView
local_if scope follows None = []
local_if scope follows (Some name)
    = if name.scope == scope && is_auto name.storage then local_of follows name ∷ [] else []

-- Those of a scope, in the order of their numbers, which is that of their declarations.
abbrev pub locals_from : ℕ → Bool → List (Option CSymbol) → List LocalView
locals_from scope follows [] = []
locals_from scope follows (name ∷ names) = local_if scope follows name
    ++ locals_from scope (register_after scope follows name) names

abbrev pub locals_in : ℕ → List (Option CSymbol) → List LocalView
locals_in scope names = locals_from scope false names

-- ---- functions

-- A number of 16 bits.
abbrev pub word_of : Option ℕ → Option ℕ
word_of None = None
word_of (Some number) = if nat_le number 65535 then Some number else None

-- A function without its locals.
pub record Head : Type 0 where
  pub name : List ℕ
  pub start : ℕ
  pub size : ℕ

abbrev pub head_view : HeldHead → Head
head_view head = record { name = head.name.now; start = head.start; size = head.size }

-- A scope is a function of C if its size is known, and the value of its symbol, which is an address,
-- and if that symbol has a name in C.
unfoldable pub head_of : Info → Scope → Option Head
head_of info scope =
    option_and_then (λ number.
    option_and_then (λ symbol.
    option_and_then (λ start.
    option_and_then (λ size.
    option_map (λ name. record { name = name; start = start; size = size })
    (c_text number info.c_symbols))
    (word_of scope.size))
    (word_of symbol.value))
    (record_at info.symbols number))
    scope.symbol

abbrev pub with_locals : List LocalView → Head → FunctionView
with_locals locals head = record {
  name = head.name;
  start = head.start;
  size = head.size;
  locals = locals;
}

abbrev pub function_in : Info → ℕ → Option Scope → Option FunctionView
function_in info number None = None
function_in info number (Some scope)
    = option_map (with_locals (locals_in number info.c_symbols)) (head_of info scope)

-- The function whose scope has a number.
unfoldable pub function_at : Info → ℕ → Option FunctionView
function_at info number = function_in info number (record_at info.scopes number)

-- The same of so many numbers, one after another.
unfoldable pub functions_from : Info → ℕ → ℕ → List FunctionView
functions_from info number zero = []
functions_from info number (suc count)
    = option_to_list (function_at info number) ++ functions_from info (number + 1) count

-- All functions, in the order of their scopes' numbers.
abbrev pub functions_of : Info → List FunctionView
functions_of info = functions_from info 0 (length info.scopes)
