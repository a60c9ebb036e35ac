-- What is told of the sources that a debug file names: those that have changed since it was made, and
-- that they are not found. No clause can say which these are. Source: mos65.
use Rattle.std.specs.Prelude.{◌≡◌, ℕ, ◌+◌, ◌^◌, ◌-◌, ◌==◌, ◌&&◌, ◌||◌, min, not, nat_lt, Bool, true, false, if◌then◌else◌, List, [], length, ◌++◌, codes, decimal, Option, Some, None, option_map}
use Rattle.arguments.specs.FaultLines.{line_of}
use Rattle.arguments.specs.Shown.{shown_bytes}
use Rattle.debug_files.specs.Paths.{begins_at_root}
use Rattle.debug_files.specs.declared.changed.SourceState.{SourceState}
use Rattle.debug_files.specs.declared.changed.SourceState.TheVariants.{Changed, Missing, Same}
use Rattle.debug_files.specs.declared.changed.Sought.{Sought as HeldSought}
use Rattle.debug_files.specs.declared.changed.TheConstants.{AS, CHANGED, MISSING, OF, ROOT}
use Rattle.model.specs.Writers.{AppendsFront}

-- ---- a source: whether it can be read, and has the size of which the file tells

abbrev pub has_size : ℕ → Option ℕ → Bool
has_size count None = true
has_size count (Some size) = count == size

abbrev pub state_of : Option ℕ → Option ℕ → SourceState
state_of None size = Missing
state_of (Some count) size = if has_size count size then Same else Changed

-- By the bytes of it, if it can be read: its text are these, if it has not changed.
abbrev pub state_by : Option (List ℕ) → Option ℕ → SourceState
state_by read size = state_of (option_map length read) size

abbrev pub text_by : Option (List ℕ) → Option ℕ → List ℕ
text_by None size = []
text_by (Some bytes) size = if has_size (length bytes) size then bytes else []

-- ---- all of them

-- The names of those that have changed; how many there are, and how many cannot be read; the name of
-- the first of these, each as it is shown; and whether one that has a relative name can be read: then relative names begin
-- where they should.
pub record Sought : Type 0 where
  pub changed : List ℕ
  pub count : ℕ
  pub missing : ℕ
  pub first : List ℕ
  pub is_found : Bool

abbrev pub sought_view : HeldSought → Sought
sought_view sought = record {
  changed = sought.changed.items;
  count = sought.count;
  missing = sought.missing;
  first = sought.first.items;
  is_found = sought.is_found;
}

abbrev pub one_more : ℕ → ℕ
one_more count = min (count + 1) (2 ^ 32 - 1)

abbrev pub with_name : List ℕ → List ℕ → List ℕ
with_name names name = if length names == 0 then shown_bytes name
    else names ++ (codes ", " ++ shown_bytes name)

abbrev pub first_of : List ℕ → List ℕ → List ℕ
first_of first name = if length first == 0 then shown_bytes name else first

abbrev pub found_by : List ℕ → Sought → Sought
found_by name sought = record sought {
  count = one_more sought.count;
  is_found = sought.is_found || not (begins_at_root name);
}

-- With one more.
abbrev pub with_source : List ℕ → SourceState → Sought → Sought
with_source name Same sought = found_by name sought
with_source name Changed sought
    = record (found_by name sought) { changed = with_name sought.changed name }
with_source name Missing sought = record sought {
  count = one_more sought.count;
  missing = one_more sought.missing;
  first = first_of sought.first name;
}

-- A source is looked for once: what can be read of it says which text is shown, and what is noted.
pub record IsFound (name : List ℕ) (size : Option ℕ) (held now : Sought) (shown : List ℕ)
    : Type 0 where
  pub read : Option (List ℕ)
  pub noted : now ≡ with_source name (state_by read size) held
  pub text : shown ≡ text_by read size

-- ---- what is told

-- The line that names those that have changed.
abbrev pub changed_line : List ℕ → List ℕ → List ℕ
changed_line file names = line_of file (CHANGED.now ++ (names ++ codes "\n"))

-- The line that says how many cannot be read, and names one.
abbrev pub missing_line : List ℕ → Sought → List ℕ
missing_line file sought = line_of file (MISSING.now ++ (decimal sought.missing ++ (OF.now
    ++ (decimal sought.count ++ (AS.now ++ (sought.first ++ ROOT.now))))))

-- A writer got a line if something holds, or a beginning of it, and otherwise nothing.
abbrev pub TellsIf : Bool → List ℕ → Option (List ℕ) → Option (List ℕ) → Type 0
TellsIf true line held now = AppendsFront held now line
TellsIf false line held now = now ≡ held

abbrev pub is_told_changed : Sought → Bool
is_told_changed sought = nat_lt 0 (length sought.changed)

abbrev pub is_told_missing : Sought → Bool
is_told_missing sought = nat_lt 0 sought.missing && not sought.is_found

-- A writer got the lines that there are.
abbrev pub TellsSought : List ℕ → Sought → Option (List ℕ) → Option (List ℕ) → Type 0
TellsSought file sought held now = (between : Option (List ℕ))
    × TellsIf (is_told_changed sought) (changed_line file sought.changed) held between
    × TellsIf (is_told_missing sought) (missing_line file sought) between now

-- The same of some sources if debug information was read, and otherwise nothing.
abbrev pub TellsChanged : Option (List ℕ) → Option (List ℕ) → Option (List ℕ) → Type 0
TellsChanged None held now = now ≡ held
TellsChanged (Some file) held now = (sought : Sought) × TellsSought file sought held now

abbrev pub TellsOf : Option (List ℕ) → Sought → Option (List ℕ) → Option (List ℕ) → Type 0
TellsOf None sought held now = now ≡ held
TellsOf (Some file) sought held now = TellsSought file sought held now
