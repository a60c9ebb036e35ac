-- A reader that is fed a tape in pieces.
use Rattle.std.specs.Prelude.{ℕ, ◌+◌, nat_le, if◌then◌else◌, List, [], ◌∷◌, Option, None, Some, Result, Ok, Err}
use Rattle.model.specs.declared.tape.TapeFault.{TapeFault}
use Rattle.model.specs.declared.tape.TapeFaultKind.TheVariants.{TooLong}
use Rattle.model.specs.TapePieces.{longest}
use Rattle.papertape.specs.Reading.{Progress, step, result_at, start, ◌>>=◌}

-- how many bytes were fed and what was read of them, or the fault that they had
abbrev pub Fed : Type 0
Fed = Result (ℕ × Progress) TapeFault

-- nothing was fed
abbrev pub nothing_fed : Fed
nothing_fed = Ok (0, start)

-- one byte more, where no more than so many are taken
abbrev pub fed_byte : ℕ → ℕ × Progress → ℕ → Fed
fed_byte limit s b = if nat_le limit s.0 then Err (record { offset = s.0; kind = TooLong })
    else (step s.0 s.1 b >>= λ t. Ok (s.0 + 1, t))

abbrev pub fed_up_to : ℕ → Fed → List ℕ → Fed
fed_up_to limit s [] = s
fed_up_to limit s (b ∷ bytes) = fed_up_to limit (s >>= λ t. fed_byte limit t b) bytes

-- a piece more
abbrev pub fed : Fed → List ℕ → Fed
fed s piece = fed_up_to longest s piece

-- the end of the tape
abbrev pub end_of_feeding : Fed → Result (List (Option ℕ)) TapeFault
end_of_feeding s = s >>= λ t. result_at t.0 t.1

-- what a call says of the reader that it leaves: nothing, or its fault
abbrev pub answer_of : Fed → Result Unit TapeFault
answer_of (Ok s) = Ok tt
answer_of (Err f) = Err f

-- a reader that has failed, or goes on
abbrev pub fed_of : Option TapeFault → ℕ → Progress → Fed
fed_of None offset s = Ok (offset, s)
fed_of (Some f) offset s = Err f
