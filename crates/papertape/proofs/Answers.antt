-- From the reading machine's answer to what the grammar says of it.
use Rattle.std.proofs.Common.{◌≡◌, ℕ, List, Option, Result, Ok, Err, sym, ◌∙◌, ap, subst, inl, inr, ◌⊎◌}
use Rattle.std.specs.Prelude.{IfOk, IfErr, IsErrAnd}
use Rattle.model.specs.declared.tape.TapeFault.{TapeFault}
use Rattle.model.specs.Tape.{TapeDenotes, FirstFault}
use Rattle.model.specs.TapeFault.{out_of_memory}
use Rattle.papertape.specs.Reading.{AnswersReading, read_of}
use Rattle.papertape.proofs.Grammar.{SoundRead, read_sound}
use Rattle.model.specs.declared.tape.TapeFaultKind.{TapeFaultKind}
use Rattle.papertape.proofs.Faults.{fault_again}
use Rattle.papertape.proofs.GrammarIsRead.{read_again}

abbrev Read : Type 0
Read = Result (List (Option ℕ)) TapeFault

abbrev read_err : TapeFault → Read
read_err f = Err f

pub found_from : (text : List ℕ) (r : Read) → AnswersReading r (read_of text) → IfOk r (λ image. TapeDenotes text image)
found_from text (Ok image) h = subst (λ (x : Read). SoundRead text x) h (read_sound text)
found_from text (Err f) h = tt

pub fault_from : (text : List ℕ) (r : Read) → AnswersReading r (read_of text) → IfErr r (λ f. (f ≡ out_of_memory) ⊎ FirstFault text f.kind f.offset)
fault_from text (Ok image) h = tt
fault_from text (Err f) (inl m) = inl m
fault_from text (Err f) (inr h) = inr (subst (λ (x : Read). SoundRead text x) h (read_sound text))

pub only_from : (text : List ℕ) (r : Read) → AnswersReading r (read_of text) → (cells : List (Option ℕ)) → TapeDenotes text cells → (r ≡ Ok cells)
    ⊎ (r ≡ Err out_of_memory)
only_from text (Ok image) h cells d = inl (sym h ∙ read_again text cells d)
only_from text (Err f) (inl m) cells d = inr (ap Err m)
only_from text (Err f) (inr h) cells d = inl (sym h ∙ read_again text cells d)

pub refused_from : (text : List ℕ) (r : Read) → AnswersReading r (read_of text) → (kind : TapeFaultKind) (offset : ℕ) → FirstFault text kind offset
    → (r ≡ Err (record { offset = offset; kind = kind })) ⊎ (r ≡ Err out_of_memory)
refused_from text (Ok image) h kind offset f = inl (sym h ∙ fault_again text kind offset f)
refused_from text (Err e) (inl m) kind offset f = inr (ap Err m)
refused_from text (Err e) (inr h) kind offset f = inl (sym h ∙ fault_again text kind offset f)

pub answers_of : (gives r : Read) → gives ≡ r → AnswersReading r gives
answers_of gives (Ok cells) e = e
answers_of gives (Err f) e = inr e

pub answers_fault : (gives r : Read) (f : TapeFault) → IsErrAnd r (λ e. e ≡ f) → gives ≡ Err f → AnswersReading r gives
answers_fault gives (Ok cells) f h e = absurd h
answers_fault gives (Err g) f h e = inr (e ∙ ap (λ (x : TapeFault). read_err x) (sym h))
