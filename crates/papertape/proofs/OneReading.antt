-- Each text denotes one image or has one first fault.
use Rattle.std.proofs.Common.{◌≡◌, ℕ, List, Option, Result, Ok, Err, ◌⊎◌, inl, inr, sym, ap, ◌∙◌}
use Rattle.model.specs.declared.tape.TapeFault.{TapeFault}
use Rattle.model.specs.declared.tape.TapeFaultKind.{TapeFaultKind}
use Rattle.model.specs.Tape.{TapeDenotes, FirstFault, EachTextIsRead, OneTapeImage, OneTapeFault, TapeImageOrFault}
use Rattle.papertape.specs.Reading.{read_of}
use Rattle.papertape.proofs.GrammarIsRead.{read_again}
use Rattle.papertape.proofs.Faults.{fault_again}
use Rattle.papertape.proofs.Grammar.{SoundRead, read_sound}

abbrev Read : Type 0
Read = Result (List (Option ℕ)) TapeFault

pub each_text : EachTextIsRead
each_text text = go (read_of text) (read_sound text) where
  go : (r : Read) → SoundRead text r → ((cells : List (Option ℕ)) × TapeDenotes text cells)
      ⊎ ((kind : TapeFaultKind) × (offset : ℕ) × FirstFault text kind offset)
  go (Ok cells) h = inl (cells, h)
  go (Err f) h = inr (f.kind, f.offset, h)

abbrev cells_of : List (Option ℕ) → Read → List (Option ℕ)
cells_of other (Ok cells) = cells
cells_of other (Err f) = other

abbrev fault_of : TapeFault → Read → TapeFault
fault_of other (Ok cells) = other
fault_of other (Err f) = f

pub one_image : OneTapeImage
one_image text a b da db = ap (cells_of a) (sym (read_again text a da) ∙ read_again text b db)

pub one_fault : OneTapeFault
one_fault text k l m n f g =
    let same = ap (fault_of (record { kind = k; offset = m })) (sym (fault_again text k m f) ∙ fault_again text l n g) in
    (ap (λ (x : TapeFault). x.kind) same, ap (λ (x : TapeFault). x.offset) same)

not_both : (cells : List (Option ℕ)) (f : TapeFault) → Ok cells ≡ Err f → ⊥
not_both cells f e = cc

pub image_or_fault : TapeImageOrFault
image_or_fault text cells kind offset d f = not_both cells (record { kind = kind; offset = offset })
    (sym (read_again text cells d) ∙ fault_again text kind offset f)
