-- Each source denotes one image or has one fault.
use Rattle.std.proofs.Common.{◌≡◌, ℕ, List, Option, Result, Ok, Err, ◌⊎◌, inl, inr, sym, ap, ◌∙◌}
use Rattle.model.specs.Source.{Denotes, HasFault, EachSourceIsJudged, OneImage, OneFault, ImageOrFault}
use Rattle.model.specs.declared.source_fault.AsmFault.{AsmFault}
use Rattle.law_sources.specs.Judging.{Judgement, Says, judgement}
use Rattle.law_sources.proofs.Meaning.{judged_says, denotes_again, fault_again}

abbrev Cells : Type 0
Cells = List (Option ℕ)

abbrev Answer : Type 0
Answer = Result Judgement AsmFault

pub each_source : EachSourceIsJudged
each_source m source = go (judgement m source) (judged_says m source)
  where
    go : (r : Answer) → Says m source r → ((image : Cells) × Denotes m source image) ⊎ ((f : AsmFault) × HasFault m source f)
    go (Ok j) h = inl (j.image, h.0)
    go (Err f) h = inr (f, h)

abbrev image_of : Cells → Answer → Cells
image_of other (Ok j) = j.image
image_of other (Err f) = other

abbrev fault_of : AsmFault → Answer → AsmFault
fault_of other (Ok j) = other
fault_of other (Err f) = f

pub one_image : OneImage
one_image m source a b da db = ap (image_of a) (sym (denotes_again m source a da) ∙ denotes_again m source b db)

pub one_fault : OneFault
one_fault m source a b ha hb = ap (fault_of a) (sym (fault_again m source a ha) ∙ fault_again m source b hb)

not_both : (j : Judgement) (f : AsmFault) → Ok j ≡ Err f → ⊥
not_both j f e = cc

pub image_or_fault : ImageOrFault
image_or_fault m source image f d h = not_both (record { placed = d.placed; all = d.all; image = image }) f
    (sym (denotes_again m source image d) ∙ fault_again m source f h)
