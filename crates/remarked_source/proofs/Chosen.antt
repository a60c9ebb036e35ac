-- A source as it was, where nothing is added to it.
use Rattle.std.proofs.Common.{◌≡◌, ℕ, List, Bool, Option, Result, Ok, Err, true, false, length, nat_lt, refl, subst, sym}
use Rattle.std.specs.Prelude.{IfOk}
use Rattle.marks_files.specs.declared.marks.Split.{Split}
use Rattle.model.specs.declared.instruction.Profile.{Profile}
use Rattle.source_forms.specs.declared.mark.Mark.{Mark}
use Rattle.remarked_source.specs.RemarkedText.{AreJoined, AreJoinedIf, AreJoinedText, AreSplit, AreSplitIf, AreSplitText, IsRemarked, IsRemarkedIf, IsRemarkedText, has_text, is_beside}
use Rattle.remarked_source.specs.Rows.{Beside}

module _ {X E : Type 0} (items : X → List ℕ) (profile : Profile) (image : List (Option ℕ)) (plain : List ℕ) where
  pub remarked : (b : Beside) (r : Result X E) → is_beside b ≡ true → IfOk r (λ x. IsRemarked profile image b plain (items x))
      → IfOk r (λ x. IsRemarkedText profile image b plain (items x))
  remarked b (Ok x) some is = subst (λ (t : Bool). IsRemarkedIf t profile image b plain (items x)) (sym some) is
  remarked b (Err e) some is = tt

  pub joined : (marks : List Mark) (r : Result X E) → has_text marks ≡ true → IfOk r (λ x. AreJoined profile image marks plain (items x))
      → IfOk r (λ x. AreJoinedText profile image marks plain (items x))
  joined marks (Ok x) some is = subst (λ (t : Bool). AreJoinedIf t profile image marks plain (items x)) (sym some) is
  joined marks (Err e) some is = tt

  pub split : (splits : List Split) (r : Result X E) → nat_lt 0 (length splits) ≡ true → IfOk r (λ x. AreSplit profile image splits plain (items x))
      → IfOk r (λ x. AreSplitText profile image splits plain (items x))
  split splits (Ok x) some is = subst (λ (t : Bool). AreSplitIf t profile image splits plain (items x)) (sym some) is
  split splits (Err e) some is = tt

pub unremarked : (profile : Profile) (image : List (Option ℕ)) (plain : List ℕ) (b : Beside) → is_beside b ≡ false → IsRemarkedText profile image b plain plain
unremarked profile image plain b none = subst (λ (t : Bool). IsRemarkedIf t profile image b plain plain) (sym none) refl

pub unjoined : (profile : Profile) (image : List (Option ℕ)) (plain : List ℕ) (marks : List Mark) → has_text marks ≡ false
    → AreJoinedText profile image marks plain plain
unjoined profile image plain marks none = subst (λ (t : Bool). AreJoinedIf t profile image marks plain plain) (sym none) refl

pub unsplit : (profile : Profile) (image : List (Option ℕ)) (plain : List ℕ) (splits : List Split) → nat_lt 0 (length splits) ≡ false
    → AreSplitText profile image splits plain plain
unsplit profile image plain splits none = subst (λ (t : Bool). AreSplitIf t profile image splits plain plain) (sym none) refl
