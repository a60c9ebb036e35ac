-- One frame more of a walk.
use Rattle.std.proofs.Common.{◌≡◌, ◌∙◌, ℕ, suc, ◌+◌, ◌-◌, ◌<◌, ◌++◌, List, [], ◌∷◌, Option, Some, sym, ap, append_assoc, arith}
use Rattle.c_frames.specs.Frames.{caller_of, frame_at, frames_from}
use Rattle.c_frames.specs.Programs.{Program}
use Rattle.c_frames.specs.declared.rises.Depth.{Depth}
use Rattle.c_frames.specs.declared.walk.Frame.{Frame}
use Rattle.c_frames.specs.declared.walk.Standing.{Standing}

pub frame_more : (p : Program) (depths : List Depth) (memory : List ℕ) (n count : ℕ) (frames new whole : List Frame) (frame : Frame)
    (next further : Option Standing) (at : Standing)
    → count < n → next ≡ Some at → frame ≡ frame_at p depths at → further ≡ caller_of p depths memory at → new ≡ frames ++ frame ∷ []
    → frames ++ frames_from p depths memory (n - count) next ≡ whole
    → new ++ frames_from p depths memory (n - (count + 1)) further ≡ whole
frame_more p depths memory n count frames new whole frame next further at small next_is frame_is further_is new_is h =
    let one : n - count ≡ suc (n - (count + 1)) = omega arith in
    let rest : Option Standing → List Frame = λ o. frames_from p depths memory (n - (count + 1)) o in
    ap (λ l. l ++ rest further) (new_is ∙ ap (λ f. frames ++ f ∷ []) frame_is)
    ∙ (append_assoc frames (frame_at p depths at ∷ []) (rest further)
    ∙ (ap (λ o. frames ++ frame_at p depths at ∷ rest o) further_is
    ∙ (ap (λ k. frames ++ frames_from p depths memory k (Some at)) (sym one)
    ∙ (ap (λ o. frames ++ frames_from p depths memory (n - count) o) (sym next_is) ∙ h))))
