-- The lines of `where` are those of the frames.
use Rattle.std.proofs.Common.{◌≡◌, ◌∙◌, ℕ, zero, suc, ◌+◌, Bool, true, false, if◌then◌else◌, List, [], ◌∷◌, ◌++◌, drop, nat_le, refl, sym, ap, append-nil}
use Rattle.std.proofs.lemmas.Grind.{flat_map-append}
use Rattle.std.specs.List.{flat_map}
use Rattle.dap_views.specs.Frames.{FramesAreThoseOfWhere, frame_of, frames_from, where_line}
use Rattle.dap_views.specs.declared.stack.Frame.{Frame}
use Rattle.model.specs.State.{State}
use Rattle.mon_calls.specs.Calls.{called_line, entry_line, entry_of, stack_behind}
use Rattle.mon_calls.specs.Spots.{from_line, spot_line}
use Rattle.mon_texts.specs.Pushed.{entries, entry_len, pushed_at}
use Rattle.mon_texts.specs.declared.pushed.Pushed.{Pushed}
use Rattle.mon_texts.specs.declared.pushed.Pushed.TheVariants.{Call, Break, Interrupt, Byte}
use Rattle.mon_texts.specs.declared.wording.TheConstants.{CALLED_FROM, INTERRUPTED_AT, PROGRAM_AT}
use Rattle.source_map.specs.Lines.{PlacesView}

module _ (s : State) (places : PlacesView) where
  abbrev line : Frame → List ℕ
  line = where_line s places

  -- the line of what was pushed
  one : (place : ℕ) (pushed : Pushed) → entry_of s places pushed ≡ flat_map line (frame_of place pushed)
  one place (Call at) = sym (append-nil (from_line CALLED_FROM.now s places at))
  one place (Break at) = sym (append-nil (from_line CALLED_FROM.now s places at))
  one place (Interrupt at) = sym (append-nil (from_line INTERRUPTED_AT.now s places at))
  one place Byte = refl

  by_end : (past : Bool) (text : List ℕ) (frames : List Frame) → text ≡ flat_map line frames
      → (if past then [] else text) ≡ flat_map line (if past then [] else frames)
  by_end true text frames e = refl
  by_end false text frames e = e

  all : (n at : ℕ) → entries n (entry_line s places) (entry_len s.bus.memory places.lines) at ≡ flat_map line (frames_from n s.bus.memory places.lines at)
  unfolding entries frames_from
  all zero at = refl
  all (suc n) at =
      let pushed = pushed_at s.bus.memory places.lines at in
      let next = at + entry_len s.bus.memory places.lines at in
      by_end (nat_le 512 at) _ _ ((λ i. one at pushed i ++ all n next i)
      ∙ sym (flat_map-append line (frame_of at pushed) (frames_from n s.bus.memory places.lines next)))

pub frames_are_those_of_where : FramesAreThoseOfWhere
frames_are_those_of_where s places frames = ap (λ (text : List ℕ). spot_line PROGRAM_AT.now places s.regs.pc
    ++ flat_map (called_line s places) (drop 1 frames) ++ text)
    (all s places 256 (257 + stack_behind frames s.regs.s))
