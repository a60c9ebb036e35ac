use Rattle.std.proofs.Common.{◌∙◌, Some, ap}
use Rattle.std.proofs.lemmas.Result.{IfOk-weaker}
use Rattle.c_frames.specs.Frames.{frames_from}
use Rattle.c_frames.specs.Programs.{program_view}
use Rattle.c_frames.specs.declared.walk.Standing.{Standing}
use Rattle.call_frames.specs.Tables.{frames_of}
use Rattle.call_frames.proofs.tables.frames_of.Goals as goal

pub returns : goal.returns
unfolding frames_of
returns c =
    let depths = c.args.depths.now in
    let memory = c.args.program.now.memory.now in
    IfOk-weaker c.frames.result _ _
    (λ frames is. is ∙ ap (λ (at : Standing). frames_from (program_view c.args.program.now) depths memory 128 (Some at)) c.standing-at.ensures)
    c.frames.ensures
