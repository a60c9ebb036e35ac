use Rattle.std.proofs.Common.{◌∙◌, ◌≤◌, Result, Ok, Err, ap, arith, subst}
use Rattle.std.specs.Prelude.{IfOk, OnOk}
use Rattle.model.specs.State.{State}
use Rattle.mon_session.specs.Course.{course_of}
use Rattle.mon_steps.specs.BackLines.{remade, undone}
use Rattle.page_data.specs.Events.{HoldsSession}
use Rattle.mon_files.proofs.held.record_held.Goals as goal

on_ok_map : {X E : Type 0} (r : Result X E) (P Q : Type 0) → OnOk r P → (P → Q) → OnOk r Q
on_ok_map (Ok x) P Q h f = f h
on_ok_map (Err e) P Q h f = tt

if_ok_map : {X E : Type 0} (r : Result X E) (P Q : X → Type 0) → IfOk r P → ((x : X) → P x → Q x) → IfOk r Q
if_ok_map (Ok x) P Q h f = f x h
if_ok_map (Err e) P Q h f = tt

pub undo_all-requires : goal.undo_all-requires
undo_all-requires c = c.held-held.ensures.held

pub returns-clause-course : goal.returns-clause-course
returns-clause-course c =
    let first = course_of c.args.mon.now in
    on_ok_map c.record_from.result _ _ c.record_from.ensures.course
    (λ again. again ∙ ap (remade c.held-held.result) c.undo_all.ensures.course ∙ ap (λ n. remade n (undone n first)) c.held-held.ensures.held)

pub returns-clause-told : goal.returns-clause-told
returns-clause-told c =
    let room : c.held-held.result ≤ c.undo_all.new.mon.session.history = omega (arith, c.held-held.ensures.within, c.undo_all.ensures.history) in
    if_ok_map c.record_from.result _ _ c.record_from.ensures.told
    (λ bytes told. subst (λ (x : State). HoldsSession x bytes.items c.record_from.new.mon.session) c.undo_all.ensures.oldest
    (told c.undo_all.ensures.none room))
