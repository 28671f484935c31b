-- The value is put into the draft, where the limits allow it.
use Rattle.std.proofs.Common.{ap, refl, sym, ◌∙◌, subst}
use Rattle.std.specs.Prelude.{Err, Result, is_some}
use Rattle.newt_graph.specs.Graph.{RawGraph}
use Rattle.newt_path.specs.Put.{IsFormOf, PassesALimit}
use Rattle.newt_path.specs.declared.fault.SetFault.{SetFault}
use Rattle.newt_spec_graph.specs.Slots.{put}
use Rattle.newt_spec_world.specs.declared.command.Command.TheVariants as command
use Rattle.newt_engine_whole.proofs.Drafted.{edit-put, no-path, none-edited, past-limit}
use Rattle.newt_engine_whole.proofs.Noticed.{apart-memory}
use Rattle.newt_engine_whole.proofs.whole.Whole.edit.Goals as goal

pub returns-in_default : goal.returns-in_default
returns-in_default g c = none-edited c.args.number c.args.path.now c.args.value.now refl (sym c.in_default.ensures)

pub put_draft-requires : goal.put_draft-requires
put_draft-requires g c = ap is_some (sym c.in-Some.ensures)

pub returns-in-Ok : goal.returns-in-Ok
returns-in-Ok g c =
    let d : (x : RawGraph) → IsFormOf (put c.draft.result.now c.args.path.now c.args.value.now) x → IsFormOf (put c.in-Some.work.now.draft c.args.path.now c.args.value.now) x = λ x. subst (λ (y : RawGraph). IsFormOf (put y c.args.path.now c.args.value.now) x) c.draft.ensures in
    edit-put c.args.number c.args.path.now c.args.value.now c.in-Some.work.now c.in-Some.ensures c.in-Ok.draft c.put_draft.result (d c.in-Ok.draft c.in-Ok.ensures.form)
    c.put_draft.ensures.world c.put_draft.ensures.watches c.put_draft.ensures.put

pub returns-in-Err-NoPath : goal.returns-in-Err-NoPath
returns-in-Err-NoPath g c =
    let h = c.in-Err-NoPath in
    no-path c.args.number c.args.path.now c.args.value.now c.in-Some.work.now c.in-Some.ensures refl
    (ap (λ (y : RawGraph). put y c.args.path.now c.args.value.now) (sym c.draft.ensures) ∙ h.ensures.no_path.0 (ap {B = Result RawGraph SetFault} (λ x. Err x) h.field-0-is))

pub returns-in-Err-Limit : goal.returns-in-Err-Limit
returns-in-Err-Limit g c =
    let h = c.in-Err-Limit in
    past-limit c.args.number c.args.path.now c.args.value.now c.in-Some.work.now c.in-Some.ensures refl
    (subst (λ (y : RawGraph). PassesALimit (put y c.args.path.now c.args.value.now)) c.draft.ensures (h.ensures.limit (ap {B = Result RawGraph SetFault} (λ x. Err x) h.field-0-is)))

pub returns-in-Err-Memory : goal.returns-in-Err-Memory
returns-in-Err-Memory g c = apart-memory (command.Edit c.args.number c.args.path.now c.args.value.now) _ refl refl
