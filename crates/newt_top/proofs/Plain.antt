-- A script in which no device failed, in the words of the top call.
use Rattle.std.proofs.Common.{◌≡◌, ℕ, List, [], ◌++◌, Result, Ok, Err, refl, sym, ◌∙◌, ap, append-nil}
use Rattle.newt_host.specs.Meanings.{held, out_of}
use Rattle.newt_host.specs.Outside.{Outside, Rose}
use Rattle.newt_laws_steps.proofs.Runs.{first-sure}
use Rattle.newt_laws_steps.specs.Steps.{AllSure}
use Rattle.newt_laws_steps.specs.Thrown.{RowsThrew}
use Rattle.newt_script_session.specs.Answered.{Given}
use Rattle.newt_script_session.specs.Counts.{summary_of as summary_of_rows}
use Rattle.newt_script_session.specs.Named.{CountedNamed, RanNamed}
use Rattle.newt_script_session.specs.Script.{script_items}
use Rattle.newt_script_session.specs.declared.halt.Halt.{Halt}
use Rattle.newt_script_session.specs.declared.halt.Halt.TheVariants.{Memory, Source, Sink, TooLong}
use Rattle.newt_script_session.proofs.Plain.{output_is_plain, texts_are_plain}
use Rattle.newt_spec_script.specs.Generator.{summary}
use Rattle.newt_spec_script.specs.Rows.{output_of}
use Rattle.newt_spec_script.specs.Runs.{reply_texts, texts}
use Rattle.newt_spec_script.specs.Script.{Item}
use Rattle.newt_spec_whole.specs.Answer.{whole_answer}
use Rattle.newt_spec_whole.specs.Step.{WholeStep}
use Rattle.newt_spec_whole.specs.Whole.{Whole}
use Rattle.newt_store_catalog.specs.Readable.{readable}
use Rattle.newt_top.specs.Modes.{first, NoDeviceFailed, RanCounted, RanScript}
use Rattle.newt_top.specs.Script.{output, summary_of}
use Rattle.newt_top.specs.Status.{ended_as, status_of}
use Rattle.newt_top.specs.declared.status.Status.TheVariants as statuses

-- the output of a script is that of its items
whole_output : (world : Whole) (script : List ℕ) → texts whole_answer world (script_items script) ≡ output world script
unfolding output texts script_items
whole_output world script = refl

module _ (world : Whole) (script : List ℕ) (g : Given WholeStep world (script_items script)) (was is : ℕ → ℕ) (sure : AllSure world.world) (threw : RowsThrew g.rows was is)
    (none : (unit : ℕ) → ¬ Rose (was unit) (is unit)) (all : g.rest ≡ []) where
  items_are : g.first ≡ script_items script
  items_are = sym (g.split ∙ (ap (λ (items : List Item). g.first ++ items) all ∙ append-nil g.first))

  output_is : output_of g.rows ≡ output world script
  output_is = output_is_plain world g.first g.rows was is sure g.run threw none ∙ (ap (texts whole_answer world) items_are ∙ whole_output world script)

  summary_is : summary_of_rows g.rows ≡ summary_of world script
  unfolding summary_of_rows summary_of
  summary_is = ap summary (texts_are_plain world g.first g.rows was is sure g.run threw none ∙ ap (reply_texts whole_answer world) items_are)

-- a run that was halted does not end with Ok
never_ok : (halt : Halt) → statuses.Ok ≡ status_of halt → ⊥
never_ok Memory e = cc
never_ok Source e = cc
never_ok Sink e = cc
never_ok TooLong e = cc

module _ (names : List (List ℕ)) (old new : Outside) (none : NoDeviceFailed old new) where
  -- at the start it is known what each unit holds
  sure : AllSure (first names old).world
  sure = first-sure readable (held old) names

  pub plain_script : (limit : ℕ) → RanScript names limit statuses.Ok old new → out_of new ≡ out_of old ++ output (first names old) old.input
  plain_script limit r = go r.result r.ends r.ran
    where
      go : (result : Result (Unit {0}) Halt) → statuses.Ok ≡ ended_as result → RanNamed WholeStep readable limit result names old new → out_of new ≡ out_of old ++ output (first names old) old.input
      go (Ok x) e ran =
          let p = ran.played in
          p.out.1 ∙ ap (λ t. out_of old ++ t) (output_is (first names old) old.input p.given old.dev_faults new.dev_faults sure p.threw none p.out.0)
      go (Err halt) e ran = absurd (never_ok halt e)

  pub plain_counted : (script : List ℕ) → RanCounted script names statuses.Ok old new → out_of new ≡ out_of old ++ summary_of (first names old) script
  plain_counted script r = go r.result r.ends r.ran
    where
      go : (result : Result (Unit {0}) Halt) → statuses.Ok ≡ ended_as result → CountedNamed WholeStep readable script result names old new → out_of new ≡ out_of old ++ summary_of (first names old) script
      go (Ok x) e ran = ran.out.1 ∙ ap (λ t. out_of old ++ t) (summary_is (first names old) script ran.given old.dev_faults new.dev_faults sure ran.threw none ran.out.0)
      go (Err halt) e ran = absurd (never_ok halt e)
