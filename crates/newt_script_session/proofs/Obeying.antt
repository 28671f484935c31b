-- One item: it is answered, and its reply is taken.
use Rattle.std.proofs.Common.{◌≡◌, ℕ, Bool, List, [], ◌∷◌, ◌++◌, Option, Result, Ok, Err, refl, sym, ◌∙◌, ap, subst}
use Rattle.newt_host.specs.Moments.{Moment, Always, changes, output as printed}
use Rattle.newt_host.specs.Outside.{Outside}
use Rattle.newt_host.proofs.Moments.{Always-append, Always-last, Always-map}
use Rattle.newt_spec_script.specs.Rows.{Goes, Row, Stepping, output_of}
use Rattle.newt_spec_script.specs.Script.{Item}
use Rattle.newt_spec_store.specs.Store.{Store}
use Rattle.newt_spec_world.specs.Reply.{reply_text}
use Rattle.newt_spec_whole.specs.Whole.{Whole}
use Rattle.newt_script_session.specs.Answered.{Given, Ran}
use Rattle.newt_script_session.specs.Causes.{HasSinkCause}
use Rattle.newt_script_session.specs.Moments.{SafeAt, Untouched}
use Rattle.newt_script_session.specs.Reading.{ActsInTime}
use Rattle.newt_script_session.specs.Run.{HaltedIn}
use Rattle.newt_script_session.specs.Stream.{PutsText, WroteSome, put_out}
use Rattle.newt_laws_steps.specs.Thrown.{FaultsTold, Threw}
use Rattle.newt_script_session.specs.declared.halt.Halt.{Halt}
use Rattle.newt_script_session.specs.declared.halt.Halt.TheVariants.{Memory, Source, Sink, TooLong}
use Rattle.newt_script_session.proofs.Acting.{acts_printing, acts_quiet}
use Rattle.newt_script_session.proofs.Crashing.{AnsweringItem, AtRest, answering_leaves, safe_answering, safe_writing, untouched_next, untouched_same}
use Rattle.newt_script_session.proofs.Rows.{output_one}
use Rattle.newt_script_session.proofs.Throwing.{failed_one, threw_one}
use Rattle.newt_script_session.proofs.Writing.{wrote_nothing}

module _ (step : Stepping Whole) (shows : Bool) (reads : List ℕ → Option Store) (world : Whole) (item : Item) (row : Row Whole) (goes : Goes step world item row) (old then : Moment) (was is : ℕ → ℕ)
    (answering : Always (AnsweringItem reads world item row.0 old) old then) (threw : Threw row.1 was is) (failed : FaultsTold row.1 was is) where
  abbrev text : List ℕ
  text = reply_text row.1

  -- the item is given, and gives the row
  abbrev one_given : Given step world (item ∷ [])
  one_given = record { first = item ∷ []; rest = []; split = refl; rows = row ∷ []; run = (goes, tt) }

  quiet : printed then ≡ printed old
  quiet = (Always-last answering).quiet

  item_acts : ActsInTime shows (row ∷ []) old then
  item_acts = acts_quiet shows (row ∷ []) old then (Always-map (λ m a. a.quiet) answering)

  item_next : (start : Moment) (before : List Whole) → Untouched start before world old → Untouched start (world ∷ before) row.0 then
  item_next start before u = untouched_next reads start before world item row.0 old then u (Always-last answering)

  item_answering : (start : Moment) (before : List Whole) → Untouched start before world old → Always (SafeAt shows reads start before world (item ∷ []) (row ∷ []) (printed old)) old then
  item_answering start before u = Always-map (λ m a. safe_answering shows reads start before world item row old m u a) answering

  item_moments : {T E : Type 0} (result : Result T E) (now : Moment) → AtRest reads row.0 then → PutsText result (put_out shows text) then now
      → (start : Moment) (before : List Whole) → Untouched start before world old → Always (SafeAt shows reads start before world (item ∷ []) (row ∷ []) (printed old)) old now
  item_moments result now its puts start before u =
      Always-append (item_answering start before u)
      (Always-map (λ m some. safe_writing shows reads start before world item row old then m quiet
      (λ later unit left may. answering_leaves reads start before world item later row.0 old then u (Always-last answering) unit left may)
      (its start (world ∷ before) (item_next start before u)) some) puts.moments)

  pub ran_item : {T U E : Type 0} (x : T) (y : U) (After : Whole → Type 0) (had has : List (List ℕ) → Type 0) (now : Moment) → AtRest reads row.0 then
      → PutsText {T = U} {E = E} (Ok y) (put_out shows text) then now → After row.0 → ((unit : ℕ) → changes unit now ≡ changes unit then)
      → ((before : List (List ℕ)) → had before → has (before ++ text ∷ [])) → Ran step shows reads {T = T} (Ok x) world After (item ∷ []) had has old now was is
  ran_item {T} {U} {E} x y After had has now its puts means same took = record {
    given = one_given;
    done = (
      refl,
      record {
        stands_for = means;
        put = puts.whole ∙ (ap (λ o. o ++ put_out shows text) quiet ∙ ap (λ t. printed old ++ put_out shows t) (sym (output_one row)));
        took = took;
        untouched = λ start before u. untouched_same start (world ∷ before) row.0 then now same (item_next start before u);
      },
    );
    halted = λ yes. tt;
    threw = threw_one row was is threw;
    failed = failed_one row was is failed;
    acts = acts_printing shows (row ∷ []) (put_out shows text) old then now item_acts puts.moments;
    moments = item_moments {T = U} {E = E} (Ok y) now its puts;
  }

  halted_item : (halt : Halt) (o n : Outside) (now : List ℕ) → HasSinkCause halt o n → WroteSome text (printed old) now → HaltedIn halt (row ∷ []) (printed old) now
  halted_item Memory o n now cause some = subst (λ (t : List ℕ). WroteSome t (printed old) now) (sym (output_one row)) some
  halted_item Sink o n now cause some = subst (λ (t : List ℕ). WroteSome t (printed old) now) (sym (output_one row)) some
  halted_item Source o n now cause some = absurd cause
  halted_item TooLong o n now cause some = absurd cause

  -- the reply was not taken whole
  pub ran_untaken : {T U : Type 0} (result : Result T Halt) (halt : Halt) (After : Whole → Type 0) (had has : List (List ℕ) → Type 0) (now : Moment) (o n : Outside) → result ≡ Err halt
      → AtRest reads row.0 then → HasSinkCause halt o n → PutsText {T = U} (Err halt) (put_out shows text) then now → Ran step shows reads result world After (item ∷ []) had has old now was is
  ran_untaken {T} {U} result halt After had has now o n ends its cause puts =
      subst (λ (v : Result T Halt). Ran step shows reads v world After (item ∷ []) had has old now was is) (sym ends) (record {
        given = one_given;
        done = tt;
        halted = λ yes. halted_item halt o n (printed now) cause
            (subst (λ (before : List ℕ). WroteSome text before (printed now)) quiet (subst (λ (b : Bool). WroteSome (put_out b text) (printed then) (printed now)) yes puts.failed));
        threw = threw_one row was is threw;
        failed = failed_one row was is failed;
        acts = acts_printing shows (row ∷ []) (put_out shows text) old then now item_acts puts.moments;
        moments = item_moments {T = U} {E = Halt} (Err halt) now its puts;
      })

  -- it was not answered, for want of memory
  pub ran_stopped : {T : Type 0} (After : Whole → Type 0) (had has : List (List ℕ) → Type 0) → Ran step shows reads {T = T} (Err Memory) world After (item ∷ []) had has old then was is
  ran_stopped {T} After had has = record {
    given = one_given;
    done = tt;
    halted = λ yes. subst (λ (o : List ℕ). WroteSome (output_of (row ∷ [])) (printed old) o) (sym quiet) (wrote_nothing (output_of (row ∷ [])) (printed old));
    threw = threw_one row was is threw;
    failed = failed_one row was is failed;
    acts = item_acts;
    moments = item_answering;
  }
