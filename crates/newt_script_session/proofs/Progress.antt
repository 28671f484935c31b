-- Items that are answered part by part.
use Rattle.std.proofs.Common.{◌≡◌, ℕ, Bool, List, [], ◌++◌, Option, Result, Ok, Err, IsTrue, refl, sym, ◌∙◌, ap, subst, append_assoc, append-nil}
use Rattle.newt_host.specs.Moments.{Moment, Always, here, output as printed}
use Rattle.newt_host.proofs.Moments.{Always-append, Always-map}
use Rattle.newt_spec_script.specs.Script.{Item}
use Rattle.newt_spec_store.specs.Store.{Store}
use Rattle.newt_spec_whole.specs.Whole.{Whole}
use Rattle.newt_script_session.specs.Answered.{Answered, Given, Ran}
use Rattle.newt_script_session.specs.Moments.{SafeAt, Untouched, worlds_passed}
use Rattle.newt_script_session.specs.Reading.{ActsInTime}
use Rattle.newt_spec_script.specs.Rows.{IsRun, output_of, reply_texts, Row, Stepping, last_world}
use Rattle.newt_script_session.specs.Run.{HaltedIn}
use Rattle.newt_script_session.specs.Stream.{WroteSome, put_out}
use Rattle.newt_laws_steps.specs.Thrown.{RowsFailed, RowsThrew}
use Rattle.newt_script_session.specs.declared.halt.Halt.{Halt}
use Rattle.newt_script_session.specs.declared.halt.Halt.TheVariants.{Memory, Source, Sink, TooLong}
use Rattle.newt_script_session.proofs.Acting.{acts_both, acts_start}
use Rattle.newt_script_session.proofs.Crashing.{AtRest, none_put, both_put, safe_here, safe_more, safe_laters}
use Rattle.newt_script_session.proofs.Rows.{after_append, output_append, output_none, replies_append, run_append, run_length, worlds_append}
use Rattle.newt_script_session.proofs.Throwing.{failed_both, threw_both, threw_none}
use Rattle.newt_script_session.proofs.Writing.{wrote_some}

module _ (shows : Bool) where
  -- no item was
  pub answered_none : (world : Whole) (Now : Whole → Type 0) (has : List (List ℕ) → Type 0) (now : Moment) → Now world → Answered shows world Now [] has has now now
  answered_none world Now has now means = record {
    stands_for = means;
    put = sym (ap (λ t. printed now ++ put_out shows t) output_none ∙ none_put shows (printed now));
    took = λ before h. subst has (sym (append-nil before)) h;
    untouched = λ start before u. u;
  }

  -- one part after another
  pub answered_both : (world : Whole) (Then Now : Whole → Type 0) (a b : List (Row Whole)) (had half has : List (List ℕ) → Type 0) (old then now : Moment)
      → Answered shows world Then a had half old then → Answered shows (last_world world a) Now b half has then now → Answered shows world Now (a ++ b) had has old now
  answered_both world Then Now a b had half has old then now x y = record {
    stands_for = subst Now (sym (after_append world a b)) y.stands_for;
    put = y.put
        ∙ (ap (λ o. o ++ put_out shows (output_of b)) x.put
        ∙ (append_assoc (printed old) (put_out shows (output_of a)) (put_out shows (output_of b))
        ∙ ap (λ t. printed old ++ t) (sym (ap (put_out shows) (output_append a b) ∙ both_put shows (output_of a) (output_of b)))));
    took = λ before h. subst has (append_assoc before (reply_texts a) (reply_texts b) ∙ ap (λ (t : List (List ℕ)). before ++ t) (sym (replies_append a b)))
        (y.took (before ++ reply_texts a) (x.took before h));
    untouched = λ start before u.
        subst (λ (vs : List Whole). Untouched start vs (last_world world (a ++ b)) now) (sym (worlds_append before world a b))
        (subst (λ (v : Whole). Untouched start (worlds_passed (worlds_passed before world a) (last_world world a) b) v now) (sym (after_append world a b))
        (y.untouched start (worlds_passed before world a) (x.untouched start before u)));
  }

module _ (step : Stepping Whole) (shows : Bool) (reads : List ℕ → Option Store) where
  -- Of all the items these are left, and those before them were answered.
  pub record Progress (world : Whole) (all : List Item) (Later : Whole → Type 0) (rest : List Item) (had has : List (List ℕ) → Type 0) (old now : Moment) (was is : ℕ → ℕ) : Type 0 where
    pub done : List Item
    pub split : all ≡ done ++ rest
    pub rows : List (Row Whole)
    pub run : IsRun step world done rows
    pub answered : Answered shows world Later rows had has old now
    pub threw : RowsThrew rows was is
    pub failed : RowsFailed rows was is
    pub acts : ActsInTime shows rows old now
    pub moments : (start : Moment) (before : List Whole) → Untouched start before world old → Always (SafeAt shows reads start before world done rows (printed old)) old now

  unfoldable pub progress_start : (world : Whole) (Now : Whole → Type 0) (all : List Item) (has : List (List ℕ) → Type 0) (now : Moment) (was : ℕ → ℕ) → Now world → AtRest reads world now → Progress world all Now all has has now now was was
  progress_start world Now all has now was means its = record {
    done = [];
    split = refl;
    rows = [];
    run = tt;
    answered = answered_none shows world Now has now means;
    threw = threw_none was was (λ unit. refl);
    failed = λ unit none. refl;
    acts = acts_start shows [] now;
    moments = λ start before u. here (safe_here shows reads start before world now (its start before u));
  }

  module _ (world : Whole) (all : List Item) (Later : Whole → Type 0) (rest : List Item) (had has : List (List ℕ) → Type 0) (old then : Moment) (was mid : ℕ → ℕ)
      (p : Progress world all Later rest had has old then was mid) (part more : List Item) (e : rest ≡ part ++ more) where
    -- the world that is stood for then
    abbrev pub then_world : Whole
    then_world = last_world world p.rows

    -- some of what is left is given
    abbrev given_part : Given step then_world part → Given step world all
    given_part r = record {
      first = p.done ++ r.first;
      rest = r.rest ++ more;
      split = p.split
          ∙ (ap (λ (i : List Item). p.done ++ i) (e ∙ (ap (λ (q : List Item). q ++ more) r.split ∙ append_assoc r.first r.rest more)) ∙ sym (append_assoc p.done r.first (r.rest ++ more)));
      rows = p.rows ++ r.rows;
      run = run_append step world p.done r.first p.rows r.rows p.run r.run;
    }

    -- and answered, whole or not
    lifted : (items : List Item) (rows : List (Row Whole)) (start : Moment) (before : List Whole) (m : Moment)
        → SafeAt shows reads start (worlds_passed before world p.rows) then_world items rows (printed then) m → SafeAt shows reads start before world (p.done ++ items) (p.rows ++ rows) (printed old) m
    lifted items rows start before m s =
        safe_laters shows reads start before world p.done p.rows items rows (printed old) m (run_length step world p.done p.rows p.run)
        (subst (λ (o : List ℕ). SafeAt shows reads start (worlds_passed before world p.rows) then_world items rows o m) p.answered.put s)

    pub progress_part : (items : List Item) (rows : List (Row Whole)) (now : Moment)
        → ((start : Moment) (before : List Whole) → Untouched start before then_world then → Always (SafeAt shows reads start before then_world items rows (printed then)) then now)
        → (start : Moment) (before : List Whole) → Untouched start before world old → Always (SafeAt shows reads start before world (p.done ++ items) (p.rows ++ rows) (printed old)) old now
    progress_part items rows now a start before u =
        Always-append (Always-map (λ m s. safe_more shows reads start before world p.done items p.rows rows (printed old) m s) (p.moments start before u))
        (Always-map (λ m s. lifted items rows start before m s) (a start (worlds_passed before world p.rows) (p.answered.untouched start before u)))

    -- all of that part was
    unfoldable pub progress_more : {T : Type 0} {x : T} (Next : Whole → Type 0) (has_more : List (List ℕ) → Type 0) (now : Moment) (is : ℕ → ℕ) → Ran step shows reads {T = T} (Ok x) then_world Next part has has_more then now mid is
        → Progress world all Next more had has_more old now was is
    progress_more Next has_more now is r =
        let g = given_part r.given in
        record {
          done = g.first;
          split = g.split ∙ ap (λ (i : List Item). g.first ++ (i ++ more)) r.done.0;
          rows = g.rows;
          run = g.run;
          answered = answered_both shows world Later Next p.rows r.given.rows had has has_more old then now p.answered r.done.1;
          threw = threw_both p.rows r.given.rows was mid is p.threw r.threw;
          failed = failed_both p.rows r.given.rows was mid is p.failed r.failed;
          acts = acts_both shows p.rows r.given.rows old then now p.answered.put p.acts r.acts;
          moments = progress_part r.given.first r.given.rows now r.moments;
        }

    -- the run is halted in it
    module _ (yes : IsTrue shows) (rows : List (Row Whole)) (now : List ℕ) where
      put_is : printed then ≡ printed old ++ output_of p.rows
      put_is = subst (λ (b : Bool). printed then ≡ printed old ++ put_out b (output_of p.rows)) yes p.answered.put

      some_later : WroteSome (output_of rows) (printed then) now → WroteSome (output_of (p.rows ++ rows)) (printed old) now
      some_later some =
          wrote_some (output_of (p.rows ++ rows)) (output_of rows) (printed old) (printed then) now
          (record { done = output_of p.rows; split = output_append p.rows rows; out = put_is }) some

      pub halted_later : (halt : Halt) → HaltedIn halt rows (printed then) now → HaltedIn halt (p.rows ++ rows) (printed old) now
      halted_later Memory some = some_later some
      halted_later Sink some = some_later some
      halted_later Source some = some
      halted_later TooLong some = some

    unfoldable pub ran_halted : {T U : Type 0} (halt : Halt) (Next Last : Whole → Type 0) (has_part has_more : List (List ℕ) → Type 0) (now : Moment) (is : ℕ → ℕ)
        → Ran step shows reads {T = U} (Err halt) then_world Next part has has_part then now mid is → Ran step shows reads {T = T} (Err halt) world Last all had has_more old now was is
    ran_halted halt Next Last has_part has_more now is r = record {
      given = given_part r.given;
      done = tt;
      halted = λ yes. halted_later yes r.given.rows (printed now) halt (r.halted yes);
      threw = threw_both p.rows r.given.rows was mid is p.threw r.threw;
      failed = failed_both p.rows r.given.rows was mid is p.failed r.failed;
      acts = acts_both shows p.rows r.given.rows old then now p.answered.put p.acts r.acts;
      moments = progress_part r.given.first r.given.rows now r.moments;
    }

    pub ran_part : {T U : Type 0} (result : Result T Halt) (halt : Halt) (Next Last : Whole → Type 0) (has_part has_more : List (List ℕ) → Type 0) (now : Moment) (is : ℕ → ℕ) → result ≡ Err halt
        → Ran step shows reads {T = U} (Err halt) then_world Next part has has_part then now mid is → Ran step shows reads result world Last all had has_more old now was is
    ran_part {T} {U} result halt Next Last has_part has_more now is ends r =
        subst (λ (v : Result T Halt). Ran step shows reads v world Last all had has_more old now was is) (sym ends) (ran_halted {T = T} {U = U} halt Next Last has_part has_more now is r)

  module _ (world : Whole) (all : List Item) (Later : Whole → Type 0) (rest : List Item) (had has : List (List ℕ) → Type 0) (old now : Moment) (was is : ℕ → ℕ)
      (p : Progress world all Later rest had has old now was is) where
    -- the items before what is left were given
    abbrev given_done : Given step world all
    given_done = record { first = p.done; rest = rest; split = p.split; rows = p.rows; run = p.run }

    -- memory was refused before more was
    pub ran_memory : {T : Type 0} (Last : Whole → Type 0) (has_more : List (List ℕ) → Type 0) → Ran step shows reads {T = T} (Err Memory) world Last all had has_more old now was is
    ran_memory Last has_more = record { given = given_done; done = tt; halted = λ told. all_put told; threw = p.threw; failed = p.failed; acts = p.acts; moments = p.moments }
      where
        all_put : IsTrue shows → WroteSome (output_of p.rows) (printed old) (printed now)
        all_put told = (
          [],
          record {
            done = output_of p.rows;
            split = sym (append-nil (output_of p.rows));
            out = subst (λ (b : Bool). printed now ≡ printed old ++ put_out b (output_of p.rows)) told p.answered.put;
          },
        )

    -- all of them were
    unfoldable pub ran_all : {T : Type 0} (x : T) → rest ≡ [] → Ran step shows reads {T = T} (Ok x) world Later all had has old now was is
    ran_all x none = record { given = given_done; done = (none, p.answered); halted = λ yes. tt; threw = p.threw; failed = p.failed; acts = p.acts; moments = p.moments }

  -- no item was given
  pub ran_none : {T : Type 0} (x : T) (world : Whole) (Now : Whole → Type 0) (items : List Item) (has : List (List ℕ) → Type 0) (now : Moment) (was : ℕ → ℕ) → Now world → AtRest reads world now → items ≡ []
      → Ran step shows reads {T = T} (Ok x) world Now items has has now now was was
  ran_none x world Now items has now was means its none = ran_all world items Now items has has now now was was (progress_start world Now items has now was means its) x none

  -- memory was refused, and nothing was done
  pub ran_nothing : {T : Type 0} (world : Whole) (Now : Whole → Type 0) (items : List Item) (has : List (List ℕ) → Type 0) (now : Moment) (was : ℕ → ℕ) → Now world → AtRest reads world now
      → Ran step shows reads {T = T} (Err Memory) world Now items has has now now was was
  ran_nothing world Now items has now was means its = ran_memory world items Now items has has now now was was (progress_start world Now items has now was means its) Now has

  -- the last of them were, or the run was halted in them
  pub ran_last : {T : Type 0} (result : Result T Halt) (world : Whole) (all : List Item) (Later : Whole → Type 0) (rest : List Item) (had half : List (List ℕ) → Type 0) (old then : Moment) (was mid : ℕ → ℕ)
      → (p : Progress world all Later rest had half old then was mid) → (part : List Item) → rest ≡ part ++ [] → (Next : Whole → Type 0) (has : List (List ℕ) → Type 0) (now : Moment) (is : ℕ → ℕ)
      → Ran step shows reads result (last_world world p.rows) Next part half has then now mid is → Ran step shows reads result world Next all had has old now was is
  ran_last (Ok x) world all Later rest had half old then was mid p part e Next has now is r =
      ran_all world all Next [] had has old now was is (progress_more world all Later rest had half old then was mid p part [] e Next has now is r) x refl
  ran_last {T} (Err halt) world all Later rest had half old then was mid p part e Next has now is r =
      ran_halted world all Later rest had half old then was mid p part [] e {T = T} {U = T} halt Next Next has has now is r

  -- the same items under another name
  pub ran_as : {T U : Type 0} (x : T) (y : U) (world : Whole) (Next : Whole → Type 0) (items same : List Item) (had has : List (List ℕ) → Type 0) (old now : Moment) (was is : ℕ → ℕ) → same ≡ items
      → Ran step shows reads {T = U} (Ok y) world Next items had has old now was is → Ran step shows reads {T = T} (Ok x) world Next same had has old now was is
  ran_as {T} x y world Next items same had has old now was is e r =
      subst (λ (i : List Item). Ran step shows reads {T = T} (Ok x) world Next i had has old now was is) (sym e) (record { given = r.given; done = r.done; halted = λ yes. tt; threw = r.threw; failed = r.failed; acts = r.acts; moments = r.moments })

  pub ran_failed : {T U : Type 0} (result : Result T Halt) (halt : Halt) (world : Whole) (Next : Whole → Type 0) (items same : List Item) (had has : List (List ℕ) → Type 0) (old now : Moment) (was is : ℕ → ℕ) → result ≡ Err halt
      → same ≡ items → Ran step shows reads {T = U} (Err halt) world Next items had has old now was is → Ran step shows reads result world Next same had has old now was is
  ran_failed {T} result halt world Next items same had has old now was is ends e r =
      subst (λ (v : Result T Halt). Ran step shows reads v world Next same had has old now was is) (sym ends)
      (subst (λ (i : List Item). Ran step shows reads {T = T} (Err halt) world Next i had has old now was is) (sym e) (record { given = r.given; done = tt; halted = r.halted; threw = r.threw; failed = r.failed; acts = r.acts; moments = r.moments }))
