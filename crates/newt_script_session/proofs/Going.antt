-- A script that comes piece by piece, and is answered so far.
use Rattle.std.proofs.Common.{◌≡◌, inl, inr, ℕ, true, false, Option, Result, Ok, Err, OnOk, IfErr, ◌+◌, ◌-◌, ◌<◌, ◌≤◌, List, [], ◌∷◌, ◌++◌, length, take, refl, sym, ◌∙◌, ap, subst, append_assoc, arith}
use Rattle.std.proofs.lemmas.List.{append-nil, take_at, length-append}
use Rattle.std.proofs.lemmas.Result.{on_ok_weaker}
use Rattle.std.proofs.Math.Seq.{take-append-add}
use Rattle.newt_host.specs.Meanings.{out_of}
use Rattle.newt_host.specs.Moments.{Moment, Always, here, later as later_moment, Took, taken as taken_by, output as printed}
use Rattle.newt_host.specs.Outside.{Outside}
use Rattle.newt_host.proofs.Moments.{Always-last}
use Rattle.newt_spec_script.specs.Script.{Item}
use Rattle.newt_spec_store.specs.Store.{Store}
use Rattle.newt_spec_whole.specs.Whole.{Whole}
use Rattle.newt_script_session.specs.Answered.{Answered, Given, Ran}
use Rattle.newt_script_session.specs.Lines.{ended_lines, unended, last_line, lines_of}
use Rattle.newt_script_session.specs.Moments.{SafeAt, Untouched}
use Rattle.newt_script_session.specs.Reading.{ActsInTime, ReadsInTime, start as takes_start}
use Rattle.newt_spec_script.specs.Rows.{IsRun, output_of, Row, Stepping, last_world}
use Rattle.newt_script_session.specs.Run.{AnsweredTaken, Halted, HaltedIn, IsReadThrough, IsTooLong}
use Rattle.newt_script_session.specs.Script.{has_quit, commands_of, ended_items, quits, script_items}
use Rattle.newt_script_session.specs.Session.{Session}
use Rattle.newt_laws_steps.specs.Thrown.{RowsFailed, RowsThrew}
use Rattle.newt_script_session.specs.declared.halt.Halt.{Halt}
use Rattle.newt_script_session.specs.declared.halt.Halt.TheVariants.{Memory, Source, Sink, TooLong}
use Rattle.newt_script_session.proofs.Acting.{acts_start, acts_took}
use Rattle.newt_script_session.proofs.Crashing.{AtRest, crash_always, safe_here}
use Rattle.newt_script_session.proofs.Cutting.{cut_append, left_append}
use Rattle.newt_script_session.proofs.Feeding.{lines_from}
use Rattle.newt_script_session.proofs.Progress.{Progress, answered_none, progress_more, ran_all, ran_halted}
use Rattle.newt_script_session.proofs.Reading.{only_append, only_map, only_none, takes_more}
use Rattle.newt_script_session.proofs.Replying.{commands_go, commands_none, commands_some, commands_stop, quit_go, quit_none, quit_stop}
use Rattle.newt_script_session.proofs.Spelling.{script_items_are}
use Rattle.newt_script_session.proofs.Throwing.{failed_same, threw_none, threw_same}

lines_append : (begun p r : List ℕ) → lines_from begun (p ++ r) ≡ ended_lines begun p ++ lines_from (unended begun p) r
lines_append begun p r =
    ap (λ e. e ++ last_line (unended begun (p ++ r))) (cut_append begun p r)
    ∙ (ap (λ u. (ended_lines begun p ++ ended_lines (unended begun p) r) ++ last_line u) (left_append begun p r)
    ∙ append_assoc (ended_lines begun p) (ended_lines (unended begun p) r) (last_line (unended (unended begun p) r)))

-- the lines of what is left, where a piece of it comes next, and where nothing does
lines_piece : (line left piece rest : List ℕ) → left ≡ piece ++ rest → lines_from line left ≡ ended_lines line piece ++ lines_from (unended line piece) rest
lines_piece line left piece rest e = ap (lines_from line) e ∙ lines_append line piece rest

lines_end : (line left : List ℕ) → left ≡ [] → lines_from line left ≡ last_line line
unfolding ended_lines unended
lines_end line left e = ap (lines_from line) e

-- the commands of what is left
pub piece_then_some : (line left piece rest : List ℕ) → left ≡ piece ++ rest → (later : List Item) × (commands_of (lines_from line left) ≡ commands_of (ended_lines line piece) ++ later)
piece_then_some line left piece rest e =
    let some = commands_some (ended_lines line piece) (lines_from (unended line piece) rest) in
    (some.0, ap commands_of (lines_piece line left piece rest e) ∙ some.1)

pub piece_then_none : (line left piece rest : List ℕ) → left ≡ piece ++ rest → has_quit (ended_lines line piece) ≡ true → commands_of (lines_from line left) ≡ commands_of (ended_lines line piece) ++ []
piece_then_none line left piece rest e stop =
    ap commands_of (lines_piece line left piece rest e)
    ∙ (commands_stop (ended_lines line piece) (lines_from (unended line piece) rest) stop ∙ sym (append-nil (commands_of (ended_lines line piece))))

pub last_commands : (line left lent : List ℕ) → left ≡ [] → lent ≡ line → commands_of (lines_from line left) ≡ commands_of (last_line lent) ++ []
last_commands line left lent e is = ap commands_of (lines_end line left e ∙ ap last_line (sym is)) ∙ sym (append-nil (commands_of (last_line lent)))

taken_lines : (taken piece line : List ℕ) → line ≡ unended [] taken → ended_lines [] (taken ++ piece) ≡ ended_lines [] taken ++ ended_lines line piece
taken_lines taken piece line e = cut_append [] taken piece ∙ ap (λ l. ended_lines [] taken ++ ended_lines l piece) (sym e)

quits_later : (taken rest : List ℕ) (limit : ℕ) → quits taken ≡ true → length taken ≤ limit → quits (take limit (taken ++ rest)) ≡ true
quits_later taken rest limit stop size =
    let n = limit - length taken in
    let e : limit ≡ length taken + n = omega arith in
    ap (λ m. quits (take m (taken ++ rest))) e
    ∙ (ap quits (take-append-add taken rest n)
    ∙ (ap has_quit (cut_append [] taken (take n rest)) ∙ quit_stop (ended_lines [] taken) (ended_lines (unended [] taken) (take n rest)) stop))

-- the input is read in time for a run that goes on
pub in_time_more : (step : Stepping Whole) (world : Whole) (rows part : List (Row Whole)) (old now : Moment) → ReadsInTime step world rows old now → ReadsInTime step world (rows ++ part) old now
in_time_more step world rows part old now r = only_map (λ m s. record {
  bytes = s.bytes;
  since = s.since;
  first = s.first;
  more = s.more ++ part;
  split = ap (λ (rs : List (Row Whole)). rs ++ part) s.split ∙ append_assoc s.first s.more part;
  run = s.run;
  out = s.out;
  no_quit = s.no_quit;
}) r

-- So far these bytes were taken, all lines that ended in them were answered, and none quits.
pub record Going (step : Stepping Whole) (reads : List ℕ → Option Store) (world : Whole) (script taken left : List ℕ) (Later : Whole → Type 0) (line : List ℕ) (had has : List (List ℕ) → Type 0) (old now : Moment) (was is : ℕ → ℕ) : Type 0 where
  pub whole : script ≡ taken ++ left
  pub line_is : line ≡ unended [] taken
  pub go : quits taken ≡ false
  pub rows : List (Row Whole)
  pub run : IsRun step world (ended_items taken) rows
  pub answered : Answered true world Later rows had has old now
  pub threw : RowsThrew rows was is
  pub failed : RowsFailed rows was is
  pub in_time : ReadsInTime step world rows old now
  pub acts : ActsInTime true rows old now
  pub moments : (start : Moment) (before : List Whole) → Untouched start before world old → Always (SafeAt true reads start before world (ended_items taken) rows (printed old)) old now

module _ (step : Stepping Whole) (reads : List ℕ → Option Store) where
  -- nothing was taken yet
  pub going_start : (world : Whole) (Now : Whole → Type 0) (script line : List ℕ) (has : List (List ℕ) → Type 0) (now : Moment) (was : ℕ → ℕ) → Now world → AtRest reads world now → line ≡ [] → Going step reads world script [] script Now line has has now now was was
  unfolding ended_lines unended
  going_start world Now script line has now was means its empty = record {
    whole = refl;
    line_is = empty;
    go = quit_none;
    rows = [];
    run = subst (λ (is : List Item). IsRun step world is []) (sym commands_none) tt;
    answered = answered_none true world Now has now means;
    threw = threw_none was was (λ unit. refl);
    failed = λ unit none. refl;
    in_time = takes_start;
    acts = acts_start true [] now;
    moments = λ start before u. subst (λ (i : List Item). Always (SafeAt true reads start before world i [] (printed now)) now now) (sym commands_none) (here (safe_here true reads start before world now (its start before u)));
  }

  -- the same moment, where the same worlds are stood for
  pub going_moved : (world : Whole) (script taken left : List ℕ) (Later Same : Whole → Type 0) (line : List ℕ) (had has : List (List ℕ) → Type 0) (old then now : Moment) (was mid is : ℕ → ℕ) → now ≡ then
      → ((v : Whole) → Later v → Same v) → ((unit : ℕ) → is unit ≡ mid unit) → Going step reads world script taken left Later line had has old then was mid
      → Going step reads world script taken left Same line had has old now was is
  going_moved world script taken left Later Same line had has old then now was mid is e f counts g =
      let a = g.answered in
      subst (λ (m : Moment). Going step reads world script taken left Same line had has old m was is) (sym e) (record {
        whole = g.whole;
        line_is = g.line_is;
        go = g.go;
        rows = g.rows;
        run = g.run;
        answered = record { stands_for = f (last_world world g.rows) a.stands_for; put = a.put; took = a.took; untouched = a.untouched };
        threw = threw_same g.rows was mid is counts g.threw;
        failed = failed_same g.rows was mid is counts g.failed;
        in_time = g.in_time;
        acts = g.acts;
        moments = g.moments;
      })

  safe_took : (start : Moment) (before : List Whole) (world : Whole) (items : List Item) (rows : List (Row Whole)) (old : List ℕ) (bytes : List ℕ) (then : Moment) → SafeAt true reads start before world items rows old then
      → SafeAt true reads start before world items rows old (Took bytes ∷ then)
  safe_took start before world items rows old bytes then s = record { shown = s.shown; out = s.out; safe = s.safe }

  -- bytes were read
  pub going_took : (world : Whole) (script taken left : List ℕ) (Next Same : Whole → Type 0) (line : List ℕ) (had has : List (List ℕ) → Type 0) (old then : Moment) (bytes : List ℕ) (now : Moment) (was mid is : ℕ → ℕ)
      → now ≡ Took bytes ∷ then → ((v : Whole) → Next v → Same v) → ((unit : ℕ) → is unit ≡ mid unit) → taken_by then ≡ taken_by old ++ taken
      → Going step reads world script taken left Next line had has old then was mid → Going step reads world script taken left Same line had has old now was is
  going_took world script taken left Next Same line had has old then bytes now was mid is e f counts since g =
      let a = g.answered in
      subst (λ (m : Moment). Going step reads world script taken left Same line had has old m was is) (sym e) (record {
        whole = g.whole;
        line_is = g.line_is;
        go = g.go;
        rows = g.rows;
        run = g.run;
        answered = record { stands_for = f (last_world world g.rows) a.stands_for; put = a.put; took = a.took; untouched = a.untouched };
        threw = threw_same g.rows was mid is counts g.threw;
        failed = failed_same g.rows was mid is counts g.failed;
        in_time = takes_more bytes g.in_time (record {
          bytes = taken;
          since = since;
          first = g.rows;
          more = [];
          split = sym (append-nil g.rows);
          run = g.run;
          out = a.put;
          no_quit = g.go;
        });
        acts = acts_took true g.rows bytes old then g.acts;
        moments = λ start before u. let so_far = g.moments start before u in
            later_moment (Took bytes) then so_far (safe_took start before world (ended_items taken) g.rows (printed old) bytes then (Always-last so_far));
      })

  module _ (world : Whole) (script taken left : List ℕ) (Later : Whole → Type 0) (line : List ℕ) (had has : List (List ℕ) → Type 0) (old then : Moment) (was mid : ℕ → ℕ)
      (g : Going step reads world script taken left Later line had has old then was mid) where
    -- the world that is stood for then
    abbrev pub then_world : Whole
    then_world = last_world world g.rows

    -- the items of the script are those of the lines that ended, and those of what is left
    pub items_left : script_items script ≡ ended_items taken ++ commands_of (lines_from line left)
    items_left =
        sym (script_items_are script)
        ∙ (ap commands_of (ap lines_of g.whole ∙ (lines_append [] taken left ∙ ap (λ l. ended_lines [] taken ++ lines_from l left) (sym g.line_is)))
        ∙ commands_go (ended_lines [] taken) (lines_from line left) g.go)

    -- which are still to be answered
    abbrev pub going_progress : Progress step true reads world (script_items script) Later (commands_of (lines_from line left)) had has old then was mid
    going_progress = record { done = ended_items taken; split = items_left; rows = g.rows; run = g.run; answered = g.answered; threw = g.threw; failed = g.failed; acts = g.acts; moments = g.moments }

    -- so far no more has been given
    abbrev pub going_given : Given step world (script_items script)
    going_given = record { first = ended_items taken; rest = commands_of (lines_from line left); split = items_left; rows = g.rows; run = g.run }

    -- a piece more was answered
    pub going_more : {T : Type 0} {x : T} (piece rest : List ℕ) (Next : Whole → Type 0) (begun : List ℕ) (more : List (List ℕ) → Type 0) (now : Moment) (is : ℕ → ℕ) → Always (λ m. taken_by m ≡ taken_by then) then now
        → left ≡ piece ++ rest → has_quit (ended_lines line piece) ≡ false → begun ≡ unended line piece → Ran step true reads {T = T} (Ok x) then_world Next (commands_of (ended_lines line piece)) has more then now mid is
        → Going step reads world script (taken ++ piece) rest Next begun had more old now was is
    unfolding progress_more
    going_more piece rest Next begun more now is unread split go begun_is r =
        let p : Progress step true reads world (ended_items taken ++ commands_of (ended_lines line piece)) Later (commands_of (ended_lines line piece)) had has old then was mid =
        record { done = ended_items taken; split = refl; rows = g.rows; run = g.run; answered = g.answered; threw = g.threw; failed = g.failed; acts = g.acts; moments = g.moments } in
        let q = progress_more step true reads world (ended_items taken ++ commands_of (ended_lines line piece)) Later (commands_of (ended_lines line piece)) had has old then was mid p
        (commands_of (ended_lines line piece)) [] (sym (append-nil (commands_of (ended_lines line piece)))) Next more now is r in
        let items_are : q.done ≡ ended_items (taken ++ piece) =
        sym (append-nil q.done) ∙ (sym q.split ∙ sym (ap commands_of (taken_lines taken piece line g.line_is) ∙ commands_go (ended_lines [] taken) (ended_lines line piece) g.go)) in
        record {
          whole = g.whole ∙ (ap (λ t. taken ++ t) split ∙ sym (append_assoc taken piece rest));
          line_is = begun_is ∙ (ap (λ l. unended l piece) g.line_is ∙ sym (left_append [] taken piece));
          go = ap has_quit (taken_lines taken piece line g.line_is) ∙ (quit_go (ended_lines [] taken) (ended_lines line piece) g.go ∙ go);
          rows = q.rows;
          run = subst (λ (i : List Item). IsRun step world i q.rows) items_are q.run;
          answered = q.answered;
          threw = q.threw;
          failed = q.failed;
          in_time = only_append (in_time_more step world g.rows r.given.rows old then g.in_time) (only_none unread);
          acts = q.acts;
          moments = λ start before u. subst (λ (i : List Item). Always (SafeAt true reads start before world i q.rows (printed old)) old now) items_are (q.moments start before u);
        }

    -- more bytes come than are read
    pub going_too_long : (piece rest : List ℕ) (limit : ℕ) → length taken ≡ limit → left ≡ piece ++ rest → 0 < length piece
        → IsTooLong limit script × (ended_items taken ≡ ended_items (take limit script)) × (printed then ≡ printed old ++ output_of g.rows)
    going_too_long piece rest limit size split some =
        let cut : take limit script ≡ taken = ap (λ t. take limit t) g.whole ∙ take_at taken left limit size in
        let sizes : length script ≡ length taken + (length piece + length rest) =
        ap length g.whole ∙ (length-append taken left ∙ ap (λ n. length taken + n) (ap length split ∙ length-append piece rest)) in
        (record { long = omega arith; no_quit = ap quits cut ∙ g.go }, ap ended_items (sym cut), g.answered.put)

    -- the script has ended
    pub through_end : (rest : List ℕ) (limit : ℕ) → length taken ≤ limit → left ≡ [] → rest ≡ [] → IsReadThrough limit script rest
    through_end rest limit size end none = record {
      taken = taken;
      split = g.whole ∙ ap (λ r. taken ++ r) (end ∙ sym none);
      ends = inl none;
      not_too_long = λ long.
          let sizes : length script ≡ length taken = ap length (g.whole ∙ (ap (λ r. taken ++ r) end ∙ append-nil taken)) in
          let more : limit < length script = long.long in
          absurd (omega arith);
    }

    -- a line quits
    pub through_quit : (piece rest : List ℕ) (limit : ℕ) → left ≡ piece ++ rest → has_quit (ended_lines line piece) ≡ true → length taken + length piece ≤ limit → IsReadThrough limit script rest
    through_quit piece rest limit split stop size =
        let whole : script ≡ (taken ++ piece) ++ rest = g.whole ∙ (ap (λ t. taken ++ t) split ∙ sym (append_assoc taken piece rest)) in
        let there : quits (taken ++ piece) ≡ true = ap has_quit (taken_lines taken piece line g.line_is) ∙ (quit_go (ended_lines [] taken) (ended_lines line piece) g.go ∙ stop) in
        let sizes : length (taken ++ piece) ≡ length taken + length piece = length-append taken piece in
        record {
          taken = taken ++ piece;
          split = whole;
          ends = inr there;
          not_too_long = λ long.
              let fits : length (taken ++ piece) ≤ limit = omega arith in
              let yes : quits (take limit script) ≡ true = ap (λ t. quits (take limit t)) whole ∙ quits_later (taken ++ piece) rest limit there fits in
              let no : quits (take limit script) ≡ false = long.no_quit in
              cc;
        }

    -- the output is that of the bytes taken
    pub answered_taken : (rest : List ℕ) → rest ≡ left → AnsweredTaken (ended_items taken) g.rows script rest (printed old) (printed then)
    answered_taken rest same = record { taken = taken; split = g.whole ∙ ap (λ r. taken ++ r) (sym same); items_are = refl; out = g.answered.put }

-- ---- what is said of the whole

halted_ran : (limit : ℕ) (halt : Halt) (items : List Item) (rows : List (Row Whole)) (script left old now : List ℕ) → HaltedIn halt rows old now → Halted limit halt items rows script left old now
halted_ran limit Memory items rows script left old now some = some
halted_ran limit Sink items rows script left old now some = some
halted_ran limit Source items rows script left old now some = absurd some
halted_ran limit TooLong items rows script left old now some = absurd some

module _ {T : Type 0} (step : Stepping Whole) (reads : List ℕ → Option Store) (limit : ℕ) (result : Result T Halt) (world : Whole) (old new : Outside) where
  -- all of the script was answered, or the run was halted in it
  pub session_ran : (Next : Whole → Type 0) (had has : List (List ℕ) → Type 0) → (r : Ran step true reads result world Next (script_items old.input) had has old.now new.now old.dev_faults new.dev_faults)
      → OnOk result (IsReadThrough limit old.input new.input) → ReadsInTime step world r.given.rows old.now new.now → Session step reads limit result world old new
  session_ran Next had has r read in_time = record {
    played = record {
      given = r.given;
      out = on_ok_weaker result (λ d. (d.0, d.1.put)) r.done;
      read = read;
      halted = lines result (r.halted refl);
      in_time = in_time;
      acts = r.acts;
      threw = r.threw;
      failed = r.failed;
    };
    crash = crash_always reads old.now world r.given.first r.given.rows old.now new.now (r.moments old.now [] (λ unit left f blank may. may));
  }
    where
      lines : (v : Result T Halt) → IfErr v (λ halt. HaltedIn halt r.given.rows (printed old.now) (printed new.now))
          → IfErr v (λ halt. Halted limit halt r.given.first r.given.rows old.input new.input (out_of old) (out_of new))
      lines (Ok x) some = tt
      lines (Err halt) some = halted_ran limit halt r.given.first r.given.rows old.input new.input (out_of old) (out_of new) some

  -- the run was halted between two lines
  pub session_halted : (taken left : List ℕ) (Later : Whole → Type 0) (line : List ℕ) (had has : List (List ℕ) → Type 0) (g : Going step reads world old.input taken left Later line had has old.now new.now old.dev_faults new.dev_faults) (halt : Halt)
      → result ≡ Err halt → Halted limit halt (ended_items taken) g.rows old.input new.input (out_of old) (out_of new) → Session step reads limit result world old new
  session_halted taken left Later line had has g halt is some =
      subst (λ (v : Result T Halt). Session step reads limit v world old new) (sym is) (record {
        played = record {
          given = going_given step reads world old.input taken left Later line had has old.now new.now old.dev_faults new.dev_faults g;
          out = tt;
          read = tt;
          halted = some;
          in_time = g.in_time;
          acts = g.acts;
          threw = g.threw;
          failed = g.failed;
        };
        crash = crash_always reads old.now world (ended_items taken) g.rows old.now new.now (g.moments old.now [] (λ unit left f blank may. may));
      })

module _ (step : Stepping Whole) (reads : List ℕ → Option Store) (limit : ℕ) (world : Whole) (old new : Outside) (taken left : List ℕ) (Later : Whole → Type 0) (line : List ℕ) (had half : List (List ℕ) → Type 0)
    (then : Moment) (mid : ℕ → ℕ) (g : Going step reads world old.input taken left Later line had half old.now then old.dev_faults mid) (part more : List Item) (e : commands_of (lines_from line left) ≡ part ++ more)
    (Next : Whole → Type 0) (has : List (List ℕ) → Type 0) (unread : Always (λ m. taken_by m ≡ taken_by then) then new.now) where
  abbrev so_far : Progress step true reads world (script_items old.input) Later (commands_of (lines_from line left)) had half old.now then old.dev_faults mid
  so_far = going_progress step reads world old.input taken left Later line had half old.now then old.dev_faults mid g

  in_time : (rows : List (Row Whole)) → ReadsInTime step world (g.rows ++ rows) old.now new.now
  in_time rows = only_append (in_time_more step world g.rows rows old.now then g.in_time) (only_none unread)

  -- the run was halted in the items that came next
  pub session_part : {T U : Type 0} (result : Result T Halt) (halt : Halt) → result ≡ Err halt → Ran step true reads {T = U} (Err halt) (last_world world g.rows) Next part half has then new.now mid new.dev_faults
      → Session step reads limit result world old new
  unfolding ran_halted
  session_part {T} {U} result halt is r =
      subst (λ (v : Result T Halt). Session step reads limit v world old new) (sym is)
      (session_ran {T = T} step reads limit (Err halt) world old new Next had has
      (ran_halted step true reads world (script_items old.input) Later (commands_of (lines_from line left)) had half old.now then old.dev_faults mid so_far part more e {T = T} {U = U} halt Next Next has has new.now new.dev_faults r)
      tt (in_time r.given.rows))

  -- they were answered, and they were the last
  pub session_whole : {T U : Type 0} {x : T} {y : U} → more ≡ [] → Ran step true reads {T = U} (Ok y) (last_world world g.rows) Next part half has then new.now mid new.dev_faults → IsReadThrough limit old.input new.input
      → Session {T = T} step reads limit (Ok x) world old new
  unfolding progress_more ran_all
  session_whole {T} {U} {x} none r read =
      session_ran {T = T} step reads limit (Ok x) world old new Next had has
      (ran_all step true reads world (script_items old.input) Next more had has old.now new.now old.dev_faults new.dev_faults
      (progress_more step true reads world (script_items old.input) Later (commands_of (lines_from line left)) had half old.now then old.dev_faults mid so_far part more e Next has new.now new.dev_faults r) x none)
      read (in_time r.given.rows)

  pub session_last : {T : Type 0} (result : Result T Halt) → more ≡ [] → Ran step true reads result (last_world world g.rows) Next part half has then new.now mid new.dev_faults → OnOk result (IsReadThrough limit old.input new.input)
      → Session step reads limit result world old new
  session_last (Ok x) none r read = session_whole none r read
  session_last (Err halt) none r read = session_part (Err halt) halt refl r
