-- A script whose replies are counted, and its summary.
use Rattle.std.proofs.Common.{◌≡◌, ℕ, suc, ◌+◌, ◌<◌, ◌≤◌, ◌^◌, true, false, cond, eqb, Option, Some, None, Result, Ok, Err, OnErr, IfErr, List, [], ◌∷◌, ◌++◌, length, refl, sym, ◌∙◌, ap, subst, append-nil, arith}
use Rattle.std.specs.Prelude.{drop}
use Rattle.std.proofs.lemmas.List.{length-append, length-map, take_at}
use Rattle.std.proofs.lemmas.Result.{on_ok_weaker}
use Rattle.newt_host.specs.Meanings.{out_of}
use Rattle.newt_host.specs.Moments.{Moment, Always, MayLeave, output as printed}
use Rattle.newt_host.specs.Outside.{Outside, PrintsSome}
use Rattle.newt_host.proofs.Moments.{Always-append, Always-last, Always-map}
use Rattle.newt_host.proofs.Printing.{output-printed}
use Rattle.newt_script.specs.Lines.{line_command}
use Rattle.newt_script.specs.declared.fault.LineFault.{LineFault}
use Rattle.newt_script.specs.declared.fault.LineFault.TheVariants.{Refused, Memory as NoMemory}
use Rattle.newt_spec_script.specs.Script.{Item, is_quit, up_to_quit}
use Rattle.newt_spec_store.specs.Store.{Store}
use Rattle.newt_spec_world.specs.declared.command.Command.{Command}
use Rattle.newt_spec_world.specs.Reply.{reply_text}
use Rattle.newt_spec_whole.specs.Whole.{Whole}
use Rattle.newt_script_session.specs.Answered.{Ran}
use Rattle.newt_script_session.specs.Causes.{HasSinkCause}
use Rattle.newt_script_session.specs.Counted.{CountedRun, CountedAt}
use Rattle.newt_script_session.specs.Counts.{Tallies, lines_of_tally, summary_of}
use Rattle.newt_script_session.specs.Lines.{ended_lines, unended, last_line, lines_of}
use Rattle.newt_script_session.specs.Moments.{BlankThrough, Fresh, worlds_passed}
use Rattle.newt_spec_script.specs.Rows.{IsRun, reply_texts, Row, Stepping, world_at, last_world}
use Rattle.newt_script_session.specs.Script.{commands_of, given, items_of, script_items}
use Rattle.newt_script_session.specs.Stream.{PutsText, WroteSome}
use Rattle.newt_script_session.specs.declared.halt.Halt.{Halt}
use Rattle.newt_script_session.specs.declared.tally.Tally.{Tally}
use Rattle.newt_script_session.proofs.Acting.{acts_printing}
use Rattle.newt_script_session.proofs.Crashing.{AtRest, counted_always, fresh_through, its_at, left_same, prints_changes}
use Rattle.newt_script_session.proofs.Halting.{halted_quiet, halted_writing}
use Rattle.newt_script_session.proofs.Rows.{run_length}
use Rattle.newt_script_session.proofs.Spelling.{script_items_are}
use Rattle.newt_script_session.proofs.Texts.{tally_summary}
use Rattle.newt_script_session.proofs.Throwing.{failed_same, threw_same}

-- ---- a script has no more replies than bytes

fewer_up_to : (items : List Item) → length (up_to_quit items) ≤ length items
fewer_up_to [] = omega arith
fewer_up_to (item ∷ items) =
    let later = fewer_up_to items in
    elim (is_quit item) as (λ v. length (elim v as (λ _. List Item) [ true ↦ item ∷ [] | false ↦ item ∷ up_to_quit items ]) ≤ suc (length items)) [
      | true ↦ omega arith
      | false ↦ omega (arith, later)
    ]

one_given : (r : Result (Option Command) LineFault) → length (given r) ≤ 1
one_given (Ok None) = omega arith
one_given (Ok (Some command)) = omega arith
one_given (Err (Refused refusal)) = omega arith
one_given (Err NoMemory) = omega arith

fewer_items : (lines : List (List ℕ)) → length (items_of lines) ≤ length lines
fewer_items [] = omega arith
fewer_items (line ∷ lines) = omega (arith, fewer_items lines, one_given (line_command line), length-append (given (line_command line)) (items_of lines))

fewer_commands : (lines : List (List ℕ)) → length (commands_of lines) ≤ length lines
unfolding commands_of
fewer_commands lines = omega (arith, fewer_up_to (items_of lines), fewer_items lines)

-- so many lines end in a text, and so many bytes are left begun
fewer_lines : (begun text : List ℕ) → length (ended_lines begun text) + length (unended begun text) ≤ length begun + length text
unfolding ended_lines unended
fewer_lines begun [] = omega arith
fewer_lines begun (b ∷ text) =
    let ended = fewer_lines [] text in
    let going = fewer_lines (begun ++ b ∷ []) text in
    let size = length-append begun (b ∷ []) in
    elim (eqb b 10) as (λ v. length (cond v (begun ∷ ended_lines [] text) (ended_lines (begun ++ b ∷ []) text)) + length (cond v (unended [] text) (unended (begun ++ b ∷ []) text)) ≤ length begun + suc (length text)) [
      | true ↦ omega (arith, ended)
      | false ↦ omega (arith, going, size)
    ]

few_last : (line : List ℕ) → length (last_line line) ≤ length line
unfolding last_line
few_last [] = omega arith
few_last (b ∷ line) = omega arith

few_replies : (step : Stepping Whole) (world : Whole) (script : List ℕ) (rows : List (Row Whole)) → IsRun step world (script_items script) rows → length (reply_texts rows) ≤ length script
few_replies step world script rows run =
    omega (
      arith,
      length-map rows (λ (row : Row Whole). reply_text row.1),
      run_length step world (script_items script) rows run,
      ap length (script_items_are script),
      fewer_commands (lines_of script),
      length-append (ended_lines [] script) (last_line (unended [] script)),
      fewer_lines [] script,
      few_last (unended [] script),
    )

-- ---- moments

module _ (step : Stepping Whole) (reads : List ℕ → Option Store) (script : List ℕ) (world : Whole) (old mid : Outside) where
  counting : {T : Type 0} (result : Result T Halt) (Last : Whole → Type 0) (had has : List (List ℕ) → Type 0) → (r : Ran step false reads result world Last (script_items script) had has old.now mid.now old.dev_faults mid.dev_faults)
      → Always (CountedAt reads old.now world (script_items script) r.given.rows (out_of old)) old.now mid.now
  counting result Last had has r = counted_always reads old.now world (script_items script) r.given.first r.given.rest r.given.split r.given.rows (out_of old) old.now mid.now
      (r.moments old.now [] (λ unit left f blank may. may))

  quiet : {T : Type 0} (result : Result T Halt) (Last : Whole → Type 0) (had has : List (List ℕ) → Type 0) → Ran step false reads result world Last (script_items script) had has old.now mid.now old.dev_faults mid.dev_faults → out_of mid ≡ out_of old
  quiet result Last had has r = (Always-last (r.moments old.now [] (λ unit left f blank may. may))).out ∙ append-nil (out_of old)

  -- a command was not answered
  pub counted_halted : {T U : Type 0} (result : Result T Halt) (halt : Halt) (Last : Whole → Type 0) (had has : List (List ℕ) → Type 0) → result ≡ Err halt → HasSinkCause halt old mid
      → Ran step false reads {T = U} (Err halt) world Last (script_items script) had has old.now mid.now old.dev_faults mid.dev_faults → CountedRun step reads script result world old mid
  counted_halted {T} {U} result halt Last had has is cause r =
      subst (λ (v : Result T Halt). CountedRun step reads script v world old mid) (sym is) (record {
        given = r.given;
        out = tt;
        halted = halted_quiet halt old mid r.given.rest (summary_of r.given.rows) (out_of old) (out_of mid) cause (quiet {T = U} (Err halt) Last had has r);
        threw = r.threw;
        failed = r.failed;
        acts = r.acts;
        crash = counting {T = U} (Err halt) Last had has r;
      })

  -- all were, and then the summary was written
  module _ {T : Type 0} (x : T) (Last : Whole → Type 0) (has : List (List ℕ) → Type 0) (first tally : Tally) (r : Ran step false reads {T = T} (Ok x) world Last (script_items script) (Tallies first) has old.now mid.now old.dev_faults mid.dev_faults)
      (its : AtRest reads (last_world world r.given.rows) mid.now) where
    abbrev rows : List (Row Whole)
    rows = r.given.rows

    none_left : script_items script ≡ r.given.first
    none_left = r.given.split ∙ (ap (λ (is : List Item). r.given.first ++ is) r.done.0 ∙ append-nil r.given.first)

    run_all : IsRun step world (script_items script) rows
    run_all = subst (λ (is : List Item). IsRun step world is rows) (sym none_left) r.given.run

    same : out_of mid ≡ out_of old
    same = quiet {T = T} (Ok x) Last (Tallies first) has r

    -- after all of the items, while the summary is written
    counted_last : (text : List ℕ) (now : Moment) → PrintsSome text mid.now now → CountedAt reads old.now world (script_items script) rows (out_of old) now
    counted_last text now some = record {
      shown = some.done;
      out = ap printed some.moment ∙ (output-printed some.done mid.now ∙ ap (λ o. o ++ some.done) same);
      leaves = λ later more. (
        length (script_items script),
        (λ out. refl),
        (λ unit left may.
            let n = length (script_items script) in
            let last = last_world world rows in
            let all = rows ++ more in
            let size = run_length step world (script_items script) rows run_all in
            let here_is : last ≡ world_at world all n = ap (last_world world) (sym (take_at rows more n size)) in
            let fresh : BlankThrough world all n unit → Fresh (worlds_passed [] world rows) unit = λ b. fresh_through world rows more n unit [] size tt b in
            its_at reads (MayLeave unit old.now) (Fresh (worlds_passed [] world rows) unit) (BlankThrough world all n unit) last (world_at world all n) (drop n (script_items script ++ later))
            (world_at world all (n + 1)) unit left here_is fresh
            (its old.now (worlds_passed [] world rows) (r.done.1.untouched old.now [] (λ unit left f blank may. may)) unit left (left_same unit left mid.now now (prints_changes text mid.now now some unit) may))),
      );
    }

    pub counted_put : {U : Type 0} → Tallies first [] → ((texts : List (List ℕ)) → has texts → Tallies tally texts) → length script < 2 ^ 64 → (result : Result U Halt) (new : Outside)
        → ((unit : ℕ) → new.dev_faults unit ≡ mid.dev_faults unit) → IfErr result (λ halt. HasSinkCause halt mid new) → PutsText result (lines_of_tally tally) mid.now new.now → CountedRun step reads script result world old new
    counted_put none tallies size result new counts_same cause puts =
        let counts = tallies (reply_texts rows) (r.done.1.took [] none) (omega (arith, few_replies step world script rows run_all, size)) in
        let put : PutsText result (summary_of rows) mid.now new.now = subst (λ (t : List ℕ). PutsText result t mid.now new.now) (tally_summary rows tally counts) puts in
        record {
          given = r.given;
          out = on_ok_weaker result (λ e. (r.done.0, e ∙ ap (λ o. o ++ summary_of rows) same)) put.whole;
          threw = threw_same rows old.dev_faults mid.dev_faults new.dev_faults counts_same r.threw;
          failed = failed_same rows old.dev_faults mid.dev_faults new.dev_faults counts_same r.failed;
          acts = acts_printing false rows (summary_of rows) old.now mid.now new.now r.acts put.moments;
          halted = halted_writing result mid new r.given.rest (summary_of rows) (out_of old) (out_of new) r.done.0 cause
              (subst (λ (o : List ℕ). OnErr result (WroteSome (summary_of rows) o (out_of new))) same put.failed);
          crash = Always-append (counting {T = T} (Ok x) Last (Tallies first) has r) (Always-map (λ m some. counted_last (summary_of rows) m some) put.moments);
        }
