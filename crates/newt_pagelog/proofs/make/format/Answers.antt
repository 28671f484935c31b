use Rattle.std.proofs.Common.{◌≡◌, ℕ, ◌*◌, ◌-◌, ◌<◌, ◌≤◌, List, [], length, replicate, Some, drop, refl, sym, ◌∙◌, ap, subst, arith, ◌+◌}
use Rattle.newt_host.proofs.Moments.{Leaves-start, Leaves-weaken}
use Rattle.newt_host.proofs.Outside.{NoFault-refl, Spends-refl, Spends-widen, Touches-no_fault, Touches-refl, Wears-refl, Wears-widen}
use Rattle.newt_spec_image.specs.Records.{bank_blocks, bank_size, bank_start}
use Rattle.newt_spec_image.specs.Pages.{Change, cap, change_in, written_change}
use Rattle.newt_host.specs.Moments.{Moment}
use Rattle.newt_host.specs.Outside.{Outside, Spends}
use Rattle.newt_journal.specs.Pieces.{IsTornIn}
use Rattle.newt_pagebook.specs.Batch.{IsBatch}
use Rattle.newt_pagebook.specs.Book.{IsLeftFrom, format_bytes}
use Rattle.newt_pagelog.proofs.Committing.{open-for}
use Rattle.newt_pagelog.proofs.Failing.{memory-stops, no-ok, not-err}
use Rattle.newt_pagelog.proofs.Spelling.{written-says, written-length}
use Rattle.newt_pagelog.proofs.Changing.{cap-few, cap-fits}
use Rattle.newt_pagelog.proofs.make.format.Goals as goal

pub returns-in_err-payload : goal.returns-in_err-payload
returns-in_err-payload g c =
    let a = g.H.Host.outside c.args.host.now in
    let u = c.args.unit in
    let r = c.from_residual.result in
    let failed = c.from_residual.ensures.0 in
    record {
      formatted = λ tells. no-ok r _ failed;
      unchanged = λ bad. refl;
      any_moment = λ tells. Leaves-start (λ left may. (left, may, refl));
      costs = Spends-widen 0 0 (format_bytes (length c.args.batch.now.puts)) 0 (omega arith) (omega arith) (Spends-refl u a);
      wears = Wears-widen 0 0 (bank_blocks (a.blocks u) + 3) 9 (omega arith) (omega arith) (Wears-refl u a);
      alone = Touches-refl u a;
      cause = memory-stops r u c.from_residual.ensures.1 (NoFault-refl a);
      no_fault = no-ok r _ failed;
    }

pub format-requires-clause-fits : goal.format-requires-clause-fits
format-requires-clause-fits g c =
    let batch = c.args.batch.now in
    let blocks = (g.H.Host.outside c.args.host.now).blocks c.args.unit in
    let few : length batch.puts < 65536 = cap-few blocks (length batch.puts) c.requires.not_too_many c.requires.few in
    let none : length batch.deletes ≡ 0 = ap (λ (l : List ℕ). length l) c.requires.no_deletes in
    omega (
      arith,
      ap (λ (l : List ℕ). length l) c.deref.ensures.value,
      ap (λ (l : List ℕ). length l) c.in_ok-payload.ensures.says,
      written-length batch c.written.ensures.sound few (omega (arith, none)),
      none,
      cap-fits blocks (length batch.puts) c.requires.enough c.requires.few,
    )

-- a payload that says the batch is programmed within the bound of a format
spent : (unit blocks : ℕ) (batch : Change) (payload : List ℕ) (a b : Outside) → IsBatch batch → blocks ≤ 4099 → length batch.puts ≤ cap blocks → batch.deletes ≡ [] → payload ≡ written_change batch
    → Spends unit (24 + length payload) 0 a b → Spends unit (format_bytes (length batch.puts)) 0 a b
spent unit blocks batch payload a b sound many fits no_deletes is costs =
    let few : length batch.puts < 65536 = cap-few blocks (length batch.puts) many fits in
    let none : length batch.deletes ≡ 0 = ap (λ (l : List ℕ). length l) no_deletes in
    let size : length payload ≡ 4 + 516 * length batch.puts + 4 * length batch.deletes = ap (λ (l : List ℕ). length l) is ∙ written-length batch sound few (omega (arith, none)) in
    Spends-widen (24 + length payload) 0 (format_bytes (length batch.puts)) 0 (omega (arith, size, none)) (omega arith) costs

-- what stands after the first bank is what a crash might have left
left_as : (u n : ℕ) (now : Moment) (left : List ℕ) → IsTornIn u 0 n now left → IsLeftFrom u n now left
left_as u n now left torn =
    let none : 0 + n ≡ n = omega arith in
    (torn.0, torn.1, subst (λ (k : ℕ). drop k left ≡ drop k torn.0) none torn.2.after)

pub returns-in-Ok : goal.returns-in-Ok
returns-in-Ok g c =
    let o = g.H.Host.outside in
    let batch = c.args.batch.now in
    let blocks = (o c.args.host.now).blocks c.args.unit in
    let few : length batch.puts < 65536 = cap-few blocks (length batch.puts) c.requires.not_too_many c.requires.few in
    let none : length batch.deletes ≡ 0 = ap (λ (l : List ℕ). length l) c.requires.no_deletes in
    let says : change_in (written_change batch) ≡ Some batch = written-says batch c.written.ensures.sound few (omega (arith, none)) in
    let writes = c.in-Ok.ensures.writes in
    record {
      formatted = λ tells.
          let alike = (c.in-Ok.ensures.fresh tells).alike in
          let blank = (c.in-Ok.ensures.fresh tells).blank in (
            record {
              votes = (alike.first, alike.second, alike.third);
              one = (c.deref.result.now, (c.in-Ok.ensures.fresh tells).one, ap change_in (c.deref.ensures.value ∙ c.in_ok-payload.ensures.says) ∙ says);
              blank = open-for (c.in-Ok.ensures.fresh tells).new (bank_size blocks - 21 - length c.deref.result.now) blank;
            },
            (c.in-Ok.ensures.fresh tells).durable,
          );
      unchanged = λ bad. absurd (not-err bad);
      any_moment = λ tells. Leaves-weaken (left_as c.args.unit (bank_start ((g.H.Host.outside c.args.host.now).blocks c.args.unit) 1) (g.H.Host.outside c.args.host.now).now) (writes.any_moment tells);
      costs = spent c.args.unit blocks batch c.deref.result.now (o c.args.host.now) (o c.format.new.host) c.written.ensures.sound c.requires.not_too_many c.requires.few c.requires.no_deletes
          (c.deref.ensures.value ∙ c.in_ok-payload.ensures.says) writes.costs;
      wears = writes.wears;
      alone = writes.alone;
      cause = tt;
      no_fault = Touches-no_fault writes.alone writes.faults.no_fault;
    }

pub returns : goal.returns
returns g c =
    let o = g.H.Host.outside in
    let writes = c.in-Err.ensures.writes in
    record {
      formatted = λ tells. tt;
      unchanged = λ bad. absurd (cc);
      any_moment = λ tells. Leaves-weaken (left_as c.args.unit (bank_start ((g.H.Host.outside c.args.host.now).blocks c.args.unit) 1) (g.H.Host.outside c.args.host.now).now) (writes.any_moment tells);
      costs = spent c.args.unit ((o c.args.host.now).blocks c.args.unit) c.args.batch.now c.deref.result.now (o c.args.host.now) (o c.format.new.host) c.written.ensures.sound c.requires.not_too_many c.requires.few
          c.requires.no_deletes (c.deref.ensures.value ∙ c.in_ok-payload.ensures.says) writes.costs;
      wears = writes.wears;
      alone = writes.alone;
      cause = (refl, writes.faults.cause);
      no_fault = tt;
    }
