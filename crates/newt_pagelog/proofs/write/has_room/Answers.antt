use Rattle.std.proofs.Common.{ℕ, ◌+◌, ◌*◌, List, length, ap, arith}
use Rattle.std.specs.List.{filter}
use Rattle.std.proofs.lemmas.Bool.{le-leb}
use Rattle.newt_pagelog.specs.Kept.{is_kept}
use Rattle.newt_pagelog.proofs.Changing.{few_kept, few_puts, fewer}
use Rattle.newt_pagelog.proofs.write.has_room.Goals as goal

pub overflow_mul-len-2 : goal.overflow_mul-len-2
overflow_mul-len-2 g c =
    omega (
      arith,
      c.kept_of-deletes.ensures,
      ap (λ (l : List ℕ). length (filter (is_kept c.args.pages.now.entries) l)) c.deletes.ensures.deletes,
      few_kept c.args.pages.now.entries c.args.batch.now c.puts.ensures.sound,
      c.requires,
    )

pub overflow_add-len-2 : goal.overflow_add-len-2
overflow_add-len-2 g c =
    omega (
      arith,
      few_puts c.args.batch.now c.puts.ensures.sound,
      ap (λ (l : List (ℕ × List ℕ)). length l) c.puts.ensures.puts,
      c.kept_of-deletes.ensures,
      ap (λ (l : List ℕ). length (filter (is_kept c.args.pages.now.entries) l)) c.deletes.ensures.deletes,
      few_kept c.args.pages.now.entries c.args.batch.now c.puts.ensures.sound,
      c.requires,
    )

pub returns-clause-open : goal.returns-clause-open
returns-clause-open g c = λ told outside stands tells free.
    let room = (c.room.ensures.by_image told outside stands tells).opened free.is_open in
    le-leb (4 + 516 * length c.puts.result.now + 4 * c.kept_of-deletes.result) c.room.result (omega (
      arith,
      room,
      free.room,
      c.kept_of-deletes.ensures,
      ap (λ (l : List (ℕ × List ℕ)). length l) c.puts.ensures.puts,
      ap (λ (l : List ℕ). length (filter (is_kept c.args.pages.now.entries) l)) c.deletes.ensures.deletes,
      fewer (is_kept c.args.pages.now.entries) c.args.batch.now.deletes,
    ))
