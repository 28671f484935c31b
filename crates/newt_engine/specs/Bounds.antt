-- How much a command programs and fetches, and that it leaves no bank closed.
use Rattle.std.specs.Prelude.{◌≡◌, ◌*◌, ℕ, Bool, true, false, Result, IfOk}
use Rattle.newt_host.specs.Moments.{image}
use Rattle.newt_host.specs.Outside.{Outside}
use Rattle.newt_pagebook.specs.Book.{IsFresh, format_bytes}
use Rattle.newt_reply.specs.Said.{said}
use Rattle.newt_reply.specs.declared.reply.Reply.{Reply}
use Rattle.newt_spec_store.specs.Cost.{cost}
use Rattle.newt_spec_store.specs.Store.{new_store}
use Rattle.newt_spec_world.specs.World.{World}
use Rattle.newt_spec_world.specs.declared.command.Command.{Command}
use Rattle.newt_spec_world.specs.declared.command.Command.TheVariants as command
use Rattle.newt_spec_world.specs.Answer.{answer}
use Rattle.newt_spec_world.specs.Reply as plain
use Rattle.newt_spec_world.specs.Step.{is_format_of}
use Rattle.newt_laws_answers.specs.Bounds.{most_programmed}
use Rattle.newt_laws_answers.specs.Fetched.{means_entries, pages_meant, pages_shown}
use Rattle.newt_store_change.specs.declared.fault.StoreFault.{StoreFault}
use Rattle.newt_engine_card.specs.Bounds.{FetchesWithin, FormatsOnce, ProgramsAtMost, IsOpenOrSame}
use Rattle.newt_store_change.specs.Faults.{GoesOn}

-- a device is made one with a store
abbrev pub is_format : Command → Bool
is_format (command.Format _ _ _) = true
is_format _ = false

-- and is programmed by the pages of a store without soups
abbrev pub most_formatted : Command → ℕ
most_formatted (command.Format _ name sig) = format_bytes (cost (new_store name sig))
most_formatted _ = 0

-- A format that is done leaves a fresh unit.
abbrev pub FormatsFresh : {E : Type 0} → Command → Result Reply E → Outside → Type 0
FormatsFresh command result after = (u : ℕ) → is_format_of command u ≡ true →
    IfOk result (λ it. said it ≡ plain.Reply.done → IsFresh (image u after.now))

-- What a command costs: but for a format, each unit is programmed by no more than the command may
-- where there is room for that; a format wears once; where it is one of entries, no more is fetched
-- there than is said; and where the run goes on, each bank is not closed or is as it was.
pub record CommandCosts {T : Type 0} (w : World) (c : Command) (fetches : ℕ → ℕ) (result : Result T StoreFault) (old new : Outside) : Type 0 where
  pub bound : is_format c ≡ false → (u : ℕ) → ProgramsAtMost (most_programmed w c u) u old new
  pub format : is_format c ≡ true → (u : ℕ) → FormatsOnce (most_formatted c) 10 u old new
  pub fetched : means_entries c ≡ true → FetchesWithin (most_programmed w c) fetches old new
  pub open_after : GoesOn result → (u : ℕ) → IsOpenOrSame u old.now new.now

-- 1024 bytes for each page of the entries that a command names or appends, before it and after it
abbrev pub most_settled : World → Command → ℕ → ℕ
most_settled w c u = 1024 * pages_meant w c u

-- 512 bytes for each page of the entry that a command answers
abbrev pub most_stepped : World → Command → ℕ → ℕ
most_stepped w c u = 512 * pages_shown (answer w c).1 u
